-- The counts of all receivers, and the first one that is too far behind.
use Rattle.std.proofs.Common.{◌≡◌, ℕ, true, List, [], ◌∷◌, Option, Some, None, Result, Ok, Err, IsErrAnd, refl, sym, ap, subst, ◌∙◌}
use Rattle.std.specs.Prelude.{IfSome, is_some}
use Rattle.h263_types.specs.declared.params.Params.{Params}
use Rattle.h263_outside.specs.declared.desk.Role.{Role}
use Rattle.h263_outside.specs.declared.desk.Role.TheVariants.{Report}
use Rattle.call_model.specs.IdealCall.{Send}
use Rattle.call_model.specs.Refusals.{Refusal}
use Rattle.desk_program.specs.Ends.{Gains, GainsFronts}
use Rattle.desk_program.specs.Laws.{TurnLaws}
use Rattle.desk_program.specs.Texts.{no_texts, on, then_also}
use Rattle.one_way.specs.declared.refusals.EventRefusal.{EventRefusal as Told}
use Rattle.one_way.specs.Refused.{IsAllowed}
use Rattle.group_sender.specs.Holding.{Groups}
use Rattle.group_call.specs.declared.viewer.Viewer.{Viewer}
use Rattle.group_call.specs.Refused.{view_refusal}
use Rattle.group_call.specs.Viewing.{ViewerRun}
use Rattle.group_command.specs.Group.{counts_from, counts_of_view, first_behind, or_refused, view_in}
use Rattle.group_command.specs.Standing.{AllWatch, Watches, and_then}
use Rattle.group_command.specs.Turning.{counts_if}

-- a third one comes after a second one
abbrev pub InOrder : Option Viewer → Option Viewer → Type 0
InOrder second third = is_some third ≡ true → is_some second ≡ true

module _ (p : Params) (run : Groups) where
  pub first_watched : (a : Viewer) (rest : List Viewer) (views : List ViewerRun) → AllWatch p run (a ∷ rest) views
      → Watches p run a (view_in views 0)
  first_watched a rest [] w = absurd w
  first_watched a rest (view ∷ views) w = w.0

  pub second_watched : (a : Viewer) (second third : Option Viewer) (views : List ViewerRun)
      → AllWatch p run (a ∷ and_then second (and_then third [])) views
      → IfSome second (λ v. Watches p run v (view_in views 1))
  second_watched a None third views w = tt
  second_watched a (Some b) third [] w = absurd w
  second_watched a (Some b) third (view ∷ views) w = first_watched b (and_then third []) views w.1

  pub third_watched : (a : Viewer) (second third : Option Viewer) (views : List ViewerRun) → InOrder second third
      → AllWatch p run (a ∷ and_then second (and_then third [])) views
      → IfSome third (λ v. Watches p run v (view_in views 2))
  third_watched a second None views order w = tt
  third_watched a None (Some c) views order w = absurd (cc (order refl))
  third_watched a (Some b) (Some c) [] order w = absurd w
  third_watched a (Some b) (Some c) (view ∷ []) order w = absurd w.1
  third_watched a (Some b) (Some c) (view ∷ next ∷ views) order w = first_watched c [] views w.1.1

  module _ (turns : TurnLaws) where
    abbrev line_at : List ViewerRun → ℕ → Role → List ℕ
    line_at views k = on Report (counts_of_view p run k (view_in views k))

    -- the texts of all are those of one after another
    all_texts : (a : Viewer) (second third : Option Viewer) (views : List ViewerRun) (order : InOrder second third)
        (w : AllWatch p run (a ∷ and_then second (and_then third [])) views) (old new : Role → Option (List ℕ))
        → Gains (then_also (line_at views 0) (then_also (counts_if second p run 1 (view_in views 1))
        (then_also (counts_if third p run 2 (view_in views 2)) no_texts))) old new
        → Gains (counts_from p run 0 views) old new
    all_texts a second third [] order w old new gains = absurd w
    all_texts a None None (x ∷ []) order w old new gains = gains
    all_texts a None None (x ∷ y ∷ views) order w old new gains = absurd w.1
    all_texts a None (Some c) (x ∷ views) order w old new gains = absurd (cc (order refl))
    all_texts a (Some b) third (x ∷ []) order w old new gains = absurd w.1
    all_texts a (Some b) None (x ∷ y ∷ []) order w old new gains = gains
    all_texts a (Some b) None (x ∷ y ∷ z ∷ views) order w old new gains = absurd w.1.1
    all_texts a (Some b) (Some c) (x ∷ y ∷ []) order w old new gains = absurd w.1.1
    all_texts a (Some b) (Some c) (x ∷ y ∷ z ∷ []) order w old new gains = gains
    all_texts a (Some b) (Some c) (x ∷ y ∷ z ∷ t ∷ views) order w old new gains = absurd w.1.1.1

    all_fronts : (a : Viewer) (second third : Option Viewer) (views : List ViewerRun) (order : InOrder second third)
        (w : AllWatch p run (a ∷ and_then second (and_then third [])) views) (old new : Role → Option (List ℕ))
        → GainsFronts (then_also (line_at views 0) (then_also (counts_if second p run 1 (view_in views 1))
        (then_also (counts_if third p run 2 (view_in views 2)) no_texts))) old new
        → GainsFronts (counts_from p run 0 views) old new
    all_fronts a second third [] order w old new gains = absurd w
    all_fronts a None None (x ∷ []) order w old new gains = gains
    all_fronts a None None (x ∷ y ∷ views) order w old new gains = absurd w.1
    all_fronts a None (Some c) (x ∷ views) order w old new gains = absurd (cc (order refl))
    all_fronts a (Some b) third (x ∷ []) order w old new gains = absurd w.1
    all_fronts a (Some b) None (x ∷ y ∷ []) order w old new gains = gains
    all_fronts a (Some b) None (x ∷ y ∷ z ∷ views) order w old new gains = absurd w.1.1
    all_fronts a (Some b) (Some c) (x ∷ y ∷ []) order w old new gains = absurd w.1.1
    all_fronts a (Some b) (Some c) (x ∷ y ∷ z ∷ []) order w old new gains = gains
    all_fronts a (Some b) (Some c) (x ∷ y ∷ z ∷ t ∷ views) order w old new gains = absurd w.1.1.1

    module _ (a : Viewer) (second third : Option Viewer) (views : List ViewerRun) (order : InOrder second third)
        (w : AllWatch p run (a ∷ and_then second (and_then third [])) views) (old m1 m2 new : Role
        → Option (List ℕ)) where
      abbrev two : Role → List ℕ
      two = counts_if second p run 1 (view_in views 1)

      abbrev three : Role → List ℕ
      three = counts_if third p run 2 (view_in views 2)

      pub one_cut : GainsFronts (line_at views 0) old m1 → GainsFronts (counts_from p run 0 views) old m1
      one_cut fronts = all_fronts a second third views order w old m1 (turns.front_of_first (line_at views 0)
          (then_also two (then_also three no_texts)) old m1 fronts)

      pub two_cut : Gains (line_at views 0) old m1 → GainsFronts two m1 m2
          → GainsFronts (counts_from p run 0 views) old m2
      two_cut first fronts =
          all_fronts a second third views order w old m2
          (turns.front_of_second (line_at views 0) (then_also two (then_also three no_texts)) old m1 m2 first
          (turns.front_of_first two (then_also three no_texts) m1 m2 fronts))

      pub three_cut : Gains (line_at views 0) old m1 → Gains two m1 m2 → GainsFronts three m2 new
          → GainsFronts (counts_from p run 0 views) old new
      three_cut first next fronts =
          all_fronts a second third views order w old new
          (turns.front_of_second (line_at views 0) (then_also two (then_also three no_texts)) old m1 new first
          (turns.front_of_second two (then_also three no_texts) m1 m2 new next
          (turns.front_of_first three no_texts m2 new fronts)))

      pub all_told : Gains (line_at views 0) old m1 → Gains two m1 m2 → Gains three m2 new
          → Gains (counts_from p run 0 views) old new
      all_told first next last =
          all_texts a second third views order w old new
          (turns.both_texts (line_at views 0) (then_also two (then_also three no_texts)) old m1 new first
          (turns.both_texts two (then_also three no_texts) m1 m2 new next
          (turns.both_texts three no_texts m2 new new last (turns.no_text new new refl))))

  -- ---- who is behind

  pub err_allowed : (r : Result Unit Told) (told : Told) (refusal : Option Refusal) → IsErrAnd r (λ z. z ≡ told)
      → IsAllowed (Err told) Send refusal → IsAllowed r Send refusal
  err_allowed (Ok u) told refusal is allowed = absurd is
  err_allowed (Err z) told refusal is allowed = (allowed.0, allowed.1, is ∙ allowed.2)

  pub or_first : (r : Result Unit Told) (a b : Option Refusal) → a ≡ None → IsAllowed r Send b
      → IsAllowed r Send (or_refused a b)
  or_first r a b none allowed = subst (λ (o : Option Refusal). IsAllowed r Send (or_refused o b)) (sym none) allowed

  pub or_found : (told : Told) (a b : Option Refusal) → IsAllowed (Err told) Send a
      → IsAllowed (Err told) Send (or_refused a b)
  or_found told None b allowed = absurd (cc allowed.1)
  or_found told (Some r) b allowed = allowed

  -- the receivers of a list after one that may be there
  pub record Parted (viewer : Option Viewer) (viewers : List Viewer) (views : List ViewerRun) : Type 0 where
    pub front : List ViewerRun
    pub back : List ViewerRun
    pub of_front : AllWatch p run (and_then viewer []) front
    pub of_back : AllWatch p run viewers back
    pub behind : first_behind p run views ≡ or_refused (first_behind p run front) (first_behind p run back)

  or_none : (o : Option Refusal) → or_refused o None ≡ o
  or_none None = refl
  or_none (Some r) = refl

  pub parted : (viewer : Option Viewer) (viewers : List Viewer) (views : List ViewerRun)
      → AllWatch p run (and_then viewer viewers) views → Parted viewer viewers views
  parted None viewers views w = record { front = []; back = views; of_front = tt; of_back = w; behind = refl }
  parted (Some v) viewers [] w = absurd w
  parted (Some v) viewers (view ∷ views) w = record {
    front = view ∷ [];
    back = views;
    of_front = (w.0, tt);
    of_back = w.1;
    behind = ap (λ (o : Option Refusal). or_refused o (first_behind p run views))
        (sym (or_none (view_refusal p run view Send)));
  }
