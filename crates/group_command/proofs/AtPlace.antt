-- What one receiver does, as what all of them have done.
use Rattle.std.proofs.Common.{◌≡◌, ℕ, zero, suc, ◌<◌, true, List, [], ◌∷◌, length, Option, Some, None, Result, Ok, Err, refl, sym, ap, subst, arith}
use Rattle.std.specs.Prelude.{IfSome, is_some, slice_set}
use Rattle.h263_types.specs.declared.params.Params.{Params}
use Rattle.h263_outside.specs.declared.desk.Role.{Role}
use Rattle.call_report.specs.declared.status.Status.{Status}
use Rattle.call_model.specs.IdealCall.{Event}
use Rattle.call_model.specs.Refusals.{Refusal}
use Rattle.group_sender.specs.Holding.{Groups}
use Rattle.group_call.specs.declared.broadcast.Broadcast.{Broadcast}
use Rattle.group_call.specs.declared.viewer.Viewer.{Viewer}
use Rattle.group_call.specs.Holding.{HoldsBroadcast}
use Rattle.group_call.specs.Refused.{view_refusal}
use Rattle.group_call.specs.Viewing.{ViewerRun}
use Rattle.group_command.specs.declared.event.OwnLine.{OwnLine}
use Rattle.group_command.specs.Group.{event_of, run_after, texts_after, view_after, view_in}
use Rattle.group_command.specs.Standing.{AllWatch, Watches, and_then}
use Rattle.group_command.specs.Turning.{OwnEventGives, OwnGives}
use Rattle.group_command.proofs.Doing.{own_codes}
use Rattle.group_command.proofs.Telling.{InOrder}
use Rattle.group_command.proofs.Watching.{watch_set}

event_so : (r : Result Unit Status) (line : ℕ) (e : Event) (refusal : Option Refusal) (P Q : Type 0) (texts : Role
    → List ℕ) (old new : Role → Option (List ℕ)) → (P → Q)
    → OwnEventGives r line e refusal P texts old new → OwnEventGives r line e refusal Q texts old new
event_so (Ok u) line e refusal P Q texts old new so gives = (gives.0, so gives.1, gives.2)
event_so (Err status) line e refusal P Q texts old new so gives = gives

-- which of them are there

pub second_there : (second third : Option Viewer) → InOrder second third
    → 1 < suc (length (and_then second (and_then third []))) → is_some second ≡ true
second_there (Some b) third order few = refl
second_there None (Some c) order few = order refl
second_there None None order few = absurd (omega (arith, few))

pub third_there : (second third : Option Viewer) → 2 < suc (length (and_then second (and_then third [])))
    → is_some third ≡ true
third_there second (Some c) few = refl
third_there None None few = absurd (omega (arith, few))
third_there (Some b) None few = absurd (omega (arith, few))

pub second_count : (second other third : Option Viewer) → is_some second ≡ true → is_some other ≡ true
    → suc (length (and_then other (and_then third []))) ≡ suc (length (and_then second (and_then third [])))
second_count None other third is too = absurd (cc is)
second_count (Some b) None third is too = absurd (cc too)
second_count (Some b) (Some d) third is too = refl

pub third_count : (second third other : Option Viewer) → is_some third ≡ true → is_some other ≡ true
    → suc (length (and_then second (and_then other []))) ≡ suc (length (and_then second (and_then third [])))
third_count second None other is too = absurd (cc is)
third_count second (Some c) None is too = absurd (cc too)
third_count None (Some c) (Some d) is too = refl
third_count (Some b) (Some c) (Some d) is too = refl

module _ (r : Result Unit Status) (said : OwnLine) (p : Params) (run : Groups) (views : List ViewerRun)
    (cast : Broadcast) (old new : Role → Option (List ℕ)) where
  abbrev later : ℕ → Groups
  later k = run_after p said.place run (view_in views k) said.event

  gives_at : (k : ℕ) → said.place ≡ k → (viewers : List Viewer) (viewer : Viewer) → AllWatch p run viewers views
      → OwnGives r said p run (view_in views k) (λ run view. Watches p run viewer view) cast old new
      → OwnGives r said p run (view_in views said.place) (λ run view. AllWatch p run (slice_set viewers k viewer)
      (slice_set views said.place view)) cast old new
  gives_at k is viewers viewer w gives =
      subst (λ (m : ℕ). OwnGives r said p run (view_in views m) (λ run view. AllWatch p run (slice_set viewers k viewer)
      (slice_set views m view)) cast old new) (sym is)
      (event_so r said.line (event_of said.event) (view_refusal p run (view_in views k) (event_of said.event)) _ _
      (texts_after p said.place run (view_in views k) said.event) old new
      (λ (done : HoldsBroadcast p cast (later k)
      × Watches p (later k) viewer (view_after p said.place run (view_in views k) said.event)). (
        done.0,
        watch_set p run (later k) k viewer (view_after p said.place run (view_in views k) said.event) viewers
            views (ap (λ l. length l) (own_codes p said.place run (view_in views k) said.event)) done.1 w,
      ))
      gives)

  module _ (a : Viewer) where
    pub first_gives : (viewer : Viewer) (rest : List Viewer) → said.place ≡ 0 → AllWatch p run (a ∷ rest) views
        → OwnGives r said p run (view_in views 0) (λ run view. Watches p run viewer view) cast old new
        → OwnGives r said p run (view_in views said.place) (λ run view. AllWatch p run (viewer ∷ rest)
        (slice_set views said.place view)) cast old new
    first_gives viewer rest is w gives = gives_at 0 is (a ∷ rest) viewer w gives

    pub second_gives : (second other third : Option Viewer) → said.place ≡ 1 → is_some second ≡ true
        → is_some other ≡ true → AllWatch p run (a ∷ and_then second (and_then third [])) views
        → OwnGives r said p run (view_in views 1) (λ run view. IfSome other (λ v. Watches p run v view)) cast old new
        → OwnGives r said p run (view_in views said.place)
        (λ run view. AllWatch p run (a ∷ and_then other (and_then third [])) (slice_set views said.place view)) cast
        old new
    second_gives None other third is there too w gives = absurd (cc there)
    second_gives (Some b) None third is there too w gives = absurd (cc too)
    second_gives (Some b) (Some d) third is there too w gives = gives_at 1 is (a ∷ b ∷ and_then third []) d w gives

    pub third_gives : (second third other : Option Viewer) → said.place ≡ 2 → is_some second ≡ true
        → is_some third ≡ true → is_some other ≡ true → AllWatch p run (a ∷ and_then second (and_then third [])) views
        → OwnGives r said p run (view_in views 2) (λ run view. IfSome other (λ v. Watches p run v view)) cast old new
        → OwnGives r said p run (view_in views said.place)
        (λ run view. AllWatch p run (a ∷ and_then second (and_then other [])) (slice_set views said.place view))
        cast old new
    third_gives None third other is first there too w gives = absurd (cc first)
    third_gives (Some b) None other is first there too w gives = absurd (cc there)
    third_gives (Some b) (Some c) None is first there too w gives = absurd (cc too)
    third_gives (Some b) (Some c) (Some d) is first there too w gives = gives_at 2 is (a ∷ b ∷ c ∷ []) d w gives
