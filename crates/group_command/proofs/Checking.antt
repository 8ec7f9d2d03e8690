-- The refusal of a capture, receiver by receiver.
use Rattle.std.proofs.Common.{◌≡◌, List, [], ◌∷◌, Option, None, Result, Err, IsErrAnd, sym, subst}
use Rattle.h263_types.specs.declared.params.Params.{Params}
use Rattle.call_model.specs.IdealCall.{Send}
use Rattle.call_model.specs.Refusals.{Refusal}
use Rattle.one_way.specs.declared.refusals.EventRefusal.{EventRefusal as Told}
use Rattle.one_way.specs.Refused.{IsAllowed}
use Rattle.group_sender.specs.Holding.{Groups}
use Rattle.group_call.specs.declared.viewer.Viewer.{Viewer}
use Rattle.group_call.specs.Holding.{HoldsViewer}
use Rattle.group_call.specs.Refused.{view_refusal}
use Rattle.group_call.specs.Viewing.{ViewerRun}
use Rattle.group_command.specs.Group.{first_behind, view_in}
use Rattle.group_command.specs.Standing.{AllWatch, and_then}
use Rattle.group_command.proofs.Telling.{err_allowed, or_first, or_found, parted}

module _ (p : Params) (run : Groups) (first : Viewer) (second third : Option Viewer) where
  abbrev Watch : List ViewerRun → Type 0
  Watch views = AllWatch p run (first ∷ and_then second (and_then third [])) views

  abbrev behind : List ViewerRun → Option Refusal
  behind views = first_behind p run views

  -- the second one is
  pub later_found : (views : List ViewerRun) → Watch views → (r : Result Unit Told) (told : Told)
      → IsErrAnd r (λ z. z ≡ told)
      → (HoldsViewer p first (view_in views 0) → view_refusal p run (view_in views 0) Send ≡ None)
      → ((front : List ViewerRun) → AllWatch p run (and_then second []) front
      → IsAllowed (Err told) Send (behind front))
      → IsAllowed r Send (behind views)
  later_found [] w r told is free found = absurd w
  later_found (view ∷ views) w r told is free found =
      let e = parted p run second (and_then third []) views w.1 in
      err_allowed p run r told (behind (view ∷ views)) is
      (or_first p run (Err told) (view_refusal p run view Send) (behind views) (free w.0.holds)
      (subst (λ (o : Option Refusal). IsAllowed (Err told) Send o) (sym e.behind)
      (or_found p run told (behind e.front) (behind e.back) (found e.front e.of_front))))

  -- the third one is, or none is
  pub last_so : (views : List ViewerRun) → Watch views → (r : Result Unit Told)
      → (HoldsViewer p first (view_in views 0) → view_refusal p run (view_in views 0) Send ≡ None)
      → ((front : List ViewerRun) → AllWatch p run (and_then second []) front → behind front ≡ None)
      → ((back : List ViewerRun) → AllWatch p run (and_then third []) back → IsAllowed r Send (behind back))
      → IsAllowed r Send (behind views)
  last_so [] w r free near last = absurd w
  last_so (view ∷ views) w r free near last =
      let e = parted p run second (and_then third []) views w.1 in
      or_first p run r (view_refusal p run view Send) (behind views) (free w.0.holds)
      (subst (λ (o : Option Refusal). IsAllowed r Send o) (sym e.behind)
      (or_first p run r (behind e.front) (behind e.back) (near e.front e.of_front) (last e.back e.of_back)))
