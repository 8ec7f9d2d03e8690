use Rattle.std.proofs.Common.{◌≡◌, ℕ, List, ◌∷◌, [], Option, Some, None, ap, sym, ◌∙◌, slice_index_or}
use Rattle.std.specs.Option.{is_some}
use Rattle.duplex_call.specs.declared.queue.Carried.{Carried}
use Rattle.duplex_call.specs.Waiting.{last_four, in_four_places}
use Rattle.duplex_call.proofs.Last.{free_0, free_1, free_2, free_3, full, last_more}
use Rattle.duplex_call.proofs.queue.Carrier.say.Goals.{then-is_none, else-is_none+then-is_none-2, else-is_none+else-is_none-2+then-is_none-3, else-is_none+else-is_none-2+else-is_none-3+then-is_none-4, else-is_none+else-is_none-2+else-is_none-3+else-is_none-4}
use Rattle.duplex_call.proofs.queue.Carrier.say.Goals as goal

pub returns : goal.returns
returns c before waits =
    let m = last_four before in
    let x = c.args.said in
    let more = sym (last_more before x) in
    let same : (f : List (Option Carried) → List (Option Carried)) → f c.args.self.now.waiting
    ≡ f (in_four_places m) = λ f. ap f waits in
    let at : (k : ℕ) → is_some (slice_index_or (in_four_places m) k None)
    ≡ is_some (slice_index_or c.args.self.now.waiting k None) =
    λ k. ap (λ (ws : List (Option Carried)). is_some (slice_index_or ws k None)) (sym waits) in
    elim c.if-is_none.branch [
      | then-is_none w ↦ w.self-is ∙ free_0 m x (at 0 ∙ w.if-is_none.ensures) ∙ more
      | else-is_none+then-is_none-2 w ↦
          w.self-is ∙ same (λ ws. slice_index_or ws 0 None ∷ Some x ∷ None ∷ None ∷ [])
          ∙ free_1 m x (at 0 ∙ w.if-is_none.ensures) (at 1 ∙ w.if-is_none-2.ensures) ∙ more
      | else-is_none+else-is_none-2+then-is_none-3 w ↦
          w.self-is ∙ same (λ ws. slice_index_or ws 0 None ∷ slice_index_or ws 1 None ∷ Some x ∷ None ∷ [])
          ∙ free_2 m x (at 1 ∙ w.if-is_none-2.ensures) (at 2 ∙ w.if-is_none-3.ensures) ∙ more
      | else-is_none+else-is_none-2+else-is_none-3+then-is_none-4 w ↦
          w.self-is ∙ same (λ ws. slice_index_or ws 0 None ∷ slice_index_or ws 1 None ∷ slice_index_or ws 2 None ∷ Some
          x ∷ [])
          ∙ free_3 m x (at 2 ∙ w.if-is_none-3.ensures) (at 3 ∙ w.if-is_none-4.ensures) ∙ more
      | else-is_none+else-is_none-2+else-is_none-3+else-is_none-4 w ↦
          w.self-is ∙ same (λ ws. slice_index_or ws 1 None ∷ slice_index_or ws 2 None ∷ slice_index_or ws 3 None ∷ Some
          x ∷ [])
          ∙ full m x (at 3 ∙ w.if-is_none-4.ensures) ∙ more
    ]
