use Rattle.std.proofs.Common.{◌≡◌, ℕ, ◌+◌, Bool, true, false, List, length, Option, None, refl, sym, ap, ◌∙◌}
use Rattle.std.specs.Prelude.{map, nat_le, slice_get, if◌then◌else◌}
use Rattle.std.specs.Option.{option_map}
use Rattle.std.proofs.lemmas.List.{length-map}
use Rattle.std.proofs.lemmas.Option.{slice_get-map}
use Rattle.back_messages.specs.declared.writing.Said.{Said}
use Rattle.call_model.specs.JoinedRun.{SaidMessage}
use Rattle.one_way.specs.Network.{told_in}
use Rattle.group_call.specs.Viewing.{told_at}
use Rattle.group_call.proofs.viewer.Viewer.message.Goals as goal

-- what the ring has is what was told
told_of : (pairs : List (ℕ × Said)) (k : ℕ) (b : Bool)
    → option_map told_in (if b then slice_get pairs k else None) ≡ (if b then slice_get (map told_in pairs) k else None)
told_of pairs k true = sym (slice_get-map told_in pairs k)
told_of pairs k false = refl

pub returns : goal.returns
returns c = λ p view h.
    let pairs = h.messages.pairs in
    let k = c.args.k in
    ap (λ (o : Option (ℕ × Said)). option_map told_in o) (c.get.ensures pairs h.messages.holds)
    ∙ told_of pairs k (nat_le (length pairs) (k + 1024))
    ∙ ap (λ (n : ℕ). if nat_le n (k + 1024) then slice_get (map told_in pairs) k else None)
    (sym (length-map pairs told_in))
    ∙ ap (λ (l : List SaidMessage). told_at l k) h.messages.same
