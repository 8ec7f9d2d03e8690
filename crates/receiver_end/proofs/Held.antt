-- A picture of which something is missing isn't in its slot.
use Rattle.std.proofs.Common.{◌≡◌, ℕ, zero, suc, ◌+◌, ◌%◌, ◌<◌, ◌≤◌, Bool, true, false, not, eqb, List, Option, refl, ap, sym, ◌∙◌, subst, arith}
use Rattle.std.specs.Option.{option_map_or}
use Rattle.std.proofs.Math.Nat.{mod-lt}
use Rattle.std.proofs.lemmas.Bool.{and_parts, false_from_ne_true, eqb-true, eqb-false}
use Rattle.h263_types.specs.Sizes.{mbs_of}
use Rattle.h263_types.specs.Blocks.{IsHeadOf}
use Rattle.picture_store.specs.Pictures.{slot_number}
use Rattle.packet_collector.specs.declared.piece.Piece.{Piece}
use Rattle.packet_collector.specs.Taken.{none_in_head}
use Rattle.packet_collector.specs.Collected.{IsInRow, has_in}
use Rattle.call_model.specs.Numbers.{all_below}
use Rattle.call_model.specs.Receiving.{ReceiverEntry, has_taken, is_complete}
use Rattle.call_model.specs.Store.{ViewTells}
use Rattle.call_decoding.specs.Rules.{rules_of}
use Rattle.receiver_end.specs.declared.kept.Kept.{Kept}
use Rattle.receiver_end.specs.Decoding.{decoding}
use Rattle.receiver_end.specs.State.{run_of, slot_holds, Fits, Stands}
use Rattle.receiver_end.proofs.Headers.{both}

pub all_at : (n : ℕ) (f : ℕ → Bool) (k : ℕ) → all_below n f ≡ true → k < n → f k ≡ true
all_at zero f k e lt = absurd (none k lt)
  where
    none : (k : ℕ) → k < 0 → ⊥
    none k lt = omega (arith, lt)
all_at (suc n) f k e lt =
    let parts = and_parts (f n) (all_below n f) e in
    last (eqb k n) refl parts.0 (λ less. all_at n f k parts.1 less)
  where
    last : (b : Bool) → eqb k n ≡ b → f n ≡ true → (k < n → f k ≡ true) → f k ≡ true
    last true is here more = subst (λ (i : ℕ). f i ≡ true) (sym (eqb-true k n is)) here
    last false other here more = more (let ne = eqb-false k n other in omega (arith, lt, ne))

falls : (b : Bool) → not b ≡ true → b ≡ false
falls true e = absurd cc
falls false e = refl

pub unheld : (r : Kept) (past : List ReceiverEntry) (n : ℕ) (piece : Piece)
    → ViewTells (decoding r.params.format) (rules_of r.params) → Fits r → Stands r past
    → IsInRow r.collector n → IsHeadOf r.params.format piece.head → none_in_head piece.head (has_in r.collector n)
    ≡ true
    → slot_holds r.params r.store n ≡ false
unfolding is_complete
unheld r past n piece view ok stands row head none =
    let low : r.played ≤ n = omega (arith, row.low, ok.collects.begins) in
    let high : n ≤ r.played + r.params.lead = omega (arith, row.high, ok.collects.begins, ok.row) in
    let same = stands.played in
    let k : ℕ = piece.head.first in
    let inside : k < mbs_of r.params.format = omega (arith, head.some, head.within) in
    let free : has_in r.collector n (piece.head.first + 0)
    ≡ false = falls _ (all_at piece.head.count (λ i. not (has_in r.collector n (piece.head.first + i))) 0 none
    (omega (arith, head.some))) in
    let first : piece.head.first + 0 ≡ piece.head.first = omega arith in
    let missing : has_taken (run_of r.params past).taken n k ≡ false =
    sym (stands.taken n k (omega (arith, low, same), omega (arith, high, same)) inside)
    ∙ ap (has_in r.collector n) (sym first) ∙ free in
    let slot : option_map_or (λ i. eqb i n) (slot_number r.store (n % r.params.slots)) false
    ≡ all_below (mbs_of r.params.format) (has_taken (run_of r.params past).taken n) =
    ap (λ (o : Option ℕ). option_map_or (λ i. eqb i n) o false)
    (stands.slots (n % r.params.slots) (mod-lt n (omega (arith, ok.params.slots_low))))
    ∙ view past n n (omega (arith, low, same)) (omega arith) in
    slot ∙ false_from_ne_true _
    (λ all. both _ (all_at (mbs_of r.params.format) (has_taken (run_of r.params past).taken n) k all inside)
    missing)
