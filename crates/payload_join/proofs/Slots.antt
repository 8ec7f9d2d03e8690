-- Slots of a region that a ring holds: one is given back, and one is written.
use Rattle.std.proofs.Common.{◌≡◌, ℕ, ◌+◌, ◌-◌, ◌<◌, ◌≤◌, List, false, true≢false, [], ◌∷◌, ◌++◌, length, take, drop, get_or, set, sym, ap, ◌∙◌, subst, arith, inl, inr, length-append, get_or-set_other}
use Rattle.std.specs.Prelude.{replicate}
use Rattle.std.proofs.Math.ListN.{get_or-eq_default}
use Rattle.std.proofs.lemmas.Bool.{cases_lt}
use Rattle.std.proofs.lemmas.List.{get_or_append_left, length-take-le, length-drop, get_or-replicate, length-replicate, take-append-drop}
use Rattle.std.proofs.Math.Seq.{get_or-append_seam}
use Rattle.h263_region.specs.Slots.{Slots, bytes_in, with_out, out_of, IsOut, zeros}
use Rattle.payload_join.specs.Places.{put_at}
use Rattle.h263_region.specs.Claimed.{IsHeld}

-- the last slot is released
pub released : {region new : Slots} {slots rest : List ℕ} (slot : ℕ) → IsHeld region slots → slots ≡ rest ++ slot ∷ []
    → new ≡ with_out region slot false → out_of new + 1 ≡ out_of region → IsHeld new rest
released {region} {new} {slots} {rest} slot held is back counted =
    let h : IsHeld region (rest ++ slot ∷ []) = subst (IsHeld region) is held in
    let long : length (rest ++ slot ∷ []) ≡ length rest + 1 = length-append rest (slot ∷ []) in
    let at : (k : ℕ) → k < length rest → get_or (rest ++ slot ∷ []) k 0
    ≡ get_or rest k 0 = λ k l. get_or_append_left rest (slot ∷ []) 0 k l in
    let last : get_or (rest ++ slot ∷ []) (length rest) 0 ≡ slot = get_or-append_seam rest slot [] 0 in
    record {
      out = λ k l. subst (λ (s : Slots). IsOut s (get_or rest k 0)) (sym back)
          (get_or-set_other region.outs slot (get_or rest k 0) false false (λ e. let same : k
          ≡ length rest = h.once k (length rest) (omega arith) (omega arith) (at k l ∙ e ∙ sym last) in
          absurd (omega arith))
          ∙ subst (IsOut region) (at k l) (h.out k (omega arith)));
      once = λ j k lj lk e. h.once j k (omega arith) (omega arith) (at j lj ∙ e ∙ sym (at k lk));
      all = let a : out_of region ≡ length (rest ++ slot ∷ []) = h.all in omega arith;
    }

-- the region with other bytes in a slot
abbrev pub with_slot : Slots → ℕ → List ℕ → Slots
with_slot region slot ws = record region { bytes = set region.bytes slot ws }

pub out_inside : (region : Slots) (slot : ℕ) → IsOut region slot → slot < length region.outs
out_inside region slot h = elim (cases_lt slot (length region.outs)) [
  | inl l ↦ l
  | inr l ↦ absurd (true≢false (sym h ∙ get_or-eq_default region.outs false l))
]

-- as many bytes as before
pub put_length : (xs : List ℕ) (at : ℕ) (ws : List ℕ) → at + length ws ≤ length xs → length (put_at xs at ws)
    ≡ length xs
put_length xs at ws le =
    let a : length (take at xs) ≡ at = length-take-le at xs (omega arith) in
    let b : length (drop (at + length ws) xs) ≡ length xs - (at + length ws) = length-drop (at + length ws) xs in
    let c : length (put_at xs at ws) ≡ length (take at xs) + length (ws ++ drop (at + length ws) xs) =
    length-append (take at xs) (ws ++ drop (at + length ws) xs) in
    let d : length (ws ++ drop (at + length ws) xs) ≡ length ws + length (drop (at + length ws) xs) =
    length-append ws (drop (at + length ws) xs) in
    omega arith

-- the bytes of a slot of zeros
pub zeros_sized : (count size slot : ℕ) → slot < count → length (bytes_in (zeros count size) slot) ≡ size
zeros_sized count size slot lt = ap (length {A = ℕ}) (get_or-replicate count slot (replicate size 0) [] lt)
    ∙ length-replicate size 0

-- no bytes are written
pub put_none : (xs : List ℕ) (at : ℕ) → put_at xs at [] ≡ xs
put_none xs at = let e : at + 0 ≡ at = omega arith in ap (λ (k : ℕ). take at xs ++ drop k xs) e ∙ take-append-drop at xs
