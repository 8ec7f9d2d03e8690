-- The packets that are kept: as many as there are places, each between its place and the next.
use Rattle.std.proofs.Common.{◌≡◌, ◌≢◌, ℕ, zero, suc, ◌+◌, ◌-◌, ◌<◌, ◌≤◌, List, [], ◌∷◌, ◌++◌, length, take, drop, get_or, set, refl, sym, ap, ◌∙◌, arith, add-one, get_or-set_other, get_or-set_same, inl, inr}
use Rattle.std.specs.Prelude.{slice_range}
use Rattle.std.proofs.lemmas.Bool.{cases_lt}
use Rattle.std.proofs.lemmas.List.{length-append, length-take, length-take-le, length-drop, drop-take, take_at, drop_at, take-append-le}
use Rattle.std.proofs.Math.ListN.{get_or-append}
use Rattle.std.proofs.Math.Seq.{get_or-append_seam}
use Rattle.h263_bits.proofs.SyntaxLaws.{take-take}
use Rattle.packet_cutter.specs.Taken.{packet_between, first_packets, ArePlaced}

-- no packet is none
pub none_in : (bytes places : List ℕ) → first_packets bytes places 0 ≡ []
unfolding first_packets
none_in bytes places = refl

-- as many packets as were counted
pub length-packets : (bytes places : List ℕ) (n : ℕ) → length (first_packets bytes places n) ≡ n
unfolding first_packets
length-packets bytes places zero = refl
length-packets bytes places (suc n) = omega (
  arith,
  length-append (first_packets bytes places n) (packet_between bytes places n ∷ []),
  length-packets bytes places n,
)

pub packet_is : (bytes places : List ℕ) (n i : ℕ) → i < n → get_or (first_packets bytes places n) i []
    ≡ packet_between bytes places i
unfolding first_packets
packet_is bytes places zero i lt = absurd (omega arith)
packet_is bytes places (suc n) i lt =
    elim (cases_lt i n) [
      | inl below ↦
          let low : i < length (first_packets bytes places n) = omega (arith, below, length-packets bytes places n) in
          get_or-append (first_packets bytes places n) (packet_between bytes places n ∷ []) [] i low
          ∙ packet_is bytes places n i below
      | inr last ↦
          let e : i ≡ length (first_packets bytes places n) = omega (arith, lt, last, length-packets bytes places n) in
          let m : n ≡ i = omega (arith, lt, last) in
          ap (λ (k : ℕ). get_or (first_packets bytes places n ++ packet_between bytes places n ∷ []) k []) e
          ∙ get_or-append_seam (first_packets bytes places n) (packet_between bytes places n) [] []
          ∙ ap (packet_between bytes places) m
    ]

-- a window within the first bytes
window_same : (old new : List ℕ) (a b at : ℕ) → a ≤ b → b ≤ at → at ≤ length old → at ≤ length new
    → take at new ≡ take at old → slice_range new a b ≡ slice_range old a b
window_same old new a b at order within low high same =
    let e : b ≡ a + (b - a) = omega arith in
    let moved = λ (l : List ℕ). sym (drop-take a (b - a) l) ∙ ap (λ (k : ℕ). drop a (take k l)) (sym e) in
    let front : take b new ≡ take b old = sym (take-take b at new within high) ∙ ap (take b) same
    ∙ take-take b at old within low in
    moved new ∙ ap (drop a) front ∙ sym (moved old)

-- the packets before a place stay where the bytes and the places before it do
pub same_packets : (old new places others : List ℕ) (n at : ℕ) → at ≤ length old → at ≤ length new
    → take at new ≡ take at old
    → ((i : ℕ) → i ≤ n → get_or others i 0 ≡ get_or places i 0)
    → ((i : ℕ) → i < n → get_or places i 0 ≤ get_or places (i + 1) 0)
    → ((i : ℕ) → i < n → get_or places (i + 1) 0 ≤ at)
    → first_packets new others n ≡ first_packets old places n
unfolding first_packets
same_packets old new places others zero at low high same there order within = refl
same_packets old new places others (suc n) at low high same there order within =
    let before = same_packets old new places others n at low high same (λ i le. there i (omega arith))
    (λ i lt. order i (omega arith)) (λ i lt. within i (omega arith)) in
    let from : get_or others n 0 ≡ get_or places n 0 = there n (omega arith) in
    let to : get_or others (n + 1) 0 ≡ get_or places (n + 1) 0 = there (n + 1) (omega arith) in
    let one : packet_between new others n ≡ packet_between old places n =
    ap (λ (k : ℕ). slice_range new k (get_or others (n + 1) 0)) from
    ∙ ap (λ (k : ℕ). slice_range new (get_or places n 0) k) to
    ∙ window_same old new (get_or places n 0) (get_or places (n + 1) 0) at (order n (omega arith))
    (within n (omega arith)) low high same in
    ap (λ (l : List (List ℕ)). l ++ packet_between new others n ∷ []) before
    ∙ ap (λ (p : List ℕ). first_packets old places n ++ p ∷ []) one

-- ---- one packet more

-- the places, with the end of the next packet
other_place : (places : List ℕ) (n end i : ℕ) → i ≤ n → get_or (set places (n + 1) end) i 0 ≡ get_or places i 0
other_place places n end i le = let ne : i ≢ n + 1 = omega arith in get_or-set_other places (n + 1) i end 0 ne

new_place : (places : List ℕ) (n end : ℕ) → n + 1 < length places → get_or (set places (n + 1) end) (n + 1) 0 ≡ end
new_place places n end lt = get_or-set_same places (n + 1) end 0 lt

pub one_more : (old new places : List ℕ) (limit n size : ℕ) → ArePlaced limit places n → n < 396
    → get_or places n 0 ≤ length old → get_or places n 0 ≤ length new
    → take (get_or places n 0) new ≡ take (get_or places n 0) old
    → first_packets new (set places (n + 1) (get_or places n 0 + size)) (n + 1) ≡ first_packets old places n
    ++ take size (drop (get_or places n 0) new) ∷ []
unfolding first_packets
one_more old new places limit n size p room low high same =
    let at = get_or places n 0 in
    let others = set places (n + 1) (at + size) in
    let before = same_packets old new places others n at low high same (other_place places n (at + size)) p.order
    p.within in
    let from : get_or others n 0 ≡ at = other_place places n (at + size) n (omega arith) in
    let to : get_or others (n + 1) 0 ≡ at + size = new_place places n (at + size) (omega (arith, p.whole)) in
    let long : at + size - at ≡ size = omega arith in
    let one : packet_between new others n ≡ take size (drop at new) =
    ap (λ (k : ℕ). slice_range new k (get_or others (n + 1) 0)) from ∙ ap (λ (k : ℕ). slice_range new at k) to
    ∙ ap (λ (k : ℕ). take k (drop at new)) long in
    ap (first_packets new others) (add-one n) ∙ ap (λ (l : List (List ℕ)). l ++ packet_between new others n ∷ []) before
    ∙ ap (λ (t : List ℕ). first_packets old places n ++ t ∷ []) one

pub window_length : (xs : List ℕ) (at k : ℕ) → at + k ≤ length xs → length (take (at + k - at) (drop at xs)) ≡ k
window_length xs at k h = omega (arith, length-take (at + k - at) (drop at xs), length-drop at xs)

-- the next packet was written after the others, in a part of the bytes
pub appended : (old d ys post places : List ℕ) (limit n size : ℕ) → d ≡ old → ArePlaced limit places n → n < 396
    → get_or places n 0 ≤ length old → size ≤ length ys
    → first_packets (take (get_or places n 0) d ++ (ys ++ post)) (set places (n + 1) (get_or places n 0 + size)) (n + 1)
    ≡ first_packets old places n ++ take size ys ∷ []
appended old d ys post places limit n size same p few within fits =
    let at = get_or places n 0 in
    let front = take at d in
    let new = front ++ (ys ++ post) in
    let len : length front ≡ at = ap (λ (l : List ℕ). length (take at l)) same ∙ length-take-le at old within in
    let high : at ≤ length new = omega (arith, length-append front (ys ++ post), len) in
    let kept : take at new ≡ take at old = take_at front (ys ++ post) at len ∙ ap (take at) same in
    let after : take size (drop at new) ≡ take size ys = ap (take size) (drop_at front (ys ++ post) at len)
    ∙ take-append-le size ys post fits in
    one_more old new places limit n size p few within high kept
    ∙ ap (λ (l : List ℕ). first_packets old places n ++ l ∷ []) after
