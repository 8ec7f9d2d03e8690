-- Where the levels of a block stand.
use Rattle.std.proofs.Common.{◌≡◌, ◌≢◌, ℕ, zero, suc, ◌<◌, ◌≤◌, ◌*◌, ◌%◌, ◌^◌, ℤ, pos, List, [], ◌∷◌, get_or, slice_index, slice_set, replicate, Bool, true, false, cond, nat_eq, nat_lt, refl, ap, sym, ◌∙◌, arith, lit<, ltb-true, length-set, get_or-set_same, get_or-set_other, to_z, of_z, w16, w64}
use Rattle.std.specs.List.{list_all}
use Rattle.std.specs.Int.{bit_at, bit_not}
use Rattle.std.proofs.lemmas.Int.{ints}
use Rattle.std.proofs.lemmas.Bool.{and_parts}
use Rattle.std.proofs.lemmas.Bool.Decides.{Decides-int_eq, nat_tests}
use Rattle.std.proofs.lemmas.List.{get_or-replicate}
use Rattle.std.proofs.lemmas.List.Elements.{All-set, All-replicate}
use Rattle.std.proofs.lemmas.Nat.Bits.{bit_at-lt, bit_at-zero, bit_at_and}
use Rattle.h263_types.specs.Blocks.{IsLevel, IsQuant}
use Rattle.h263_types.specs.Marks.{EachIsMarked, IsMark, is_zero, marks_of, without}
use Rattle.quantiser.specs.Factors.{HasSameLevels, IsWord, limited_to_word}
use Rattle.quantiser.specs.Zigzag.{IsOneOrder, order, block_place_of, zigzag_place_of}
use Rattle.idct8.specs.Transform.{entry, forward_at}
use Rattle.mode_choice.specs.Choice.{coefficient_at}
use Rattle.mode_choice.specs.Walk.{AreSet, kept_level, level_by, order_of, standing_place, turned_place}
use Rattle.mode_choice.specs.declared.coefficients.Coding.{Coding}
use Rattle.mode_choice.specs.declared.coefficients.Coding.TheVariants.{Intra, Inter}
use Rattle.mode_choice.specs.declared.order.Standing.{Standing}
use Rattle.mode_choice.specs.declared.order.Standing.TheVariants.{ByRows, ByColumns}
use Rattle.mode_choice.proofs.Levels.{is_forward}

-- ---- places

is_place : ℕ → Bool
is_place n = nat_lt n 64

places_below : (ns : List ℕ) → list_all is_place ns ≡ true → (k : ℕ) → slice_index ns k < 64
unfolding is_place
places_below [] h k = lit< tt
places_below (n ∷ ns) h zero = ltb-true _ _ (and_parts (is_place n) (list_all is_place ns) h).0
places_below (n ∷ ns) h (suc k) = places_below ns (and_parts (is_place n) (list_all is_place ns) h).1 k

pub block_place_below : (k : ℕ) → block_place_of k < 64
unfolding block_place_of is_place
block_place_below k = places_below order refl k

-- places by rows and by columns

turned_below : (at : ℕ) → at < 64 → turned_place at < 64
turned_below at h = omega (arith, h)

turned_twice : (at : ℕ) → at < 64 → turned_place (turned_place at) ≡ at
turned_twice at h = omega (arith, h)

pub place_below : (s : Standing) (k : ℕ) → standing_place s k < 64
place_below ByRows k = block_place_below k
place_below ByColumns k = turned_below (block_place_of k) (block_place_below k)

-- each place where a level stands has one in the order, and each of the order has one
order_back : IsOneOrder → (s : Standing) (at : ℕ) → at < 64 → standing_place s (order_of s at) ≡ at
order_back one ByRows at h = one.from_block at h
order_back one ByColumns at h = ap turned_place (one.from_block (turned_place at) (turned_below at h))
    ∙ turned_twice at h

order_there : IsOneOrder → (s : Standing) (k : ℕ) → k < 64 → order_of s (standing_place s k) ≡ k
order_there one ByRows k h = one.from_order k h
order_there one ByColumns k h = ap zigzag_place_of (turned_twice (block_place_of k) (block_place_below k))
    ∙ one.from_order k h

-- ---- levels

pub zero_level : IsLevel (pos 0)
zero_level = record { low = omega (arith, ints); high = omega (arith, ints) }

-- ---- coefficients of 16 bits

pub zero_word : IsWord (pos 0)
zero_word = record { low = omega (arith, ints); high = omega (arith, ints) }

pub word_kept : (z : ℤ) → IsWord z → to_z w16 (of_z w16 z) ≡ z
word_kept z h = omega (arith, ints)

-- a coefficient that is limited to 16 bits has the same level
pub same_level : HasSameLevels → (coding : Coding) (quant : ℕ) (z : ℤ) → IsQuant quant
    → level_by coding quant (limited_to_word z) ≡ level_by coding quant z
same_level same Intra quant z h = (same quant z h).1
same_level same Inter quant z h = (same quant z h).0

-- ---- the walk over the marks

zero_either : (t b : Bool) (v : ℤ) → v ≡ pos 0 → pos 0 ≡ cond t (cond b v (pos 0)) (pos 0)
zero_either true true v e = sym e
zero_either true false v e = refl
zero_either false b v e = refl

-- a level without a mark is 0
none_unmarked : (z : ℤ) (t b : Bool) (bit : ℕ) → is_zero z ≡ t → bit ≡ cond t 0 1
    → pos 0 ≡ cond (nat_eq bit 0) (cond b z (pos 0)) (pos 0)
none_unmarked z true b bit e mark = zero_either (nat_eq bit 0) b z ((Decides-int_eq z (pos 0)).0 e)
none_unmarked z false b bit e mark = ap (λ (n : ℕ). cond (nat_eq n 0) (cond b z (pos 0)) (pos 0)) (sym mark)

-- with all marks there are zeros
pub starts : EachIsMarked → (s : Standing) (keep : ℕ) (block : List ℤ) (rest : ℕ) → rest ≡ marks_of block
    → AreSet s keep block rest (replicate 64 (pos 0))
starts marked s keep block rest marks = record {
  long = refl;
  stand = λ k less.
      let at = standing_place s k in
      get_or-replicate 64 k (pos 0) (pos 0) less
      ∙ none_unmarked (get_or block at (pos 0)) (is_zero (get_or block at (pos 0))) (nat_lt k keep) (bit_at rest at)
      refl
      (ap (λ (n : ℕ). bit_at n at) marks ∙ marked block at);
  range = All-replicate IsLevel 64 (pos 0) zero_level;
}

-- one mark less, by whether it is the one that is looked at
one_less : (j k bit left : ℕ) (now before v : ℤ) → before ≡ cond (nat_eq bit 0) v (pos 0) →
    (j ≡ k → (now ≡ v) × (left ≡ 0)) → (j ≢ k → (now ≡ before) × (left ≡ bit)) → now ≡ cond (nat_eq left 0) v (pos 0)
one_less j k bit left now before v h same other = grind (arith, nat_tests)

-- a level is set, and its mark is taken away
pub set_one : IsOneOrder → (s : Standing) (keep : ℕ) (block : List ℤ) (at k rest : ℕ) (levels : List ℤ) (v : ℤ)
    → IsMark rest at → k ≡ order_of s at → k < 64 →
    v ≡ kept_level keep k (get_or block at (pos 0)) → IsLevel v →
    AreSet s keep block rest levels → AreSet s keep block (without rest at) (slice_set levels k v)
set_one one s keep block at k rest levels v mark place room level range before =
    let left = without rest at in
    let back : standing_place s k ≡ at = ap (standing_place s) place ∙ order_back one s at mark.below in
    record {
      long = length-set levels k v ∙ before.long;
      stand = λ j less.
          one_less j k (bit_at rest (standing_place s j)) (bit_at left (standing_place s j)) _ _ _ (before.stand j less)
          (λ same. let here : standing_place s j ≡ at = ap (standing_place s) same ∙ back in (
            ap (λ (n : ℕ). get_or (slice_set levels k v) n (pos 0)) same
                ∙ get_or-set_same levels k v (pos 0) (omega (arith, before.long)) ∙ level
                ∙ ap (λ (n : ℕ). kept_level keep k (get_or block n (pos 0))) (sym back)
                ∙ ap (λ (n : ℕ). kept_level keep n (get_or block (standing_place s n) (pos 0))) (sym same),
            ap (bit_at left) here ∙ mark.gone,
          ))
          (λ differs. let other : standing_place s j ≢ at = λ here. differs (sym (order_there one s j less)
          ∙ ap (order_of s) here ∙ sym place) in
          (get_or-set_other levels k j v (pos 0) differs, mark.others (standing_place s j) (place_below s j) other));
      range = All-set IsLevel levels k v range before.range;
    }

-- a level whose mark is still there isn't set yet
pub not_yet : IsOneOrder → (s : Standing) (keep : ℕ) (block : List ℤ) (at k rest : ℕ) (levels : List ℤ) → IsMark rest at
    → k ≡ order_of s at → k < 64 →
    AreSet s keep block rest levels → get_or levels k (pos 0) ≡ pos 0
not_yet one s keep block at k rest levels mark place less before =
    let back : standing_place s k ≡ at = ap (standing_place s) place ∙ order_back one s at mark.below in
    before.stand k less
    ∙ ap (λ (n : ℕ). cond (nat_eq n 0) (kept_level keep k (get_or block (standing_place s k) (pos 0))) (pos 0))
    (ap (bit_at rest) back ∙ mark.set)

-- the marks that are left are some of those before
pub left_marks : (rest at i : ℕ) → bit_at (without rest at) i ≡ 1 → bit_at rest i ≡ 1
left_marks rest at i e = omega (arith, e, bit_at_and rest (bit_not w64 (1 * 2 ^ at % 2 ^ 64)) i, bit_at-lt rest i)

kept_by : (b : Bool) (z : ℤ) → IsLevel z → IsLevel (cond b z (pos 0))
kept_by true z h = h
kept_by false z h = zero_level

pub kept_range : (keep k : ℕ) (z : ℤ) → IsLevel z → IsLevel (kept_level keep k z)
kept_range keep k z h = kept_by (nat_lt k keep) z h

pub kept_before : (keep k : ℕ) (z : ℤ) → k < keep → kept_level keep k z ≡ z
kept_before keep k z h = grind (arith, nat_tests)

pub kept_from : (keep k : ℕ) (z : ℤ) → keep ≤ k → kept_level keep k z ≡ pos 0
kept_from keep k z h = grind (arith, nat_tests)

all_gone : (bit : ℕ) (now v : ℤ) → bit ≡ 0 → now ≡ cond (nat_eq bit 0) v (pos 0) → now ≡ v
all_gone bit now v none h = grind (arith, nat_tests)

-- with no mark all levels stand
pub ends : (s : Standing) (keep : ℕ) (block : List ℤ) (rest : ℕ) (levels : List ℤ) → rest ≡ 0
    → AreSet s keep block rest levels →
    (k : ℕ) → k < 64 → get_or levels k (pos 0) ≡ kept_level keep k (get_or block (standing_place s k) (pos 0))
ends s keep block rest levels none before k less =
    all_gone (bit_at rest (standing_place s k)) _ _ (ap (λ (n : ℕ). bit_at n (standing_place s k)) none
    ∙ bit_at-zero (standing_place s k)) (before.stand k less)

-- what a transform gives at a place of the zigzag order
pub is_forward_at : (coefficients block : List ℤ) (k : ℕ)
    → ((v u : ℕ) → v < 8 → u < 8 → entry coefficients v u ≡ forward_at block v u) →
    get_or coefficients (block_place_of k) (pos 0) ≡ coefficient_at block k
is_forward_at coefficients block k each = is_forward coefficients block (block_place_of k) k refl
    (block_place_below k) each
