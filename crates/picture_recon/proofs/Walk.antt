-- The walk over a block's marked levels, each of which puts its value at its place in the block.
use Rattle.std.proofs.Common.{◌≡◌, ◌≢◌, ℕ, zero, suc, ◌<◌, ◌≤◌, ℤ, pos, List, get_or, slice_set, replicate, Bool, true, false, cond, nat_eq, nat_lt, refl, ap, subst, sym, ◌∙◌, arith, length-set, get_or-set_same, get_or-set_other}
use Rattle.std.proofs.lemmas.Int.{ints}
use Rattle.std.proofs.lemmas.Bool.Decides.{nat_tests}
use Rattle.std.proofs.lemmas.Nat.Bits.{bit_at-zero, bit_at-pow_other}
use Rattle.std.specs.Int.{bit_at}
use Rattle.std.proofs.lemmas.List.{get_or_past, get_or-replicate}
use Rattle.std.proofs.lemmas.List.Elements.{All-set, All-replicate}
use Rattle.h263_types.specs.declared.blocks.Block.{Block}
use Rattle.h263_types.specs.Blocks.{IsValue, level_at}
use Rattle.h263_types.specs.Marks.{IsMark, without}
use Rattle.quantiser.specs.Levels.{value_of}
use Rattle.quantiser.specs.Zigzag.{IsOneOrder, order, block_place_of, zigzag_place_of}
use Rattle.picture_recon.specs.Samples.{inter_value}
use Rattle.picture_recon.specs.Marks.{AreMarked, ArePut, HasMarkedValues}

-- a place in the block that isn't the first is one of the order, and not its first
pub later : (z at : ℕ) → block_place_of z ≡ at → 1 ≤ at → 1 ≤ z
unfolding block_place_of
later zero at e some = absurd (omega (arith, e))
later (suc z) at e some = omega arith

past : (z at : ℕ) → 64 ≤ z → block_place_of z ≡ at → at ≡ 0
unfolding block_place_of
past z at h e = sym e ∙ get_or_past order z 0 h

within_by : (b : Bool) (z at : ℕ) → nat_lt z 64 ≡ b → block_place_of z ≡ at → 1 ≤ at → z < 64
within_by true z at t e some = grind (arith, nat_tests)
within_by false z at t e some =
    let h : 64 ≤ z = grind (arith, nat_tests) in
    let none : at ≡ 0 = past z at h e in
    absurd (omega arith)

pub within : (z at : ℕ) → block_place_of z ≡ at → 1 ≤ at → z < 64
within z at e some = within_by (nat_lt z 64) z at refl e some

-- a place whose level is 0 has the value 0 from the beginning
none_marked : (bit : ℕ) (v : ℤ) → (bit ≡ 0 → v ≡ pos 0) → pos 0 ≡ cond (nat_eq bit 0) v (pos 0)
none_marked bit v h = grind (arith, nat_tests)

-- one mark less, by whether it is the one that is looked at
one_put : (z k bit left : ℕ) (now before v : ℤ) → before ≡ cond (nat_eq bit 0) v (pos 0) →
    (z ≡ k → (now ≡ v) × (left ≡ 0)) → (z ≢ k → (now ≡ before) × (left ≡ bit)) → now ≡ cond (nat_eq left 0) v (pos 0)
one_put z k bit left now before v h same other = grind (arith, nat_tests)

no_mark : (bit : ℕ) (now v : ℤ) → bit ≡ 0 → now ≡ cond (nat_eq bit 0) v (pos 0) → now ≡ v
no_mark bit now v none h = grind (arith, nat_tests)

zero_value : IsValue (pos 0)
zero_value = record { low = omega (arith, ints); high = omega (arith, ints) }

-- the marks but for the first
pub starts : (one : IsOneOrder) (quant : ℕ) (b : Block) (marks rest : ℕ) → AreMarked b.levels marks
    → ((i : ℕ) → i < 64 → i ≢ 0 → bit_at rest i ≡ bit_at marks i) →
    ArePut quant b rest (replicate 64 (pos 0))
starts one quant b marks rest marked others = record {
  long = refl;
  first = get_or-replicate 64 0 (pos 0) (pos 0) (omega arith);
  stand = λ at less some.
      let z = zigzag_place_of at in
      let e = one.from_block at less in
      let first : z ≢ 0 = let h = later z at e some in omega arith in
      get_or-replicate 64 at (pos 0) (pos 0) less
      ∙ none_marked (bit_at rest z) (inter_value quant b at)
      (λ none. ap (value_of quant) (marked z (within z at e some) (sym (others z (within z at e some) first)
      ∙ none)));
  range = All-replicate IsValue 64 (pos 0) zero_value;
}

-- no other level stands at the first place
not_at_first : (one : IsOneOrder) (k : ℕ) → k < 64 → 1 ≤ k → 0 ≢ block_place_of k
unfolding zigzag_place_of
not_at_first one k less some here =
    let back : 0 ≡ k = ap zigzag_place_of here ∙ one.from_order k less in
    omega arith

-- a marked level puts its value, and its mark is taken away
pub put : (one : IsOneOrder) (quant : ℕ) (b : Block) (k rest : ℕ) (values : List ℤ) (v : ℤ) → IsMark rest k → 1 ≤ k
    → block_place_of k < 64 →
    v ≡ value_of quant (level_at b k) → IsValue v →
    ArePut quant b rest values → ArePut quant b (without rest k) (slice_set values (block_place_of k) v)
put one quant b k rest values v mark past room value range before = record {
  long = length-set values (block_place_of k) v ∙ before.long;
  first = get_or-set_other values (block_place_of k) 0 v (pos 0) (not_at_first one k mark.below past) ∙ before.first;
  stand = λ at less some.
      let z = zigzag_place_of at in
      let e = one.from_block at less in
      one_put z k (bit_at rest z) (bit_at (without rest k) z) _ _ _ (before.stand at less some)
      (λ same. let here : block_place_of k ≡ at = ap block_place_of (sym same) ∙ e in (
        subst (λ (j : ℕ). get_or (slice_set values (block_place_of k) v) j (pos 0) ≡ inter_value quant b at) here
            (get_or-set_same values (block_place_of k) v (pos 0) (omega (arith, before.long)) ∙ value
            ∙ ap (λ (j : ℕ). value_of quant (level_at b j)) (sym same)),
        ap (bit_at (without rest k)) same ∙ mark.gone,
      ))
      (λ differs. let other : at ≢ block_place_of k = λ here. differs (ap zigzag_place_of here
      ∙ one.from_order k mark.below) in
      (get_or-set_other values (block_place_of k) at v (pos 0) other, mark.others z (within z at e some) differs));
  range = All-set IsValue values (block_place_of k) v range before.range;
}

pub ends : (one : IsOneOrder) (quant : ℕ) (b : Block) (rest : ℕ) (values : List ℤ) → rest ≡ 0
    → ArePut quant b rest values →
    (at : ℕ) → 1 ≤ at → at < 64 → get_or values at (pos 0) ≡ inter_value quant b at
ends one quant b rest values none before at some less =
    no_mark (bit_at rest (zigzag_place_of at)) _ _ (ap (λ (n : ℕ). bit_at n (zigzag_place_of at)) none
    ∙ bit_at-zero (zigzag_place_of at)) (before.stand at less some)

-- which levels are 0, where no mark is set, and where only the first is
pub none_at_all : (b : Block) (marks : ℕ) → AreMarked b.levels marks → marks ≡ 0 → (k : ℕ) → k < 64
    → level_at b k ≡ pos 0
none_at_all b marks marked none k less = marked k less (ap (λ (n : ℕ). bit_at n k) none ∙ bit_at-zero k)

-- where the first place alone is marked no later level is left
pub none_later : (b : Block) (marks : ℕ) → AreMarked b.levels marks → marks ≡ 1 → (k : ℕ) → 1 ≤ k → k < 64
    → level_at b k ≡ pos 0
none_later b marks marked first k some less =
    let other : k ≢ 0 = omega arith in
    marked k less (ap (λ (n : ℕ). bit_at n k) first ∙ bit_at-pow_other 0 k other)

-- where the first place alone is marked, and the first value is 0, all values are
pub no_others : (one : IsOneOrder) (marks : ℕ) (values : List ℤ) → marks ≡ 1 → get_or values 0 (pos 0) ≡ pos 0
    → HasMarkedValues marks values → (at : ℕ) → at < 64 → get_or values at (pos 0) ≡ pos 0
no_others one marks values alone first marked zero less = first
no_others one marks values alone first marked (suc at) less =
    let some : 1 ≤ suc at = omega arith in
    let z = zigzag_place_of (suc at) in
    let past = later z (suc at) (one.from_block (suc at) less) some in
    let other : z ≢ 0 = let h = past in omega arith in
    marked (suc at) some less (ap (λ (n : ℕ). bit_at n z) alone ∙ bit_at-pow_other 0 z other)

one_is_not_zero : (bit : ℕ) → bit ≡ 1 → bit ≡ 0 → ⊥
one_is_not_zero bit set none = absurd (omega arith)

-- a mark isn't the first place's where that one has none
pub not_first : (rest k : ℕ) → IsMark rest k → bit_at rest 0 ≡ 0 → 1 ≤ k
not_first rest k mark first =
    let other : k ≢ 0 = λ e. one_is_not_zero (bit_at rest k) mark.set (ap (bit_at rest) e ∙ first) in
    omega arith
