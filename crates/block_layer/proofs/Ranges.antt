-- The levels that a text spells are in their ranges.
use Rattle.std.proofs.Common.{◌≡◌, ℕ, zero, suc, ◌+◌, ◌-◌, ◌<◌, ◌≤◌, Bool, true, false, cond, List, [], ◌∷◌, Option, Some, None, refl, sym, ap, ◌∙◌, subst, arith, eqb, inl, inr}
use Rattle.std.specs.Prelude.{ℤ, pos, negsuc, neg_ℤ, nat_lt, slice_set, replicate, ◌⊎◌}
use Rattle.std.specs.List.{list_all}
use Rattle.std.proofs.lemmas.Int.{ints}
use Rattle.std.proofs.lemmas.Bool.{cases_lt, ltb-true, lt-ltb, le-ltb, eqb-false}
use Rattle.h263_types.specs.Blocks.{IsLevel, IsDc, IsIntraBlock, IsInterBlock}
use Rattle.h263_bits.specs.Syntax.{LoopTurn, again, finally, Turns, Spells, done, either}
use Rattle.h263_bits.proofs.SyntaxLaws.{stands_within}
use Rattle.code_tables.specs.Tables.{TableEvent, Coefficient, event, event_parts, event_table, tcoef_words, last_0_texts, last_1_texts, signed, allowed_level, escaped_level, after_word, size_of}
use Rattle.block_layer.specs.Laws.{AreInRange}
use Rattle.block_layer.specs.Text.{Events, Placed, placed, after_event, event_turn, events, allowed_dc, dc_of, intra_dc, intra_block, inter_block, no_levels}
use Rattle.block_layer.specs.Step.{level_in_list}

-- ---- an event

is_small : Option TableEvent → Bool
is_small None = true
is_small (Some e) = nat_lt e.size 128

all_small : list_all (λ w. is_small w.1) tcoef_words ≡ true
unfolding tcoef_words last_0_texts last_1_texts is_small
all_small = refl

neg_size : (n : ℕ) → size_of (neg_ℤ (pos n)) ≡ n
neg_size zero = refl
neg_size (suc n) = refl

signed_size : (sign size : ℕ) → size_of (signed sign size) ≡ size
signed_size sign size = at (eqb sign 0)
  where
    at : (t : Bool) → size_of (cond t (pos size) (neg_ℤ (pos size))) ≡ size
    at true = refl
    at false = neg_size size

not_level : (n : ℕ) → allowed_level n ≡ None → n ≡ 128 → ⊥
not_level n e is = let h : allowed_level 128 ≡ None = subst (λ (k : ℕ). allowed_level k ≡ None) is e in cc

level_size : (n : ℕ) → n < 256 → allowed_level n ≡ None → size_of (escaped_level n) < 128
level_size n lt e = at (cases_lt n 128)
  where
    at : (n < 128) ⊎ (128 ≤ n) → size_of (escaped_level n) < 128
    at (inl low) = rw (lt-ltb n 128 low) low
    at (inr high) =
        let size : size_of (neg_ℤ (pos (256 - n))) ≡ 256 - n = neg_size (256 - n) in
        rw (le-ltb n 128 high) (omega (arith, size, not_level n e))

after_size : (o : Option TableEvent) (x : Coefficient) (text : List Bool) → is_small o ≡ true
    → Spells (after_word o) x text
    → size_of x.level < 128
unfolding Spells is_small
after_size (Some e) x text small h =
    let is : x ≡ record { last = e.last; run = e.run; level = signed h.0 e.size } = h.5.0 in
    let size : size_of x.level ≡ e.size = ap (λ (c : Coefficient). size_of c.level) is ∙ signed_size h.0 e.size in
    omega (arith, size, ltb-true e.size 128 small)
after_size None x text small h =
    let level = h.5.5 in
    let is : size_of x.level ≡ size_of (escaped_level level.0) = ap (λ (c : Coefficient). size_of c.level) level.5.0 in
    omega (arith, is, level_size level.0 level.2 level.3)

event_size : (x : Coefficient) (text : List Bool) → Spells event x text → size_of x.level < 128
unfolding Spells event event_parts event_table
event_size x text h =
    let inner = h.4 in
    let small = after_size inner.1 h.0 inner.2 (stands_within is_small tcoef_words (inner.0, inner.1) all_small inner.3)
    inner.5 in
    subst (λ (c : Coefficient). size_of c.level < 128) (sym h.6.0) small

is_level_of : (z : ℤ) → size_of z < 128 → IsLevel z
is_level_of (pos n) lt = record { low = omega (arith, ints); high = omega (arith, ints) }
is_level_of (negsuc n) lt = record { low = omega (arith, ints); high = omega (arith, ints) }

-- ---- levels in a block

-- each level is as its place wants it
abbrev AreAll : (ℕ → ℤ → Type 0) → List ℤ → Type 0
AreAll P levels = (k : ℕ) → P k (level_in_list levels k)

set_within : (P : ℕ → ℤ → Type 0) (levels : List ℤ) (p : ℕ) (z : ℤ) → AreAll P levels → P p z
    → AreAll P (slice_set levels p z)
set_within P [] p z all one = all
set_within P (x ∷ levels) zero z all one = at
  where
    at : (k : ℕ) → P k (level_in_list (z ∷ levels) k)
    at zero = one
    at (suc k) = all (suc k)
set_within P (x ∷ levels) (suc p) z all one = at (set_within (λ k. P (suc k)) levels p z (λ k. all (suc k)) one)
  where
    at : AreAll (λ k. P (suc k)) (slice_set levels p z) → (k : ℕ) → P k (level_in_list (x ∷ slice_set levels p z) k)
    at more zero = all zero
    at more (suc k) = more k

zero_at : (n k : ℕ) → level_in_list (replicate n (pos 0)) k ≡ pos 0
zero_at zero k = refl
zero_at (suc n) zero = refl
zero_at (suc n) (suc k) = zero_at n k

zero_level : IsLevel (pos 0)
zero_level = is_level_of (pos 0) (omega arith)

zeros_within : (n k : ℕ) → IsLevel (level_in_list (replicate n (pos 0)) k)
zeros_within n k = subst (λ (z : ℤ). IsLevel z) (sym (zero_at n k)) zero_level

-- a block with no level
pub no_levels_within : IsInterBlock (record { levels = no_levels })
no_levels_within = record { levels = λ k lt. zeros_within 64 k }

-- ---- the events of a block, from a place on

module _ (P : ℕ → ℤ → Type 0) (from : ℕ) (behind : (k : ℕ) (z : ℤ) → from ≤ k → IsLevel z → P k z) where
  placed_within : (place : ℕ) (x : Placed) (text : List Bool) → from ≤ place → Spells (placed place) x text
      → (place ≤ x.place) × IsLevel x.level
  unfolding Spells placed
  placed_within place x text after h =
      let is = h.6.0 in
      let level : IsLevel h.0.level = is_level_of h.0.level (event_size h.0 h.1 h.4) in
      let at : x.place ≡ place + h.0.run = ap (λ (p : Placed). p.place) is in
      (omega arith, subst (λ (p : Placed). IsLevel p.level) (sym is) level)

  -- what a turn leaves is within
  Leaves : LoopTurn Events (List ℤ) → Type 0
  Leaves (again s) = (from ≤ s.place) × AreAll P s.levels
  Leaves (finally levels) = AreAll P levels

  after_within : (s : Events) (x : Placed) → from ≤ s.place → AreAll P s.levels → s.place ≤ x.place → IsLevel x.level
      → Leaves (after_event s.levels x)
  unfolding Leaves
  after_within s x after all past level = at x.last
    where
      set : AreAll P (slice_set s.levels x.place x.level)
      set = set_within P s.levels x.place x.level all (behind x.place x.level (omega arith) level)

      at : (t : Bool) → Leaves (cond t (finally (slice_set s.levels x.place x.level))
          (again (record { place = x.place + 1; levels = slice_set s.levels x.place x.level })))
      at true = set
      at false = (omega arith, set)

  turn_within : (s : Events) (t : LoopTurn Events (List ℤ)) (text : List Bool) → from ≤ s.place → AreAll P s.levels
      → Spells (event_turn s) t text → Leaves t
  unfolding Spells event_turn
  turn_within s t text after all h =
      let one = placed_within s.place h.0 h.1 after h.4 in
      subst (λ (u : LoopTurn Events (List ℤ)). Leaves u) (sym h.6.0) (after_within s h.0 after all one.0 one.1)

  turns_within : (n : ℕ) (s : Events) (out : List ℤ) (text : List Bool) → from ≤ s.place → AreAll P s.levels
      → Turns (λ t x front. Spells (event_turn t) x front) n s out text → AreAll P out
  unfolding Leaves
  turns_within zero s out text after all h = turn_within s (finally out) text after all h
  turns_within (suc n) s out text after all h =
      let left = turn_within s (again h.0) h.1 after all h.4 in
      turns_within n h.0 out h.2 left.0 left.1 h.5

  events_within : (levels out : List ℤ) (text : List Bool) → AreAll P levels → Spells (events from levels) out text
      → AreAll P out
  unfolding Spells events
  events_within levels out text all h = turns_within h.0 (record { place = from; levels = levels }) out text
      (omega arith) all h.1

-- ---- whole blocks

pub inter_within : (levels : List ℤ) (text : List Bool) → Spells inter_block levels text
    → IsInterBlock (record { levels = levels })
unfolding inter_block
inter_within levels text h =
    let all = events_within (λ k z. IsLevel z) 0 (λ k z after level. level) no_levels levels text
    (λ k. zeros_within 64 k) h in
    record { levels = λ k lt. all k }

-- what stands at each place of a block of an intra macroblock
IsPlaced : ℕ → ℤ → Type 0
IsPlaced zero z = IsDc z
IsPlaced (suc k) z = IsLevel z

is_dc_of : (n : ℕ) → n < 256 → allowed_dc n ≡ None → IsDc (dc_of n)
is_dc_of n lt e = at (eqb n 255) refl
  where
    not_zero : n ≡ 0 → ⊥
    not_zero is = let h : allowed_dc 0 ≡ None = subst (λ (k : ℕ). allowed_dc k ≡ None) is e in cc

    at : (t : Bool) → eqb n 255 ≡ t → IsDc (cond t (pos 128) (pos n))
    at true is = record { low = omega (arith, ints); high = omega (arith, ints) }
    at false is = record { low = omega (arith, ints, not_zero); high = omega (arith, ints, eqb-false n 255 is) }

dc_within : (levels : List ℤ) (text : List Bool) → Spells intra_dc levels text → AreAll IsPlaced levels
unfolding Spells intra_dc IsPlaced
dc_within levels text h = subst (λ (l : List ℤ). AreAll IsPlaced l) (sym h.5.0) at
  where
    at : (k : ℕ) → IsPlaced k (level_in_list (slice_set no_levels 0 (dc_of h.0)) k)
    at zero = is_dc_of h.0 h.2 h.3
    at (suc k) = zeros_within 63 k

after_dc : (k : ℕ) (z : ℤ) → 1 ≤ k → IsLevel z → IsPlaced k z
unfolding IsPlaced
after_dc zero z after level = absurd (omega arith)
after_dc (suc k) z after level = level

either_within : (coded : Bool) (levels out : List ℤ) (text : List Bool) → AreAll IsPlaced levels
    → Spells (either coded (events 1 levels) (done levels)) out text → AreAll IsPlaced out
unfolding Spells
either_within true levels out text all h = events_within IsPlaced 1 after_dc levels out text all h
either_within false levels out text all h = subst (λ (l : List ℤ). AreAll IsPlaced l) (sym h.0) all

placed_level : (k : ℕ) (z : ℤ) → 1 ≤ k → IsPlaced k z → IsLevel z
unfolding IsPlaced
placed_level zero z after is = absurd (omega arith)
placed_level (suc k) z after is = is

pub intra_within : (coded : Bool) (levels : List ℤ) (text : List Bool) → Spells (intra_block coded) levels text
    → IsIntraBlock (record { levels = levels })
unfolding Spells intra_block IsPlaced
intra_within coded levels text h =
    let all = either_within coded h.0 levels h.2 (dc_within h.0 h.1 h.4) h.6 in
    record { dc = all 0; levels = λ k after lt. placed_level k (level_in_list levels k) after (all k) }

pub are_in_range : AreInRange
are_in_range = record { intra = intra_within; inter = inter_within }
