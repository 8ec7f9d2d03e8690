-- What the words spell is in its range.
use Rattle.std.proofs.Common.{◌≡◌, ℕ, ◌-◌, ◌<◌, Bool, true, false, refl, sym, subst, arith, inl, inr, List}
use Rattle.std.specs.Prelude.{ℤ, pos, negsuc, ◌≤ℤ◌, ◌==◌, ◌||◌, nat_lt}
use Rattle.std.specs.List.{list_all}
use Rattle.std.proofs.lemmas.Int.{ints}
use Rattle.std.proofs.lemmas.Bool.{ltb-true, eqb-true, or_cases}
use Rattle.h263_types.specs.declared.Kind.{Kind}
use Rattle.h263_types.specs.declared.Kind.TheVariants as kinds
use Rattle.h263_bits.specs.Syntax.{Spells}
use Rattle.h263_bits.proofs.SyntaxLaws.{stands_within}
use Rattle.code_tables.specs.declared.macroblock.MbClass.TheVariants.{Inter, InterQ, Inter4, Intra, IntraQ}
use Rattle.code_tables.specs.declared.macroblock.Mcbpc.{Mcbpc}
use Rattle.code_tables.specs.declared.macroblock.Mcbpc.TheVariants.{Stuffing, Word}
use Rattle.code_tables.specs.Mcbpc.{mcbpc, mcbpc_table, mcbpc_words, class_texts, dquant, dquant_table, dquant_words, IsInTable, IsStep}
use Rattle.code_tables.specs.Tables.{cbpy, cbpy_table, cbpy_words, cbpy_texts, mvd, mvd_words, magnitude_texts}
use Rattle.code_tables.proofs.SignedWords.{mvd_in}

-- ---- MCBPC

is_listed : Kind → Mcbpc → Bool
is_listed kinds.I Stuffing = true
is_listed kinds.P Stuffing = true
is_listed kinds.P (Word class cbpc) = nat_lt cbpc 4
is_listed kinds.I (Word Intra cbpc) = nat_lt cbpc 4
is_listed kinds.I (Word IntraQ cbpc) = nat_lt cbpc 4
is_listed kinds.I (Word Inter cbpc) = false
is_listed kinds.I (Word InterQ cbpc) = false
is_listed kinds.I (Word Inter4 cbpc) = false

in_table : (kind : Kind) (m : Mcbpc) → is_listed kind m ≡ true → IsInTable kind m
unfolding is_listed
in_table kinds.I Stuffing e = tt
in_table kinds.P Stuffing e = tt
in_table kinds.P (Word class cbpc) e = ltb-true cbpc 4 e
in_table kinds.I (Word Intra cbpc) e = (ltb-true cbpc 4 e, inl refl)
in_table kinds.I (Word IntraQ cbpc) e = (ltb-true cbpc 4 e, inr refl)
in_table kinds.I (Word Inter cbpc) e = absurd cc
in_table kinds.I (Word InterQ cbpc) e = absurd cc
in_table kinds.I (Word Inter4 cbpc) e = absurd cc

all_listed : (kind : Kind) → list_all (λ w. is_listed kind w.1) (mcbpc_words kind) ≡ true
unfolding mcbpc_words class_texts is_listed
all_listed kinds.I = refl
all_listed kinds.P = refl

pub mcbpc_within : (kind : Kind) (m : Mcbpc) (text : List Bool) → Spells (mcbpc kind) m text → IsInTable kind m
unfolding Spells mcbpc mcbpc_table
mcbpc_within kinds.I m text h = in_table kinds.I m (subst (λ (x : Mcbpc). is_listed kinds.I x ≡ true) (sym h.5.0)
    (stands_within (is_listed kinds.I) (mcbpc_words kinds.I) (h.0, h.1) (all_listed kinds.I) h.3))
mcbpc_within kinds.P m text h = in_table kinds.P m (subst (λ (x : Mcbpc). is_listed kinds.P x ≡ true) (sym h.5.0)
    (stands_within (is_listed kinds.P) (mcbpc_words kinds.P) (h.0, h.1) (all_listed kinds.P) h.3))

-- ---- CBPY

all_small : list_all (λ w. nat_lt w.1 16) cbpy_words ≡ true
unfolding cbpy_words cbpy_texts
all_small = refl

pub cbpy_within : (intra : Bool) (pattern : ℕ) (text : List Bool) → Spells (cbpy intra) pattern text → pattern < 16
unfolding Spells cbpy cbpy_table
cbpy_within true pattern text h = let lt = ltb-true h.1 16 (stands_within (λ n. nat_lt n 16) cbpy_words (
  h.0,
  h.1,
) all_small h.3) in subst (λ (n : ℕ). n < 16) (sym h.5.0) lt
cbpy_within false pattern text h = let lt : 15 - h.1 < 16 = omega arith in subst (λ (n : ℕ). n < 16) (sym h.5.0) lt

-- ---- DQUANT

is_step : ℤ → Bool
is_step (pos n) = (n == 1) || (n == 2)
is_step (negsuc n) = (n == 0) || (n == 1)

step_is : (z : ℤ) → is_step z ≡ true → IsStep z
unfolding is_step
step_is (pos n) e = elim (or_cases (n == 1) (n == 2) e) [ inl h ↦ inl (eqb-true n 1 h) | inr h ↦ inr (eqb-true n 2 h) ]
step_is (negsuc n) e = elim (or_cases (n == 0) (n == 1) e) [
  | inl h ↦ inl (eqb-true n 0 h)
  | inr h ↦ inr (eqb-true n 1 h)
]

all_steps : list_all (λ w. is_step w.1) dquant_words ≡ true
unfolding dquant_words is_step
all_steps = refl

pub dquant_within : (step : ℤ) (text : List Bool) → Spells dquant step text → IsStep step
unfolding Spells dquant dquant_table
dquant_within step text h = step_is step (subst (λ (z : ℤ). is_step z ≡ true) (sym h.5.0)
    (stands_within is_step dquant_words (h.0, h.1) all_steps h.3))

-- ---- MVD

is_near : ℤ → Bool
is_near (pos n) = nat_lt n 32
is_near (negsuc n) = nat_lt n 32

all_near : list_all (λ w. is_near w.1) mvd_words ≡ true
unfolding mvd_words magnitude_texts is_near
all_near = refl

near : (value : ℤ) (text : List Bool) → Spells mvd value text → is_near value ≡ true
near value text h = stands_within is_near mvd_words (text, value) all_near (mvd_in value text h)

low : (z : ℤ) → is_near z ≡ true → negsuc 31 ≤ℤ z
unfolding is_near
low (pos n) e = let lt = ltb-true n 32 e in omega (arith, ints)
low (negsuc n) e = let lt = ltb-true n 32 e in omega (arith, ints)

high : (z : ℤ) → is_near z ≡ true → z ≤ℤ pos 31
unfolding is_near
high (pos n) e = let lt = ltb-true n 32 e in omega (arith, ints)
high (negsuc n) e = let lt = ltb-true n 32 e in omega (arith, ints)

pub mvd_low : (value : ℤ) (text : List Bool) → Spells mvd value text → negsuc 31 ≤ℤ value
mvd_low value text h = low value (near value text h)

pub mvd_high : (value : ℤ) (text : List Bool) → Spells mvd value text → value ≤ℤ pos 31
mvd_high value text h = high value (near value text h)
