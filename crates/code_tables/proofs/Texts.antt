-- The words as the code has them are the texts of the standard.
use Rattle.std.proofs.lemmas.List.{get_or-map}
use Rattle.code_tables.specs.Tables.{cbpy_texts, magnitude_texts}
use Rattle.std.proofs.Common.{◌≡◌, ◌⊎◌, ℕ, zero, suc, ◌+◌, ◌<◌, Bool, refl, ap, sym, ◌∙◌, subst, arith, inl, inr, List, [], length, get_or}
use Rattle.std.specs.Prelude.{ℤ, pos, negsuc, slice_index_or, map}
use Rattle.h263_types.specs.declared.Kind.TheVariants as kinds
use Rattle.h263_bits.specs.Bits.{spelled}
use Rattle.code_tables.specs.declared.code.Code.{Code}
use Rattle.code_tables.specs.declared.macroblock.MbClass.{MbClass}
use Rattle.code_tables.specs.declared.macroblock.MbClass.TheVariants.{Inter, InterQ, Inter4, Intra, IntraQ}
use Rattle.code_tables.specs.declared.macroblock.Mcbpc.{Mcbpc}
use Rattle.code_tables.specs.declared.macroblock.Mcbpc.TheVariants.{Stuffing, Word}
use Rattle.code_tables.specs.declared.tables.TheConstants.{INTER_MCBPC, INTRA_MCBPC, STEPS, CBPY, MAGNITUDES}
use Rattle.code_tables.specs.Words.{code_at, word_of, text_at}
use Rattle.code_tables.specs.Mcbpc.{class_texts, IsInTable, IsStep, mcbpc_text, dquant_text}
use Rattle.code_tables.specs.Places.{inter_place_of, intra_place_of, step_place_of}

-- a fact for each of four numbers
pub four : (P : ℕ → Type 0) → P 0 → P 1 → P 2 → P 3 → (n : ℕ) → n < 4 → P n
four P a b c d zero lt = a
four P a b c d (suc zero) lt = b
four P a b c d (suc (suc zero)) lt = c
four P a b c d (suc (suc (suc zero))) lt = d
four P a b c d (suc (suc (suc (suc n)))) lt = absurd (omega arith)

pub inter_text : (m : Mcbpc) → IsInTable kinds.P m → word_of (code_at INTER_MCBPC (inter_place_of m))
    ≡ mcbpc_text kinds.P m
unfolding mcbpc_text class_texts spelled
inter_text Stuffing t = refl
inter_text (Word Inter n) lt = four (λ k. word_of (code_at INTER_MCBPC (0 + k))
    ≡ slice_index_or (class_texts kinds.P Inter) k []) refl refl refl refl n lt
inter_text (Word InterQ n) lt = four (λ k. word_of (code_at INTER_MCBPC (4 + k))
    ≡ slice_index_or (class_texts kinds.P InterQ) k []) refl refl refl refl n lt
inter_text (Word Inter4 n) lt = four (λ k. word_of (code_at INTER_MCBPC (8 + k))
    ≡ slice_index_or (class_texts kinds.P Inter4) k []) refl refl refl refl n lt
inter_text (Word Intra n) lt = four (λ k. word_of (code_at INTER_MCBPC (12 + k))
    ≡ slice_index_or (class_texts kinds.P Intra) k []) refl refl refl refl n lt
inter_text (Word IntraQ n) lt = four (λ k. word_of (code_at INTER_MCBPC (16 + k))
    ≡ slice_index_or (class_texts kinds.P IntraQ) k []) refl refl refl refl n lt

-- in an I picture a macroblock is intra
pub no_inter : (class : MbClass) → (class ≡ Intra) ⊎ (class ≡ IntraQ)
    → (class ≡ Inter) ⊎ ((class ≡ InterQ) ⊎ (class ≡ Inter4)) → ⊥
no_inter Inter (inl e) h = cc
no_inter Inter (inr e) h = cc
no_inter InterQ (inl e) h = cc
no_inter InterQ (inr e) h = cc
no_inter Inter4 (inl e) h = cc
no_inter Inter4 (inr e) h = cc
no_inter Intra c (inl e) = cc
no_inter Intra c (inr (inl e)) = cc
no_inter Intra c (inr (inr e)) = cc
no_inter IntraQ c (inl e) = cc
no_inter IntraQ c (inr (inl e)) = cc
no_inter IntraQ c (inr (inr e)) = cc

pub intra_text : (m : Mcbpc) → IsInTable kinds.I m → word_of (code_at INTRA_MCBPC (intra_place_of m))
    ≡ mcbpc_text kinds.I m
unfolding mcbpc_text class_texts spelled
intra_text Stuffing t = refl
intra_text (Word Inter n) t = absurd (no_inter Inter t.1 (inl refl))
intra_text (Word InterQ n) t = absurd (no_inter InterQ t.1 (inr (inl refl)))
intra_text (Word Inter4 n) t = absurd (no_inter Inter4 t.1 (inr (inr refl)))
intra_text (Word Intra n) t = four (λ k. word_of (code_at INTRA_MCBPC k)
    ≡ slice_index_or (class_texts kinds.I Intra) k []) refl refl refl refl n t.0
intra_text (Word IntraQ n) t = four (λ k. word_of (code_at INTRA_MCBPC (4 + k))
    ≡ slice_index_or (class_texts kinds.I IntraQ) k []) refl refl refl refl n t.0

step_text_pos : (n : ℕ) → (n ≡ 1) ⊎ (n ≡ 2) → word_of (code_at STEPS (step_place_of (pos n))) ≡ dquant_text (pos n)
unfolding dquant_text spelled
step_text_pos n (inl e) = subst (λ (k : ℕ). word_of (code_at STEPS (step_place_of (pos k))) ≡ dquant_text (pos k))
    (sym e) refl
step_text_pos n (inr e) = subst (λ (k : ℕ). word_of (code_at STEPS (step_place_of (pos k))) ≡ dquant_text (pos k))
    (sym e) refl

step_text_negsuc : (n : ℕ) → (n ≡ 0) ⊎ (n ≡ 1) → word_of (code_at STEPS (step_place_of (negsuc n)))
    ≡ dquant_text (negsuc n)
unfolding dquant_text spelled
step_text_negsuc n (inl e) = subst (λ (k : ℕ). word_of (code_at STEPS (step_place_of (negsuc k)))
    ≡ dquant_text (negsuc k)) (sym e) refl
step_text_negsuc n (inr e) = subst (λ (k : ℕ). word_of (code_at STEPS (step_place_of (negsuc k)))
    ≡ dquant_text (negsuc k)) (sym e) refl

pub step_text : (z : ℤ) → IsStep z → word_of (code_at STEPS (step_place_of z)) ≡ dquant_text z
step_text (pos n) s = step_text_pos n s
step_text (negsuc n) s = step_text_negsuc n s

-- ---- tables whose words stand for their places

place_text : (codes : List Code) (texts : List (List Bool)) (n : ℕ) → texts ≡ map word_of codes → n < length codes
    → word_of (code_at codes n) ≡ text_at texts n
place_text codes texts n same lt =
    sym (get_or-map word_of codes n (record { bits = 0; len = 0 }) [] lt)
    ∙ sym (ap (λ (ts : List (List Bool)). get_or ts n []) same)

cbpy_same : cbpy_texts ≡ map word_of CBPY
unfolding cbpy_texts spelled
cbpy_same = refl

magnitudes_same : magnitude_texts ≡ map word_of MAGNITUDES
unfolding magnitude_texts spelled
magnitudes_same = refl

pub pattern_text : (n : ℕ) → n < 16 → word_of (code_at CBPY n) ≡ text_at cbpy_texts n
pattern_text n lt = place_text CBPY cbpy_texts n cbpy_same lt

pub magnitude_text : (n : ℕ) → n < 33 → word_of (code_at MAGNITUDES n) ≡ text_at magnitude_texts n
magnitude_text n lt = place_text MAGNITUDES magnitude_texts n magnitudes_same lt
