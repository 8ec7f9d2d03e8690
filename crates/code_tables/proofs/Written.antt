-- What is written for a value is a text of it.
use Rattle.std.proofs.lemmas.Int.{ints}
use Rattle.std.proofs.lemmas.List.{append-nil}
use Rattle.std.proofs.lemmas.Bool.{ne_eqb}
use Rattle.std.proofs.Common.{zero-add, ◌≡◌, ◌⊎◌, ℕ, zero, suc, ◌+◌, ◌-◌, ◌<◌, Bool, true, false, refl, ap, sym, ◌∙◌, subst, arith, inl, inr, List, [], ◌∷◌, ◌++◌, length, eqb, None}
use Rattle.std.specs.Prelude.{ℤ, pos, negsuc, ◌≤ℤ◌}
use Rattle.h263_types.specs.declared.Kind.{Kind}
use Rattle.h263_types.specs.declared.Kind.TheVariants as kinds
use Rattle.h263_bits.specs.Bits.{spelled}
use Rattle.h263_bits.specs.Syntax.{Syntax, Spells, IsIn, reading, any, field, done, either, found, begins, word_at}
use Rattle.h263_bits.proofs.SyntaxLaws.{spells_code, spells_done, spells_field, spells_element, spells_whole, spelled_whole}
use Rattle.code_tables.specs.declared.macroblock.MbClass.TheVariants.{Inter, InterQ, Inter4, Intra, IntraQ}
use Rattle.code_tables.specs.declared.macroblock.Mcbpc.{Mcbpc}
use Rattle.code_tables.specs.declared.macroblock.Mcbpc.TheVariants.{Stuffing, Word}
use Rattle.code_tables.specs.Words.{numbered_from, text_at}
use Rattle.code_tables.specs.Mcbpc.{mcbpc, mcbpc_table, mcbpc_words, mcbpc_text, class_texts, dquant, dquant_table, dquant_words, dquant_text, IsInTable, IsStep}
use Rattle.code_tables.specs.Tables.{cbpy, cbpy_table, cbpy_words, cbpy_texts, cbpy_text, mvd, mvd_parts, mvd_text, magnitude_table, magnitude_words, magnitude_texts, signed, allowed_difference, size_of, sign_text}
use Rattle.code_tables.proofs.Texts.{four, no_inter}

inter_written : (m : Mcbpc) → IsInTable kinds.P m → Spells (mcbpc kinds.P) m (mcbpc_text kinds.P m)
unfolding mcbpc mcbpc_table mcbpc_words mcbpc_text class_texts reading word_at found begins
inter_written Stuffing t = spelled_whole (mcbpc kinds.P) _ _ refl
inter_written (Word Inter n) lt = four (λ k. Spells (mcbpc kinds.P) (Word Inter k) (mcbpc_text kinds.P (Word Inter k)))
    (spelled_whole (mcbpc kinds.P) _ _ refl) (spelled_whole (mcbpc kinds.P) _ _ refl)
    (spelled_whole (mcbpc kinds.P) _ _ refl) (spelled_whole (mcbpc kinds.P) _ _ refl) n lt
inter_written (Word InterQ n) lt =
    four (λ k. Spells (mcbpc kinds.P) (Word InterQ k) (mcbpc_text kinds.P (Word InterQ k)))
    (spelled_whole (mcbpc kinds.P) _ _ refl) (spelled_whole (mcbpc kinds.P) _ _ refl)
    (spelled_whole (mcbpc kinds.P) _ _ refl) (spelled_whole (mcbpc kinds.P) _ _ refl) n lt
inter_written (Word Inter4 n) lt =
    four (λ k. Spells (mcbpc kinds.P) (Word Inter4 k) (mcbpc_text kinds.P (Word Inter4 k)))
    (spelled_whole (mcbpc kinds.P) _ _ refl) (spelled_whole (mcbpc kinds.P) _ _ refl)
    (spelled_whole (mcbpc kinds.P) _ _ refl) (spelled_whole (mcbpc kinds.P) _ _ refl) n lt
inter_written (Word Intra n) lt = four (λ k. Spells (mcbpc kinds.P) (Word Intra k) (mcbpc_text kinds.P (Word Intra k)))
    (spelled_whole (mcbpc kinds.P) _ _ refl) (spelled_whole (mcbpc kinds.P) _ _ refl)
    (spelled_whole (mcbpc kinds.P) _ _ refl) (spelled_whole (mcbpc kinds.P) _ _ refl) n lt
inter_written (Word IntraQ n) lt =
    four (λ k. Spells (mcbpc kinds.P) (Word IntraQ k) (mcbpc_text kinds.P (Word IntraQ k)))
    (spelled_whole (mcbpc kinds.P) _ _ refl) (spelled_whole (mcbpc kinds.P) _ _ refl)
    (spelled_whole (mcbpc kinds.P) _ _ refl) (spelled_whole (mcbpc kinds.P) _ _ refl) n lt

intra_written : (m : Mcbpc) → IsInTable kinds.I m → Spells (mcbpc kinds.I) m (mcbpc_text kinds.I m)
unfolding mcbpc mcbpc_table mcbpc_words mcbpc_text class_texts reading word_at found begins
intra_written Stuffing t = spelled_whole (mcbpc kinds.I) _ _ refl
intra_written (Word Inter n) t = absurd (no_inter Inter t.1 (inl refl))
intra_written (Word InterQ n) t = absurd (no_inter InterQ t.1 (inr (inl refl)))
intra_written (Word Inter4 n) t = absurd (no_inter Inter4 t.1 (inr (inr refl)))
intra_written (Word Intra n) t = four (λ k. Spells (mcbpc kinds.I) (Word Intra k) (mcbpc_text kinds.I (Word Intra k)))
    (spelled_whole (mcbpc kinds.I) _ _ refl) (spelled_whole (mcbpc kinds.I) _ _ refl)
    (spelled_whole (mcbpc kinds.I) _ _ refl) (spelled_whole (mcbpc kinds.I) _ _ refl) n t.0
intra_written (Word IntraQ n) t =
    four (λ k. Spells (mcbpc kinds.I) (Word IntraQ k) (mcbpc_text kinds.I (Word IntraQ k)))
    (spelled_whole (mcbpc kinds.I) _ _ refl) (spelled_whole (mcbpc kinds.I) _ _ refl)
    (spelled_whole (mcbpc kinds.I) _ _ refl) (spelled_whole (mcbpc kinds.I) _ _ refl) n t.0

pub mcbpc_written : (kind : Kind) (m : Mcbpc) → IsInTable kind m → Spells (mcbpc kind) m (mcbpc_text kind m)
mcbpc_written kinds.I m within = intra_written m within
mcbpc_written kinds.P m within = inter_written m within

step_written_pos : (n : ℕ) → (n ≡ 1) ⊎ (n ≡ 2) → Spells dquant (pos n) (dquant_text (pos n))
unfolding dquant dquant_table dquant_words dquant_text reading word_at found begins
step_written_pos n (inl e) = subst (λ (k : ℕ). Spells dquant (pos k) (dquant_text (pos k))) (sym e)
    (spelled_whole dquant _ _ refl)
step_written_pos n (inr e) = subst (λ (k : ℕ). Spells dquant (pos k) (dquant_text (pos k))) (sym e)
    (spelled_whole dquant _ _ refl)

step_written_negsuc : (n : ℕ) → (n ≡ 0) ⊎ (n ≡ 1) → Spells dquant (negsuc n) (dquant_text (negsuc n))
unfolding dquant dquant_table dquant_words dquant_text reading word_at found begins
step_written_negsuc n (inl e) = subst (λ (k : ℕ). Spells dquant (negsuc k) (dquant_text (negsuc k))) (sym e)
    (spelled_whole dquant _ _ refl)
step_written_negsuc n (inr e) = subst (λ (k : ℕ). Spells dquant (negsuc k) (dquant_text (negsuc k))) (sym e)
    (spelled_whole dquant _ _ refl)

pub dquant_written : (z : ℤ) → IsStep z → Spells dquant z (dquant_text z)
dquant_written (pos n) is = step_written_pos n is
dquant_written (negsuc n) is = step_written_negsuc n is

-- ---- words that stand for their places

pub in_numbers : (texts : List (List Bool)) (k n : ℕ) → n < length texts
    → IsIn (text_at texts n, k + n) (numbered_from k texts)
in_numbers [] k n lt = absurd (omega arith)
in_numbers (t ∷ ts) k zero lt = let e : k ≡ k + 0 = omega arith in inl (ap (λ (i : ℕ). (t, i)) e)
in_numbers (t ∷ ts) k (suc n) lt =
    let e : suc k + n ≡ k + suc n = omega arith in
    inr (subst (λ (i : ℕ). IsIn (text_at ts n, i) (numbered_from (suc k) ts)) e (in_numbers ts (suc k) n (omega arith)))

in_table : (texts : List (List Bool)) (n : ℕ) → n < length texts → IsIn (text_at texts n, n) (numbered_from 0 texts)
in_table texts n lt = subst (λ (i : ℕ). IsIn (text_at texts n, i) (numbered_from 0 texts)) (zero-add n)
    (in_numbers texts 0 n lt)

pub cbpy_written : (intra : Bool) (pattern : ℕ) → pattern < 16 → Spells (cbpy intra) pattern (cbpy_text intra pattern)
unfolding cbpy cbpy_table cbpy_words cbpy_texts cbpy_text
cbpy_written true pattern lt =
    spells_whole (cbpy true) pattern (text_at cbpy_texts pattern ++ []) _ (append-nil _)
    (spells_code cbpy_table (λ p. done p) pattern (text_at cbpy_texts pattern) pattern []
    (in_table cbpy_texts pattern lt) (spells_done pattern))
cbpy_written false pattern lt =
    let e : pattern ≡ 15 - (15 - pattern) = omega arith in
    spells_whole (cbpy false) pattern (text_at cbpy_texts (15 - pattern) ++ []) _ (append-nil _)
    (spells_code cbpy_table (λ p. done (15 - p)) pattern (text_at cbpy_texts (15 - pattern)) (15 - pattern) []
    (in_table cbpy_texts (15 - pattern) (omega arith)) (subst (λ (k : ℕ). Spells (done k) pattern []) e
    (spells_done pattern)))

-- ---- differences of vectors

abbrev signs : ℕ → Syntax ℤ
signs size = field 1 any λ sign. done (signed sign size)

abbrev behind : ℕ → Syntax ℤ
behind size = either (eqb size 0) (done (pos 0)) (signs size)

with_sign : (b : Bool) (size : ℕ) (a : ℤ) (text : List Bool) → b ≡ false → Spells (signs size) a text
    → Spells (either b (done (pos 0)) (signs size)) a text
with_sign false size a text e h = h
with_sign true size a text e h = cc

some : (n : ℕ) → eqb (suc n) 0 ≡ false
some n = ne_eqb (suc n) 0 (λ (e : suc n ≡ 0). omega (arith, e))

plus_sign : (n : ℕ) → sign_text (pos (suc n)) ≡ false ∷ []
plus_sign n = rw (some n) refl

one_sign : (sign size : ℕ) (a : ℤ) (text : List Bool) → sign < 2 → spelled 1 sign ≡ text → a ≡ signed sign size
    → Spells (signs size) a text
one_sign sign size a text lt same is =
    spells_whole (signs size) a (spelled 1 sign ++ []) text (append-nil _
    ∙ same) (spells_field 1 any (λ s. done (signed s size)) a sign [] lt refl
    (subst (λ (z : ℤ). Spells (done z) a []) is (spells_done a)))

parts_written : (v : ℤ) → size_of v < 33 → Spells mvd_parts v (text_at magnitude_texts (size_of v) ++ sign_text v)
unfolding mvd_parts magnitude_table magnitude_words magnitude_texts spelled
parts_written (pos zero) lt = spells_code magnitude_table behind (pos 0) (text_at magnitude_texts 0) 0 []
    (in_table magnitude_texts 0 lt) (spells_done (pos 0))
parts_written (pos (suc n)) lt =
    subst (λ (t : List Bool). Spells mvd_parts (pos (suc n)) (text_at magnitude_texts (suc n) ++ t)) (sym (plus_sign n))
    (spells_code magnitude_table behind (pos (suc n)) (text_at magnitude_texts (suc n)) (suc n) (false ∷ [])
    (in_table magnitude_texts (suc n) lt)
    (with_sign (eqb (suc n) 0) (suc n) (pos (suc n)) (false ∷ []) (some n)
    (one_sign 0 (suc n) (pos (suc n)) (false ∷ []) (omega arith) refl refl)))
parts_written (negsuc n) lt =
    spells_code magnitude_table behind (negsuc n) (text_at magnitude_texts (suc n)) (suc n) (true ∷ [])
    (in_table magnitude_texts (suc n) lt)
    (with_sign (eqb (suc n) 0) (suc n) (negsuc n) (true ∷ []) (some n) (one_sign 1 (suc n) (negsuc n) (true ∷ [])
    (omega arith) refl refl))

in_size : (v : ℤ) → negsuc 31 ≤ℤ v → v ≤ℤ pos 31 → size_of v < 33
in_size (pos n) low high = omega (arith, ints)
in_size (negsuc n) low high = omega (arith, ints)

allowed : (v : ℤ) → v ≤ℤ pos 31 → allowed_difference v ≡ None
allowed (pos n) high = rw (ne_eqb n 32 (λ (e : n ≡ 32). omega (arith, ints, e))) refl
allowed (negsuc n) high = refl

pub mvd_written : (v : ℤ) → negsuc 31 ≤ℤ v → v ≤ℤ pos 31 → Spells mvd v (mvd_text v)
unfolding mvd mvd_text
mvd_written v low high =
    spells_whole mvd v ((text_at magnitude_texts (size_of v) ++ sign_text v) ++ []) _ (append-nil _)
    (spells_element mvd_parts allowed_difference (λ z. done z) v v (text_at magnitude_texts (size_of v)
    ++ sign_text v) [] (parts_written v (in_size v low high)) (allowed v high) (spells_done v))
