-- MVD by its words with their signs.
use Rattle.std.proofs.Common.{◌≡◌, ◌⊎◌, ℕ, zero, suc, ◌+◌, ◌<◌, ◌≤◌, Bool, true, false, refl, ap, sym, ◌∙◌, subst, cond, add-zero, append_assoc, arith, inl, inr, List, [], ◌∷◌, ◌++◌, length, drop, eqb, Some, None, Err}
use Rattle.std.specs.Prelude.{ℤ, pos, negsuc, neg_ℤ, ◌↔◌, ◌&&◌, not}
use Rattle.std.specs.List.{list_all}
use Rattle.std.proofs.lemmas.List.{append-nil}
use Rattle.std.proofs.lemmas.Bool.{ne_eqb, eqb-true}
use Rattle.h263_bits.specs.declared.fault.Fault.{Fault}
use Rattle.h263_bits.specs.declared.fault.FaultKind.{FaultKind}
use Rattle.h263_bits.specs.declared.fault.FaultKind.TheVariants.{BadCode}
use Rattle.h263_bits.specs.Bits.{spelled}
use Rattle.h263_bits.specs.Reading.{Bits}
use Rattle.h263_bits.specs.Syntax.{Syntax, IsIn, Spells, reading, any, field, done, either, begins, is_prefix_free}
use Rattle.h263_bits.specs.Elements.{IsFieldFault, IsWordOf, IsWordFault, ElementFaults}
use Rattle.h263_bits.proofs.SyntaxLaws.{begins_parts, begins_itself, both_begin, fault_found, no_word_of_front, apart_words, exact_words}
use Rattle.code_tables.specs.Words.{word, numbered_from, text_at}
use Rattle.code_tables.specs.Tables.{magnitude_texts, magnitude_words, magnitude_table, mvd, mvd_parts, mvd_words, with_signs, signed, allowed_difference}
use Rattle.code_tables.proofs.Productive.{mvd_productive}

abbrev Signed : List Bool → Type 0
Signed w = IsWordOf mvd_words w

-- ---- words that stand for their numbers

from_on : (texts : List (List Bool)) (n size : ℕ) (w : List Bool) → IsIn (w, size) (numbered_from n texts)
    → (n ≤ size) × (size < n + length texts)
from_on [] n size w h = absurd h
from_on (t ∷ ts) n size w (inl same) = let e : n ≡ size = ap (λ (p : List Bool × ℕ). p.1) same in
    (omega (arith, e), omega (arith, e))
from_on (t ∷ ts) n size w (inr h) = let m = from_on ts (suc n) size w h in (omega (arith, m.0), omega (arith, m.1))

-- the word of a number is the text at its place
text_of : (texts : List (List Bool)) (n k size : ℕ) (w : List Bool) → IsIn (w, size) (numbered_from n texts)
    → size ≡ n + k → w ≡ text_at texts k
text_of [] n k size w h e = absurd h
text_of (t ∷ ts) n zero size w (inl same) e = sym (ap (λ (p : List Bool × ℕ). p.0) same)
text_of (t ∷ ts) n zero size w (inr h) e = let m = from_on ts (suc n) size w h in absurd (omega (arith, m.0, e))
text_of (t ∷ ts) n (suc k) size w (inl same) e = let s : n ≡ size = ap (λ (p : List Bool × ℕ). p.1) same in
    absurd (omega (arith, s, e))
text_of (t ∷ ts) n (suc k) size w (inr h) e = text_of ts (suc n) k size w h (omega (arith, e))

-- with a sign, which is minus alone after the last
signed_in : (texts : List (List Bool)) (n size : ℕ) (w : List Bool) (sign : ℕ) → IsIn (w, size) (numbered_from n texts)
    → sign < 2 → (sign ≡ 0 → suc size < n + length texts)
    → IsIn (w ++ spelled 1 sign, signed sign size) (with_signs n texts)
unfolding spelled
signed_in [] n size w sign h lt last = absurd h
signed_in (t ∷ []) n size w zero (inl same) lt last = let e : n ≡ size = ap (λ (p : List Bool × ℕ). p.1) same in
    absurd (omega (arith, e, last refl))
signed_in (t ∷ []) n size w (suc zero) (inl same) lt last = subst (λ (u : List Bool × ℕ). IsIn (
  u.0 ++ true ∷ [],
  neg_ℤ (pos u.1),
) (with_signs n (t ∷ []))) same (inl refl)
signed_in (t ∷ []) n size w (suc (suc k)) (inl same) lt last = absurd (omega arith)
signed_in (t ∷ []) n size w sign (inr h) lt last = absurd h
signed_in (t ∷ v ∷ ts) n size w zero (inl same) lt last = subst (λ (u : List Bool × ℕ). IsIn (
  u.0 ++ false ∷ [],
  pos u.1,
) (with_signs n (t ∷ v ∷ ts))) same (inl refl)
signed_in (t ∷ v ∷ ts) n size w (suc zero) (inl same) lt last = subst (λ (u : List Bool × ℕ). IsIn (
  u.0 ++ true ∷ [],
  neg_ℤ (pos u.1),
) (with_signs n (t ∷ v ∷ ts))) same (inr (inl refl))
signed_in (t ∷ v ∷ ts) n size w (suc (suc k)) (inl same) lt last = absurd (omega arith)
signed_in (t ∷ v ∷ ts) n size w sign (inr h) lt last =
    inr (inr (signed_in (v ∷ ts) (suc n) size w sign h lt (λ z. omega (arith, last z))))

-- each word with a sign has its magnitude first
pub record HasMagnitude (texts : List (List Bool)) (n : ℕ) (w : List Bool) : Type 0 where
  pub word : List Bool
  pub size : ℕ
  pub sign : List Bool
  pub listed : IsIn (word, size) (numbered_from n texts)
  pub parts : w ≡ word ++ sign

magnitude_in : (texts : List (List Bool)) (n : ℕ) (w : List Bool) (x : ℤ) → IsIn (w, x) (with_signs n texts)
    → HasMagnitude texts n w
magnitude_in [] n w x h = absurd h
magnitude_in (t ∷ []) n w x (inl same) = record {
  word = t;
  size = n;
  sign = true ∷ [];
  listed = inl refl;
  parts = sym (ap (λ (p : List Bool × ℤ). p.0) same);
}
magnitude_in (t ∷ []) n w x (inr h) = absurd h
magnitude_in (t ∷ v ∷ ts) n w x (inl same) = record {
  word = t;
  size = n;
  sign = false ∷ [];
  listed = inl refl;
  parts = sym (ap (λ (p : List Bool × ℤ). p.0) same);
}
magnitude_in (t ∷ v ∷ ts) n w x (inr (inl same)) = record {
  word = t;
  size = n;
  sign = true ∷ [];
  listed = inl refl;
  parts = sym (ap (λ (p : List Bool × ℤ). p.0) same);
}
magnitude_in (t ∷ v ∷ ts) n w x (inr (inr h)) =
    let m = magnitude_in (v ∷ ts) (suc n) w x h in
    record { word = m.word; size = m.size; sign = m.sign; listed = inr m.listed; parts = m.parts }

-- ---- the table of MVD

-- 0, or a magnitude from 1 on
first_or : (w : List Bool) (size : ℕ) → IsIn (w, size) magnitude_words → ((w ≡ word "1") × (size ≡ 0))
    ⊎ IsIn (w, size) (numbered_from 1 (drop 1 magnitude_texts))
unfolding magnitude_words magnitude_texts
first_or w size (inl same) = inl (
  sym (ap (λ (p : List Bool × ℕ). p.0) same),
  sym (ap (λ (p : List Bool × ℕ). p.1) same),
)
first_or w size (inr h) = inr h

many : length (drop 1 magnitude_texts) ≡ 32
unfolding magnitude_texts
many = refl

-- the word of a magnitude from 1 on, with a sign that it may have
with_sign_in : (w : List Bool) (size sign : ℕ) → IsIn (w, size) (numbered_from 1 (drop 1 magnitude_texts)) → sign < 2
    → (sign ≡ 0 → size ≡ 32 → ⊥) → IsIn (w ++ spelled 1 sign, signed sign size) mvd_words
unfolding mvd_words
with_sign_in w size sign h lt below =
    let m = from_on (drop 1 magnitude_texts) 1 size w h in
    inr (signed_in (drop 1 magnitude_texts) 1 size w sign h lt (λ z. omega (arith, m.1, many, below z)))

zero_in : IsIn (word "1", pos 0) mvd_words
unfolding mvd_words
zero_in = inl refl

minus : spelled 1 1 ≡ true ∷ []
unfolding spelled
minus = refl

-- each magnitude begins a word
grown : (w : List Bool) (size : ℕ) → IsIn (w, size) magnitude_words → (sign : List Bool) × Signed (w ++ sign)
grown w size h = at (first_or w size h)
  where
    at : ((w ≡ word "1") × (size ≡ 0)) ⊎ IsIn (w, size) (numbered_from 1 (drop 1 magnitude_texts))
        → (sign : List Bool) × Signed (w ++ sign)
    at (inl z) = (
      [],
      (
        pos 0,
        subst (λ (u : List Bool). IsIn (u, pos 0) mvd_words) (sym z.0
            ∙ sym (append-nil w)) zero_in,
      ),
    )
    at (inr i) = (
      spelled 1 1,
      (signed 1 size, with_sign_in w size 1 i (omega arith) (λ z e. absurd (omega (arith, z)))),
    )

-- and each word begins with a magnitude
shrunk : (w : List Bool) (x : ℤ) → IsIn (w, x) mvd_words → HasMagnitude magnitude_texts 0 w
unfolding mvd_words magnitude_words magnitude_texts
shrunk w x (inl same) = record {
  word = word "1";
  size = 0;
  sign = [];
  listed = inl refl;
  parts = sym (ap (λ (p : List Bool × ℤ). p.0) same);
}
shrunk w x (inr h) =
    let m = magnitude_in (drop 1 magnitude_texts) 1 w x h in
    record { word = m.word; size = m.size; sign = m.sign; listed = inr m.listed; parts = m.parts }

listed_words : (w : List Bool) (size : ℕ) → IsIn (w, size) (numbered_from 0 magnitude_texts)
    → IsIn (w, size) magnitude_words
unfolding magnitude_words
listed_words w size h = h

-- ---- what is spelled is one of the words

signs : ℕ → Syntax ℤ
signs size = field 1 any λ sign. done (signed sign size)

not_32 : (size : ℕ) → allowed_difference (pos size) ≡ None → size ≡ 32 → ⊥
not_32 size e is = let h : allowed_difference (pos 32) ≡ None = subst (λ (k : ℕ). allowed_difference (pos k)
    ≡ None) is e in cc

sign_in : (w : List Bool) (size : ℕ) (x : ℤ) (rest : List Bool)
    → IsIn (w, size) (numbered_from 1 (drop 1 magnitude_texts)) → Spells (signs size) x rest
    → allowed_difference x ≡ None
    → IsIn (w ++ rest, x) mvd_words
unfolding Spells signs
sign_in w size x rest i h free =
    let sign = h.0 in
    let x-is : x ≡ signed sign size = h.5.0 in
    let rest-is : rest ≡ spelled 1 sign = h.4 ∙ ap (λ (t : List Bool). spelled 1 sign ++ t) h.5.1
    ∙ append-nil (spelled 1 sign) in
    let free-is : allowed_difference (signed sign size) ≡ None = ap allowed_difference (sym x-is) ∙ free in
    let below : sign ≡ 0 → size ≡ 32 → ⊥ = λ z. not_32 size (ap (λ (k : ℕ). allowed_difference (signed k size)) (sym z)
    ∙ free-is) in
    let got : IsIn (w ++ spelled 1 sign, signed sign size) mvd_words = with_sign_in w size sign i h.2 below in
    subst (λ (t : List Bool). IsIn (w ++ t, x) mvd_words) (sym rest-is)
    (subst (λ (z : ℤ). IsIn (w ++ spelled 1 sign, z) mvd_words) (sym x-is) got)

parts_in : (x : ℤ) (text : List Bool) → Spells mvd_parts x text → allowed_difference x ≡ None → IsIn (text, x) mvd_words
unfolding Spells mvd_parts magnitude_table signs
parts_in x text h free = subst (λ (t : List Bool). IsIn (t, x) mvd_words) (sym h.4) (at (first_or h.0 h.1 h.3))
  where
    at : ((h.0 ≡ word "1") × (h.1 ≡ 0)) ⊎ IsIn (h.0, h.1) (numbered_from 1 (drop 1 magnitude_texts))
        → IsIn (h.0 ++ h.2, x) mvd_words
    at (inl z) =
        let end : Spells (either true (done (pos 0)) (signs h.1)) x h.2 =
        subst (λ (k : ℕ). Spells (either (eqb k 0) (done (pos 0)) (signs h.1)) x h.2) z.1 h.5 in
        let whole : word "1" ≡ h.0 ++ h.2 = sym z.0 ∙ sym (append-nil h.0)
        ∙ ap (λ (t : List Bool). h.0 ++ t) (sym end.1) in
        subst (λ (t : List Bool). IsIn (t, x) mvd_words) whole (subst (λ (v : ℤ). IsIn (word "1", v) mvd_words)
        (sym end.0) zero_in)
    at (inr i) =
        let m = from_on (drop 1 magnitude_texts) 1 h.1 h.0 i in
        let some : eqb h.1 0 ≡ false = ne_eqb h.1 0 (λ e. omega (arith, e, m.0)) in
        sign_in h.0 h.1 x h.2 i (subst (λ (t : Bool). Spells (either t (done (pos 0)) (signs h.1)) x h.2) some h.5) free

pub mvd_in : (value : ℤ) (text : List Bool) → Spells mvd value text → IsIn (text, value) mvd_words
unfolding Spells mvd
mvd_in value text h =
    let whole : text ≡ h.1 = h.3 ∙ ap (λ (t : List Bool). h.1 ++ t) h.6.1 ∙ append-nil h.1 in
    let got : IsIn (h.1, h.0) mvd_words = parts_in h.0 h.1 h.4 h.5 in
    subst (λ (t : List Bool). IsIn (t, value) mvd_words) (sym whole) (subst (λ (z : ℤ). IsIn (h.1, z) mvd_words)
    (sym h.6.0) got)

-- ---- what is no word, or is cut

of_magnitude : (left : List Bool) (kind : FaultKind) → IsWordFault (λ w. IsWordOf magnitude_words w) left kind
    → IsWordFault (λ w. Signed w) left kind
of_magnitude left kind (inl f) =
    let cut = f.0 in
    let g = grown cut.0 cut.3.0 cut.3.1 in
    inl (
      (
        cut.0 ++ g.0,
        cut.1,
        cut.2 ++ g.0,
        g.1,
        ap (λ (t : List Bool). t ++ g.0) cut.4
            ∙ append_assoc left (cut.1 ∷ cut.2) g.0,
      ),
      f.1,
    )
of_magnitude left kind (inr f) = inr (λ w is. none w (shrunk w is.0 is.1), f.1)
  where
    none : (w : List Bool) → HasMagnitude magnitude_texts 0 w → ((rest : List Bool) → left ≡ w ++ rest → ⊥)
        × ((more : List Bool) → w ≡ left ++ more → ⊥)
    none w m =
        let two = f.0 m.word (m.size, listed_words m.word m.size m.listed) in (
          λ rest whole. two.0 (m.sign ++ rest) (whole ∙ ap (λ (t : List Bool). t ++ rest) m.parts
              ∙ append_assoc m.word m.sign rest),
          λ more whole.
              elim (both_begin m.word left more (ap (begins m.word) (sym whole ∙ m.parts)
              ∙ begins_itself m.word m.sign)) [
                | inl h ↦ two.0 (drop (length m.word) left) (begins_parts m.word left h)
                | inr h ↦ two.1 (drop (length left) m.word) (begins_parts left m.word h)
              ],
        )

-- a sign that is cut
sign_cut : (w : List Bool) (size : ℕ) (rest left : List Bool) (kind : FaultKind)
    → IsIn (w, size) (numbered_from 1 (drop 1 magnitude_texts)) → ElementFaults (signs size) rest left kind
    → IsWordFault (λ v. Signed v) ((w ++ rest) ++ left) kind
unfolding ElementFaults signs
sign_cut w size rest left kind i (inl f) = at f.1
  where
    nothing : (xs : List Bool) → length xs < 1 → xs ≡ []
    nothing [] lt = refl
    nothing (x ∷ xs) lt = absurd (omega arith)

    at : IsFieldFault 1 any left kind → IsWordFault (λ v. Signed v) ((w ++ rest) ++ left) kind
    at (inl g) =
        let rest-is : w ++ rest ≡ w = ap (λ (t : List Bool). w ++ t) f.0 ∙ append-nil w in
        let whole : (w ++ rest) ++ left ≡ w = ap (λ (t : List Bool). t ++ left) rest-is
        ∙ ap (λ (t : List Bool). w ++ t) (nothing left g.0) ∙ append-nil w in
        let is : Signed (w ++ spelled 1 1) = (
          signed 1 size,
          with_sign_in w size 1 i (omega arith) (λ z e. absurd (omega (arith, z))),
        ) in
        let cut : w ++ spelled 1 1 ≡ ((w ++ rest) ++ left) ++ true ∷ [] = ap (λ (t : List Bool). w ++ t) minus
        ∙ ap (λ (t : List Bool). t ++ true ∷ []) (sym whole) in
        inl ((w ++ spelled 1 1, true, [], is, cut), g.1)
    at (inr g) = absurd cc
sign_cut w size rest left kind i (inr f) = absurd f.5

parts_fault : (inner left : List Bool) (kind : FaultKind) → ElementFaults mvd_parts inner left kind
    → IsWordFault (λ w. Signed w) (inner ++ left) kind
unfolding ElementFaults mvd_parts magnitude_table signs
parts_fault inner left kind (inl f) = subst (λ (t : List Bool). IsWordFault (λ w. Signed w) (t ++ left) kind) (sym f.0)
    (of_magnitude left kind f.1)
parts_fault inner left kind (inr f) = subst (λ (t : List Bool). IsWordFault (λ w. Signed w) (t ++ left) kind) (sym f.4)
    (at (first_or f.0 f.1 f.3))
  where
    at : ((f.0 ≡ word "1") × (f.1 ≡ 0)) ⊎ IsIn (f.0, f.1) (numbered_from 1 (drop 1 magnitude_texts))
        → IsWordFault (λ w. Signed w) ((f.0 ++ f.2) ++ left) kind
    at (inl z) = absurd (subst (λ (k : ℕ). ElementFaults (either (eqb k 0) (done (pos 0)) (signs f.1)) f.2 left kind)
        z.1 f.5)
    at (inr i) =
        let m = from_on (drop 1 magnitude_texts) 1 f.1 f.0 i in
        let some : eqb f.1 0 ≡ false = ne_eqb f.1 0 (λ e. omega (arith, e, m.0)) in
        sign_cut f.0 f.1 f.2 left kind i
        (subst (λ (t : Bool). ElementFaults (either t (done (pos 0)) (signs f.1)) f.2 left kind) some f.5)

-- 32 with plus, whatever follows
plus_32 : List Bool
plus_32 = word "000000000010" ++ false ∷ []

apart_32 : list_all (λ u. not (begins plus_32 u.0) && not (begins u.0 plus_32)) mvd_words ≡ true
unfolding mvd_words magnitude_texts begins plus_32
apart_32 = refl

only_32 : (x : ℤ) (kind : FaultKind) → allowed_difference x ≡ Some kind → (x ≡ pos 32) × (kind ≡ BadCode)
only_32 (pos n) kind e = at (eqb n 32) refl e
  where
    at : (t : Bool) → eqb n 32 ≡ t → cond t (Some BadCode) None ≡ Some kind → (pos n ≡ pos 32) × (kind ≡ BadCode)
    at true h e = (ap pos (eqb-true n 32 h), cc)
    at false h e = absurd cc
only_32 (negsuc n) kind e = absurd cc

word_32 : text_at (drop 1 magnitude_texts) 31 ≡ word "000000000010"
unfolding magnitude_texts
word_32 = refl

plus : spelled 1 0 ≡ false ∷ []
unfolding spelled
plus = refl

text_32 : (text : List Bool) → Spells mvd_parts (pos 32) text → text ≡ plus_32
unfolding Spells mvd_parts magnitude_table signs plus_32
text_32 text h = at (first_or h.0 h.1 h.3)
  where
    signed_32 : (sign size : ℕ) → sign < 2 → pos 32 ≡ signed sign size → 0 < size → (sign ≡ 0) × (size ≡ 32)
    signed_32 zero size lt e some = (refl, cc)
    signed_32 (suc zero) (suc size) lt e some = absurd cc
    signed_32 (suc zero) zero lt e some = absurd (omega arith)
    signed_32 (suc (suc k)) size lt e some = absurd (omega arith)

    at : ((h.0 ≡ word "1") × (h.1 ≡ 0)) ⊎ IsIn (h.0, h.1) (numbered_from 1 (drop 1 magnitude_texts)) → text ≡ plus_32
    at (inl z) =
        let end : Spells (either true (done (pos 0)) (signs h.1)) (pos 32) h.2 =
        subst (λ (k : ℕ). Spells (either (eqb k 0) (done (pos 0)) (signs h.1)) (pos 32) h.2) z.1 h.5 in
        absurd (let zero_is : pos 32 ≡ pos 0 = end.0 in cc)
    at (inr i) =
        let m = from_on (drop 1 magnitude_texts) 1 h.1 h.0 i in
        let some : eqb h.1 0 ≡ false = ne_eqb h.1 0 (λ e. omega (arith, e, m.0)) in
        let end : Spells (signs h.1) (pos 32) h.2 = subst (λ (t : Bool). Spells (either t (done (pos 0)) (signs h.1))
        (pos 32) h.2) some h.5 in
        let both = signed_32 end.0 h.1 end.2 end.5.0 (omega (arith, m.0)) in
        let front : h.0 ≡ word "000000000010" = text_of (drop 1 magnitude_texts) 1 31 h.1 h.0 i (omega (arith, both.1))
        ∙ word_32 in
        let back : h.2 ≡ spelled 1 0 = end.4 ∙ ap (λ (t : List Bool). spelled 1 end.0 ++ t) end.5.1
        ∙ append-nil (spelled 1 end.0) ∙ ap (λ (k : ℕ). spelled 1 k) both.0 in
        h.4 ∙ ap (λ (t : List Bool). t ++ h.2) front ∙ ap (λ (t : List Bool). word "000000000010" ++ t) (back ∙ plus)

mvd_faults : (front left : List Bool) (kind : FaultKind) → ElementFaults mvd front left kind
    → (front ≡ []) × IsWordFault (λ w. Signed w) left kind
unfolding ElementFaults mvd
mvd_faults front left kind (inl f) = (
  f.0,
  subst (λ (t : List Bool). IsWordFault (λ w. Signed w) t kind) (sym f.3)
      (parts_fault f.1 f.2 kind f.4),
)
mvd_faults front left kind (inr (inl f)) =
    let r = f.1 in
    let both = only_32 r.0 kind r.5 in
    let text-is : r.1 ≡ plus_32 = text_32 r.1 (subst (λ (x : ℤ). Spells mvd_parts x r.1) both.0 r.3) in
    let whole : left ≡ plus_32 ++ r.2 = r.4 ∙ ap (λ (t : List Bool). t ++ r.2) text-is in (
      f.0,
      subst (λ (t : List Bool). IsWordFault (λ w. Signed w) t kind) (sym whole)
          (inr (no_word_of_front mvd_words plus_32 r.2 apart_32, both.1)),
    )
mvd_faults front left kind (inr (inr f)) = absurd f.6

mvd_fault : (b : Bits) (d : Fault) → reading mvd b ≡ Err d → (d.at ≡ b.at) × IsWordFault (λ w. Signed w) b.bits d.kind
mvd_fault b d e =
    let f = fault_found mvd b d mvd_productive e in
    let m = mvd_faults f.0 f.1 d.kind f.4 in
    let whole : b.bits ≡ f.1 = f.2 ∙ ap (λ (t : List Bool). t ++ f.1) m.0 in (
      f.3 ∙ ap (λ (t : List Bool). b.at + length t) m.0
          ∙ add-zero b.at,
      subst (λ (t : List Bool). IsWordFault (λ w. Signed w) t d.kind) (sym whole) m.1,
    )

mvd_apart : is_prefix_free mvd_words ≡ true
unfolding mvd_words magnitude_texts begins is_prefix_free
mvd_apart = refl

pub mvd_words_are : (b : Bits) (d : Fault) → (reading mvd b ≡ Err d)
    ↔ ((d.at ≡ b.at) × IsWordFault (λ w. Signed w) b.bits d.kind)
mvd_words_are b d = exact_words mvd (λ w. Signed w) (λ v text h. (v, mvd_in v text h))
    (λ w v more p q e. apart_words mvd_words w v more mvd_apart p q e) mvd_fault b d
