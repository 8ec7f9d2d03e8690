-- The first fault of a reading, for every syntax at once: a reader's fault is the one that the element after
-- the longest
-- list of elements without a fault has. And how a row of a table of faults is shown, step by step.
use Rattle.std.proofs.Common.{◌≡◌, ℕ, zero, suc, ◌+◌, ◌^◌, ◌<◌, Bool, true, false, cond, eqb, List, [], ◌∷◌, ◌++◌, length, take, drop, Option, Some, None, Result, Ok, Err, refl, sym, ap, subst, ◌∙◌, append_assoc, add_assoc, add-zero, arith, inl, inr}
use Rattle.std.specs.List.{list_any, list_all}
use Rattle.std.specs.Prelude.{◌||◌, ◌&&◌, ◌⊎◌, ◌↔◌, not, IfErr}
use Rattle.std.proofs.lemmas.Bool.{cases_lt, or_cases, eqb-true, lt-ltb}
use Rattle.std.proofs.lemmas.List.{append-nil, length-append}
use Rattle.h263_bits.specs.declared.fault.Fault.{Fault}
use Rattle.h263_bits.specs.declared.fault.FaultKind.{FaultKind}
use Rattle.h263_bits.specs.declared.fault.FaultKind.TheVariants.{Ended, BadCode}
use Rattle.h263_bits.specs.Bits.{number, spelled}
use Rattle.h263_bits.specs.Reading.{Bits, Gives, err, skip, number_at, ◌>>=◌}
use Rattle.h263_bits.specs.Syntax.{Syntax, Allowed, only, IsIn, Words, begins, found, is_cut, word_taken, is_prefix_free, LoopTurn, again, finally, done, field, code, part, element, repeat, refused, field_at, word_at, standing_at, repeat_turned, turns_at, Spells, reading, IsProductive}
use Rattle.h263_bits.specs.Elements.{IsFieldFault, IsWordOf, IsCutWord, IsNoWord, IsWordFault, FaultTurns, ElementFaults, IsFirstFault, HasFault, EndsWithFault}
use Rattle.h263_bits.proofs.BitLists.{length-spelled}
use Rattle.h263_bits.proofs.SyntaxTexts.{err_not_ok, standing_ok, Between, long_is, number_takes, number_again, field_takes, field_again, begins_parts, begins_itself, both_begin, apart_at, found_in, found_again, word_takes, word_again, sound, complete, turn_shorter, repeat-again}

-- a fault at a place
abbrev pub stands : FaultKind → ℕ → Fault
stands kind at = record { kind = kind; at = at }

pub err_is : {A : Type 0} (c d : Fault) → err {A = A} c ≡ err d → c ≡ d
err_is c d e = cc

some_is : {X : Type 0} (x y : X) → Some x ≡ Some y → x ≡ y
some_is x y e = cc

no_both : (a : Bool) → a ≡ false → a ≡ true → ⊥
no_both true p q = absurd cc
no_both false p q = absurd cc

-- a fault comes from a step, or from what follows it
pub bind_err : {A B : Type 0} (r : Result A Fault) (f : A → Result B Fault) (d : Fault) → (r >>= f) ≡ Err d
    → (r ≡ Err d) ⊎ ((x : A) × (r ≡ Ok x) × (f x ≡ Err d))
bind_err (Ok x) f d e = inr (x, refl, e)
bind_err {A} {B} (Err c) f d e = let same : c ≡ d = err_is {A = B} c d e in inl (ap (λ (k : Fault). err {A = A} k) same)

pub refused_err : {A : Type 0} (o : Option FaultKind) (at : ℕ) (r : Result A Fault) (d : Fault) → refused o at r ≡ Err d
    → ((o ≡ Some d.kind) × (d.at ≡ at)) ⊎ ((o ≡ None) × (r ≡ Err d))
refused_err None at r d e = inr (refl, e)
refused_err {A} (Some k) at r d e = let same : stands k at ≡ d = err_is {A = A} (stands k at) d e in
    inl (ap (λ (f : Fault). Some f.kind) same, sym (ap (λ (f : Fault). f.at) same))

standing_err : {A : Type 0} (at : ℕ) (r : Result A Fault) (d : Fault) → standing_at at r ≡ Err d
    → (c : Fault) × (r ≡ Err c) × (c.kind ≡ d.kind) × (d.at ≡ at)
standing_err at (Ok x) d e = absurd (err_not_ok d x (sym e))
standing_err {A} at (Err c) d e = let same : stands c.kind at ≡ d = err_is {A = A} (stands c.kind at) d e in
    (c, refl, ap (λ (f : Fault). f.kind) same, sym (ap (λ (f : Fault). f.at) same))

-- what stands after a text stands after what is before that text as well
then_at : (b c : Bits) (text front left : List Bool) (place : ℕ) → Between b text c → c.bits ≡ front ++ left
    → place ≡ c.at + length front → (b.bits ≡ (text ++ front) ++ left) × (place ≡ b.at + length (text ++ front))
then_at b c text front left place h parts at = (
  h.parts ∙ ap (λ (t : List Bool). text ++ t) parts
      ∙ sym (append_assoc text front left),
  omega (arith, at, h.at, length-append text front),
)

-- ---- the fault of one element

short_fault : (n : ℕ) (b : Bits) → length b.bits < n → number_at n b ≡ Err (stands Ended b.at)
unfolding number_at
short_fault n b lt = rw (lt-ltb _ _ lt) refl

pub field_fault : (n : ℕ) (allowed : Allowed ℕ) (b : Bits) (d : Fault) → field_at n allowed b ≡ Err d
    → (d.at ≡ b.at) × IsFieldFault n allowed b.bits d.kind
field_fault n allowed b d e =
    elim (cases_lt (length b.bits) n) [
      | inl lt ↦
          let short : field_at n allowed b ≡ Err (stands Ended b.at) = rw (short_fault n b lt) refl in
          let same : stands Ended b.at ≡ d = err_is {A = ℕ × Bits} (stands Ended b.at) d (sym short ∙ e) in
          (sym (ap (λ (f : Fault). f.at) same), inl (lt, sym (ap (λ (f : Fault). f.kind) same)))
      | inr le ↦
          let v = number (take n b.bits) in
          let long : field_at n allowed b ≡ refused (allowed v) b.at (Ok (v, skip n b)) = rw (long_is n b le) refl in
          let t = number_takes n v b (skip n b) (long_is n b le) in
          elim (refused_err (allowed v) b.at (Ok (v, skip n b)) d (sym long ∙ e)) [
            | inl g ↦ (g.1, inr (v, drop n b.bits, t.1, t.0.parts, g.0))
            | inr g ↦ absurd (err_not_ok d (v, skip n b) (sym g.1))
          ]
    ]

pub field_fault_again : (n : ℕ) (allowed : Allowed ℕ) (at : ℕ) (left : List Bool) (kind : FaultKind)
    → IsFieldFault n allowed left kind → field_at n allowed (record { at = at; bits = left })
    ≡ Err (record { kind = kind; at = at })
field_fault_again n allowed at left kind h =
    elim h [
      | inl f ↦ rw (short_fault n (record { at = at; bits = left }) f.0, f.1) refl
      | inr f ↦ rw (f.3, number_again n f.0 at f.1 f.2, f.4) refl
    ]

found_none : {S : Type 0} (words : List (List Bool × S)) (bits : List Bool) (w : List Bool × S)
    → found words bits ≡ None → IsIn w words → begins w.0 bits ≡ false
unfolding found
found_none [] bits w e h = absurd h
found_none {S} (v ∷ words) bits w e h = chosen (begins v.0 bits) refl e (λ g i. found_none words bits w g i)
  where
    chosen : (b : Bool) → begins v.0 bits ≡ b → cond b (Some v) (found words bits) ≡ None
        → (found words bits ≡ None → IsIn w words → begins w.0 bits ≡ false) → begins w.0 bits ≡ false
    chosen true g e more = absurd cc
    chosen false g e more = elim h [
      | inl same ↦ subst (λ (u : List Bool × S). begins u.0 bits ≡ false) same g
      | inr later ↦ more e later
    ]

or_here : (a b : Bool) → a ≡ true → (a || b) ≡ true
or_here true b e = refl
or_here false b e = absurd cc

or_later : (a b : Bool) → b ≡ true → (a || b) ≡ true
or_later true b e = refl
or_later false b e = e

any_here : {S : Type 0} (test : List Bool × S → Bool) (words : List (List Bool × S)) (w : List Bool × S) → test w ≡ true
    → IsIn w words → list_any test words ≡ true
any_here test [] w e h = absurd h
any_here {S} test (v ∷ words) w e h =
    elim h [
      | inl same ↦ or_here (test v) (list_any test words) (ap test same ∙ e)
      | inr later ↦ or_later (test v) (list_any test words) (any_here test words w e later)
    ]

any_of : {S : Type 0} (test : List Bool × S → Bool) (words : List (List Bool × S)) → list_any test words ≡ true
    → (w : List Bool × S) × IsIn w words × (test w ≡ true)
any_of test [] e = absurd cc
any_of test (v ∷ words) e =
    elim (or_cases (test v) (list_any test words) e) [
      | inl h ↦ (v, inl refl, h)
      | inr h ↦ let m = any_of test words h in (m.0, inr m.1, m.2)
    ]

cut_word : {S : Type 0} (words : List (List Bool × S)) (bits : List Bool) → found words bits ≡ None
    → is_cut words bits ≡ true → IsCutWord (λ w. IsWordOf words w) bits
unfolding is_cut
cut_word {S} words bits none cut =
    let m = any_of (λ (w : List Bool × S). begins bits w.0) words cut in
    proper m.0.0 m.0.1 m.1 (drop (length bits) m.0.0) (begins_parts bits m.0.0 m.2)
  where
    proper : (w : List Bool) (x : S) → IsIn (w, x) words → (rest : List Bool) → w ≡ bits ++ rest
        → IsCutWord (λ v. IsWordOf words v) bits
    proper w x i [] e =
        let whole : bits ≡ w ++ [] = sym (e ∙ append-nil bits) ∙ sym (append-nil w) in
        absurd (no_both (begins w bits) (found_none words bits (w, x) none i) (ap (begins w) whole
        ∙ begins_itself w []))
    proper w x i (next ∷ rest) e = (w, next, rest, (x, i), e)

no_word : {S : Type 0} (words : List (List Bool × S)) (bits : List Bool) → found words bits ≡ None
    → is_cut words bits ≡ false → IsNoWord (λ w. IsWordOf words w) bits
unfolding is_cut
no_word {S} words bits none cut =
    λ w is. (
      λ rest e. no_both (begins w bits) (found_none words bits (w, is.0) none is.1) (ap (begins w) e
          ∙ begins_itself w rest),
      λ more e. no_both (list_any (λ (v : List Bool × S). begins bits v.0) words) cut
          (any_here (λ (v : List Bool × S). begins bits v.0) words (w, is.0) (ap (begins bits) e
          ∙ begins_itself bits more) is.1),
    )

-- A word that isn't read is cut, or there is none.
pub word_fault : {S : Type 0} (words : List (List Bool × S)) (b : Bits) (d : Fault) → word_at words b ≡ Err d
    → (d.at ≡ b.at) × IsWordFault (λ w. IsWordOf words w) b.bits d.kind
unfolding word_at
word_fault {S} words b d e = at_found (found words b.bits) refl e
  where
    at_cut : (t : Bool) → is_cut words b.bits ≡ t → found words b.bits ≡ None
        → cond t (err {A = S × Bits} (stands Ended b.at)) (err (stands BadCode b.at)) ≡ err d
        → (d.at ≡ b.at) × IsWordFault (λ w. IsWordOf words w) b.bits d.kind
    at_cut true c h e =
        let same : stands Ended b.at ≡ d = err_is {A = S × Bits} (stands Ended b.at) d e in
        (sym (ap (λ (f : Fault). f.at) same), inl (cut_word words b.bits h c, sym (ap (λ (f : Fault). f.kind) same)))
    at_cut false c h e =
        let same : stands BadCode b.at ≡ d = err_is {A = S × Bits} (stands BadCode b.at) d e in
        (sym (ap (λ (f : Fault). f.at) same), inr (no_word words b.bits h c, sym (ap (λ (f : Fault). f.kind) same)))

    at_found : (o : Option (List Bool × S)) → found words b.bits ≡ o → word_taken words b o ≡ Err d
        → (d.at ≡ b.at) × IsWordFault (λ w. IsWordOf words w) b.bits d.kind
    at_found None h e = at_cut (is_cut words b.bits) refl h e
    at_found (Some w) h e = absurd (err_not_ok d (w.1, skip (length w.0) b) (sym e))

-- bits that end inside a word begin with none
none_of_cut : {S : Type 0} (words : List (List Bool × S)) (left : List Bool) → is_prefix_free words ≡ true
    → IsCutWord (λ w. IsWordOf words w) left → found words left ≡ None
none_of_cut {S} words left apart cut = at_found (found words left) refl
  where
    at_found : (o : Option (List Bool × S)) → found words left ≡ o → o ≡ None
    at_found None h = refl
    at_found (Some u) h =
        let i = found_in words left u h in
        let tail : List Bool = cut.1 ∷ cut.2 in
        let rest = drop (length u.0) left in
        let p : left ≡ u.0 ++ rest = begins_parts u.0 left i.1 in
        let e : cut.0 ≡ u.0 ++ (rest ++ tail) = cut.4 ∙ ap (λ (t : List Bool). t ++ tail) p
        ∙ append_assoc u.0 rest tail in
        let first : found words (u.0 ++ (rest ++ tail)) ≡ Some u = found_again words u (rest ++ tail) apart i.0 in
        let second : found words (cut.0 ++ []) ≡ Some (cut.0, cut.3.0) = found_again words (
          cut.0,
          cut.3.0,
        ) [] apart cut.3.1 in
        let same : u ≡ (cut.0, cut.3.0) = some_is u (cut.0, cut.3.0) (sym first
        ∙ ap (found words) (sym e ∙ sym (append-nil cut.0)) ∙ second) in
        let word : u.0 ≡ cut.0 = ap (λ (v : List Bool × S). v.0) same in
        absurd (omega (
          arith,
          ap length cut.4,
          length-append left tail,
          ap length p,
          length-append u.0 rest,
          ap length word,
        ))

cut_of : {S : Type 0} (words : List (List Bool × S)) (left : List Bool) → IsCutWord (λ w. IsWordOf words w) left
    → is_cut words left ≡ true
unfolding is_cut
cut_of {S} words left cut = any_here (λ (v : List Bool × S). begins left v.0) words (
  cut.0,
  cut.3.0,
) (ap (begins left) cut.4 ∙ begins_itself left (cut.1 ∷ cut.2)) cut.3.1

none_of_no : {S : Type 0} (words : List (List Bool × S)) (left : List Bool) → IsNoWord (λ w. IsWordOf words w) left
    → found words left ≡ None
none_of_no {S} words left unmet = at_found (found words left) refl
  where
    at_found : (o : Option (List Bool × S)) → found words left ≡ o → o ≡ None
    at_found None h = refl
    at_found (Some u) h =
        let i = found_in words left u h in
        let two = unmet u.0 (u.1, i.0) in
        absurd (two.0 (drop (length u.0) left) (begins_parts u.0 left i.1))

uncut_of_no : {S : Type 0} (words : List (List Bool × S)) (left : List Bool) → IsNoWord (λ w. IsWordOf words w) left
    → is_cut words left ≡ false
unfolding is_cut
uncut_of_no {S} words left unmet = at_any (list_any (λ (v : List Bool × S). begins left v.0) words) refl
  where
    at_any : (t : Bool) → list_any (λ (v : List Bool × S). begins left v.0) words ≡ t → t ≡ false
    at_any false h = refl
    at_any true h =
        let m = any_of (λ (v : List Bool × S). begins left v.0) words h in
        let two = unmet m.0.0 (m.0.1, m.1) in
        absurd (two.1 (drop (length left) m.0.0) (begins_parts left m.0.0 m.2))

pub word_fault_again : {S : Type 0} (words : List (List Bool × S)) (at : ℕ) (left : List Bool) (kind : FaultKind)
    → is_prefix_free words ≡ true → IsWordFault (λ w. IsWordOf words w) left kind
    → word_at words (record { at = at; bits = left }) ≡ Err (record { kind = kind; at = at })
unfolding word_at
word_fault_again words at left kind apart h =
    elim h [
      | inl f ↦ rw (none_of_cut words left apart f.0, cut_of words left f.0, f.1) refl
      | inr f ↦ rw (none_of_no words left f.0, uncut_of_no words left f.0, f.1) refl
    ]

-- A prefix that begins no word, and that no word begins, has no word, whatever follows.
pub no_word_of_front : {S : Type 0} (words : List (List Bool × S)) (x rest : List Bool)
    → list_all (λ u. not (begins x u.0) && not (begins u.0 x)) words ≡ true
    → IsNoWord (λ w. IsWordOf words w) (x ++ rest)
no_word_of_front {S} words x rest e =
    λ w is. (
      λ more whole. neither w is.0 is.1 more whole,
      λ more whole.
          let a = apart_at (x, is.0) (w, is.0) words e is.1 in
          no_both (begins x w) a.0 (ap (begins x) (whole ∙ append_assoc x rest more) ∙ begins_itself x (rest ++ more)),
    )
  where
    neither : (w : List Bool) (s : S) → IsIn (w, s) words → (more : List Bool) → x ++ rest ≡ w ++ more → ⊥
    neither w s i more whole =
        let a = apart_at (x, s) (w, s) words e i in
        elim (both_begin w x rest (ap (begins w) whole ∙ begins_itself w more)) [
          | inl h ↦ no_both (begins w x) a.1 h
          | inr h ↦ no_both (begins x w) a.0 h
        ]

-- a word of a table alone: its faults are those of the word
pub word_only : {S A : Type 0} (words : Words S) (f : S → A) (b : Bits) (d : Fault)
    → (reading (code words (λ x. done (f x))) b ≡ Err d)
    ↔ ((d.at ≡ b.at) × IsWordFault (λ w. IsWordOf words.list w) b.bits d.kind)
unfolding reading
word_only {S} {A} words f b d = (
  λ e. at_err (bind_err (word_at words.list b) (λ x. reading (done (f x.0)) x.1) d e),
  λ h. ap (λ (r : Result (S × Bits) Fault). r >>= λ x. reading (done (f x.0)) x.1)
      (word_fault_again words.list b.at b.bits d.kind words.apart h.1)
      ∙ ap (λ (k : ℕ). err {A = A × Bits} (stands d.kind k)) (sym h.0),
)
  where
    at_err : (word_at words.list b ≡ Err d) ⊎ ((x : S × Bits) × (word_at words.list b ≡ Ok x)
        × (reading (done (f x.0)) x.1 ≡ Err d)) → (d.at ≡ b.at) × IsWordFault (λ w. IsWordOf words.list w) b.bits d.kind
    at_err (inl h) = word_fault words.list b d h
    at_err (inr h) = absurd (err_not_ok d (f h.0.0, h.0.1) (sym h.2))

nil_of : {X : Type 0} (xs : List X) → length xs ≡ 0 → xs ≡ []
nil_of [] e = refl
nil_of (x ∷ xs) e = absurd (omega (arith, e))

-- no word of a table is the proper prefix of another
pub apart_words : {S : Type 0} (words : List (List Bool × S)) (w v more : List Bool) → is_prefix_free words ≡ true
    → IsWordOf words w → IsWordOf words v → w ++ more ≡ v → more ≡ []
apart_words {S} words w v more apart p q e =
    let first : found words (w ++ more) ≡ Some (w, p.0) = found_again words (w, p.0) more apart p.1 in
    let second : found words (v ++ []) ≡ Some (v, q.0) = found_again words (v, q.0) [] apart q.1 in
    let same : (w, p.0) ≡ (v, q.0) = some_is (w, p.0) (v, q.0) (sym first ∙ ap (found words) (e ∙ sym (append-nil v))
    ∙ second) in
    let word : w ≡ v = ap (λ (u : List Bool × S). u.0) same in
    nil_of more (omega (arith, ap length e, length-append w more, ap length word))

one_kind : (IsWord : List Bool → Type 0) (left : List Bool) (k l : FaultKind) → IsWordFault IsWord left k
    → IsWordFault IsWord left l → k ≡ l
one_kind IsWord left k l (inl p) (inl q) = p.1 ∙ sym q.1
one_kind IsWord left k l (inl p) (inr q) = let cut = p.0 in let two = q.0 cut.0 cut.3 in
    absurd (two.1 (cut.1 ∷ cut.2) cut.4)
one_kind IsWord left k l (inr p) (inl q) = let cut = q.0 in let two = p.0 cut.0 cut.3 in
    absurd (two.1 (cut.1 ∷ cut.2) cut.4)
one_kind IsWord left k l (inr p) (inr q) = p.1 ∙ sym q.1

-- Where each fault of a syntax is one of its words, there is such a fault exactly where the syntax finds it.
pub exact_words : {A : Type 0} (s : Syntax A) (IsWord : List Bool → Type 0)
    → ((a : A) (text : List Bool) → Spells s a text → IsWord text)
    → ((w v more : List Bool) → IsWord w → IsWord v → w ++ more ≡ v → more ≡ [])
    → ((b : Bits) (d : Fault) → reading s b ≡ Err d → (d.at ≡ b.at) × IsWordFault IsWord b.bits d.kind)
    → (b : Bits) (d : Fault) → (reading s b ≡ Err d) ↔ ((d.at ≡ b.at) × IsWordFault IsWord b.bits d.kind)
exact_words {A} s IsWord member apart fault b d = (λ e. fault b d e, λ h. at_reading (reading s b) refl h)
  where
    at_reading : (r : Result (A × Bits) Fault) → reading s b ≡ r → (d.at ≡ b.at) × IsWordFault IsWord b.bits d.kind
        → reading s b ≡ Err d
    at_reading (Ok x) e h =
        let t = sound s b x.1 x.0 e in
        let is = member x.0 t.0 t.2 in
        elim h.1 [
          | inl f ↦
              let cut = f.0 in
              let tail : List Bool = cut.1 ∷ cut.2 in
              let whole : t.0 ++ (x.1.bits ++ tail) ≡ cut.0 = sym (append_assoc t.0 x.1.bits tail)
              ∙ ap (λ (y : List Bool). y ++ tail) (sym t.1.parts) ∙ sym cut.4 in
              let none = apart t.0 cut.0 (x.1.bits ++ tail) is cut.3 whole in
              absurd (omega (arith, ap length none, length-append x.1.bits tail))
          | inr f ↦ let two = f.0 t.0 is in absurd (two.0 x.1.bits t.1.parts)
        ]
    at_reading (Err c) e h =
        let g = fault b c e in
        let kind : c.kind ≡ d.kind = one_kind IsWord b.bits c.kind d.kind g.1 h.1 in
        e ∙ ap (λ (k : FaultKind). err {A = A × Bits} (stands k c.at)) kind
        ∙ ap (λ (p : ℕ). err {A = A × Bits} (stands d.kind p)) (g.0 ∙ sym h.0)

-- ---- whole syntaxes

turns_fault : {S A : Type 0} (spells : S → LoopTurn S A → List Bool → Type 0) (fails : S → List Bool → List Bool
    → Type 0) (body : S → Bits → Result (LoopTurn S A × Bits) Fault) (d : Fault)
    → ((t : S) (b c : Bits) (x : LoopTurn S A) → body t b ≡ Ok (x, c) → (text : List Bool) × Between b text c
    × spells t x text)
    → ((t : S) (b : Bits) → body t b ≡ Err d → (front left : List Bool) × (b.bits ≡ front ++ left)
    × (d.at ≡ b.at + length front) × fails t front left)
    → ((t u : S) (b c : Bits) → body t b ≡ Ok (again u, c) → length c.bits < length b.bits)
    → (fuel : ℕ) (s : S) (b : Bits) → length b.bits < fuel → turns_at body fuel s b ≡ Err d
    → (front left : List Bool) × (b.bits ≡ front ++ left) × (d.at ≡ b.at + length front) × (n : ℕ)
    × FaultTurns spells fails n s front left
turns_fault spells fails body d whole each shorter zero s b lt e = absurd (omega arith)
turns_fault {S} {A} spells fails body d whole each shorter (suc fuel) s b lt e =
    elim (bind_err (body s b) (λ x. repeat_turned (turns_at body fuel) x.0 x.1) d e) [
      | inl h ↦ let f = each s b h in (f.0, f.1, f.2, f.3, 0, f.4)
      | inr h ↦ after h.0.0 h.0.1 h.1 h.2 (λ t c g r. turns_fault spells fails body d whole each shorter fuel t c
          (omega (arith, shorter s t b c g)) r)
    ]
  where
    after : (x : LoopTurn S A) (c : Bits) → body s b ≡ Ok (x, c) → repeat_turned (turns_at body fuel) x c ≡ Err d
        → ((t : S) (c : Bits) → body s b ≡ Ok (again t, c) → turns_at body fuel t c ≡ Err d → (front left : List Bool)
        × (c.bits ≡ front ++ left) × (d.at ≡ c.at + length front) × (n : ℕ)
        × FaultTurns spells fails n t front left)
        → (front left : List Bool) × (b.bits ≡ front ++ left) × (d.at ≡ b.at + length front) × (n : ℕ)
        × FaultTurns spells fails n s front left
    after (again t) c h r more =
        let one = whole s b c (again t) h in
        let m = more t c h r in
        let p = then_at b c one.0 m.0 m.1 d.at one.1 m.2 m.3 in
        (one.0 ++ m.0, m.1, p.0, p.1, suc m.4, (t, one.0, m.0, one.2, refl, m.5))
    after (finally a) c h r more = absurd (err_not_ok d (a, c) (sym r))

-- A fault that a reader answers is the first one.
pub fault_found : {A : Type 0} (s : Syntax A) (b : Bits) (d : Fault) → IsProductive s → reading s b ≡ Err d
    → IsFirstFault s b d
unfolding reading ElementFaults IsProductive
fault_found (done x) b d each e = absurd (err_not_ok d (x, b) (sym e))
fault_found (field n allowed next) b d each e =
    elim (bind_err (field_at n allowed b) (λ x. reading (next x.0) x.1) d e) [
      | inl h ↦ let f = field_fault n allowed b d h in ([], b.bits, refl, f.0 ∙ sym (add-zero b.at), inl (refl, f.1))
      | inr h ↦
          let x = h.0 in
          let t = field_takes n allowed x.0 b x.1 h.1 in
          let r = fault_found (next x.0) x.1 d (each x.0) h.2 in
          let p = then_at b x.1 (spelled n x.0) r.0 r.1 d.at t.0 r.2 r.3 in
          (spelled n x.0 ++ r.0, r.1, p.0, p.1, inr (x.0, r.0, t.1, t.2, refl, r.4))
    ]
fault_found (code words next) b d each e =
    elim (bind_err (word_at words.list b) (λ x. reading (next x.0) x.1) d e) [
      | inl h ↦ let f = word_fault words.list b d h in ([], b.bits, refl, f.0 ∙ sym (add-zero b.at), inl (refl, f.1))
      | inr h ↦
          let x = h.0 in
          let t = word_takes words.list x.0 b x.1 h.1 in
          let r = fault_found (next x.0) x.1 d (each x.0) h.2 in
          let p = then_at b x.1 t.0 r.0 r.1 d.at t.2 r.2 r.3 in
          (t.0 ++ r.0, r.1, p.0, p.1, inr (t.0, x.0, r.0, t.1, refl, r.4))
    ]
fault_found (part s allowed next) b d each e =
    elim (bind_err (reading s b) (λ x. refused (allowed x.0) b.at (reading (next x.0) x.1)) d e) [
      | inl h ↦ let f = fault_found s b d each.0 h in (f.0, f.1, f.2, f.3, inl f.4)
      | inr h ↦
          let x = h.0 in
          let t = sound s b x.1 x.0 h.1 in
          elim (refused_err (allowed x.0) b.at (reading (next x.0) x.1) d h.2) [
            | inl g ↦ (
              [],
              b.bits,
              refl,
              g.1
                  ∙ sym (add-zero b.at),
              inr (inl (refl, (x.0, t.0, x.1.bits, t.2, t.1.parts, g.0))),
            )
            | inr g ↦
                let r = fault_found (next x.0) x.1 d (each.1 x.0) g.1 in
                let p = then_at b x.1 t.0 r.0 r.1 d.at t.1 r.2 r.3 in
                (t.0 ++ r.0, r.1, p.0, p.1, inr (inr (x.0, t.0, r.0, t.2, g.0, refl, r.4)))
          ]
    ]
fault_found (element s allowed next) b d each e =
    elim (bind_err (standing_at b.at (reading s b)) (λ x. refused (allowed x.0) b.at (reading (next x.0) x.1)) d e) [
      | inl h ↦
          let c = standing_err b.at (reading s b) d h in
          let f = fault_found s b c.0 each.0 c.1 in (
            [],
            b.bits,
            refl,
            c.3 ∙ sym (add-zero b.at),
            inl (refl, f.0, f.1, f.2, subst (λ (k : FaultKind). ElementFaults s f.0 f.1 k) c.2 f.4),
          )
      | inr h ↦
          let x = h.0 in
          let t = sound s b x.1 x.0 (standing_ok b.at (reading s b) x h.1) in
          elim (refused_err (allowed x.0) b.at (reading (next x.0) x.1) d h.2) [
            | inl g ↦ (
              [],
              b.bits,
              refl,
              g.1
                  ∙ sym (add-zero b.at),
              inr (inl (refl, (x.0, t.0, x.1.bits, t.2, t.1.parts, g.0))),
            )
            | inr g ↦
                let r = fault_found (next x.0) x.1 d (each.1 x.0) g.1 in
                let p = then_at b x.1 t.0 r.0 r.1 d.at t.1 r.2 r.3 in
                (t.0 ++ r.0, r.1, p.0, p.1, inr (inr (x.0, t.0, r.0, t.2, g.0, refl, r.4)))
          ]
    ]
fault_found (repeat s body) b d each e =
    let m = turns_fault (λ t x text. Spells (body t) x text) (λ t f l. ElementFaults (body t) f l d.kind)
    (λ t c. reading (body t) c) d
    (λ t c f x h. sound (body t) c f x h) (λ t c h. fault_found (body t) c d (each.1 t) h)
    (λ t u c f h. turn_shorter t u body c f each.0 h)
    (suc (length b.bits)) s b (omega arith) e in
    (m.0, m.1, m.2, m.3, (m.4, m.5))

turns_fault_again : {S A : Type 0} (spells : S → LoopTurn S A → List Bool → Type 0) (fails : S → List Bool → List Bool
    → Type 0) (body : S → Bits → Result (LoopTurn S A × Bits) Fault) (kind : FaultKind)
    → ((t : S) (x : LoopTurn S A) (text rest : List Bool) (at : ℕ) → spells t x text
    → body t (record { at = at; bits = text ++ rest }) ≡ Ok (x, record { at = at + length text; bits = rest }))
    → ((t : S) (front left : List Bool) (at : ℕ) → fails t front left
    → body t (record { at = at; bits = front ++ left }) ≡ Err (record { kind = kind; at = at + length front }))
    → ((t u : S) → spells t (again u) [] → ⊥)
    → (n fuel : ℕ) (s : S) (front left : List Bool) (at : ℕ) → FaultTurns spells fails n s front left
    → length front < fuel
    → turns_at body fuel s (record { at = at; bits = front ++ left })
    ≡ Err (record { kind = kind; at = at + length front })
turns_fault_again spells fails body kind whole each some n zero s front left at h lt = absurd (omega arith)
turns_fault_again spells fails body kind whole each some zero (suc fuel) s front left at h lt =
    rw (each s front left at h) refl
turns_fault_again {S} {A} spells fails body kind whole each some (suc n) (suc fuel) s front left at h lt =
    let t = h.0 in
    let text = h.1 in
    let rest = h.2 in
    let e : front ++ left ≡ text ++ (rest ++ left) = ap (λ (x : List Bool). x ++ left) h.4
    ∙ append_assoc text rest left in
    let len : length front ≡ length text + length rest = ap length h.4 ∙ length-append text rest in
    let one : body s (record { at = at; bits = text ++ (rest ++ left) })
    ≡ Ok (again t, record { at = at + length text; bits = rest ++ left }) = whole s (again t) text (rest
    ++ left) at h.3 in
    let more = turns_fault_again spells fails body kind whole each some n fuel t rest left (at + length text) h.5
    (shorter text rest front lt len (λ z. some s t (subst (λ (x : List Bool). spells s (again t) x) z h.3))) in
    rw (e, one, more, len, add_assoc at (length text) (length rest)) refl
  where
    shorter : (front tail whole : List Bool) → length whole < suc fuel → length whole ≡ length front + length tail
        → (front ≡ [] → ⊥) → length tail < fuel
    shorter [] tail whole short len none = absurd (none refl)
    shorter (f ∷ front) tail whole short len none = omega arith

-- The first fault is the one that a reader answers.
pub fault_again : {A : Type 0} (s : Syntax A) (at : ℕ) (front left : List Bool) (kind : FaultKind) → IsProductive s
    → ElementFaults s front left kind
    → reading s (record { at = at; bits = front ++ left }) ≡ Err (record { kind = kind; at = at + length front })
unfolding reading ElementFaults IsProductive
fault_again (done x) at front left kind each h = absurd h
fault_again (field n allowed next) at front left kind each h =
    elim h [
      | inl f ↦ rw (f.0, field_fault_again n allowed at left kind f.1, add-zero at) refl
      | inr f ↦
          let e : front ++ left ≡ spelled n f.0 ++ (f.1 ++ left) = ap (λ (x : List Bool). x ++ left) f.4
          ∙ append_assoc (spelled n f.0) f.1 left in
          let len : length front ≡ length (spelled n f.0) + length f.1 = ap length f.4
          ∙ length-append (spelled n f.0) f.1 in
          rw (
            e,
            field_again n allowed f.0 at (f.1 ++ left) f.2 f.3,
            fault_again (next f.0) (at + length (spelled n f.0)) f.1 left kind (each f.0) f.5,
            len,
            add_assoc at (length (spelled n f.0)) (length f.1),
          ) refl
    ]
fault_again (code words next) at front left kind each h =
    elim h [
      | inl f ↦ rw (f.0, word_fault_again words.list at left kind words.apart f.1, add-zero at) refl
      | inr f ↦
          let e : front ++ left ≡ f.0 ++ (f.2 ++ left) = ap (λ (x : List Bool). x ++ left) f.4
          ∙ append_assoc f.0 f.2 left in
          let len : length front ≡ length f.0 + length f.2 = ap length f.4 ∙ length-append f.0 f.2 in
          rw (
            e,
            word_again words.list f.0 f.1 at (f.2 ++ left) words.apart f.3,
            fault_again (next f.1) (at + length f.0) f.2 left kind (each f.1) f.5,
            len,
            add_assoc at (length f.0) (length f.2),
          ) refl
    ]
fault_again (part s allowed next) at front left kind each h =
    elim h [
      | inl f ↦ rw (fault_again s at front left kind each.0 f) refl
      | inr g ↦
          elim g [
            | inl f ↦ let r = f.1 in rw (f.0, r.4, complete s r.0 r.1 r.2 at each.0 r.3, r.5, add-zero at) refl
            | inr f ↦
                let e : front ++ left ≡ f.1 ++ (f.2 ++ left) = ap (λ (x : List Bool). x ++ left) f.5
                ∙ append_assoc f.1 f.2 left in
                let len : length front ≡ length f.1 + length f.2 = ap length f.5 ∙ length-append f.1 f.2 in
                rw (
                  e,
                  complete s f.0 f.1 (f.2 ++ left) at each.0 f.3,
                  f.4,
                  fault_again (next f.0) (at + length f.1) f.2 left kind (each.1 f.0) f.6,
                  len,
                  add_assoc at (length f.1) (length f.2),
                ) refl
          ]
    ]
fault_again (element s allowed next) at front left kind each h =
    elim h [
      | inl f ↦ rw (f.0, f.3, fault_again s at f.1 f.2 kind each.0 f.4, add-zero at) refl
      | inr g ↦
          elim g [
            | inl f ↦ let r = f.1 in rw (f.0, r.4, complete s r.0 r.1 r.2 at each.0 r.3, r.5, add-zero at) refl
            | inr f ↦
                let e : front ++ left ≡ f.1 ++ (f.2 ++ left) = ap (λ (x : List Bool). x ++ left) f.5
                ∙ append_assoc f.1 f.2 left in
                let len : length front ≡ length f.1 + length f.2 = ap length f.5 ∙ length-append f.1 f.2 in
                rw (
                  e,
                  complete s f.0 f.1 (f.2 ++ left) at each.0 f.3,
                  f.4,
                  fault_again (next f.0) (at + length f.1) f.2 left kind (each.1 f.0) f.6,
                  len,
                  add_assoc at (length f.1) (length f.2),
                ) refl
          ]
    ]
fault_again (repeat s body) at front left kind each h =
    turns_fault_again (λ t x text. Spells (body t) x text) (λ t f l. ElementFaults (body t) f l kind)
    (λ t c. reading (body t) c) kind
    (λ t x text rest k g. complete (body t) x text rest k (each.1 t) g) (λ t f l k g. fault_again (body t) k f l kind
    (each.1 t) g) each.0
    h.0 (suc (length (front ++ left))) s front left at h.1 (omega (arith, length-append front left))

-- A READER'S FAULT IS THE FIRST FAULT: the one of the element after the longest list of elements that have none.
pub first_fault_is : {A : Type 0} (s : Syntax A) (b : Bits) (d : Fault) → IsProductive s
    → (reading s b ≡ Err d) ↔ IsFirstFault s b d
first_fault_is {A} s b d each = (
  λ e. fault_found s b d each e,
  λ f. ap (λ (t : List Bool). reading s (record { at = b.at; bits = t })) f.2
      ∙ fault_again s b.at f.0 f.1 d.kind each f.4 ∙ ap (λ (k : ℕ). err {A = A × Bits} (stands d.kind k)) (sym f.3),
)

-- What holds of each fault that is found holds of the fault that was answered.
pub reads_err : {X A : Type 0} (view : X → A) (s : Syntax A) (r : Result X Fault) (old new : Bits) (P : Fault → Type 0)
    → Gives view r new (reading s old)
    → ((d : Fault) → reading s old ≡ Err d → P d) → IfErr r P
reads_err view s (Ok x) old new P g each = tt
reads_err view s (Err e) old new P g each = each e g

-- ---- the rows of a table of faults

-- a value that isn't the one of its field
pub only_other : (value x : ℕ) (kind : FaultKind) → (x ≡ value → ⊥) → only value kind x ≡ Some kind
only_other value x kind other = at_test (eqb x value) refl
  where
    at_test : (t : Bool) → eqb x value ≡ t → cond t None (Some kind) ≡ Some kind
    at_test true h = absurd (other (eqb-true x value h))
    at_test false h = refl

pub fault_here : {A : Type 0} (n : ℕ) (allowed : Allowed ℕ) (next : ℕ → Syntax A) (v : ℕ) (more : List Bool)
    (kind : FaultKind) → v < 2 ^ n → allowed v ≡ Some kind
    → HasFault (field n allowed next) (spelled n v ++ more) kind 0
unfolding reading
fault_here n allowed next v more kind lt some = λ at rest. rw (
  append_assoc (spelled n v) more rest,
  number_again n v at (more ++ rest) lt,
  some,
  add-zero at,
) refl

pub fault_after_field : {A : Type 0} (n : ℕ) (allowed : Allowed ℕ) (next : ℕ → Syntax A) (v : ℕ) (text : List Bool)
    (kind : FaultKind) (place : ℕ) → v < 2 ^ n → allowed v ≡ None → HasFault (next v) text kind place
    → HasFault (field n allowed next) (spelled n v ++ text) kind (n + place)
unfolding reading
fault_after_field n allowed next v text kind place lt none h =
    λ at rest. rw (
      append_assoc (spelled n v) text rest,
      field_again n allowed v at (text ++ rest) lt none,
      h (at + length (spelled n v)) rest,
      length-spelled n v,
      add_assoc at n place,
    ) refl

pub fault_after_word : {S A : Type 0} (words : Words S) (next : S → Syntax A) (word : List Bool) (x : S)
    (text : List Bool) (kind : FaultKind) (place : ℕ) → IsIn (word, x) words.list → HasFault (next x) text kind place
    → HasFault (code words next) (word ++ text) kind (length word + place)
unfolding reading
fault_after_word words next word x text kind place listed h =
    λ at rest. rw (
      append_assoc word text rest,
      word_again words.list word x at (text ++ rest) words.apart listed,
      h (at + length word) rest,
      add_assoc at (length word) place,
    ) refl

pub fault_in_part : {S A : Type 0} (s : Syntax S) (allowed : Allowed S) (next : S
    → Syntax A) (text : List Bool) (kind : FaultKind) (place : ℕ) → HasFault s text kind place
    → HasFault (part s allowed next) text kind place
unfolding reading
fault_in_part s allowed next text kind place h = λ at rest. rw (h at rest) refl

pub fault_of_part : {S A : Type 0} (s : Syntax S) (allowed : Allowed S) (next : S
    → Syntax A) (x : S) (text more : List Bool) (kind : FaultKind) → IsProductive s → Spells s x text
    → allowed x ≡ Some kind
    → HasFault (part s allowed next) (text ++ more) kind 0
unfolding reading
fault_of_part s allowed next x text more kind each spelt some = λ at rest. rw (
  append_assoc text more rest,
  complete s x text (more ++ rest) at each spelt,
  some,
  add-zero at,
) refl

pub fault_after_part : {S A : Type 0} (s : Syntax S) (allowed : Allowed S) (next : S
    → Syntax A) (x : S) (front text : List Bool) (kind : FaultKind) (place : ℕ) → IsProductive s → Spells s x front
    → allowed x ≡ None → HasFault (next x) text kind place
    → HasFault (part s allowed next) (front ++ text) kind (length front + place)
unfolding reading
fault_after_part s allowed next x front text kind place each spelt none h =
    λ at rest. rw (
      append_assoc front text rest,
      complete s x front (text ++ rest) at each spelt,
      none,
      h (at + length front) rest,
      add_assoc at (length front) place,
    ) refl

-- each fault inside an element stands at the element's first bit
pub fault_in_element : {S A : Type 0} (s : Syntax S) (allowed : Allowed S) (next : S
    → Syntax A) (text : List Bool) (kind : FaultKind) (place : ℕ) → HasFault s text kind place
    → HasFault (element s allowed next) text kind 0
unfolding reading
fault_in_element s allowed next text kind place h = λ at rest. rw (h at rest, add-zero at) refl

pub fault_of_element : {S A : Type 0} (s : Syntax S) (allowed : Allowed S) (next : S
    → Syntax A) (x : S) (text more : List Bool) (kind : FaultKind) → IsProductive s → Spells s x text
    → allowed x ≡ Some kind
    → HasFault (element s allowed next) (text ++ more) kind 0
unfolding reading
fault_of_element s allowed next x text more kind each spelt some = λ at rest. rw (
  append_assoc text more rest,
  complete s x text (more ++ rest) at each spelt,
  some,
  add-zero at,
) refl

pub fault_after_element : {S A : Type 0} (s : Syntax S) (allowed : Allowed S) (next : S
    → Syntax A) (x : S) (front text : List Bool) (kind : FaultKind) (place : ℕ) → IsProductive s → Spells s x front
    → allowed x ≡ None → HasFault (next x) text kind place
    → HasFault (element s allowed next) (front ++ text) kind (length front + place)
unfolding reading
fault_after_element s allowed next x front text kind place each spelt none h =
    λ at rest. rw (
      append_assoc front text rest,
      complete s x front (text ++ rest) at each spelt,
      none,
      h (at + length front) rest,
      add_assoc at (length front) place,
    ) refl

pub fault_in_turn : {S A : Type 0} (s : S) (body : S → Syntax (LoopTurn S A)) (text : List Bool) (kind : FaultKind)
    (place : ℕ) → HasFault (body s) text kind place → HasFault (repeat s body) text kind place
unfolding reading
fault_in_turn s body text kind place h = λ at rest. rw (h at rest) refl

pub fault_after_turn : {S A : Type 0} (s t : S) (body : S → Syntax (LoopTurn S A)) (front text : List Bool)
    (kind : FaultKind) (place : ℕ) → IsProductive (body s) → ((t u : S) → Spells (body t) (again u) [] → ⊥)
    → Spells (body s) (again t) front → HasFault (repeat t body) text kind place
    → HasFault (repeat s body) (front ++ text) kind (length front + place)
fault_after_turn s t body front text kind place each some spelt h =
    λ at rest. ap (λ (b : List Bool). reading (repeat s body) (record { at = at; bits = b }))
    (append_assoc front text rest)
    ∙ repeat-again s t body (record { at = at; bits = front ++ (text ++ rest) }) (record {
      at = at + length front;
      bits = text ++ rest;
    }) some (complete (body s) (again t) front (text ++ rest) at each spelt)
    ∙ h (at + length front) rest
    ∙ ap (λ (k : ℕ). err (stands kind k)) (add_assoc at (length front) place)

-- a field that is cut
pub fault_of_cut : {A : Type 0} (n : ℕ) (allowed : Allowed ℕ) (next : ℕ → Syntax A) (text : List Bool) → length text < n
    → EndsWithFault (field n allowed next) text Ended 0
unfolding reading
fault_of_cut n allowed next text lt = λ at. rw (short_fault n (record { at = at; bits = text }) lt, add-zero at) refl

-- a word that there isn't
pub fault_of_no_word : {S A : Type 0} (words : Words S) (next : S → Syntax A) (x : List Bool)
    → list_all (λ u. not (begins x u.0) && not (begins u.0 x)) words.list ≡ true
    → HasFault (code words next) x BadCode 0
unfolding reading
fault_of_no_word words next x e = λ at rest. rw (
  word_fault_again words.list at (x ++ rest) BadCode words.apart
      (inr (no_word_of_front words.list x rest e, refl)),
  add-zero at,
) refl

-- the text of a row in another form
pub fault_of_text : {A : Type 0} (s : Syntax A) (x y : List Bool) (kind : FaultKind) (place : ℕ) → x ≡ y
    → HasFault s x kind place → HasFault s y kind place
fault_of_text s x y kind place e h = λ at rest. ap (λ (t : List Bool). reading s (record { at = at; bits = t ++ rest }))
    (sym e) ∙ h at rest

pub fault_of_whole_part : {S A : Type 0} (s : Syntax S) (allowed : Allowed S) (next : S
    → Syntax A) (x : S) (text : List Bool) (kind : FaultKind) → IsProductive s → Spells s x text → allowed x ≡ Some kind
    → HasFault (part s allowed next) text kind 0
fault_of_whole_part s allowed next x text kind each spelt some = fault_of_text (part s allowed next) (text
    ++ []) text kind 0 (append-nil text) (fault_of_part s allowed next x text [] kind each spelt some)

-- what ends inside a word's element is cut at its first bit
pub ends_after_word : {S A : Type 0} (words : Words S) (next : S → Syntax A) (word : List Bool) (x : S)
    (text : List Bool) (kind : FaultKind) (place : ℕ) → IsIn (word, x) words.list
    → EndsWithFault (next x) text kind place → EndsWithFault (code words next) (word ++ text) kind (length word + place)
unfolding reading
ends_after_word words next word x text kind place listed h =
    λ at. rw (
      word_again words.list word x at text words.apart listed,
      h (at + length word),
      add_assoc at (length word) place,
    ) refl

pub ends_in_element : {S A : Type 0} (s : Syntax S) (allowed : Allowed S) (next : S
    → Syntax A) (text : List Bool) (kind : FaultKind) (place : ℕ) → EndsWithFault s text kind place
    → EndsWithFault (element s allowed next) text kind 0
unfolding reading
ends_in_element s allowed next text kind place h = λ at. rw (h at, add-zero at) refl
