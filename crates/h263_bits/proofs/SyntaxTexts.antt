-- What a reader finds is spelled so, and what is spelled so is found, whatever follows it: for every syntax at once.
use Rattle.std.proofs.Common.{◌≡◌, ℕ, zero, suc, ◌+◌, ◌-◌, ◌*◌, ◌^◌, ◌<◌, ◌≤◌, Bool, true, false, cond, List, [], ◌∷◌, ◌++◌, length, take, drop, Option, Some, None, Result, Ok, Err, refl, sym, ap, subst, ◌∙◌, append_assoc, add_assoc, add-zero, arith, inl, inr}
use Rattle.std.specs.List.{list_all}
use Rattle.std.specs.Prelude.{◌&&◌, ◌⊎◌, not, nat_lt, sum_by, IfOk, IsOkAnd}
use Rattle.std.proofs.Math.Nat.{mod-eq_of_lt}
use Rattle.std.proofs.lemmas.List.Sums.{sum_by-cons}
use Rattle.std.proofs.lemmas.Bool.{cases_lt, ltb-true, le-ltb, lt-ltb}
use Rattle.std.proofs.lemmas.List.{append-nil, take_at, drop_at, take-append-drop, length-append, length-take}
use Rattle.h263_bits.specs.declared.fault.Fault.{Fault}
use Rattle.h263_bits.specs.declared.fault.FaultKind.{FaultKind}
use Rattle.h263_bits.specs.declared.fault.FaultKind.TheVariants.{Ended, BadCode}
use Rattle.h263_bits.specs.declared.writer.BitWriter.{BitWriter}
use Rattle.h263_bits.specs.Bits.{bits_of, number, spelled, fields}
use Rattle.h263_bits.specs.Written.{Appends, written}
use Rattle.h263_bits.specs.Reading.{Bits, bits_between, Gives, Takes, ok, err, first_fault, skip, number_at, ◌>>=◌}
use Rattle.h263_bits.specs.Syntax.{Syntax, Allowed, IsIn, Words, begins, found, is_cut, word_taken, is_prefix_free, LoopTurn, again, finally, done, field, code, part, element, repeat, refused, field_at, word_at, standing_at, repeat_turned, turns_at, either, Turns, Spells, reading, IsProductive}
use Rattle.h263_bits.proofs.BitLists.{length-spelled, length-bits_of, number-lt, number-spelled, spelled-number, length-window, drop-window}

-- the value of a step that did not fail
pub bind_ok : {A B : Type 0} (r : Result A Fault) (f : A → Result B Fault) (y : B) → (r >>= f) ≡ Ok y
    → (x : A) × (r ≡ Ok x) × (f x ≡ Ok y)
bind_ok (Ok x) f y e = (x, refl, e)
bind_ok (Err d) f y e = absurd cc

pub err_not_ok : {A : Type 0} (d : Fault) (x : A) → err d ≡ ok x → ⊥
err_not_ok d x e = cc

pub ok_is : {A : Type 0} (x y : A) → ok x ≡ ok y → x ≡ y
ok_is x y e = cc

-- a value that was not refused
pub allowed_ok : {A : Type 0} (o : Option FaultKind) (at : ℕ) (r : Result A Fault) (y : A) → refused o at r ≡ Ok y
    → (o ≡ None) × (r ≡ Ok y)
allowed_ok None at r y e = (refl, e)
allowed_ok (Some k) at r y e = absurd cc

-- a fault that a test did not find
pub passed_if : {A : Type 0} (t : Bool) (f : Fault) (x : Result A Fault) (r : A) → cond t (err f) x ≡ ok r
    → (t ≡ false) × (x ≡ Ok r)
passed_if true f x r e = absurd (err_not_ok f r e)
passed_if false f x r e = (refl, e)

pub passed_unless : {A : Type 0} (t : Bool) (f : Fault) (x : Result A Fault) (r : A) → cond t x (err f) ≡ ok r
    → (t ≡ true) × (x ≡ Ok r)
passed_unless true f x r e = (refl, e)
passed_unless false f x r e = absurd (err_not_ok f r e)

pub standing_ok : {A : Type 0} (at : ℕ) (r : Result A Fault) (y : A) → standing_at at r ≡ Ok y → r ≡ Ok y
standing_ok at (Ok x) y e = e
standing_ok at (Err d) y e = absurd cc

-- the text between two places
pub record Between (b : Bits) (text : List Bool) (c : Bits) : Type 0 where
  pub parts : b.bits ≡ text ++ c.bits
  pub at : c.at ≡ b.at + length text

pub Between-nil : (b : Bits) → Between b [] b
Between-nil b = record { parts = refl; at = omega arith }

pub Between-then : (b c d : Bits) (x y : List Bool) → Between b x c → Between c y d → Between b (x ++ y) d
Between-then b c d x y p q = record {
  parts = p.parts ∙ ap (λ (t : List Bool). x ++ t) q.parts
      ∙ sym (append_assoc x y d.bits);
  at = omega (arith, p.at, q.at, length-append x y);
}

-- ---- numbers

pub long_is : (n : ℕ) (b : Bits) → n ≤ length b.bits → number_at n b ≡ Ok (number (take n b.bits), skip n b)
unfolding number_at
long_is n b le = rw (le-ltb _ _ le) refl

short_is : (n : ℕ) (b : Bits) (v : ℕ) (c : Bits) → length b.bits < n → number_at n b ≡ Ok (v, c) → ⊥
unfolding number_at
short_is n b v c lt e = let f : err (record { kind = Ended; at = b.at }) ≡ ok (v, c) = rw (lt-ltb _ _ lt) at e in
    err_not_ok _ _ f

pub number_takes : (n v : ℕ) (b c : Bits) → number_at n b ≡ Ok (v, c) → Between b (spelled n v) c × (v < 2 ^ n)
number_takes n v b c e =
    elim (cases_lt (length b.bits) n) [
      | inl lt ↦ absurd (short_is n b v c lt e)
      | inr le ↦
          let f = ok_is (number (take n b.bits), skip n b) (v, c) (sym (long_is n b le) ∙ e) in
          let v-is : number (take n b.bits) ≡ v = ap (λ (p : ℕ × Bits). p.0) f in
          let c-is : skip n b ≡ c = ap (λ (p : ℕ × Bits). p.1) f in
          let len : length (take n b.bits) ≡ n = omega (arith, length-take n b.bits) in
          let text : spelled n v ≡ take n b.bits = ap (spelled n) (sym v-is)
          ∙ ap (λ (k : ℕ). spelled k (number (take n b.bits))) (sym len) ∙ spelled-number (take n b.bits) in (
            subst (λ (d : Bits). Between b (spelled n v) d) c-is
                (record { parts = rw text (sym (take-append-drop n b.bits)); at = omega (arith, length-spelled n v) }),
            subst (λ (w : ℕ). w < 2 ^ n) v-is (subst (λ (k : ℕ). number (take n b.bits) < 2 ^ k) len
                (number-lt (take n b.bits))),
          )
    ]

pub number_again : (n v at : ℕ) (rest : List Bool) → v < 2 ^ n
    → number_at n (record { at = at; bits = spelled n v ++ rest }) ≡ Ok (
      v,
      record {
        at = at + length (spelled n v);
        bits = rest;
      },
    )
number_again n v at rest lt =
    let len = length-spelled n v in
    long_is n (record { at = at; bits = spelled n v ++ rest }) (omega (arith, length-append (spelled n v) rest))
    ∙ rw (
      take_at (spelled n v) rest n len,
      drop_at (spelled n v) rest n len,
      number-spelled n v,
      mod-eq_of_lt lt,
      len,
    ) refl

pub field_takes : (n : ℕ) (allowed : Allowed ℕ) (v : ℕ) (b c : Bits) → field_at n allowed b ≡ Ok (v, c)
    → Between b (spelled n v) c × (v < 2 ^ n) × (allowed v ≡ None)
field_takes n allowed v b c e =
    let s = bind_ok (number_at n b) (λ x. refused (allowed x.0) b.at (Ok x)) (v, c) e in
    let g = allowed_ok (allowed s.0.0) b.at (Ok s.0) (v, c) s.2 in
    let same = ok_is s.0 (v, c) g.1 in
    let t = number_takes n v b c (s.1 ∙ g.1) in
    (t.0, t.1, ap (λ (p : ℕ × Bits). allowed p.0) (sym same) ∙ g.0)

pub field_again : (n : ℕ) (allowed : Allowed ℕ) (v at : ℕ) (rest : List Bool) → v < 2 ^ n → allowed v ≡ None
    → field_at n allowed (record { at = at; bits = spelled n v ++ rest })
    ≡ Ok (v, record { at = at + length (spelled n v); bits = rest })
field_again n allowed v at rest lt e = rw (number_again n v at rest lt, e) refl

-- ---- words

pub begins_parts : (word bits : List Bool) → begins word bits ≡ true → bits ≡ word ++ drop (length word) bits
unfolding begins
begins_parts [] bits e = refl
begins_parts (w ∷ word) [] e = absurd cc
begins_parts (true ∷ word) (true ∷ bits) e = ap (λ (t : List Bool). true ∷ t) (begins_parts word bits e)
begins_parts (true ∷ word) (false ∷ bits) e = absurd cc
begins_parts (false ∷ word) (true ∷ bits) e = absurd cc
begins_parts (false ∷ word) (false ∷ bits) e = ap (λ (t : List Bool). false ∷ t) (begins_parts word bits e)

pub begins_itself : (word rest : List Bool) → begins word (word ++ rest) ≡ true
unfolding begins
begins_itself [] rest = refl
begins_itself (true ∷ word) rest = begins_itself word rest
begins_itself (false ∷ word) rest = begins_itself word rest

-- two words that begin the same bits begin one another
pub both_begin : (v w rest : List Bool) → begins v (w ++ rest) ≡ true → (begins v w ≡ true) ⊎ (begins w v ≡ true)
unfolding begins
both_begin [] w rest e = inl refl
both_begin (a ∷ v) [] rest e = inr refl
both_begin (true ∷ v) (true ∷ w) rest e = both_begin v w rest e
both_begin (true ∷ v) (false ∷ w) rest e = absurd cc
both_begin (false ∷ v) (true ∷ w) rest e = absurd cc
both_begin (false ∷ v) (false ∷ w) rest e = both_begin v w rest e

pub and_both : (a b : Bool) → (a && b) ≡ true → (a ≡ true) × (b ≡ true)
and_both true b e = (refl, e)
and_both false b e = absurd cc

pub not_false : (a : Bool) → not a ≡ true → a ≡ false
not_false true e = absurd cc
not_false false e = refl

pub found_in : {S : Type 0} (words : List (List Bool × S)) (bits : List Bool) (w : List Bool × S)
    → found words bits ≡ Some w → IsIn w words × (begins w.0 bits ≡ true)
unfolding found
found_in [] bits w e = absurd cc
found_in {S} (v ∷ words) bits w e = chosen (begins v.0 bits) refl e (found_in words bits w)
  where
    chosen : (b : Bool) → begins v.0 bits ≡ b → cond b (Some v) (found words bits) ≡ Some w
        → (found words bits ≡ Some w → IsIn w words × (begins w.0 bits ≡ true))
        → IsIn w (v ∷ words) × (begins w.0 bits ≡ true)
    chosen true h e more = let same : v ≡ w = cc in
        (inl same, subst (λ (u : List Bool × S). begins u.0 bits ≡ true) same h)
    chosen false h e more = let i = more e in (inr i.0, i.1)

pub apart_at : {S : Type 0} (v w : List Bool × S) (words : List (List Bool × S))
    → list_all (λ u. not (begins v.0 u.0) && not (begins u.0 v.0)) words ≡ true → IsIn w words
    → (begins v.0 w.0 ≡ false) × (begins w.0 v.0 ≡ false)
apart_at v w [] e h = absurd h
apart_at {S} v w (u ∷ words) e h =
    let p = and_both (not (begins v.0 u.0) && not (begins u.0 v.0))
    (list_all (λ u. not (begins v.0 u.0) && not (begins u.0 v.0)) words) e in
    let q = and_both (not (begins v.0 u.0)) (not (begins u.0 v.0)) p.0 in
    elim h [
      | inl same ↦ subst (λ (x : List Bool × S). (begins v.0 x.0 ≡ false) × (begins x.0 v.0 ≡ false)) same
          (not_false _ q.0, not_false _ q.1)
      | inr later ↦ apart_at v w words p.1 later
    ]

pub found_again : {S : Type 0} (words : List (List Bool × S)) (w : List Bool × S) (rest : List Bool)
    → is_prefix_free words ≡ true → IsIn w words → found words (w.0 ++ rest) ≡ Some w
unfolding found is_prefix_free
found_again [] w rest e h = absurd h
found_again {S} (v ∷ words) w rest e h =
    let p = and_both (list_all (λ u. not (begins v.0 u.0) && not (begins u.0 v.0)) words) (is_prefix_free words) e in
    elim h [
      | inl same ↦ subst (λ (x : List Bool × S). found (v ∷ words) (x.0 ++ rest) ≡ Some x) same
          (rw (begins_itself v.0 rest) refl)
      | inr later ↦
          let a = apart_at v w words p.0 later in
          let no : begins v.0 (w.0 ++ rest) ≡ false = none (begins v.0 (w.0 ++ rest)) refl a.0 a.1 in
          rw no (found_again words w rest p.1 later)
    ]
  where
    none : (b : Bool) → begins v.0 (w.0 ++ rest) ≡ b → begins v.0 w.0 ≡ false → begins w.0 v.0 ≡ false → b ≡ false
    none true h x y = elim (both_begin v.0 w.0 rest h) [ inl i ↦ absurd cc | inr i ↦ absurd cc ]
    none false h x y = refl

pub word_takes : {S : Type 0} (words : List (List Bool × S)) (x : S) (b c : Bits) → word_at words b ≡ Ok (x, c)
    → (w : List Bool) × IsIn (w, x) words × Between b w c
unfolding word_at
word_takes {S} words x b c e = at_found (found words b.bits) refl e
  where
    at_found : (o : Option (List Bool × S)) → found words b.bits ≡ o → word_taken words b o ≡ Ok (x, c)
        → (w : List Bool) × IsIn (w, x) words × Between b w c
    at_found None h e = absurd (cut (is_cut words b.bits) e)
      where
        cut : (t : Bool) → cond t (err {A = S × Bits} (record { kind = Ended; at = b.at }))
            (err (record { kind = BadCode; at = b.at })) ≡ ok (x, c) → ⊥
        cut true e = err_not_ok _ _ e
        cut false e = err_not_ok _ _ e
    at_found (Some w) h e =
        let f = ok_is (w.1, skip (length w.0) b) (x, c) e in
        let i = found_in words b.bits w h in
        let x-is : w.1 ≡ x = ap (λ (p : S × Bits). p.0) f in
        let c-is : skip (length w.0) b ≡ c = ap (λ (p : S × Bits). p.1) f in (
          w.0,
          subst (λ (y : S). IsIn (w.0, y) words) x-is i.0,
          subst (λ (d : Bits). Between b w.0 d) c-is (record {
            parts = begins_parts w.0 b.bits i.1;
            at = omega arith;
          }),
        )

pub word_again : {S : Type 0} (words : List (List Bool × S)) (w : List Bool) (x : S) (at : ℕ) (rest : List Bool)
    → is_prefix_free words ≡ true → IsIn (w, x) words → word_at words (record { at = at; bits = w ++ rest })
    ≡ Ok (x, record { at = at + length w; bits = rest })
unfolding word_at
word_again words w x at rest apart h = rw (found_again words (w, x) rest apart h, drop_at w rest (length w) refl) refl

-- ---- whole syntaxes

-- what a reader finds is spelled by the text that it took
pub Finds : {A : Type 0} → (A → List Bool → Type 0) → Bits → Bits → A → Type 0
Finds spells b c a = (text : List Bool) × Between b text c × spells a text

turns_sound : {S A : Type 0} (spells : S → LoopTurn S A → List Bool → Type 0) (body : S → Bits
    → Result (LoopTurn S A × Bits) Fault)
    → ((t : S) (b c : Bits) (x : LoopTurn S A) → body t b ≡ Ok (x, c) → (text : List Bool) × Between b text c
    × spells t x text)
    → (fuel : ℕ) (s : S) (b c : Bits) (a : A) → turns_at body fuel s b ≡ Ok (a, c)
    → (text : List Bool) × Between b text c × (n : ℕ) × Turns spells n s a text
turns_sound spells body each zero s b c a e = absurd cc
turns_sound {S} {A} spells body each (suc fuel) s b c a e =
    let one = bind_ok (body s b) (λ x. repeat_turned (turns_at body fuel) x.0 x.1) (a, c) e in
    let first = each s b one.0.1 one.0.0 one.1 in
    after one.0.0 one.0.1 first.0 first.1 first.2 one.2 (λ t d h. turns_sound spells body each fuel t d c a h)
  where
    after : (x : LoopTurn S A) (d : Bits) (front : List Bool) → Between b front d → spells s x front
        → repeat_turned (turns_at body fuel) x d ≡ Ok (a, c)
        → ((t : S) (d : Bits) → turns_at body fuel t d ≡ Ok (a, c) → (text : List Bool) × Between d text c × (n : ℕ)
        × Turns spells n t a text)
        → (text : List Bool) × Between b text c × (n : ℕ) × Turns spells n s a text
    after (again t) d front takes spelt e more =
        let m = more t d e in
        (front ++ m.0, Between-then b d c front m.0 takes m.1, suc m.2, (t, front, m.0, refl, spelt, m.3))
    after (finally v) d front takes spelt e more =
        let f = ok_is (v, d) (a, c) e in
        let v-is : v ≡ a = ap (λ (p : A × Bits). p.0) f in
        let d-is : d ≡ c = ap (λ (p : A × Bits). p.1) f in (
          front,
          subst (λ (u : Bits). Between b front u) d-is takes,
          0,
          subst (λ (u : A). spells s (finally u) front) v-is spelt,
        )

pub sound : {A : Type 0} (s : Syntax A) (b c : Bits) (a : A) → reading s b ≡ Ok (a, c)
    → (text : List Bool) × Between b text c × Spells s a text
unfolding reading Spells
sound {A} (done x) b c a e =
    let f = ok_is (x, b) (a, c) e in
    let x-is : x ≡ a = ap (λ (p : A × Bits). p.0) f in
    let b-is : b ≡ c = ap (λ (p : A × Bits). p.1) f in
    ([], subst (λ (d : Bits). Between b [] d) b-is (Between-nil b), (sym x-is, refl))
sound (field n allowed next) b c a e =
    let one = bind_ok (field_at n allowed b) (λ x. reading (next x.0) x.1) (a, c) e in
    let t = field_takes n allowed one.0.0 b one.0.1 one.1 in
    let r = sound (next one.0.0) one.0.1 c a one.2 in (
      spelled n one.0.0 ++ r.0,
      Between-then b one.0.1 c (spelled n one.0.0) r.0 t.0 r.1,
      (one.0.0, r.0, t.1, t.2, refl, r.2),
    )
sound (code words next) b c a e =
    let one = bind_ok (word_at words.list b) (λ x. reading (next x.0) x.1) (a, c) e in
    let t = word_takes words.list one.0.0 b one.0.1 one.1 in
    let r = sound (next one.0.0) one.0.1 c a one.2 in
    (t.0 ++ r.0, Between-then b one.0.1 c t.0 r.0 t.2 r.1, (t.0, one.0.0, r.0, t.1, refl, r.2))
sound (part s allowed next) b c a e =
    let one = bind_ok (reading s b) (λ x. refused (allowed x.0) b.at (reading (next x.0) x.1)) (a, c) e in
    let t = sound s b one.0.1 one.0.0 one.1 in
    let g = allowed_ok (allowed one.0.0) b.at (reading (next one.0.0) one.0.1) (a, c) one.2 in
    let r = sound (next one.0.0) one.0.1 c a g.1 in
    (t.0 ++ r.0, Between-then b one.0.1 c t.0 r.0 t.1 r.1, (one.0.0, t.0, r.0, refl, t.2, g.0, r.2))
sound (element s allowed next) b c a e =
    let one = bind_ok (standing_at b.at (reading s b)) (λ x. refused (allowed x.0) b.at (reading (next x.0) x.1)) (
      a,
      c,
    ) e in
    let t = sound s b one.0.1 one.0.0 (standing_ok b.at (reading s b) one.0 one.1) in
    let g = allowed_ok (allowed one.0.0) b.at (reading (next one.0.0) one.0.1) (a, c) one.2 in
    let r = sound (next one.0.0) one.0.1 c a g.1 in
    (t.0 ++ r.0, Between-then b one.0.1 c t.0 r.0 t.1 r.1, (one.0.0, t.0, r.0, refl, t.2, g.0, r.2))
sound (repeat s body) b c a e =
    let m = turns_sound (λ t x front. Spells (body t) x front) (λ t d. reading (body t) d)
    (λ t d f x h. sound (body t) d f x h) (suc (length b.bits)) s b c a e in
    (m.0, m.1, (m.2, m.3))

abbrev from : ℕ → List Bool → Bits
from at bits = record { at = at; bits = bits }

turns_complete : {S A : Type 0} (spells : S → LoopTurn S A → List Bool → Type 0) (body : S → Bits
    → Result (LoopTurn S A × Bits) Fault)
    → ((t : S) (x : LoopTurn S A) (text rest : List Bool) (at : ℕ) → spells t x text
    → body t (record { at = at; bits = text ++ rest }) ≡ Ok (x, record { at = at + length text; bits = rest }))
    → ((t u : S) → spells t (again u) [] → ⊥)
    → (n fuel : ℕ) (s : S) (a : A) (text rest : List Bool) (at : ℕ) → Turns spells n s a text → length text < fuel
    → turns_at body fuel s (record { at = at; bits = text ++ rest })
    ≡ Ok (a, record { at = at + length text; bits = rest })
turns_complete spells body each some n zero s a text rest at h lt = absurd (omega arith)
turns_complete spells body each some zero (suc fuel) s a text rest at h lt = rw (each s (finally a) text rest at h) refl
turns_complete {S} {A} spells body each some (suc n) (suc fuel) s a text rest at h lt =
    let t = h.0 in
    let front = h.1 in
    let tail = h.2 in
    let e : text ++ rest ≡ front ++ (tail ++ rest) = ap (λ (x : List Bool). x ++ rest) h.3
    ∙ append_assoc front tail rest in
    let len : length text ≡ length front + length tail = ap length h.3 ∙ length-append front tail in
    let one : body s (record { at = at; bits = front ++ (tail ++ rest) })
    ≡ Ok (again t, record { at = at + length front; bits = tail ++ rest }) = each s (again t) front (tail
    ++ rest) at h.4 in
    let more = turns_complete spells body each some n fuel t a tail rest (at + length front) h.5
    (shorter front tail text lt len (λ z. some s t (subst (λ (x : List Bool). spells s (again t) x) z h.4))) in
    rw (e, one, more, len, add_assoc at (length front) (length tail)) refl
  where
    shorter : (front tail whole : List Bool) → length whole < suc fuel → length whole ≡ length front + length tail
        → (front ≡ [] → ⊥) → length tail < fuel
    shorter [] tail whole short len none = absurd (none refl)
    shorter (f ∷ front) tail whole short len none = omega arith

pub complete : {A : Type 0} (s : Syntax A) (a : A) (text rest : List Bool) (at : ℕ) → IsProductive s → Spells s a text
    → reading s (record { at = at; bits = text ++ rest }) ≡ Ok (a, record { at = at + length text; bits = rest })
unfolding reading Spells IsProductive
complete (done x) a text rest at ok h = rw (h.0, h.1) (ap (λ (k : ℕ). Ok (x, record { at = k; bits = rest }))
    (sym (add-zero at)))
complete (field n allowed next) a text rest at ok h =
    let v = h.0 in
    let e : text ++ rest ≡ spelled n v ++ (h.1 ++ rest) = ap (λ (x : List Bool). x ++ rest) h.4
    ∙ append_assoc (spelled n v) h.1 rest in
    let len : length text ≡ length (spelled n v) + length h.1 = ap length h.4 ∙ length-append (spelled n v) h.1 in
    rw (
      e,
      field_again n allowed v at (h.1 ++ rest) h.2 h.3,
      complete (next v) a h.1 rest (at + length (spelled n v))
          (ok v) h.5,
      len,
      add_assoc at (length (spelled n v)) (length h.1),
    ) refl
complete (code words next) a text rest at ok h =
    let w = h.0 in
    let x = h.1 in
    let e : text ++ rest ≡ w ++ (h.2 ++ rest) = ap (λ (y : List Bool). y ++ rest) h.4 ∙ append_assoc w h.2 rest in
    let len : length text ≡ length w + length h.2 = ap length h.4 ∙ length-append w h.2 in
    rw (
      e,
      word_again words.list w x at (h.2 ++ rest) words.apart h.3,
      complete (next x) a h.2 rest (at + length w) (ok x) h.5,
      len,
      add_assoc at (length w) (length h.2),
    ) refl
complete (part s allowed next) a text rest at ok h =
    let x = h.0 in
    let e : text ++ rest ≡ h.1 ++ (h.2 ++ rest) = ap (λ (y : List Bool). y ++ rest) h.3 ∙ append_assoc h.1 h.2 rest in
    let len : length text ≡ length h.1 + length h.2 = ap length h.3 ∙ length-append h.1 h.2 in
    rw (
      e,
      complete s x h.1 (h.2 ++ rest) at ok.0 h.4,
      h.5,
      complete (next x) a h.2 rest (at + length h.1) (ok.1 x) h.6,
      len,
      add_assoc at (length h.1) (length h.2),
    ) refl
complete (element s allowed next) a text rest at ok h =
    let x = h.0 in
    let e : text ++ rest ≡ h.1 ++ (h.2 ++ rest) = ap (λ (y : List Bool). y ++ rest) h.3 ∙ append_assoc h.1 h.2 rest in
    let len : length text ≡ length h.1 + length h.2 = ap length h.3 ∙ length-append h.1 h.2 in
    rw (
      e,
      complete s x h.1 (h.2 ++ rest) at ok.0 h.4,
      h.5,
      complete (next x) a h.2 rest (at + length h.1) (ok.1 x) h.6,
      len,
      add_assoc at (length h.1) (length h.2),
    ) refl
complete (repeat s body) a text rest at ok h =
    turns_complete (λ t x front. Spells (body t) x front) (λ t d. reading (body t) d)
    (λ t x front tail k g. complete (body t) x front tail k (ok.1 t) g) ok.0 h.0 (suc (length (text ++ rest))) s a
    text rest at h.1 (omega (arith, length-append text rest))

-- Of two texts of which one begins the other both are the same, and spell the same value.
pub one_reading : {A : Type 0} (s : Syntax A) (a b : A) (x y more : List Bool) → IsProductive s → Spells s a x
    → Spells s b y → x ++ more ≡ y → (x ≡ y) × (a ≡ b)
one_reading {A} s a b x y more each p q e =
    let first : reading s (record { at = 0; bits = x ++ more }) ≡ Ok (a, record { at = 0 + length x; bits = more }) =
    complete s a x more 0 each p in
    let second : reading s (record { at = 0; bits = y ++ [] }) ≡ Ok (b, record { at = 0 + length y; bits = [] }) =
    complete s b y [] 0 each q in
    let whole : x ++ more ≡ y ++ [] = e ∙ sym (append-nil y) in
    let same : ok (a, from (0 + length x) more) ≡ ok (b, from (0 + length y) []) = sym first
    ∙ ap (λ (t : List Bool). reading s (record { at = 0; bits = t })) whole ∙ second in
    let f = ok_is _ _ same in
    let rest : more ≡ [] = ap (λ (p : A × Bits). p.1.bits) f in
    (sym (append-nil x) ∙ ap (λ (t : List Bool). x ++ t) (sym rest) ∙ e, ap (λ (p : A × Bits). p.0) f)

-- ---- what a public reader promises, from what it gives

-- What is read is spelled by the bits that were taken.
pub reads_texts : {X A : Type 0} (view : X → A) (s : Syntax A) (r : Result X Fault) (old new : Bits)
    → Gives view r new (reading s old) → IfOk r (λ x. Takes old new (Spells s (view x)))
reads_texts view s (Ok x) old new g = let f = sound s old new (view x) g in (f.0, f.1.parts, f.1.at, f.2)
reads_texts view s (Err e) old new g = tt

-- What is spelled is read, whatever follows, and nothing else is taken.
pub texts_read : {X A : Type 0} (view : X → A) (s : Syntax A) (r : Result X Fault) (old new : Bits) → IsProductive s
    → Gives view r new (reading s old)
    → (a : A) (text rest : List Bool) → Spells s a text → old.bits ≡ text ++ rest
    → IsOkAnd r (λ x. (view x ≡ a) × (new.bits ≡ rest))
texts_read {X} {A} view s r old new each g a text rest spelt parts = at_result r g
  where
    whole : reading s old ≡ ok (a, from (old.at + length text) rest)
    whole = ap (λ (b : List Bool). reading s (record { at = old.at; bits = b })) parts
        ∙ complete s a text rest old.at each spelt

    at_result : (r : Result X Fault) → Gives view r new (reading s old)
        → IsOkAnd r (λ x. (view x ≡ a) × (new.bits ≡ rest))
    at_result (Ok x) g =
        let f = ok_is (view x, new) (a, from (old.at + length text) rest) (sym g ∙ whole) in
        (ap (λ (p : A × Bits). p.0) f, ap (λ (p : A × Bits). p.1.bits) f)
    at_result (Err e) g = err_not_ok e (a, from (old.at + length text) rest) (sym g ∙ whole)

-- What holds of each value that is spelled holds of the value that was read.
pub reads_within : {X A : Type 0} (view : X → A) (s : Syntax A) (r : Result X Fault) (old new : Bits) (P : A → Type 0)
    → Gives view r new (reading s old)
    → ((a : A) (text : List Bool) → Spells s a text → P a) → IfOk r (λ x. P (view x))
reads_within view s (Ok x) old new P g each = let f = sound s old new (view x) g in each (view x) f.0 f.2
reads_within view s (Err e) old new P g each = tt

-- The fault of the call is the first one of the reading.
pub reads_fault : {X Y : Type 0} (view : X → Y) (r : Result X Fault) (left : Bits) (read : Result (Y × Bits) Fault)
    → Gives view r left read → first_fault r ≡ first_fault read
reads_fault view (Ok x) left read g = ap first_fault (sym g)
reads_fault view (Err e) left read g = ap first_fault (sym g)

-- ---- what a writer's text spells, step by step

pub spells_done : {A : Type 0} (a : A) → Spells (done a) a []
unfolding Spells
spells_done a = (refl, refl)

pub spells_field : {A : Type 0} (n : ℕ) (allowed : Allowed ℕ) (next : ℕ → Syntax A) (a : A) (v : ℕ) (rest : List Bool)
    → v < 2 ^ n → allowed v ≡ None → Spells (next v) a rest → Spells (field n allowed next) a (spelled n v ++ rest)
unfolding Spells
spells_field n allowed next a v rest lt free h = (v, rest, lt, free, refl, h)

pub spells_code : {S A : Type 0} (words : Words S) (next : S → Syntax A) (a : A) (word : List Bool) (x : S)
    (rest : List Bool) → IsIn (word, x) words.list → Spells (next x) a rest → Spells (code words next) a (word ++ rest)
unfolding Spells
spells_code words next a word x rest listed h = (word, x, rest, listed, refl, h)

pub spells_part : {S A : Type 0} (s : Syntax S) (allowed : Allowed S) (next : S
    → Syntax A) (a : A) (x : S) (front rest : List Bool) → Spells s x front → allowed x ≡ None → Spells (next x) a rest
    → Spells (part s allowed next) a (front ++ rest)
unfolding Spells
spells_part s allowed next a x front rest first free h = (x, front, rest, refl, first, free, h)

pub spells_element : {S A : Type 0} (s : Syntax S) (allowed : Allowed S) (next : S
    → Syntax A) (a : A) (x : S) (front rest : List Bool) → Spells s x front → allowed x ≡ None → Spells (next x) a rest
    → Spells (element s allowed next) a (front ++ rest)
unfolding Spells
spells_element s allowed next a x front rest first free h = (x, front, rest, refl, first, free, h)

-- the last turn of a repeated part
pub spells_last : {S A : Type 0} (s : S) (body : S → Syntax (LoopTurn S A)) (a : A) (bits : List Bool)
    → Spells (body s) (finally a) bits → Spells (repeat s body) a bits
unfolding Spells
spells_last s body a bits h = (0, h)

-- a turn before the others
pub spells_turn : {S A : Type 0} (s t : S) (body : S → Syntax (LoopTurn S A)) (a : A) (front rest : List Bool)
    → Spells (body s) (again t) front → Spells (repeat t body) a rest → Spells (repeat s body) a (front ++ rest)
unfolding Spells
spells_turn s t body a front rest first more = (suc more.0, (t, front, rest, refl, first, more.1))

-- a whole text, where a part ends it
pub spells_whole : {A : Type 0} (s : Syntax A) (a : A) (x y : List Bool) → x ≡ y → Spells s a x → Spells s a y
spells_whole s a x y e h = subst (λ (t : List Bool). Spells s a t) e h

-- what is read of a whole text is spelled by it
pub spelled_whole : {A : Type 0} (s : Syntax A) (a : A) (text : List Bool) → reading s (record { at = 0; bits = text })
    ≡ Ok (a, record { at = length text; bits = [] }) → Spells s a text
spelled_whole s a text e =
    let found = sound s (record { at = 0; bits = text }) (record { at = length text; bits = [] }) a e in
    spells_whole s a found.0 text (sym (append-nil found.0) ∙ sym found.1.parts) found.2

-- ---- what a spelled text holds, step by step

pub done_length : {A : Type 0} (x a : A) (bits : List Bool) → Spells (done x) a bits → length bits ≡ 0
unfolding Spells
done_length x a bits h = ap length h.1

pub field_length : {A : Type 0} (n : ℕ) (allowed : Allowed ℕ) (next : ℕ → Syntax A) (a : A) (bits : List Bool)
    → Spells (field n allowed next) a bits
    → (v : ℕ) × (rest : List Bool) × Spells (next v) a rest × (length bits ≡ n + length rest)
unfolding Spells
field_length n allowed next a bits h = (
  h.0,
  h.1,
  h.5,
  ap length h.4 ∙ length-append (spelled n h.0) h.1
      ∙ ap (λ (k : ℕ). k + length h.1) (length-spelled n h.0),
)

-- a test that holds of what each word of a table stands for holds of one
pub stands_within : {S : Type 0} (test : S → Bool) (words : List (List Bool × S)) (w : List Bool × S)
    → list_all (λ v. test v.1) words ≡ true → IsIn w words → test w.1 ≡ true
stands_within test [] w e h = absurd h
stands_within {S} test (v ∷ words) w e (inl same) =
    let p = and_both (test v.1) (list_all (λ v. test v.1) words) e in
    subst (λ (x : List Bool × S). test x.1 ≡ true) same p.0
stands_within test (v ∷ words) w e (inr later) =
    let p = and_both (test v.1) (list_all (λ v. test v.1) words) e in
    stands_within test words w p.1 later

-- ---- fields one after the other

pub fields-append : (xs ys : List (ℕ × ℕ)) → fields (xs ++ ys) ≡ fields xs ++ fields ys
fields-append [] ys = refl
fields-append (f ∷ xs) ys = ap (λ (t : List Bool). spelled f.0 f.1 ++ t) (fields-append xs ys)
    ∙ sym (append_assoc (spelled f.0 f.1) (fields xs) (fields ys))

pub length-fields : (fs : List (ℕ × ℕ)) → length (fields fs) ≡ sum_by (λ f. f.0) fs
length-fields [] = refl
length-fields (f ∷ fs) =
    length-append (spelled f.0 f.1) (fields fs) ∙ ap (λ (n : ℕ). n + length (fields fs)) (length-spelled f.0 f.1)
    ∙ ap (λ (n : ℕ). f.0 + n) (length-fields fs)
    ∙ sym (sum_by-cons (λ (g : ℕ × ℕ). g.0) f fs)

-- ---- repeated parts, for loops

turns-fuel : {S A : Type 0} (body : S → Bits → Result (LoopTurn S A × Bits) Fault)
    → ((t u : S) (b c : Bits) → body t b ≡ Ok (again u, c) → length c.bits < length b.bits)
    → (n m : ℕ) (s : S) (b : Bits) → length b.bits < n → length b.bits < m → turns_at body n s b ≡ turns_at body m s b
turns-fuel body shorter zero m s b p q = absurd (omega arith)
turns-fuel body shorter (suc n) zero s b p q = absurd (omega arith)
turns-fuel {S} {A} body shorter (suc n) (suc m) s b p q =
    at_turn (body s b) refl (λ u c h. turns-fuel body shorter n m u c (omega (arith, shorter s u b c h))
    (omega (arith, shorter s u b c h)))
  where
    at_turn : (r : Result (LoopTurn S A × Bits) Fault) → body s b ≡ r → ((u : S) (c : Bits) → body s b ≡ Ok (again u, c)
        → turns_at body n u c ≡ turns_at body m u c)
        → (r >>= λ x. repeat_turned (turns_at body n) x.0 x.1) ≡ (r >>= λ x. repeat_turned (turns_at body m) x.0 x.1)
    at_turn (Err e) h more = refl
    at_turn (Ok (finally a, c)) h more = refl
    at_turn (Ok (again u, c)) h more = more u c h

-- a turn that goes on takes a bit
pub turn_shorter : {S A : Type 0} (s u : S) (body : S → Syntax (LoopTurn S A)) (b c : Bits)
    → ((t u : S) → Spells (body t) (again u) [] → ⊥) → reading (body s) b ≡ Ok (again u, c)
    → length c.bits < length b.bits
turn_shorter {S} s u body b c some e =
    let f = sound (body s) b c (again u) e in
    longer f.0 (ap length f.1.parts ∙ length-append f.0 c.bits) f.2
  where
    longer : (text : List Bool) → length b.bits ≡ length text + length c.bits → Spells (body s) (again u) text
        → length c.bits < length b.bits
    longer [] len spelt = absurd (some s u spelt)
    longer (t ∷ text) len spelt = omega arith

pub repeat-again : {S A : Type 0} (s u : S) (body : S → Syntax (LoopTurn S A)) (b c : Bits)
    → ((t u : S) → Spells (body t) (again u) [] → ⊥) → reading (body s) b ≡ Ok (again u, c)
    → reading (repeat s body) b ≡ reading (repeat u body) c
unfolding reading
repeat-again s u body b c some e =
    let less = turn_shorter s u body b c some e in
    rw e (turns-fuel (λ t d. reading (body t) d) (λ t v d f h. turn_shorter t v body d f some h) (length b.bits)
    (suc (length c.bits)) u c less (omega arith))

pub repeat-finally : {S A : Type 0} (s : S) (a : A) (body : S → Syntax (LoopTurn S A)) (b c : Bits)
    → reading (body s) b ≡ Ok (finally a, c) → reading (repeat s body) b ≡ Ok (a, c)
unfolding reading
repeat-finally s a body b c e = rw e refl

pub repeat-err : {S A : Type 0} (s : S) (fault : Fault) (body : S → Syntax (LoopTurn S A)) (b : Bits)
    → reading (body s) b ≡ Err fault → reading (repeat s body) b ≡ Err fault
unfolding reading
repeat-err s fault body b e = rw e refl

-- ---- what shows that turns take bits

pub field_some : {A : Type 0} (n : ℕ) (allowed : Allowed ℕ) (next : ℕ → Syntax A) (a : A)
    → Spells (field (suc n) allowed next) a [] → ⊥
unfolding Spells
field_some n allowed next a h = absurd (omega (
  arith,
  ap length h.4,
  length-append (spelled (suc n) h.0) h.1,
  length-spelled (suc n) h.0,
))

pub either_productive : {A : Type 0} (t : Bool) (a b : Syntax A) → IsProductive a → IsProductive b
    → IsProductive (either t a b)
either_productive true a b p q = p
either_productive false a b p q = q

-- a part that takes a bit makes a syntax that does
pub part_some : {S A : Type 0} (s : Syntax S) (allowed : Allowed S) (next : S → Syntax A) (a : A)
    → ((x : S) → Spells s x [] → ⊥) → Spells (part s allowed next) a [] → ⊥
unfolding Spells
part_some {S} s allowed next a some h = front_empty h.1 h.2 h.3 h.4
  where
    front_empty : (front rest : List Bool) → [] ≡ front ++ rest → Spells s h.0 front → ⊥
    front_empty [] rest e spelt = some h.0 spelt
    front_empty (b ∷ front) rest e spelt = absurd (omega (arith, ap length e))

pub element_some : {S A : Type 0} (s : Syntax S) (allowed : Allowed S) (next : S → Syntax A) (a : A)
    → ((x : S) → Spells s x [] → ⊥) → Spells (element s allowed next) a [] → ⊥
unfolding Spells
element_some {S} s allowed next a some h = front_empty h.1 h.2 h.3 h.4
  where
    front_empty : (front rest : List Bool) → [] ≡ front ++ rest → Spells s h.0 front → ⊥
    front_empty [] rest e spelt = some h.0 spelt
    front_empty (b ∷ front) rest e spelt = absurd (omega (arith, ap length e))

word_some : {S : Type 0} (words : List (List Bool × S)) (w : List Bool × S)
    → list_all (λ v. nat_lt 0 (length v.0)) words ≡ true → IsIn w words → 0 < length w.0
word_some [] w e h = absurd h
word_some {S} (v ∷ words) w e h =
    let p = and_both (nat_lt 0 (length v.0)) (list_all (λ v. nat_lt 0 (length v.0)) words) e in
    elim h [
      | inl same ↦ subst (λ (x : List Bool × S). 0 < length x.0) same (ltb-true 0 (length v.0) p.0)
      | inr later ↦ word_some words w p.1 later
    ]

-- a table whose words have a bit each
pub code_some : {S A : Type 0} (words : Words S) (next : S → Syntax A) (a : A)
    → list_all (λ v. nat_lt 0 (length v.0)) words.list ≡ true → Spells (code words next) a [] → ⊥
unfolding Spells
code_some words next a e h = absurd (omega (
  arith,
  word_some words.list (h.0, h.1) e h.3,
  ap length h.4,
  length-append h.0 h.2,
))

-- ---- where a reader stands, and what a writer has written

-- what is left after a text, by its place
pub record IsMoved (bytes : List ℕ) (to : ℕ) (c : Bits) : Type 0 where
  pub bits : c ≡ bits_between bytes c.at to
  pub order : c.at ≤ to

pub moved : (bytes : List ℕ) (from to : ℕ) (text : List Bool) (c : Bits) → from ≤ to → to ≤ 8 * length bytes
    → Between (bits_between bytes from to) text c → IsMoved bytes to c
moved bytes from to text c order within h =
    let n = length text in
    let len : length (bits_between bytes from to).bits ≡ to - from = length-window (bits_of bytes) from to order
    (omega (arith, length-bits_of bytes)) in
    let fits : from + n ≤ to = omega (arith, len, ap length h.parts, length-append text c.bits) in
    let bits : c.bits ≡ take (to - (from + n)) (drop (from + n) (bits_of bytes)) =
    sym (drop_at text c.bits n refl) ∙ ap (drop n) (sym h.parts) ∙ drop-window (bits_of bytes) from to n fits in
    let place : from + n ≡ c.at = sym h.at in
    record {
      bits = ap (λ (t : List Bool). record { at = c.at; bits = t }) (bits
          ∙ ap (λ (k : ℕ). take (to - k) (drop k (bits_of bytes))) place);
      order = omega (arith, fits, place);
    }

-- no text
pub appends_none : (w : BitWriter) (text : List Bool) → text ≡ [] → Appends w w text
appends_none w text none = record {
  buffer = refl;
  room = refl;
  text = sym (ap (λ (t : List Bool). written w ++ t) none
      ∙ append-nil (written w));
}

-- one text after the other
pub appends_both : (a b c : BitWriter) (x y : List Bool) → Appends a b x → Appends b c y → Appends a c (x ++ y)
appends_both a b c x y p q = record {
  buffer = q.buffer ∙ p.buffer;
  room = q.room ∙ p.room;
  text = q.text ∙ ap (λ (t : List Bool). t ++ y) p.text ∙ append_assoc (written a) x y;
}
