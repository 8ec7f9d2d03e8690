-- An event that isn't read is cut inside a word or an escape, is a bad escape, or is none.
use Rattle.std.proofs.Common.{◌≡◌, ◌⊎◌, ℕ, ◌+◌, ◌-◌, ◌*◌, ◌^◌, ◌<◌, Bool, true, false, cond, refl, ap, sym, ◌∙◌, subst, add-zero, append_assoc, arith, inl, inr, List, [], ◌∷◌, ◌++◌, length, drop, eqb, Option, Some, None, Result, Ok, Err}
use Rattle.std.specs.Prelude.{replicate, ◌==◌, ◌↔◌}
use Rattle.std.proofs.lemmas.Bool.{eqb-true, ne_eqb}
use Rattle.std.proofs.lemmas.List.{append-nil, length-append, length-replicate}
use Rattle.h263_bits.specs.declared.fault.Fault.{Fault}
use Rattle.h263_bits.specs.declared.fault.FaultKind.{FaultKind}
use Rattle.h263_bits.specs.declared.fault.FaultKind.TheVariants.{BadLevel}
use Rattle.h263_bits.specs.Bits.{is_set, number, spelled, fields}
use Rattle.h263_bits.specs.Reading.{Bits, err}
use Rattle.h263_bits.specs.Syntax.{IsIn, Spells, reading, any, field, done, begins}
use Rattle.h263_bits.specs.Elements.{IsFieldFault, IsWordOf, IsCutWord, IsNoWord, IsWordFault, ElementFaults}
use Rattle.h263_bits.proofs.SyntaxLaws.{stands, err_not_ok, sound, complete, one_reading, spells_done, spells_field, spells_code, spells_element, spells_whole, begins_parts, begins_itself, both_begin, fault_found, number-append, number-lt, spelled-number}
use Rattle.code_tables.specs.Words.{word}
use Rattle.code_tables.specs.Tables.{TableEvent, Coefficient, escaped_level, sized, words_of_events, from_runs, last_0_texts, last_1_texts, tcoef_words, event_table, event_parts, event, after_word, allowed_level, signed}
use Rattle.code_tables.specs.EventWords.{escape_text, IsBadEscape, IsEventWord, IsEventFault}
use Rattle.code_tables.proofs.Productive.{event_productive}
use Rattle.code_tables.proofs.FaultRows.{in_after, level_row}

-- ---- the table: each word stands for an event, but the escape

in_cases : {X : Type 0} (x : X) (xs ys : List X) → IsIn x (xs ++ ys) → IsIn x xs ⊎ IsIn x ys
in_cases x [] ys h = inr h
in_cases x (v ∷ xs) ys (inl e) = inl (inl e)
in_cases x (v ∷ xs) ys (inr h) = elim (in_cases x xs ys h) [ inl g ↦ inl (inr g) | inr g ↦ inr g ]

not_some : (x : TableEvent) → Some x ≡ None → ⊥
not_some x e = cc

none_sized : (last : Bool) (run n : ℕ) (ws : List (List Bool)) (w : List Bool) → IsIn (w, None) (sized last run n ws)
    → ⊥
none_sized last run n [] w h = h
none_sized last run n (v ∷ ws) w (inl e) = not_some (record { last = last; run = run; size = n })
    (ap (λ (p : List Bool × Option TableEvent). p.1) e)
none_sized last run n (v ∷ ws) w (inr h) = none_sized last run (n + 1) ws w h

none_rows : (last : Bool) (run : ℕ) (rows : List (List (List Bool))) (w : List Bool)
    → IsIn (w, None) (from_runs last run rows) → ⊥
none_rows last run [] w h = h
none_rows last run (row ∷ rows) w h =
    elim (in_cases (w, None) (words_of_events last run row) (from_runs last (run + 1) rows) h)
    [ inl g ↦ none_sized last run 1 row w g | inr g ↦ none_rows last (run + 1) rows w g ]

escape_listed : IsIn (word "0000011", None) tcoef_words
unfolding tcoef_words
escape_listed = in_after (word "0000011", None) (from_runs false 0 last_0_texts ++ from_runs true 0 last_1_texts)
    ((word "0000011", None) ∷ []) (inl refl)

none_is : (w : List Bool) → IsIn (w, None) tcoef_words → w ≡ word "0000011"
unfolding tcoef_words
none_is w h =
    elim (in_cases (w, None) (from_runs false 0 last_0_texts ++ from_runs true 0 last_1_texts)
    ((word "0000011", None) ∷ []) h) [
      | inl g ↦
          elim (in_cases (w, None) (from_runs false 0 last_0_texts) (from_runs true 0 last_1_texts) g) [
            | inl k ↦ absurd (none_rows false 0 last_0_texts w k)
            | inr k ↦ absurd (none_rows true 0 last_1_texts w k)
          ]
      | inr g ↦ elim g [ inl e ↦ sym (ap (λ (p : List Bool × Option TableEvent). p.0) e) | inr z ↦ absurd z ]
    ]

-- each word of the table begins one with its sign or its fields
grown : (w : List Bool) (o : Option TableEvent) → IsIn (w, o) tcoef_words → (s : List Bool) × IsEventWord (w ++ s)
grown w (Some e) h = (true ∷ [], inl (record { front = w; event = e; sign = true; listed = h; parts = refl }))
grown w None h =
    let tail = fields ((1, 0) ∷ (6, 0) ∷ (8, 1) ∷ []) in (
      tail,
      inr (record {
        last = 0;
        run = 0;
        level = 1;
        one = omega arith;
        six = omega arith;
        eight = omega arith;
        some = λ e. absurd (omega (arith, e));
        great = λ e. absurd (omega (arith, e));
        parts = ap (λ (t : List Bool). t ++ tail) (none_is w h);
      }),
    )

-- and each such word begins with one
pub record HasFront (w : List Bool) : Type 0 where
  pub front : List Bool
  pub stands : Option TableEvent
  pub tail : List Bool
  pub listed : IsIn (front, stands) tcoef_words
  pub parts : w ≡ front ++ tail

shrunk : (w : List Bool) → IsEventWord w → HasFront w
shrunk w (inl r) = record {
  front = r.front;
  stands = Some r.event;
  tail = r.sign ∷ [];
  listed = r.listed;
  parts = r.parts;
}
shrunk w (inr r) = record {
  front = word "0000011";
  stands = None;
  tail = fields ((1, r.last) ∷ (6, r.run) ∷ (8, r.level) ∷ []);
  listed = escape_listed;
  parts = r.parts;
}

-- ---- a word of the table that is cut, or isn't there

of_table : (left : List Bool) (kind : FaultKind) → IsWordFault (λ w. IsWordOf tcoef_words w) left kind
    → IsEventFault left kind
of_table left kind (inl f) =
    let cut = f.0 in
    let g = grown cut.0 cut.3.0 cut.3.1 in
    inl (
      (
        cut.0 ++ g.0,
        cut.1,
        cut.2 ++ g.0,
        g.1,
        ap (λ (t : List Bool). t ++ g.0) cut.4
            ∙ append_assoc left (cut.1 ∷ cut.2) g.0,
      ),
      f.1,
    )
of_table left kind (inr f) = inr (inr (λ w is. none w (shrunk w is), not_bad, f.1))
  where
    none : (w : List Bool) → HasFront w → ((rest : List Bool) → left ≡ w ++ rest → ⊥) × ((more : List Bool)
        → w ≡ left ++ more → ⊥)
    none w m =
        let two = f.0 m.front (m.stands, m.listed) in (
          λ rest whole. two.0 (m.tail ++ rest) (whole ∙ ap (λ (t : List Bool). t ++ rest) m.parts
              ∙ append_assoc m.front m.tail rest),
          λ more whole.
              elim (both_begin m.front left more (ap (begins m.front) (sym whole ∙ m.parts)
              ∙ begins_itself m.front m.tail)) [
                | inl h ↦ two.0 (drop (length m.front) left) (begins_parts m.front left h)
                | inr h ↦ two.1 (drop (length left) m.front) (begins_parts left m.front h)
              ],
        )

    not_bad : IsBadEscape left → ⊥
    not_bad r =
        let two = f.0 (word "0000011") (None, escape_listed) in
        let tail = fields ((1, r.last) ∷ (6, r.run) ∷ (8, r.level) ∷ []) in
        two.0 (tail ++ r.rest) (r.parts ∙ append_assoc (word "0000011") tail r.rest)

-- ---- what follows a word is cut

cut_at : (whole bits more : List Bool) → IsEventWord whole → whole ≡ bits ++ more → 0 < length more
    → IsCutWord (λ w. IsEventWord w) bits
cut_at whole bits [] is e some = absurd (omega arith)
cut_at whole bits (next ∷ more) is e some = (whole, next, more, is, e)

nothing : (xs : List Bool) → length xs < 1 → xs ≡ []
nothing [] lt = refl
nothing (x ∷ xs) lt = absurd (omega arith)

-- bits that are too few for a field go on to one
pub record Fills (n : ℕ) (bits : List Bool) : Type 0 where
  pub value : ℕ
  pub more : List Bool
  pub below : value < 2 ^ n
  pub some : 0 < length more
  pub text : spelled n value ≡ bits ++ more

fills_with : (n : ℕ) (bits more : List Bool) → length bits + length more ≡ n → 0 < length more → Fills n bits
fills_with n bits more size some =
    let xs = bits ++ more in
    let len : length xs ≡ n = length-append bits more ∙ size in
    record {
      value = number xs;
      more = more;
      below = subst (λ (k : ℕ). number xs < 2 ^ k) len (number-lt xs);
      some = some;
      text = ap (λ (k : ℕ). spelled k (number xs)) (sym len) ∙ spelled-number xs;
    }

fill : (n : ℕ) (bits : List Bool) → length bits < n → Fills n bits
fill n bits lt =
    let long = length-replicate (n - length bits) false in
    fills_with n bits (replicate (n - length bits) false) (omega (arith, long, lt)) (omega (arith, long, lt))

-- to one that ends with a 1, which is neither 0 nor 128
pub record FillsOdd (bits : List Bool) : Type 0 where
  pub fills : Fills 8 bits
  pub half : ℕ
  pub odd : fills.value ≡ half * 2 + 1

last_one : (k : ℕ) → k * 2 ^ length (true ∷ []) + number (true ∷ []) ≡ k * 2 + 1
unfolding number
last_one k = refl

fill_odd : (bits : List Bool) → length bits < 8 → FillsOdd bits
unfolding fills_with
fill_odd bits lt =
    let zeros = replicate (7 - length bits) false in
    let more = zeros ++ true ∷ [] in
    let long : length more ≡ (7 - length bits) + 1 = length-append zeros (true ∷ [])
    ∙ ap (λ (k : ℕ). k + 1) (length-replicate (7 - length bits) false) in
    let parts : bits ++ more ≡ (bits ++ zeros) ++ true ∷ [] = sym (append_assoc bits zeros (true ∷ [])) in
    let value : number (bits ++ more) ≡ number (bits ++ zeros) * 2 + 1 = ap number parts
    ∙ number-append (bits ++ zeros) (true ∷ []) ∙ last_one (number (bits ++ zeros)) in
    record {
      fills = fills_with 8 bits more (omega (arith, long, lt)) (omega (arith, long));
      half = number (bits ++ zeros);
      odd = value;
    }

escape : (last run level : ℕ) → last < 2 → run < 64 → level < 256 → (level ≡ 0 → ⊥) → (level ≡ 128 → ⊥)
    → IsEventWord (escape_text last run level)
escape last run level a b c d e = inr (record {
  last = last;
  run = run;
  level = level;
  one = a;
  six = b;
  eight = c;
  some = d;
  great = e;
  parts = refl;
})

last_cut : (left : List Bool) → length left < 1 → IsCutWord (λ w. IsEventWord w) ((word "0000011" ++ []) ++ left)
last_cut left lt =
    let tail = spelled 6 0 ++ (spelled 8 1 ++ []) in
    let f = fill 1 left lt in
    let whole : escape_text f.value 0 1 ≡ ((word "0000011" ++ []) ++ left) ++ (f.more ++ tail) =
    ap (λ (t : List Bool). word "0000011" ++ (t ++ tail)) f.text ∙ regroup (word "0000011") left f.more tail in
    cut_at (escape_text f.value 0 1) ((word "0000011" ++ []) ++ left) (f.more
    ++ tail) (escape f.value 0 1 f.below (omega arith) (omega arith) (λ e. absurd (omega (arith, e)))
    (λ e. absurd (omega (arith, e)))) whole (omega (arith, f.some, length-append f.more tail))
  where
    regroup : (w l m t : List Bool) → w ++ ((l ++ m) ++ t) ≡ ((w ++ []) ++ l) ++ (m ++ t)
    regroup w l m t = ap (λ (x : List Bool). w ++ x) (append_assoc l m t) ∙ sym (append_assoc w l (m ++ t))
        ∙ ap (λ (x : List Bool). (x ++ l) ++ (m ++ t)) (sym (append-nil w))

run_cut : (last : ℕ) (left : List Bool) → last < 2 → length left < 6
    → IsCutWord (λ w. IsEventWord w) ((word "0000011" ++ (spelled 1 last ++ [])) ++ left)
run_cut last left lt few =
    let tail = spelled 8 1 ++ [] in
    let f = fill 6 left few in
    let whole : escape_text last f.value 1 ≡ ((word "0000011" ++ (spelled 1 last ++ [])) ++ left) ++ (f.more ++ tail) =
    ap (λ (t : List Bool). word "0000011" ++ (spelled 1 last ++ (t ++ tail))) f.text
    ∙ regroup (word "0000011") (spelled 1 last) left f.more tail in
    cut_at (escape_text last f.value 1) ((word "0000011" ++ (spelled 1 last ++ [])) ++ left) (f.more
    ++ tail) (escape last f.value 1 lt f.below (omega arith) (λ e. absurd (omega (arith, e)))
    (λ e. absurd (omega (arith, e)))) whole (omega (arith, f.some, length-append f.more tail))
  where
    regroup : (w a l m t : List Bool) → w ++ (a ++ ((l ++ m) ++ t)) ≡ ((w ++ (a ++ [])) ++ l) ++ (m ++ t)
    regroup w a l m t =
        ap (λ (x : List Bool). w ++ (a ++ x)) (append_assoc l m t) ∙ sym (append_assoc w a (l ++ (m ++ t)))
        ∙ sym (append_assoc (w ++ a) l (m ++ t))
        ∙ ap (λ (x : List Bool). ((w ++ x) ++ l) ++ (m ++ t)) (sym (append-nil a))

level_cut : (last run : ℕ) (left : List Bool) → last < 2 → run < 64 → length left < 8
    → IsCutWord (λ w. IsEventWord w) ((word "0000011" ++ (spelled 1 last ++ (spelled 6 run ++ []))) ++ left)
level_cut last run left lt small few =
    let o = fill_odd left few in
    let f = o.fills in
    let whole : escape_text last run f.value ≡ ((word "0000011" ++ (spelled 1 last ++ (spelled 6 run ++ []))) ++ left)
    ++ (f.more ++ []) =
    ap (λ (t : List Bool). word "0000011" ++ (spelled 1 last ++ (spelled 6 run ++ (t ++ [])))) f.text
    ∙ regroup (word "0000011") (spelled 1 last) (spelled 6 run) left f.more in
    cut_at (escape_text last run f.value) ((word "0000011" ++ (spelled 1 last ++ (spelled 6 run ++ [])))
    ++ left) (f.more ++ []) (escape last run f.value lt small f.below (λ e. absurd (omega (arith, e, o.odd)))
    (λ e. absurd (omega (arith, e, o.odd)))) whole (omega (arith, f.some, length-append f.more []))
  where
    regroup : (w a r l m : List Bool) → w ++ (a ++ (r ++ ((l ++ m) ++ []))) ≡ ((w ++ (a ++ (r ++ []))) ++ l)
        ++ (m ++ [])
    regroup w a r l m =
        ap (λ (x : List Bool). w ++ (a ++ (r ++ x))) (append_assoc l m [])
        ∙ ap (λ (x : List Bool). w ++ x) (sym (append_assoc a r (l ++ (m ++ []))))
        ∙ sym (append_assoc w (a ++ r) (l ++ (m ++ [])))
        ∙ sym (append_assoc (w ++ (a ++ r)) l (m ++ []))
        ∙ ap (λ (x : List Bool). ((w ++ (a ++ x)) ++ l) ++ (m ++ [])) (sym (append-nil r))

-- LEVEL that is refused
bad_level : (v : ℕ) (kind : FaultKind) → allowed_level v ≡ Some kind → ((v ≡ 0) ⊎ (v ≡ 128)) × (kind ≡ BadLevel)
bad_level v kind e = at (eqb v 0) (eqb v 128) refl refl e
  where
    at : (a b : Bool) → eqb v 0 ≡ a → eqb v 128 ≡ b → cond a (Some BadLevel) (cond b (Some BadLevel) None) ≡ Some kind
        → ((v ≡ 0) ⊎ (v ≡ 128)) × (kind ≡ BadLevel)
    at true b p q e = (inl (eqb-true v 0 p), sym (kind_is kind e))
      where
        kind_is : (k : FaultKind) → Some BadLevel ≡ Some k → BadLevel ≡ k
        kind_is k e = cc
    at false true p q e = (inr (eqb-true v 128 q), sym (kind_is kind e))
      where
        kind_is : (k : FaultKind) → Some BadLevel ≡ Some k → BadLevel ≡ k
        kind_is k e = cc
    at false false p q e = absurd cc

none_refused : (kind : FaultKind) → None ≡ Some kind → ⊥
none_refused kind e = cc

-- what an escape's fields stand for
abbrev escaped : ℕ → ℕ → ℕ → Coefficient
escaped last run level = record { last = last == 1; run = run; level = escaped_level level }

-- what follows the escape's word
fields_fault : (rest left : List Bool) (kind : FaultKind) → ElementFaults (after_word None) rest left kind
    → IsEventFault ((word "0000011" ++ rest) ++ left) kind
unfolding ElementFaults
fields_fault rest left kind (inl f) = subst (λ (t : List Bool). IsEventFault ((word "0000011" ++ t) ++ left) kind)
    (sym f.0) (at f.1)
  where
    at : IsFieldFault 1 any left kind → IsEventFault ((word "0000011" ++ []) ++ left) kind
    at (inl g) = inl (last_cut left g.0, g.1)
    at (inr g) = absurd (none_refused kind g.4)
fields_fault rest left kind (inr a) = subst (λ (t : List Bool). IsEventFault ((word "0000011" ++ t) ++ left) kind)
    (sym a.4) (after_last a.0 a.1 a.2 a.5)
  where
    after_run : (last run : ℕ) (more : List Bool) → last < 2 → run < 64
        → ElementFaults (field 8 allowed_level λ level. done (escaped last run level)) more left kind
        → IsEventFault ((word "0000011" ++ (spelled 1 last ++ (spelled 6 run ++ more))) ++ left) kind
    after_run last run more lt small (inl f) =
        subst (λ (t : List Bool). IsEventFault ((word "0000011" ++ (spelled 1 last ++ (spelled 6 run ++ t)))
        ++ left) kind) (sym f.0) (at f.1)
      where
        regroup : (w a r v x : List Bool) → (w ++ (a ++ (r ++ []))) ++ (v ++ x) ≡ (w ++ (a ++ (r ++ (v ++ [])))) ++ x
        regroup w a r v x =
            ap (λ (t : List Bool). (w ++ (a ++ t)) ++ (v ++ x)) (append-nil r) ∙ sym (append_assoc (w ++ (a ++ r)) v x)
            ∙ ap (λ (t : List Bool). t ++ x) (append_assoc w (a ++ r) v)
            ∙ ap (λ (t : List Bool). (w ++ t) ++ x) (append_assoc a r v)
            ∙ ap (λ (t : List Bool). (w ++ (a ++ (r ++ t))) ++ x) (sym (append-nil v))

        at : IsFieldFault 8 allowed_level left kind
            → IsEventFault ((word "0000011" ++ (spelled 1 last ++ (spelled 6 run ++ []))) ++ left) kind
        at (inl g) = inl (level_cut last run left lt small g.0, g.1)
        at (inr g) =
            let b = bad_level g.0 kind g.4 in
            let whole : (word "0000011" ++ (spelled 1 last ++ (spelled 6 run ++ []))) ++ left ≡ escape_text last run g.0
            ++ g.1 =
            ap (λ (t : List Bool). (word "0000011" ++ (spelled 1 last ++ (spelled 6 run ++ []))) ++ t) g.3
            ∙ regroup (word "0000011") (spelled 1 last) (spelled 6 run) (spelled 8 g.0) g.1 in
            inr (inl (
              record {
                last = last;
                run = run;
                level = g.0;
                rest = g.1;
                one = lt;
                six = small;
                bad = b.0;
                parts = whole;
              },
              b.1,
            ))
    after_run last run more lt small (inr g) = absurd g.5

    after_last : (last : ℕ) (more : List Bool) → last < 2
        → ElementFaults (field 6 any λ run. field 8 allowed_level λ level. done (escaped last run level)) more left kind
        → IsEventFault ((word "0000011" ++ (spelled 1 last ++ more)) ++ left) kind
    after_last last more lt (inl f) = subst (λ (t : List Bool). IsEventFault ((word "0000011" ++ (spelled 1 last ++ t))
        ++ left) kind) (sym f.0) (at f.1)
      where
        at : IsFieldFault 6 any left kind → IsEventFault ((word "0000011" ++ (spelled 1 last ++ [])) ++ left) kind
        at (inl g) = inl (run_cut last left lt g.0, g.1)
        at (inr g) = absurd (none_refused kind g.4)
    after_last last more lt (inr g) = subst (λ (t : List Bool). IsEventFault ((word "0000011" ++ (spelled 1 last ++ t))
        ++ left) kind) (sym g.4) (after_run last g.0 g.1 lt g.2 g.5)

-- a sign that is cut
sign_fault : (w : List Bool) (e : TableEvent) (rest left : List Bool) (kind : FaultKind) → IsIn (w, Some e) tcoef_words
    → ElementFaults (after_word (Some e)) rest left kind → IsEventFault ((w ++ rest) ++ left) kind
unfolding ElementFaults
sign_fault w e rest left kind h (inl f) = at f.1
  where
    at : IsFieldFault 1 any left kind → IsEventFault ((w ++ rest) ++ left) kind
    at (inl g) =
        let whole : (w ++ rest) ++ left ≡ w = ap (λ (t : List Bool). (w ++ t) ++ left) f.0
        ∙ ap (λ (t : List Bool). t ++ left) (append-nil w) ∙ ap (λ (t : List Bool). w ++ t) (nothing left g.0)
        ∙ append-nil w in
        let is : IsEventWord (w ++ true ∷ []) = inl (record {
          front = w;
          event = e;
          sign = true;
          listed = h;
          parts = refl;
        }) in
        inl ((w ++ true ∷ [], true, [], is, ap (λ (t : List Bool). t ++ true ∷ []) (sym whole)), g.1)
    at (inr g) = absurd (none_refused kind g.4)
sign_fault w e rest left kind h (inr f) = absurd f.5

word_fault_of : (w : List Bool) (o : Option TableEvent) (rest left : List Bool) (kind : FaultKind)
    → IsIn (w, o) tcoef_words
    → ElementFaults (after_word o) rest left kind → IsEventFault ((w ++ rest) ++ left) kind
word_fault_of w (Some e) rest left kind h f = sign_fault w e rest left kind h f
word_fault_of w None rest left kind h f = subst (λ (t : List Bool). IsEventFault ((t ++ rest) ++ left) kind)
    (sym (none_is w h)) (fields_fault rest left kind f)

parts_fault : (inner left : List Bool) (kind : FaultKind) → ElementFaults event_parts inner left kind
    → IsEventFault (inner ++ left) kind
unfolding ElementFaults event_parts event_table
parts_fault inner left kind (inl f) = subst (λ (t : List Bool). IsEventFault (t ++ left) kind) (sym f.0)
    (of_table left kind f.1)
parts_fault inner left kind (inr f) = subst (λ (t : List Bool). IsEventFault (t ++ left) kind) (sym f.4)
    (word_fault_of f.0 f.1 f.2 left kind f.3 f.5)

event_faults : (front left : List Bool) (kind : FaultKind) → ElementFaults event front left kind
    → (front ≡ []) × IsEventFault left kind
unfolding ElementFaults event
event_faults front left kind (inl f) = (
  f.0,
  subst (λ (t : List Bool). IsEventFault t kind) (sym f.3)
      (parts_fault f.1 f.2 kind f.4),
)
event_faults front left kind (inr (inl f)) = absurd (none_refused kind f.1.5)
event_faults front left kind (inr (inr f)) = absurd f.6

pub event_fault : (b : Bits) (d : Fault) → reading event b ≡ Err d → (d.at ≡ b.at) × IsEventFault b.bits d.kind
event_fault b d e =
    let f = fault_found event b d event_productive e in
    let m = event_faults f.0 f.1 d.kind f.4 in
    let whole : b.bits ≡ f.1 = f.2 ∙ ap (λ (t : List Bool). t ++ f.1) m.0 in (
      f.3 ∙ ap (λ (t : List Bool). b.at + length t) m.0
          ∙ add-zero b.at,
      subst (λ (t : List Bool). IsEventFault t d.kind) (sym whole) m.1,
    )

-- ---- the way back: what is a fault is found

-- LEVEL that is allowed
level_is_allowed : (v : ℕ) → allowed_level v ≡ None → (v ≡ 0 → ⊥) × (v ≡ 128 → ⊥)
level_is_allowed v is = (
  λ e. let h : allowed_level 0 ≡ None = subst (λ (k : ℕ). allowed_level k ≡ None) e is in cc,
  λ e. let h : allowed_level 128 ≡ None = subst (λ (k : ℕ). allowed_level k ≡ None) e is in cc,
)

good_level : (v : ℕ) → (v ≡ 0 → ⊥) → (v ≡ 128 → ⊥) → allowed_level v ≡ None
good_level v zero middle = rw (ne_eqb v 0 zero, ne_eqb v 128 middle) refl

one_bit : (v : ℕ) → spelled 1 v ≡ is_set v 0 ∷ []
unfolding spelled
one_bit v = refl

bit_spelled : (sign : Bool) → spelled 1 (cond sign 1 0) ≡ sign ∷ []
unfolding spelled
bit_spelled true = refl
bit_spelled false = refl

bit_below : (sign : Bool) → cond sign 1 0 < 2
bit_below true = omega arith
bit_below false = omega arith

in_table : (w : List Bool) (o : Option TableEvent) → IsIn (w, o) tcoef_words → IsIn (w, o) event_table.list
unfolding event_table
in_table w o h = h

in_list : (w : List Bool) (o : Option TableEvent) → IsIn (w, o) event_table.list → IsIn (w, o) tcoef_words
unfolding event_table
in_list w o h = h

-- each word is spelled for an event
pub record IsSpelt (text : List Bool) : Type 0 where
  pub value : Coefficient
  pub spelt : Spells event value text

as_event : (a : Coefficient) (front text : List Bool) → Spells event_parts a front → front ≡ text → IsSpelt text
unfolding event
as_event a front text h e = record {
  value = a;
  spelt = spells_whole event a (front ++ []) text (append-nil front
      ∙ e) (spells_element event_parts any done a a front [] h refl (spells_done a));
}

word_spelt : (w : List Bool) → IsEventWord w → IsSpelt w
unfolding event_parts
word_spelt w (inl r) =
    let v : ℕ = cond r.sign 1 0 in
    let a : Coefficient = record { last = r.event.last; run = r.event.run; level = signed v r.event.size } in
    as_event a (r.front ++ (spelled 1 v ++ [])) w
    (spells_code event_table after_word a r.front (Some r.event) (spelled 1 v
    ++ []) (in_table r.front (Some r.event) r.listed) (spells_field 1 any _ a v [] (bit_below r.sign) refl
    (spells_done a)))
    (ap (λ (t : List Bool). r.front ++ t) (append-nil (spelled 1 v) ∙ bit_spelled r.sign) ∙ sym r.parts)
word_spelt w (inr r) =
    let a : Coefficient = escaped r.last r.run r.level in
    let tail : List Bool = fields ((1, r.last) ∷ (6, r.run) ∷ (8, r.level) ∷ []) in
    as_event a (word "0000011" ++ tail) w
    (spells_code event_table after_word a (word "0000011") None tail (in_table (word "0000011") None escape_listed)
    (spells_field 1 any _ a r.last (fields ((6, r.run) ∷ (8, r.level) ∷ [])) r.one refl
    (spells_field 6 any _ a r.run (fields ((8, r.level) ∷ [])) r.six refl
    (spells_field 8 allowed_level _ a r.level [] r.eight (good_level r.level r.some r.great) (spells_done a)))))
    (sym r.parts)

-- and what is spelled for an event is such a word
of_word : (w : List Bool) (o : Option TableEvent) (rest : List Bool) (x : Coefficient) → IsIn (w, o) tcoef_words
    → Spells (after_word o) x rest → IsEventWord (w ++ rest)
unfolding Spells
of_word w (Some e) rest x i s =
    let rest-is : rest ≡ is_set s.0 0 ∷ [] = s.4 ∙ ap (λ (t : List Bool). spelled 1 s.0 ++ t) s.5.1
    ∙ append-nil (spelled 1 s.0) ∙ one_bit s.0 in
    inl (record {
      front = w;
      event = e;
      sign = is_set s.0 0;
      listed = i;
      parts = ap (λ (t : List Bool). w ++ t) rest-is;
    })
of_word w None rest x i s =
    let a = s.5 in
    let b = a.5 in
    let free = level_is_allowed b.0 b.3 in
    let tail : rest ≡ fields ((1, s.0) ∷ (6, a.0) ∷ (8, b.0) ∷ []) =
    s.4 ∙ ap (λ (t : List Bool). spelled 1 s.0 ++ t) (a.4 ∙ ap (λ (t : List Bool). spelled 6 a.0 ++ t) (b.4
    ∙ ap (λ (t : List Bool). spelled 8 b.0 ++ t) b.5.1)) in
    inr (record {
      last = s.0;
      run = a.0;
      level = b.0;
      one = s.2;
      six = a.2;
      eight = b.2;
      some = free.0;
      great = free.1;
      parts = ap (λ (t : List Bool). t ++ rest) (none_is w i) ∙ ap (λ (t : List Bool). word "0000011" ++ t) tail;
    })

parts_word : (x : Coefficient) (text : List Bool) → Spells event_parts x text → IsEventWord text
unfolding Spells event_parts
parts_word x text h = subst (λ (t : List Bool). IsEventWord t) (sym h.4)
    (of_word h.0 h.1 h.2 x (in_list h.0 h.1 h.3) h.5)

is_word : (x : Coefficient) (text : List Bool) → Spells event x text → IsEventWord text
unfolding Spells event
is_word x text h =
    let whole : text ≡ h.1 = h.3 ∙ ap (λ (t : List Bool). h.1 ++ t) h.6.1 ∙ append-nil h.1 in
    subst (λ (t : List Bool). IsEventWord t) (sym whole) (parts_word h.0 h.1 h.4)

-- a bad escape begins no word, and no word begins it
refused_level : (v : ℕ) → (v ≡ 0) ⊎ (v ≡ 128) → (v < 256) × (allowed_level v ≡ Some BadLevel)
refused_level v (inl e) = (omega (arith, e), subst (λ (k : ℕ). allowed_level k ≡ Some BadLevel) (sym e) refl)
refused_level v (inr e) = (omega (arith, e), subst (λ (k : ℕ). allowed_level k ≡ Some BadLevel) (sym e) refl)

no_bad : (w more bits : List Bool) → IsEventWord w → bits ≡ w ++ more → IsBadEscape bits → ⊥
no_bad w more bits is e r =
    let s = word_spelt w is in
    let v = refused_level r.level r.bad in
    let good : reading event (record { at = 0; bits = w ++ more })
    ≡ Ok (s.value, record { at = 0 + length w; bits = more }) = complete event s.value w more 0 event_productive
    s.spelt in
    let bad : reading event (record { at = 0; bits = escape_text r.last r.run r.level ++ r.rest })
    ≡ Err (record { kind = BadLevel; at = 0 + 0 }) = level_row r.last r.run r.level r.one r.six v.0 v.1 0 r.rest in
    err_not_ok _ _ (sym bad ∙ ap (λ (t : List Bool). reading event (record { at = 0; bits = t })) (sym r.parts ∙ e)
    ∙ good)

-- no word goes on from a bad escape
cut_bad : (left : List Bool) → IsCutWord (λ w. IsEventWord w) left → IsBadEscape left → ⊥
cut_bad left cut r =
    let tail : List Bool = cut.1 ∷ cut.2 in
    no_bad cut.0 [] (left ++ tail) cut.3 (sym cut.4 ∙ sym (append-nil cut.0)) (record {
      last = r.last;
      run = r.run;
      level = r.level;
      rest = r.rest ++ tail;
      one = r.one;
      six = r.six;
      bad = r.bad;
      parts = ap (λ (t : List Bool). t ++ tail) r.parts
          ∙ append_assoc (escape_text r.last r.run r.level) r.rest tail;
    })

no_cut : (left : List Bool) → IsNoWord (λ w. IsEventWord w) left → IsCutWord (λ w. IsEventWord w) left → ⊥
no_cut left none cut = let two = none cut.0 cut.3 in two.1 (cut.1 ∷ cut.2) cut.4

one_kind : (left : List Bool) (k l : FaultKind) → IsEventFault left k → IsEventFault left l → k ≡ l
one_kind left k l (inl p) (inl q) = p.1 ∙ sym q.1
one_kind left k l (inl p) (inr (inl q)) = absurd (cut_bad left p.0 q.0)
one_kind left k l (inl p) (inr (inr q)) = absurd (no_cut left q.0 p.0)
one_kind left k l (inr (inl p)) (inl q) = absurd (cut_bad left q.0 p.0)
one_kind left k l (inr (inl p)) (inr (inl q)) = p.1 ∙ sym q.1
one_kind left k l (inr (inl p)) (inr (inr q)) = absurd (q.1 p.0)
one_kind left k l (inr (inr p)) (inl q) = absurd (no_cut left p.0 q.0)
one_kind left k l (inr (inr p)) (inr (inl q)) = absurd (p.1 q.0)
one_kind left k l (inr (inr p)) (inr (inr q)) = p.2 ∙ sym q.2

-- bits that begin with a word have no fault
not_read : (w more bits : List Bool) (kind : FaultKind) → IsEventWord w → bits ≡ w ++ more → IsEventFault bits kind → ⊥
not_read w more bits kind is e (inl f) =
    let cut = f.0 in
    let tail : List Bool = cut.1 ∷ cut.2 in
    let s = word_spelt w is in
    let t = word_spelt cut.0 cut.3 in
    let whole : w ++ (more ++ tail) ≡ cut.0 = sym (append_assoc w more tail) ∙ ap (λ (x : List Bool). x ++ tail) (sym e)
    ∙ sym cut.4 in
    let same = one_reading event s.value t.value w cut.0 (more ++ tail) event_productive s.spelt t.spelt whole in
    omega (arith, ap length whole, ap length same.0, length-append w (more ++ tail), length-append more tail)
not_read w more bits kind is e (inr (inl f)) = no_bad w more bits is e f.0
not_read w more bits kind is e (inr (inr f)) = let two = f.0 w is in two.0 more e

-- An event isn't read exactly where it is cut inside a word or an escape, is a bad escape, or is none.
pub event_faults_are : (b : Bits) (d : Fault) → (reading event b ≡ Err d) ↔ ((d.at ≡ b.at) × IsEventFault b.bits d.kind)
event_faults_are b d = (λ e. event_fault b d e, λ h. at_reading (reading event b) refl h)
  where
    at_reading : (r : Result (Coefficient × Bits) Fault) → reading event b ≡ r
        → (d.at ≡ b.at) × IsEventFault b.bits d.kind → reading event b ≡ Err d
    at_reading (Ok x) e h =
        let t = sound event b x.1 x.0 e in
        absurd (not_read t.0 x.1.bits b.bits d.kind (is_word x.0 t.0 t.2) t.1.parts h.1)
    at_reading (Err c) e h =
        let g = event_fault b c e in
        let kind : c.kind ≡ d.kind = one_kind b.bits c.kind d.kind g.1 h.1 in
        e ∙ ap (λ (k : FaultKind). err {A = Coefficient × Bits} (stands k c.at)) kind
        ∙ ap (λ (p : ℕ). err {A = Coefficient × Bits} (stands d.kind p)) (g.0 ∙ sym h.0)
