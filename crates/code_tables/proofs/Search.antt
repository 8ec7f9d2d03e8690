-- Codes as numbers and words as bits: a search by numbers finds the word.
use Rattle.std.proofs.Common.{◌≡◌, ℕ, zero, suc, ◌+◌, ◌-◌, ◌/◌, ◌^◌, ◌<◌, ◌≤◌, Bool, true, false, cond, eqb, ltb, leb, List, [], ◌∷◌, ◌++◌, length, take, drop, get_or, Option, Some, None, Ok, Err, refl, sym, ap, subst, ◌∙◌, add-zero, zero-add, arith, inl, inr, eq-eqb}
use Rattle.std.specs.Prelude.{◌&&◌, ◌||◌, min, map}
use Rattle.std.specs.Option.{option_map}
use Rattle.std.specs.List.{list_any, list_all}
use Rattle.std.proofs.lemmas.Bool.{ltb-true, leb-true, le-leb, eqb-true}
use Rattle.std.proofs.lemmas.List.{take_at, length-append, length-take, take-append-drop}
use Rattle.std.proofs.lemmas.Nat.{shr_below, shr-shr}
use Rattle.std.proofs.Math.Nat.{mod-eq_of_lt}
use Rattle.std.proofs.lemmas.Bool.Decides.{nat_tests}
use Rattle.std.proofs.Math.Seq.{drop-cons, take-length}
use Rattle.h263_bits.specs.declared.fault.Fault.{Fault}
use Rattle.h263_bits.specs.declared.fault.FaultKind.TheVariants.{Ended, BadCode}
use Rattle.h263_bits.specs.Bits.{number, spelled}
use Rattle.h263_bits.specs.Reading.{Bits, skip, err, ◌>>=◌}
use Rattle.h263_bits.specs.Syntax.{IsIn, is_prefix_free, begins, found, is_cut, word_taken, word_at}
use Rattle.h263_bits.proofs.SyntaxLaws.{length-spelled, number-spelled, spelled-number, number-lt, number-middle, take-take, begins_parts, begins_itself, and_both, found_again}
use Rattle.code_tables.specs.declared.code.Code.{Code}
use Rattle.code_tables.specs.Words.{word_of, listed, is_code, starts, goes_on_from, first_place, code_at, names_code, are_named}

pub same_answer : (a b : Bool) → (a ≡ true → b ≡ true) → (b ≡ true → a ≡ true) → a ≡ b
same_answer true true p q = refl
same_answer true false p q = sym (p refl)
same_answer false true p q = q refl
same_answer false false p q = refl

pub both_and : (a b : Bool) → a ≡ true → b ≡ true → (a && b) ≡ true
both_and true true p q = refl
both_and true false p q = q
both_and false b p q = p

-- a word begins bits, by numbers
begins_by_number : (word bits : List Bool) → begins word bits ≡ true → (length word ≤ length bits)
    × (number (take (length word) bits) ≡ number word)
begins_by_number word bits e =
    let parts = begins_parts word bits e in (
      omega (arith, ap length parts, length-append word (drop (length word) bits)),
      ap number (ap (take (length word)) parts ∙ take_at word (drop (length word) bits) (length word) refl),
    )

begins_from_number : (word bits : List Bool) → length word ≤ length bits → number (take (length word) bits)
    ≡ number word → begins word bits ≡ true
begins_from_number word bits le e =
    let len : length (take (length word) bits) ≡ length word = omega (arith, length-take (length word) bits) in
    let front : take (length word) bits ≡ word = sym (spelled-number (take (length word) bits))
    ∙ ap (λ (k : ℕ). spelled k (number (take (length word) bits))) len ∙ ap (spelled (length word)) e
    ∙ spelled-number word in
    let whole : bits ≡ word ++ drop (length word) bits = sym (take-append-drop (length word) bits)
    ∙ ap (λ (t : List Bool). t ++ drop (length word) bits) front in
    ap (begins word) whole ∙ begins_itself word (drop (length word) bits)

-- what the reader sees of the bits that are left
pub record IsSeen (bits : List Bool) (n seen : ℕ) : Type 0 where
  pub few : n ≡ min (length bits) 16
  pub value : seen ≡ number (take n bits)

-- the first k of some bits, from the number of the first n
pub front_number : (bits : List Bool) (k n : ℕ) → k ≤ n → n ≤ length bits
    → number (take k bits) ≡ number (take n bits) / 2 ^ (n - k)
front_number bits k n h l =
    let len : length (take n bits) ≡ n = omega (arith, length-take n bits) in
    let small : number (take n bits) < 2 ^ (k + (n - k)) = subst (λ (j : ℕ). number (take n bits) < 2 ^ j)
    (omega (arith, len)) (number-lt (take n bits)) in
    ap number (sym (take-take k n bits h l)) ∙ number-middle (take n bits) 0 k (n - k) (omega (arith, len))
    ∙ mod-eq_of_lt (shr_below (number (take n bits)) k (n - k) small)

number_of_code : (c : Code) → is_code c ≡ true → (c.len < 16) × (c.bits < 2 ^ c.len) × (number (word_of c) ≡ c.bits)
number_of_code c e =
    let p = and_both (ltb c.len 16) (ltb c.bits (2 ^ c.len)) e in
    let small = ltb-true c.bits (2 ^ c.len) p.1 in
    (ltb-true c.len 16 p.0, small, number-spelled c.len c.bits ∙ mod-eq_of_lt small)

pub starts-begins : (c : Code) (bits : List Bool) (n seen : ℕ) → is_code c ≡ true → IsSeen bits n seen
    → starts seen n c ≡ begins (word_of c) bits
starts-begins c bits n seen ok s =
    let code = number_of_code c ok in
    let len : length (word_of c) ≡ c.len = length-spelled c.len c.bits in
    same_answer (starts seen n c) (begins (word_of c) bits)
    (λ e. let p = and_both (leb c.len n) (eqb (seen / 2 ^ (n - c.len)) c.bits) e in
    let le = leb-true c.len n p.0 in
    begins_from_number (word_of c) bits (omega (arith, s.few, len))
    (ap (λ (k : ℕ). number (take k bits)) len ∙ front_number bits c.len n le (omega (arith, s.few))
    ∙ ap (λ (v : ℕ). v / 2 ^ (n - c.len)) (sym s.value) ∙ eqb-true _ _ p.1 ∙ sym code.2))
    (λ e. let p = begins_by_number (word_of c) bits e in
    let le : c.len ≤ n = omega (arith, s.few, len, p.0, code.0) in
    both_and _ _ (le-leb c.len n le) (eq-eqb (seen / 2 ^ (n - c.len)) c.bits
    (ap (λ (v : ℕ). v / 2 ^ (n - c.len)) s.value ∙ sym (front_number bits c.len n le (omega (arith, s.few)))
    ∙ ap (λ (k : ℕ). number (take k bits)) (sym len) ∙ p.1 ∙ code.2)))

pub goes_on-begins : (c : Code) (bits : List Bool) (n seen : ℕ) → is_code c ≡ true → IsSeen bits n seen
    → goes_on_from seen n c ≡ begins bits (word_of c)
goes_on-begins c bits n seen ok s =
    let code = number_of_code c ok in
    let len : length (word_of c) ≡ c.len = length-spelled c.len c.bits in
    same_answer (goes_on_from seen n c) (begins bits (word_of c))
    (λ e. let p = and_both (leb n c.len) (eqb (c.bits / 2 ^ (c.len - n)) seen) e in
    let le = leb-true n c.len p.0 in
    let all : n ≡ length bits = omega (arith, s.few, code.0) in
    let front = front_number (word_of c) n c.len le (omega (arith, len)) in
    let whole : number (take c.len (word_of c)) ≡ c.bits = ap (λ (k : ℕ). number (take k (word_of c))) (sym len)
    ∙ ap number (take-length (word_of c)) ∙ code.2 in
    begins_from_number bits (word_of c) (omega (arith, len))
    (ap (λ (k : ℕ). number (take k (word_of c))) (sym all) ∙ front ∙ ap (λ (v : ℕ). v / 2 ^ (c.len - n)) whole
    ∙ eqb-true _ _ p.1 ∙ s.value ∙ ap (λ (k : ℕ). number (take k bits)) all ∙ ap number (take-length bits)))
    (λ e. let p = begins_by_number bits (word_of c) e in
    let all : n ≡ length bits = omega (arith, s.few, len, p.0, code.0) in
    let le : n ≤ c.len = omega (arith, p.0, len) in
    let front = front_number (word_of c) n c.len le (omega (arith, len)) in
    let whole : number (take c.len (word_of c)) ≡ c.bits = ap (λ (k : ℕ). number (take k (word_of c))) (sym len)
    ∙ ap number (take-length (word_of c)) ∙ code.2 in
    both_and _ _ (le-leb n c.len le) (eq-eqb (c.bits / 2 ^ (c.len - n)) seen
    (ap (λ (v : ℕ). v / 2 ^ (c.len - n)) (sym whole) ∙ sym front ∙ ap (λ (k : ℕ). number (take k (word_of c))) all ∙ p.1
    ∙ sym (s.value ∙ ap (λ (k : ℕ). number (take k bits)) all ∙ ap number (take-length bits)))))

-- ---- whole tables

pub place_none : (cs : List Code) (k : ℕ) (bits : List Bool) (n seen : ℕ) → list_all is_code cs ≡ true
    → IsSeen bits n seen → first_place seen n k cs ≡ None → found (listed k cs) bits ≡ None
unfolding first_place found listed
place_none [] k bits n seen ok s e = refl
place_none (c ∷ cs) k bits n seen ok s e =
    let p = and_both (is_code c) (list_all is_code cs) ok in
    at_code (starts seen n c) (starts-begins c bits n seen p.0 s) e (place_none cs (k + 1) bits n seen p.1 s)
  where
    at_code : (b : Bool) → b ≡ begins (word_of c) bits → cond b (Some k) (first_place seen n (k + 1) cs) ≡ None
        → (first_place seen n (k + 1) cs ≡ None → found (listed (k + 1) cs) bits ≡ None)
        → cond (begins (word_of c) bits) (Some (word_of c, k)) (found (listed (k + 1) cs) bits) ≡ None
    at_code true h e more = absurd cc
    at_code false h e more = rw (← h) (more e)

-- where a code stands, and that the bits begin with it
pub record StandsAt (cs : List Code) (k i : ℕ) (bits : List Bool) (d : Code) : Type 0 where
  pub from : k ≤ i
  pub within : i < k + length cs
  pub word : found (listed k cs) bits ≡ Some (word_of (get_or cs (i - k) d), i)
  pub there : begins (word_of (get_or cs (i - k) d)) bits ≡ true

pub place_some : (cs : List Code) (k i : ℕ) (bits : List Bool) (n seen : ℕ) (d : Code) → list_all is_code cs ≡ true
    → IsSeen bits n seen → first_place seen n k cs ≡ Some i → StandsAt cs k i bits d
unfolding first_place found listed
place_some [] k i bits n seen d ok s e = absurd cc
place_some (c ∷ cs) k i bits n seen d ok s e =
    let p = and_both (is_code c) (list_all is_code cs) ok in
    at_code (starts seen n c) (starts-begins c bits n seen p.0 s) e (place_some cs (k + 1) i bits n seen d p.1 s)
  where
    at_code : (b : Bool) → b ≡ begins (word_of c) bits → cond b (Some k) (first_place seen n (k + 1) cs) ≡ Some i
        → (first_place seen n (k + 1) cs ≡ Some i → StandsAt cs (k + 1) i bits d) → StandsAt (c ∷ cs) k i bits d
    at_code true h e more =
        let same : k ≡ i = cc in
        let here : i - k ≡ 0 = omega (arith, same) in
        record {
          from = omega (arith, same);
          within = omega (arith, same);
          word = rw (here, ← h, same) refl;
          there = rw (here, ← h) refl;
        }
    at_code false h e more =
        let m = more e in
        let next : i - k ≡ suc (i - (k + 1)) = omega (arith, m.from) in
        record {
          from = omega (arith, m.from);
          within = omega (arith, m.within);
          word = rw (next, ← h) (m.word);
          there = rw next (m.there);
        }

pub any_begun : (cs : List Code) (k : ℕ) (bits : List Bool) (n seen : ℕ) → list_all is_code cs ≡ true
    → IsSeen bits n seen → list_any (goes_on_from seen n) cs ≡ is_cut (listed k cs) bits
unfolding is_cut listed
any_begun [] k bits n seen ok s = refl
any_begun (c ∷ cs) k bits n seen ok s =
    let p = and_both (is_code c) (list_all is_code cs) ok in
    rw (goes_on-begins c bits n seen p.0 s, any_begun cs (k + 1) bits n seen p.1 s) refl

pub place_step : (cs : List Code) (seen n i : ℕ) (d : Code) → i < length cs → first_place seen n i (drop i cs)
    ≡ cond (starts seen n (get_or cs i d)) (Some i) (first_place seen n (i + 1) (drop (i + 1) cs))
unfolding first_place
place_step cs seen n i d h =
    let e : suc i ≡ i + 1 = omega arith in
    ap (first_place seen n i) (drop-cons cs i d h)
    ∙ ap (λ (j : ℕ). cond (starts seen n (get_or cs i d)) (Some i) (first_place seen n (i + 1) (drop j cs))) e

-- the code that stands at a place of the list is the word that is read
pub word_found : (cs : List Code) (i : ℕ) (b : Bits) (d : Code) → StandsAt cs 0 i b.bits d → word_at (listed 0 cs) b
    ≡ Ok (i, skip (get_or cs i d).len b)
unfolding word_at
word_found cs i b d s =
    let e : i - 0 ≡ i = omega arith in
    let len : length (word_of (get_or cs (i - 0) d)) ≡ (get_or cs i d).len =
    ap (λ (j : ℕ). length (word_of (get_or cs j d))) e ∙ length-spelled (get_or cs i d).len (get_or cs i d).bits in
    rw (s.word, len) refl

pub word_cut : (cs : List Code) (b : Bits) (n seen : ℕ) → list_all is_code cs ≡ true → IsSeen b.bits n seen
    → first_place seen n 0 cs ≡ None
    → word_at (listed 0 cs) b ≡ cond (list_any (goes_on_from seen n) cs) (Err (record { kind = Ended; at = b.at }))
    (Err (record { kind = BadCode; at = b.at }))
unfolding word_at
word_cut cs b n seen ok s e = rw (place_none cs 0 b.bits n seen ok s e, any_begun cs 0 b.bits n seen ok s) refl

-- it is no longer than the bits
pub fits_in : (cs : List Code) (i : ℕ) (bits : List Bool) (d : Code) → StandsAt cs 0 i bits d
    → (get_or cs i d).len ≤ length bits
fits_in cs i bits d s =
    let le : length (word_of (get_or cs i d)) ≤ length bits =
    subst (λ (j : ℕ). length (word_of (get_or cs j d)) ≤ length bits) (omega arith)
    (begins_by_number _ bits s.there).0 in
    omega (arith, le, length-spelled (get_or cs i d).len (get_or cs i d).bits)

-- ---- the tables for the first bits of words

named_at : (codes : List Code) (width front i : ℕ) (ks : List ℕ) → are_named codes width front ks ≡ true → i < length ks
    → names_code codes width (front + i) (get_or ks i 0) ≡ true
named_at codes width front i [] e h = absurd (omega arith)
named_at codes width front zero (k ∷ ks) e h =
    rw (add-zero front) (and_both (names_code codes width front k) (are_named codes width (front + 1) ks) e).0
named_at codes width front (suc i) (k ∷ ks) e h =
    let m : names_code codes width (front + 1 + i) (get_or ks i 0)
    ≡ true = named_at codes width (front + 1) i ks (and_both (names_code codes width front k)
    (are_named codes width (front + 1) ks) e).1 (omega arith) in
    subst (λ (f : ℕ). names_code codes width f (get_or ks i 0) ≡ true) (omega arith) m

named : (b : Bool) (a : Bool) → (a || b) ≡ true → a ≡ false → b ≡ true
named b true e h = absurd cc
named b false e h = e

listed_in : (cs : List Code) (k i : ℕ) (d : Code) → i < length cs → IsIn (word_of (get_or cs i d), k + i) (listed k cs)
unfolding listed
listed_in [] k i d h = absurd (omega arith)
listed_in (c ∷ cs) k zero d h = inl (ap (λ (j : ℕ). (word_of c, j)) (sym (add-zero k)))
listed_in (c ∷ cs) k (suc i) d h =
    let e : k + 1 + i ≡ k + suc i = omega arith in
    inr (subst (λ (j : ℕ). IsIn (word_of (get_or cs i d), j) (listed (k + 1) cs)) e
    (listed_in cs (k + 1) i d (omega arith)))

code_ok : (cs : List Code) (i : ℕ) → list_all is_code cs ≡ true → i < length cs
    → is_code (get_or cs i (record { bits = 0; len = 0 })) ≡ true
code_ok [] i e h = absurd (omega arith)
code_ok (c ∷ cs) zero e h = (and_both (is_code c) (list_all is_code cs) e).0
code_ok (c ∷ cs) (suc i) e h = code_ok cs i (and_both (is_code c) (list_all is_code cs) e).1 (omega arith)

lt-leb-false : (a b : ℕ) → b < a → leb a b ≡ false
lt-leb-false a b h = grind (arith, nat_tests)

-- what a table names for some bits begins them, where it is a place
pub starts_there : (codes : List Code) (width seen : ℕ) (ks : List ℕ) → are_named codes width 0 ks ≡ true
    → seen < length ks → get_or ks seen 0 < length codes → starts seen width (code_at codes (get_or ks seen 0)) ≡ true
starts_there codes width seen ks all h lt =
    let yes : names_code codes width seen (get_or ks seen 0)
    ≡ true = subst (λ (j : ℕ). names_code codes width j (get_or ks seen 0) ≡ true) (zero-add seen)
    (named_at codes width 0 seen ks all h) in
    named _ _ yes (lt-leb-false (length codes) (get_or ks seen 0) lt)

-- a code that begins the first bits of some bits begins them all
pub starts_more : (c : Code) (seen k more : ℕ) → starts (seen / 2 ^ more) k c ≡ true → starts seen (k + more) c ≡ true
starts_more c seen k more e =
    let p = and_both (leb c.len k) (eqb (seen / 2 ^ more / 2 ^ (k - c.len)) c.bits) e in
    let le = leb-true c.len k p.0 in
    let far : more + (k - c.len) ≡ k + more - c.len = omega arith in
    both_and _ _ (le-leb c.len (k + more) (omega arith)) (eq-eqb (seen / 2 ^ (k + more - c.len)) c.bits
    (ap (λ (j : ℕ). seen / 2 ^ j) (sym far) ∙ sym (shr-shr seen more (k - c.len)) ∙ eqb-true _ _ p.1))

-- No word begins another, so the code that the next bits begin with is the word that is read.
pub named_stands : (codes : List Code) (bits : List Bool) (n seen k : ℕ) → list_all is_code codes ≡ true
    → is_prefix_free (listed 0 codes) ≡ true → n ≤ length bits → seen ≡ number (take n bits)
    → k < length codes → starts seen n (code_at codes k) ≡ true → StandsAt codes 0 k bits (record { bits = 0; len = 0 })
named_stands codes bits n seen k ok apart enough e lt there =
    let code = get_or codes k (record { bits = 0; len = 0 }) in
    let c = number_of_code code (code_ok codes k ok lt) in
    let p = and_both (leb code.len n) (eqb (seen / 2 ^ (n - code.len)) code.bits) there in
    let le = leb-true code.len n p.0 in
    let len : length (word_of code) ≡ code.len = length-spelled code.len code.bits in
    let begin : begins (word_of code) bits ≡ true = begins_from_number (word_of code) bits (omega (arith, len))
    (ap (λ (j : ℕ). number (take j bits)) len ∙ front_number bits code.len n le enough
    ∙ ap (λ (v : ℕ). v / 2 ^ (n - code.len)) (sym e) ∙ eqb-true _ _ p.1 ∙ sym c.2) in
    let word : found (listed 0 codes) bits ≡ Some (word_of code, k) = ap (found (listed 0 codes))
    (begins_parts (word_of code) bits begin)
    ∙ found_again (listed 0 codes) (word_of code, k) (drop (length (word_of code)) bits) apart
    (subst (λ (j : ℕ). IsIn (word_of code, j) (listed 0 codes)) (zero-add k)
    (listed_in codes 0 k (record { bits = 0; len = 0 }) lt)) in
    let z : k ≡ k - 0 = omega arith in
    record {
      from = omega arith;
      within = omega (arith, lt);
      word = subst (λ (j : ℕ). found (listed 0 codes) bits
          ≡ Some (word_of (get_or codes j (record { bits = 0; len = 0 })), k)) z word;
      there = subst (λ (j : ℕ). begins (word_of (get_or codes j (record { bits = 0; len = 0 }))) bits
          ≡ true) z begin;
    }

-- a table that stands for something else
pub found-map : {S T : Type 0} (f : S → T) (words : List (List Bool × S)) (bits : List Bool)
    → found (map (λ w. (w.0, f w.1)) words) bits ≡ option_map (λ (w : List Bool × S). (w.0, f w.1)) (found words bits)
unfolding found
found-map f [] bits = refl
found-map {S} {T} f (w ∷ words) bits = at_word (begins w.0 bits) (found-map f words bits)
  where
    at_word : (b : Bool) → found (map (λ w. (w.0, f w.1)) words) bits ≡ option_map (λ (w : List Bool × S). (w.0, f w.1))
        (found words bits)
        → cond b (Some (w.0, f w.1)) (found (map (λ w. (w.0, f w.1)) words) bits)
        ≡ option_map (λ (w : List Bool × S). (w.0, f w.1)) (cond b (Some w) (found words bits))
    at_word true h = refl
    at_word false h = h

cut-map : {S T : Type 0} (f : S → T) (words : List (List Bool × S)) (bits : List Bool)
    → is_cut (map (λ w. (w.0, f w.1)) words) bits ≡ is_cut words bits
unfolding is_cut
cut-map f [] bits = refl
cut-map f (w ∷ words) bits = ap (λ (b : Bool). begins bits w.0 || b) (cut-map f words bits)

pub word_at-map : {S T : Type 0} (f : S → T) (words : List (List Bool × S)) (b : Bits)
    → word_at (map (λ w. (w.0, f w.1)) words) b ≡ (word_at words b >>= λ x. Ok (f x.0, x.1))
unfolding word_at
word_at-map {S} {T} f words b = rw (found-map f words b.bits) (at_found (found words b.bits))
  where
    at_found : (o : Option (List Bool × S))
        → word_taken (map (λ w. (w.0, f w.1)) words) b (option_map (λ (w : List Bool × S). (w.0, f w.1)) o)
        ≡ (word_taken words b o >>= λ x. Ok (f x.0, x.1))
    at_found (Some w) = refl
    at_found None = rw (cut-map f words b.bits) (at_cut (is_cut words b.bits))
      where
        at_cut : (c : Bool) → cond c (err {A = T × Bits} (record { kind = Ended; at = b.at }))
            (Err (record { kind = BadCode; at = b.at }))
            ≡ (cond c (err {A = S × Bits} (record { kind = Ended; at = b.at }))
            (Err (record { kind = BadCode; at = b.at })) >>= λ x. Ok (f x.0, x.1))
        at_cut true = refl
        at_cut false = refl

-- the words of a table whose codes stand for symbols
pub read_symbol : {S : Type 0} (f : ℕ → S) (words : List (List Bool × S)) (codes : List Code) (b c : Bits) (i : ℕ)
    (x : S) → words ≡ map (λ w. (w.0, f w.1)) (listed 0 codes) → word_at (listed 0 codes) b ≡ Ok (i, c) → f i ≡ x
    → word_at words b ≡ Ok (x, c)
read_symbol f words codes b c i x same e is = rw (same, word_at-map f (listed 0 codes) b, e, is) refl

-- a fault in the list of codes is one in the list of what they stand for
pub read_no_symbol : {S : Type 0} (f : ℕ → S) (words : List (List Bool × S)) (codes : List Code) (b : Bits)
    (fault : Fault) → words ≡ map (λ w. (w.0, f w.1)) (listed 0 codes) → word_at (listed 0 codes) b ≡ Err fault
    → word_at words b ≡ Err fault
read_no_symbol f words codes b fault same e = rw (same, word_at-map f (listed 0 codes) b, e) refl
