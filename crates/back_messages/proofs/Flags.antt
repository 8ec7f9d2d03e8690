-- Two bytes of flags, and the marks that they stand for.
use Rattle.std.proofs.Common.{◌≡◌, ℕ, zero, suc, ◌+◌, ◌*◌, ◌/◌, ◌%◌, ◌^◌, ◌<◌, Bool, true, false, cond, List, [], ◌∷◌, ◌++◌, length, take, drop, Some, refl, sym, ap, subst, ◌∙◌, add-one, arith, eq-eqb}
use Rattle.std.specs.Prelude.{◌==◌, reverse}
use Rattle.std.proofs.Math.Nat.{mod-eq_of_lt}
use Rattle.std.proofs.lemmas.Bool.{eqb-true}
use Rattle.std.proofs.lemmas.List.{length-append, reverse-append, reverse-reverse, length-reverse, take_at, drop_at}
use Rattle.h263_bits.specs.Bits.{spelled, number}
use Rattle.h263_bits.proofs.SyntaxLaws.{and_both, length-spelled, number-append, number-lt, number-spelled, spelled-number, spelled-append, spelled-low}
use Rattle.back_messages.specs.Text.{flags_in_field, flags_text, has_markers, marks_in}

-- ---- seven bits, the last one first

-- seven bits, the last one first
abbrev pub turned : ℕ → ℕ
turned n = number (reverse (spelled 7 n))

-- they are seven bits again
pub turned_low : (n : ℕ) → turned n < 2 ^ 7
turned_low n = subst (λ (k : ℕ). turned n < 2 ^ k) (length-reverse (spelled 7 n)
    ∙ length-spelled 7 n) (number-lt (reverse (spelled 7 n)))

pub turned_text : (n : ℕ) → spelled 7 (turned n) ≡ reverse (spelled 7 n)
turned_text n = ap (λ (k : ℕ). spelled k (turned n)) (sym (length-reverse (spelled 7 n) ∙ length-spelled 7 n))
    ∙ spelled-number (reverse (spelled 7 n))

one : spelled 1 1 ≡ true ∷ []
unfolding spelled
one = refl

split : (n : ℕ) → spelled 14 n ≡ spelled 7 (n / 2 ^ 7) ++ spelled 7 n
split n =
    let whole : n ≡ n / 2 ^ 7 * 2 ^ 7 + n % 2 ^ 7 = omega arith in
    ap (spelled 14) whole ∙ spelled-append 7 7 (n / 2 ^ 7) (n % 2 ^ 7) (omega arith)
    ∙ ap (λ (t : List Bool). spelled 7 (n / 2 ^ 7) ++ t) (sym (spelled-low 7 7 (n / 2 ^ 7) (n % 2 ^ 7) (omega arith))
    ∙ ap (spelled 7) (sym whole))

pub flags_split : (marks : ℕ) → flags_in_field marks ≡ reverse (spelled 7 marks) ++ reverse (spelled 7 (marks / 2 ^ 7))
flags_split marks = ap reverse (split marks) ∙ reverse-append (spelled 7 (marks / 2 ^ 7)) (spelled 7 marks)

seven : (n : ℕ) → length (reverse (spelled 7 n)) ≡ 7
seven n = length-reverse (spelled 7 n) ∙ length-spelled 7 n

-- the number of two bytes of flags
abbrev pub flags_code : ℕ → ℕ → ℕ
flags_code first second = 2 ^ 15 + first * 2 ^ 8 + 2 ^ 7 + second

pub code_spelled : (first second : ℕ) → first < 2 ^ 7 → second < 2 ^ 7 → spelled 16 (flags_code first second)
    ≡ (true ∷ spelled 7 first) ++ (true ∷ spelled 7 second)
code_spelled first second f s =
    let low : ℕ = 1 * 2 ^ 7 + second in
    let whole : flags_code first second ≡ 1 * 2 ^ 15 + (first * 2 ^ 8 + low) = omega arith in
    ap (spelled 16) whole ∙ spelled-append 1 15 1 (first * 2 ^ 8 + low) (omega arith)
    ∙ ap (λ (t : List Bool). t ++ spelled 15 (first * 2 ^ 8 + low)) one
    ∙ ap (λ (t : List Bool). true ∷ t) (
    spelled-append 7 8 first low (omega arith)
    ∙ ap (λ (t : List Bool). spelled 7 first ++ t) (spelled-append 1 7 1 second s
    ∙ ap (λ (t : List Bool). t ++ spelled 7 second) one)
    )

-- the code of two bytes of flags is the text of their marks
pub marks_text : (marks : ℕ) → spelled 16 (flags_code (turned marks) (turned (marks / 2 ^ 7))) ≡ flags_text (Some marks)
marks_text marks =
    let a = reverse (spelled 7 marks) in
    let b = reverse (spelled 7 (marks / 2 ^ 7)) in
    let first : take 7 (flags_in_field marks) ≡ a = ap (take 7) (flags_split marks) ∙ take_at a b 7 (seven marks) in
    let second : drop 7 (flags_in_field marks) ≡ b = ap (drop 7) (flags_split marks) ∙ drop_at a b 7 (seven marks) in
    code_spelled (turned marks) (turned (marks / 2 ^ 7)) (turned_low marks) (turned_low (marks / 2 ^ 7))
    ∙ ap (λ (t : List Bool). (true ∷ t) ++ (true ∷ spelled 7 (turned (marks / 2 ^ 7)))) (turned_text marks ∙ sym first)
    ∙ ap (λ (t : List Bool). (true ∷ take 7 (flags_in_field marks)) ++ (true ∷ t)) (turned_text (marks / 2 ^ 7)
    ∙ sym second)

-- ---- what is read

pub marks_parts : (n : ℕ) → marks_in n ≡ turned n * 2 ^ 7 + turned (n / 2 ^ 8)
unfolding marks_in
marks_parts n =
    let a = spelled 7 (n / 2 ^ 8) in
    let b = spelled 7 n in
    ap number (reverse-append a b) ∙ number-append (reverse b) (reverse a)
    ∙ ap (λ (k : ℕ). number (reverse b) * 2 ^ k + number (reverse a)) (seven (n / 2 ^ 8))

pub marks_low : (n : ℕ) → marks_in n < 2 ^ 14
marks_low n = omega (arith, marks_parts n, turned_low n, turned_low (n / 2 ^ 8))

-- two bytes with their markers are the text of their marks
pub marked_text : (n : ℕ) → n < 2 ^ 16 → has_markers n ≡ true → spelled 16 n ≡ flags_text (Some (marks_in n))
unfolding marks_in
marked_text n h e =
    let m = and_both (n / 2 ^ 15 % 2 == 1) (n / 2 ^ 7 % 2 == 1) e in
    let high : n / 2 ^ 15 % 2 ≡ 1 = eqb-true (n / 2 ^ 15 % 2) 1 m.0 in
    let low : n / 2 ^ 7 % 2 ≡ 1 = eqb-true (n / 2 ^ 7 % 2) 1 m.1 in
    let first : ℕ = n / 2 ^ 8 % 2 ^ 7 in
    let second : ℕ = n % 2 ^ 7 in
    let whole : n ≡ flags_code first second = omega arith in
    let a = spelled 7 (n / 2 ^ 8) in
    let b = spelled 7 n in
    let first_is : spelled 7 first ≡ a = low_bits (n / 2 ^ 8) in
    let second_is : spelled 7 second ≡ b = low_bits n in
    let flags : flags_in_field (number (reverse (a ++ b))) ≡ a ++ b =
    ap reverse (ap (λ (k : ℕ). spelled k (number (reverse (a ++ b)))) (sym (length-reverse (a ++ b)
    ∙ fourteen a b (length-spelled 7 (n / 2 ^ 8)) (length-spelled 7 n))) ∙ spelled-number (reverse (a ++ b)))
    ∙ reverse-reverse (a ++ b) in
    let one : take 7 (flags_in_field (number (reverse (a ++ b)))) ≡ a = ap (take 7) flags
    ∙ take_at a b 7 (length-spelled 7 (n / 2 ^ 8)) in
    let two : drop 7 (flags_in_field (number (reverse (a ++ b)))) ≡ b = ap (drop 7) flags
    ∙ drop_at a b 7 (length-spelled 7 (n / 2 ^ 8)) in
    ap (spelled 16) whole ∙ code_spelled first second (omega arith) (omega arith)
    ∙ ap (λ (t : List Bool). (true ∷ t) ++ (true ∷ spelled 7 second)) (first_is ∙ sym one)
    ∙ ap (λ (t : List Bool). (true ∷ take 7 (flags_in_field (number (reverse (a ++ b))))) ++ (true ∷ t)) (second_is
    ∙ sym two)
  where
    low_bits : (k : ℕ) → spelled 7 (k % 2 ^ 7) ≡ spelled 7 k
    low_bits k = let whole : k ≡ k / 2 ^ 7 * 2 ^ 7 + k % 2 ^ 7 = omega arith in
        sym (ap (spelled 7) whole ∙ spelled-low 7 7 (k / 2 ^ 7) (k % 2 ^ 7) (omega arith))

    fourteen : (a b : List Bool) → length a ≡ 7 → length b ≡ 7 → length (a ++ b) ≡ 14
    fourteen a b p q = omega (arith, length-append a b)

-- the number of a text of flags, and what is read of it
pub record AreFlags (marks n : ℕ) : Type 0 where
  pub markers : has_markers n ≡ true
  pub marks_are : marks_in n ≡ marks

pub flags_read : (marks : ℕ) → marks < 2 ^ 14 → AreFlags marks (flags_code (turned marks) (turned (marks / 2 ^ 7)))
unfolding marks_in
flags_read marks h =
    let f = turned marks in
    let s = turned (marks / 2 ^ 7) in
    let n : ℕ = flags_code f s in
    let fl = turned_low marks in
    let sl = turned_low (marks / 2 ^ 7) in
    let high : n / 2 ^ 15 % 2 ≡ 1 = omega arith in
    let low : n / 2 ^ 7 % 2 ≡ 1 = omega arith in
    let top : n / 2 ^ 8 ≡ 1 * 2 ^ 7 + f = omega arith in
    let bottom : n ≡ (2 ^ 8 + f * 2 + 1) * 2 ^ 7 + s = omega arith in
    let first : spelled 7 (n / 2 ^ 8) ≡ reverse (spelled 7 marks) = ap (spelled 7) top
    ∙ spelled-low 7 7 1 f (omega arith) ∙ turned_text marks in
    let second : spelled 7 n ≡ reverse (spelled 7 (marks / 2 ^ 7)) = ap (spelled 7) bottom
    ∙ spelled-low 7 7 (2 ^ 8 + f * 2 + 1) s (omega arith) ∙ turned_text (marks / 2 ^ 7) in
    let both : spelled 7 (n / 2 ^ 8) ++ spelled 7 n ≡ flags_in_field marks =
    ap (λ (t : List Bool). t ++ spelled 7 n) first ∙ ap (λ (t : List Bool). reverse (spelled 7 marks) ++ t) second
    ∙ sym (flags_split marks) in
    record {
      markers = rw (eq-eqb (n / 2 ^ 15 % 2) 1 high, eq-eqb (n / 2 ^ 7 % 2) 1 low) refl;
      marks_are = ap (λ (t : List Bool). number (reverse t)) both ∙ ap number (reverse-reverse (spelled 14 marks))
          ∙ number-spelled 14 marks ∙ mod-eq_of_lt h;
    }

-- ---- the code's loop

spelled-more : (k n : ℕ) → spelled (k + 1) n ≡ (n / 2 ^ k % 2 == 1) ∷ spelled k n
unfolding spelled
spelled-more k n = ap (λ (j : ℕ). spelled j n) (add-one k)

bit_back : (m : ℕ) → m < 2 → cond (m == 1) 1 0 ≡ m
bit_back zero h = refl
bit_back (suc zero) h = refl
bit_back (suc (suc m)) h = absurd (omega arith)

number-one : (b : Bool) → number (b ∷ []) ≡ cond b 1 0
unfolding number
number-one true = omega arith
number-one false = omega arith

number-none : number [] ≡ 0
unfolding number
number-none = refl

pub turned-none : (n : ℕ) → number (reverse (spelled 0 n)) ≡ 0
unfolding spelled
turned-none n = number-none

pub turned-more : (k n : ℕ) → number (reverse (spelled (k + 1) n)) ≡ 2 * number (reverse (spelled k n)) + n / 2 ^ k % 2
turned-more k n =
    let b : Bool = n / 2 ^ k % 2 == 1 in
    let last : number (b ∷ []) ≡ n / 2 ^ k % 2 = number-one b ∙ bit_back (n / 2 ^ k % 2) (omega arith) in
    let whole : number (reverse (spelled (k + 1) n)) ≡ number (reverse (spelled k n)) * 2 ^ 1 + number (b ∷ []) =
    ap (λ (t : List Bool). number (reverse t)) (spelled-more k n) ∙ ap number (reverse-append (b ∷ []) (spelled k n))
    ∙ number-append (reverse (spelled k n)) (b ∷ []) in
    omega (arith, whole, last)
