-- A whole line is found where it stands, and what was found is a whole line.
use Rattle.std.proofs.Common.{◌≡◌, ◌≢◌, ℕ, zero, suc, ◌+◌, ◌-◌, ◌<◌, ◌≤◌, ◌==◌, ◌&&◌, nat_le, Bool, true, false, cond, inl, inr, List, [], ◌∷◌, ◌++◌, length, take, drop, get_or, refl, sym, ap, subst, ◌∙◌, arith, append_assoc, length-append, take-append-drop}
use Rattle.std.proofs.lemmas.Bool.{cases_eq}
use Rattle.std.proofs.lemmas.Bool.Decides.{nat_tests}
use Rattle.std.proofs.lemmas.List.Elements.{All-nil, All-cons, All-head, All-tail, All-append, All-drop}
use Rattle.std.proofs.Math.Seq.{take-append_seam, get_or-append_seam}
use Rattle.std.proofs.lemmas.List.{take-append-le, get_or-append-add}
use Rattle.h263_outside.specs.Lines.{NoNewline}
use Rattle.y4m.specs.Line.{is_gap, agreement, through_newline, line_within, is_line_whole}
use Rattle.y4m.specs.Spelled.{StandsApart, IsTextLine}

abbrev Other : ℕ → Type 0
Other b = b ≢ 10

pub through_other : (b : ℕ) (bytes : List ℕ) → b ≢ 10 → through_newline (b ∷ bytes) ≡ b ∷ through_newline bytes
through_other b bytes other = grind (arith, nat_tests)

-- the line is found
through_found : (n : ℕ) (xs more : List ℕ) → NoNewline xs → length xs < n → through_newline (take n (xs ++ 10 ∷ more))
    ≡ xs ++ 10 ∷ []
through_found zero xs more none lt = absurd (omega arith)
through_found (suc n) [] more none lt = refl
through_found (suc n) (b ∷ xs) more none lt =
    through_other b (take n (xs ++ 10 ∷ more)) (All-head Other b xs none)
    ∙ ap (λ (l : List ℕ). b ∷ l) (through_found n xs more (All-tail Other b xs none) (omega arith))

-- a line is found where its text stands
pub line_found : (n : ℕ) (word line more : List ℕ) → NoNewline word → IsTextLine word line → length line ≤ n
    → line_within n (line ++ more) ≡ line
line_found n word line more none l le =
    let whole : line ++ more ≡ (word ++ l.tail) ++ 10 ∷ more = ap (λ (x : List ℕ). x ++ more) l.text
    ∙ append_assoc (word ++ l.tail) (10 ∷ []) more in
    let size : length line ≡ length (word ++ l.tail) + 1 = ap (λ (x : List ℕ). length x) l.text
    ∙ length-append (word ++ l.tail) (10 ∷ []) in
    ap (λ (x : List ℕ). line_within n x) whole
    ∙ through_found n (word ++ l.tail) more (All-append Other word l.tail none l.one) (omega arith)
    ∙ sym l.text

same_heads : (a : ℕ) (word line : List ℕ) → agreement (a ∷ word) (a ∷ line) ≡ suc (agreement word line)
same_heads a word line = grind (arith, nat_tests)

pub agreement-append : (word tail : List ℕ) → agreement word (word ++ tail) ≡ length word + agreement [] tail
agreement-append [] tail = omega arith
agreement-append (a ∷ word) tail = same_heads a word (word ++ tail) ∙ ap (λ (n : ℕ). suc n) (agreement-append word tail)
    ∙ omega arith

gap_first : (tail : List ℕ) → StandsApart tail → agreement [] (tail ++ 10 ∷ []) ≡ 1
gap_first [] apart = refl
gap_first (b ∷ tail) apart = ap (λ (b : ℕ). agreement [] (b ∷ (tail ++ 10 ∷ []))) apart

pub line_agrees : (word line : List ℕ) → IsTextLine word line → agreement word line ≡ length word + 1
line_agrees word line l =
    ap (λ (x : List ℕ). agreement word x) (l.text ∙ append_assoc word l.tail (10 ∷ []))
    ∙ agreement-append word (l.tail ++ 10 ∷ [])
    ∙ ap (λ (n : ℕ). length word + n) (gap_first l.tail l.apart)

whole_if : (n b : ℕ) → n ≤ 256 → b ≡ 10 → (nat_le n 256 && b == 10) ≡ true
whole_if n b le is = grind (arith, nat_tests)

pub line_whole : (word line : List ℕ) → IsTextLine word line → is_line_whole line ≡ true
line_whole word line l =
    let size : length line - 1 ≡ length (word ++ l.tail) = omega (
      arith,
      ap (λ (x : List ℕ). length x) l.text,
      length-append (word ++ l.tail) (10 ∷ []),
    ) in
    whole_if (length line) (get_or line (length line - 1) 0) l.short
    (ap (λ (n : ℕ). get_or line n 0) size ∙ ap (λ (x : List ℕ). get_or x (length (word ++ l.tail)) 0) l.text
    ∙ get_or-append_seam (word ++ l.tail) 10 [] 0)

-- what was found
pub line_front : (n : ℕ) (bytes : List ℕ) → bytes ≡ line_within n bytes ++ drop (length (line_within n bytes)) bytes
line_front zero bytes = refl
line_front (suc n) [] = refl
line_front (suc n) (b ∷ bytes) = elim (cases_eq b 10) [
  | inl ten ↦ front_ten b n bytes ten
  | inr other ↦ front_other b n bytes other (line_front n bytes)
]
  where
    front_ten : (b n : ℕ) (bytes : List ℕ) → b ≡ 10 → b ∷ bytes ≡ line_within (suc n) (b ∷ bytes)
        ++ drop (length (line_within (suc n) (b ∷ bytes))) (b ∷ bytes)
    front_ten b n bytes ten = let one : line_within (suc n) (b ∷ bytes) ≡ b ∷ [] = grind (arith, nat_tests) in
        ap (λ (l : List ℕ). l ++ drop (length l) (b ∷ bytes)) (sym one)

    front_other : (b n : ℕ) (bytes : List ℕ) → b ≢ 10 → bytes ≡ line_within n bytes
        ++ drop (length (line_within n bytes)) bytes → b ∷ bytes ≡ line_within (suc n) (b ∷ bytes)
        ++ drop (length (line_within (suc n) (b ∷ bytes))) (b ∷ bytes)
    front_other b n bytes other is = ap (λ (l : List ℕ). b ∷ l) is
        ∙ ap (λ (l : List ℕ). l ++ drop (length l) (b ∷ bytes)) (sym (through_other b (take n bytes) other))

-- a text up to its newline, which stands at its end and nowhere else
pub record Ended (line : List ℕ) : Type 0 where
  pub front : List ℕ
  pub text : line ≡ front ++ 10 ∷ []
  pub one : NoNewline front

pub last_cons : (b : ℕ) (ys : List ℕ) → 0 < length ys → get_or (b ∷ ys) (length (b ∷ ys) - 1) 0
    ≡ get_or ys (length ys - 1) 0
last_cons b [] some = absurd (omega arith)
last_cons b (y ∷ ys) some =
    let one : suc (suc (length ys)) - 1 ≡ suc (length ys) = omega arith in
    let two : suc (length ys) - 1 ≡ length ys = omega arith in
    ap (λ (n : ℕ). get_or (b ∷ y ∷ ys) n 0) one ∙ ap (λ (n : ℕ). get_or (y ∷ ys) n 0) (sym two)

ended_cons : (b : ℕ) (line : List ℕ) → b ≢ 10 → Ended line → Ended (b ∷ line)
ended_cons b line other e = record {
  front = b ∷ e.front;
  text = ap (λ (l : List ℕ). b ∷ l) e.text;
  one = All-cons Other b e.front other e.one;
}

ended_at : (b : ℕ) (line : List ℕ) → b ≢ 10 → get_or (b ∷ line) (length (b ∷ line) - 1) 0 ≡ 10
    → (get_or line (length line - 1) 0 ≡ 10 → Ended line) → Ended (b ∷ line)
ended_at b [] other ten more = absurd (other ten)
ended_at b (y ∷ line) other ten more = ended_cons b (y ∷ line) other (more (sym (last_cons b (y ∷ line) (omega arith))
    ∙ ten))

ended_through : (bytes : List ℕ) → get_or (through_newline bytes) (length (through_newline bytes) - 1) 0 ≡ 10
    → Ended (through_newline bytes)
ended_through [] ten = absurd (omega (arith, ten))
ended_through (b ∷ bytes) ten = elim (cases_eq b 10) [
  | inl is ↦ ended_here b bytes is
  | inr other ↦ ended_later b bytes other ten (ended_through bytes)
]
  where
    ended_here : (b : ℕ) (bytes : List ℕ) → b ≡ 10 → Ended (through_newline (b ∷ bytes))
    ended_here b bytes is =
        let one : through_newline (b ∷ bytes) ≡ [] ++ 10 ∷ [] = grind (arith, nat_tests) in
        record { front = []; text = one; one = All-nil Other }

    ended_later : (b : ℕ) (bytes : List ℕ) → b ≢ 10
        → get_or (through_newline (b ∷ bytes)) (length (through_newline (b ∷ bytes)) - 1) 0 ≡ 10
        → (get_or (through_newline bytes) (length (through_newline bytes) - 1) 0 ≡ 10 → Ended (through_newline bytes))
        → Ended (through_newline (b ∷ bytes))
    ended_later b bytes other ten more =
        let e : through_newline (b ∷ bytes) ≡ b ∷ through_newline bytes = through_other b bytes other in
        subst (λ (l : List ℕ). Ended l) (sym e)
        (ended_at b (through_newline bytes) other (sym (ap (λ (l : List ℕ). get_or l (length l - 1) 0) e) ∙ ten) more)

whole_short : (n b : ℕ) → (nat_le n 256 && b == 10) ≡ true → n ≤ 256
whole_short n b is = grind (arith, nat_tests)

whole_ends : (n b : ℕ) → (nat_le n 256 && b == 10) ≡ true → b ≡ 10
whole_ends n b is = grind (arith, nat_tests)

pub other_heads : (a b : ℕ) (word line : List ℕ) → (a ≡ b → ⊥) → agreement (a ∷ word) (b ∷ line) ≡ 0
other_heads a b word line other = grind (arith, nat_tests)

pub same_heads_as : (a b : ℕ) (word line : List ℕ) → a ≡ b → agreement (a ∷ word) (b ∷ line) ≡ suc (agreement word line)
same_heads_as a b word line same = grind (arith, nat_tests)

begins : (word line : List ℕ) → length word < agreement word line → line ≡ word ++ drop (length word) line
begins [] line lt = refl
begins (a ∷ word) [] lt = absurd (omega arith)
begins (a ∷ word) (b ∷ line) lt = elim (cases_eq a b) [
  | inl same ↦ (λ i. sym same i ∷ begins word line (omega (arith, same_heads_as a b word line same)) i)
  | inr other ↦ absurd (omega (arith, other_heads a b word line other))
]

gap_of : (gap : Bool) → 0 < cond gap 1 0 → gap ≡ true
gap_of true lt = refl
gap_of false lt = absurd (omega arith)

gap_at : (word line : List ℕ) → length word < agreement word line → (length word < length line)
    × (is_gap (get_or line (length word) 0) ≡ true)
gap_at [] [] lt = absurd (omega arith)
gap_at [] (b ∷ line) lt = (omega arith, gap_of (is_gap b) lt)
gap_at (a ∷ word) [] lt = absurd (omega arith)
gap_at (a ∷ word) (b ∷ line) lt = elim (cases_eq a b) [
  | inl same ↦ (let more = gap_at word line (omega (arith, same_heads_as a b word line same)) in
      (omega (arith, more.0), more.1))
  | inr other ↦ absurd (omega (arith, other_heads a b word line other))
]

apart_of : (tail : List ℕ) → is_gap (get_or (tail ++ 10 ∷ []) 0 0) ≡ true → NoNewline tail → StandsApart tail
apart_of [] gap one = tt
apart_of (b ∷ tail) gap one = space b gap (All-head Other b tail one)
  where
    space : (b : ℕ) → is_gap b ≡ true → b ≢ 10 → b ≡ 32
    space b gap other = grind (arith, nat_tests)

-- a whole line that is found has its word and no newline inside
pub line_is : (n : ℕ) (word bytes : List ℕ) → length word < agreement word (line_within n bytes)
    → is_line_whole (line_within n bytes) ≡ true → IsTextLine word (line_within n bytes)
line_is n word bytes agrees whole =
    let line = line_within n bytes in
    let last = get_or line (length line - 1) 0 in
    let e : Ended line = ended_through (take n bytes) (whole_ends (length line) last whole) in
    let gap = gap_at word line agrees in
    let size : length line ≡ length e.front + 1 = ap (λ (l : List ℕ). length l) e.text
    ∙ length-append e.front (10 ∷ []) in
    let tail = drop (length word) e.front in
    let le : length word ≤ length e.front = omega (arith, gap.0, size) in
    let front : take (length word) e.front ≡ word =
    sym (take-append-le (length word) e.front (10 ∷ []) le)
    ∙ ap (λ (l : List ℕ). take (length word) l) (sym e.text ∙ begins word line agrees)
    ∙ take-append_seam word (drop (length word) line) in
    let text : line ≡ (word ++ tail) ++ 10 ∷ [] =
    e.text ∙ ap (λ (l : List ℕ). l ++ 10 ∷ []) (sym (take-append-drop (length word) e.front)
    ∙ ap (λ (l : List ℕ). l ++ tail) front) in
    let there : get_or line (length word) 0 ≡ get_or (tail ++ 10 ∷ []) 0 0 =
    ap (λ (l : List ℕ). get_or l (length word) 0) (text ∙ append_assoc word tail (10 ∷ []))
    ∙ ap (λ (k : ℕ). get_or (word ++ (tail ++ 10 ∷ [])) k 0) (add-zero (length word))
    ∙ get_or-append-add word (tail ++ 10 ∷ []) 0 0 in
    let one : NoNewline tail = All-drop Other (length word) e.front e.one in
    record {
      tail = tail;
      text = text;
      apart = apart_of tail (ap is_gap (sym there) ∙ gap.1) one;
      one = one;
      short = whole_short (length line) last whole;
    }
  where
    add-zero : (n : ℕ) → n ≡ n + 0
    add-zero n = omega arith
