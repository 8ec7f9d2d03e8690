-- A line by its first bytes, and where the first newline of them stands.
use Rattle.std.proofs.Common.{◌≡◌, ◌≢◌, ℕ, suc, ◌+◌, ◌-◌, ◌<◌, ◌≤◌, ◌==◌, max, Bool, true, false, cond, inl, inr, List, [], ◌∷◌, ◌++◌, length, take, drop, Option, Some, None, refl, sym, ap, subst, ◌∙◌, arith, append-nil, length-take}
use Rattle.std.specs.Prelude.{position, nat_lt}
use Rattle.std.specs.List.{position_or_len}
use Rattle.std.proofs.Math.Seq.{take-add, take-nil, take-append-add}
use Rattle.std.proofs.Math.ListN.{drop_of_length-le}
use Rattle.std.proofs.lemmas.Bool.{cases_eq, cases_lt}
use Rattle.std.proofs.lemmas.Bool.Decides.{nat_tests}
use Rattle.std.proofs.lemmas.List.{drop-drop, take_all, take-append-le}
use Rattle.std.proofs.lemmas.List.Elements.{All-nil, All-cons, All-head, All-tail, All-append}
use Rattle.h263_outside.specs.Lines.{NoNewline}
use Rattle.y4m.specs.Line.{through_newline, line_within}
use Rattle.y4m.specs.Planes.{IsVideoCut}
use Rattle.y4m.proofs.Spelling.{through_other}

abbrev Other : ℕ → Type 0
Other b = b ≢ 10

-- the place of the first newline, or the length
abbrev place_in : List ℕ → ℕ
place_in bytes = position_or_len (λ b. b == 10) bytes

place_ten : (b : ℕ) (bytes : List ℕ) → b ≡ 10 → place_in (b ∷ bytes) ≡ 0
place_ten b bytes ten = grind (arith, nat_tests)

place_other : (b : ℕ) (bytes : List ℕ) → b ≢ 10 → place_in (b ∷ bytes) ≡ suc (place_in bytes)
place_other b bytes other = grind (arith, nat_tests)

through_ten : (b : ℕ) (bytes : List ℕ) → b ≡ 10 → through_newline (b ∷ bytes) ≡ b ∷ []
through_ten b bytes ten = grind (arith, nat_tests)

-- a line reaches through the newline
through_place : (bytes : List ℕ) → through_newline bytes ≡ take (suc (place_in bytes)) bytes
through_place [] = refl
through_place (b ∷ bytes) = elim (cases_eq b 10) [
  | inl ten ↦ through_ten b bytes ten ∙ sym (ap (λ (n : ℕ). take (suc n) (b ∷ bytes)) (place_ten b bytes ten))
  | inr other ↦
      through_other b bytes other
      ∙ ap (λ (l : List ℕ). b ∷ l) (through_place bytes)
      ∙ sym (ap (λ (n : ℕ). take (suc n) (b ∷ bytes)) (place_other b bytes other))
]

-- none stands before it
free_place : (bytes : List ℕ) → NoNewline (take (place_in bytes) bytes)
free_place [] = All-nil Other
free_place (b ∷ bytes) = elim (cases_eq b 10) [
  | inl ten ↦ subst (λ (n : ℕ). NoNewline (take n (b ∷ bytes))) (sym (place_ten b bytes ten)) (All-nil Other)
  | inr other ↦
      subst (λ (n : ℕ). NoNewline (take n (b ∷ bytes))) (sym (place_other b bytes other))
      (All-cons Other b (take (place_in bytes) bytes) other (free_place bytes))
]

by_test : (n at : ℕ) (t : Bool) → cond t (Some n) None ≡ Some at → n ≡ at
by_test n at true is = cc
by_test n at false is = absurd (cc)

place_some : (bytes : List ℕ) (at : ℕ) → position (λ b. b == 10) bytes ≡ Some at → place_in bytes ≡ at
place_some bytes at is = by_test (place_in bytes) at (nat_lt (place_in bytes) (length bytes)) is

past_all : (n m : ℕ) → cond (nat_lt n m) (Some n) None ≡ None → m ≤ n
past_all n m is = grind (arith, nat_tests)

-- where none is found, there is none
pub none_in : (bytes : List ℕ) → position (λ b. b == 10) bytes ≡ None → NoNewline bytes
none_in bytes is =
    let le : length bytes ≤ place_in bytes = past_all (place_in bytes) (length bytes) is in
    subst NoNewline (take_all (place_in bytes) bytes le) (free_place bytes)

-- a line goes on after bytes without a newline
pub through_past : (xs ys : List ℕ) → NoNewline xs → through_newline (xs ++ ys) ≡ xs ++ through_newline ys
through_past [] ys none = refl
through_past (b ∷ xs) ys none =
    through_other b (xs ++ ys) (All-head Other b xs none)
    ∙ ap (λ (l : List ℕ). b ∷ l) (through_past xs ys (All-tail Other b xs none))

-- and ends with the first
through_within : (xs ys : List ℕ) → place_in xs < length xs → through_newline (xs ++ ys) ≡ through_newline xs
through_within [] ys lt = absurd (omega arith)
through_within (b ∷ xs) ys lt = elim (cases_eq b 10) [
  | inl ten ↦ through_ten b (xs ++ ys) ten ∙ sym (through_ten b xs ten)
  | inr other ↦
      through_other b (xs ++ ys) other
      ∙ ap (λ (l : List ℕ). b ∷ l) (through_within xs ys (omega (arith, lt, place_other b xs other)))
      ∙ sym (through_other b xs other)
]

-- the first k bytes have come, of the n that a line may have
module _ (left came : List ℕ) (k n : ℕ) (same : came ≡ take k left) (le : k ≤ n) where
  parts : line_within n left ≡ through_newline (came ++ take (n - k) (drop k left))
  parts =
      let split : n ≡ k + (n - k) = omega arith in
      ap (λ (m : ℕ). line_within m left) split
      ∙ ap through_newline (take-add k (n - k) left)
      ∙ ap (λ (l : List ℕ). through_newline (l ++ take (n - k) (drop k left))) (sym same)

  -- with a newline among them
  pub ends_within : (at : ℕ) → position (λ b. b == 10) came ≡ Some at → at < length came
      → take (at + 1) came ≡ line_within n left
  ends_within at is lt =
      let place : place_in came ≡ at = place_some came at is in
      let next : at + 1 ≡ suc (place_in came) = omega (arith, place) in
      ap (λ (m : ℕ). take m came) next
      ∙ sym (through_place came)
      ∙ sym (through_within came (take (n - k) (drop k left)) (omega (arith, place, lt)))
      ∙ sym parts

  -- without one the line goes on
  pub goes_past : NoNewline came → came ++ line_within (n - k) (drop k left) ≡ line_within n left
  goes_past none = sym (through_past came (take (n - k) (drop k left)) none) ∙ sym parts

  -- or the video ends
  pub ends_all : NoNewline came → k ≡ length left → came ≡ line_within n left
  ends_all none all =
      let nothing : drop k left ≡ [] = drop_of_length-le left (omega (arith, all)) in
      sym (append-nil came)
      ∙ ap (λ (l : List ℕ). came ++ l) (sym (ap (λ (l : List ℕ). line_within (n - k) l) nothing
      ∙ ap through_newline (take-nil (n - k))))
      ∙ goes_past none

-- the first k bytes of the buffer are the video's, and what followed was read after them
module _ (buf left : List ℕ) (k n : ℕ) (same : take k buf ≡ take k left) (le : k ≤ n)
    (none : NoNewline (take k buf)) where
  pub goes_on : (more after : List ℕ) (least j m : ℕ) → k ≡ least → k ≤ length buf → j ≤ length more → m ≡ n - k
      → take j more ≡ line_within m (drop k left)
      → take (least + j) (take least buf ++ (more ++ after)) ≡ line_within n left
  goes_on more after least j m is there within size rest =
      let long : least ≡ length (take least buf) = omega (arith, length-take least buf, is, there) in
      ap (λ (i : ℕ). take (i + j) (take least buf ++ (more ++ after))) long
      ∙ take-append-add (take least buf) (more ++ after) j
      ∙ ap (λ (l : List ℕ). take least buf ++ l) (take-append-le j more after within ∙ rest
      ∙ ap (λ (i : ℕ). line_within i (drop k left)) size)
      ∙ ap (λ (i : ℕ). take i buf ++ line_within (n - k) (drop k left)) (sym is)
      ∙ goes_past left (take k buf) k n same le none

-- where the least number of bytes was asked for, as many are gone, or all
pub gone_is : (left : List ℕ) (k len least : ℕ) → k ≤ least → (k < least → k ≡ length left) → len ≤ least
    → drop k left ≡ drop (max len least) left
gone_is left k len least le ends short =
    let most : max len least ≡ least = omega arith in
    elim (cases_lt k least) [
      | inl lt ↦
          drop_of_length-le left (omega (arith, ends lt))
          ∙ sym (drop_of_length-le left (omega (arith, ends lt, most)))
      | inr ge ↦ let e : k ≡ max len least = omega (arith, most) in ap (λ (m : ℕ). drop m left) e
    ]

-- what was gone when a read failed after them
pub cut_past : (left : List ℕ) (k : ℕ) (now : Option (List ℕ)) → NoNewline (take k left)
    → IsVideoCut 0 (drop k left) now
    → IsVideoCut k left now
cut_past left k now none cut = record {
  taken = k + cut.taken;
  gone = cut.gone ∙ ap (λ (l : List ℕ). Some l) (drop-drop cut.taken k left);
  free = λ _. subst NoNewline (sym (take-add k cut.taken left))
      (All-append Other (take k left) (take cut.taken (drop k left)) none (cut.free (omega arith)));
}
