-- Bytes of the video that came to a buffer.
use Rattle.std.proofs.Common.{◌≡◌, ◌≢◌, ℕ, zero, suc, ◌+◌, ◌-◌, ◌<◌, ◌==◌, ◌++◌, List, [], ◌∷◌, length, take, drop, get_or, set, Option, Some, None, MatchOption, cond, refl, sym, ap, subst, ◌∙◌, arith, append_assoc, append-nil}
use Rattle.std.proofs.Math.Seq.{take-nil, drop-nil}
use Rattle.std.proofs.lemmas.Bool.Decides.{nat_tests}
use Rattle.std.proofs.lemmas.List.{take_more_set, drop-drop}
use Rattle.h263_outside.specs.Desk.{FillsFront}
use Rattle.y4m.specs.Line.{through_newline, line_within}

-- a list with no element
pub nil_of : (xs : List ℕ) → length xs ≡ 0 → xs ≡ []
nil_of [] none = refl
nil_of (x ∷ xs) none = absurd (omega arith)

-- nothing is left of nothing
pub drop_none : (xs : List ℕ) (k m : ℕ) → xs ≡ [] → drop k xs ≡ drop m xs
drop_none xs k m none = ap (λ (l : List ℕ). drop k l) none ∙ drop-nil k ∙ sym (drop-nil m)
    ∙ ap (λ (l : List ℕ). drop m l) (sym none)

pub none_read : (left buf : List ℕ) (k : ℕ) → length buf ≡ 1 → k ≡ 0 → FillsFront left buf k → left ≡ []
none_read left buf k size none f = nil_of left (omega (arith, f.ends (omega arith)))

one_of : (left buf : List ℕ) → 0 < length left → 0 < length buf → take 1 buf ≡ take 1 left
    → left ≡ get_or buf 0 0 ∷ drop 1 left
one_of [] buf some there same = absurd (omega arith)
one_of (b ∷ left) [] some there same = absurd (omega arith)
one_of (b ∷ left) (a ∷ buf) some there same = let e : a ≡ b = cc in ap (λ (n : ℕ). n ∷ left) (sym e)

pub one_read : (left buf : List ℕ) (k : ℕ) → length buf ≡ 1 → k ≡ 1 → FillsFront left buf k
    → left ≡ get_or buf 0 0 ∷ drop 1 left
one_read left buf k size one f = one_of left buf (omega (arith, f.within)) (omega arith)
    (ap (λ (n : ℕ). take n buf) (sym one) ∙ f.same ∙ ap (λ (n : ℕ). take n left) one)

-- what a line is by its first byte, where m bytes of it may still come
abbrev pub Begins : Option ℕ → List ℕ → Type 0
Begins byte xs = MatchOption byte (xs ≡ []) (λ b. xs ≡ b ∷ drop 1 xs)

pub byte_there : (byte : Option ℕ) (b : ℕ) (xs : List ℕ) → byte ≡ Some b → Begins byte xs → xs ≡ b ∷ drop 1 xs
byte_there byte b xs is begins = subst (λ (o : Option ℕ). Begins o xs) is begins

pub no_byte : (byte : Option ℕ) (xs : List ℕ) → byte ≡ None → Begins byte xs → xs ≡ []
no_byte byte xs is begins = subst (λ (o : Option ℕ). Begins o xs) is begins

line_end : (m : ℕ) (xs : List ℕ) → xs ≡ [] → line_within m xs ≡ []
line_end m xs none = ap (λ (l : List ℕ). line_within m l) none ∙ ap through_newline (take-nil m)

line_cons : (m b : ℕ) (xs : List ℕ) → 0 < m → line_within m (b ∷ xs) ≡ b ∷ cond (b == 10) [] (line_within (m - 1) xs)
line_cons zero b xs some = absurd (omega arith)
line_cons (suc m) b xs some = let e : suc m - 1 ≡ m = omega arith in
    ap (λ (n : ℕ). b ∷ cond (b == 10) [] (line_within n xs)) (sym e)

line_last : (m b : ℕ) (xs : List ℕ) → 0 < m → xs ≡ b ∷ drop 1 xs → b ≡ 10 → line_within m xs ≡ b ∷ []
line_last m b xs some is ten = ap (λ (l : List ℕ). line_within m l) is ∙ line_cons m b (drop 1 xs) some
    ∙ (grind (arith, nat_tests))

line_next : (m b : ℕ) (xs : List ℕ) → 0 < m → xs ≡ b ∷ drop 1 xs → b ≢ 10
    → line_within m xs ≡ b ∷ line_within (m - 1) (drop 1 xs)
line_next m b xs some is other = ap (λ (l : List ℕ). line_within m l) is ∙ line_cons m b (drop 1 xs) some
    ∙ (grind (arith, nat_tests))

-- a line in the middle of its reading: i bytes have come
module _ (line left : List ℕ) (i : ℕ) (all : List ℕ) (so_far : take i line
    ++ line_within (length line - i) (drop i left) ≡ all) where
  pub ends_before : drop i left ≡ [] → take i line ≡ all
  ends_before none = sym (append-nil (take i line))
      ∙ ap (λ (l : List ℕ). take i line ++ l) (sym (line_end (length line - i) (drop i left) none)) ∙ so_far

  module _ (b : ℕ) (lt : i < length line) (there : drop i left ≡ b ∷ drop 1 (drop i left)) where
    pub ends_here : b ≡ 10 → take (i + 1) (set line i b) ≡ all
    ends_here ten =
        take_more_set line i b lt
        ∙ ap (λ (l : List ℕ). take i line
        ++ l) (sym (line_last (length line - i) b (drop i left) (omega arith) there ten))
        ∙ so_far

    pub goes_on : b ≢ 10 → take (i + 1) (set line i b) ++ line_within (length line - (i + 1)) (drop (i + 1) left) ≡ all
    goes_on other =
        let size : length line - (i + 1) ≡ length line - i - 1 = omega arith in
        (λ j. take_more_set line i b lt j ++ line_within (size j) (sym (drop-drop 1 i left) j))
        ∙ append_assoc (take i line) (b ∷ []) (line_within (length line - i - 1) (drop 1 (drop i left)))
        ∙ ap (λ (l : List ℕ). take i line
        ++ l) (sym (line_next (length line - i) b (drop i left) (omega arith) there other))
        ∙ so_far
