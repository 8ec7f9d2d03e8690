-- The tags of a line, one place after the other.
use Rattle.std.proofs.Common.{◌≡◌, ℕ, ◌+◌, ◌-◌, ◌<◌, ◌==◌, ◌&&◌, nat_lt, Bool, true, false, List, [], ◌∷◌, length, take, drop, get_or, Option, Some, None, cond, refl, sym, ap, ◌∙◌, arith, add-one}
use Rattle.std.proofs.lemmas.Bool.Decides.{nat_tests}
use Rattle.std.proofs.Math.Seq.{drop-cons}
use Rattle.y4m.specs.Line.{Tag, is_gap, before_gap, tag_after, with_tag, tags_from}
use Rattle.y4m.specs.Head.{or_else}

gap_cases : (gap : Bool) (b : ℕ) (bytes : List ℕ) → before_gap bytes ≡ take (length (before_gap bytes)) bytes
    → cond gap [] (b ∷ before_gap bytes) ≡ take (length (cond gap [] (b ∷ before_gap bytes))) (b ∷ bytes)
gap_cases true b bytes is = refl
gap_cases false b bytes is = ap (λ (l : List ℕ). b ∷ l) is

before_gap-take : (bytes : List ℕ) → before_gap bytes ≡ take (length (before_gap bytes)) bytes
before_gap-take [] = refl
before_gap-take (b ∷ bytes) = gap_cases (is_gap b) b bytes (before_gap-take bytes)

-- a tag stands after a space and ends before a gap
pub tag_found : (before n : ℕ) (bytes : List ℕ) → before ≡ 32 → n ≡ length (before_gap bytes) → 0 < n → n < length bytes
    → tag_after before bytes ≡ Some (take n bytes)
tag_found before n bytes space is some short =
    found before (length (before_gap bytes)) (length bytes) (before_gap bytes) space (omega arith) (omega arith)
    ∙ ap (λ (l : List ℕ). Some l) (before_gap-take bytes)
    ∙ ap (λ (m : ℕ). Some (take m bytes)) (sym is)
  where
    found : (before n size : ℕ) (text : List ℕ) → before ≡ 32 → 0 < n → n < size
        → cond (before == 32 && nat_lt 0 n && nat_lt n size) (Some text) None ≡ Some text
    found before n size text space some short = grind (arith, nat_tests)

-- the tags from a place on
abbrev pub tags_at : List ℕ → ℕ → List Tag
tags_at line at = tags_from at (get_or line (at - 1) 0) (drop at line)

tags_next : (line : List ℕ) (at : ℕ) → at < length line
    → tags_at line at ≡ with_tag at (tag_after (get_or line (at - 1) 0) (drop at line)) (tags_at line (at + 1))
tags_next line at lt =
    let b = get_or line at 0 in
    let back : at + 1 - 1 ≡ at = omega arith in
    let there : drop at line ≡ b ∷ drop (at + 1) line = rw (add-one) (drop-cons line at 0 lt) in
    ap (λ (l : List ℕ). tags_from at (get_or line (at - 1) 0) l) there
    ∙ (λ j. with_tag at (tag_after (get_or line (at - 1) 0) (sym there j))
    (tags_from (at + 1) (get_or line (sym back j) 0) (drop (at + 1) line)))

pub tags_none : (line : List ℕ) (at : ℕ) → at < length line → tag_after (get_or line (at - 1) 0) (drop at line) ≡ None
    → tags_at line at ≡ tags_at line (at + 1)
tags_none line at lt is = tags_next line at lt
    ∙ ap (λ (tag : Option (List ℕ)). with_tag at tag (tags_at line (at + 1))) is

pub tags_some : (line text : List ℕ) (at : ℕ) → at < length line → tag_after (get_or line (at - 1) 0) (drop at line)
    ≡ Some text → tags_at line at ≡ record { at = at; text = text } ∷ tags_at line (at + 1)
tags_some line text at lt is = tags_next line at lt
    ∙ ap (λ (tag : Option (List ℕ)). with_tag at tag (tags_at line (at + 1))) is

pub or_else-or_else : {A : Type 0} → (a b c : Option A) → or_else (or_else a b) c ≡ or_else a (or_else b c)
or_else-or_else None b c = refl
or_else-or_else (Some x) b c = refl
