-- The tags of words that are spelled one after the other.
use Rattle.std.proofs.Common.{◌≡◌, ◌≢◌, ℕ, zero, suc, ◌+◌, ◌<◌, Bool, true, false, cond, List, [], ◌∷◌, ◌++◌, length, map, Option, Some, None, refl, sym, ap, ◌∙◌, arith, append_assoc, length-append, All}
use Rattle.std.proofs.lemmas.Bool.Decides.{nat_tests}
use Rattle.std.proofs.lemmas.List.Elements.{All-head, All-tail}
use Rattle.std.proofs.Math.Seq.{take-append_seam}
use Rattle.y4m.specs.Line.{Tag, is_gap, before_gap, tag_after, with_tag, tags_from, tags_of}
use Rattle.y4m.specs.Spelled.{Word, IsHeadWord, spaces, spaced}
use Rattle.y4m.proofs.Tags.{tag_found}

abbrev texts : List Tag → List (List ℕ)
texts tags = map (λ tag. tag.text) tags

abbrev Gapless : ℕ → Type 0
Gapless b = is_gap b ≡ false

-- no tag begins at a gap, or after another byte than a space
at_gap : (before b : ℕ) (bytes : List ℕ) → is_gap b ≡ true → tag_after before (b ∷ bytes) ≡ None
at_gap before b bytes gap = grind (arith, nat_tests)

after_other : (before : ℕ) (bytes : List ℕ) → before ≢ 32 → tag_after before bytes ≡ None
after_other before bytes other = grind (arith, nat_tests)

pass_gap : (at before b : ℕ) (bytes : List ℕ) → is_gap b ≡ true → tags_from at before (b ∷ bytes)
    ≡ tags_from (at + 1) b bytes
pass_gap at before b bytes gap = ap (λ (o : Option (List ℕ)). with_tag at o (tags_from (at + 1) b bytes))
    (at_gap before b bytes gap)

gapless_other : (b : ℕ) → is_gap b ≡ false → b ≢ 32
gapless_other b gap = λ is. meets b is gap
  where
    meets : (b : ℕ) → b ≡ 32 → is_gap b ≡ false → ⊥
    meets b is gap = let yes : is_gap b ≡ true = grind (arith, nat_tests) in cc (sym yes ∙ gap)

pass_other : (at before b : ℕ) (bytes : List ℕ) → before ≢ 32 → tags_from at before (b ∷ bytes)
    ≡ tags_from (at + 1) b bytes
pass_other at before b bytes other = ap (λ (o : Option (List ℕ)). with_tag at o (tags_from (at + 1) b bytes))
    (after_other before (b ∷ bytes) other)

-- what follows a word: a gap
abbrev StartsWithGap : List ℕ → Type 0
StartsWithGap [] = ⊥
StartsWithGap (b ∷ bytes) = is_gap b ≡ true

before_gap-append : (word rest : List ℕ) → All Gapless word → StartsWithGap rest → before_gap (word ++ rest) ≡ word
before_gap-append [] [] all gap = absurd gap
before_gap-append [] (b ∷ rest) all gap = ap (λ (t : Bool). cond t [] (b ∷ before_gap rest)) gap
before_gap-append (b ∷ word) rest all gap =
    ap (λ (t : Bool). cond t [] (b ∷ before_gap (word ++ rest))) (All-head Gapless b word all)
    ∙ ap (λ (l : List ℕ). b ∷ l) (before_gap-append word rest (All-tail Gapless b word all) gap)

gap_starts : (words : List Word) (n : ℕ) → StartsWithGap (spaced words n ++ 10 ∷ [])
gap_starts [] zero = refl
gap_starts [] (suc n) = refl
gap_starts (w ∷ words) n = refl

-- a word after a space is a tag
word_here : (at : ℕ) (word rest : List ℕ) → IsHeadWord word → StartsWithGap rest → tag_after 32 (word ++ rest)
    ≡ Some word
word_here at word rest is gap =
    let size : length word ≡ length (before_gap (word ++ rest)) = ap (λ (l : List ℕ). length l)
    (sym (before_gap-append word rest is.gapless gap)) in
    tag_found 32 (length word) (word ++ rest) refl size is.some (omega (
      arith,
      length-append word rest,
      longer rest gap,
    ))
    ∙ ap (λ (l : List ℕ). Some l) (take-append_seam word rest)
  where
    longer : (rest : List ℕ) → StartsWithGap rest → 0 < length rest
    longer [] gap = absurd gap
    longer (b ∷ rest) gap = omega arith

-- no tag begins within a word
passed : (bytes rest : List ℕ) (found : List (List ℕ)) → All Gapless bytes
    → ((at before : ℕ) → texts (tags_from at before rest) ≡ found) → (at before : ℕ) → before ≢ 32
    → texts (tags_from at before (bytes ++ rest)) ≡ found
passed [] rest found all after at before other = after at before
passed (b ∷ bytes) rest found all after at before other =
    ap texts (pass_other at before b (bytes ++ rest) other)
    ∙ passed bytes rest found (All-tail Gapless b bytes all) after (at + 1) b
    (gapless_other b (All-head Gapless b bytes all))

word_found : (word rest : List ℕ) (found : List (List ℕ)) → IsHeadWord word → StartsWithGap rest
    → ((at before : ℕ) → texts (tags_from at before rest) ≡ found) → (at : ℕ) → texts (tags_from at 32 (word ++ rest))
    ≡ word ∷ found
word_found [] rest found is gap after at = absurd (omega (arith, is.some))
word_found (b ∷ word) rest found is gap after at =
    ap (λ (o : Option (List ℕ)). texts (with_tag at o (tags_from (at + 1) b (word ++ rest))))
    (word_here at (b ∷ word) rest is gap)
    ∙ ap (λ (l : List (List ℕ)). (b ∷ word) ∷ l) (passed word rest found (All-tail Gapless b word is.gapless) after
    (at + 1) b (gapless_other b (All-head Gapless b word is.gapless)))

spaces_passed : (n : ℕ) (rest : List ℕ) (found : List (List ℕ)) → ((at : ℕ) → texts (tags_from at 32 rest) ≡ found)
    → (at : ℕ) → texts (tags_from at 32 (spaces n ++ rest)) ≡ found
spaces_passed zero rest found after at = after at
spaces_passed (suc n) rest found after at = ap texts (pass_gap at 32 32 (spaces n ++ rest) refl)
    ∙ spaces_passed n rest found after (at + 1)

end_passed : (n at before : ℕ) → texts (tags_from at before (spaces n ++ 10 ∷ [])) ≡ []
end_passed zero at before = ap texts (pass_gap at before 10 [] refl)
end_passed (suc n) at before = ap texts (pass_gap at before 32 (spaces n ++ 10 ∷ []) refl) ∙ end_passed n (at + 1) 32

abbrev Good : Word → Type 0
Good w = IsHeadWord w.text

words_found : (words : List Word) (n : ℕ) → All Good words → (at before : ℕ)
    → texts (tags_from at before (spaced words n ++ 10 ∷ [])) ≡ map (λ w. w.text) words
words_found [] n all at before = end_passed n at before
words_found (w ∷ words) n all at before =
    let rest = spaced words n ++ 10 ∷ [] in
    let text : (spaces w.more ++ (w.text ++ spaced words n)) ++ 10 ∷ [] ≡ spaces w.more ++ (w.text ++ rest) =
    append_assoc (spaces w.more) (w.text ++ spaced words n) (10 ∷ [])
    ∙ ap (λ (l : List ℕ). spaces w.more ++ l) (append_assoc w.text (spaced words n) (10 ∷ [])) in
    ap texts (pass_gap at before 32 ((spaces w.more ++ (w.text ++ spaced words n)) ++ 10 ∷ []) refl)
    ∙ ap (λ (l : List ℕ). texts (tags_from (at + 1) 32 l)) text
    ∙ spaces_passed w.more (w.text ++ rest) (w.text ∷ map (λ w. w.text) words)
    (word_found w.text rest (map (λ w. w.text) words) (All-head Good w words all) (gap_starts words n)
    (words_found words n (All-tail Good w words all)))
    (at + 1)

pub tags_found : (word : List ℕ) (words : List Word) (n : ℕ) → IsHeadWord word → All Good words
    → texts (tags_of (word ++ spaced words n ++ 10 ∷ [])) ≡ map (λ w. w.text) words
tags_found word words n is all =
    let other : 0 ≢ 32 = λ e. omega (arith, e) in
    ap (λ (l : List ℕ). texts (tags_from 0 0 l)) (append_assoc word (spaced words n) (10 ∷ []))
    ∙ passed word (spaced words n ++ 10 ∷ []) (map (λ w. w.text) words) is.gapless (words_found words n all) 0 0 other
