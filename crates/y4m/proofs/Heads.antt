-- What the parts of a head's line make of it.
use Rattle.std.proofs.Common.{◌≡◌, ℕ, ◌-◌, ◌<◌, ◌≤◌, Bool, true, false, nat_lt, List, length, codes, Option, Some, None, Result, Err, cond, refl, sym, ap, ◌∙◌, arith}
use Rattle.std.proofs.lemmas.Bool.Decides.{nat_tests}
use Rattle.h263_types.specs.declared.format.Format.{Format}
use Rattle.y4m.specs.declared.fault.Y4mFault.{Y4mFault}
use Rattle.y4m.specs.declared.fault.Y4mFault.TheVariants.{NotY4m}
use Rattle.y4m.specs.Line.{agreement, is_line_whole, tags_of}
use Rattle.y4m.specs.Head.{tags_fault, format_in, format_sized, format_unless, format_of_line}

below : (k : ℕ) → k ≤ 9 → nat_lt k 10 ≡ true
below k le = grind (arith, nat_tests)

above : (k : ℕ) → 9 < k → nat_lt k 10 ≡ false
above k lt = grind (arith, nat_tests)

pub no_word : (k : ℕ) (line : List ℕ) → k ≡ agreement (codes "YUV4MPEG2") line → k ≤ 9
    → format_of_line line ≡ Err (NotY4m k)
unfolding format_of_line
no_word k line is le =
    let tail = format_unless (tags_fault (tags_of line))
    (cond (is_line_whole line) (format_sized (format_in (tags_of line)) (length line - 1)) (Err (NotY4m (length line))))
    in
    (λ j. cond (nat_lt (sym is j) 10) (Err (NotY4m (sym is j))) tail)
    ∙ ap (λ (b : Bool). cond b (Err (NotY4m k)) tail) (below k le)

-- after the word
abbrev with_size : Option Y4mFault → Bool → Option Format → ℕ → Result Format Y4mFault
with_size fault whole format size = format_unless fault (cond whole (format_sized format (size - 1))
    (Err (NotY4m size)))

after : (k : ℕ) (line : List ℕ) (fault : Option Y4mFault) (whole : Bool) (format : Option Format)
    → k ≡ agreement (codes "YUV4MPEG2") line → 9 < k → tags_fault (tags_of line) ≡ fault → is_line_whole line ≡ whole
    → format_in (tags_of line) ≡ format → format_of_line line ≡ with_size fault whole format (length line)
unfolding format_of_line
after k line fault whole format is lt p q r =
    let tail = with_size (tags_fault (tags_of line)) (is_line_whole line) (format_in (tags_of line)) (length line) in
    (λ j. cond (nat_lt (sym is j) 10) (Err (NotY4m (agreement (codes "YUV4MPEG2") line))) tail)
    ∙ ap (λ (b : Bool). cond b (Err (NotY4m (agreement (codes "YUV4MPEG2") line))) tail) (above k lt)
    ∙ (λ j. with_size (p j) (q j) (r j) (length line))

pub bad_tag : (k : ℕ) (line : List ℕ) (fault : Y4mFault) → k ≡ agreement (codes "YUV4MPEG2") line → 9 < k
    → tags_fault (tags_of line) ≡ Some fault → format_of_line line ≡ Err fault
bad_tag k line fault is lt p = after k line (Some fault) (is_line_whole line) (format_in (tags_of line)) is lt p refl
    refl

pub not_whole : (k : ℕ) (line : List ℕ) → k ≡ agreement (codes "YUV4MPEG2") line → 9 < k → tags_fault (tags_of line)
    ≡ None → is_line_whole line ≡ false → format_of_line line ≡ Err (NotY4m (length line))
not_whole k line is lt p q = after k line None false (format_in (tags_of line)) is lt p q refl

-- a whole line with good tags gives the format that they say
pub whole_head : (k : ℕ) (line : List ℕ) (format : Option Format) → k ≡ agreement (codes "YUV4MPEG2") line → 9 < k
    → tags_fault (tags_of line) ≡ None → is_line_whole line ≡ true → format_in (tags_of line) ≡ format
    → format_of_line line ≡ format_sized format (length line - 1)
whole_head k line format is lt p q r = after k line None true format is lt p q r
