-- Where the faults of frames stand.
use Rattle.std.proofs.Common.{◌≡◌, ◌≢◌, ℕ, ◌+◌, ◌-◌, ◌<◌, ◌≤◌, ◌==◌, ◌&&◌, nat_lt, nat_le, min, Bool, true, false, cond, inl, inr, List, [], ◌∷◌, ◌⊎◌, length, take, drop, get_or, codes, Option, Some, None, Ok, Err, refl, sym, ap, ◌∙◌, arith, length-take}
use Rattle.std.proofs.lemmas.Bool.{cases_lt, cases_eq}
use Rattle.std.proofs.lemmas.Bool.Decides.{nat_tests}
use Rattle.std.proofs.lemmas.List.Elements.{All-nil, All-cons, All-head, All-tail}
use Rattle.h263_types.specs.declared.format.Format.{Format}
use Rattle.h263_types.specs.Sizes.{size_of_picture}
use Rattle.y4m.specs.declared.fault.Y4mFault.TheVariants.{NotY4m, ShortFrame}
use Rattle.h263_outside.specs.Lines.{NoNewline}
use Rattle.y4m.specs.Line.{agreement, through_newline, is_line_whole}
use Rattle.y4m.specs.Frame.{frame_line, line_stop, stop_fault, planes_of, frame_after_line, frame_of}
use Rattle.y4m.proofs.Spelling.{last_cons, through_other, other_heads, same_heads_as}
use Rattle.y4m.proofs.Videos.{free}

abbrev last_of : List ℕ → ℕ
last_of line = get_or line (length line - 1) 0

-- a line without its newline is all there is
open_cons : (b : ℕ) (line bytes : List ℕ) → (last_of line ≢ 10 → line ≡ bytes) → last_of (b ∷ line) ≢ 10
    → b ∷ line ≡ b ∷ bytes
open_cons b [] bytes more other = ap (λ (l : List ℕ). b ∷ l) (more (λ e. omega (arith, e)))
open_cons b (y ∷ line) bytes more other = ap (λ (l : List ℕ). b ∷ l)
    (more (λ ten. other (last_cons b (y ∷ line) (omega arith) ∙ ten)))

pub open_line : (bytes : List ℕ) → last_of (through_newline bytes) ≢ 10 → through_newline bytes ≡ bytes
open_line [] other = refl
open_line (b ∷ bytes) other = elim (cases_eq b 10) [
  | inl ten ↦ absurd (ended b bytes ten other)
  | inr later ↦ (let e : through_newline (b ∷ bytes) ≡ b ∷ through_newline bytes = through_other b bytes later in
      e ∙ open_cons b (through_newline bytes) bytes (open_line bytes) (λ ten. other (ap last_of e ∙ ten)))
]
  where
    ended : (b : ℕ) (bytes : List ℕ) → b ≡ 10 → last_of (through_newline (b ∷ bytes)) ≢ 10 → ⊥
    ended b bytes ten other = let one : through_newline (b ∷ bytes) ≡ 10 ∷ [] = grind (arith, nat_tests) in
        other (ap last_of one)

-- a line that agrees to its end has no newline, if the word has none
abbrev Other : ℕ → Type 0
Other b = b ≢ 10

pub agreed_free : (word line : List ℕ) → NoNewline word → agreement word line ≡ length line → length line ≤ length word
    → NoNewline line
agreed_free word [] none is le = All-nil Other
agreed_free [] (b ∷ line) none is le = absurd (omega arith)
agreed_free (a ∷ word) (b ∷ line) none is le = elim (cases_eq a b) [
  | inl same ↦ All-cons Other b line (λ ten. All-head Other a word none (same ∙ ten))
      (agreed_free word line (All-tail Other a word none) (omega (arith, is, same_heads_as a b word line same))
      (omega arith))
  | inr other ↦ absurd (omega (arith, is, other_heads a b word line other))
]

pub free_last : (line : List ℕ) → NoNewline line → last_of line ≢ 10
free_last [] none = λ e. omega (arith, e)
free_last (b ∷ []) none = All-head Other b [] none
free_last (b ∷ y ∷ line) none = λ ten. free_last (y ∷ line) (All-tail Other b (y ∷ line) none)
    (sym (last_cons b (y ∷ line) (omega arith)) ∙ ten)

-- where the line can't go on at its end
not_whole : (n b : ℕ) → n ≤ 256 → (nat_le n 256 && b == 10) ≡ false → b ≢ 10
not_whole n b le is = λ ten. meets n b le ten is
  where
    meets : (n b : ℕ) → n ≤ 256 → b ≡ 10 → (nat_le n 256 && b == 10) ≡ false → ⊥
    meets n b le ten is = let yes : (nat_le n 256 && b == 10) ≡ true = grind (arith, nat_tests) in cc (sym yes ∙ is)

open_at : (k size : ℕ) (whole : Bool) → cond (nat_lt k 6) (Some k) (cond whole None (Some (min size 256))) ≡ Some size
    → ((k < 6) × (k ≡ size)) ⊎ ((size ≤ 256) × (whole ≡ false))
open_at k size whole is = elim (cases_lt k 6) [
  | inl lt ↦ inl (lt, at_word (test k lt))
  | inr le ↦ inr (by_whole whole (sym (ap (λ (b : Bool). cond b (Some k) (cond whole None (Some (min size 256))))
      (above k le)) ∙ is))
]
  where
    test : (k : ℕ) → k < 6 → nat_lt k 6 ≡ true
    test k lt = grind (arith, nat_tests)

    above : (k : ℕ) → 6 ≤ k → nat_lt k 6 ≡ false
    above k le = grind (arith, nat_tests)

    at_word : nat_lt k 6 ≡ true → k ≡ size
    at_word e = let one : Some k
        ≡ Some size = sym (ap (λ (b : Bool). cond b (Some k) (cond whole None (Some (min size 256)))) e) ∙ is in cc one

    by_whole : (whole : Bool) → cond whole None (Some (min size 256)) ≡ Some size → (size ≤ 256) × (whole ≡ false)
    by_whole true e = absurd (cc e)
    by_whole false e = let m : min size 256 ≡ size = cc e in (omega (arith, m), refl)

stops_open : (line : List ℕ) → line_stop line ≡ Some (length line) → (length line ≤ 256) × (last_of line ≢ 10)
stops_open line is = elim (open_at (agreement (codes "FRAME") line) (length line) (is_line_whole line) is) [
  | inl p ↦ (
    omega (arith, p.0, p.1),
    free_last line (agreed_free (codes "FRAME") line (free (codes "FRAME") refl) p.1 (omega (arith, p.0, p.1))),
  )
  | inr q ↦ (q.0, not_whole (length line) (last_of line) q.0 q.1)
]

all_there : (rest : List ℕ) → line_stop (frame_line rest) ≡ Some (length (frame_line rest)) → length (frame_line rest)
    ≡ length rest
all_there rest is =
    let facts = stops_open (frame_line rest) is in
    omega (arith, facts.0, ap (λ (l : List ℕ). length l) (open_line (take 257 rest) facts.1), length-take 257 rest)

-- the fault of a line that can't go on
fault_by : (b : Bool) (at stop place : ℕ) → cond b (ShortFrame (at + stop)) (NotY4m (at + stop)) ≡ ShortFrame place
    → (b ≡ true) × (place ≡ at + stop)
fault_by true at stop place is = (refl, sym (cc is))
fault_by false at stop place is = absurd (cc is)

same_if : (a b : ℕ) → (a == b) ≡ true → a ≡ b
same_if a b is = grind (arith, nat_tests)

stop_place : (at size stop place : ℕ) → stop_fault at size stop ≡ ShortFrame place → (stop ≡ size) × (place ≡ at + stop)
stop_place at size stop place is =
    let parts = fault_by (stop == size) at stop place is in
    (same_if stop size parts.0, parts.1)

planes_place : (f : Format) (at n place : ℕ) (rest : List ℕ) → planes_of f at n rest ≡ Err (ShortFrame place)
    → place ≡ at + length rest
planes_place f at n place rest is = by (nat_lt (length rest) (n + size_of_picture f)) is
  where
    by : (b : Bool) → cond b (Err (ShortFrame (at + length rest))) (Ok (take (size_of_picture f) (drop n rest)))
        ≡ Err (ShortFrame place) → place ≡ at + length rest
    by true e = let m : at + length rest ≡ place = cc e in sym m
    by false e = absurd (cc e)

after_place : (stop : Option ℕ) (f : Format) (at place : ℕ) (rest : List ℕ) → line_stop (frame_line rest) ≡ stop
    → frame_after_line stop f at (length (frame_line rest)) rest ≡ Err (ShortFrame place) → place ≡ at + length rest
after_place None f at place rest e is = planes_place f at (length (frame_line rest)) place rest is
after_place (Some stop) f at place rest e is =
    let fault : stop_fault at (length (frame_line rest)) stop ≡ ShortFrame place = cc is in
    let parts = stop_place at (length (frame_line rest)) stop place fault in
    let open_end : line_stop (frame_line rest) ≡ Some (length (frame_line rest)) = e ∙ ap (λ (n : ℕ). Some n) parts.0 in
    omega (arith, parts.0, parts.1, all_there rest open_end)

pub short_place : (f : Format) (at place : ℕ) (rest : List ℕ) → frame_of f at rest ≡ Err (ShortFrame place)
    → place ≡ at + length rest
unfolding frame_of
short_place f at place rest is = after_place (line_stop (frame_line rest)) f at place rest refl is
