-- The line of a verdict tells which verdict it is.
use Rattle.std.proofs.Common.{◌≡◌, ℕ, suc, ◌+◌, ◌%◌, ◌^◌, ◌<◌, ◌≤◌, Bool, true, false, List, [], ◌∷◌, ◌++◌, length, Option, Some, None, Result, Ok, Err, refl, sym, ap, subst, ◌∙◌, arith, eqb, if◌then◌else◌}
use Rattle.std.specs.Prelude.{⊤, codes, decimal, not, slice_index}
use Rattle.std.specs.Option.{option_map}
use Rattle.std.proofs.lemmas.Bool.{eq-eqb, ne_eqb}
use Rattle.std.proofs.lemmas.Fmt.{decimal_by_steps, decimal_injective}
use Rattle.std.proofs.lemmas.List.{append_assoc, append_cancel_left, append_cancel_right}
use Rattle.call_model.specs.Coding.{Rules, period, Piece, Message, Decoding}
use Rattle.stream_audit.specs.declared.verdict.Broken.{Broken}
use Rattle.stream_audit.specs.declared.verdict.Rule.{Rule}
use Rattle.stream_audit.specs.declared.verdict.Rule.TheVariants as rule
use Rattle.stream_audit.specs.declared.verdict.Verdict.{Verdict}
use Rattle.stream_audit.specs.declared.verdict.Verdict.TheVariants.{Yes, No}
use Rattle.stream_audit.specs.Stream.{Fed, Feedback, Item, LogEntry, StreamPart, Picture, Sent, begun_by, is_of_piece, last_picture, pictures_in, stream_of, items_with_bytes, items_with_part}
use Rattle.h263_types.specs.Texts.{newline}
use Rattle.stream_audit.specs.Text.{number_told, verdict_line, rule_word}
use Rattle.stream_audit.specs.Verdict.{broken_at, broken_by, broken_in, broken_within, first_broken, first_broken_of, item_has_reference, last_is_whole, present, verdict_by, verdict_of}

-- ---- a number ends where another byte stands

-- no byte of a list is this one
abbrev LacksByte : ℕ → List ℕ → Type 0
LacksByte b [] = ⊤
LacksByte b (c ∷ cs) = (eqb c b ≡ false) × LacksByte b cs

-- the list before the first such byte, and after it
before : ℕ → List ℕ → List ℕ
before b [] = []
before b (c ∷ cs) = if eqb c b then [] else c ∷ before b cs

after : ℕ → List ℕ → List ℕ
after b [] = []
after b (c ∷ cs) = if eqb c b then cs else after b cs

before_is : (b : ℕ) (ds x : List ℕ) → LacksByte b ds → before b (ds ++ b ∷ x) ≡ ds
unfolding before
before_is b [] x lacks = rw (eq-eqb b b refl) refl
before_is b (c ∷ ds) x lacks = rw lacks.0 (ap (λ (l : List ℕ). c ∷ l) (before_is b ds x lacks.1))

after_is : (b : ℕ) (ds x : List ℕ) → LacksByte b ds → after b (ds ++ b ∷ x) ≡ x
unfolding after
after_is b [] x lacks = rw (eq-eqb b b refl) refl
after_is b (c ∷ ds) x lacks = rw lacks.0 (after_is b ds x lacks.1)

lacks_push : (b : ℕ) (ds : List ℕ) (c : ℕ) → LacksByte b ds → eqb c b ≡ false → LacksByte b (ds ++ c ∷ [])
lacks_push b [] c lacks other = (other, tt)
lacks_push b (d ∷ ds) c lacks other = (lacks.0, lacks_push b ds c lacks.1 other)

-- a digit is no space
no_space : (d : ℕ) → eqb (48 + d) 32 ≡ false
no_space d = ne_eqb (48 + d) 32 (λ (e : 48 + d ≡ 32). omega (arith, e))

digits_alone : (n : ℕ) → n < 2 ^ 64 → LacksByte 32 (decimal n)
digits_alone n small =
    decimal_by_steps (λ n ds. LacksByte 32 ds) (λ n one. (no_space n, tt)) (λ n ds more lacks. lacks_push 32 ds
    (48 + n % 10) lacks (no_space (n % 10))) n small

-- ---- a line

rule_by : List ℕ → Rule
rule_by word =
    if eqb (slice_index word 0) 112 then rule.Packet
    else if eqb (slice_index word 0) 110 then rule.Number
    else if eqb (slice_index word 0) 104 then rule.Header
    else if eqb (slice_index word 0) 111 then rule.Overlap
    else if eqb (slice_index word 0) 103 then rule.Gap
    else rule.Reference

rule_again : (r : Rule) → rule_by (rule_word r) ≡ r
unfolding rule_by
rule_again rule.Packet = refl
rule_again rule.Number = refl
rule_again rule.Header = refl
rule_again rule.Overlap = refl
rule_again rule.Gap = refl
rule_again rule.Reference = refl

yes_line : (n : ℕ) → verdict_line (Yes n) ≡ codes "yes pictures " ++ (decimal n ++ newline)
yes_line n = append_assoc (codes "yes pictures ") (decimal n) newline

no_line : (n : ℕ) (r : Rule) → verdict_line (No n r) ≡ codes "no " ++ (decimal n ++ (32 ∷ (rule_word r ++ newline)))
no_line n r =
    append_assoc (((codes "no " ++ decimal n)) ++ codes " ") (rule_word r) newline
    ∙ append_assoc (codes "no " ++ decimal n) (codes " ") (rule_word r ++ newline)
    ∙ append_assoc (codes "no ") (decimal n) (codes " " ++ (rule_word r ++ newline))

other_line : (n m : ℕ) (r : Rule) → verdict_line (Yes n) ≡ verdict_line (No m r) → ⊥
other_line n m r e =
    let first : 121 ≡ 110 = ap (λ (l : List ℕ). slice_index l 0) (sym (yes_line n) ∙ e ∙ no_line m r) in
    absurd (omega (arith, first))

pub lines_tell : (v w : Verdict) → number_told v < 2 ^ 64 → number_told w < 2 ^ 64 → verdict_line v ≡ verdict_line w
    → v ≡ w
lines_tell (Yes n) (Yes m) small also e =
    let rests = append_cancel_left (codes "yes pictures ") (decimal n ++ newline) (decimal m ++ newline)
    (sym (yes_line n) ∙ e ∙ yes_line m) in
    ap Yes (decimal_injective n m small also (append_cancel_right (decimal n) (decimal m) newline rests))
lines_tell (Yes n) (No m r) small also e = absurd (other_line n m r e)
lines_tell (No n r) (Yes m) small also e = absurd (other_line m n r (sym e))
lines_tell (No n r) (No m s) small also e =
    let rests = append_cancel_left (codes "no ") (decimal n ++ (32 ∷ (rule_word r ++ newline))) (decimal m
    ++ (32 ∷ (rule_word s ++ newline))) (sym (no_line n r) ∙ e ∙ no_line m s) in
    let numbers : decimal n ≡ decimal m =
    sym (before_is 32 (decimal n) (rule_word r ++ newline) (digits_alone n small)) ∙ ap (before 32) rests
    ∙ before_is 32 (decimal m) (rule_word s ++ newline) (digits_alone m also)
    in
    let words : rule_word r ++ newline ≡ rule_word s ++ newline =
    sym (after_is 32 (decimal n) (rule_word r ++ newline) (digits_alone n small)) ∙ ap (after 32) rests
    ∙ after_is 32 (decimal m) (rule_word s ++ newline) (digits_alone m also)
    in
    let same : r ≡ s = sym (rule_again r) ∙ ap rule_by (append_cancel_right (rule_word r) (rule_word s) newline words)
    ∙ rule_again s in
    ap (λ (k : ℕ). No k r) (decimal_injective n m small also numbers) ∙ ap (No m) same

-- ---- the number in the verdict on a log

-- it is within a bound, where a rule is broken
abbrev Within : ℕ → Option Broken → Type 0
Within most o = (b : Broken) → o ≡ Some b → b.number ≤ most

within_some : (most : ℕ) (x : Broken) → x.number ≤ most → Within most (Some x)
within_some most x few b is = let same : x ≡ b = cc in subst (λ (y : Broken). y.number ≤ most) same few

within_none : (most : ℕ) → Within most None
within_none most b is = absurd (cc is)

within_if : (most : ℕ) (t : Bool) (x y : Option Broken) → Within most x → Within most y
    → Within most (if t then x else y)
within_if most true x y one two = one
within_if most false x y one two = two

within_at : (most n : ℕ) (o : Option Rule) → n ≤ most → Within most (option_map (broken_at n) o)
within_at most n None few = within_none most
within_at most n (Some r) few = within_some most (broken_at n r) few

within_first : (most : ℕ) (x y : Option Broken) → Within most x → Within most y → Within most (first_broken_of x y)
within_first most None y one two = two
within_first most (Some x) y one two = one

module _ {Style Mb P Fault MessageFault : Type 0} (decoding : Decoding Style Mb P Fault) (read : List ℕ
    → Result Message MessageFault) (rules : Rules) where
  going : (items : List (Item Style Mb)) → present items ≤ pictures_in items
  going items = omega arith

  packet_within : (items : List (Item Style Mb)) (r : Result (Piece Style Mb) Fault)
      → Within (pictures_in items) (broken_by decoding read rules items r)
  packet_within items (Err fault) = within_some (pictures_in items) (broken_at (present items) rule.Packet)
      (going items)
  packet_within items (Ok piece) =
      let most = pictures_in items in
      let n : most ≤ most = omega arith in
      within_if most (not (eqb piece.header.half rules.half)) (Some (broken_at (present items) rule.Packet)) _
      (within_some most (broken_at (present items) rule.Packet) (going items))
      (within_if most (is_of_piece (last_picture items) piece) _ _
      (within_at most (present items) (broken_within decoding read rules (last_picture items) piece) (going items))
      (within_if most (not (last_is_whole rules items)) (Some (broken_at (present items) rule.Gap)) _
      (within_some most (broken_at (present items) rule.Gap) (going items))
      (within_if most (not (eqb piece.header.number (pictures_in items % period rules)))
      (Some (broken_at most rule.Number)) _ (within_some most (broken_at most rule.Number) n)
      (within_if most (not (item_has_reference decoding read rules items piece.header))
      (Some (broken_at most rule.Reference)) None (within_some most (broken_at most rule.Reference) n)
      (within_none most)))))

  count_stays : (items : List (Item Style Mb)) (part : StreamPart Style Mb) → pictures_in (items_with_part items part)
      ≡ pictures_in items
  count_stays [] part = refl
  count_stays (Picture p ∷ items) part = refl
  count_stays (Feedback bytes ∷ items) part = count_stays items part

  one_more : (t : Bool) (items : List (Item Style Mb)) (part : StreamPart Style Mb)
      → pictures_in (if t then items_with_part items part else Picture (begun_by part) ∷ items) ≤ pictures_in items + 1
  one_more true items part = omega (arith, count_stays items part)
  one_more false items part = omega arith

  bytes_more : (items : List (Item Style Mb)) (bytes : List ℕ) (r : Result (Piece Style Mb) Fault)
      → pictures_in (items_with_bytes decoding items bytes r) ≤ pictures_in items + 1
  bytes_more items bytes (Ok piece) = let part : StreamPart Style Mb = record { bytes = bytes; piece = piece } in
      one_more (is_of_piece (last_picture items) piece) items part
  bytes_more items bytes (Err fault) = omega arith

  pub few_pictures : (log : List LogEntry) → pictures_in (stream_of decoding log) ≤ length log
  few_pictures [] = omega arith
  few_pictures (Sent bytes ∷ past) = let r = few_pictures past in
      let more = bytes_more (stream_of decoding past) bytes (decoding.read bytes) in omega (arith, r, more)
  few_pictures (Fed bytes ∷ past) = let r = few_pictures past in omega (arith, r)

  widen : (n m : ℕ) (o : Option Broken) → n ≤ m → Within n o → Within m o
  widen n m o le within b is = let few = within b is in omega (arith, le, few)

  entry_within : (items : List (Item Style Mb)) (e : LogEntry)
      → Within (pictures_in items) (broken_in decoding read rules items e)
  entry_within items (Sent bytes) = packet_within items (decoding.read bytes)
  entry_within items (Fed bytes) = within_none (pictures_in items)

  first_within : (log : List LogEntry) → Within (length log) (first_broken decoding read rules log)
  first_within [] = within_none 0
  first_within (e ∷ past) =
      within_first (suc (length past)) (first_broken decoding read rules past)
      (broken_in decoding read rules (stream_of decoding past) e)
      (widen (length past) (suc (length past)) (first_broken decoding read rules past) (omega arith)
      (first_within past))
      (widen (pictures_in (stream_of decoding past)) (suc (length past))
      (broken_in decoding read rules (stream_of decoding past) e) (omega (arith, few_pictures past))
      (entry_within (stream_of decoding past) e))

  closing_within : (items : List (Item Style Mb)) (t : Bool)
      → number_told (if t then Yes (pictures_in items) else No (present items) rule.Gap) ≤ pictures_in items
  closing_within items true = omega arith
  closing_within items false = going items

  verdict_within : (log : List LogEntry) (o : Option Broken) → first_broken decoding read rules log ≡ o
      → number_told (verdict_by decoding read rules o (stream_of decoding log)) ≤ length log
  verdict_within log None is = let c = closing_within (stream_of decoding log)
      (last_is_whole rules (stream_of decoding log)) in omega (arith, c, few_pictures log)
  verdict_within log (Some b) is = first_within log b is

  pub few_in_verdict : (log : List LogEntry) → number_told (verdict_of decoding read rules log) ≤ length log
  few_in_verdict log = verdict_within log (first_broken decoding read rules log) refl
