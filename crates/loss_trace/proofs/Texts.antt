-- A text by its first line and what stands after it.
use Rattle.std.proofs.Common.{◌≡◌, ◌≢◌, ℕ, zero, suc, ◌+◌, ◌<◌, ◌≤◌, ◌==◌, ◌++◌, Bool, true, false, cond, List, [], ◌∷◌, length, drop, All, refl, sym, ap, subst, ◌∙◌, arith, append_assoc, length-append, length-drop}
use Rattle.std.specs.List.{flat_map}
use Rattle.std.proofs.Math.Seq.{drop-append-add}
use Rattle.std.proofs.Math.ListN.{drop_of_length-le}
use Rattle.std.proofs.lemmas.List.Elements.{All-nil, All-cons, All-head, All-tail}
use borrow.Author.Tests.{ltb-true, ltb-false, eqb-true, eqb-false}
use Rattle.h263_outside.specs.Lines.{NoNewline}
use Rattle.loss_trace.specs.Lines.{first_line, is_closed, later_lines, last_line, IsText}
use Rattle.loss_trace.proofs.Firsts.{first_found, first_all}

abbrev closed_text : List (List ℕ) → List ℕ
closed_text closed = flat_map (λ line. line ++ 10 ∷ []) closed

abbrev Free : List ℕ → Type 0
Free line = NoNewline line

-- a text with a first line, and the lines after it
pub record Begins (text : List ℕ) (lines : List (List ℕ)) : Type 0 where
  pub more : List (List ℕ)
  pub first : lines ≡ first_line text ∷ more
  pub after : IsText (later_lines text) more

pub no_lines : (lines : List (List ℕ)) → lines ≡ [] → IsText [] lines
no_lines lines none = record {
  closed = [];
  end = [];
  spelled = refl;
  apart = All-nil Free;
  unclosed = All-nil (λ b. b ≢ 10);
  all = none;
}

-- a line and its newline stand first
module _ (line rest : List ℕ) (free : NoNewline line) where
  whole_first : first_line (line ++ 10 ∷ rest) ≡ line
  whole_first = first_found line rest 10 free refl

  whole_after : later_lines (line ++ 10 ∷ rest) ≡ rest
  whole_after = ap (λ (l : List ℕ). drop (length l + 1) (line ++ 10 ∷ rest)) whole_first
      ∙ drop-append-add line (10 ∷ rest) 1

-- the last line is the whole text
module _ (line : List ℕ) (free : NoNewline line) where
  end_first : first_line line ≡ line
  end_first = first_all line free

  end_after : later_lines line ≡ []
  end_after = ap (λ (l : List ℕ). drop (length l + 1) line) end_first
      ∙ drop_of_length-le line {i = length line + 1} (omega arith)

last_some : (end : List ℕ) (b : ℕ) (rest : List ℕ) → end ≡ b ∷ rest → last_line end ≡ end ∷ []
last_some end b rest is = ap last_line is ∙ ap (λ (l : List ℕ). l ∷ []) (sym is)

begins_end : (text end : List ℕ) (lines : List (List ℕ)) (b : ℕ) (rest : List ℕ) → text ≡ b ∷ rest → text ≡ end
    → NoNewline end → lines ≡ last_line end → Begins text lines
begins_end text end lines b rest some is free all =
    let first : first_line text ≡ end = ap first_line is ∙ end_first end free in
    let after : later_lines text ≡ [] = ap later_lines is ∙ end_after end free in record {
      more = [];
      first = all ∙ last_some end b rest (sym is ∙ some) ∙ ap (λ (l : List ℕ). l ∷ []) (sym first);
      after = subst (λ (l : List ℕ). IsText l []) (sym after) (no_lines [] refl);
    }

begins_closed : (text line : List ℕ) (closed : List (List ℕ)) (end : List ℕ) (lines : List (List ℕ))
    → text ≡ closed_text (line ∷ closed) ++ end → All Free (line ∷ closed) → NoNewline end → lines ≡ (line ∷ closed)
    ++ last_line end → Begins text lines
begins_closed text line closed end lines spelled apart free all =
    let rest = closed_text closed ++ end in
    let none : NoNewline line = All-head Free line closed apart in
    let whole : text ≡ line ++ 10 ∷ rest = spelled ∙ append_assoc (line ++ 10 ∷ []) (closed_text closed) end
    ∙ append_assoc line (10 ∷ []) rest in
    let first : first_line text ≡ line = ap first_line whole ∙ whole_first line rest none in
    let after : later_lines text ≡ rest = ap later_lines whole ∙ whole_after line rest none in
    let tail : IsText rest (closed ++ last_line end) = record {
      closed = closed;
      end = end;
      spelled = refl;
      apart = All-tail Free line closed apart;
      unclosed = free;
      all = refl;
    } in record {
      more = closed ++ last_line end;
      first = all ∙ ap (λ (l : List ℕ). l ∷ (closed ++ last_line end)) (sym first);
      after = subst (λ (l : List ℕ). IsText l (closed ++ last_line end)) (sym after) tail;
    }

by_closed : (text : List ℕ) (lines : List (List ℕ)) (b : ℕ) (rest : List ℕ) → text ≡ b ∷ rest
    → (closed : List (List ℕ)) (end : List ℕ) → text ≡ closed_text closed ++ end → All Free closed → NoNewline end
    → lines ≡ closed ++ last_line end → Begins text lines
by_closed text lines b rest some [] end spelled apart free all = begins_end text end lines b rest some spelled free all
by_closed text lines b rest some (line ∷ closed) end spelled apart free all =
    begins_closed text line closed end lines spelled apart free all

pub begins : (b : ℕ) (rest : List ℕ) (lines : List (List ℕ)) → IsText (b ∷ rest) lines → Begins (b ∷ rest) lines
begins b rest lines is = by_closed (b ∷ rest) lines b rest refl is.closed is.end is.spelled is.apart is.unclosed is.all

no_text : (closed : List (List ℕ)) (end : List ℕ) (lines : List (List ℕ)) → [] ≡ closed_text closed ++ end
    → lines ≡ closed ++ last_line end → lines ≡ []
no_text [] end lines spelled all = all ∙ ap last_line (sym spelled)
no_text (line ∷ closed) end lines spelled all =
    absurd (omega (
      arith,
      ap (λ (l : List ℕ). length l) spelled,
      length-append (closed_text (line ∷ closed)) end,
      length-append (line ++ 10 ∷ []) (closed_text closed),
      length-append line (10 ∷ []),
    ))

pub ends : (lines : List (List ℕ)) → IsText [] lines → lines ≡ []
ends lines is = no_text is.closed is.end lines is.spelled is.all

-- the first line by its first byte
first_ten : (b : ℕ) (text : List ℕ) → (b == 10) ≡ true → first_line (b ∷ text) ≡ []
first_ten b text is = ap (λ (t : Bool). cond t [] (b ∷ first_line text)) is

first_byte : (b : ℕ) (text : List ℕ) → (b == 10) ≡ false → first_line (b ∷ text) ≡ b ∷ first_line text
first_byte b text is = ap (λ (t : Bool). cond t [] (b ∷ first_line text)) is

free_step : (b : ℕ) (text : List ℕ) → NoNewline (first_line text) → (t : Bool) → (b == 10) ≡ t
    → NoNewline (first_line (b ∷ text))
free_step b text free true is = subst Free (sym (first_ten b text is)) (All-nil (λ b. b ≢ 10))
free_step b text free false is = subst Free (sym (first_byte b text is)) (All-cons (λ b. b ≢ 10) b (first_line text)
    (eqb-false b 10 is) free)

-- the first line has no newline
first_free : (text : List ℕ) → NoNewline (first_line text)
first_free [] = All-nil (λ b. b ≢ 10)
first_free (b ∷ text) = free_step b text (first_free text) (b == 10) refl

-- a text is its first line, a newline and what is after it
abbrev Splits : List ℕ → List ℕ → Type 0
Splits text line = text ≡ line ++ 10 ∷ drop (length line + 1) text

split_step : (b : ℕ) (text : List ℕ) → (length (first_line text) < length text → Splits text (first_line text))
    → (t : Bool) → (b == 10) ≡ t → length (first_line (b ∷ text)) < length (b ∷ text)
    → Splits (b ∷ text) (first_line (b ∷ text))
split_step b text split true is more =
    let here : Splits (b ∷ text) [] = ap (λ (x : ℕ). x ∷ text) (eqb-true b 10 is) in
    subst (Splits (b ∷ text)) (sym (first_ten b text is)) here
split_step b text split false is more =
    let line = first_line text in
    let longer : length line < length text = omega (arith, more, ap (λ (l : List ℕ). length l) (first_byte b text is))
    in
    let place : suc (length line + 1) ≡ length (b ∷ line) + 1 = omega arith in
    let here : Splits (b ∷ text) (b ∷ line) = ap (λ (l : List ℕ). b ∷ l) (split longer)
    ∙ ap (λ (n : ℕ). b ∷ (line ++ 10 ∷ drop n (b ∷ text))) place in
    subst (Splits (b ∷ text)) (sym (first_byte b text is)) here

splits : (text : List ℕ) → length (first_line text) < length text → Splits text (first_line text)
splits [] more = absurd (omega arith)
splits (b ∷ text) more = split_step b text (splits text) (b == 10) refl more

all_step : (b : ℕ) (text : List ℕ) → (length text ≤ length (first_line text) → text ≡ first_line text) → (t : Bool)
    → (b == 10) ≡ t → length (b ∷ text) ≤ length (first_line (b ∷ text)) → b ∷ text ≡ first_line (b ∷ text)
all_step b text all true is le = absurd (omega (arith, le, ap (λ (l : List ℕ). length l) (first_ten b text is)))
all_step b text all false is le =
    let shorter : length text ≤ length (first_line text) = omega (
      arith,
      le,
      ap (λ (l : List ℕ). length l) (first_byte b text is),
    ) in
    ap (λ (l : List ℕ). b ∷ l) (all shorter) ∙ sym (first_byte b text is)

-- or all of it is its first line
is_all : (text : List ℕ) → length text ≤ length (first_line text) → text ≡ first_line text
is_all [] le = refl
is_all (b ∷ text) le = all_step b text (is_all text) (b == 10) refl le

-- a first line before the lines of a text
before_text : (text : List ℕ) (more : List (List ℕ)) → text ≡ first_line text ++ 10 ∷ later_lines text
    → IsText (later_lines text) more → IsText text (first_line text ∷ more)
before_text text more whole is =
    let line = first_line text in record {
      closed = line ∷ is.closed;
      end = is.end;
      spelled = whole ∙ ap (λ (l : List ℕ). line ++ 10 ∷ l) is.spelled
          ∙ sym (append_assoc line (10 ∷ []) (closed_text is.closed ++ is.end))
          ∙ sym (append_assoc (line ++ 10 ∷ []) (closed_text is.closed) is.end);
      apart = All-cons Free line is.closed (first_free text) is.apart;
      unclosed = is.unclosed;
      all = ap (λ (l : List (List ℕ)). line ∷ l) is.all;
    }

alone : (text : List ℕ) (more : List (List ℕ)) (b : ℕ) (rest : List ℕ) → text ≡ b ∷ rest → text ≡ first_line text
    → more ≡ [] → IsText text (first_line text ∷ more)
alone text more b rest some is none =
    let line = first_line text in record {
      closed = [];
      end = line;
      spelled = is;
      apart = All-nil Free;
      unclosed = first_free text;
      all = ap (λ (l : List (List ℕ)). line ∷ l) none ∙ sym (last_some line b rest (sym is ∙ some));
    }

before_cases : (b : ℕ) (rest : List ℕ) (more : List (List ℕ)) → IsText (later_lines (b ∷ rest)) more → (t : Bool)
    → is_closed (b ∷ rest) ≡ t → IsText (b ∷ rest) (first_line (b ∷ rest) ∷ more)
before_cases b rest more is true closed = before_text (b ∷ rest) more
    (splits (b ∷ rest) (ltb-true (length (first_line (b ∷ rest))) (length (b ∷ rest)) closed)) is
before_cases b rest more is false closed =
    let short : length (b ∷ rest) ≤ length (first_line (b ∷ rest)) = ltb-false (length (first_line (b ∷ rest)))
    (length (b ∷ rest)) closed in
    let after : later_lines (b ∷ rest) ≡ [] = drop_of_length-le (b ∷ rest) {i = length (first_line (b ∷ rest)) + 1}
    (omega (arith, short)) in
    alone (b ∷ rest) more b rest refl (is_all (b ∷ rest) short)
    (ends more (subst (λ (l : List ℕ). IsText l more) after is))

pub before : (b : ℕ) (rest : List ℕ) (more : List (List ℕ)) → IsText (later_lines (b ∷ rest)) more
    → IsText (b ∷ rest) (first_line (b ∷ rest) ∷ more)
before b rest more is = before_cases b rest more is (is_closed (b ∷ rest)) refl

-- each text has lines: n bytes suffice to count down
lines_from : (n : ℕ) (text : List ℕ) → length text ≤ n → (lines : List (List ℕ)) × IsText text lines
lines_from n [] le = ([], no_lines [] refl)
lines_from zero (b ∷ text) le = absurd (omega arith)
lines_from (suc n) (b ∷ text) le =
    let less : length (later_lines (b ∷ text)) ≤ n = omega (
      arith,
      le,
      length-drop (length (first_line (b ∷ text)) + 1)
          (b ∷ text),
    ) in
    let more = lines_from n (later_lines (b ∷ text)) less in
    (first_line (b ∷ text) ∷ more.0, before b text more.0 more.1)

pub some_lines : (text : List ℕ) → (lines : List (List ℕ)) × IsText text lines
some_lines text = lines_from (length text) text (omega arith)

-- in one way
one_from : (n : ℕ) (text : List ℕ) (lines others : List (List ℕ)) → length text ≤ n → IsText text lines
    → IsText text others → lines ≡ others
one_from n [] lines others le is other = ends lines is ∙ sym (ends others other)
one_from zero (b ∷ text) lines others le is other = absurd (omega arith)
one_from (suc n) (b ∷ text) lines others le is other =
    let less : length (later_lines (b ∷ text)) ≤ n = omega (
      arith,
      le,
      length-drop (length (first_line (b ∷ text)) + 1)
          (b ∷ text),
    ) in
    let p = begins b text lines is in
    let q = begins b text others other in
    p.first ∙ ap (λ (l : List (List ℕ)). first_line (b ∷ text) ∷ l)
    (one_from n (later_lines (b ∷ text)) p.more q.more less p.after q.after) ∙ sym q.first

pub one_lines : (text : List ℕ) (lines others : List (List ℕ)) → IsText text lines → IsText text others → lines ≡ others
one_lines text lines others is other = one_from (length text) text lines others (omega arith) is other
