-- The lines of a trace, whatever a machine keeps in mind: their bytes, and what their turns come to.
use Rattle.std.proofs.Common.{◌≡◌, ◌≢◌, ℕ, zero, suc, ◌+◌, ◌≤◌, Bool, true, false, not, List, [], ◌∷◌, length, take, drop, Option, Some, refl, sym, ap, ◌∙◌, subst, arith}
use Rattle.std.specs.Prelude.{◌&&◌, ◌==◌, nat_le, min, if◌then◌else◌}
use Rattle.std.proofs.Math.Bool.{and-false}
use Rattle.std.proofs.lemmas.Bool.{eqb-true, leb-true, ltb-false, ltb-true}
use Rattle.std.proofs.lemmas.List.{drop_all}
use Rattle.std.proofs.lemmas.List.Elements.{All-head, All-tail}
use Rattle.h263_outside.specs.Desk.{Outside, IsInput}
use Rattle.h263_outside.specs.declared.desk.Role.{Role}
use Rattle.h263_outside.specs.declared.desk.Role.TheVariants.{Video, Events, Pictures, Wire, Report, Video2, Pictures2}
use Rattle.loss_trace.specs.declared.fault.TraceFault.{TraceFault}
use Rattle.loss_trace.specs.Place.{TracePlace}
use Rattle.h263_outside.specs.Lines.{NoNewline}
use Rattle.loss_trace.specs.Lines.{first_line, is_closed, later_lines}
use Rattle.loss_trace.specs.Reader.{IsOver}
use Rattle.call_report.specs.declared.status.Status.TheVariants.{Ok as Fine, TraceRefused}
use Rattle.desk_program.specs.Run.{Turn, left_after}
use Rattle.desk_program.specs.Ends.{EndsBy, Gains, IsPart, Tells, holds}
use Rattle.desk_program.specs.Texts.{and_of, no_bytes, no_texts, of}
use Rattle.desk_program.specs.Laws.{TurnLaws}
use Rattle.call_command.specs.Call.{bad_line, line_size, refused_line}
use Rattle.call_command.specs.Laws.{IsPlayedOut, CoversLine, capture_turn}
use Rattle.call_command.specs.Standing.{HasTaken, ReadsTrace}

-- ---- the bytes of a line

drop_min : (k : ℕ) (xs : List ℕ) → drop (min k (length xs)) xs ≡ drop k xs
drop_min zero xs = ap (λ (n : ℕ). drop n xs) (none (length xs))
  where
    none : (n : ℕ) → min 0 n ≡ 0
    none n = omega arith
drop_min (suc k) [] = nothing (min (suc k) 0)
  where
    nothing : (n : ℕ) → drop {A = ℕ} n [] ≡ []
    nothing zero = refl
    nothing (suc n) = refl
drop_min (suc k) (x ∷ xs) = ap (λ (n : ℕ). drop n (x ∷ xs)) (one_more k (length xs)) ∙ drop_min k xs
  where
    one_more : (a b : ℕ) → min (suc a) (suc b) ≡ suc (min a b)
    one_more a b = omega arith

-- after the line
pub line_gone : (trace : List ℕ) → drop (line_size trace) trace ≡ later_lines trace
line_gone trace = drop_min (length (first_line trace) + 1) trace

-- after one that has no newline there is nothing
pub nothing_after : (trace : List ℕ) → is_closed trace ≡ false → drop (line_size trace) trace ≡ []
nothing_after trace open_end =
    line_gone trace ∙ drop_all (length (first_line trace) + 1) trace
    (omega (arith, ltb-false (length (first_line trace)) (length trace) open_end))

pub double_not : (b : Bool) → not (not b) ≡ b
double_not true = refl
double_not false = refl

-- bytes without a newline are shorter than a line that has one
line_cut : (trace : List ℕ) (k : ℕ) → NoNewline (take k trace) → length (first_line trace) + 1 ≤ length trace
    → length (first_line trace) + 1 ≤ k → ⊥
line_cut [] k free closed few = absurd (omega (arith, closed))
line_cut (b ∷ trace) zero free closed few = absurd (omega (arith, few))
line_cut (b ∷ trace) (suc k) free closed few = by_newline (b == 10) refl
    (line_cut trace k (All-tail (λ c. c ≢ 10) b (take k trace) free))
  where
    one_further : (n : ℕ) → suc n ≡ n + 1
    one_further n = omega arith

    by_newline : (t : Bool) → (b == 10) ≡ t → (length (first_line trace) + 1 ≤ length trace
        → length (first_line trace) + 1 ≤ k → ⊥) → ⊥
    by_newline true is cut = All-head (λ c. c ≢ 10) b (take k trace) free (eqb-true b 10 is)
    by_newline false is cut =
        let same : length (first_line (b ∷ trace)) ≡ length (first_line trace) + 1 =
        ap (λ (t : Bool). length (if t then [] else b ∷ first_line trace)) is ∙ one_further (length (first_line trace))
        in
        cut (omega (arith, closed, same)) (omega (arith, few, same))

-- ---- what was taken holds no turn

pub not_held : (size k : ℕ) → (size ≤ k → ⊥) → nat_le size k ≡ false
not_held size k few = at_test (nat_le size k) refl
  where
    at_test : (t : Bool) → nat_le size k ≡ t → t ≡ false
    at_test true is = absurd (few (leb-true size k is))
    at_test false is = refl

open_held : (t : Turn) (k : Role → ℕ) → t.whole ≡ false → holds t k ≡ false
open_held t k is = ap (λ (b : Bool). b && nat_le (t.taken Video) (k Video) && nat_le (t.taken Events)
    (k Events) && nat_le (t.taken Video2) (k Video2)) is

short_held : (t : Turn) (k : Role → ℕ) → (t.taken Events ≤ k Events → ⊥) → holds t k ≡ false
short_held t k few =
    ap (λ (b : Bool). t.whole && nat_le (t.taken Video) (k Video) && b && nat_le (t.taken Video2) (k Video2))
    (not_held (t.taken Events) (k Events) few)
    ∙ ap (λ (b : Bool). b && nat_le (t.taken Video2) (k Video2))
    (and-false (t.whole && nat_le (t.taken Video) (k Video)))

no_frame_held : (t : Turn) (k : Role → ℕ) → (t.taken Video ≤ k Video → ⊥) → holds t k ≡ false
no_frame_held t k few =
    ap (λ (b : Bool). t.whole && b && nat_le (t.taken Events) (k Events) && nat_le (t.taken Video2) (k Video2))
    (not_held (t.taken Video) (k Video) few)
    ∙ ap (λ (b : Bool). b && nat_le (t.taken Events) (k Events) && nat_le (t.taken Video2) (k Video2))
    (and-false t.whole)

-- bytes of the trace without a newline hold none
pub line_part : (trace : List ℕ) (k : ℕ) (turns : List Turn) → NoNewline (take k trace) → CoversLine trace turns
    → IsPart turns (of Events k)
line_part trace k [] free takes = tt
line_part trace k (turn ∷ turns) free takes = by_end (is_closed trace) refl
  where
    by_end : (b : Bool) → is_closed trace ≡ b → holds turn (of Events k) ≡ false
    by_end false open_end = open_held turn (of Events k) (takes.0 ∙ open_end)
    by_end true closed =
        let whole : length (first_line trace) + 1 ≤ length trace = omega (
          arith,
          ltb-true (length (first_line trace)) (length trace) closed,
        ) in
        short_held turn (of Events k) (λ all. line_cut trace k free whole
        (omega (arith, min_is (length (first_line trace) + 1) (length trace) whole, takes.1, all)))
      where
        min_is : (a b : ℕ) → a ≤ b → min a b ≡ a
        min_is a b le = omega (arith, le)

-- nor do the line and a part of its frame
abbrev pub with_frame_bytes : List ℕ → ℕ → Role → ℕ
with_frame_bytes trace n = and_of (of Events (line_size trace)) (of Video n)

pub frame_held : (trace : List ℕ) (size k : ℕ) → (size ≤ k → ⊥)
    → holds (capture_turn trace size) (with_frame_bytes trace k) ≡ false
frame_held trace size k few =
    no_frame_held (capture_turn trace size) (with_frame_bytes trace k)
    (λ (whole : 0 + size ≤ 0 + k). few (omega (arith, whole)))

-- ---- a line that is refused: it is taken, and nothing of the video

pub refused_by : TurnLaws → (fault : TraceFault) (inputs : Role → List ℕ) (old mid : Outside) → HasTaken inputs old mid
    → EndsBy (refused_line (inputs Events) fault) (TraceRefused fault) inputs old mid
refused_by laws fault inputs old mid taken =
    laws.ends (TraceRefused fault) (of Events (line_size (inputs Events))) no_texts inputs old mid taken.left
    (laws.no_text old.written mid.written taken.written)

-- ---- where the trace alone was read

module _ (laws : TurnLaws) (inputs : Role → List ℕ) (old mid : Outside) (read : ReadsTrace inputs old mid) where
  pub some_read : (k : ℕ) → mid.left Events ≡ Some (drop k (inputs Events))
      → Tells mid (left_after inputs (of Events k))
  some_read k gone = laws.one_read Events k old mid inputs read.told gone read.others

  pub has_taken : mid.left Events ≡ Some (later_lines (inputs Events)) → HasTaken inputs old mid
  has_taken gone = record {
    left = some_read (line_size (inputs Events)) (gone ∙ ap (λ (l : List ℕ). Some l) (sym (line_gone (inputs Events))));
    written = read.written;
  }

  -- of the other inputs nothing was taken
  pub bad_by : (fault : TraceFault) → EndsBy (bad_line fault) (TraceRefused fault) inputs old mid
  bad_by fault = record { known = refl; left = left_at; written = laws.no_text old.written mid.written read.written }
    where
      zero_is : (k : ℕ) → 0 ≡ k → 0 ≡ 0 + k
      zero_is k is = omega (arith, is)

      untouched : (r : Role) → IsInput r → r ≢ Events → (k : ℕ) → 0 ≡ k
          → mid.left r ≡ Some (left_after inputs (λ _. 0 + k) r)
      untouched r input other k none = read.others r other ∙ read.told r input
          ∙ ap (λ (n : ℕ). Some (drop n (inputs r))) (zero_is k none)

      left_at : (r : Role) → IsInput r → (k : ℕ) → (bad_line fault).taken r ≡ Some k
          → mid.left r ≡ Some (left_after inputs (λ _. 0 + k) r)
      left_at Video input k said = untouched Video input (λ same. cc) k (cc said)
      left_at Events input k said = absurd (cc said)
      left_at Video2 input k said = untouched Video2 input (λ same. cc) k (cc said)
      left_at Pictures input k said = absurd (cc input)
      left_at Wire input k said = absurd (cc input)
      left_at Report input k said = absurd (cc input)
      left_at Pictures2 input k said = absurd (cc input)

  -- no line is left
  pub over_by : (reader : TracePlace) (new : Outside) → IsOver reader (inputs Events) (mid.left Events)
      → (reader.ended ≡ true → inputs Events ≡ []) → new.left ≡ mid.left
      → IsPlayedOut inputs old mid new
  over_by reader new is over still = record {
    nothing = nothing;
    told = told;
    ends = λ texts gains. laws.ends Fine no_bytes texts inputs old new told
        (subst (λ (w : Role → Option (List ℕ)). Gains texts w new.written) read.written gains);
  }
    where
      by_end : (b : Bool) → reader.ended ≡ b → inputs Events ≡ []
      by_end true ended = over ended
      by_end false ended = is.1 ended

      nothing : inputs Events ≡ []
      nothing = by_end reader.ended refl

      told : Tells new inputs
      told r input = ap (λ (l : Role → Option (List ℕ)). l r) still
          ∙ laws.none_read Events old mid inputs read.told nothing (is.0
          ∙ ap (λ (l : List ℕ). Some l) nothing) read.others r input
