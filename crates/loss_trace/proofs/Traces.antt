-- A text is read as the events that its lines say, up to the first line that says none.
use Rattle.std.proofs.Common.{◌≡◌, ℕ, zero, suc, ◌+◌, ◌-◌, ◌<◌, ◌≤◌, ◌++◌, List, [], ◌∷◌, length, Option, Some, None, refl, sym, ap, subst, ◌∙◌, arith, append-nil}
use Rattle.loss_trace.specs.declared.event.Event.{Event}
use Rattle.loss_trace.specs.declared.fault.TraceFault.TheVariants.{BadLine, TooMany}
use Rattle.loss_trace.specs.Lines.{IsText, first_line, later_lines}
use Rattle.loss_trace.specs.Reading.{event_in}
use Rattle.loss_trace.specs.Trace.{Say, IsTrace, IsBad, events_from, fault_from, events_of, first_trace_fault, trace_events, trace_fault}
use Rattle.loss_trace.proofs.Spelled.{event_is, event_found}
use Rattle.loss_trace.proofs.Texts.{begins, ends, before, no_lines}

-- one step of the reading
fault_step : (n at b : ℕ) (text : List ℕ) → first_trace_fault (suc n) at (b ∷ text)
    ≡ fault_from (event_in (first_line (b ∷ text))) at (first_trace_fault n (at + 1) (later_lines (b ∷ text)))
unfolding first_trace_fault
fault_step n at b text = refl

fault_full : (at b : ℕ) (text : List ℕ) → first_trace_fault zero at (b ∷ text) ≡ Some (TooMany at)
unfolding first_trace_fault
fault_full at b text = refl

fault_end : (n at : ℕ) → first_trace_fault n at [] ≡ None
unfolding first_trace_fault
fault_end zero at = refl
fault_end (suc n) at = refl

events_step : (n b : ℕ) (text : List ℕ) → events_of (suc n) (b ∷ text) ≡ events_from (event_in (first_line (b ∷ text)))
    (events_of n (later_lines (b ∷ text)))
unfolding events_of
events_step n b text = refl

events_full : (text : List ℕ) → events_of zero text ≡ []
unfolding events_of
events_full text = refl

events_end : (n : ℕ) → events_of n [] ≡ []
unfolding events_of
events_end zero = refl
events_end (suc n) = refl

-- lines that were read, and what is left after them
record Passed (m at n : ℕ) (text : List ℕ) (events : List Event) (lines tail : List (List ℕ)) : Type 0 where
  pub rest : List ℕ
  pub is : IsText rest tail
  pub fault : first_trace_fault n at text ≡ first_trace_fault m (at + length lines) rest
  pub read : events_of n text ≡ events ++ events_of m rest

first_of : (line first : List ℕ) (lines more : List (List ℕ)) → line ∷ lines ≡ first ∷ more → line ≡ first
first_of line first lines more e = cc

more_of : (line first : List ℕ) (lines more : List (List ℕ)) → line ∷ lines ≡ first ∷ more → lines ≡ more
more_of line first lines more e = cc

no_first : (line : List ℕ) (lines : List (List ℕ)) → line ∷ lines ≡ [] → ⊥
no_first line lines e = cc

passed : (m at n : ℕ) (text : List ℕ) (events : List Event) (lines tail : List (List ℕ)) → n ≡ length lines + m
    → IsText text (lines ++ tail) → Say events lines → Passed m at n text events lines tail
passed m at n text [] [] tail size is says =
    let same : n ≡ m = omega (arith, size) in
    let here : at ≡ at + 0 = omega arith in
    record {
      rest = text;
      is = is;
      fault = (λ i. first_trace_fault (same i) (here i) text);
      read = ap (λ (k : ℕ). events_of k text) same;
    }
passed m at n text [] (line ∷ lines) tail size is says = absurd says
passed m at n text (event ∷ events) [] tail size is says = absurd says
passed m at n [] (event ∷ events) (line ∷ lines) tail size is says =
    absurd (no_first line (lines ++ tail) (ends ((line ∷ lines) ++ tail) is))
passed m at zero (b ∷ text) (event ∷ events) (line ∷ lines) tail size is says = absurd (omega (arith, size))
passed m at (suc n) (b ∷ text) (event ∷ events) (line ∷ lines) tail size is says =
    let p = begins b text ((line ∷ lines) ++ tail) is in
    let first : line ≡ first_line (b ∷ text) = first_of line (first_line (b ∷ text)) (lines ++ tail) p.more p.first in
    let after : IsText (later_lines (b ∷ text)) (lines ++ tail) =
    subst (λ (l : List (List ℕ)). IsText (later_lines (b ∷ text)) l)
    (sym (more_of line (first_line (b ∷ text)) (lines ++ tail) p.more p.first)) p.after in
    let said : event_in (first_line (b ∷ text)) ≡ Some event = ap event_in (sym first)
    ∙ event_found event line says.0 in
    let h = passed m (at + 1) n (later_lines (b ∷ text)) events lines tail (omega (arith, size)) after says.1 in
    let place : at + 1 + length lines ≡ at + length (line ∷ lines) = omega arith in record {
      rest = h.rest;
      is = h.is;
      fault = fault_step n at b text
          ∙ ap (λ (o : Option Event). fault_from o at (first_trace_fault n (at + 1) (later_lines (b ∷ text)))) said
          ∙ h.fault
          ∙ ap (λ (k : ℕ). first_trace_fault m k h.rest) place;
      read = events_step n b text
          ∙ ap (λ (o : Option Event). events_from o (events_of n (later_lines (b ∷ text)))) said
          ∙ ap (λ (l : List Event). event ∷ l) h.read;
    }

empty_text : (text : List ℕ) → IsText text [] → text ≡ []
empty_text [] is = refl
empty_text (b ∷ text) is = let p = begins b text [] is in absurd (no_first (first_line (b ∷ text)) p.more (sym p.first))

module _ (n m : ℕ) (text : List ℕ) (events : List Event) (lines : List (List ℕ)) (size : n ≡ length lines + m)
    (says : Say events lines) where
  -- all of it is read
  pub all_read : (at : ℕ) → IsText text lines → (first_trace_fault n at text ≡ None) × (events_of n text ≡ events)
  all_read at is =
      let h = passed m at n text events lines [] size (subst (λ (l : List (List ℕ)). IsText text l)
      (sym (append-nil lines)) is) says in
      let none : h.rest ≡ [] = empty_text h.rest h.is in (
        h.fault ∙ ap (λ (l : List ℕ). first_trace_fault m (at + length lines) l) none ∙ fault_end m (at + length lines),
        h.read ∙ ap (λ (l : List ℕ). events ++ events_of m l) none ∙ ap (λ (l : List Event). events ++ l) (events_end m)
            ∙ append-nil events,
      )

  module _ (at : ℕ) (line : List ℕ) (after : List (List ℕ)) (is : IsText text (lines ++ line ∷ after)) where
    stop_full : (k : ℕ) (rest : List ℕ) → k ≡ 0 → IsText rest (line ∷ after)
        → (first_trace_fault k (at + length lines) rest ≡ Some (TooMany (at + length lines))) × (events_of k rest ≡ [])
    stop_full k [] zero_k is = absurd (no_first line after (ends (line ∷ after) is))
    stop_full zero (b ∷ rest) zero_k is = (fault_full (at + length lines) b rest, events_full (b ∷ rest))
    stop_full (suc k) (b ∷ rest) zero_k is = absurd (omega (arith, zero_k))

    -- a line too many is there
    pub full : m ≡ 0 → (first_trace_fault n at text ≡ Some (TooMany (at + length lines))) × (events_of n text ≡ events)
    full none =
        let h = passed m at n text events lines (line ∷ after) size is says in
        let stop = stop_full m h.rest none h.is in
        (h.fault ∙ stop.0, h.read ∙ ap (λ (l : List Event). events ++ l) stop.1 ∙ append-nil events)

    none_said : (o : Option Event) → event_in line ≡ o → IsBad line → o ≡ None
    none_said None said bad = refl
    none_said (Some event) said bad = absurd (bad event (event_is line event said))

    stop_bad : (k : ℕ) (rest : List ℕ) → 0 < k → IsBad line → IsText rest (line ∷ after)
        → (first_trace_fault k (at + length lines) rest ≡ Some (BadLine (at + length lines))) × (events_of k rest ≡ [])
    stop_bad k [] some bad is = absurd (no_first line after (ends (line ∷ after) is))
    stop_bad zero (b ∷ rest) some bad is = absurd (omega (arith, some))
    stop_bad (suc k) (b ∷ rest) some bad is =
        let p = begins b rest (line ∷ after) is in
        let first : line ≡ first_line (b ∷ rest) = first_of line (first_line (b ∷ rest)) after p.more p.first in
        let said : event_in (first_line (b ∷ rest)) ≡ None = ap event_in (sym first)
        ∙ none_said (event_in line) refl bad in (
          fault_step k (at + length lines) b rest
              ∙ ap (λ (o : Option Event). fault_from o (at + length lines)
              (first_trace_fault k (at + length lines + 1) (later_lines (b ∷ rest)))) said,
          events_step k b rest ∙ ap (λ (o : Option Event). events_from o (events_of k (later_lines (b ∷ rest)))) said,
        )

    -- a line that says nothing is there
    pub bad : 0 < m → IsBad line → (first_trace_fault n at text ≡ Some (BadLine (at + length lines)))
        × (events_of n text ≡ events)
    bad some says_none =
        let h = passed m at n text events lines (line ∷ after) size is says in
        let stop = stop_bad m h.rest some says_none h.is in
        (h.fault ∙ stop.0, h.read ∙ ap (λ (l : List Event). events ++ l) stop.1 ∙ append-nil events)

-- what is read without a fault has lines
record Lined (n : ℕ) (text : List ℕ) : Type 0 where
  pub lines : List (List ℕ)
  pub is : IsText text lines
  pub says : Say (events_of n text) lines
  pub few : length lines ≤ n

some_not_none : {A : Type 0} (x : A) (o : Option A) → o ≡ Some x → o ≡ None → ⊥
some_not_none x o is none = cc

line_step : (n at b : ℕ) (text : List ℕ) → ((at : ℕ) → first_trace_fault n at (later_lines (b ∷ text)) ≡ None
    → Lined n (later_lines (b ∷ text))) → first_trace_fault (suc n) at (b ∷ text) ≡ None → (o : Option Event)
    → event_in (first_line (b ∷ text)) ≡ o → Lined (suc n) (b ∷ text)
line_step n at b text more none None said =
    absurd (some_not_none (BadLine at) (first_trace_fault (suc n) at (b ∷ text)) (fault_step n at b text
    ∙ ap (λ (o : Option Event). fault_from o at (first_trace_fault n (at + 1) (later_lines (b ∷ text)))) said) none)
line_step n at b text more none (Some event) said =
    let rest = later_lines (b ∷ text) in
    let line = first_line (b ∷ text) in
    let h = more (at + 1) (sym (fault_step n at b text
    ∙ ap (λ (o : Option Event). fault_from o at (first_trace_fault n (at + 1) rest)) said) ∙ none) in
    let read : events_of (suc n) (b ∷ text) ≡ event ∷ events_of n rest = events_step n b text
    ∙ ap (λ (o : Option Event). events_from o (events_of n rest)) said in record {
      lines = line ∷ h.lines;
      is = before b text h.lines h.is;
      says = subst (λ (l : List Event). Say l (line ∷ h.lines)) (sym read) (event_is line event said, h.says);
      few = omega (arith, h.few);
    }

no_more : (n : ℕ) → Lined n []
no_more n = record {
  lines = [];
  is = no_lines [] refl;
  says = subst (λ (l : List Event). Say l []) (sym (events_end n)) tt;
  few = omega arith;
}

lined : (n : ℕ) (text : List ℕ) (at : ℕ) → first_trace_fault n at text ≡ None → Lined n text
lined n [] at none = no_more n
lined zero (b ∷ text) at none = absurd (some_not_none (TooMany at) (first_trace_fault zero at (b ∷ text))
    (fault_full at b text) none)
lined (suc n) (b ∷ text) at none = line_step n at b text (lined n (later_lines (b ∷ text))) none
    (event_in (first_line (b ∷ text))) refl

-- the whole trace
most_is : (n k : ℕ) → k ≤ n → n ≡ k + (n - k)
most_is n k le = omega (arith, le)

trace_read : (n : ℕ) (text : List ℕ) (events : List Event) (lines : List (List ℕ)) → IsText text lines
    → Say events lines → length lines ≤ n → (first_trace_fault n 1 text ≡ None) × (events_of n text ≡ events)
trace_read n text events lines is says few = all_read n (n - length lines) text events lines
    (most_is n (length lines) few) says 1 is

pub trace_fault_none : (text : List ℕ) (events : List Event) → IsTrace text events → trace_fault text ≡ None
unfolding trace_fault
trace_fault_none text events h = (trace_read 16777216 text events h.lines h.spelled h.says h.few).0

pub trace_events_are : (text : List ℕ) (events : List Event) → IsTrace text events → trace_events text ≡ events
unfolding trace_events
trace_events_are text events h = (trace_read 16777216 text events h.lines h.spelled h.says h.few).1

pub is_trace : (text : List ℕ) → trace_fault text ≡ None → IsTrace text (trace_events text)
unfolding trace_fault trace_events
is_trace text none = let h = lined 16777216 text 1 none in record {
  lines = h.lines;
  spelled = h.is;
  says = h.says;
  few = h.few;
}

pub bad_trace : (text : List ℕ) (events : List Event) (lines after : List (List ℕ)) (line : List ℕ)
    → IsText text (lines ++ line ∷ after) → Say events lines → length lines < 16777216 → IsBad line
    → (trace_fault text ≡ Some (BadLine (length lines + 1))) × (trace_events text ≡ events)
unfolding trace_fault trace_events
bad_trace text events lines after line is says few says_none =
    let h = bad 16777216 (16777216 - length lines) text events lines
    (most_is 16777216 (length lines) (omega (arith, few))) says 1 line after is (omega (arith, few)) says_none in
    let place : 1 + length lines ≡ length lines + 1 = omega arith in
    (h.0 ∙ ap (λ (n : ℕ). Some (BadLine n)) place, h.1)

pub full_trace : (text : List ℕ) (events : List Event) (lines after : List (List ℕ)) (line : List ℕ)
    → IsText text (lines ++ line ∷ after) → Say events lines → length lines ≡ 16777216
    → (trace_fault text ≡ Some (TooMany 16777217)) × (trace_events text ≡ events)
unfolding trace_fault trace_events
full_trace text events lines after line is says all =
    let h = full 16777216 0 text events lines (omega (arith, all)) says 1 line after is refl in
    let place : 1 + length lines ≡ 16777217 = omega (arith, all) in
    (h.0 ∙ ap (λ (n : ℕ). Some (TooMany n)) place, h.1)
