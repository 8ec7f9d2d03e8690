-- What a reader says, from what it finds.
use Rattle.std.proofs.Common.{◌≡◌, ℕ, ◌+◌, ◌≤◌, ◌∷◌, Bool, not, min, List, [], length, take, drop, Option, Some, Result, Ok, Err, IsErrAnd, sym, ap, subst, ◌∙◌, arith}
use Rattle.loss_trace.specs.declared.event.Event.{Event}
use Rattle.loss_trace.specs.declared.fault.TraceStop.{TraceStop}
use Rattle.loss_trace.specs.declared.fault.TraceStop.TheVariants.{Read, Bad, TooMany}
use Rattle.loss_trace.specs.declared.reader.Fetched.{Fetched}
use Rattle.loss_trace.specs.Lines.{first_line, is_closed, after_long}
use Rattle.loss_trace.specs.Input.{IsFirstLine}
use Rattle.loss_trace.specs.Reading.{event_in}
use Rattle.loss_trace.specs.Place.{TracePlace}
use Rattle.loss_trace.specs.Reader.{Passes, IsOver, IsPastAll, EventGives, BytesGive, FetchGives}
use Rattle.loss_trace.proofs.Results.{err_is}
use Rattle.loss_trace.proofs.Spelled.{long_says_none}

pub over : (reader : TracePlace) (rest : List ℕ) (left : Option (List ℕ)) → rest ≡ [] → left ≡ Some (drop 1 rest)
    → IsOver reader rest left
over reader rest left none gone = (
  gone ∙ ap (λ (l : List ℕ). Some (drop 1 l)) none
      ∙ ap (λ (l : List ℕ). Some l) (sym none),
  λ _. none,
)

pub past_all : (rest : List ℕ) (b : ℕ) (left : Option (List ℕ)) → rest ≡ b ∷ drop 1 rest → left ≡ Some (drop 1 rest)
    → IsPastAll rest left
past_all rest b left there gone = (omega (arith, ap (λ (l : List ℕ). length l) there), gone)

-- a stop that is handed out
module _ (old : TracePlace) (rest buf : List ℕ) (left : Option (List ℕ)) where
  event_stop : (stop : TraceStop) → FetchGives (Err stop) old rest buf left → EventGives (Err stop) old rest old left
  event_stop Read gives = gives
  event_stop (Bad line) gives = (long_says_none (first_line rest) gives.0, gives.1)
  event_stop (TooMany line) gives = gives

  bytes_stop : (stop : TraceStop) → FetchGives (Err stop) old rest buf left → BytesGive (Err stop) old rest buf old left
  bytes_stop Read gives = gives
  bytes_stop (Bad line) gives = gives
  bytes_stop (TooMany line) gives = gives

  pub event_stopped : (r : Result (Option (ℕ × Event)) TraceStop) (stop : TraceStop) → IsErrAnd r (λ x. x ≡ stop)
      → FetchGives (Err stop) old rest buf left → EventGives r old rest old left
  event_stopped r stop is gives = subst (λ (r : Result (Option (ℕ × Event)) TraceStop). EventGives r old rest old left)
      (sym (err_is r stop is)) (event_stop stop gives)

  pub bytes_stopped : (r : Result (Option (ℕ × ℕ)) TraceStop) (stop : TraceStop) → IsErrAnd r (λ x. x ≡ stop)
      → FetchGives (Err stop) old rest buf left → BytesGive r old rest buf old left
  bytes_stopped r stop is gives = subst (λ (r : Result (Option (ℕ × ℕ)) TraceStop). BytesGive r old rest buf old left)
      (sym (err_is r stop is)) (bytes_stop stop gives)

-- a line that was found
pub found_of : (old : TracePlace) (rest buf : List ℕ) (left : Option (List ℕ)) (found : Option Fetched) (line : Fetched)
    → found ≡ Some line → FetchGives (Ok found) old rest buf left → IsFirstLine rest buf line.len left
    × (is_closed rest ≡ line.closed)
found_of old rest buf left found line is gives = subst (λ (o : Option Fetched). FetchGives (Ok o) old rest buf left) is
    gives

module _ (rest buf : List ℕ) (len : ℕ) (left : Option (List ℕ)) (first : IsFirstLine rest buf len left) where
  -- a reader that has passed a line is open exactly where the line has ended
  pub passes : (new : TracePlace) (closed : Bool) → is_closed rest ≡ closed → new.ended ≡ not closed
      → Passes rest new left
  passes new closed is ended = record { some = first.some; ends = ended ∙ ap not (sym is); gone = first.gone }

  pub says : (event : Option Event) → event_in (take len buf) ≡ event → event_in (first_line rest) ≡ event
  says event is = ap event_in (sym first.same) ∙ is

  pub taken : len ≤ 64 → left ≡ Some (after_long rest)
  taken le =
      let most : length (first_line rest) + 1 ≡ min (length (first_line rest) + 1) 65 = omega (arith, first.size) in
      first.gone ∙ ap (λ (n : ℕ). Some (drop n rest)) most
