-- How a turn is answered, and what a reader gave by what its answer is known to be.
use Rattle.std.proofs.Common.{Global, ◌≡◌, ℕ, ◌+◌, ◌<◌, ◌≤◌, Bool, List, Option, Some, Result, Ok, Err, IsErrAnd, sym, ap, ◌∙◌, subst, min, take, drop, length, arith}
use Rattle.std.proofs.lemmas.List.{take_min, with_items_is}
use Rattle.std.specs.Vec.{with_items}
use Rattle.std.specs.declared.vec.Vec.{Vec}
use Rattle.h263_outside.specs.Desk.{Outside}
use Rattle.h263_outside.specs.declared.desk.Role.{Role}
use Rattle.event_logs.specs.declared.entry.Entry.{Entry}
use Rattle.event_logs.specs.declared.entry.Side.{Side}
use Rattle.event_logs.specs.Entry.{entry_size, entry_in}
use Rattle.event_logs.specs.Place.{LogPlace, IsInLog}
use Rattle.event_logs.specs.Reader.{EntryGives, MovesLog}
use Rattle.call_report.specs.Status.{phase}
use Rattle.call_report.specs.declared.status.Status.{Status}
use Rattle.call_report.specs.declared.status.Status.TheVariants.{WriteFault}
use Rattle.desk_program.specs.Run.{Step}
use Rattle.log_command.specs.Log.{LogState, ReadyAfter}
use Rattle.desk_program.specs.Ends.{GainsFronts, GivesUp, TurnGives, step_texts}

module _ {State : Type 0} (r : Result Bool Status) (step : Step State) (stands : State → (Role → List ℕ)
    → Type 0) (reads : State → Bool) (now : Bool) (inputs : Role → List ℕ) (old new : Outside) where
  -- a turn that gives up with this status
  pub turn_stops : (status : Status) → IsErrAnd r (λ x. x ≡ status)
      → GivesUp (phase status) status step now inputs old new → TurnGives r step stands reads now inputs old new
  turn_stops status is gives = by_answer r is
    where
      by_answer : (r : Result Bool Status) → IsErrAnd r (λ x. x ≡ status)
          → TurnGives r step stands reads now inputs old new
      by_answer (Ok b) is = absurd is
      by_answer (Err x) is = subst (λ (s : Status). GivesUp (phase s) s step now inputs old new) (sym is) gives

  -- a turn whose write failed
  pub turn_cut : (status : Status) → IsErrAnd r (λ x. x ≡ status) → status ≡ WriteFault
      → GainsFronts (step_texts step) old.written new.written → TurnGives r step stands reads now inputs old new
  turn_cut status is fault cut =
      turn_stops status is (subst (λ (s : Status). GivesUp (phase s) s step now inputs old new) (sym fault) cut)

-- what the reader says, by what it answered
pub gave : (o known : Option (ℕ × Entry)) (reader : LogPlace) (rest buf : List ℕ) (left : Option (List ℕ)) → o ≡ known
    → EntryGives (Ok o) reader rest buf left → EntryGives (Ok known) reader rest buf left
gave o known reader rest buf left is gives = subst (λ (x : Option (ℕ × Entry)). EntryGives (Ok x) reader rest buf left)
    is gives

pub moved : (o known : Option (ℕ × Entry)) (reader after : LogPlace) → o ≡ known → MovesLog (Ok o) reader after
    → MovesLog (Ok known) reader after
moved o known reader after is moves = subst (λ (x : Option (ℕ × Entry)). MovesLog (Ok x) reader after) is moves

-- an entry was read, by what the machine has kept in mind
pub record Entered {State : Type 0} (side : Side) (s : LogState State) (after : LogPlace) (at : ℕ) (entry : Entry)
    (rest buf : List ℕ) (left : Option (List ℕ)) : Type 0 where
  pub few : s.entries < 16777216
  pub place : s.at ≡ at
  pub is : entry_in side rest ≡ Some entry
  pub bytes : take (entry_size entry) buf ≡ take (entry_size entry) (drop 3 rest)
  pub gone : left ≡ Some (drop (3 + entry_size entry) rest)
  pub next_at : s.at + (3 + entry_size entry) ≡ after.at
  pub next_count : s.entries + 1 ≡ after.entries

pub entered : {State : Type 0} (side : Side) (s : LogState State) (reader after : LogPlace) (at : ℕ)
    (found entry : Entry) (rest buf : List ℕ) (left : Option (List ℕ)) (o : Option (ℕ × Entry))
    → s.at ≡ reader.at → s.entries ≡ reader.entries → reader.side ≡ side → IsInLog after → o ≡ Some (at, found)
    → found ≡ entry
    → EntryGives (Ok o) reader rest buf left → MovesLog (Ok o) reader after
    → Entered side s after at entry rest buf left
entered side s reader after at found entry rest buf left o place count of_side within some is gives moves =
    let known : o ≡ Some (at, entry) = some ∙ ap (λ (e : Entry). let x : Option (ℕ × Entry) = Some (at, e) in x) is in
    let g = gave o (Some (at, entry)) reader rest buf left known gives in
    let v = moved o (Some (at, entry)) reader after known moves in
    record {
      few = omega (arith, v.2, within.few, count);
      place = place ∙ sym v.0;
      is = subst (λ (x : Side). entry_in x rest ≡ Some entry) of_side g.0;
      bytes = g.1;
      gone = g.2;
      next_at = ap (λ (n : ℕ). n + (3 + entry_size entry)) place ∙ sym v.3;
      next_count = ap (λ (n : ℕ). n + 1) count ∙ sym v.2;
    }

-- the start of a buffer that was lent whole: this many bytes, or all that it has
pub front_is : (v : Vec ℕ Global) (got buf bytes : List ℕ) (len n : ℕ) → got ≡ (with_items v buf).items
    → length buf ≡ v.len → n ≡ min len v.len → take len buf ≡ bytes → take n got ≡ bytes
front_is v got buf bytes len n is long few read =
    let same : got ≡ buf = is ∙ with_items_is v buf (omega (arith, long, v.ok.0)) in
    ap (λ (k : ℕ). take k got) (few ∙ ap (λ (k : ℕ). min len k) (sym long ∙ ap (λ (l : List ℕ). length l) (sym same)))
    ∙ take_min len got ∙ ap (λ (l : List ℕ). take len l) same ∙ read

pub still_long : (v : Vec ℕ Global) (buf : List ℕ) → length buf ≡ v.len → length v.items ≡ 65535
    → length (with_items v buf).items ≡ 65535
still_long v buf long whole =
    let n : length buf ≡ 65535 = omega (arith, long, whole, v.ok.0) in
    ap (λ (l : List ℕ). length l) (with_items_is v buf (omega (arith, long, v.ok.0))) ∙ n

-- what a command was ready for it still is where the same roles are attached
pub ready_after : (ready : ℕ → (Role → Bool) → Type 0) (most n : ℕ) (old new : Role → Bool) → n ≤ most → new ≡ old
    → ready n old → ReadyAfter most (λ k. ready k new)
ready_after ready most n old new few same is = record {
  count = n;
  few = few;
  is = subst (λ (attached : Role → Bool). ready n attached) (sym same) is;
}
