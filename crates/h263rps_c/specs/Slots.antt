-- Where a slot has what is inside, and what a call of it answers.
use Rattle.std.specs.Prelude.{ℕ, Option, Some, None, Result, Ok, Err}
use Rattle.h263_types.specs.declared.params.Params.{Params}
use Rattle.sender_end.specs.State.{SenderState}
use Rattle.receiver_end.specs.declared.kept.Kept.{Kept}
use Rattle.h263rps_c.specs.declared.ends.End.{End}
use Rattle.h263rps_c.specs.declared.ends.End.TheVariants.{Line, Receiving, Repeats, Sending}
use Rattle.h263rps_c.specs.declared.ends.EndKind.{EndKind}
use Rattle.h263rps_c.specs.declared.ends.EndKind.TheVariants as kinds
use Rattle.rate_control.specs.declared.send_pace.SendPace.{SendPace}
use Rattle.h263rps_c.specs.declared.refusals.EndRefusal.{EndRefusal}
use Rattle.h263rps_c.specs.declared.refusals.EndRefusal.TheVariants.{NotStarted, Started, OtherEnd, BadParams}

-- a call for a receiver, which a receiver refuses so
abbrev pub for_receiver : (Kept → Option EndRefusal) → Option End → Option EndRefusal
for_receiver refuses None = Some NotStarted
for_receiver refuses (Some (Sending s)) = Some OtherEnd
for_receiver refuses (Some (Receiving r)) = refuses r
for_receiver refuses (Some (Repeats r)) = Some OtherEnd
for_receiver refuses (Some (Line f)) = Some OtherEnd

-- a call for a sender
abbrev pub for_sender : (SenderState SendPace → Option EndRefusal) → Option End → Option EndRefusal
for_sender refuses None = Some NotStarted
for_sender refuses (Some (Sending s)) = refuses s.sender
for_sender refuses (Some (Receiving r)) = Some OtherEnd
for_sender refuses (Some (Repeats r)) = Some OtherEnd
for_sender refuses (Some (Line f)) = Some OtherEnd

-- a call for packets that were sent, or for what follows a line
abbrev pub for_repeats : Option End → Option EndRefusal
for_repeats None = Some NotStarted
for_repeats (Some (Sending s)) = Some OtherEnd
for_repeats (Some (Receiving r)) = Some OtherEnd
for_repeats (Some (Repeats r)) = None
for_repeats (Some (Line f)) = Some OtherEnd

abbrev pub for_line : Option End → Option EndRefusal
for_line None = Some NotStarted
for_line (Some (Sending s)) = Some OtherEnd
for_line (Some (Receiving r)) = Some OtherEnd
for_line (Some (Repeats r)) = Some OtherEnd
for_line (Some (Line f)) = None

-- a start with these parameters, if there is memory enough
abbrev pub start_refusal : Option End → Result Params ℕ → Option EndRefusal
start_refusal (Some end) p = Some Started
start_refusal None (Err number) = Some BadParams
start_refusal None (Ok p) = None

-- the number of the first parameter that is out of its range is told where that is the refusal
abbrev pub fault_after : Option End → Result Params ℕ → ℕ → ℕ
fault_after (Some end) p before = before
fault_after None (Err number) before = number
fault_after None (Ok p) before = before

-- an end of the right kind refuses nothing
abbrev pub never : {S : Type 0} → S → Option EndRefusal
never s = None

-- a call for an end of this kind, which such an end never refuses
abbrev pub for_kind : EndKind → Option End → Option EndRefusal
for_kind kinds.Sender inside = for_sender never inside
for_kind kinds.Receiver inside = for_receiver never inside
for_kind kinds.Repeats inside = for_repeats inside
for_kind kinds.Line inside = for_line inside
