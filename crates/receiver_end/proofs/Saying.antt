-- What an answer says.
use Rattle.std.proofs.Common.{ap}
use Rattle.h263_bits.specs.declared.fault.Fault.{Fault}
use Rattle.h263_types.specs.declared.clock.Clock.{Clock}
use Rattle.call_model.specs.Receiving as runs
use Rattle.receiver_end.specs.declared.answers.Heard.{Heard}
use Rattle.receiver_end.specs.Answers.{IsHeard, SaysMessage, said_by, said_in_answer}

pub answer_says : (clock : Clock) (h : Heard) (answer : runs.Heard Fault) → IsHeard clock h answer
    → SaysMessage clock (said_in_answer h) (said_by answer)
answer_says clock h (runs.Refused fault) is = ap said_in_answer is
answer_says clock h runs.OtherClock is = ap said_in_answer is
answer_says clock h runs.Late is = ap said_in_answer is
answer_says clock h runs.Early is = ap said_in_answer is
answer_says clock h runs.HeaderDiffers is = ap said_in_answer is
answer_says clock h runs.MissingReference is = ap said_in_answer is
answer_says clock h runs.Repeat is = ap said_in_answer is
answer_says clock h runs.Overlap is = ap said_in_answer is
answer_says clock h (runs.Completed message) is = (is.0, ap said_in_answer is.1, is.2)
answer_says clock h runs.Taken is = ap said_in_answer is
