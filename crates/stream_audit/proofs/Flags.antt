-- No rule of a stream asks for flags.
use Rattle.std.proofs.Common.{ℕ, refl}
use Rattle.std.specs.Prelude.{List, Result}
use Rattle.call_model.specs.Coding.{Rules, Message, Decoding}
use Rattle.call_model.specs.Sending.{nearest, nearest_below, made_known, called_complete}
use Rattle.stream_audit.specs.Verdict.{FlagsAreNotJudged}

pub not_judged : {Style Mb P Fault MessageFault : Type 0} (decoding : Decoding Style Mb P Fault) (read : List ℕ
    → Result Message MessageFault) (rules : Rules)
    → FlagsAreNotJudged decoding read rules
unfolding nearest nearest_below made_known called_complete
not_judged decoding read rules flags past = refl
