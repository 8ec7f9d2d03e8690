use Rattle.std.specs.Prelude.{slice_get}
use Rattle.call_model.specs.Sending.{packets_at}
use Rattle.call_decoding.specs.Rules.{rules_of}
use Rattle.coded_call.specs.Coding.{coding}
use Rattle.receiver_end.specs.State.{run_of}
use Rattle.one_way.specs.Both.{both_after, steady}
use Rattle.one_way.proofs.BothAfter.{coded_brought, near_delivered, played_delivered, plays_delivered, sender_after, sender_delivered}
use Rattle.one_way.proofs.Joining.{coded_sent}
use Rattle.one_way.proofs.laws.event_laws.Goals as goal

pub returns : goal.returns
returns c = λ p. record {
  captured = λ before frames past frame at. coded_sent (coding p) (rules_of p) (steady p) frames
      (run_of p before) past frame at;
  sender = λ before frames n count past. sender_delivered (coding p) (rules_of p) (run_of p before)
      (steady p) frames n count past;
  plays = λ before frames n count past. plays_delivered (coding p) (rules_of p) (run_of p before)
      (steady p) frames n count past;
  played = λ before frames n count past. played_delivered (coding p) (rules_of p) (run_of p before)
      (steady p) frames n count past;
  near = λ before frames n count j past first near. near_delivered (coding p) (rules_of p) (run_of p before)
      (steady p) frames n count past first.0 first.1 near;
  packet = λ before frames n j past.
      let w = both_after p (steady p) frames before past in
      sender_after (coding p) (rules_of p) (run_of p before) (steady p) frames w n
      (slice_get (packets_at (coding p).encoding (rules_of p) w.sender.coded n) j);
  message = λ before frames k past.
      let w = both_after p (steady p) frames before past in
      coded_brought (coding p) (rules_of p) (run_of p before) (steady p) frames w (slice_get w.said k);
}
