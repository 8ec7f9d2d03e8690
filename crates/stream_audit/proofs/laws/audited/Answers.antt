use Rattle.stream_audit.specs.Stream.{stream_of}
use Rattle.stream_audit.proofs.Calls.{CallLaws}
use Rattle.stream_audit.proofs.Replays.{none_is_refused, exact_where_all_came}
use Rattle.stream_audit.proofs.laws.audited.Goals as goal

pub returns : goal.returns
returns g c decoding read rules lawful ruled in_period log count approved =
    let laws : CallLaws decoding rules = record {
      sender = c.any_sound_sender.ensures decoding rules lawful ruled;
      arrived = c.by_events.ensures.arrived decoding.pictures rules;
      not_refused = c.in_a_call.ensures.not_refused;
      nearest = c.nearest.ensures.in_period;
      below = c.searches.ensures.all_below;
    } in
    let sound = ((c.yes_is_sound.ensures decoding read rules lawful log count).0 approved).2 in (
      none_is_refused decoding read rules in_period laws (stream_of decoding log) sound,
      exact_where_all_came decoding read rules in_period laws (stream_of decoding log) sound,
    )
