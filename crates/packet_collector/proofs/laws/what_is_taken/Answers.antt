use Rattle.packet_collector.proofs.Pieces.{member, absent, never, any_same, any_other, taken_held, taken_not_held, taken_other}
use Rattle.packet_collector.proofs.laws.what_is_taken.Goals as goal

pub returns : goal.returns
returns c = record {
  member = λ taken n e. let m = member taken n e in (m.one, m.in-list, m.number);
  absent = absent;
  never = never;
  same = any_same;
  other = any_other;
  held = taken_held;
  not_held = taken_not_held;
  other_held = taken_other;
}
