use Rattle.desk_program.proofs.Parts.{gains_on, fronts_on, gains_none, gains_both, fronts_first, fronts_second, tells_none, tells_one, tells_end, tells_both, ends_at, refuses, refuses_video}
use Rattle.desk_program.proofs.laws.turn_laws.Goals as goal

pub returns : goal.returns
returns c = record {
  one_text = gains_on;
  one_front = fronts_on;
  no_text = gains_none;
  both_texts = gains_both;
  front_of_first = fronts_first;
  front_of_second = fronts_second;
  no_byte = tells_none;
  one_read = tells_one;
  none_read = tells_end;
  both_reads = tells_both;
  ends = ends_at;
  refuses = refuses;
  refuses_video = refuses_video;
}
