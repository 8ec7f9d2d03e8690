use Rattle.std.proofs.Common.{◌≡◌}
use Rattle.std.specs.Option.{option_map}
use Rattle.h263_planes.specs.Lent.{picture}
use Rattle.h263_planes.specs.Work as lent
use Rattle.mode_choice.specs.Choice.{choices_of}
use Rattle.packet_cutter.specs.Cutting.{limit_of, sequence_of}
use Rattle.motion_search.specs.Areas.{AreSumsOfAny}
use Rattle.picture_coder.specs.Coding.{HoldsFirst, HasShown}
use Rattle.picture_coder.proofs.coding.code_picture.Given as goal

-- the macroblocks before `at` were chosen, are added, and are shown
abbrev pub invariant-loop-at : goal.invariant-loop-at
invariant-loop-at l = record {
  added : HoldsFirst l.number l.header (choices_of (picture l.frame) (option_map picture l.reference) l.header l.params)
      l.at l.cutter;
  limit : limit_of l.cutter ≡ limit_of l.fn.cutter;
  sequence : sequence_of l.cutter ≡ sequence_of l.fn.cutter;
  shown : HasShown l.header (option_map picture l.reference)
      (choices_of (picture l.frame) (option_map picture l.reference) l.header l.params) l.at (lent.work l.work);
  sums : AreSumsOfAny (option_map picture l.reference) l.chosen.sums;
  same_loan : lent.loan_of l.work ≡ lent.loan_of l.fn.work;
}
