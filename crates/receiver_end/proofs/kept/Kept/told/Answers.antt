use Rattle.std.proofs.Common.{true, false, Some, None, refl, ap, sym, ◌∙◌, subst}
use Rattle.packet_collector.specs.Collected.{header_in}
use Rattle.receiver_end.specs.Answers.{SaysMessage, mark_from}
use Rattle.receiver_end.proofs.Told.{mark_is, message_is, part_is}
use Rattle.receiver_end.proofs.kept.Kept.told.Goals as goal

pub returns-then-holds-clause-told : goal.returns-then-holds-clause-told
returns-then-holds-clause-told c =
    let r = c.args.self.now in
    let held = sym c.holds.ensures.value ∙ c.if-holds.true in
    record {
      mark_is = ap mark_from (sym (mark_is r true held));
      message_is = subst (SaysMessage r.params.clock None) (sym (message_is r true held)) refl;
    }

pub returns-clause-told : goal.returns-clause-told
returns-clause-told c =
    let r = c.args.self.now in
    let held = sym c.holds.ensures.value ∙ c.if-holds.false in
    record {
      mark_is = c.part.ensures ∙ part_is (header_in r.collector r.played) ∙ ap mark_from (sym (mark_is r false held));
      message_is = subst (SaysMessage r.params.clock (Some c.nack.result)) (sym (message_is r false held)) (
        c.nack.result,
        refl,
        c.nack.ensures,
      );
    }
