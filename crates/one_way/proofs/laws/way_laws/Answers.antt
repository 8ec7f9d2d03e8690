use Rattle.std.proofs.Common.{◌*◌, [], sym, ap, subst, ◌∙◌}
use Rattle.h263_types.specs.Sizes.{mbs_of}
use Rattle.h263_types.specs.declared.params.Params.{Params}
use Rattle.h263_types.specs.Params.{IsParams}
use Rattle.one_way.specs.Both.{IsStanding, steady}
use Rattle.one_way.proofs.Later.{holds_later}
use Rattle.one_way.proofs.OneMore.{heard_in, played_is, screen_is, sent_is}
use Rattle.one_way.proofs.laws.way_laws.Goals as goal

pub returns : goal.returns
returns c = λ p. record {
  first = λ pictures network sender receiver before frames new sender_params sends receiver_params receives. record {
    way_holds = record {
      joined = record {
        sender_params = sender_params;
        receiver_params = receiver_params;
        sends = sends;
        receives = receives;
      };
      near = tt;
      tally = new.way_is.tally;
      packets = new.way_is.packets;
      references = new.way_is.references;
    };
    messages_are = new.messages_are;
  };
  can = λ pictures way sender in_range new params sends quant sent.
      let same = sym params in
      record {
        in_range = subst IsParams same in_range;
        standing = subst (λ (q : Params). IsStanding (steady q) sender) same (record { entries = []; stands = sends });
        quant_is = quant ∙ ap (λ (q : Params). q.quant) same;
        room = new.room ∙ ap (λ (q : Params). 1200 * mbs_of q.format) same;
        most = new.most ∙ ap (λ (q : Params). mbs_of q.format) same;
        keeping = record { pictures = new.packets.pictures; keeps = new.packets.keeps };
        begun = new.begun ∙ sym sent;
      };
  later = λ way sender receiver before frames more past h. holds_later p (c.later_frames.ensures p) way sender receiver
      before frames past more h;
  sent = λ sender receiver before frames past j. sent_is p (c.ends_run.ensures p) (steady p) sender receiver frames
      before past j;
  played = λ sender receiver before frames past j. played_is p (c.ends_run.ensures p) (steady p) sender receiver frames
      before past j;
  shown = λ sender receiver before frames past picture j screen.
      screen (heard_in p (steady p) frames before past) j.receives
      ∙ screen_is p (c.ends_run.ensures p) (steady p) sender receiver frames before past j;
}
