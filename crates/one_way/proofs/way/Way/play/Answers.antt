-- A play and its answer are those of the receiver's run.
use Rattle.std.proofs.Common.{◌≡◌, ℕ, List, ◌++◌, Option, IfSome, refl, sym, ap, subst, ◌∙◌}
use Rattle.back_messages.specs.Said.{text_of_said}
use Rattle.back_messages.specs.declared.writing.Said.{Said}
use Rattle.coded_call.specs.Bytes.{AreBytes}
use Rattle.call_model.specs.JoinedRun.{SaidMessage}
use Rattle.call_model.specs.Receiving.{played_message}
use Rattle.call_decoding.specs.Rules.{rules_of}
use Rattle.receiver_end.specs.Decoding.{decoding}
use Rattle.one_way.specs.Both.{both_after, steady}
use Rattle.one_way.proofs.Holding.{holds_play}
use Rattle.one_way.proofs.OneMore.{after_play, heard_in, play_told, played_is}
use Rattle.one_way.proofs.Saying.{told_is, told_of}
use Rattle.one_way.proofs.way.Way.play.Goals as goal

pub returns-clause-mark : goal.returns-clause-mark
returns-clause-mark c = λ p sender before frames past h.
    (play_told p (c.ends_run.ensures p) (steady p) sender c.args.receiver.now frames before past h.joined
    c.play-played.result
    (c.play-played.ensures.told (heard_in p (steady p) frames before past) h.joined.receives)).mark_is

pub returns-clause-way : goal.returns-clause-way
returns-clause-way c = record {
  others = refl;
  kept = refl;
  can = λ sender can. record {
    in_range = can.in_range;
    standing = can.standing;
    quant_is = can.quant_is;
    room = can.room;
    most = can.most;
    keeping = can.keeping;
    begun = can.begun;
  };
}

pub returns-clause-holds : goal.returns-clause-holds
returns-clause-holds c = λ p sender before frames past h near.
    let runs = c.ends_run.ensures p in
    let entries = heard_in p (steady p) frames before past in
    let told = play_told p runs (steady p) sender c.args.receiver.now frames before past h.joined c.play-played.result
    (c.play-played.ensures.told entries h.joined.receives) in
    holds_play p c.args.self.now sender c.args.receiver.now before frames past h c.play-played.new.self c.count.new.self
    c.play-played.result.mark near
    (after_play p runs (steady p) sender c.args.receiver.now frames before past h.joined c.play-played.new.self
    c.play-played.ensures.params (c.play-played.ensures.stands entries h.joined.receives))
    c.count.ensures.value told.mark_is

pub returns-clause-says : goal.returns-clause-says
returns-clause-says c = λ p sender before frames past h.
    let w = both_after p (steady p) frames before past in
    let runs = c.ends_run.ensures p in
    let message = played_message (decoding p.format) (rules_of p) w.receiver in
    let told = play_told p runs (steady p) sender c.args.receiver.now frames before past h.joined c.play-played.result
    (c.play-played.ensures.told (heard_in p (steady p) frames before past) h.joined.receives)
    in
    let number : c.args.receiver.now.played ≡ w.receiver.played = played_is p runs (steady p) sender c.args.receiver.now
    frames before past h.joined in
    let fit : IfSome c.play-played.result.message (λ said. AreBytes (text_of_said said)) =
    subst (λ (o : Option Said). IfSome o (λ said. AreBytes (text_of_said said))) c.as_said.ensures.same
    c.as_said.ensures.bytes
    in
    ap (λ (n : ℕ). w.said ++ told_of n message) (sym number)
    ∙ ap (λ (l : List SaidMessage). w.said ++ l)
    (sym (told_is (c.message_laws.ensures p).said p.clock c.args.receiver.now.played c.play-played.result.message
    message told.message_is fit))

pub returns-clause-bytes : goal.returns-clause-bytes
returns-clause-bytes c =
    subst (λ (o : Option Said). IfSome o (λ said. AreBytes (text_of_said said))) c.as_said.ensures.same
    c.as_said.ensures.bytes
