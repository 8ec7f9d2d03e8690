-- A packet that is there is taken as the receiver's run has it; where there is none nothing changes.
use Rattle.std.proofs.Common.{◌≡◌, ℕ, List, ◌++◌, Option, Some, None, IfSome, sym, ap, subst, ◌∙◌}
use Rattle.std.specs.Prelude.{slice_get}
use Rattle.std.specs.Option.{option_map, option_map_or}
use Rattle.std.proofs.lemmas.List.{append-nil}
use Rattle.back_messages.specs.declared.writing.Said.{Said}
use Rattle.back_messages.specs.Said.{text_of_said}
use Rattle.coded_call.specs.Bytes.{AreBytes}
use Rattle.call_model.specs.JoinedRun.{SaidMessage, after_bytes}
use Rattle.call_model.specs.Receiving.{heard}
use Rattle.call_model.specs.Sending as call
use Rattle.call_decoding.specs.Rules.{rules_of}
use Rattle.call_encoding.specs.Encoding.{encoding}
use Rattle.coded_call.specs.Coding.{coding}
use Rattle.receiver_end.specs.Answers.{SaysMessage, said_by}
use Rattle.receiver_end.specs.Decoding.{decoding}
use Rattle.one_way.specs.Both.{both_after, steady}
use Rattle.one_way.specs.Network.{told_by}
use Rattle.one_way.proofs.OneMore.{after_none, after_packet, heard_in, packet_answer}
use Rattle.one_way.proofs.Ring.{kept_is}
use Rattle.one_way.proofs.Saying.{heard_told, told_is, told_of}
use Rattle.one_way.proofs.Holding.{holds_packet}
use Rattle.one_way.proofs.way.Way.deliver.Goals as goal

-- no such packet is there
pub returns-in_default-clause-holds : goal.returns-in_default-clause-holds
returns-in_default-clause-holds c = λ p sender before frames past h among near.
    let coded = (both_after p (steady p) frames before past).sender.coded in
    let n = c.args.number in
    let none : slice_get (call.packets_at (encoding p) (rules_of p) coded n) c.args.place ≡ None =
    ap (λ (l : List (List ℕ)). slice_get l c.args.place) (sym (kept_is p c.args.self.now coded n h.packets among))
    ∙ sym (c.packet.ensures h.packets.pictures h.packets.keeps)
    ∙ ap (λ o. option_map (λ packet. packet.now) o) c.in_default.is
    in
    holds_packet p c.args.self.now sender c.args.receiver.now before frames past h c.args.receiver.now n c.args.place
    near
    (after_none p (c.ends_run.ensures p) (steady p) sender c.args.receiver.now frames before past h.joined n
    c.args.place none)

pub returns-in_default-clause-says : goal.returns-in_default-clause-says
returns-in_default-clause-says c = λ p sender before frames past h among.
    let w = both_after p (steady p) frames before past in
    let n = c.args.number in
    let none : slice_get (call.packets_at (encoding p) (rules_of p) w.sender.coded n) c.args.place ≡ None =
    ap (λ (l : List (List ℕ)). slice_get l c.args.place)
    (sym (kept_is p c.args.self.now w.sender.coded n h.packets among))
    ∙ sym (c.packet.ensures h.packets.pictures h.packets.keeps)
    ∙ ap (λ o. option_map (λ packet. packet.now) o) c.in_default.is
    in
    ap (λ (o : Option (List ℕ)). (option_map_or (after_bytes (coding p) (rules_of p) w n) o w).said) none
    ∙ sym (append-nil w.said)

-- the packet is delivered
pub returns-clause-holds : goal.returns-clause-holds
returns-clause-holds c = λ p sender before frames past h among near.
    let coded = (both_after p (steady p) frames before past).sender.coded in
    let n = c.args.number in
    let there : slice_get (call.packets_at (encoding p) (rules_of p) coded n) c.args.place ≡ Some c.in-Some.bytes.now =
    ap (λ (l : List (List ℕ)). slice_get l c.args.place) (sym (kept_is p c.args.self.now coded n h.packets among))
    ∙ sym (c.packet.ensures h.packets.pictures h.packets.keeps)
    ∙ ap (λ o. option_map (λ packet. packet.now) o) c.in-Some.is
    in
    holds_packet p c.args.self.now sender c.args.receiver.now before frames past h c.packet-heard.new.self n
    c.args.place near
    (after_packet p (c.ends_run.ensures p) (steady p) sender c.args.receiver.now frames before past h.joined
    c.packet-heard.new.self n c.args.place c.in-Some.bytes.now
    c.packet-heard.ensures.params there (c.packet-heard.ensures.stands (heard_in p (steady p) frames before past)
    h.joined.receives))

pub returns-clause-says : goal.returns-clause-says
returns-clause-says c = λ p sender before frames past h among.
    let w = both_after p (steady p) frames before past in
    let n = c.args.number in
    let bytes = c.in-Some.bytes.now in
    let there : slice_get (call.packets_at (encoding p) (rules_of p) w.sender.coded n) c.args.place ≡ Some bytes =
    ap (λ (l : List (List ℕ)). slice_get l c.args.place)
    (sym (kept_is p c.args.self.now w.sender.coded n h.packets among))
    ∙ sym (c.packet.ensures h.packets.pictures h.packets.keeps)
    ∙ ap (λ o. option_map (λ packet. packet.now) o) c.in-Some.is
    in
    let answer = heard (decoding p.format) (rules_of p) w.receiver ((decoding p.format).read bytes) in
    let heard_so = packet_answer p (c.ends_run.ensures p) (steady p) sender c.args.receiver.now frames before past
    h.joined c.packet-heard.result bytes
    (c.packet-heard.ensures.answer (heard_in p (steady p) frames before past) h.joined.receives)
    in
    let says : SaysMessage p.clock c.message.result (said_by answer) =
    subst (λ (o : Option Said). SaysMessage p.clock o (said_by answer)) (sym c.message.ensures)
    (c.answers_say.ensures p.clock c.packet-heard.result answer heard_so)
    in
    let fit : IfSome c.message.result (λ said. AreBytes (text_of_said said)) =
    subst (λ (o : Option Said). IfSome o (λ said. AreBytes (text_of_said said))) c.as_said.ensures.same
    c.as_said.ensures.bytes
    in
    let told : told_by n c.as_said.result ≡ told_of n (said_by answer) =
    ap (told_by n) c.as_said.ensures.same
    ∙ told_is (c.message_laws.ensures p).said p.clock n c.message.result (said_by answer) says fit
    in
    ap (λ (o : Option (List ℕ)). (option_map_or (after_bytes (coding p) (rules_of p) w n) o w).said) there
    ∙ ap (λ (l : List SaidMessage). w.said ++ l) (heard_told n answer ∙ sym told)
