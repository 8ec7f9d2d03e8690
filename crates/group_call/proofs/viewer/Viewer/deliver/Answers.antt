use Rattle.std.proofs.Common.{◌≡◌, ℕ, List, ◌++◌, Option, Some, None, sym, ap, subst, ◌∙◌}
use Rattle.std.specs.Prelude.{slice_get}
use Rattle.std.specs.Option.{option_map, option_map_or}
use Rattle.back_messages.specs.declared.writing.Said.{Said}
use Rattle.h263_types.specs.declared.params.Params.{Params}
use Rattle.call_encoding.specs.Messages.{write_message}
use Rattle.call_model.specs.JoinedRun.{SaidMessage, said_to}
use Rattle.receiver_end.specs.Answers.{IsHeard, SaysMessage, said_by}
use Rattle.receiver_end.specs.State.{answer_after}
use Rattle.one_way.specs.Network.{HasMessages, told_by}
use Rattle.group_call.specs.declared.viewer.Viewer.{Viewer}
use Rattle.group_call.specs.Holding.{HoldsViewer}
use Rattle.group_call.specs.Viewing.{coded_packets, view_packet}
use Rattle.group_call.proofs.viewer.Viewer.deliver.Goals as goal

-- no such packet is there
pub returns-in_default-clause-holds : goal.returns-in_default-clause-holds
returns-in_default-clause-holds c = λ p run view cast among h.
    let none : slice_get (coded_packets p run.coded c.args.number) c.args.place ≡ None =
    sym (c.packet.ensures p run cast among) ∙ ap (λ o. option_map (λ packet. packet.now) o) c.in_default.is
    in
    subst (λ (o : Option (List ℕ)). HoldsViewer p c.args.self.now
    (option_map_or (view_packet p c.args.number view) o view)) (sym none) h

pub returns-clause-holds : goal.returns-clause-holds
returns-clause-holds c = λ p run view cast among h.
    let n = c.args.number in
    let bytes = c.in-Some.bytes.now in
    let there : slice_get (coded_packets p run.coded n) c.args.place ≡ Some bytes =
    sym (c.packet.ensures p run cast among) ∙ ap (λ o. option_map (λ packet. packet.now) o) c.in-Some.is
    in
    let answer = answer_after p view.entries bytes in
    let heard_so : IsHeard p.clock c.packet-heard.result answer =
    subst (λ (q : Params). IsHeard q.clock c.packet-heard.result (answer_after q view.entries bytes)) h.params
    (c.packet-heard.ensures.answer view.entries h.receives)
    in
    let says : SaysMessage p.clock c.as_bytes.result (said_by answer) =
    subst (λ (o : Option Said). SaysMessage p.clock o (said_by answer)) (sym (c.as_bytes.ensures.same
    ∙ c.message.ensures))
    (c.answers_say.ensures p.clock c.packet-heard.result answer heard_so)
    in
    let told : told_by n c.as_bytes.result ≡ said_to write_message n answer =
    (c.ring_laws.ensures p).answered n c.as_bytes.result answer says c.as_bytes.ensures.bytes
    in
    let new : Viewer = record c.args.self.now {
      receiver = c.packet-heard.new.self;
      messages = c.keep_told.new.messages;
    } in
    let after : HoldsViewer p new (view_packet p n view bytes) = record {
      params = c.packet-heard.ensures.params ∙ h.params;
      receives = c.packet-heard.ensures.stands view.entries h.receives;
      messages = subst (λ (l : List SaidMessage). HasMessages c.keep_told.new.messages (view.told ++ l)) told
          (c.keep_told.ensures.kept view.told h.messages);
      marks = h.marks;
    } in
    subst (λ (o : Option (List ℕ)). HoldsViewer p new (option_map_or (view_packet p n view) o view)) (sym there) after
