-- What a packet does is what `packet` does; its picture's number is that of its header.
use Rattle.std.proofs.Common.{◌≡◌, List, length, Ok, Err, refl, ap, sym, ◌∙◌, subst}
use Rattle.std.proofs.lemmas.List.{with_items_is}
use Rattle.h263_types.specs.declared.blocks.Mb.{Mb}
use Rattle.packet_collector.specs.Packet.{packet_at}
use Rattle.call_model.specs.Receiving.{heard}
use Rattle.call_decoding.specs.Rules.{rules_of}
use Rattle.receiver_end.specs.declared.kept.Kept.{Kept}
use Rattle.receiver_end.specs.Answers.{IsHeard}
use Rattle.receiver_end.specs.Decoding.{decoding, with_piece}
use Rattle.receiver_end.specs.State.{Stands, number_after, run_of}
use Rattle.receiver_end.specs.Steps.{piece_in}
use Rattle.receiver_end.proofs.Runs.{heard_ok, heard_err, stays_err}
use Rattle.receiver_end.proofs.Arrived.{number_err, number_ok}
use Rattle.receiver_end.proofs.receiver.Receiver.arrival.Goals as goal

pub returns-in-Err-clause-answer : goal.returns-in-Err-clause-answer
returns-in-Err-clause-answer c = λ past stands.
    heard_err c.args.self.now past stands c.args.bytes.now c.in-Err.fault
    (subst (λ (k : Kept). packet_at k.params.format c.args.bytes.now ≡ Err c.in-Err.fault) c.self.view_is
    c.in-Err.ensures.exact)

pub returns-in-Err-clause-stands : goal.returns-in-Err-clause-stands
returns-in-Err-clause-stands c = λ past stands.
    let k = c.self.inside.kept in
    let mine : Stands k past = subst (λ (x : Kept). Stands x past) (sym c.self.view_is) stands in
    stays_err k past mine (c.receiver_stands.ensures.other (decoding k.params.format) (rules_of k.params)
    (c.is_decoding.ensures k.params) (c.are_rules.ensures k.params c.self.invariant.0.params))
    c.args.bytes.now c.in-Err.fault c.in-Err.ensures.exact

pub returns-in-Ok-clause-answer : goal.returns-in-Ok-clause-answer
returns-in-Ok-clause-answer c = λ past stands.
    let k = c.self.inside.kept in let bytes = c.args.bytes.now in
    let mine : Stands k past = subst (λ (x : Kept). Stands x past) (sym c.self.view_is) stands in
    let long : length c.read_packet.new.out ≡ c.self.inside.mbs.items.len = c.read_packet.ensures.size
    ∙ ap length c.deref_mut.ensures.value ∙ sym c.self.inside.mbs.items.ok.0 in
    let out : c.deref.result.now ≡ c.read_packet.new.out = c.deref.ensures.value
    ∙ with_items_is c.self.inside.mbs.items c.read_packet.new.out long in
    let read : (decoding k.params.format).read bytes ≡ Ok (piece_in c.in-Ok.piece c.deref.result.now) =
    ap with_piece c.in-Ok.ensures.exact ∙ ap (λ (l : List Mb). Ok (piece_in c.in-Ok.piece l)) (sym out) in
    subst (λ (x : Kept). IsHeard x.params.clock c.packet.result (heard (decoding x.params.format) (rules_of x.params)
    (run_of x.params past) ((decoding x.params.format).read bytes))) c.self.view_is
    (heard_ok k past mine (c.receiver_stands.ensures.answer (decoding k.params.format) (rules_of k.params)
    (c.is_decoding.ensures k.params) (c.are_rules.ensures k.params c.self.invariant.0.params))
    bytes (piece_in c.in-Ok.piece c.deref.result.now) read c.packet.result c.packet.ensures.answer)

pub returns-in-Ok-clause-stands : goal.returns-in-Ok-clause-stands
returns-in-Ok-clause-stands c = λ past stands.
    let k = c.self.inside.kept in let bytes = c.args.bytes.now in
    let mine : Stands k past = subst (λ (x : Kept). Stands x past) (sym c.self.view_is) stands in
    let long : length c.read_packet.new.out ≡ c.self.inside.mbs.items.len = c.read_packet.ensures.size
    ∙ ap length c.deref_mut.ensures.value ∙ sym c.self.inside.mbs.items.ok.0 in
    let out : c.deref.result.now ≡ c.read_packet.new.out = c.deref.ensures.value
    ∙ with_items_is c.self.inside.mbs.items c.read_packet.new.out long in
    let read : (decoding k.params.format).read bytes ≡ Ok (piece_in c.in-Ok.piece c.deref.result.now) =
    ap with_piece c.in-Ok.ensures.exact ∙ ap (λ (l : List Mb). Ok (piece_in c.in-Ok.piece l)) (sym out) in
    c.packet.ensures.stands past bytes mine read

pub returns-in-Err-clause-number : goal.returns-in-Err-clause-number
returns-in-Err-clause-number c = λ past stands.
    number_err c.args.self.now past c.args.bytes.now c.in-Err.fault
    (subst (λ (k : Kept). packet_at k.params.format c.args.bytes.now ≡ Err c.in-Err.fault) c.self.view_is
    c.in-Err.ensures.exact)

pub returns-in-Ok-clause-number : goal.returns-in-Ok-clause-number
returns-in-Ok-clause-number c = λ past stands.
    let k = c.self.inside.kept in let bytes = c.args.bytes.now in
    let mine : Stands k past = subst (λ (x : Kept). Stands x past) (sym c.self.view_is) stands in
    let p = piece_in c.in-Ok.piece c.read_packet.new.out in
    let read : (decoding k.params.format).read bytes ≡ Ok p = ap with_piece c.in-Ok.ensures.exact in
    subst (λ (x : Kept). c.number_of.result ≡ number_after x.params past bytes) c.self.view_is
    (c.number_of.ensures p refl ∙ number_ok k past mine bytes p read)
