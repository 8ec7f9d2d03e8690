-- Each packet that the joiner gives is taken as one of the log would be.
use Rattle.std.proofs.Common.{◌≡◌, ℕ, ◌+◌, ◌*◌, ◌^◌, ◌≤◌, Bool, List, ◌∷◌, length, sym, ap, subst, ◌∙◌, arith}
use Rattle.h263_outside.specs.declared.desk.Role.{Role}
use Rattle.h263_outside.specs.declared.desk.Role.TheVariants.{Pictures, Report, Wire}
use Rattle.h263_types.specs.declared.format.Format.{Format}
use Rattle.h263_types.specs.declared.params.Params.{Params}
use Rattle.desk_program.specs.Texts.{no_texts}
use Rattle.payload_join.specs.Run.{given_next}
use Rattle.recv_command.specs.declared.join_tally.JoinTally.{JoinTally}
use Rattle.recv_command.specs.Join.{given_to, delivers}
use Rattle.recv_command.specs.JoinTally.{packets_taken, with_joined, with_took}
use Rattle.recv_command.specs.Recv.{RecvStands}
use Rattle.recv_command.proofs.Joined.{params_stay, stands_after}
use Rattle.recv_command.proofs.join.JoiningLogCommand.packet.Goals as goal

pub returns-clause-stands : goal.returns-clause-stands
returns-clause-stands g c = λ s stands.
    let bytes = c.args.bytes.now in
    let all = given_to s bytes in
    let mid = c.take-took.new.self in
    let left : mid.left ≡ all =
    c.take-took.ensures.left s.packets stands.joiner
    ∙ ap (λ (f : Format). given_next f s.packets bytes) (sym stands.format) in
    let answer = c.take-took.ensures.answer s.packets stands.joiner in
    record {
      format = ap (λ (p : Params). p.format) (params_stay all (record { state = s.receiver; texts = no_texts }))
          ∙ stands.format;
      took = (λ i. with_joined (length (sym left i)) (with_took (sym answer i) (stands.took i)))
          ∙ (ap (with_joined (length mid.left)) (sym c.take.ensures.counts) ∙ sym c.deliver_all.ensures.took);
      joiner = stands_after c.deliver_all.new.joiner mid (bytes ∷ s.packets) c.deliver_all.ensures.top
          c.deliver_all.ensures.packets
          (c.take-took.ensures.stands s.packets stands.joiner);
      receiver = subst (λ (l : List (List ℕ)). RecvStands c.deliver_all.new.receiving (delivers s.receiver l).state)
          left
          (c.deliver_all.ensures.stands s.receiver stands.receiver);
    }

pub returns-clause-ready : goal.returns-clause-ready
returns-clause-ready g c = λ n ready.
    let bytes = c.args.bytes.now in
    let mid = c.take-took.new.self in
    let left = c.take-took.ensures.left ready.past ready.stands in
    let few : length mid.left ≤ 2 ^ 22 =
    subst (λ (l : List (List ℕ)). length l ≤ 2 ^ 22) (sym left)
    (c.few_given.ensures c.args.self.now.format ready.past bytes) in
    let same = c.deliver_all.ensures.has_written.rest.attached in
    let packets : packets_taken c.take.new.self ≤ n + 1 = omega (arith, ready.packets, c.take.ensures.packets) in
    let joined : c.take.new.self.joined + length mid.left ≤ 2 ^ 22 * (n + 1) = omega (
      arith,
      ready.joined,
      c.take.ensures.joined,
      few,
    ) in
    record {
      pictures = ap (λ (f : Role → Bool). f Pictures) same ∙ ready.pictures;
      wire = ap (λ (f : Role → Bool). f Wire) same ∙ ready.wire;
      report = ap (λ (f : Role → Bool). f Report) same ∙ ready.report;
      none_left = c.deliver_all.ensures.left;
      past = bytes ∷ ready.past;
      stands = stands_after c.deliver_all.new.joiner mid (bytes ∷ ready.past) c.deliver_all.ensures.top
          c.deliver_all.ensures.packets
          (c.take-took.ensures.stands ready.past ready.stands);
      packets = subst (λ (t : JoinTally). packets_taken t ≤ n + 1) (sym c.deliver_all.ensures.took) packets;
      joined = subst (λ (t : JoinTally). t.joined ≤ 2 ^ 22 * (n + 1)) (sym c.deliver_all.ensures.took) joined;
      counted = omega (arith, ready.counted, c.deliver_all.ensures.total, few);
    }
