-- A line of a recorded trace that delivers packets.
use Rattle.std.proofs.Common.{◌≡◌, ℕ, ◌+◌, ◌*◌, ◌≤◌, Bool, true, false, List, ◌++◌, length, None, Ok, refl, sym, ap, subst, ◌∙◌, arith}
use Rattle.h263_outside.specs.Desk.{Outside}
use Rattle.h263_outside.specs.declared.desk.Role.{Role}
use Rattle.h263_outside.specs.declared.desk.Role.TheVariants.{Events}
use Rattle.loss_trace.specs.declared.event.Event.{Event as Line}
use Rattle.desk_program.specs.Run.Step.{Goes}
use Rattle.desk_program.specs.Ends.{Went}
use Rattle.desk_program.specs.Laws.{StepLaws, TurnLaws}
use Rattle.desk_program.specs.Texts.{no_texts}
use Rattle.call_model.specs.IdealCall.{Event, Deliver}
use Rattle.call_encoding.specs.Frames.{Frame}
use Rattle.receiver_end.specs.declared.kept.Kept.{Kept}
use Rattle.receiver_end.specs.State as receiver_end
use Rattle.one_way.specs.declared.network.Network.{Network}
use Rattle.one_way.specs.declared.way.Way.{Way}
use Rattle.one_way.specs.Both.{both_after, steady}
use Rattle.one_way.specs.Counts.{total_of}
use Rattle.one_way.specs.Laws.{NearLaws}
use Rattle.one_way.specs.Refused.{refusal_after}
use Rattle.one_way.specs.Way.{CanSend, IsAmongLast, MayHappenNow, kept_in, said_in, tally_of, way_of}
use Rattle.call_command.specs.declared.world.World.{World}
use Rattle.call_command.specs.Call.{CallState, after_line, by_ends, event_step, line_turn, may_read}
use Rattle.call_command.specs.Standing.{HasDone, CallParts, PartsReady, PartsStand, StoodBefore, more_of, call_parts}
use Rattle.call_command.specs.Turning.{TakesLine, names_of}
use Rattle.call_command.proofs.AfterTurn.{done_here, event_goes, line_goes_on}
use Rattle.call_command.proofs.Readying.{ready_so, recorded_keeps}

-- the parts after a delivery
abbrev pub with_network : CallParts → Network → Kept → CallParts
with_network x network receiver = record x { receiver = receiver; link = record x.link { network = network } }

module _ (x : CallParts) (attached : Role → Bool) (r : PartsReady x attached) (recorded : x.terms.plain ≡ false) where
  -- the parts are as ready after it
  pub ready_delivered : (network : Network) (receiver : Kept) → way_of network ≡ way_of x.link.network
      → receiver.played ≡ x.receiver.played
      → said_in network ≤ 400 * (x.link.trace.lines + x.sender.sent)
      → PartsReady (with_network x network receiver) attached
  ready_delivered network receiver way played said =
      ready_so x attached attached r refl x.video x.sender receiver (record x.link { network = network }) refl refl
      (subst (λ (w : Way). CanSend w x.sender) (sym way) r.can) (ap kept_in way)
      r.sent (omega (arith, r.played, played)) (λ plain. absurd (cc (plain, recorded))) r.frame
      (λ plain. absurd (cc (plain, recorded)))
      r.few (ap (λ (w : Way). total_of (tally_of w)) way ∙ r.counted ∙ sym played) said

  -- a packet that is not refused is among those that are kept, and near
  pub may_deliver : NearLaws x.terms.params → (s : CallState) (inputs : Role → List ℕ) → StoodBefore x s inputs
      → (later : List Frame) (n j : ℕ)
      → refusal_after x.terms.params s.before (s.frames ++ later) s.past (Deliver n j) ≡ None
      → IsAmongLast (way_of x.link.network) (length (both_after x.terms.params (steady x.terms.params) (s.frames
      ++ later) s.before s.past).sender.coded) n
      × MayHappenNow x.terms.params s.before (s.frames ++ later) s.past (Deliver n j)
  may_deliver near s inputs k later n j none =
      let p = x.terms.params in
      let may = near.deliver s.before (s.frames ++ later) s.past n j none in
      let among = near.packets (receiver_end.run_of p s.before) (steady p) (s.frames ++ later) s.past n j k.begun (
        may,
        (k.holds later).way_holds.near,
      ) in
      ((may.0, omega (arith, among, recorded_keeps x.terms _ r.period recorded)), may)

-- the packets of a line are delivered, of which one tells whether they may be
pub delivered_goes_on : (m y : World) (line : ℕ) (event said : Line) (n j : ℕ) (mid : Outside) (network : Network)
    (receiver : Kept) (events : CallState → List Event)
    → event ≡ said → names_of y ≡ names_of m → call_parts y ≡ with_network (call_parts m) network receiver
    → PartsReady (call_parts m) mid.attached → m.terms.plain ≡ false → way_of network ≡ way_of m.network
    → receiver.played ≡ m.receiver.now.played
    → said_in network ≤ 400 * (m.trace.lines + m.sender.now.sent) → NearLaws m.terms.params → TurnLaws → StepLaws
    → ((s : CallState) (inputs : Role → List ℕ) → StoodBefore (call_parts m) s inputs
    → refusal_after m.terms.params s.before s.frames s.past (Deliver n j) ≡ None
    → event_step by_ends s inputs (inputs Events) said
    ≡ Goes (after_line (record s { past = events s }) (inputs Events)) (line_turn (inputs Events) no_texts))
    → ((s : CallState) (frames : List Frame) → (receiver_end.run_of m.terms.params s.before).played ≡ 0
    → HasDone (call_parts m) s.before frames s.past
    → refusal_after m.terms.params s.before frames s.past (Deliver n j) ≡ None)
    → ((s : CallState) (inputs : Role → List ℕ) (k : StoodBefore (call_parts m) s inputs) (later : List Frame)
    → IsAmongLast (way_of m.network) (length (both_after m.terms.params (steady m.terms.params) (s.frames
    ++ later) s.before s.past).sender.coded) n
    × MayHappenNow m.terms.params s.before (s.frames ++ later) s.past (Deliver n j)
    → HasDone (with_network (call_parts m) network receiver) s.before (s.frames ++ later) (events s))
    → TakesLine m y line event (Ok true) mid mid
delivered_goes_on m y line event said n j mid network receiver events is names same r recorded way played few near turns
    steps step none holds =
    let x = call_parts m in
    line_goes_on m y line event said mid mid is names (ap more_of same)
    (subst (λ (q : CallParts). PartsReady q mid.attached) (sym same)
    (ready_delivered x mid.attached r recorded network receiver way played few)) (steps.none mid)
    (λ o s inputs b.
    let k = b.stood in
    subst (λ (q : CallParts). Went (event_step by_ends s inputs (inputs Events) said) (PartsStand q) may_read true
    inputs o
    mid) (sym same)
    (event_goes x s inputs k x.sender receiver (record x.link { network = network }) refl refl turns o mid b.taken said
    (events s)
    (step s inputs k (none s s.frames k.begun (done_here x s inputs k)))
    (λ later. holds s inputs k later (may_deliver x mid.attached r recorded near s inputs k later n j
    (none s (s.frames ++ later) k.begun (k.holds later))))))
