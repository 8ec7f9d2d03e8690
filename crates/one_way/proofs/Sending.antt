-- A sender that codes with the quantiser of its parameters.
use Rattle.std.proofs.Common.{◌≡◌, ℕ, ◌-◌, ◌*◌, ◌≤◌, List, ◌∷◌, length, sym, ap, subst, ◌∙◌, arith}
use Rattle.h263_types.specs.Params.{IsParams}
use Rattle.h263_types.specs.declared.pace.FixedPace.{FixedPace}
use Rattle.h263_types.specs.declared.params.Params.{Params}
use Rattle.call_rings.specs.declared.sent_packets.SentPackets.{SentPackets}
use Rattle.call_rings.specs.Keeping.{begun_of, most_of, ring_room}
use Rattle.call_rings.specs.Parts.{total_size}
use Rattle.h263_types.specs.Sizes.{mbs_of}
use Rattle.call_model.specs.Lawful.{IsPace}
use Rattle.call_model.specs.Sending as call
use Rattle.call_model.specs.Sending.{SenderEntry}
use Rattle.call_decoding.specs.Rules.{rules_of}
use Rattle.call_encoding.specs.Encoding.{encoding}
use Rattle.call_encoding.specs.Frames.{Frame}
use Rattle.sender_end.specs.declared.answers.Coded.{Coded}
use Rattle.sender_end.specs.Stands as sender_end
use Rattle.one_way.specs.declared.way.Way.{Way}
use Rattle.one_way.specs.Both.{IsStanding, State, steady}
use Rattle.one_way.specs.Laws.{PacketLaws}
use Rattle.one_way.specs.Network.{AreRoomy, IsKeeping}
use Rattle.one_way.specs.Way.{CanSend}

-- the pace of one quantiser
abbrev pub paced : ℕ → List ℕ → ℕ
paced quant sizes = quant

-- what a call of the sender says with its own pace, with that of the parameters
pub stands_so : (p : Params) (quant : ℕ) → quant ≡ p.quant → (sender new : State) (e : SenderEntry Frame)
    → ((entries : List (SenderEntry Frame)) → sender_end.PacedStands (paced quant) sender entries
    → sender_end.PacedStands (paced quant) new (e ∷ entries))
    → (entries : List (SenderEntry Frame)) → sender_end.PacedStands (steady p) sender entries
    → sender_end.PacedStands (steady p) new (e ∷ entries)
stands_so p quant same sender new e =
    let as_steady : paced quant ≡ steady p = λ i _. same i in
    subst (λ (q : List ℕ → ℕ). (entries : List (SenderEntry Frame)) → sender_end.PacedStands q sender entries
    → sender_end.PacedStands q new (e ∷ entries)) as_steady

pub tells_so : (p : Params) (quant : ℕ) → quant ≡ p.quant → (sender : State) (f : Frame) (answer : Coded)
    → ((entries : List (SenderEntry Frame)) → sender_end.PacedStands (paced quant) sender entries
    → sender_end.Describes (length (sender_end.entries_run sender.params (paced quant) entries).coded)
    (sender_end.next_after sender.params (paced quant) f entries) answer)
    → (entries : List (SenderEntry Frame)) → sender_end.PacedStands (steady p) sender entries
    → sender_end.Describes (length (sender_end.entries_run sender.params (steady p) entries).coded)
    (sender_end.next_after sender.params (steady p) f entries) answer
tells_so p quant same sender f answer =
    let as_steady : paced quant ≡ steady p = λ i _. same i in
    subst (λ (q : List ℕ → ℕ). (entries : List (SenderEntry Frame)) → sender_end.PacedStands q sender entries
    → sender_end.Describes (length (sender_end.entries_run sender.params q entries).coded)
    (sender_end.next_after sender.params q f entries) answer) as_steady

-- it stands for one entry more
pub standing_so : (sender new : State) → sender.pace.quant ≡ sender.params.quant
    → IsStanding (steady sender.params) sender → (e : SenderEntry Frame) → new.params ≡ sender.params
    → ((entries : List (SenderEntry Frame)) → sender_end.PacedStands (paced sender.pace.quant) sender entries
    → sender_end.PacedStands (paced sender.pace.quant) new (e ∷ entries))
    → IsStanding (steady new.params) new
standing_so sender new same stood e params stands =
    let next : IsStanding (steady sender.params) new = record {
      entries = e ∷ stood.entries;
      stands = stands_so sender.params sender.pace.quant same sender new e stands stood.entries stood.stands;
    } in
    subst (λ (p : Params). IsStanding (steady p) new) (sym params) next

-- there is room for the packets of its last picture
pub roomy : (sender : State) → PacketLaws sender.params → IsPace (steady sender.params)
    → IsStanding (steady sender.params) sender → (packets : SentPackets)
    → ring_room packets ≡ 1200 * mbs_of sender.params.format → most_of packets ≡ mbs_of sender.params.format
    → AreRoomy packets (sender.packets)
roomy sender laws pace standing packets room_is most_is =
    let p = sender.params in
    let coded = (sender_end.entries_run p (steady p) standing.entries).coded in
    let last : ℕ = length coded - 1 in
    let is : sender.packets ≡ call.packets_at (encoding p) (rules_of p) coded last = sym standing.stands.seen.packets
    ∙ standing.stands.stands.packets in
    let room = laws.room (steady p) standing.entries last pace in
    record {
      bytes = subst (λ (l : List (List ℕ)). total_size l ≤ ring_room packets) (sym is) (omega (arith, room.0, room_is));
      count = subst (λ (l : List (List ℕ)). length l ≤ most_of packets) (sym is) (omega (arith, room.1, most_is));
    }

-- it can still send after one entry more
pub can_send : (way new_way : Way) (sender new : State) → CanSend way sender → (e : SenderEntry Frame)
    → new.params ≡ sender.params → new.pace ≡ sender.pace
    → ((entries : List (SenderEntry Frame)) → sender_end.PacedStands (paced sender.pace.quant) sender entries
    → sender_end.PacedStands (paced sender.pace.quant) new (e ∷ entries))
    → ring_room new_way.packets ≡ ring_room way.packets → most_of new_way.packets ≡ most_of way.packets
    → IsKeeping new_way.packets → begun_of new_way.packets ≡ new.sent
    → CanSend new_way new
can_send way new_way sender new can e params same stands room most keeping begun = record {
  in_range = subst IsParams (sym params) can.in_range;
  standing = standing_so sender new can.quant_is can.standing e params stands;
  quant_is = ap (λ (pace : FixedPace). pace.quant) same ∙ can.quant_is ∙ ap (λ (p : Params). p.quant) (sym params);
  room = room ∙ can.room ∙ ap (λ (p : Params). 1200 * mbs_of p.format) (sym params);
  most = most ∙ can.most ∙ ap (λ (p : Params). mbs_of p.format) (sym params);
  keeping = keeping;
  begun = begun;
}
