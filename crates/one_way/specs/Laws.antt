-- What the laws of the crates below say of a call's two ends.
use Rattle.std.specs.Prelude.{◌≡◌, ℕ, ◌+◌, ◌*◌, ◌≤◌, ◌<◌, List, [], ◌∷◌, ◌++◌, length, slice_get, slice_index_or, Option, Some, None, IfSome}
use Rattle.one_way.specs.declared.network.Network.{Network}
use Rattle.one_way.specs.declared.way.Way.{Way}
use Rattle.one_way.specs.declared.references.References.{References}
use Rattle.one_way.specs.declared.tally.Tally.{Tally}
use Rattle.one_way.specs.Counts.{AreCounted, tally_counted}
use Rattle.one_way.specs.Network.{HasPackets, HasReferences, told_by}
use Rattle.one_way.specs.References.{AreNoted}
use Rattle.one_way.specs.Both.{AreJoined, State, both_after, next_of, steady}
use Rattle.one_way.specs.Refused.{refusal_after}
use Rattle.one_way.specs.Trace.{delivered}
use Rattle.one_way.specs.Way.{CanSend, HoldsNetwork, HoldsWay, IsNewNetwork, IsNewWay, MayHappenNow}
use Rattle.one_way.specs.Seen.{in_both, in_call, reference_in}
use Rattle.h263_types.specs.Sizes.{mbs_of}
use Rattle.call_model.specs.CodedPictures.{Coded, capture}
use Rattle.call_model.specs.Sending.{SenderEntry, header_of, packets_at}
use Rattle.call_rings.specs.Parts.{total_size}
use Rattle.call_rings.specs.Keeping.{HoldsPackets, PacketsOfPictures, kept_of, ring_period}
use Rattle.call_rings.specs.declared.sent_packets.SentPackets.{SentPackets}
use Rattle.sender_end.specs.Stands as sender_end
use Rattle.receiver_end.specs.declared.kept.Kept.{Kept}
use Rattle.receiver_end.specs.State as receiver_end
use Rattle.h263_planes.specs.Picture.{Picture}
use Rattle.h263_types.specs.declared.blocks.Mb.{Mb}
use Rattle.h263_types.specs.declared.Mark.{Mark}
use Rattle.h263_bits.specs.declared.fault.Fault.{Fault}
use Rattle.std.specs.Option.{option_map_or}
use Rattle.h263_types.specs.declared.clock.Clock.{Clock}
use Rattle.h263_types.specs.declared.params.Params.{Params}
use Rattle.h263_types.specs.Params.{IsParams}
use Rattle.back_messages.specs.Said.{text_of_said}
use Rattle.back_messages.specs.declared.writing.Said.{Said}
use Rattle.call_model.specs.Coding.{Header, Message, Shown, Slice}
use Rattle.call_model.specs.IdealCall.{Event, Send, Deliver, Play, Back, AllMayHappen, ideal}
use Rattle.call_model.specs.Receiving.{Heard, ReceiverEntry}
use Rattle.call_model.specs.InTheCall.{AllNearIsAllNearBoth}
use Rattle.call_model.specs.Rings.{MessagesAreInRing, PacketsAreInRing}
use Rattle.call_model.specs.Before.{ArrivedWasDelivered, CountsAreThose}
use Rattle.call_model.specs.JoinedRun.{AllMayHappenBoth, EachEndRuns, SaidMessage, joined, new_receiver, said_to}
use Rattle.call_model.specs.Lawful.{IsPace}
use Rattle.call_model.specs.TwoStores.{EndsFollow}
use Rattle.call_decoding.specs.Rules.{rules_of}
use Rattle.call_decoding.specs.Samples.{pictures}
use Rattle.call_decoding.specs.Styles.{Style}
use Rattle.call_encoding.specs.Encoding.{encoding}
use Rattle.call_encoding.specs.Frames.{Frame}
use Rattle.call_encoding.specs.Messages.{write_message}
use Rattle.coded_call.specs.Bytes.{AreBytes}
use Rattle.coded_call.specs.Coding.{coding}
use Rattle.receiver_end.specs.Answers.{SaysMessage, IsSaid, mark_from, said_by}

pub record CallLaws (p : Params) : Type 0 where
  -- each end does what its own run does
  pub runs : EachEndRuns (coding p) (rules_of p)
  -- the pictures that were sent and played can be counted by the events
  pub counts : (pace : List ℕ → ℕ) (frames : List Frame) → CountsAreThose (coding p) (rules_of p) pace frames
  -- what has arrived is what was delivered in time
  pub arrived : (pace : List ℕ → ℕ) (frames : List Frame) → ArrivedWasDelivered (coding p) (rules_of p) pace frames
  -- in a near call both ends do what the ideal call says
  pub follow : (pace : List ℕ → ℕ) (frames : List Frame) (past : List Event) → IsPace pace
      → AllMayHappen (coding p) (rules_of p) pace frames past
      → EndsFollow (coding p) (rules_of p) (ideal (coding p) (rules_of p) pace frames past)
      (joined (coding p) (rules_of p) (new_receiver (coding p) (rules_of p)) pace frames past)

-- both ends show what the ideal call shows, where the receiver had heard nothing before
abbrev pub ShowTheSame : Params → List Frame → List Event → Type 0
ShowTheSame p frames past =
    in_both (both_after p (steady p) frames [] past) ≡ in_call (ideal (coding p) (rules_of p) (steady p) frames past)

-- a message is said by the bytes that are written of it, and a picture has a packet for each slice
pub record NetworkLaws (p : Params) : Type 0 where
  pub said : (clock : Clock) (said : Said) (message : Message)
      → AreBytes (text_of_said said) → IsSaid clock said message
      → text_of_said said ≡ write_message message
  pub count : (number sequence : ℕ) (h : Header Style) (slices : List (Slice Mb))
      → length ((encoding p).packets number sequence h slices) ≡ length slices

-- The packets of a picture that a sender coded have room in the ring of packets, and so have those of
-- any picture that was captured, whatever was chosen as its reference.
pub record PacketLaws (p : Params) : Type 0 where
  pub room : (pace : List ℕ → ℕ) (entries : List (SenderEntry Frame)) (n : ℕ) → IsPace pace
      → let packets = packets_at (encoding p) (rules_of p) (sender_end.entries_run p pace entries).coded n in
      (total_size packets ≤ 1200 * mbs_of p.format) × (length packets ≤ mbs_of p.format)
  pub captured : (quant : ℕ) (frame : Frame) (coded : List (Coded Style Mb Picture)) (reference : Option ℕ)
      (n sequence : ℕ)
      → (0 < quant) × (quant < 32)
      → let x = capture (pictures p.format) (encoding p) quant frame coded reference in
      let packets = (encoding p).packets n sequence (header_of (rules_of p) n x) x.slices in
      (total_size packets ≤ 1200 * mbs_of p.format) × (length packets ≤ mbs_of p.format)

-- an event that isn't refused is near, and what it asks for is there
pub record NearLaws (p : Params) : Type 0 where
  pub near : AllNearIsAllNearBoth (coding p) (rules_of p)
  pub packets : PacketsAreInRing (coding p) (rules_of p)
  pub messages : MessagesAreInRing (coding p) (rules_of p)
  -- a capture that isn't far is near where there is a frame for it
  pub capture : (before : List ReceiverEntry) (frames : List Frame) (past : List Event)
      → refusal_after p before frames past Send ≡ None
      → length (both_after p (steady p) frames before past).sender.coded < length frames
      → MayHappenNow p before frames past Send
  pub deliver : (before : List ReceiverEntry) (frames : List Frame) (past : List Event) (n j : ℕ)
      → refusal_after p before frames past (Deliver n j) ≡ None → MayHappenNow p before frames past (Deliver n j)
  pub play : (before : List ReceiverEntry) (frames : List Frame) (past : List Event)
      → refusal_after p before frames past Play ≡ None → MayHappenNow p before frames past Play
  pub back : (before : List ReceiverEntry) (frames : List Frame) (past : List Event) (k : ℕ)
      → refusal_after p before frames past (Back k) ≡ None → MayHappenNow p before frames past (Back k)

-- what both ends have done, by their own counts and pictures
pub record WayLaws (p : Params) : Type 0 where
  -- a new network keeps what was done in no event
  pub first : (pictures : ℕ) (network : Network) (sender : State) (receiver : Kept)
      (before : List ReceiverEntry) (frames : List Frame)
      → IsNewNetwork p pictures network → sender.params ≡ p → sender_end.PacedStands (steady p) sender []
      → receiver.params ≡ p → receiver_end.Stands receiver before
      → HoldsNetwork p network sender receiver before frames []
  -- and a new sender can send over a new way
  pub can : (pictures : ℕ) (way : Way) (sender : State) → IsParams p → IsNewWay p pictures way
      → sender.params ≡ p → sender_end.PacedStands (steady p) sender [] → sender.pace.quant ≡ p.quant → sender.sent ≡ 0
      → CanSend way sender
  -- frames after those that were sent change nothing of a way
  pub later : (way : Way) (sender : State) (receiver : Kept) (before : List ReceiverEntry)
      (frames more : List Frame) (past : List Event)
      → HoldsWay p way sender receiver before frames past
      → HoldsWay p way sender receiver before (frames ++ more) past
  pub sent : (sender : State) (receiver : Kept) (before : List ReceiverEntry) (frames : List Frame) (past : List Event)
      → AreJoined p (steady p) sender receiver frames before past
      → sender.sent ≡ length (both_after p (steady p) frames before past).sender.coded
  pub played : (sender : State) (receiver : Kept) (before : List ReceiverEntry) (frames : List Frame)
      (past : List Event)
      → AreJoined p (steady p) sender receiver frames before past
      → receiver.played ≡ (both_after p (steady p) frames before past).receiver.played
  -- the picture that a receiver shows, for each list of entries that it stands for
  pub shown : (sender : State) (receiver : Kept) (before : List ReceiverEntry) (frames : List Frame)
      (past : List Event) (picture : Picture)
      → AreJoined p (steady p) sender receiver frames before past
      → ((entries : List ReceiverEntry) → receiver_end.Stands receiver entries
      → picture ≡ (receiver_end.run_of receiver.params entries).screen)
      → picture ≡ (both_after p (steady p) frames before past).receiver.screen

-- what single events leave of both ends as it was
pub record EventLaws (p : Params) : Type 0 where
  -- a capture codes the next picture
  pub captured : (before : List ReceiverEntry) (frames : List Frame) (past : List Event) (frame : Frame)
      → slice_get frames (length (both_after p (steady p) frames before past).sender.coded) ≡ Some frame
      → (both_after p (steady p) frames before (Send ∷ past)).sender.coded
      ≡ (both_after p (steady p) frames before past).sender.coded
      ++ next_of p (steady p) frame (both_after p (steady p) frames before past) ∷ []
  -- deliveries leave the sender and the plays as they were, and all of a picture's packets are near
  -- where one is
  pub sender : (before : List ReceiverEntry) (frames : List Frame) (n count : ℕ) (past : List Event)
      → (both_after p (steady p) frames before (delivered n count ++ past)).sender
      ≡ (both_after p (steady p) frames before past).sender
  pub plays : (before : List ReceiverEntry) (frames : List Frame) (n count : ℕ) (past : List Event)
      → (both_after p (steady p) frames before (delivered n count ++ past)).plays
      ≡ (both_after p (steady p) frames before past).plays
  pub played : (before : List ReceiverEntry) (frames : List Frame) (n count : ℕ) (past : List Event)
      → (both_after p (steady p) frames before (delivered n count ++ past)).receiver.played
      ≡ (both_after p (steady p) frames before past).receiver.played
  pub near : (before : List ReceiverEntry) (frames : List Frame) (n count j : ℕ) (past : List Event)
      → MayHappenNow p before frames past (Deliver n j)
      → AllMayHappenBoth (coding p) (rules_of p) (receiver_end.run_of p before) (steady p) frames past
      → AllMayHappenBoth (coding p) (rules_of p) (receiver_end.run_of p before) (steady p) frames
      (delivered n count ++ past)
  -- one packet and one message leave the pictures as they were
  pub packet : (before : List ReceiverEntry) (frames : List Frame) (n j : ℕ) (past : List Event)
      → (both_after p (steady p) frames before (Deliver n j ∷ past)).sender
      ≡ (both_after p (steady p) frames before past).sender
  pub message : (before : List ReceiverEntry) (frames : List Frame) (k : ℕ) (past : List Event)
      → (both_after p (steady p) frames before (Back k ∷ past)).sender.coded
      ≡ (both_after p (steady p) frames before past).sender.coded

-- What the rings of a network keep, whatever sender coded the pictures and whoever said the messages.
pub record RingLaws (p : Params) : Type 0 where
  -- no picture's packets, and those of one picture more
  pub none : (ring : SentPackets) → HoldsPackets ring [] → HasPackets p ring []
  pub packets : (ring new : SentPackets) (coded : List (Coded Style Mb Picture)) (x : Coded Style Mb Picture)
      (packets : List (List ℕ)) → HasPackets p ring coded
      → ((pictures : PacketsOfPictures) → HoldsPackets ring pictures → HoldsPackets new (pictures ++ packets ∷ []))
      → packets ≡ packets_at (encoding p) (rules_of p) (coded ++ x ∷ []) (length coded)
      → HasPackets p new (coded ++ x ∷ [])
  -- the packets of one of the last pictures
  pub kept : (ring : SentPackets) (coded : List (Coded Style Mb Picture)) (n : ℕ) (has : HasPackets p ring coded)
      → n < length coded → length coded ≤ n + ring_period ring
      → kept_of (ring_period ring) has.pictures n ≡ packets_at (encoding p) (rules_of p) coded n
  -- the reference of one picture more, and that of one of the last pictures
  pub noted : (old new : References) (coded : List (Coded Style Mb Picture)) (x : Coded Style Mb Picture)
      → HasReferences old coded
      → ((list : List (Option ℕ)) → AreNoted old list → length coded ≡ length list
      → AreNoted new (list ++ x.reference ∷ [])) → HasReferences new (coded ++ x ∷ [])
  pub reference : (references : References) (coded : List (Coded Style Mb Picture)) (n : ℕ) (result : Option ℕ)
      → HasReferences references coded
      → ((list : List (Option ℕ)) → AreNoted references list → n < length list → length list ≤ n + 512
      → result ≡ slice_index_or list n None)
      → n < length coded → length coded ≤ n + 512 → result ≡ reference_in coded n
  -- what is told of picture n, where a packet has this answer, and where a play says this message
  pub answered : (n : ℕ) (said : Option Said) (answer : Heard Fault) → SaysMessage p.clock said (said_by answer)
      → IfSome said (λ s. AreBytes (text_of_said s)) → told_by n said ≡ said_to write_message n answer
  pub told : (n : ℕ) (said : Option Said) (message : Option Message) → SaysMessage p.clock said message
      → IfSome said (λ s. AreBytes (text_of_said s))
      → told_by n said ≡ option_map_or (λ (m : Message). let told : SaidMessage = record {
        about = n;
        bytes = write_message m;
      } in told ∷ []) message []
  -- the mark of one play more
  pub counted : (mark : Mark) (tally : Tally) (shown : Shown Picture) (plays : List (Shown Picture))
      → mark ≡ mark_from shown.mark → AreCounted tally plays → AreCounted (tally_counted mark tally) (shown ∷ plays)
