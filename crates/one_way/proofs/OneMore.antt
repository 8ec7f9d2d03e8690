-- Both ends after one event more.
use Rattle.std.proofs.Common.{◌≡◌, ℕ, ◌-◌, List, [], ◌∷◌, ◌++◌, length, Option, Some, None, sym, ap, subst, ◌∙◌}
use Rattle.std.specs.Prelude.{slice_get}
use Rattle.h263_types.specs.declared.params.Params.{Params}
use Rattle.std.specs.Option.{option_map_or}
use Rattle.call_model.specs.IdealCall.{Event, Send, Deliver, Play, Back}
use Rattle.call_model.specs.JoinedRun.{EachEndRuns, Joined, SaidMessage, sender_entries, receiver_entries}
use Rattle.call_model.specs.Receiving.{ReceiverRun, ReceiverEntry, Packet, PlayNext, heard, played_mark, played_message}
use Rattle.call_model.specs.Sending as call
use Rattle.call_model.specs.Sending.{SenderRun, SenderEntry, Capture, Feedback, next_coded}
use Rattle.call_decoding.specs.Rules.{rules_of}
use Rattle.call_decoding.specs.Samples.{pictures}
use Rattle.call_decoding.specs.Styles.{Style}
use Rattle.h263_types.specs.declared.blocks.Mb.{Mb}
use Rattle.h263_planes.specs.Picture.{Picture}
use Rattle.call_encoding.specs.Encoding.{encoding}
use Rattle.call_encoding.specs.Frames.{Frame}
use Rattle.coded_call.specs.Coding.{coding}
use Rattle.sender_end.specs.declared.answers.Coded.{Coded}
use Rattle.one_way.specs.Both.{State}
use Rattle.sender_end.specs.Stands as sender_end
use Rattle.receiver_end.specs.declared.kept.Kept.{Kept}
use Rattle.receiver_end.specs.declared.answers.Heard.{Heard}
use Rattle.receiver_end.specs.declared.answers.Played.{Played}
use Rattle.receiver_end.specs.Answers.{IsHeard, IsPlayed}
use Rattle.receiver_end.specs.Decoding.{decoding}
use Rattle.receiver_end.specs.State as receiver_end
use Rattle.one_way.specs.Both.{AreJoined, both_after, next_of}
use Rattle.one_way.proofs.Joining.{entries_sent, entries_delivered}

-- what was done to the sender, and to the receiver
abbrev pub sent_in : Params → (List ℕ → ℕ) → List Frame → List ReceiverEntry → List Event → List (SenderEntry Frame)
sent_in p pace frames before past = sender_entries (coding p) (rules_of p) (receiver_end.run_of p before) pace frames
    past

abbrev pub heard_in : Params → (List ℕ → ℕ) → List Frame → List ReceiverEntry → List Event → List ReceiverEntry
heard_in p pace frames before past = receiver_entries (coding p) (rules_of p) (receiver_end.run_of p before) pace frames
    past ++ before

module _ (p : Params) (runs : EachEndRuns (coding p) (rules_of p)) (pace : List ℕ
    → ℕ) (sender : State) (receiver : Kept) (frames : List Frame) (before : List ReceiverEntry) (past : List Event)
    (j : AreJoined p pace sender receiver frames before past) where
  abbrev sent_so : List (SenderEntry Frame)
  sent_so = sent_in p pace frames before past

  abbrev heard_so : List ReceiverEntry
  heard_so = heard_in p pace frames before past

  abbrev both : Joined Style Mb Picture
  both = both_after p pace frames before past

  sender_is : both.sender ≡ sender_end.entries_run p pace sent_so
  sender_is = (runs before pace frames past).0

  receiver_is : both.receiver ≡ receiver_end.run_of p heard_so
  receiver_is = (runs before pace frames past).1

  -- the sender has coded what was sent
  pub sent_is : sender.sent ≡ length both.sender.coded
  sent_is =
      sym j.sends.seen.sent
      ∙ j.sends.stands.sent
      ∙ ap (λ (q : Params). length (sender_end.entries_run q pace sent_so).coded) j.sender_params
      ∙ ap (λ (run : SenderRun Style Mb Picture). length run.coded) (sym sender_is)

  -- and the receiver has played what was played
  pub played_is : receiver.played ≡ both.receiver.played
  played_is =
      j.receives.played
      ∙ ap (λ (q : Params). (receiver_end.run_of q heard_so).played) j.receiver_params
      ∙ ap (λ (run : ReceiverRun Style Mb Picture). run.played) (sym receiver_is)

  -- the sender has the packets of its last picture
  pub packets_are : sender.packets ≡ call.packets_at (encoding p) (rules_of p) both.sender.coded (sender.sent - 1)
  packets_are =
      sym j.sends.seen.packets
      ∙ j.sends.stands.packets
      ∙ ap (λ (q : Params). sender_end.last_packets q pace sent_so) j.sender_params
      ∙ ap (λ (run : SenderRun Style Mb Picture). call.packets_at (encoding p) (rules_of p) run.coded
      (length run.coded - 1)) (sym sender_is)
      ∙ ap (λ (k : ℕ). call.packets_at (encoding p) (rules_of p) both.sender.coded (k - 1)) (sym sent_is)

  -- ---- a picture is sent

  pub after_send : (new : State) (f : Frame) → new.params ≡ sender.params → slice_get frames sender.sent ≡ Some f
      → sender_end.PacedStands pace new (Capture f ∷ sent_so)
      → AreJoined p pace new receiver frames before (Send ∷ past)
  after_send new f same at stands = record {
    sender_params = same ∙ j.sender_params;
    receiver_params = j.receiver_params;
    sends = subst (λ (l : List (SenderEntry Frame)). sender_end.PacedStands pace new l)
        (sym (entries_sent (coding p) (rules_of p) pace frames (receiver_end.run_of p before) past f
        (ap (λ (k : ℕ). slice_get frames k) (sym sent_is) ∙ at))) stands;
    receives = j.receives;
  }

  pub send_tells : (f : Frame) (answer : Coded)
      → sender_end.Describes (length (sender_end.entries_run sender.params pace sent_so).coded)
      (sender_end.next_after sender.params pace f sent_so) answer
      → sender_end.Describes (length both.sender.coded) (next_of p pace f both) answer
  send_tells f answer tells =
      subst (λ (run : SenderRun Style Mb Picture). sender_end.Describes (length run.coded)
      (next_coded (pictures p.format) (encoding p) (rules_of p) pace f run.coded run.known) answer) (sym sender_is)
      (subst (λ (q : Params). sender_end.Describes (length (sender_end.entries_run q pace sent_so).coded)
      (sender_end.next_after q pace f sent_so) answer) j.sender_params tells)

  -- ---- a packet is delivered

  pub after_packet : (new : Kept) (n place : ℕ) (bytes : List ℕ) → new.params ≡ receiver.params
      → slice_get (call.packets_at (encoding p) (rules_of p) both.sender.coded n) place ≡ Some bytes
      → receiver_end.Stands new (Packet bytes ∷ heard_so)
      → AreJoined p pace sender new frames before (Deliver n place ∷ past)
  after_packet new n place bytes same at stands = record {
    sender_params = j.sender_params;
    receiver_params = same ∙ j.receiver_params;
    sends = j.sends;
    receives = subst (λ (l : List ReceiverEntry). receiver_end.Stands new (l ++ before))
        (sym (entries_delivered (coding p) (rules_of p) pace frames (receiver_end.run_of p before) past n place bytes
        at)) stands;
  }

  pub packet_answer : (result : Heard) (bytes : List ℕ)
      → IsHeard receiver.params.clock result (receiver_end.answer_after receiver.params heard_so bytes)
      → IsHeard p.clock result (heard (decoding p.format) (rules_of p) both.receiver ((decoding p.format).read bytes))
  packet_answer result bytes answer =
      subst (λ (run : ReceiverRun Style Mb Picture). IsHeard p.clock result (heard (decoding p.format) (rules_of p) run
      ((decoding p.format).read bytes))) (sym receiver_is)
      (subst (λ (q : Params). IsHeard q.clock result (receiver_end.answer_after q heard_so bytes)) j.receiver_params
      answer)

  -- ---- a picture is played

  pub after_play : (new : Kept) → new.params ≡ receiver.params → receiver_end.Stands new (PlayNext ∷ heard_so)
      → AreJoined p pace sender new frames before (Play ∷ past)
  after_play new same stands = record {
    sender_params = j.sender_params;
    receiver_params = same ∙ j.receiver_params;
    sends = j.sends;
    receives = stands;
  }

  pub play_told : (result : Played)
      → IsPlayed receiver.params.clock result (receiver_end.mark_after receiver.params heard_so)
      (receiver_end.message_after receiver.params heard_so)
      → IsPlayed p.clock result (played_mark (decoding p.format) (rules_of p) both.receiver)
      (played_message (decoding p.format) (rules_of p) both.receiver)
  play_told result told =
      subst (λ (run : ReceiverRun Style Mb Picture). IsPlayed p.clock result
      (played_mark (decoding p.format) (rules_of p) run) (played_message (decoding p.format) (rules_of p) run))
      (sym receiver_is)
      (subst (λ (q : Params). IsPlayed q.clock result (receiver_end.mark_after q heard_so)
      (receiver_end.message_after q heard_so)) j.receiver_params told)

  -- what is on the screen
  pub screen_is : (receiver_end.run_of receiver.params heard_so).screen ≡ both.receiver.screen
  screen_is =
      ap (λ (q : Params). (receiver_end.run_of q heard_so).screen) j.receiver_params
      ∙ ap (λ (run : ReceiverRun Style Mb Picture). run.screen) (sym receiver_is)

  -- ---- a message comes back

  pub after_message : (new : State) (k : ℕ) (told : SaidMessage) → new.params ≡ sender.params
      → slice_get both.said k ≡ Some told
      → sender_end.PacedStands pace new (Feedback told.bytes ∷ sent_so)
      → AreJoined p pace new receiver frames before (Back k ∷ past)
  after_message new k told same at stands = record {
    sender_params = same ∙ j.sender_params;
    receiver_params = j.receiver_params;
    sends = subst (λ (o : Option SaidMessage). let first : List (SenderEntry Frame) =
        option_map_or (λ (told : SaidMessage). Feedback told.bytes ∷ []) o [] in
        sender_end.PacedStands pace new (first ++ sent_so)) (sym at) stands;
    receives = j.receives;
  }

  -- ---- no packet is there

  pub after_none : (n place : ℕ) → slice_get (call.packets_at (encoding p) (rules_of p) both.sender.coded n) place
      ≡ None
      → AreJoined p pace sender receiver frames before (Deliver n place ∷ past)
  after_none n place none = record {
    sender_params = j.sender_params;
    receiver_params = j.receiver_params;
    sends = j.sends;
    receives = subst (λ (o : Option (List ℕ)). let first : List ReceiverEntry =
        option_map_or (λ (bytes : List ℕ). Packet bytes ∷ []) o [] in
        receiver_end.Stands receiver
        ((first ++ receiver_entries (coding p) (rules_of p) (receiver_end.run_of p before) pace frames past) ++ before))
        (sym none) j.receives;
  }
