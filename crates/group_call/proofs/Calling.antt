-- A group of one is a call, event by event.
use Rattle.std.proofs.Common.{◌≡◌, ℕ, List, [], ◌∷◌, ◌++◌, length, Option, Some, None, refl, sym, ap, subst, ◌∙◌}
use Rattle.std.specs.Prelude.{slice_get}
use Rattle.std.specs.Option.{option_map_or}
use Rattle.h263_types.specs.declared.blocks.Mb.{Mb}
use Rattle.h263_types.specs.declared.params.Params.{Params}
use Rattle.h263_planes.specs.Picture.{Picture}
use Rattle.call_model.specs.CodedPictures.{Coded}
use Rattle.call_model.specs.IdealCall.{Event, Send, Deliver, Play, Back}
use Rattle.call_model.specs.JoinedRun.{EachEndRuns, Joined, SaidMessage, after_bytes, said_at_play, said_to, sender_entries}
use Rattle.call_model.specs.Receiving.{ReceiverRun, after_packet, after_play, heard, played_shown}
use Rattle.call_model.specs.Sending.{Capture, Feedback, SenderEntry, SenderRun}
use Rattle.call_decoding.specs.Rules.{rules_of}
use Rattle.call_decoding.specs.Samples.{pictures}
use Rattle.call_decoding.specs.Styles.{Style}
use Rattle.call_encoding.specs.Encoding.{encoding}
use Rattle.call_encoding.specs.Frames.{Frame}
use Rattle.call_encoding.specs.Messages.{write_message}
use Rattle.coded_call.specs.Coding.{coding}
use Rattle.receiver_end.specs.Decoding.{decoding}
use Rattle.receiver_end.specs.State.{run_of}
use Rattle.one_way.specs.Both.{both_after, steady}
use Rattle.group_sender.specs.Holding.{Groups, group_after_code, group_after_saying}
use Rattle.group_sender.specs.Laws.{OneIsASender, in_group_of_one}
use Rattle.group_sender.specs.Running.{group_run}
use Rattle.group_call.specs.One.{IsTheCall, OneRun, group_of_one, one_hears, one_sends}
use Rattle.group_call.specs.Viewing.{ViewerRun, coded_packets, view_packet}

module _ (p : Params) (frames : List Frame) where
  abbrev both : List Event → Joined Style Mb Picture
  both past = both_after p (steady p) frames [] past

  -- what was done to the sender
  abbrev sent_so : List Event → List (SenderEntry Frame)
  sent_so past = sender_entries (coding p) (rules_of p) (run_of p []) (steady p) frames past

  -- the group to which that was done
  abbrev grouped_by : List (SenderEntry Frame) → Groups
  grouped_by entries = group_run (pictures p.format) (encoding p) (rules_of p) (in_group_of_one (pictures p.format)
      (encoding p) (rules_of p) (steady p) entries)

  -- the group has done that, and the rest is the call's
  record Follows (past : List Event) (one : OneRun) : Type 0 where
    run_is : one.run ≡ grouped_by (sent_so past)
    receiver : run_of p one.view.entries ≡ (both past).receiver
    told : one.view.told ≡ (both past).said
    plays : one.view.plays ≡ (both past).plays

  by_frame : (past : List Event) (run : Groups) → run ≡ grouped_by (sent_so past) → (o : Option Frame)
      → one_sends p o run ≡ grouped_by (option_map_or (λ (frame : Frame). Capture frame ∷ []) o [] ++ sent_so past)
  by_frame past run is None = is
  by_frame past run is (Some frame) = ap (λ (r : Groups). group_after_code p (steady p) frame r) is

  by_message : (past : List Event) (run : Groups) → run ≡ grouped_by (sent_so past) → (o : Option SaidMessage)
      → one_hears p o run ≡ grouped_by (option_map_or (λ (told : SaidMessage). Feedback told.bytes ∷ []) o []
      ++ sent_so past)
  by_message past run is None = is
  by_message past run is (Some told) = ap (λ (r : Groups). group_after_saying p 0 told.bytes r) is

  -- a packet, if there is one, on both sides
  record Reached (view : ViewerRun) (w : Joined Style Mb Picture) : Type 0 where
    receiver : run_of p view.entries ≡ w.receiver
    told : view.told ≡ w.said
    plays : view.plays ≡ w.plays

  by_packet : (n : ℕ) (view : ViewerRun) (w : Joined Style Mb Picture) → Reached view w → (o : Option (List ℕ))
      → Reached (option_map_or (view_packet p n view) o view)
      (option_map_or (after_bytes (coding p) (rules_of p) w n) o w)
  by_packet n view w same None = same
  by_packet n view w same (Some bytes) = record {
    receiver = ap (λ (r : ReceiverRun Style Mb Picture). after_packet (decoding p.format) (rules_of p) bytes r)
        same.receiver;
    told = λ i. same.told i ++ said_to write_message n (heard (decoding p.format) (rules_of p) (same.receiver i)
        ((decoding p.format).read bytes));
    plays = same.plays;
  }

  module _ (runs : EachEndRuns (coding p) (rules_of p)) (law : OneIsASender (pictures p.format) (encoding p)
      (rules_of p)) where
    -- so the pictures are the call's
    coded_is : (past : List Event) (run : Groups) → run ≡ grouped_by (sent_so past)
        → run.coded ≡ (both past).sender.coded
    coded_is past run is =
        ap (λ (r : Groups). r.coded) is
        ∙ (law (steady p) (sent_so past)).coded
        ∙ ap (λ (r : SenderRun Style Mb Picture). r.coded) (sym (runs [] (steady p) frames past).0)

    one_more : (e : Event) (past : List Event) → Follows past (group_of_one p frames past)
        → Follows (e ∷ past) (group_of_one p frames (e ∷ past))
    one_more Send past h =
        let run = (group_of_one p frames past).run in
        let long : length run.coded ≡ length (both past).sender.coded =
        ap (λ (l : List (Coded Style Mb Picture)). length l) (coded_is past run h.run_is) in
        record {
          run_is = ap (λ (n : ℕ). one_sends p (slice_get frames n) run) long
              ∙ by_frame past run h.run_is (slice_get frames (length (both past).sender.coded));
          receiver = h.receiver;
          told = h.told;
          plays = h.plays;
        }
    one_more (Deliver n j) past h =
        let one = group_of_one p frames past in
        let w = both past in
        let same : coded_packets p one.run.coded n ≡ coded_packets p w.sender.coded n =
        ap (λ (l : List (Coded Style Mb Picture)). coded_packets p l n) (coded_is past one.run h.run_is) in
        let reached = by_packet n one.view w (record { receiver = h.receiver; told = h.told; plays = h.plays })
        (slice_get (coded_packets p w.sender.coded n) j) in
        let moved = subst (λ (l : List (List ℕ)). Reached (option_map_or (view_packet p n one.view)
        (slice_get l j) one.view) (both (Deliver n j ∷ past))) (sym same) reached in
        record {
          run_is = h.run_is;
          receiver = moved.receiver;
          told = moved.told;
          plays = moved.plays;
        }
    one_more Play past h = record {
      run_is = h.run_is;
      receiver = ap (λ (r : ReceiverRun Style Mb Picture). after_play (decoding p.format) (rules_of p) r) h.receiver;
      told = λ i. h.told i ++ said_at_play (coding p) (rules_of p) (h.receiver i);
      plays = λ i. played_shown (decoding p.format) (rules_of p) (h.receiver i) ∷ h.plays i;
    }
    one_more (Back k) past h =
        let one = group_of_one p frames past in
        record {
          run_is = ap (λ (l : List SaidMessage). one_hears p (slice_get l k) one.run) h.told
              ∙ by_message past one.run h.run_is (slice_get (both past).said k);
          receiver = h.receiver;
          told = h.told;
          plays = h.plays;
        }

    all_follow : (past : List Event) → Follows past (group_of_one p frames past)
    all_follow [] = record { run_is = refl; receiver = refl; told = refl; plays = refl }
    all_follow (e ∷ past) = one_more e past (all_follow past)

    pub is_the_call : (past : List Event) → IsTheCall p (group_of_one p frames past) (both past)
    is_the_call past =
        let h = all_follow past in
        record {
          coded = coded_is past (group_of_one p frames past).run h.run_is;
          receiver = h.receiver;
          told = h.told;
          plays = h.plays;
        }
