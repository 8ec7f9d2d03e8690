-- How the machine keeps a state from one entry to the next.
use Rattle.std.proofs.Common.{Global, if◌then◌else◌, ◌≡◌, ◌≢◌, ℕ, ◌+◌, ◌-◌, ◌<◌, ◌≤◌, Bool, true, false, List, length, length-drop, take, drop, None, Some, Ok, refl, sym, ap, ◌∙◌, subst, arith}
use Rattle.std.specs.Prelude.{nat_lt}
use Rattle.std.proofs.lemmas.Bool.{ltb-false}
use Rattle.std.proofs.lemmas.List.{length-take, length-take-le}
use Rattle.std.specs.declared.vec.Vec.{Vec}
use Rattle.h263_outside.specs.Desk.{Outside}
use Rattle.h263_outside.specs.declared.desk.Role.{Role}
use Rattle.h263_outside.specs.declared.desk.Role.TheVariants.{Video, Events, Wire, Report}
use Rattle.back_messages.specs.declared.message.MessageFault.{MessageFault}
use Rattle.h263_types.specs.declared.params.Params.{Params}
use Rattle.event_logs.specs.declared.entry.Side.TheVariants as sides
use Rattle.event_logs.specs.declared.entry.Side.{Side}
use Rattle.event_logs.specs.declared.entry.Entry.{Entry}
use Rattle.event_logs.specs.declared.entry.Entry.TheVariants.{Back}
use Rattle.event_logs.specs.Entry.{entry_begun, entry_size, entry_in, reach, entry_reach}
use Rattle.event_logs.specs.Place.{LogPlace, IsInLog}
use Rattle.event_logs.specs.Reader.{EntryGives, MovesLog}
use Rattle.y4m.specs.Place.{Y4mPlace}
use Rattle.call_model.specs.Sending.{Reply, feedback_answer}
use Rattle.call_decoding.specs.Rules.{rules_of}
use Rattle.call_encoding.specs.Frames.{Frame}
use Rattle.call_encoding.specs.Messages.{read_message}
use Rattle.sender_end.specs.declared.answers.Coded.{Coded}
use Rattle.sender_end.specs.State.{SenderState}
use Rattle.sender_end.specs.Stands.{Holds, after_message, packets_after}
use Rattle.desk_program.specs.Run.{left_after}
use Rattle.desk_program.specs.Ends.{Tells, Went}
use Rattle.desk_program.specs.Texts.{no_texts, of}
use Rattle.desk_program.specs.Laws.{TurnLaws}
use Rattle.send_command.specs.declared.machine.Send.{Send}
use Rattle.rate_control.specs.declared.send_pace.SendPace.{SendPace}
use Rattle.send_command.specs.Tally.{with_sent_picture, with_reply}
use Rattle.fitted_sender.specs.declared.aim.Aim.{Aim}
use Rattle.fitted_sender.specs.Aiming.{Sent, after_sent}
use Rattle.send_command.specs.Send.{SendState, picture_texts, capture_texts, after_captured_frame, after_heard_feedback, sender_entry_step, send_step}
use Rattle.fitted_sender.specs.Stands.{IsCaptured}
use Rattle.send_command.specs.Stands.{HasTakenEntry, IsFit, SendStands, SenderStoodBefore}
use Rattle.send_command.proofs.Entering.{CutAfter, IsReadAt, found_is, found_told}
use Rattle.send_command.proofs.Framing.{IsVideoAt}

-- ---- the parts of a state

-- of a machine that stood at a state before the entry that was read last
module _ (m : Send) (s : SendState) (size : ℕ) (stood : SenderStoodBefore m s size) where
  pub params_are : s.params ≡ m.sender.params
  params_are = ap (λ (x : SendState). x.params) stood.is

  -- what was done before it
  abbrev here : Sent
  here = record { run = s.sent.run; aim = m.aim }

  sent_is : s.sent ≡ here
  sent_is = ap (λ (x : SendState). x.sent) stood.is

  pub aim_is : s.sent.aim ≡ m.aim
  aim_is = ap (λ (x : Sent). x.aim) sent_is

  pub video_at : m.sender.params.format ≡ m.video.format → IsVideoAt s m.video
  video_at format = record {
    format = ap (λ (x : SendState). x.params.format) stood.is ∙ format;
    at_is = ap (λ (x : SendState). x.video_at) stood.is;
    more_is = ap (λ (x : SendState). x.more) stood.is;
  }

  -- the texts of a capture
  pub texts_are : (frame : Frame) (out : Frame) (new : SenderState SendPace) (aim : Aim) (answer : Coded) → frame ≡ out
      → IsCaptured frame m.sender.params here new aim answer
      → picture_texts new.packets answer.number answer.reference ≡ capture_texts s.params out s.sent
  texts_are frame out new aim answer same cap =
      (λ i. picture_texts (cap.packets i) (cap.describes.number_is i) (cap.describes.reference i))
      ∙ (λ i. capture_texts (sym params_are i) (same i) (sym sent_is i))

  -- the state after a capture
  pub keeps_capture : (new : Send) (frame out : Frame) (answer : Coded) (size_of_frame : ℕ) (inputs : Role → List ℕ)
      → size ≡ 3 → frame ≡ out → IsCaptured frame m.sender.params here new.sender new.aim answer
      → answer.packets ≡ length new.sender.packets → new.sender.params ≡ m.sender.params → new.log ≡ m.log
      → new.tally ≡ with_sent_picture answer.packets m.tally
      → new.video.at ≡ s.video_at + size_of_frame → new.video.more + 1 ≡ m.video.more
      → SendStands new (after_captured_frame s size_of_frame out) inputs
  keeps_capture new frame out answer n inputs three same cap count params log tally place more =
      let old : s.tally ≡ m.tally = ap (λ (x : SendState). x.tally) stood.is in
      let after_is : after_sent s.params out s.sent ≡ after_sent m.sender.params frame here =
      (λ i. after_sent (params_are i) (sym same i) (sent_is i))
      in
      let counted : length (packets_after s.params (after_sent s.params out s.sent).run) ≡ answer.packets =
      (λ i. length (packets_after (params_are i) (after_is i).run))
      ∙ ap (λ (l : List (List ℕ)). length l) (sym cap.packets) ∙ sym count
      in
      let tally_is : with_sent_picture (length (packets_after s.params (after_sent s.params out s.sent).run)) s.tally
      ≡ new.tally =
      (λ i. with_sent_picture (counted i) (old i)) ∙ sym tally
      in
      let params_is : s.params ≡ new.sender.params = params_are ∙ sym params in
      let aim_now : (after_sent s.params out s.sent).aim ≡ new.aim = ap (λ (x : Sent). x.aim) after_is
      ∙ sym cap.follows in
      let fewer : s.more ≡ m.video.more = ap (λ (x : SendState). x.more) stood.is in
      let more_is : s.more - 1 ≡ new.video.more = omega (arith, more, fewer) in
      let at_is : s.at + 3 ≡ new.log.at = ap (λ (k : ℕ). s.at + k) (sym three) ∙ ap (λ (x : SendState). x.at) stood.is
      ∙ ap (λ (l : LogPlace). l.at) (sym log) in
      let read_is : s.read + 1 ≡ new.log.entries = ap (λ (x : SendState). x.read) stood.is
      ∙ ap (λ (l : LogPlace). l.entries) (sym log) in
      record {
        is = λ i. record {
          params = params_is i;
          sent = record { run = (after_sent s.params out s.sent).run; aim = aim_now i };
          tally = tally_is i;
          at = at_is i;
          read = read_is i;
          video_at = sym place i;
          more = more_is i;
        };
        sender = subst (λ (x : Sent). Holds new.sender x.run) (sym after_is) cap.holds;
      }

-- the state after feedback
pub keeps_feedback : (m : Send) (s : SendState) (len : ℕ) (bytes : List ℕ) (stood : SenderStoodBefore m s (3 + len))
    (new : Send) (reply : Reply MessageFault) (inputs : Role → List ℕ) → length bytes ≡ len
    → Holds new.sender (after_message m.sender.params bytes s.sent.run)
    → reply ≡ feedback_answer (rules_of m.sender.params) (length s.sent.run.run.coded)
    (read_message m.sender.params.clock bytes)
    → new.sender.params ≡ m.sender.params → new.aim ≡ m.aim → new.log ≡ m.log → new.tally ≡ with_reply reply m.tally
    → new.video ≡ m.video
    → SendStands new (after_heard_feedback s bytes) inputs
keeps_feedback m s len bytes stood new reply inputs long holds answer params aim log tally video =
    let was : s.params ≡ m.sender.params = params_are m s (3 + len) stood in
    let params_is : s.params ≡ new.sender.params = was ∙ sym params in
    let aim_now : s.sent.aim ≡ new.aim = aim_is m s (3 + len) stood ∙ sym aim in
    let old : s.tally ≡ m.tally = ap (λ (x : SendState). x.tally) stood.is in
    let answer_is : feedback_answer (rules_of s.params) (length s.sent.run.run.coded)
    (read_message s.params.clock bytes) ≡ reply =
    (λ i. feedback_answer (rules_of (was i)) (length s.sent.run.run.coded) (read_message (was i).clock bytes))
    ∙ sym answer
    in
    let tally_is : with_reply (feedback_answer (rules_of s.params) (length s.sent.run.run.coded)
    (read_message s.params.clock bytes)) s.tally ≡ new.tally =
    (λ i. with_reply (answer_is i) (old i)) ∙ sym tally
    in
    let at_is : s.at + (3 + length bytes) ≡ new.log.at = ap (λ (k : ℕ). s.at + (3 + k)) long
    ∙ ap (λ (x : SendState). x.at) stood.is ∙ ap (λ (l : LogPlace). l.at) (sym log) in
    let read_is : s.read + 1 ≡ new.log.entries = ap (λ (x : SendState). x.read) stood.is
    ∙ ap (λ (l : LogPlace). l.entries) (sym log) in
    let place_is : s.video_at ≡ new.video.at = ap (λ (x : SendState). x.video_at) stood.is
    ∙ ap (λ (v : Y4mPlace). v.at) (sym video) in
    let more_is : s.more ≡ new.video.more = ap (λ (x : SendState). x.more) stood.is
    ∙ ap (λ (v : Y4mPlace). v.more) (sym video) in
    record {
      is = λ i. record {
        params = params_is i;
        sent = record { run = after_message s.params bytes s.sent.run; aim = aim_now i };
        tally = tally_is i;
        at = at_is i;
        read = read_is i;
        video_at = place_is i;
        more = more_is i;
      };
      sender = subst (λ (q : Params). Holds new.sender (after_message q bytes s.sent.run)) (sym was) holds;
    }

-- ---- before an entry is read, and after it

module _ (m : Send) (s : SendState) (inputs : Role → List ℕ) (stands : SendStands m s inputs) where
  pub read_at : m.log.side ≡ sides.Send → IsReadAt s m.log
  read_at side = record {
    side_is = side;
    at_is = ap (λ (x : SendState). x.at) stands.is;
    read_is = ap (λ (x : SendState). x.read) stands.is;
  }

  -- the machine that has read an entry
  pub stood_before : (log : LogPlace) (bytes : Vec ℕ Global) (size : ℕ) → log.at ≡ m.log.at + size
      → log.entries ≡ m.log.entries + 1 → SenderStoodBefore (record m { log = log; bytes = bytes }) s size
  stood_before log bytes size at entries =
      let at_is : s.at + size ≡ log.at = ap (λ (x : SendState). x.at + size) stands.is ∙ sym at in
      let read_is : s.read + 1 ≡ log.entries = ap (λ (x : SendState). x.read + 1) stands.is ∙ sym entries in
      record {
        is = λ i. record {
          params = (stands.is i).params;
          sent = (stands.is i).sent;
          tally = (stands.is i).tally;
          at = at_is i;
          read = read_is i;
          video_at = (stands.is i).video_at;
          more = (stands.is i).more;
        };
        sender = stands.sender;
      }

-- what is known after an entry that was read
pub record IsAfter (m : Send) (s : SendState) (inputs : Role → List ℕ) (old mid : Outside) (log : LogPlace)
    (bytes : Vec ℕ Global) (buf : List ℕ) (place : ℕ) (entry : Entry) : Type 0 where
  pub step_is : send_step s inputs ≡ sender_entry_step s inputs (Some entry)
  pub stood : SenderStoodBefore (record m { log = log; bytes = bytes }) s (3 + entry_size entry)
  pub taken : HasTakenEntry (3 + entry_size entry) inputs old mid
  pub place_is : place ≡ s.at
  pub bytes_are : take (entry_size entry) buf ≡ take (entry_size entry) (drop 3 (inputs Events))
  pub whole : length (take (entry_size entry) (drop 3 (inputs Events))) ≡ entry_size entry

entry_whole : (side : Side) (text : List ℕ) (entry : Entry) → entry_in side text ≡ Some entry
    → length (take (entry_size entry) (drop 3 text)) ≡ entry_size entry
entry_whole side text entry is = at_test (nat_lt (length text) (reach side text)) refl
  where
    begins : (t : Bool) → nat_lt (length text) (reach side text) ≡ t → (if t then None else entry_begun side text)
        ≡ Some entry
    begins t same = ap (λ (t : Bool). if t then None else entry_begun side text) (sym same) ∙ is

    enough : (k : ℕ) (l : List ℕ) → 3 + k ≤ length l → length (take k (drop 3 l)) ≡ k
    enough k l long = length-take-le k (drop 3 l) (omega (arith, long, length-drop 3 l))

    at_test : (t : Bool) → nat_lt (length text) (reach side text) ≡ t → length (take (entry_size entry) (drop 3 text))
        ≡ entry_size entry
    at_test true same = absurd (cc (begins true same))
    at_test false same =
        let began : entry_begun side text ≡ Some entry = begins false same in
        let far : reach side text ≡ 3 + entry_size entry = ap entry_reach began in
        enough (entry_size entry) text (omega (arith, far, ltb-false (length text) (reach side text) same))

pub is_after : (laws : TurnLaws) (cut : CutAfter) (m : Send) (s : SendState) (inputs : Role
    → List ℕ) (stands : SendStands m s inputs) (old mid : Outside) (told : Tells old inputs) (others : (r : Role)
    → r ≢ Events → mid.left r ≡ old.left r) (same : mid.written ≡ old.written)
    (side : m.log.side ≡ sides.Send) (log : LogPlace) (within : IsInLog log) (bytes : Vec ℕ Global) (buf : List ℕ)
    (place : ℕ) (entry : Entry)
    → EntryGives (Ok (Some (place, entry))) m.log (inputs Events) buf (mid.left Events)
    → MovesLog (Ok (Some (place, entry))) m.log log
    → IsAfter m s inputs old mid log bytes buf place entry
is_after laws cut m s inputs stands old mid told others same side log within bytes buf place entry e moves =
    let at = read_at m s inputs stands side in
    let few : m.log.entries < 16777216 = omega (arith, within.few, moves.2) in
    record {
      step_is = found_is laws cut s inputs old mid told others same m.log log at buf (place, entry) e few;
      stood = stood_before m s inputs stands log bytes (3 + entry_size entry) moves.3 moves.2;
      taken = record {
        left = found_told laws cut s inputs old mid told others same m.log log at buf (
          place,
          entry,
        ) e few;
        written = same;
      };
      place_is = moves.0 ∙ sym at.at_is;
      bytes_are = e.1;
      whole = entry_whole m.log.side (inputs Events) entry e.0;
    }

-- the parts still fit
pub fit_after : (m : Send) (log : LogPlace) (bytes : Vec ℕ Global) (old now : Role → Bool) → IsFit m old
    → log.side ≡ m.log.side → length bytes.items ≡ 65535 → now ≡ old → IsFit (record m { log = log; bytes = bytes }) now
fit_after m log bytes old now fit side long attached = record {
  video = ap (λ (f : Role → Bool). f Video) attached ∙ fit.video;
  events = ap (λ (f : Role → Bool). f Events) attached ∙ fit.events;
  wire = ap (λ (f : Role → Bool). f Wire) attached ∙ fit.wire;
  report = ap (λ (f : Role → Bool). f Report) attached ∙ fit.report;
  format = fit.format;
  aim = fit.aim;
  frame = fit.frame;
  bytes = long;
  side = side ∙ fit.side;
  count = fit.count;
}

pub few_bytes : (len : ℕ) (buf bytes : List ℕ) → take len buf ≡ bytes → length bytes ≡ len → length buf ≡ 65535
    → len ≤ 65535
few_bytes len buf bytes is whole long = omega (
  arith,
  whole,
  long,
  ap (λ (l : List ℕ). length l) is,
  length-take len buf,
)

-- feedback is taken
pub takes_feedback : (laws : TurnLaws) (s : SendState) (inputs : Role → List ℕ) (old mid : Outside) (len : ℕ)
    → send_step s inputs ≡ sender_entry_step s inputs (Some (Back len))
    → Tells mid (left_after inputs (of Events (3 + len)))
    → mid.written ≡ old.written
    → (stands : SendState → (Role → List ℕ) → Type 0)
    → stands (after_heard_feedback s (take len (drop 3 (inputs Events)))) (left_after inputs (of Events (3 + len)))
    → Went (send_step s inputs) stands (λ _. true) true inputs old mid
takes_feedback laws s inputs old mid len is left same stands kept = record {
  next = after_heard_feedback s (take len (drop 3 (inputs Events)));
  turn = record { taken = of Events (3 + len); whole = true; texts = no_texts };
  could = refl;
  is = is;
  kept = kept;
  whole = refl;
  left = left;
  written = laws.no_text old.written mid.written same;
}
