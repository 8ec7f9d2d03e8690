-- What a call of two parties over a recorded trace comes to, as a whole: the two ideal calls of both
-- videos over the events of the lines that it accepts.
use Rattle.std.specs.Prelude.{◌≡◌, ℕ, zero, suc, ◌+◌, List, [], ◌∷◌, ◌++◌, length, map, Option, Some, None}
use Rattle.h263_types.specs.declared.blocks.Mb.{Mb}
use Rattle.h263_types.specs.declared.params.Params.{Params}
use Rattle.h263_planes.specs.Layout.{picture_of}
use Rattle.h263_planes.specs.Picture.{Picture}
use Rattle.h263_outside.specs.declared.desk.Role.{Role}
use Rattle.h263_outside.specs.declared.desk.Role.TheVariants.{Events, Report}
use Rattle.y4m.specs.declared.fault.Y4mFault.{Y4mFault}
use Rattle.y4m.specs.Text.{head_text}
use Rattle.y4m.specs.Video.{video_fault, video_frames}
use Rattle.loss_trace.specs.declared.event.Event.{Event as Line}
use Rattle.loss_trace.specs.declared.event.Event.TheVariants as says
use Rattle.loss_trace.specs.declared.fault.TraceFault.{TraceFault}
use Rattle.loss_trace.specs.declared.fault.TraceFault.TheVariants.{BadLine, TooMany}
use Rattle.loss_trace.specs.Lines.{later_lines, first_line}
use Rattle.call_report.specs.declared.status.Status.{Status}
use Rattle.call_report.specs.declared.status.Status.TheVariants.{TraceRefused}
use Rattle.h263_types.specs.Texts.{Text}
use Rattle.call_report.specs.Text.{picture_text}
use Rattle.call_model.specs.Coding.{Shown}
use Rattle.call_model.specs.CodedPictures.{Coded}
use Rattle.call_model.specs.IdealCall.{Back, Call, Deliver, Event, Play, Send, encoded, slices_at}
use Rattle.call_model.specs.Refusals.{NoFrame, Refusal}
use Rattle.call_decoding.specs.Styles.{Style}
use Rattle.call_encoding.specs.Frames.{Frame}
use Rattle.receiver_end.specs.Answers.{mark_from}
use Rattle.desk_program.specs.Run.{Run, text_of}
use Rattle.one_way.specs.Seen.{reference_in}
use Rattle.call_command.specs.Recorded.{ShowsWhatArrived, shown_text, trace_read_out}
use Rattle.call_command.specs.Refused.{fault_told}
use Rattle.duplex_call.specs.declared.line.Party.{Party}
use Rattle.duplex_call.specs.Duplex.{AllMayHappenOf, MayHappenOf, Lettered, WayRuns, other, way, ways_after}
use Rattle.duplex_call.specs.Lines.{party_event}
use Rattle.duplex_call.specs.Refused.{refusal_of}
use Rattle.duplex_ends.specs.Ways.{call_in, sides}
use Rattle.duplex_command.specs.Duplex.{both_counts, letter_of, pictures_role, refused_party_video, video_of}
use Rattle.desk_program.specs.Texts.{only_at_ok}
use Rattle.coded_call.specs.Coding.{coding}
use Rattle.call_decoding.specs.Rules.{rules_of}
use Rattle.one_way.specs.Both.{steady}

-- the pictures of each party's video, as they are captured
abbrev pub party_film : (Party → Params) → (Role → List ℕ) → Party → List Picture
party_film p inputs x = map (λ planes. picture_of (p x).format planes) (video_frames (inputs (video_of x)))

-- the first fault of each party's video, if it has one
abbrev pub faults : (Role → List ℕ) → Party → Option Y4mFault
faults inputs x = video_fault (inputs (video_of x))

-- how a refused capture of a party is told: where no frame is left for it, since the next one of its
-- video is refused, by the fault of that video, and else by the number of its line
abbrev pub party_capture_told : Party → Option Y4mFault → ℕ → Refusal → Status
party_capture_told x (Some fault) number NoFrame = refused_party_video x fault
party_capture_told x broken number r = TraceRefused (fault_told number Send r)

-- ---- a trace

-- what a line says that isn't bad: an event of a party, or nothing
abbrev pub LineEvent : Type 0
LineEvent = Option (Party × Line)

-- what a line says, and those after it
abbrev pub and_event : Option LineEvent → List LineEvent → List LineEvent
and_event None more = []
and_event (Some said) more = said ∷ more

abbrev pub bad_from : Option LineEvent → ℕ → Option TraceFault → Option TraceFault
bad_from None line more = Some (BadLine line)
bad_from (Some said) line more = more

-- what the lines of a text say, of which this many may still come, up to the first that is bad
unfoldable pub line_events : ℕ → List ℕ → List LineEvent
line_events zero text = []
line_events (suc n) [] = []
line_events (suc n) (b ∷ text) =
    and_event (party_event (first_line (b ∷ text))) (line_events n (later_lines (b ∷ text)))

-- the first fault, where the lines are numbered from this one on
unfoldable pub fault_in : ℕ → ℕ → List ℕ → Option TraceFault
fault_in n line [] = None
fault_in zero line (b ∷ text) = Some (TooMany line)
fault_in (suc n) line (b ∷ text) =
    bad_from (party_event (first_line (b ∷ text))) line (fault_in n (line + 1) (later_lines (b ∷ text)))

-- ---- texts

-- the line of the newest of these plays
abbrev pub newest_line : Party → List (Coded Style Mb Picture) → List (Shown Picture) → Text
newest_line x coded [] = []
newest_line x coded (shown ∷ plays) =
    picture_text (length plays) (Some (mark_from shown.mark))
    (Some (reference_in coded (length plays))) (Some (letter_of x))

module _ (p : Party → Params) (captures : Party → List Picture) where
  -- both ways after these events, and the ideal call of a party's pictures
  abbrev pub ways_of : List Lettered → WayRuns Frame
  ways_of past = ways_after (sides p) captures past

  abbrev pub party_call_after : Party → List Lettered → Call Style Mb Picture
  party_call_after x past = call_in p x (ways_of past)

  -- ---- events

  abbrev pub with_event : Party → Event → List Lettered → List Lettered
  with_event x e past = record { party = x; event = e } ∷ past

  -- the packets of the party's picture n at the places below this one are delivered, in their order
  abbrev pub with_party_packets : Party → ℕ → ℕ → List Lettered → List Lettered
  with_party_packets x n zero past = past
  with_party_packets x n (suc j) past = with_event x (Deliver n j) (with_party_packets x n j past)

  -- the events after those of a party's line, the newest first. Its messages travel in the packets of
  -- the other party, so none comes back by itself.
  abbrev pub with_party : List Lettered → Party → Line → List Lettered
  with_party past x says.Nothing = past
  with_party past x says.Send = with_event x Send past
  with_party past x (says.Packet n j) = with_event x (Deliver n j) past
  with_party past x (says.All n) = with_party_packets x n (length (slices_at (party_call_after x past).coded n)) past
  with_party past x (says.Back k) = past
  with_party past x says.Play = with_event x Play past

  -- after those of a line
  abbrev pub with_lettered : List Lettered → LineEvent → List Lettered
  with_lettered past None = past
  with_lettered past (Some said) = with_party past said.0 said.1

  -- after those of these lines
  abbrev pub with_all_lettered : List Lettered → List LineEvent → List Lettered
  with_all_lettered past [] = past
  with_all_lettered past (line ∷ lines) = with_all_lettered (with_lettered past line) lines

  -- the event of a party's line is in place and near; of one that delivers all packets of a picture the
  -- first is, even where the picture has none
  abbrev pub PartyMayHappen : List Lettered → Party → Line → Type 0
  PartyMayHappen past x says.Nothing = Unit {0}
  PartyMayHappen past x says.Send = MayHappenOf (sides p) (length (captures x)) x Send (ways_of past)
  PartyMayHappen past x (says.Packet n j) = MayHappenOf (sides p) (length (captures x)) x (Deliver n j) (ways_of past)
  PartyMayHappen past x (says.All n) = MayHappenOf (sides p) (length (captures x)) x (Deliver n 0) (ways_of past)
  PartyMayHappen past x (says.Back k) = MayHappenOf (sides p) (length (captures x)) x (Back k) (ways_of past)
  PartyMayHappen past x says.Play = MayHappenOf (sides p) (length (captures x)) x Play (ways_of past)

  abbrev pub LetteredMayHappen : List Lettered → LineEvent → Type 0
  LetteredMayHappen past None = Unit {0}
  LetteredMayHappen past (Some said) = PartyMayHappen past said.0 said.1

  -- each of these lines' events is, after those of the lines before it
  abbrev pub AllLetteredMayHappen : List Lettered → List LineEvent → Type 0
  AllLetteredMayHappen past [] = Unit {0}
  AllLetteredMayHappen past (line ∷ lines) = LetteredMayHappen past line × AllLetteredMayHappen
      (with_lettered past line) lines

  -- ---- a run

  -- the line that tells of an event: of a play, its picture's
  abbrev pub told_line : Party → Event → List Lettered → Text
  told_line x Send past = []
  told_line x (Deliver n j) past = []
  told_line x (Back k) past = []
  told_line x Play past =
      newest_line x (party_call_after x (with_event x Play past)).coded (party_call_after x
      (with_event x Play past)).plays

  -- the lines of all plays of both parties, in the order in which they were played
  abbrev pub told_lines : List Lettered → Text
  told_lines [] = []
  told_lines (e ∷ past) = told_lines past ++ told_line e.party e.event past

  -- The run is the two ideal calls over these events: each of them is in place and near; the pictures
  -- of each party are the head and then what its plays showed, and the report has their lines, with
  -- both counts where it ends with `Ok`. Of each party a picture is marked exact where all its packets
  -- were delivered while it was open, and nowhere else.
  pub record AreCallsOver (past : List Lettered) (run : Run) : Type 0 where
    pub near : AllMayHappenOf (sides p) captures past
    pub pictures : (x : Party)
        → text_of run (pictures_role x) ≡ head_text (p x).format ++ shown_text (party_call_after x past).plays
    pub report : text_of run Report ≡ told_lines past ++ only_at_ok run.last.status (both_counts p (ways_of past)
        Report)
    pub arrived : (x : Party)
        → ShowsWhatArrived (p x)
        (encoded (coding (p x)) (rules_of (p x)) (steady (p x)) (way x (ways_of past)).frames)
        (way x (ways_of past)).past

  -- ---- its end

  -- the party's event has this refusal, and is told with it and its line's number
  abbrev pub IsPartyRefusal : ℕ → List Lettered → Party → Event → Status → Type 0
  IsPartyRefusal number past x e status =
      (r : Refusal) × (refusal_of (sides p) (length (captures x)) x e (ways_of past) ≡ Some r)
      × (status ≡ TraceRefused (fault_told number e r))

  -- the party's capture has this refusal, where its video has this fault or none
  abbrev pub IsRefusedPartyCapture : Option Y4mFault → ℕ → List Lettered → Party → Status → Type 0
  IsRefusedPartyCapture broken number past x status =
      (r : Refusal) × (refusal_of (sides p) (length (captures x)) x Send (ways_of past) ≡ Some r)
      × (status ≡ party_capture_told x broken number r)

  -- a party's line is refused for its event; one that delivers all packets of a picture for the first
  abbrev pub IsRefusedPartyLine : (Party → Option Y4mFault) → ℕ → List Lettered → Party → Line → Status → Type 0
  IsRefusedPartyLine broken number past x says.Nothing status = ⊥
  IsRefusedPartyLine broken number past x says.Send status = IsRefusedPartyCapture (broken x) number past x status
  IsRefusedPartyLine broken number past x (says.Packet n j) status = IsPartyRefusal number past x (Deliver n j) status
  IsRefusedPartyLine broken number past x (says.All n) status = IsPartyRefusal number past x (Deliver n 0) status
  IsRefusedPartyLine broken number past x (says.Back k) status = IsPartyRefusal number past x (Back k) status
  IsRefusedPartyLine broken number past x says.Play status = IsPartyRefusal number past x Play status

  -- where the next line, which has this number, says an event of a party, that is refused; where there
  -- is none, the trace is read out, up to its first fault
  abbrev pub AreCallsEnded : (Party → Option Y4mFault) → Option TraceFault → ℕ → List Lettered → List LineEvent
      → Status → Type 0
  AreCallsEnded broken fault number past [] status = status ≡ trace_read_out fault
  AreCallsEnded broken fault number past (None ∷ lines) status = ⊥
  AreCallsEnded broken fault number past (Some said ∷ lines) status = IsRefusedPartyLine broken number past said.0
      said.1 status

-- The lines that it accepts are the first ones of the trace, one in each turn but the first, which
-- reads both heads, and each of them says what may happen there. Over their events the run is the two
-- ideal calls of the pictures of both videos, and it ends because of the line after them. Where it
-- refuses a video, that turn takes nothing of the other one.
pub record BothFollowTheirTrace (p : Party → Params) (inputs : Role → List ℕ) (run : Run) : Type 0 where
  pub lines : List LineEvent
  pub refused : List LineEvent
  pub read : line_events 16777216 (inputs Events) ≡ lines ++ refused
  pub taken : length run.turns ≡ length lines + 1
  pub may : AllLetteredMayHappen p (party_film p inputs) [] lines
  pub are_calls : AreCallsOver p (party_film p inputs) (with_all_lettered p (party_film p inputs) [] lines) run
  pub end : AreCallsEnded p (party_film p inputs) (faults inputs) (fault_in 16777216 1 (inputs Events))
      (length lines + 1)
      (with_all_lettered p (party_film p inputs) [] lines) refused run.last.status
  pub others : (x : Party) (fault : Y4mFault)
      → run.last.status ≡ refused_party_video x fault → run.last.taken (video_of (other x)) ≡ Some 0

-- a run that ends before its first turn, with this status: nothing is written, and so much is taken of
-- the video that isn't refused
pub record IsRefusedAtOnce (status : Status) (video : Role) (size : ℕ) (run : Run) : Type 0 where
  pub turns : run.turns ≡ []
  pub because : run.last.status ≡ status
  pub silent : (role : Role) → text_of run role ≡ []
  pub left : run.last.taken video ≡ Some size
