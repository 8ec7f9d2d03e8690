-- What a group's call over a recorded trace comes to, as a whole: one picture for all at each capture, and the
-- ideal call of each receiver over the events of the lines that are accepted.
use Rattle.std.specs.Prelude.{◌≡◌, ◌↔◌, ◌⊎◌, ℕ, zero, suc, ◌+◌, ◌<◌, ◌≤◌, Bool, true, ◌==◌, codes, List, [], ◌∷◌, ◌++◌, length, drop, slice_get, Option, Some, None, if◌then◌else◌}
use Rattle.std.specs.Option.{option_map_or}
use Rattle.h263_types.specs.declared.blocks.Mb.{Mb}
use Rattle.h263_types.specs.declared.params.Params.{Params}
use Rattle.h263_planes.specs.Picture.{Picture}
use Rattle.h263_outside.specs.declared.desk.Role.{Role}
use Rattle.h263_outside.specs.declared.desk.Role.TheVariants.{Video, Events, Report}
use Rattle.y4m.specs.declared.fault.Y4mFault.{Y4mFault}
use Rattle.y4m.specs.Text.{head_text}
use Rattle.y4m.specs.Video.{video_fault, video_frames}
use Rattle.loss_trace.specs.declared.fault.TraceFault.{TraceFault}
use Rattle.loss_trace.specs.declared.fault.TraceFault.TheVariants.{BadLine, TooMany}
use Rattle.loss_trace.specs.Lines.{later_lines, first_line}
use Rattle.call_report.specs.declared.status.Status.{Status}
use Rattle.call_report.specs.declared.status.Status.TheVariants.{TraceRefused, VideoRefused}
use Rattle.h263_types.specs.Texts.{Text}
use Rattle.call_report.specs.Text.{picture_text}
use Rattle.call_model.specs.Before as before
use Rattle.call_model.specs.Before.{played_before}
use Rattle.call_model.specs.Coding.{Exact, Shown, pictures_of}
use Rattle.call_model.specs.CodedPictures.{Coded, depth_at, is_among, picture_at}
use Rattle.call_model.specs.Coding.{window}
use Rattle.call_model.specs.IdealCall.{AllMayHappenFrom, MayHappen, Call, Event, Send, Deliver, Play, Back, NumberedMessage, Source, call_from, shown_at, slices_at}
use Rattle.call_model.specs.Refusals.{NoFrame, Refusal, refusal_in}
use Rattle.call_model.specs.TwoStores.{travelling}
use Rattle.call_decoding.specs.Rules.{rules_of}
use Rattle.call_decoding.specs.Styles.{Style}
use Rattle.call_encoding.specs.Frames.{Frame}
use Rattle.call_encoding.specs.Messages.{write_message}
use Rattle.coded_call.specs.Coding.{coding}
use Rattle.receiver_end.specs.Answers.{mark_from}
use Rattle.desk_program.specs.Run.{Run, taken_of, text_of}
use Rattle.one_way.specs.Counts.{plays_marked, one_exact, one_held, one_patched}
use Rattle.one_way.specs.Seen.{reference_in}
use Rattle.call_command.specs.Call.{line_size}
use Rattle.call_command.specs.Counts.{counts_text_of}
use Rattle.call_command.specs.Recorded.{AllDelivered, capture_told, film, shown_text, trace_read_out}
use Rattle.call_command.specs.Refused.{fault_told}
use Rattle.group_sender.specs.Holding.{Groups, group_after_saying}
use Rattle.group_call.specs.One.{one_sends}
use Rattle.group_call.specs.Refused.{unless_left}
use Rattle.group_command.specs.declared.line.GroupLine.{GroupLine}
use Rattle.group_command.specs.declared.line.GroupLine.TheVariants.{Quiet, ForAll, Of}
use Rattle.group_command.specs.declared.line.OwnEvent.{OwnEvent}
use Rattle.group_command.specs.declared.line.OwnEvent.TheVariants as own
use Rattle.group_command.specs.Group.{event_of, after_joins, or_refused, pictures_at}
use Rattle.group_command.specs.Lines.{group_line}
use Rattle.desk_program.specs.Texts.{only_at_ok}

-- ---- a trace

-- what a line says, and those after it
abbrev pub and_line : Option GroupLine → List GroupLine → List GroupLine
and_line None more = []
and_line (Some said) more = said ∷ more

abbrev pub bad_line_or : Option GroupLine → ℕ → Option TraceFault → Option TraceFault
bad_line_or None line more = Some (BadLine line)
bad_line_or (Some said) line more = more

-- What the lines of a text say where there are so many receivers, up to the first that is bad; this many
-- lines may still come.
unfoldable pub group_lines : (count more : ℕ) → List ℕ → List GroupLine
group_lines count zero text = []
group_lines count (suc n) [] = []
group_lines count (suc n) (b ∷ text) =
    and_line (group_line count (first_line (b ∷ text))) (group_lines count n (later_lines (b ∷ text)))

-- the first fault, where the lines are numbered from this one on
unfoldable pub lines_fault : (count more line : ℕ) → List ℕ → Option TraceFault
lines_fault count n line [] = None
lines_fault count zero line (b ∷ text) = Some (TooMany line)
lines_fault count (suc n) line (b ∷ text) =
    bad_line_or (group_line count (first_line (b ∷ text))) line
    (lines_fault count n (line + 1) (later_lines (b ∷ text)))

-- ---- what happens

-- The next frame is captured for all; or, of the receiver at a place: the slice at a place of a picture
-- reaches it, it plays its next picture, or a message of its comes back.
pub data Happening : Type 0 where
  Captured : Happening
  Reached : (place number slice : ℕ) → Happening
  Played : (place : ℕ) → Happening
  Returned : (place message : ℕ) → Happening

abbrev pub if_own : Bool → Event → List Event → List Event
if_own is_own e past = if is_own then e ∷ past else past

-- the events of the call of the receiver at place k, the newest first: each capture, and what is its own
abbrev pub events_at : ℕ → List Happening → List Event
events_at k [] = []
events_at k (Captured ∷ past) = Send ∷ events_at k past
events_at k (Reached j n i ∷ past) = if_own (j == k) (Deliver n i) (events_at k past)
events_at k (Played j ∷ past) = if_own (j == k) Play (events_at k past)
events_at k (Returned j m ∷ past) = if_own (j == k) (Back m) (events_at k past)

-- a call sends these pictures, one at each capture
abbrev pub one_by_one : List (Coded Style Mb Picture) → Source Style Mb Picture
one_by_one coded c = slice_get coded (length c.coded)

-- the ideal call of these events, where these are the pictures
abbrev pub call_with : Params → List (Coded Style Mb Picture) → List Event → Call Style Mb Picture
call_with p coded past = call_from (pictures_of (coding p)) (rules_of p) (one_by_one coded) past

-- a message of the receiver at place k comes back, if it was said
abbrev pub after_note : Params → ℕ → Option NumberedMessage → Groups → Groups
after_note p k note run =
    option_map_or
    (λ (note : NumberedMessage). group_after_saying p k (write_message (travelling (rules_of p) note)) run) note run

-- After these events of its call a picture that was played is marked exact where all its packets were
-- delivered while it was open, and nowhere else, and was then shown as the sender has it.
pub record ShowsWhatReached (p : Params) (coded : List (Coded Style Mb Picture)) (past : List Event) : Type 0 where
  pub exact : (n : ℕ) → n < played_before past
      → (before.mark_of (pictures_of (coding p)) (rules_of p) (one_by_one coded) past n ≡ Some Exact)
      ↔ AllDelivered p (one_by_one coded) past n
  pub shows : (n : ℕ) → n < played_before past → AllDelivered p (one_by_one coded) past n
      → before.shown (pictures_of (coding p)) (rules_of p) (one_by_one coded) past n ≡ picture_at coded n

-- ---- texts

-- what the next play of a call shows
abbrev pub next_shown : Params → Call Style Mb Picture → Shown Picture
next_shown p c = shown_at (pictures_of (coding p)) c.coded c.arrivals c.plays c.played

-- its line, where the call is that of the receiver at place k
abbrev pub play_line : Params → ℕ → Call Style Mb Picture → Text
play_line p k c =
    picture_text c.played (Some (mark_from (next_shown p c).mark)) (Some (reference_in c.coded c.played))
    (Some (49 + k))

-- the line of the counts of its call
abbrev pub counts_line : ℕ → Call Style Mb Picture → Text
counts_line k c =
    counts_text_of ((49 + k) ∷ codes " played") c.played (length c.coded) (plays_marked one_exact c.plays)
    (plays_marked one_patched c.plays) (plays_marked one_held c.plays)

module _ (p : Params) (count : ℕ) (frames : List Frame) where
  -- what the group has coded and knows after these events, the newest first
  abbrev pub group_at : List Happening → Groups
  group_at [] = after_joins count
  group_at (Captured ∷ past) =
      one_sends p (slice_get frames (length (group_at past).coded)) (group_at past)
  group_at (Reached k n j ∷ past) = group_at past
  group_at (Played k ∷ past) = group_at past
  group_at (Returned k m ∷ past) =
      after_note p k (slice_get (call_with p (group_at past).coded (events_at k past)).said m) (group_at past)

  -- the ideal call of the receiver at place k: its pictures are the group's
  abbrev pub call_at : ℕ → List Happening → Call Style Mb Picture
  call_at k past = call_with p (group_at past).coded (events_at k past)

  -- ---- lines

  -- the packets of picture n at the places below this one reach the receiver, in their order
  abbrev pub with_slices : ℕ → ℕ → ℕ → List Happening → List Happening
  with_slices k n zero past = past
  with_slices k n (suc j) past = Reached k n j ∷ with_slices k n j past

  -- what happened after a line of the receiver at place k
  abbrev pub with_its : ℕ → List Happening → OwnEvent → List Happening
  with_its k past (own.Packet n j) = Reached k n j ∷ past
  with_its k past (own.All n) = with_slices k n (length (slices_at (group_at past).coded n)) past
  with_its k past (own.Back m) = Returned k m ∷ past
  with_its k past own.Play = Played k ∷ past

  abbrev pub with_said : List Happening → GroupLine → List Happening
  with_said past Quiet = past
  with_said past ForAll = Captured ∷ past
  with_said past (Of k e) = with_its k past e

  -- after these lines
  abbrev pub with_all_said : List Happening → List GroupLine → List Happening
  with_all_said past [] = past
  with_all_said past (line ∷ lines) = with_all_said (with_said past line) lines

  -- A capture is in place and near for each receiver; another line's event for its own. Of one that
  -- delivers all packets of a picture the first is, even where the picture has none.
  abbrev pub LineMayBe : List Happening → GroupLine → Type 0
  LineMayBe past Quiet = Unit {0}
  LineMayBe past ForAll = (k : ℕ) → k < count → MayHappen (rules_of p) (length frames) (call_at k past) Send
  LineMayBe past (Of k e) =
      (k < count) × MayHappen (rules_of p) (length frames) (call_at k past) (event_of e)

  -- so it is for each of these lines, after those before it
  abbrev pub LinesMayBe : List Happening → List GroupLine → Type 0
  LinesMayBe past [] = Unit {0}
  LinesMayBe past (line ∷ lines) = LineMayBe past line × LinesMayBe (with_said past line) lines

  -- ---- a run

  -- the lines of all plays, in the order in which they were played
  abbrev pub play_lines : List Happening → Text
  play_lines [] = []
  play_lines (Captured ∷ past) = play_lines past
  play_lines (Reached k n j ∷ past) = play_lines past
  play_lines (Played k ∷ past) = play_lines past ++ play_line p k (call_at k past)
  play_lines (Returned k m ∷ past) = play_lines past

  -- the lines of the counts of so many receivers, from place k on
  abbrev pub counts_lines : ℕ → ℕ → List Happening → Text
  counts_lines zero k past = []
  counts_lines (suc n) k past = counts_line k (call_at k past) ++ counts_lines n (suc k) past

  -- each receiver has told, by messages that came back, that it has picture m
  abbrev pub AllHaveTold : List Happening → ℕ → Type 0
  AllHaveTold past m = (k : ℕ) → k < count → is_among (call_at k past).known m ≡ true

  -- m is the newest picture of which that is so in the window of the next one
  pub record IsNewestTold (past : List Happening) (m : ℕ) : Type 0 where
    pub sent : m < length (group_at past).coded
    pub near : length (group_at past).coded ≤ m + window (rules_of p)
    pub all : AllHaveTold past m
    pub newest : (j : ℕ) → m < j → j < length (group_at past).coded → AllHaveTold past j → ⊥

  -- the picture that is captured after these events refers to it, where its chain may grow, and to nothing
  -- else
  abbrev pub RefersToNewest : List Happening → Type 0
  RefersToNewest past =
      (x : Coded Style Mb Picture) (m : ℕ)
      → slice_get (group_at (Captured ∷ past)).coded (length (group_at past).coded) ≡ Some x
      → (x.reference ≡ Some m)
      ↔ (IsNewestTold past m × (depth_at (group_at past).coded m < (rules_of p).chain))

  -- so does each that was captured
  abbrev pub AllReferToNewest : List Happening → Type 0
  AllReferToNewest [] = Unit {0}
  AllReferToNewest (Captured ∷ past) = RefersToNewest past × AllReferToNewest past
  AllReferToNewest (Reached k n j ∷ past) = AllReferToNewest past
  AllReferToNewest (Played k ∷ past) = AllReferToNewest past
  AllReferToNewest (Returned k m ∷ past) = AllReferToNewest past

  -- The run is the calls of all receivers over these events. Each event is in place and near in its
  -- receivers' calls, whose pictures are the group's; each picture refers to the newest one in the window of
  -- which all have told that they have it. The pictures of each receiver are the head and then what its
  -- plays showed, and the report has their lines, with the counts of all where it ends with `Ok`. Of each
  -- receiver a picture is marked exact where all its packets reached it while it was open, and nowhere else.
  pub record AreViewersOver (past : List Happening) (run : Run) : Type 0 where
    pub near : (k : ℕ) → k < count
        → AllMayHappenFrom (pictures_of (coding p)) (rules_of p) (one_by_one (group_at past).coded)
        (length (group_at past).coded) (events_at k past)
    pub same : (k : ℕ) → k < count → (call_at k past).coded ≡ (group_at past).coded
    pub references : AllReferToNewest past
    pub pictures : (k : ℕ) → k < count
        → text_of run (pictures_at k) ≡ head_text p.format ++ shown_text (call_at k past).plays
    pub report : text_of run Report
        ≡ play_lines past ++ only_at_ok run.last.status (counts_lines count 0 past)
    pub arrived : (k : ℕ) → k < count → ShowsWhatReached p (group_at past).coded (events_at k past)

  -- ---- its end

  -- the first refusal of a capture: that of the first receiver to which half a period is on the way
  abbrev pub far_from : ℕ → ℕ → List Happening → Option Refusal
  far_from zero k past = None
  far_from (suc n) k past =
      or_refused (refusal_in (rules_of p) (length (group_at past).coded + 1) (call_at k past) Send)
      (far_from n (suc k) past)

  -- The capture has that refusal, or, where there is none, no frame is left: since the next one of the
  -- video is refused, if it has a fault.
  abbrev pub IsRefusedForAll : Option Y4mFault → ℕ → List Happening → Status → Type 0
  IsRefusedForAll broken number past status =
      ((r : Refusal) × (far_from count 0 past ≡ Some r) × (status ≡ TraceRefused (fault_told number Send r)))
      ⊎ ((far_from count 0 past ≡ None) × (length frames ≤ length (group_at past).coded)
      × (status ≡ capture_told broken number NoFrame))

  -- the refusal of an event of the receiver at place k; a message that has left its ring is far
  abbrev pub its_refusal : ℕ → List Happening → Event → Option Refusal
  its_refusal k past (Back m) =
      unless_left (length (call_at k past).said) (length (group_at past).coded) m
      (refusal_in (rules_of p) (length frames) (call_at k past) (Back m))
  its_refusal k past e = refusal_in (rules_of p) (length frames) (call_at k past) e

  -- a line is refused for its event; one that delivers all packets of a picture for the first one
  abbrev pub IsRefusedGroupLine : Option Y4mFault → ℕ → List Happening → GroupLine → Status → Type 0
  IsRefusedGroupLine broken number past Quiet status = ⊥
  IsRefusedGroupLine broken number past ForAll status = IsRefusedForAll broken number past status
  IsRefusedGroupLine broken number past (Of k e) status =
      (r : Refusal) × (its_refusal k past (event_of e) ≡ Some r)
      × (status ≡ TraceRefused (fault_told number (event_of e) r))

  -- where the next line, which has this number, says an event, that is refused; where there is none, the
  -- trace is read out, up to its first fault
  abbrev pub IsGroupEnd : Option Y4mFault → Option TraceFault → ℕ → List Happening → List GroupLine → Status → Type 0
  IsGroupEnd broken fault number past [] status = status ≡ trace_read_out fault
  IsGroupEnd broken fault number past (line ∷ lines) status = IsRefusedGroupLine broken number past line status

-- The lines that it accepts are the first ones of the trace, one in each turn but the first, which reads the
-- head, and each of them says what may happen there. Over their events the run is the calls of so many
-- receivers of the frames of the video, and it ends because of the line after them. Where it refuses the
-- video, just that line is taken of the trace.
pub record GroupFollowsItsTrace (p : Params) (count : ℕ) (inputs : Role → List ℕ) (run : Run) : Type 0 where
  pub lines : List GroupLine
  pub refused : List GroupLine
  pub read : group_lines count 16777216 (inputs Events) ≡ lines ++ refused
  pub taken : length run.turns ≡ length lines + 1
  pub may : LinesMayBe p count (film p (video_frames (inputs Video))) [] lines
  pub are_viewers : AreViewersOver p count (film p (video_frames (inputs Video)))
      (with_all_said p count (film p (video_frames (inputs Video))) [] lines) run
  pub end : IsGroupEnd p count (film p (video_frames (inputs Video))) (video_fault (inputs Video))
      (lines_fault count 16777216 1 (inputs Events)) (length lines + 1)
      (with_all_said p count (film p (video_frames (inputs Video))) [] lines) refused run.last.status
  pub others : (fault : Y4mFault) → run.last.status ≡ VideoRefused fault
      → run.last.taken Events ≡ Some (line_size (drop (taken_of run.turns Events) (inputs Events)))
