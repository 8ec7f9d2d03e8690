-- A call of two parties, each of which sends a video and receives the other's. Messages travel in the
-- picture headers of the other way.
use Rattle.std.specs.Prelude.{ℕ, ◌-◌, ⊤, nat_lt, max, List, [], ◌∷◌, ◌++◌, length, map, slice_get, slice_index_or, if◌then◌else◌}
use Rattle.std.specs.Option.{option_map_or}
use Rattle.std.specs.List.{range_with_len}
use Rattle.call_model.specs.Coding.{Rules, Message, Coding}
use Rattle.call_model.specs.IdealCall.{Event, Send, Deliver, Play, Back, Call, MayHappen, slices_at, ideal}
use Rattle.call_model.specs.TwoStores.{travelling}
use Rattle.duplex_call.specs.declared.line.Party.{Party}
use Rattle.duplex_call.specs.declared.line.Party.TheVariants.{A, B}

abbrev pub other : Party → Party
other A = B
other B = A

-- an event of one party's pictures
pub record Lettered : Type 0 where
  pub party : Party
  pub event : Event

-- What one party's pictures have met: the frames that were sent with the messages that they carry,
-- oldest first, and the events, newest first, with a Back for each message that was delivered to the
-- party. Of each picture it has the messages that its header carries, by their places among those that
-- the party's receiver said, and it has how many had been said when the last picture was captured.
pub record WayRun (Frame : Type 0) : Type 0 where
  pub frames : List Frame
  pub past : List Event
  pub carried : List (List ℕ)
  pub loaded : ℕ

-- both ways of a call
pub record WayRuns (Frame : Type 0) : Type 0 where
  pub a : WayRun Frame
  pub b : WayRun Frame

abbrev pub way : {Frame : Type 0} → Party → WayRuns Frame → WayRun Frame
way A ways = ways.a
way B ways = ways.b

abbrev pub with_way : {Frame : Type 0} → Party → WayRun Frame → WayRuns Frame → WayRuns Frame
with_way A new ways = record ways { a = new }
with_way B new ways = record ways { b = new }

abbrev pub no_runs : {Frame : Type 0} → WayRuns Frame
no_runs =
    record {
      a = record { frames = []; past = []; carried = []; loaded = 0 };
      b = record { frames = []; past = []; carried = []; loaded = 0 };
    }

-- the last four, at most, of the messages from this one up to so many
abbrev pub numbers_carried : (loaded said : ℕ) → List ℕ
numbers_carried loaded said = range_with_len (max loaded (said - 4)) (said - max loaded (said - 4))

-- these messages, in this order
abbrev pub messages_at : List Message → List ℕ → List Message
messages_at said [] = []
messages_at said (k ∷ ks) = option_map_or (λ message. message ∷ []) (slice_get said k) [] ++ messages_at said ks

-- the messages are brought back one after the other
abbrev pub brought : List ℕ → List Event → List Event
brought [] past = past
brought (k ∷ ks) past = brought ks (Back k ∷ past)

-- how the pictures of a party are coded
pub record WayCoding (Captured Frame Style Mb Picture Fault MessageFault : Type 0) : Type 0 where
  pub coding : Coding Frame Style Mb Picture Fault MessageFault
  pub rules : Rules
  pub pace : List ℕ → ℕ
  -- the frame of a captured picture whose header carries these messages
  pub carrying : Captured → List Message → Frame

module _ {Captured Frame Style Mb Picture Fault MessageFault : Type 0}
    (side : Party → WayCoding Captured Frame Style Mb Picture Fault MessageFault) where
  -- the ideal call of a party's pictures
  abbrev pub call_of : Party → WayRun Frame → Call Style Mb Picture
  call_of x w = ideal (side x).coding (side x).rules (side x).pace w.frames w.past

  -- what the receiver of the party's pictures said, as it travels
  abbrev pub way_said : Party → WayRun Frame → List Message
  way_said x w = map (travelling (side x).rules) (call_of x w).said

  -- this picture is captured and sent as the party's next one. Its header carries the last messages
  -- of the party's receiver
  abbrev pub with_capture : Party → Captured → WayRuns Frame → WayRuns Frame
  with_capture x captured ways =
      let own = way x ways in
      let said = way_said (other x) (way (other x) ways) in
      let numbers = numbers_carried own.loaded (length said) in
      with_way x (record {
        frames = own.frames ++ (side x).carrying captured (messages_at said numbers) ∷ [];
        past = Send ∷ own.past;
        carried = own.carried ++ numbers ∷ [];
        loaded = length said;
      }) ways

  -- the messages that a delivery brings to the other party: those of the picture's header, where there
  -- is a packet at this place
  abbrev pub brings : Party → WayRun Frame → ℕ → ℕ → List ℕ
  brings x w n j =
      if nat_lt j (length (slices_at (call_of x w).coded n)) then slice_index_or w.carried n [] else []

  -- a packet of the party is delivered
  abbrev pub with_delivery : Party → ℕ → ℕ → WayRuns Frame → WayRuns Frame
  with_delivery x n j ways =
      let own = way x ways in
      let far = way (other x) ways in
      with_way x (record own { past = Deliver n j ∷ own.past })
      (with_way (other x) (record far { past = brought (brings x own n j) far.past }) ways)

  -- the party's next picture is played
  abbrev pub with_play : Party → WayRuns Frame → WayRuns Frame
  with_play x ways = with_way x (record (way x ways) { past = Play ∷ (way x ways).past }) ways

  -- each of these messages is about a picture less than half a period behind the capture
  abbrev pub MayBeBrought : Party → WayRun Frame → List ℕ → Type 0
  MayBeBrought x w [] = ⊤
  MayBeBrought x w (k ∷ ks) = MayHappen (side x).rules 0 (call_of x w) (Back k) × MayBeBrought x w ks

  -- The event is in place and near, where so many pictures are there to be captured by its party: by the
  -- counts of the party whose picture it is about, and a delivery by those of the other party too, for
  -- the messages that the picture carries. No message is brought back by itself.
  abbrev pub MayHappenOf : ℕ → Party → Event → WayRuns Frame → Type 0
  MayHappenOf left x Send ways = MayHappen (side x).rules left (call_of x (way x ways)) Send
  MayHappenOf left x (Deliver n j) ways =
      MayHappen (side x).rules left (call_of x (way x ways)) (Deliver n j)
      × MayBeBrought (other x) (way (other x) ways) (slice_index_or (way x ways).carried n [])
  MayHappenOf left x Play ways = MayHappen (side x).rules left (call_of x (way x ways)) Play
  MayHappenOf left x (Back k) ways = ⊥

  -- ---- a whole call, where these pictures are there to be captured

  module _ (captures : Party → List Captured) where
    -- the next picture is sent, if one is left
    abbrev pub with_send : Party → WayRuns Frame → WayRuns Frame
    with_send x ways =
        option_map_or (λ captured. with_capture x captured ways)
        (slice_get (captures x) (length (way x ways).frames)) ways

    abbrev pub event_after : Party → Event → WayRuns Frame → WayRuns Frame
    event_after x Send ways = with_send x ways
    event_after x (Deliver n j) ways = with_delivery x n j ways
    event_after x Play ways = with_play x ways
    event_after x (Back k) ways = ways

    -- both ways after these events, the newest first
    abbrev pub ways_after : List Lettered → WayRuns Frame
    ways_after [] = no_runs
    ways_after (e ∷ past) = event_after e.party e.event (ways_after past)

    -- each event is near after those before it
    abbrev pub AllMayHappenOf : List Lettered → Type 0
    AllMayHappenOf [] = ⊤
    AllMayHappenOf (e ∷ past) =
        MayHappenOf (length (captures e.party)) e.party e.event (ways_after past) × AllMayHappenOf past
