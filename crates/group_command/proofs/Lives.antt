-- The life of a receiver of a group, event by event: its run is that of its ideal call.
use Rattle.std.proofs.Common.{◌≡◌, ℕ, zero, suc, ◌+◌, ◌-◌, ◌<◌, ◌≤◌, List, [], ◌∷◌, ◌++◌, length, Option, Some, None, refl, sym, ap, subst, ◌∙◌, arith, if◌then◌else◌}
use Rattle.std.specs.Prelude.{slice_get, take}
use Rattle.std.specs.Option.{option_map_or}
use Rattle.std.proofs.lemmas.Bool.{le-ltb}
use Rattle.std.proofs.lemmas.List.{append-nil, append_assoc, length-append, length-set}
use Rattle.h263_types.specs.declared.blocks.Mb.{Mb}
use Rattle.h263_types.specs.declared.params.Params.{Params}
use Rattle.h263_types.specs.Params.{IsParams}
use Rattle.h263_planes.specs.Picture.{Picture}
use Rattle.call_model.specs.Coding.{pictures_of}
use Rattle.call_model.specs.CodedPictures.{Coded, capture}
use Rattle.call_model.specs.IdealCall.{AllMayHappenFrom, Call, Event, Send, Deliver, Play, Back, NumberedMessage, Source, about, after, call_from}
use Rattle.call_model.specs.Lawful.{IsPace}
use Rattle.call_model.specs.Sending.{header_of, packets_before, packets_at}
use Rattle.call_model.specs.TwoStores.{travelling}
use Rattle.call_decoding.specs.Rules.{rules_of}
use Rattle.call_decoding.specs.Styles.{Style}
use Rattle.call_encoding.specs.Encoding.{encoding}
use Rattle.call_encoding.specs.Frames.{Frame}
use Rattle.call_encoding.specs.Messages.{write_message}
use Rattle.coded_call.specs.Coding.{coding}
use Rattle.one_way.specs.Both.{bare, steady}
use Rattle.group_sender.specs.Holding.{Groups, group_after_code, group_after_saying, next_of_group}
use Rattle.group_sender.specs.InACall.{AreLived, Arrives, ComesBack, Done, Lived, Plays, group_entries, lived_events, lived_source}
use Rattle.group_sender.specs.Running.{CaptureAll, FeedbackOf, GroupEntry, JoinsAt, after_join, group_run}
use Rattle.group_call.specs.Following.{ViewerFollows, ViewersFollow, view_lived}
use Rattle.group_call.specs.Hearing.{ViewerIsHeard, ViewersAreHeard}
use Rattle.group_call.specs.Viewing.{ViewerRun, no_view, coded_packets, view_delivery, view_packet, view_play}
use Rattle.group_command.specs.Group.{after_joins}
use Rattle.group_command.specs.Recorded.{call_with, one_by_one}

-- ---- lists

slice_before : {X : Type 0} (xs ys : List X) (n : ℕ) → n < length xs → slice_get (xs ++ ys) n ≡ slice_get xs n
slice_before [] ys n below = absurd (omega (arith, below))
slice_before (x ∷ xs) ys zero below = refl
slice_before (x ∷ xs) ys (suc n) below = slice_before xs ys n (omega (arith, below))

take_before : {X : Type 0} (xs ys : List X) (n : ℕ) → n < length xs → take n (xs ++ ys) ≡ take n xs
take_before [] ys n below = absurd (omega (arith, below))
take_before (x ∷ xs) ys zero below = refl
take_before (x ∷ xs) ys (suc n) below = ap (λ (l : List _). x ∷ l) (take_before xs ys n (omega (arith, below)))

slice_next : {X : Type 0} (xs : List X) (x : X) (ys : List X) → slice_get (xs ++ x ∷ ys) (length xs) ≡ Some x
slice_next [] x ys = refl
slice_next (y ∷ xs) x ys = slice_next xs x ys

-- the packets of a picture that was coded stay
pub packets_stay : (p : Params) (coded more : List (Coded Style Mb Picture)) (n : ℕ) → n < length coded
    → coded_packets p (coded ++ more) n ≡ coded_packets p coded n
unfolding packets_at
packets_stay p coded more n below =
    let there = slice_before coded more n below in
    let earlier = take_before coded more n below in
    λ i. option_map_or (λ (x : Coded Style Mb Picture). (encoding p).packets n (packets_before (earlier i))
    (header_of (rules_of p) n x) x.slices) (there i) []

-- ---- how the receivers join

-- those at the places below this one joined before
abbrev pub joins_below : ℕ → List (GroupEntry Frame)
joins_below zero = []
joins_below (suc k) = JoinsAt k ∷ joins_below k

-- the place that is so many after place k
abbrev pub place_after : ℕ → ℕ → ℕ
place_after k zero = k
place_after k (suc n) = suc (place_after k n)

place_is : (k n : ℕ) → place_after k n ≡ n + k
place_is k zero = omega arith
place_is k (suc n) = omega (arith, place_is k n)

-- and those at so many places after place k joined after it
abbrev pub joins_above : ℕ → ℕ → List (Lived Frame)
joins_above k zero = []
joins_above k (suc n) = Done (JoinsAt (suc (place_after k n))) ∷ joins_above k n

module _ (p : Params) where
  abbrev grouped : List (GroupEntry Frame) → Groups
  grouped entries = group_run (pictures_of (coding p)) (encoding p) (rules_of p) entries

  below_is : (k : ℕ) → grouped (joins_below k) ≡ after_joins k
  below_is zero = refl
  below_is (suc k) = ap (λ (g : Groups). after_join k g) (below_is k)

  above_is : (k n : ℕ) → grouped (group_entries k (joins_below k) (joins_above k n))
      ≡ after_joins (suc (place_after k n))
  above_is k zero = ap (λ (g : Groups). after_join k g) (below_is k)
  above_is k (suc n) = ap (λ (g : Groups). after_join (suc (place_after k n)) g) (above_is k n)

pub none_coded : (k : ℕ) → (after_joins k).coded ≡ []
none_coded zero = refl
none_coded (suc k) = none_coded k

pub all_places : (k : ℕ) → length (after_joins k).parties ≡ 16
all_places zero = refl
all_places (suc k) = length-set (after_joins k).parties k _ ∙ all_places k

no_events : (k n : ℕ) → lived_events 0 (joins_above k n) ≡ []
no_events k zero = refl
no_events k (suc n) = no_events k n

-- what the laws of groups say
pub record ViewLaws (p : Params) : Type 0 where
  pub in_range : IsParams p
  pub follow : ViewersFollow p
  pub hear : ViewersAreHeard p

module _ (p : Params) (laws : ViewLaws p) where
  abbrev AreNear : List (Coded Style Mb Picture) → List Event → Type 0
  AreNear coded events = AllMayHappenFrom (pictures_of (coding p)) (rules_of p) (one_by_one coded) (length coded) events

  abbrev AreFair : ℕ → List (Coded Style Mb Picture) → List (Lived Frame) → Type 0
  AreFair k coded lived = AreLived (coding p) (rules_of p) k 0 (one_by_one coded) lived

  -- The receiver at place k has lived these events of its call, where the group has done this, and has done so
  -- much. Whatever pictures come later change nothing of it.
  pub record Lives (k : ℕ) (run : Groups) (events : List Event) (view : ViewerRun) : Type 0 where
    pub place : k < 16
    pub lived : List (Lived Frame)
    pub events_are : lived_events 0 lived ≡ events
    pub group_is : grouped p (group_entries k (joins_below k) lived) ≡ run
    pub own : (call_with p run.coded events).coded ≡ run.coded
    pub call_is : (later : List (Coded Style Mb Picture)) → call_with p (run.coded ++ later) events
        ≡ call_with p run.coded events
    pub fair : (later : List (Coded Style Mb Picture)) → AreFair k (run.coded ++ later) lived
    pub near : (later : List (Coded Style Mb Picture)) → AreNear (run.coded ++ later) events
    pub view_is : (later : List (Coded Style Mb Picture)) → view_lived p (run.coded ++ later) lived ≡ view
    pub plays : view.plays ≡ (call_with p run.coded events).plays

  -- ---- the laws apply

  -- what stands in place of earlier pictures, of which there are none
  abbrev blank : Coded Style Mb Picture
  blank = capture (pictures_of (coding p)) (encoding p) 1
      (bare (record { format = p.format; y = []; cb = []; cr = [] })) [] None

  source_is : (coded : List (Coded Style Mb Picture)) → lived_source 0 blank coded ≡ one_by_one coded
  source_is coded = λ i c. if le-ltb (length c.coded) 0 (omega arith) i then Some blank
      else slice_get coded (length c.coded)

  module _ (k : ℕ) (run : Groups) (events : List Event) (view : ViewerRun) (l : Lives k run events view) where
    fair_now : AreFair k run.coded l.lived
    fair_now = subst (λ (s : List (Coded Style Mb Picture)). AreFair k s l.lived) (append-nil run.coded) (l.fair [])

    pub near_now : AreNear run.coded events
    near_now = subst (λ (s : List (Coded Style Mb Picture)). AreNear s events) (append-nil run.coded) (l.near [])

    view_now : view_lived p run.coded l.lived ≡ view
    view_now = subst (λ (s : List (Coded Style Mb Picture)). view_lived p s l.lived ≡ view) (append-nil run.coded)
        (l.view_is [])

    there : k < length (grouped p (joins_below k)).parties
    there = omega (arith, l.place, ap (λ (g : Groups). length g.parties) (below_is p k), all_places k)

    new : (grouped p (joins_below k)).coded ≡ []
    new = ap (λ (g : Groups). g.coded) (below_is p k) ∙ none_coded k

    abbrev Has : (ViewerRun → Groups → Call Style Mb Picture → Type 0) → Groups → Source Style Mb Picture → List Event
        → Type 0
    Has Holds g source happened =
        AreLived (coding p) (rules_of p) k 0 source l.lived
        → AllMayHappenFrom (pictures_of (coding p)) (rules_of p) source (length run.coded) happened
        → Holds (view_lived p g.coded l.lived) g (call_from (pictures_of (coding p)) (rules_of p) source happened)

    has_so : (Holds : ViewerRun → Groups → Call Style Mb Picture → Type 0)
        → Has Holds (grouped p (group_entries k (joins_below k) l.lived))
        (lived_source 0 blank (grouped p (group_entries k (joins_below k) l.lived)).coded) (lived_events 0 l.lived)
        → Holds view run (call_with p run.coded events)
    has_so Holds law =
        let grouped_so = subst (λ (g : Groups). Has Holds g (lived_source 0 blank g.coded) (lived_events 0 l.lived))
        l.group_is law in
        let sent_so = subst (λ (s : Source Style Mb Picture). Has Holds run s (lived_events 0 l.lived))
        (source_is run.coded) grouped_so in
        let now = subst (λ (happened : List Event). Has Holds run (one_by_one run.coded) happened) l.events_are sent_so
        in
        subst (λ (v : ViewerRun). Holds v run (call_with p run.coded events)) view_now (now fair_now near_now)

    pub follows : ViewerFollows p view run.coded (call_with p run.coded events)
    follows = has_so (λ v g c. ViewerFollows p v g.coded c)
        (laws.follow k (joins_below k) l.lived (bare (record { format = p.format; y = []; cb = []; cr = [] })) 1
        (length run.coded) there new (omega arith, omega arith))

    pub heard : ViewerIsHeard p k view run (call_with p run.coded events)
    heard = has_so (λ v g c. ViewerIsHeard p k v g c)
        (laws.hear k (joins_below k) l.lived (bare (record { format = p.format; y = []; cb = []; cr = [] })) 1
        (length run.coded) there new (omega arith, omega arith))

  -- ---- the start

  fair_start : (k n : ℕ) (coded : List (Coded Style Mb Picture)) → AreFair k coded (joins_above k n)
  fair_start k zero coded = tt
  fair_start k (suc n) coded = (λ is. absurd (omega (arith, is, place_is k n)), fair_start k n coded)

  view_start : (k n : ℕ) (coded : List (Coded Style Mb Picture)) → view_lived p coded (joins_above k n) ≡ no_view
  view_start k zero coded = refl
  view_start k (suc n) coded = view_start k n coded

  starts : (k n : ℕ) → k < 16 → Lives k (after_joins (suc (place_after k n))) [] no_view
  starts k n place = record {
    place = place;
    lived = joins_above k n;
    events_are = no_events k n;
    group_is = above_is p k n;
    own = sym (none_coded (suc (place_after k n)));
    call_is = λ later. refl;
    fair = λ later. fair_start k n ((after_joins (suc (place_after k n))).coded ++ later);
    near = λ later. tt;
    view_is = λ later. view_start k n ((after_joins (suc (place_after k n))).coded ++ later);
    plays = refl;
  }

  pub starts_in : (k count : ℕ) → k < count → count ≤ 16 → Lives k (after_joins count) [] no_view
  starts_in k count few most =
      let n = count - 1 - k in
      let is : suc (place_after k n) ≡ count = omega (arith, few, place_is k n) in
      let place : k < 16 = omega (arith, few, most) in
      subst (λ (m : ℕ). Lives k (after_joins m) [] no_view) is (starts k n place)

  -- ---- what reaches it, and what it plays

  abbrev next_after : List (Coded Style Mb Picture) → Event → Call Style Mb Picture → Call Style Mb Picture
  next_after coded e c = after (pictures_of (coding p)) (rules_of p) (one_by_one coded) c e

  delivery_shows : (packets : List (List ℕ)) (n j : ℕ) (view : ViewerRun)
      → (view_delivery p packets n j view).plays ≡ view.plays
  delivery_shows packets n j view = by_packet (slice_get packets j)
    where
      by_packet : (o : Option (List ℕ)) → (option_map_or (view_packet p n view) o view).plays ≡ view.plays
      by_packet None = refl
      by_packet (Some bytes) = refl

  pub reaches : (k n j : ℕ) (run : Groups) (events : List Event) (view : ViewerRun) → Lives k run events view
      → (n < length (call_with p run.coded events).coded)
      × ((call_with p run.coded events).played < n + (rules_of p).half)
      → Lives k run (Deliver n j ∷ events) (view_delivery p (coded_packets p run.coded n) n j view)
  reaches k n j run events view l may =
      let own : length (call_with p run.coded events).coded ≡ length run.coded =
      ap (λ (s : List (Coded Style Mb Picture)). length s) l.own in
      let below : n < length run.coded = omega (arith, may.0, own) in
      record {
        place = l.place;
        lived = Arrives n j ∷ l.lived;
        events_are = ap (λ (e : List Event). Deliver n j ∷ e) l.events_are;
        group_is = l.group_is;
        own = l.own;
        call_is = λ later. ap (next_after (run.coded ++ later) (Deliver n j)) (l.call_is later);
        fair = λ later. (omega arith, l.fair later);
        near = λ later. (
          subst (λ (c : Call Style Mb Picture). (n < length c.coded) × (c.played < n + (rules_of p).half))
              (sym (l.call_is later)) may,
          l.near later,
        );
        view_is = λ later.
            let stay = packets_stay p run.coded later n below in
            let same = l.view_is later in
            λ i. view_delivery p (stay i) n j (same i);
        plays = delivery_shows (coded_packets p run.coded n) n j view ∙ l.plays;
      }

  pub plays_next : (k : ℕ) (run : Groups) (events : List Event) (view : ViewerRun) → Lives k run events view
      → (call_with p run.coded events).played < length (call_with p run.coded events).coded
      → Lives k run (Play ∷ events) (view_play p view)
  plays_next k run events view l may =
      let shown = (follows k run events view l).shows may in
      let before = l.plays in
      record {
        place = l.place;
        lived = Plays ∷ l.lived;
        events_are = ap (λ (e : List Event). Play ∷ e) l.events_are;
        group_is = l.group_is;
        own = l.own;
        call_is = λ later. ap (next_after (run.coded ++ later) Play) (l.call_is later);
        fair = λ later. l.fair later;
        near = λ later. (
          subst (λ (c : Call Style Mb Picture). c.played < length c.coded) (sym (l.call_is later)) may,
          l.near later,
        );
        view_is = λ later. ap (λ (v : ViewerRun). view_play p v) (l.view_is later);
        plays = λ i. shown i ∷ before i;
      }

  -- ---- a picture more

  sends_next : (coded : List (Coded Style Mb Picture)) (events : List Event) (c : Call Style Mb Picture)
      (x : Coded Style Mb Picture) → call_with p coded events ≡ c → slice_get coded (length c.coded) ≡ Some x
      → call_with p coded (Send ∷ events) ≡ record c { coded = c.coded ++ x ∷ [] }
  sends_next coded events c x is at =
      ap (next_after coded Send) is
      ∙ ap (λ (o : Option (Coded Style Mb Picture)). record c {
        coded = c.coded ++ option_map_or (λ (y : Coded Style Mb Picture). y ∷ []) o [];
      }) at

  pub paced : IsPace (steady p)
  paced sizes few = (omega (arith, laws.in_range.quant_low), omega (arith, laws.in_range.quant_high))

  pub captured : (k : ℕ) (frame : Frame) (run : Groups) (events : List Event) (view : ViewerRun)
      → Lives k run events view
      → length (call_with p run.coded events).coded < (call_with p run.coded events).played + (rules_of p).half
      → Lives k (group_after_code p (steady p) frame run) (Send ∷ events) view
  captured k frame run events view l close =
      let c = call_with p run.coded events in
      let x = next_of_group p (steady p) frame run in
      let coded2 = run.coded ++ x ∷ [] in
      let c2 : Call Style Mb Picture = record c { coded = c.coded ++ x ∷ [] } in
      let own : length c.coded ≡ length run.coded = ap (λ (s : List (Coded Style Mb Picture)). length s) l.own in
      let with_later : (later : List (Coded Style Mb Picture)) → run.coded ++ x ∷ later ≡ coded2 ++ later =
      λ later. sym (append_assoc run.coded (x ∷ []) later) in
      let at : (later : List (Coded Style Mb Picture)) → slice_get (run.coded ++ x ∷ later) (length c.coded) ≡ Some x =
      λ later. ap (λ (n : ℕ). slice_get (run.coded ++ x ∷ later) n) own ∙ slice_next run.coded x later in
      let next : (later : List (Coded Style Mb Picture)) → call_with p (coded2 ++ later) (Send ∷ events) ≡ c2 =
      λ later. subst (λ (s : List (Coded Style Mb Picture)). call_with p s (Send ∷ events) ≡ c2) (with_later later)
      (sends_next (run.coded ++ x ∷ later) events c x (l.call_is (x ∷ later)) (at later)) in
      let now : call_with p coded2 (Send ∷ events) ≡ c2 =
      sends_next coded2 events c x (l.call_is (x ∷ [])) (at []) in
      let before : (later : List (Coded Style Mb Picture)) → call_with p (coded2 ++ later) events ≡ c =
      λ later. subst (λ (s : List (Coded Style Mb Picture)). call_with p s events ≡ c) (with_later later)
      (l.call_is (x ∷ later)) in
      let more : (later : List (Coded Style Mb Picture)) → length c.coded < length (coded2 ++ later) =
      λ later. omega (arith, own, length-append coded2 later, length-append run.coded (x ∷ [])) in
      record {
        place = l.place;
        lived = Done (CaptureAll (steady p) frame) ∷ l.lived;
        events_are = ap (λ (e : List Event). Send ∷ e) l.events_are;
        group_is = ap (λ (g : Groups). group_after_code p (steady p) frame g) l.group_is;
        own = ap (λ (d : Call Style Mb Picture). d.coded) now
            ∙ ap (λ (s : List (Coded Style Mb Picture)). s ++ x ∷ []) l.own;
        call_is = λ later. next later ∙ sym now;
        fair = λ later. (
          paced,
          subst (λ (s : List (Coded Style Mb Picture)). AreFair k s l.lived) (with_later later) (l.fair (x ∷ later)),
        );
        near = λ later. (
          subst (λ (d : Call Style Mb Picture). (length d.coded < length (coded2 ++ later))
              × (length d.coded < d.played + (rules_of p).half)) (sym (before later)) (more later, close),
          subst (λ (s : List (Coded Style Mb Picture)). AreNear s events) (with_later later) (l.near (x ∷ later)),
        );
        view_is = λ later. subst (λ (s : List (Coded Style Mb Picture)). view_lived p s l.lived ≡ view)
            (with_later later) (l.view_is (x ∷ later));
        plays = l.plays ∙ sym (ap (λ (d : Call Style Mb Picture). d.plays) now);
      }

  -- ---- messages that come back

  one_note : (a b : NumberedMessage) → Some a ≡ Some b → a ≡ b
  one_note a b is = cc is

  abbrev bytes_of : NumberedMessage → List ℕ
  bytes_of note = write_message (travelling (rules_of p) note)

  pub returns_own : (k m : ℕ) (note : NumberedMessage) (run : Groups) (events : List Event) (view : ViewerRun)
      → Lives k run events view → slice_get (call_with p run.coded events).said m ≡ Some note
      → length (call_with p run.coded events).coded < about note + (rules_of p).half
      → Lives k (group_after_saying p k (bytes_of note) run) (Back m ∷ events) view
  returns_own k m note run events view l said close =
      let at : (later : List (Coded Style Mb Picture)) → call_with p (run.coded ++ later) (lived_events 0 l.lived)
      ≡ call_with p run.coded events =
      λ later. ap (λ (e : List Event). call_with p (run.coded ++ later) e) l.events_are ∙ l.call_is later in
      record {
        place = l.place;
        lived = ComesBack m (bytes_of note) ∷ l.lived;
        events_are = ap (λ (e : List Event). Back m ∷ e) l.events_are;
        group_is = ap (λ (g : Groups). group_after_saying p k (bytes_of note) g) l.group_is;
        own = l.own;
        call_is = λ later. ap (next_after (run.coded ++ later) (Back m)) (l.call_is later);
        fair = λ later. (
          λ other is. ap bytes_of (one_note note other (sym said
              ∙ sym (ap (λ (c : Call Style Mb Picture). slice_get c.said m) (at later)) ∙ is)),
          l.fair later,
        );
        near = λ later.
            let moved = subst (λ (c : Call Style Mb Picture). (slice_get c.said m ≡ Some note)
            × (length c.coded < about note + (rules_of p).half)) (sym (l.call_is later)) (said, close) in
            ((note, moved.0, moved.1), l.near later);
        view_is = λ later. l.view_is later;
        plays = l.plays;
      }

  pub others_say : (k j : ℕ) (bytes : List ℕ) (run : Groups) (events : List Event) (view : ViewerRun) → (j ≡ k → ⊥)
      → Lives k run events view → Lives k (group_after_saying p j bytes run) events view
  others_say k j bytes run events view apart l = record {
    place = l.place;
    lived = Done (FeedbackOf j bytes) ∷ l.lived;
    events_are = l.events_are;
    group_is = ap (λ (g : Groups). group_after_saying p j bytes g) l.group_is;
    own = l.own;
    call_is = λ later. l.call_is later;
    fair = λ later. (apart, l.fair later);
    near = λ later. l.near later;
    view_is = λ later. l.view_is later;
    plays = l.plays;
  }
