-- What comes of a picture is given to the receiver, and its play is the sender's.
use Rattle.std.proofs.Common.{◌≡◌, ℕ, zero, suc, ◌+◌, ◌≤◌, Bool, true, false, cond, ltb, List, [], ◌∷◌, ◌++◌, slice_get, Option, Some, None, refl, ap, sym, arith, subst, ◌∙◌, inl, inr}
use Rattle.std.specs.Option.{option_map_or}
use Rattle.std.proofs.lemmas.Bool.{le-ltb}
use Rattle.h263_bits.specs.declared.fault.Fault.{Fault}
use Rattle.h263_types.specs.declared.blocks.Mb.{Mb}
use Rattle.h263_types.specs.declared.params.Params.{Params}
use Rattle.h263_types.specs.Params.{IsParams}
use Rattle.h263_planes.specs.Picture.{Picture}
use Rattle.call_model.specs.Coding.{Decoding, Exact, Held, Patched, Rules, mixed}
use Rattle.call_model.specs.CodedPictures.{Coded}
use Rattle.call_model.specs.IdealCall.{AllMayHappenFrom, Back, Deliver, Event, Play, Send, Source, call_from, is_full}
use Rattle.call_model.specs.Lawful.{IsDecoding, IsRules}
use Rattle.call_model.specs.Receiving.{Packet, PlayNext, ReceiverEntry, ReceiverRun, after_packet, after_play, decoded, has_any, has_taken, is_complete, played_mark, played_picture, receiver_run}
use Rattle.call_model.specs.Sound.{AllSound, AnySoundSender, Packets, received}
use Rattle.call_decoding.specs.Rules.{rules_of}
use Rattle.call_decoding.specs.Styles.{Style}
use Rattle.receiver_end.specs.Decoding.{decoding}
use Rattle.receiver_end.specs.State.{plays_alone}
use Rattle.stream_numbers.specs.declared.packet.Packet.{Packet as Told}
use Rattle.stream_numbers.specs.declared.packet.Place.{Place}
use Rattle.stream_numbers.specs.declared.rate.Rate.{Rate}
use Rattle.stream_numbers.specs.Streams.{place_of}
use Rattle.playout_times.specs.declared.arrival.Arrival.{Arrival}
use Rattle.timed_receiver.specs.Timed as timed
use Rattle.stream_run.specs.Entries as run
use Rattle.session_runs.specs.Histories.{Config, History, history_entries, next_number_in, timed_in}
use Rattle.session_laws.specs.Undisturbed.{play_in}
use Rattle.session_laws.specs.InTime.{AreOfSender, Brings, HasPacket, IsPlacedAt, Plays, Sends, CallStep, Takes, run_entries, call_events, given_entries}

-- ---- what comes is given

kept_if : (b : Bool) (bytes other : List ℕ) (past : List ReceiverEntry) → HasPacket bytes past
    → HasPacket bytes (cond b past (Packet other ∷ past))
kept_if true bytes other past h = h
kept_if false bytes other past h = inr h

kept_place : (b : Bool) (first : ℕ) (bytes other : List ℕ) (a : Arrival) (past : List timed.Entry)
    → HasPacket bytes (timed.entries_of first past)
    → HasPacket bytes (timed.entries_of first (cond b past (timed.Came other a ∷ past)))
kept_place true first bytes other a past h = h
kept_place false first bytes other a past h =
    kept_if (ltb a.picture (timed.next_number_after first past)) bytes other (timed.entries_of first past) h

kept_by : (o : Option Place) (first lead : ℕ) (bytes other : List ℕ) (now : ℕ) (past : List timed.Entry)
    → HasPacket bytes (timed.entries_of first past)
    → HasPacket bytes (timed.entries_of first (run.with_place first lead o other now past))
kept_by None first lead bytes other now past h = h
kept_by (Some place) first lead bytes other now past h =
    kept_place (ltb (timed.next_number_after first past + lead) place.number) first bytes other
    (record { picture = place.number; captured = place.captured; at = now }) past h

stays : (r : Rate) (first lead : ℕ) (bytes : List ℕ) (later earlier : List run.StreamEntry)
    → HasPacket bytes (timed.entries_of first (run.timed_of r first lead earlier))
    → HasPacket bytes (timed.entries_of first (run.timed_of r first lead (later ++ earlier)))
stays r first lead bytes [] earlier h = h
stays r first lead bytes (run.Came packet other now ∷ later) earlier h =
    kept_by (place_of r (run.heard_of (later ++ earlier)) packet now) first lead bytes other now
    (run.timed_of r first lead (later ++ earlier)) (stays r first lead bytes later earlier h)
stays r first lead bytes (run.Shown now ∷ later) earlier h = stays r first lead bytes later earlier h

-- no picture is played twice
next_if : (b : Bool) (first : ℕ) (other : List ℕ) (a : Arrival) (past : List timed.Entry)
    → timed.next_number_after first (cond b past (timed.Came other a ∷ past)) ≡ timed.next_number_after first past
next_if true first other a past = refl
next_if false first other a past = refl

next_by : (o : Option Place) (first lead : ℕ) (other : List ℕ) (now : ℕ) (past : List timed.Entry)
    → timed.next_number_after first (run.with_place first lead o other now past) ≡ timed.next_number_after first past
next_by None first lead other now past = refl
next_by (Some place) first lead other now past =
    next_if (ltb (timed.next_number_after first past + lead) place.number) first other
    (record { picture = place.number; captured = place.captured; at = now }) past

grows : (r : Rate) (first lead : ℕ) (later earlier : List run.StreamEntry)
    → timed.next_number_after first (run.timed_of r first lead earlier)
    ≤ timed.next_number_after first (run.timed_of r first lead (later ++ earlier))
grows r first lead [] earlier = omega arith
grows r first lead (run.Came packet other now ∷ later) earlier =
    let k = grows r first lead later earlier in
    let e = next_by (place_of r (run.heard_of (later ++ earlier)) packet now) first lead other now
    (run.timed_of r first lead (later ++ earlier)) in
    no_less (timed.next_number_after first (run.timed_of r first lead earlier))
    (timed.next_number_after first (run.timed_of r first lead (later ++ earlier)))
    (timed.next_number_after first (run.timed_of r first lead (run.Came packet other now ∷ (later ++ earlier)))) k e
  where
    no_less : (a b c : ℕ) → a ≤ b → c ≡ b → a ≤ c
    no_less a b c h e = omega arith
grows r first lead (run.Shown now ∷ later) earlier =
    let k = grows r first lead later earlier in
    omega (arith, k)

here : (b d : Bool) (first : ℕ) (bytes : List ℕ) (a : Arrival) (past : List timed.Entry) → b ≡ false → d ≡ false
    → d ≡ ltb a.picture (timed.next_number_after first past)
    → HasPacket bytes (timed.entries_of first (cond b past (timed.Came bytes a ∷ past)))
here true d first bytes a past e f g = absurd cc
here false d first bytes a past e f g =
    subst (λ (x : Bool). HasPacket bytes (cond x (timed.entries_of first past)
    (Packet bytes ∷ timed.entries_of first past)))
    (sym f ∙ g) (inl refl)

placed : (o : Option Place) (place : Place) (first lead : ℕ) (bytes : List ℕ) (now : ℕ) (past : List timed.Entry)
    → o ≡ Some place → place.number ≤ timed.next_number_after first past + lead
    → timed.next_number_after first past ≤ place.number
    → HasPacket bytes (timed.entries_of first (run.with_place first lead o bytes now past))
placed o place first lead bytes now past e h i =
    subst (λ (x : Option Place). HasPacket bytes (timed.entries_of first (run.with_place first lead x bytes now past)))
    (sym e)
    (here (ltb (timed.next_number_after first past + lead) place.number)
    (ltb place.number (timed.next_number_after first past)) first
    bytes
    (record { picture = place.number; captured = place.captured; at = now }) past
    (le-ltb (timed.next_number_after first past + lead) place.number h)
    (le-ltb place.number (timed.next_number_after first past) i)
    refl)

pub given_in_time : (c : Config) (h : History) (later earlier : List run.StreamEntry) (packet : Told) (bytes : List ℕ)
    (at : ℕ)
    (place : Place)
    → h.past ≡ later ++ (run.Came packet bytes at ∷ earlier)
    → place_of c.rate (run.heard_of earlier) packet at ≡ Some place
    → place.number ≡ next_number_in c h
    → place.number ≤ timed.next_number_after h.first (run.timed_of c.rate h.first c.lead earlier) + c.lead
    → HasPacket bytes (history_entries c h)
given_in_time c h later earlier packet bytes at place e f g i =
    let before = run.timed_of c.rate h.first c.lead earlier in
    let all = ap (λ (l : List run.StreamEntry). timed.next_number_after h.first (run.timed_of c.rate h.first c.lead l))
    e in
    let l = grows c.rate h.first c.lead later (run.Came packet bytes at ∷ earlier) in
    let m = next_by (place_of c.rate (run.heard_of earlier) packet at) h.first c.lead bytes at before in
    subst (λ (l : List run.StreamEntry). HasPacket bytes
    (timed.entries_of h.first (run.timed_of c.rate h.first c.lead l)))
    (sym e)
    (stays c.rate h.first c.lead bytes later (run.Came packet bytes at ∷ earlier)
    (placed (place_of c.rate (run.heard_of earlier) packet at) place h.first c.lead bytes at before f i
    (below (timed.next_number_after h.first before)
    (timed.next_number_after h.first (run.timed_of c.rate h.first c.lead (run.Came packet bytes at ∷ earlier)))
    (timed.next_number_after h.first (run.timed_of c.rate h.first c.lead (later
    ++ (run.Came packet bytes at ∷ earlier))))
    (next_number_in c h) place.number m l all g)))
  where
    below : (a b d n p : ℕ) → b ≡ a → b ≤ d → n ≡ d → p ≡ n → a ≤ p
    below a b d n p e h f g = omega arith

-- ---- the play is the sender's

module _ {Style Mb Picture Fault : Type 0} (decoding : Decoding Style Mb Picture Fault) (rules : Rules)
    (source : Source Style Mb Picture) (packets : Packets Style Mb Picture) where
  delivered : (o : Option (List ℕ)) (r : ReceiverRun Style Mb Picture) (g : List ReceiverEntry)
      → r ≡ receiver_run decoding rules g
      → option_map_or (λ bytes. after_packet decoding rules bytes r) o r
      ≡ receiver_run decoding rules (option_map_or (λ bytes. Packet bytes ∷ g) o g)
  delivered None r g e = e
  delivered (Some bytes) r g e = ap (after_packet decoding rules bytes) e

  same_run : (events : List Event)
      → received decoding rules source packets events
      ≡ receiver_run decoding rules (given_entries decoding rules source packets events)
  same_run [] = refl
  same_run (Send ∷ past) = same_run past
  same_run (Deliver n j ∷ past) =
      delivered (slice_get (packets (call_from decoding.pictures rules source past).coded n) j)
      (received decoding rules source packets past) (given_entries decoding rules source packets past) (same_run past)
  same_run (Play ∷ past) = ap (after_play decoding rules) (same_run past)
  same_run (Back k ∷ past) = same_run past

pick : {A : Type 0} (b : Bool) (x y : A) → b ≡ true → cond b x y ≡ x
pick true x y e = refl
pick false x y e = absurd cc

module _ {Style Mb Picture Fault : Type 0} (decoding : Decoding Style Mb Picture Fault) (rules : Rules) where
  shown_mark : (r : ReceiverRun Style Mb Picture) → is_complete rules.mbs r.taken r.played ≡ true
      → played_mark decoding rules r ≡ Exact
  unfolding played_mark
  shown_mark r e = pick (is_complete rules.mbs r.taken r.played) Exact (cond (has_any r.taken r.played) Patched Held) e

  shown_picture : (r : ReceiverRun Style Mb Picture) → is_complete rules.mbs r.taken r.played ≡ true
      → played_picture decoding rules r ≡ decoded decoding rules r.taken r.played
  unfolding played_picture
  shown_picture r e =
      pick (is_complete rules.mbs r.taken r.played) (decoded decoding rules r.taken r.played)
      (mixed decoding.pictures (has_taken r.taken r.played) (decoded decoding rules r.taken r.played) r.screen) e

  -- how many pictures a receiver has played
  alone_played : (n : ℕ) → (receiver_run decoding rules (plays_alone n)).played ≡ n
  alone_played zero = refl
  alone_played (suc n) =
      let e = alone_played n in
      omega (arith, e)

  played_if : (b : Bool) (bytes : List ℕ) (past : List ReceiverEntry)
      → (receiver_run decoding rules (cond b past (Packet bytes ∷ past))).played
      ≡ (receiver_run decoding rules past).played
  played_if true bytes past = refl
  played_if false bytes past = refl

  played_is : (first : ℕ) (past : List timed.Entry)
      → (receiver_run decoding rules (timed.entries_of first past)).played ≡ timed.next_number_after first past
  played_is first [] = alone_played first
  played_is first (timed.Came bytes a ∷ past) =
      played_if (ltb a.picture (timed.next_number_after first past)) bytes (timed.entries_of first past)
      ∙ played_is first past
  played_is first (timed.Shown now ∷ past) = ap (λ (n : ℕ). n + 1) (played_is first past)

pub in_time : ((p : Params) → IsDecoding (decoding p.format) (rules_of p))
    → ((p : Params) → IsParams p → IsRules (rules_of p))
    → ((d : Decoding Style Mb Picture Fault) (r : Rules) → IsDecoding d r → IsRules r → AnySoundSender d r)
    → (c : Config) (h : History) (source : Source Style Mb Picture) (packets : Packets Style Mb Picture) (count : ℕ)
    (events : List Event) (x : Coded Style Mb Picture)
    → IsParams c.params
    → AllMayHappenFrom (decoding c.params.format).pictures (rules_of c.params) source count events
    → AllSound (decoding c.params.format) (rules_of c.params) source packets events
    → history_entries c h ≡ given_entries (decoding c.params.format) (rules_of c.params) source packets events
    → slice_get (call_from (decoding c.params.format).pictures (rules_of c.params) source events).coded
    (next_number_in c h)
    ≡ Some x
    → is_full (call_from (decoding c.params.format).pictures (rules_of c.params) source events).coded
    (call_from (decoding c.params.format).pictures (rules_of c.params) source events).arrivals (next_number_in c h)
    ≡ true
    → ((play_in c h).mark ≡ Exact) × ((play_in c h).picture ≡ x.picture)
in_time coded ruled law c h source packets count events x p may sound same sent full =
    let d = decoding c.params.format in
    let rules = rules_of c.params in
    let call = call_from d.pictures rules source events in
    let r = receiver_run d rules (history_entries c h) in
    let n = next_number_in c h in
    let follows = law d rules (coded c.params) (ruled c.params p) source packets count events may sound in
    let is_run : received d rules source packets events ≡ r =
    same_run d rules source packets events ∙ ap (receiver_run d rules) (sym same) in
    let played = played_is d rules h.first (timed_in c h) in
    let whole = ap (λ (y : ReceiverRun Style Mb Picture). is_complete rules.mbs y.taken n) (sym is_run)
    ∙ follows.state.complete n ∙ full in
    let now = ap (is_complete rules.mbs r.taken) played ∙ whole in (
      shown_mark d rules r now,
      shown_picture d rules r now
          ∙ ap (decoded d rules r.taken) played
          ∙ ap (λ (y : ReceiverRun Style Mb Picture). decoded d rules y.taken n) (sym is_run)
          ∙ follows.state.pictures n x sent full,
    )

-- ---- of one sender alone

taken_if : (b1 : Bool) (first : ℕ) (bytes : List ℕ) (a : Arrival) (past : List timed.Entry)
    → timed.entries_of first (cond b1 past (timed.Came bytes a ∷ past))
    ≡ cond b1 (timed.entries_of first past) (cond (ltb a.picture (timed.next_number_after first past))
    (timed.entries_of first past) (Packet bytes ∷ timed.entries_of first past))
taken_if true first bytes a past = refl
taken_if false first bytes a past = refl

taken_at : (o : Option Place) (number first lead : ℕ) (bytes : List ℕ) (now : ℕ) (past : List timed.Entry)
    → IsPlacedAt number o
    → timed.entries_of first (run.with_place first lead o bytes now past)
    ≡ cond (ltb (timed.next_number_after first past + lead) number) (timed.entries_of first past)
    (cond (ltb number (timed.next_number_after first past)) (timed.entries_of first past)
    (Packet bytes ∷ timed.entries_of first past))
taken_at None number first lead bytes now past e = absurd e
taken_at (Some place) number first lead bytes now past e =
    taken_if (ltb (timed.next_number_after first past + lead) place.number) first bytes
    (record { picture = place.number; captured = place.captured; at = now }) past
    ∙ ap (λ (n : ℕ). cond (ltb (timed.next_number_after first past + lead) n) (timed.entries_of first past)
    (cond (ltb n (timed.next_number_after first past)) (timed.entries_of first past)
    (Packet bytes ∷ timed.entries_of first past))) e

given_if : (b1 b2 : Bool) (d : Decoding Style Mb Picture Fault) (rules : Rules) (source : Source Style Mb Picture)
    (packets : Packets Style Mb Picture) (number place : ℕ) (bytes : List ℕ) (e : List ReceiverEntry)
    (events : List Event)
    → e ≡ given_entries d rules source packets events
    → slice_get (packets (call_from d.pictures rules source events).coded number) place ≡ Some bytes
    → cond b1 e (cond b2 e (Packet bytes ∷ e))
    ≡ given_entries d rules source packets (cond b1 events (cond b2 events (Deliver number place ∷ events)))
given_if true b2 d rules source packets number place bytes e events same sent = same
given_if false true d rules source packets number place bytes e events same sent = same
given_if false false d rules source packets number place bytes e events same sent =
    ap (λ (l : List ReceiverEntry). Packet bytes ∷ l) same
    ∙ sym (ap (λ (o : Option (List ℕ)). option_map_or (λ b. Packet b ∷ given_entries d rules source packets events) o
    (given_entries d rules source packets events)) sent)

same_given : (c : Config) (first : ℕ) (source : Source Style Mb Picture) (packets : Packets Style Mb Picture)
    (begun : List Event) (steps : List CallStep)
    → given_entries (decoding c.params.format) (rules_of c.params) source packets begun ≡ plays_alone first
    → AreOfSender c first source packets begun steps
    → timed.entries_of first (run.timed_of c.rate first c.lead (run_entries steps))
    ≡ given_entries (decoding c.params.format) (rules_of c.params) source packets (call_events c first begun steps)
same_given c first source packets begun [] b a = sym b
same_given c first source packets begun (Sends ∷ past) b a = same_given c first source packets begun past b a
same_given c first source packets begun (Brings message ∷ past) b a = same_given c first source packets begun past b a
same_given c first source packets begun (Takes number place packet bytes now ∷ past) b a =
    let t = run.timed_of c.rate first c.lead (run_entries past) in
    taken_at (place_of c.rate (run.heard_of (run_entries past)) packet now) number first c.lead bytes now t a.1
    ∙ given_if (ltb (timed.next_number_after first t + c.lead) number) (ltb number (timed.next_number_after first t))
    (decoding c.params.format) (rules_of c.params) source packets number place bytes (timed.entries_of first t)
    (call_events c first begun past) (same_given c first source packets begun past b a.2) a.0
same_given c first source packets begun (Plays now ∷ past) b a =
    ap (λ (l : List ReceiverEntry). PlayNext ∷ l) (same_given c first source packets begun past b a)

pub of_one_sender : ((p : Params) → IsDecoding (decoding p.format) (rules_of p))
    → ((p : Params) → IsParams p → IsRules (rules_of p))
    → ((d : Decoding Style Mb Picture Fault) (r : Rules) → IsDecoding d r → IsRules r → AnySoundSender d r)
    → (c : Config) (h : History) (source : Source Style Mb Picture) (packets : Packets Style Mb Picture) (count : ℕ)
    (begun : List Event) (steps : List CallStep) (x : Coded Style Mb Picture)
    → IsParams c.params
    → h.past ≡ run_entries steps
    → given_entries (decoding c.params.format) (rules_of c.params) source packets begun ≡ plays_alone h.first
    → AreOfSender c h.first source packets begun steps
    → AllMayHappenFrom (decoding c.params.format).pictures (rules_of c.params) source count
    (call_events c h.first begun steps)
    → AllSound (decoding c.params.format) (rules_of c.params) source packets (call_events c h.first begun steps)
    → slice_get (call_from (decoding c.params.format).pictures (rules_of c.params) source
    (call_events c h.first begun steps)).coded (next_number_in c h) ≡ Some x
    → is_full (call_from (decoding c.params.format).pictures (rules_of c.params) source
    (call_events c h.first begun steps)).coded
    (call_from (decoding c.params.format).pictures (rules_of c.params) source
    (call_events c h.first begun steps)).arrivals (next_number_in c h) ≡ true
    → ((play_in c h).mark ≡ Exact) × ((play_in c h).picture ≡ x.picture)
of_one_sender coded ruled law c h source packets count begun steps x p past b a may sound sent full =
    in_time coded ruled law c h source packets count (call_events c h.first begun steps) x p may sound
    (ap (λ (l : List run.StreamEntry). timed.entries_of h.first (run.timed_of c.rate h.first c.lead l)) past
    ∙ same_given c h.first source packets begun steps b a) sent full
