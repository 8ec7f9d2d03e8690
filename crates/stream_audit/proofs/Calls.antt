-- A stream as the call of a sender: its pictures are what the sender codes, its feedback what it is told.
use Rattle.std.proofs.Common.{◌∙◌, ap, None, ◌≡◌, ℕ, ◌+◌, ◌%◌, ◌<◌, ◌≤◌, Bool, true, false, ◌&&◌, refl, sym, inl, inr, Some, Option, List, [], ◌∷◌, ◌++◌, length}
use Rattle.std.specs.Prelude.{if◌then◌else◌, Result, slice_get, map, not, option_and_then}
use Rattle.std.specs.Option.{option_map, option_map_or}
use Rattle.std.proofs.lemmas.List.{map-append}
use Rattle.std.proofs.lemmas.Bool.{cases_lt, and_from, lt-ltb, le-ltb, lt-leb, le-leb}
use Rattle.call_model.specs.Numbers.{AllBelowIs}
use Rattle.call_model.specs.Coding.{Rules, period, Header, Message, Ack, Exact, Shown, Pictures, Decoding, reconstruction_of_slices}
use Rattle.call_model.specs.CodedPictures.{Coded, picture_at}
use Rattle.call_model.specs.Before.{ArrivedByEvents}
use Rattle.call_model.specs.IdealCall.{Event, NumberedMessage, Got, Lost, about, Arrival, Call, Source, has_arrived, with_arrival, is_open, slices_at, is_full, newest_full, full_flags, delivery_counts, reconstruction_at, shown_at, call_from, AllMayHappenFrom}
use Rattle.call_model.specs.Sending.{NearestIsInPeriod, header_of, nearest_below}
use Rattle.call_model.specs.Receiving.{Repeat, Completed, Taken, nack}
use Rattle.call_model.specs.Sound.{Packets, AllSound, received, delivery_answer, play_message, AnySoundSender, NoneRefused}
use Rattle.call_model.specs.TwoStores.{travelling}
use Rattle.stream_audit.specs.Stream.{StreamPicture, Item, pictures_in, picture_numbered, part_slices, stream_packets, known_of}
use Rattle.stream_audit.specs.Replay.{MessageAbout, StreamEvent, decoded_in, events_in, about_said_to, replay}

-- the laws of a call that are used of a stream
pub record CallLaws {Style Mb P Fault : Type 0} (decoding : Decoding Style Mb P Fault) (rules : Rules) : Type 0 where
  pub sender : AnySoundSender decoding rules
  pub arrived : (source : Source Style Mb P) → ArrivedByEvents decoding.pictures rules source
  pub not_refused : NoneRefused Style Mb P Fault
  pub nearest : NearestIsInPeriod
  pub below : AllBelowIs

abbrev pub told_of : Rules → NumberedMessage → MessageAbout
told_of rules note = record { about = about note; message = travelling rules note }

pub map_two : {A B : Type 0} (f : A → B) (xs ys : List A) → map f xs ++ map f ys ≡ map f (xs ++ ys)
map_two f xs ys = rw map-append refl

module _ {Style Mb P Fault MessageFault : Type 0} (decoding : Decoding Style Mb P Fault) (read : List ℕ
    → Result Message MessageFault) (rules : Rules) (stream : List (Item Style Mb)) where
  -- a picture of the stream as one that a sender of a call has coded
  abbrev pub coded_of : ℕ → List (Coded Style Mb P) → StreamPicture Style Mb → Coded Style Mb P
  coded_of n coded p =
      let reference = option_and_then (nearest_below rules n) p.header.reference in
      record {
        reference = reference;
        depth = 0;
        style = p.header.style;
        slices = part_slices p;
        picture = reconstruction_of_slices decoding.pictures p.header.style
            (option_and_then (picture_at coded) reference) (part_slices p);
      }

  abbrev pub source : Source Style Mb P
  source c = option_map (coded_of (length c.coded) c.coded) (picture_numbered stream (length c.coded))

  abbrev pub packets : Packets Style Mb P
  packets coded n = stream_packets stream n

  abbrev pub call : List Event → Call Style Mb P
  call past = call_from decoding.pictures rules source past

  -- it is picture n of the stream
  pub record IsOf (n : ℕ) (x : Coded Style Mb P) : Type 0 where
    pub picture : StreamPicture Style Mb
    pub there : picture_numbered stream n ≡ Some picture
    pub slices : x.slices ≡ part_slices picture
    pub style : x.style ≡ picture.header.style
    pub reference : x.reference ≡ option_and_then (nearest_below rules n) picture.header.reference

  -- the call of the stream and the replay go together
  pub record At (past : List StreamEvent) : Type 0 where
    pub near : AllMayHappenFrom decoding.pictures rules source (pictures_in stream) (events_in past)
    pub all_sound : AllSound decoding rules source packets (events_in past)
    pub more : List (Item Style Mb)
    pub done : List (Item Style Mb)
    pub split : stream ≡ more ++ done
    pub items : (replay decoding read rules stream past).items ≡ length done
    pub sent : (replay decoding read rules stream past).sent ≡ length (call (events_in past)).coded
    pub pictures : pictures_in done ≡ length (call (events_in past)).coded
    pub known : known_of read rules done ≡ (call (events_in past)).known
    pub receiver : (replay decoding read rules stream past).receiver
        ≡ received decoding rules source packets (events_in past)
    pub said : (replay decoding read rules stream past).said ≡ map (told_of rules) (call (events_in past)).said
    pub coded : (n : ℕ) (x : Coded Style Mb P) → slice_get (call (events_in past)).coded n ≡ Some x → IsOf n x
    pub decoded : map (λ x. x.picture) (call (events_in past)).coded ≡ decoded_in decoding rules done

-- what a delivery lets the receiver say is what the call says
pub says : {Style Mb P : Type 0} (Fault : Type 0) (rules : Rules) (c : Call Style Mb P) (n j : ℕ)
    → j < length (slices_at c.coded n)
    → about_said_to {Fault = Fault} n (delivery_answer rules c n j)
    ≡ map (told_of rules) (if delivery_counts rules c n j && is_full c.coded (with_arrival c.arrivals n j) n then Got n
    (full_flags rules c.coded (with_arrival c.arrivals n j) n) ∷ [] else [])
unfolding delivery_answer delivery_counts is_open
says Fault rules c n j lt =
    elim (cases_lt n c.played) [
      | inl late ↦ rw (lt-ltb n c.played late, lt-leb c.played n late) refl
      | inr low ↦ elim (cases_lt (c.played + rules.lead) n) [
        | inl early ↦ rw (
          le-ltb n c.played low,
          lt-ltb (c.played + rules.lead) n early,
          le-leb c.played n low,
          lt-leb n (c.played + rules.lead) early,
        ) refl
        | inr high ↦ rw (
          le-ltb n c.played low,
          le-ltb (c.played + rules.lead) n high,
          le-leb c.played n low,
          le-leb n (c.played + rules.lead) high,
          lt-ltb j (length (slices_at c.coded n)) lt,
        )
            (go (has_arrived c.arrivals n j) (is_full c.coded (with_arrival c.arrivals n j) n))
      ]
    ]
  where
    go : (came full : Bool) → about_said_to {Fault = Fault} n (if came then Repeat else if full then Completed
        (Ack (n % period rules) (full_flags rules c.coded (with_arrival c.arrivals n j) n)) else Taken)
        ≡ map (told_of rules) (if not came && full then Got n
        (full_flags rules c.coded (with_arrival c.arrivals n j) n) ∷ [] else [])
    go true full = refl
    go false true = refl
    go false false = refl

-- nothing counts where there is no such slice
pub no_count : {Style Mb P : Type 0} (rules : Rules) (c : Call Style Mb P) (n j : ℕ) → length (slices_at c.coded n) ≤ j
    → delivery_counts rules c n j ≡ false
unfolding delivery_counts
no_count rules c n j none = rw (le-ltb j (length (slices_at c.coded n)) none) (go (is_open rules c.played n))
  where
    go : (b : Bool) → (b && false) ≡ false
    go true = refl
    go false = refl

-- what a play lets it say
pub told_by_play : {Style Mb P : Type 0} (rules : Rules) (c : Call Style Mb P)
    → option_map_or (λ m. let t : MessageAbout = record { about = c.played; message = m } in
    t ∷ []) (play_message rules c) []
    ≡ map (told_of rules) (if is_full c.coded c.arrivals c.played then [] else Lost c.played
    (newest_full rules c.coded c.arrivals c.played) (full_flags rules c.coded c.arrivals c.played) ∷ [])
unfolding play_message
told_by_play rules c = go (is_full c.coded c.arrivals c.played)
  where
    go : (b : Bool) → option_map_or (λ m. let t : MessageAbout = record { about = c.played; message = m } in
        t ∷ []) (if b then None else Some (nack rules c.played (newest_full rules c.coded c.arrivals c.played)
        (full_flags rules c.coded c.arrivals c.played))) []
        ≡ map (told_of rules) (if b then [] else Lost c.played (newest_full rules c.coded c.arrivals c.played)
        (full_flags rules c.coded c.arrivals c.played) ∷ [])
    go true = refl
    go false = refl

-- the slices of a picture that was sent
pub slices_are : {Style Mb P : Type 0} (coded : List (Coded Style Mb P)) (n : ℕ) (x : Coded Style Mb P)
    → slice_get coded n ≡ Some x → slices_at coded n ≡ x.slices
unfolding slices_at
slices_are coded n x e = rw e refl

pub is_full_from : AllBelowIs → {Style Mb P : Type 0} (coded : List (Coded Style Mb P)) (arrivals : List Arrival)
    (n : ℕ) → n < length coded → ((j : ℕ) → j < length (slices_at coded n) → has_arrived arrivals n j ≡ true)
    → is_full coded arrivals n ≡ true
unfolding is_full
is_full_from below coded arrivals n sent each = and_from _ _ (lt-ltb n (length coded) sent)
    ((below (length (slices_at coded n)) (has_arrived arrivals n)).1 each)

pub exact_where_full : {Style Mb P : Type 0} (pictures : Pictures Style Mb P) (coded : List (Coded Style Mb P))
    (arrivals : List Arrival) (plays : List (Shown P)) (n : ℕ) → is_full coded arrivals n ≡ true
    → (shown_at pictures coded arrivals plays n).mark ≡ Exact
unfolding shown_at
exact_where_full pictures coded arrivals plays n full = rw full refl

pub shown_where_full : {Style Mb P : Type 0} (pictures : Pictures Style Mb P) (coded : List (Coded Style Mb P))
    (arrivals : List Arrival) (plays : List (Shown P)) (n : ℕ) → is_full coded arrivals n ≡ true
    → (shown_at pictures coded arrivals plays n).picture ≡ reconstruction_at pictures coded n
unfolding shown_at
shown_where_full pictures coded arrivals plays n full = rw full refl

pub header_is : {Style : Type 0} (h : Header Style) (number : ℕ) (reference : Option ℕ) (half : ℕ) → h.number ≡ number
    → reference ≡ h.reference → h.half ≡ half
    → h ≡ (let g : Header Style = record { number = number; reference = reference; half = half; style = h.style } in g)
header_is {Style} h number reference half a b c =
    ap (λ (k : ℕ). let g : Header Style = record {
      number = k;
      reference = h.reference;
      half = h.half;
      style = h.style;
    } in g) a
    ∙ ap (λ (o : Option ℕ). let g : Header Style = record {
      number = number;
      reference = o;
      half = h.half;
      style = h.style;
    } in g) (sym b)
    ∙ ap (λ (k : ℕ). let g : Header Style = record {
      number = number;
      reference = reference;
      half = k;
      style = h.style;
    } in g) c

pub header_of_is : {Style Mb P : Type 0} (rules : Rules) (n : ℕ) (x : Coded Style Mb P)
    → header_of rules n x ≡ (let g : Header Style = record {
      number = n % period rules;
      reference = option_map (λ m. m % period rules) x.reference;
      half = rules.half;
      style = x.style;
    } in g)
unfolding header_of
header_of_is rules n x = refl
