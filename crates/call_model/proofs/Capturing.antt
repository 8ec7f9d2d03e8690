-- The encoder's pictures are sound, and its packets are read as their slices.
use Rattle.std.proofs.Common.{Ok, ◌≡◌, ℕ, ◌+◌, ◌-◌, ◌%◌, ◌<◌, ◌≤◌, Bool, true, false, ◌&&◌, refl, sym, ap, ◌∙◌, subst, arith, inl, inr, Option, Some, None, List, [], ◌∷◌, ◌++◌, length, ltb, leb}
use Rattle.std.specs.Prelude.{if◌then◌else◌, slice_get, slice_index_or, option_and_then, is_some, take}
use Rattle.std.specs.Option.{option_map, option_map_or}
use Rattle.std.proofs.lemmas.Bool.{and_parts, leb-true, eq-eqb}
use Rattle.std.proofs.lemmas.Option.{slice_get_cases}
use Rattle.std.proofs.lemmas.List.{append-nil}
use Rattle.std.proofs.lemmas.List.FromFn.{length-map-range_with_len}
use Rattle.std.proofs.Math.Nat.{mod-lt}
use Rattle.call_model.specs.Numbers.{greatest}
use Rattle.call_model.specs.Coding.{Rules, window, period, Slice, Pictures, Encoding, Coding, pictures_of, decoded_picture, reconstruction_of_slices, mb_among}
use Rattle.call_model.specs.CodedPictures.{Coded, picture_at, capture, reference_for, is_among, depth_at}
use Rattle.call_model.specs.IdealCall.{Event, Send, Deliver, Play, Back, Call, call_from, encoded}
use Rattle.call_model.specs.Sending.{header_of, packets_at, packets_before, bytes_together, last_sizes, next_coded}
use Rattle.call_model.specs.Sound.{IsSoundPicture, IsPacketOfSlice, IsSoundEvent, AllSound}
use Rattle.call_model.specs.Lawful.{Divides, IsMade, IsChosen, IsPictures, IsEncoding, IsCoding, IsRules, IsPace, FitsHeader}
use Rattle.call_model.proofs.ListLemmas.{slice_get_push, greatest_passes}
use Rattle.call_model.proofs.Fullness.{mb_among_is}

-- the reference that is chosen for picture n is known, earlier and in the window
pub reference_chosen : (rules : Rules) (depth : ℕ → ℕ) (known : ℕ → Bool) (n m : ℕ) → reference_for rules depth known n
    ≡ Some m → (m < n) × (n ≤ m + window rules) × (known m ≡ true)
unfolding reference_for
reference_chosen rules depth known n m e = go (greatest (λ i. known i && leb n (i + window rules)) n) refl e
  where
    go : (o : Option ℕ) → greatest (λ i. known i && leb n (i + window rules)) n ≡ o
        → option_and_then (λ i. if ltb (depth i) rules.chain then Some i else None) o ≡ Some m
        → (m < n) × (n ≤ m + window rules) × (known m ≡ true)
    go None best none = cc
    go (Some i) best some =
        let passes = greatest_passes (λ i. known i && leb n (i + window rules)) n i best in
        let parts = and_parts (known i) (leb n (i + window rules)) passes.0 in
        let same : i ≡ m = depth_split (ltb (depth i) rules.chain) some in
        subst (λ (k : ℕ). (k < n) × (n ≤ k + window rules) × (known k ≡ true)) same (
          passes.1,
          leb-true _ _ parts.1,
          parts.0,
        )
      where
        depth_split : (b : Bool) → (if b then Some i else None) ≡ Some m → i ≡ m
        depth_split true e = cc
        depth_split false e = cc

-- what an encoder sends: slices of macroblocks that it chose, and a picture that is made of samples
pub record IsEncoded {Frame Style Mb Picture MessageFault : Type 0} (pictures : Pictures Style Mb Picture)
    (encoding : Encoding Frame Style Mb Picture MessageFault) (x : Coded Style Mb Picture) : Type 0 where
  pub mbs : List Mb
  pub chosen : IsChosen pictures encoding (is_some x.reference) x.style mbs
  pub slices : x.slices ≡ encoding.cut x.style mbs
  pub made : IsMade pictures x.picture

abbrev pub AllEncoded : {Frame Style Mb Picture MessageFault : Type 0} → Pictures Style Mb Picture
    → Encoding Frame Style Mb Picture MessageFault → List (Coded Style Mb Picture) → Type 0
AllEncoded {Frame} {Style} {Mb} {Picture} {MessageFault} pictures encoding coded = (n : ℕ) (x : Coded Style Mb Picture)
    → slice_get coded n ≡ Some x → IsEncoded pictures encoding x

module _ {Frame Style Mb Picture MessageFault : Type 0} (pictures : Pictures Style Mb Picture)
    (encoding : Encoding Frame Style Mb Picture MessageFault) (rules : Rules) where
  -- a picture that was chosen is there
  reference_there : (coded : List (Coded Style Mb Picture)) (r : Option ℕ) → ((m : ℕ) → r ≡ Some m → m < length coded)
      → is_some (option_and_then (picture_at coded) r) ≡ is_some r
  reference_there coded None below = refl
  reference_there coded (Some m) below =
      elim (slice_get_cases coded m).1 [
        | inl h ↦ rw h.2 refl
        | inr h ↦ absurd (omega (arith, h.0, below m refl))
      ]

  -- the picture of the reference is made of samples
  reference_is_made : (coded : List (Coded Style Mb Picture)) (r : Option ℕ) → AllEncoded pictures encoding coded
      → (p : Picture) → option_and_then (picture_at coded) r ≡ Some p → IsMade pictures p
  reference_is_made coded None made p e = cc
  reference_is_made coded (Some m) made p e = go (slice_get coded m) refl e
    where
      go : (o : Option (Coded Style Mb Picture)) → slice_get coded m ≡ o
          → option_map (λ (x : Coded Style Mb Picture). x.picture) o ≡ Some p → IsMade pictures p
      go None at is = cc
      go (Some x) at is =
          let same : x.picture ≡ p = cc in
          subst (λ (q : Picture). IsMade pictures q) same (made m x at).made

  abbrev before_of : List (Coded Style Mb Picture) → List ℕ → Option Picture
  before_of coded known = option_and_then (picture_at coded) (reference_for rules (depth_at coded) (is_among known)
      (length coded))

  abbrev depth_after : List (Coded Style Mb Picture) → List ℕ → ℕ
  depth_after coded known = option_map_or (λ m. depth_at coded m + 1) (reference_for rules (depth_at coded)
      (is_among known) (length coded)) 0

  abbrev style_of : ℕ → Frame → List (Coded Style Mb Picture) → List ℕ → Style
  style_of quant frame coded known =
      encoding.style frame (is_some (reference_for rules (depth_at coded) (is_among known) (length coded)))
      (depth_after coded known) quant

  abbrev mbs_of : ℕ → Frame → List (Coded Style Mb Picture) → List ℕ → List Mb
  mbs_of quant frame coded known = encoding.choice frame (before_of coded known) (style_of quant frame coded known)

  mbs_chosen : (quant : ℕ) (frame : Frame) (coded : List (Coded Style Mb Picture)) (known : List ℕ)
      → (0 < quant) × (quant < 32) → AllEncoded pictures encoding coded
      → IsChosen pictures encoding (is_some (reference_for rules (depth_at coded) (is_among known) (length coded)))
      (style_of quant frame coded known) (mbs_of quant frame coded known)
  mbs_chosen quant frame coded known range all = record {
    frame = frame;
    reference = before_of coded known;
    depth = depth_after coded known;
    quant = quant;
    quant_range = range;
    has_reference = reference_there coded (reference_for rules (depth_at coded) (is_among known) (length coded))
        (λ m e. (reference_chosen rules (depth_at coded) (is_among known) (length coded) m e).0);
    reference_made = reference_is_made coded (reference_for rules (depth_at coded) (is_among known) (length coded)) all;
    style_is = refl;
    mbs_are = refl;
  }

  pub capture_encoded : (quant : ℕ) (frame : Frame) (coded : List (Coded Style Mb Picture)) (known : List ℕ)
      → (0 < quant) × (quant < 32) → AllEncoded pictures encoding coded
      → IsEncoded pictures encoding (capture pictures encoding quant frame coded (reference_for rules (depth_at coded)
      (is_among known) (length coded)))
  unfolding capture
  capture_encoded quant frame coded known range all = record {
    mbs = mbs_of quant frame coded known;
    chosen = mbs_chosen quant frame coded known range all;
    slices = refl;
    made = (_, refl);
  }

  pub more_encoded : (coded : List (Coded Style Mb Picture)) (y : Coded Style Mb Picture)
      → AllEncoded pictures encoding coded → IsEncoded pictures encoding y
      → AllEncoded pictures encoding (coded ++ y ∷ [])
  more_encoded coded y all one n x e =
      elim (slice_get_push coded y n x e) [
        | inl old ↦ all n x old
        | inr new ↦ subst (λ (z : Coded Style Mb Picture). IsEncoded pictures encoding z) (sym new.1) one
      ]

  -- a pace is asked for 16 sizes at most
  sizes_few : (coded : List (Coded Style Mb Picture)) → length (last_sizes encoding rules coded) ≤ 16
  sizes_few coded =
      let count : length (last_sizes encoding rules coded) ≡ length coded - (length coded - 16) =
      length-map-range_with_len (λ n. bytes_together (packets_at encoding rules coded n)) (length coded - 16)
      (length coded - (length coded - 16)) in
      omega (arith, count)

  pub next_encoded : (pace : List ℕ → ℕ) (frame : Frame) (coded : List (Coded Style Mb Picture)) (known : List ℕ)
      → IsPace pace → AllEncoded pictures encoding coded
      → AllEncoded pictures encoding (coded ++ next_coded pictures encoding rules pace frame coded known ∷ [])
  next_encoded pace frame coded known range all = more_encoded coded _ all
      (capture_encoded (pace (last_sizes encoding rules coded)) frame coded known
      (range (last_sizes encoding rules coded) (sizes_few coded)) all)

  -- the picture by its slices is the picture by its macroblocks
  by_slices : IsPictures pictures rules → (style : Style) (reference : Option Picture) (slices : List (Slice Mb))
      (mbs : List Mb) → Divides pictures.skip rules.mbs slices mbs → decoded_picture pictures style reference mbs
      ≡ reconstruction_of_slices pictures style reference slices
  by_slices lawful style reference slices mbs divides =
      lawful.picture_same _ _ (λ s inside. ap (λ (mb : Mb). pictures.reconstructed_sample style reference mb s)
      (sym (mb_is (pictures.owner s) inside)))
    where
      mb_is : (k : ℕ) → k < rules.mbs → mb_among pictures.skip slices k ≡ slice_index_or mbs k pictures.skip
      mb_is k lt =
          elim (slice_get_cases slices (divides.covers.place_of k)).1 [
            | inl h ↦
                let has = divides.covers.has (divides.covers.place_of k) k h.0 lt h.2
                ∙ eq-eqb (divides.covers.place_of k) (divides.covers.place_of k) refl in
                mb_among_is pictures.skip rules.mbs slices divides.covers (divides.covers.place_of k) k h.0 lt h.2 has
                ∙ divides.same (divides.covers.place_of k) k h.0 h.2 has
            | inr h ↦ absurd (omega (arith, h.0, divides.covers.below k lt))
          ]

  -- the next picture is sound
  pub capture_sound : IsPictures pictures rules → IsEncoding pictures encoding rules
      → (quant : ℕ) (frame : Frame) (c : Call Style Mb Picture) → (0 < quant) × (quant < 32)
      → AllEncoded pictures encoding c.coded
      → IsSoundPicture pictures rules c (capture pictures encoding quant frame c.coded
      (reference_for rules (depth_at c.coded) (is_among c.known) (length c.coded)))
  unfolding capture
  capture_sound lawful encodes quant frame c range all =
      let divides = encodes.divides
      (is_some (reference_for rules (depth_at c.coded) (is_among c.known) (length c.coded)))
      (style_of quant frame c.coded c.known) (mbs_of quant frame c.coded c.known)
      (mbs_chosen quant frame c.coded c.known range all) in
      record {
        covers = divides.covers;
        picture = by_slices lawful (style_of quant frame c.coded c.known) (before_of c.coded c.known)
            (encoding.cut (style_of quant frame c.coded c.known) (mbs_of quant frame c.coded c.known))
            (mbs_of quant frame c.coded c.known) divides;
        reference = λ m e. let h = reference_chosen rules (depth_at c.coded) (is_among c.known) (length c.coded) m e in
            (h.1, h.2);
      }

module _ {Frame Style Mb Picture Fault MessageFault : Type 0}
    (coding : Coding Frame Style Mb Picture Fault MessageFault) (rules : Rules) (lawful : IsCoding coding rules)
    (ruled : IsRules rules) where
  packets_of_is : (coded : List (Coded Style Mb Picture)) (n : ℕ) (x : Coded Style Mb Picture)
      → slice_get coded n ≡ Some x → packets_at coding.encoding rules coded n
      ≡ coding.encoding.packets n (packets_before (take n coded)) (header_of rules n x) x.slices
  unfolding packets_at
  packets_of_is coded n x at_n = rw at_n refl

  header_fits : (n : ℕ) (x : Coded Style Mb Picture) → FitsHeader rules (is_some x.reference) (header_of rules n x)
  unfolding header_of
  header_fits n x = record {
    number = mod-lt n positive;
    reference = λ m e. below x.reference m e;
    half = refl;
    kind = kind x.reference;
  }
    where
      positive : 0 < period rules
      positive = omega (arith, ruled.lead_small, ruled.slots_small)

      below : (r : Option ℕ) (m : ℕ) → option_map (λ q. q % period rules) r ≡ Some m → m < period rules
      below None m e = cc
      below (Some q) m e = let same : q % period rules ≡ m = cc in
          subst (λ (i : ℕ). i < period rules) same (mod-lt q positive)

      kind : (r : Option ℕ) → is_some (option_map (λ q. q % period rules) r) ≡ is_some r
      kind None = refl
      kind (Some q) = refl

  style_is : (n : ℕ) (x : Coded Style Mb Picture) → (header_of rules n x).style ≡ x.style
  unfolding header_of
  style_is n x = refl

  -- a packet of the sender is read again
  written_again : (n sequence j : ℕ) (x : Coded Style Mb Picture) (slice : Slice Mb)
      → IsEncoded (pictures_of coding) coding.encoding x → slice_get x.slices j ≡ Some slice
      → (bytes : List ℕ) × (slice_get (coding.encoding.packets n sequence (header_of rules n x) x.slices) j
      ≡ Some bytes) × (coding.decoding.read bytes ≡ Ok (record { header = header_of rules n x; slice = slice }))
  written_again n sequence j x slice one at_j =
      let style = style_is n x in
      let cut : x.slices ≡ coding.encoding.cut (header_of rules n x).style one.mbs = one.slices
      ∙ ap (λ (s : Style). coding.encoding.cut s one.mbs) (sym style) in
      let chosen : IsChosen (pictures_of coding) coding.encoding (is_some x.reference) (header_of rules n x).style
      one.mbs = subst (λ (s : Style). IsChosen (pictures_of coding) coding.encoding (is_some x.reference) s one.mbs)
      (sym style) one.chosen in
      let got = lawful.read_again n sequence (is_some x.reference) (header_of rules n x) one.mbs j slice chosen
      (header_fits n x) (ap (λ (ss : List (Slice Mb)). slice_get ss j) (sym cut) ∙ at_j) in (
        got.0,
        ap (λ (ss : List (Slice Mb)). slice_get (coding.encoding.packets n sequence (header_of rules n x) ss) j)
            cut ∙ got.1,
        got.2,
      )

  pub is_packet : (coded : List (Coded Style Mb Picture)) (n j : ℕ) (x : Coded Style Mb Picture)
      → slice_get coded n ≡ Some x → IsEncoded (pictures_of coding) coding.encoding x
      → IsPacketOfSlice coding.decoding rules (packets_at coding.encoding rules coded n) n j x
  is_packet coded n j x at_n one = record {
    read_as = λ slice at_j.
        let got = written_again n (packets_before (take n coded)) j x slice one at_j in
        (got.0, ap (λ (ps : List (List ℕ)). slice_get ps j) (packets_of_is coded n x at_n) ∙ got.1, got.2);
    no_other = λ none. ap (λ (ps : List (List ℕ)). slice_get ps j) (packets_of_is coded n x at_n)
        ∙ lawful.no_packet n (packets_before (take n coded)) (header_of rules n x) x.slices j none;
  }

  -- in the call of a receiver whatever its numbers
  module _ (own : Rules) (pace : List ℕ → ℕ) (frames : List Frame) (range : IsPace pace) where
    abbrev call : List Event → Call Style Mb Picture
    call past = call_from (pictures_of coding) own (encoded coding rules pace frames) past

    pub all_encoded : (past : List Event) → AllEncoded (pictures_of coding) coding.encoding (call past).coded
    all_encoded [] = λ n x e. cc
    all_encoded (Send ∷ past) = go (slice_get frames (length (call past).coded)) (all_encoded past)
      where
        go : (o : Option Frame) → AllEncoded (pictures_of coding) coding.encoding (call past).coded
            → AllEncoded (pictures_of coding) coding.encoding ((call past).coded
            ++ option_map_or (λ (x : Coded Style Mb Picture). x ∷ [])
            (option_map (λ frame. next_coded (pictures_of coding) coding.encoding rules pace frame (call past).coded
            (call past).known) o) [])
        go None all = subst (λ (xs : List (Coded Style Mb Picture)). AllEncoded (pictures_of coding) coding.encoding xs)
            (sym (append-nil (call past).coded)) all
        go (Some frame) all = next_encoded (pictures_of coding) coding.encoding rules pace frame (call past).coded
            (call past).known range all
    all_encoded (Deliver n j ∷ past) = all_encoded past
    all_encoded (Play ∷ past) = all_encoded past
    all_encoded (Back k ∷ past) = all_encoded past

    pub sound_event : (past : List Event) (e : Event)
        → IsSoundEvent coding.decoding rules (encoded coding rules pace frames) (packets_at coding.encoding rules)
        (call past) e
    sound_event past Send = λ x is. go x (slice_get frames (length c.coded)) is
      where
        c : Call Style Mb Picture
        c = call past

        go : (x : Coded Style Mb Picture) (o : Option Frame)
            → option_map (λ frame. next_coded (pictures_of coding) coding.encoding rules pace frame (call past).coded
            (call past).known) o ≡ Some x → IsSoundPicture (pictures_of coding) rules (call past) x
        go x None is = cc
        go x (Some frame) is =
            let same : next_coded (pictures_of coding) coding.encoding rules pace frame (call past).coded
            (call past).known ≡ x = cc in
            subst (λ (y : Coded Style Mb Picture). IsSoundPicture (pictures_of coding) rules (call past) y) same
            (capture_sound (pictures_of coding) coding.encoding rules lawful.decodes.pictures lawful.encodes
            (pace (last_sizes coding.encoding rules (call past).coded)) frame (call past)
            (range (last_sizes coding.encoding rules (call past).coded)
            (sizes_few (pictures_of coding) coding.encoding rules (call past).coded)) (all_encoded past))
    sound_event past (Deliver n j) = λ x at_n. is_packet (call past).coded n j x at_n (all_encoded past n x at_n)
    sound_event past Play = tt
    sound_event past (Back k) = tt

  -- each event of a call by the encoder is sound
  pub all_sound : (pace : List ℕ → ℕ) (frames : List Frame) → IsPace pace → (past : List Event)
      → AllSound coding.decoding rules (encoded coding rules pace frames) (packets_at coding.encoding rules) past
  all_sound pace frames range [] = tt
  all_sound pace frames range (e ∷ past) = (
    sound_event rules pace frames range past e,
    all_sound pace frames range past,
  )
