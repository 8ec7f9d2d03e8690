-- In a call over its plain trace each picture is intra, and shown as it was coded.
use Rattle.std.proofs.Common.{◌≡◌, ◌⊎◌, inl, inr, ℕ, zero, suc, ◌+◌, ◌<◌, ◌≤◌, Bool, true, false, List, [], ◌∷◌, ◌++◌, length, Option, Some, None, refl, sym, ap, ◌∙◌, arith}
use Rattle.std.specs.Prelude.{◌&&◌, nat_lt, nat_le, slice_get, option_and_then, if◌then◌else◌}
use Rattle.std.specs.Option.{option_map, option_map_or}
use Rattle.std.proofs.lemmas.Bool.{and_from, lt-ltb, cases_lt}
use Rattle.std.proofs.lemmas.Option.{slice_get_within}
use Rattle.h263_types.specs.declared.blocks.Mb.{Mb}
use Rattle.h263_types.specs.declared.params.Params.{Params}
use Rattle.h263_planes.specs.Picture.{Picture}
use Rattle.call_model.specs.Numbers.{AllBelowIs, all_below, greatest}
use Rattle.call_model.specs.Coding.{Rules, Shown, Exact, Pictures, Encoding, grey, window}
use Rattle.call_model.specs.CodedPictures.{Coded, capture, depth_at, is_among, reference_for}
use Rattle.call_model.specs.IdealCall.{Event, Send, Deliver, Arrival, Call, Source, encoded, ideal, is_full, has_arrived, slices_at, shown_at, reconstruction_at}
use Rattle.call_model.specs.Sending.{next_coded}
use Rattle.call_model.specs.Before.{played_before, WasDelivered, reference_of, slices_before}
use Rattle.call_decoding.specs.Rules.{rules_of}
use Rattle.call_decoding.specs.Samples.{pictures}
use Rattle.call_decoding.specs.Styles.{Style}
use Rattle.call_encoding.specs.Encoding.{encoding}
use Rattle.call_encoding.specs.Frames.{Frame}
use Rattle.coded_call.specs.Coding.{coding}
use Rattle.one_way.specs.Trace.{delivered, passed_on}
use Rattle.one_way.specs.Both.{steady}
use Rattle.one_way.specs.Laws.{CallLaws}
use Rattle.call_command.proofs.Trace.{coded_delivered, played_delivered, plays_delivered}

-- ---- a picture without known ones is intra

none_passes : (test : ℕ → Bool) → ((m : ℕ) → test m ≡ false) → (n : ℕ) → greatest test n ≡ None
none_passes test fails zero = refl
none_passes test fails (suc n) = ap (λ (b : Bool). if b then Some n else greatest test n) (fails n)
    ∙ none_passes test fails n

no_reference : (rules : Rules) (depth : ℕ → ℕ) (n : ℕ) → reference_for rules depth (is_among []) n ≡ None
unfolding reference_for
no_reference rules depth n =
    ap (λ (o : Option ℕ). option_and_then (λ m. if nat_lt (depth m) rules.chain then Some m else None) o)
    (none_passes (λ m. is_among [] m && nat_le n (m + window rules)) (λ m. refl) n)

module _ {Frame Style Mb Picture MessageFault : Type 0} (pictures : Pictures Style Mb Picture)
    (encoding : Encoding Frame Style Mb Picture MessageFault) where
  -- without a reference it makes no difference what was coded before
  alone : (quant : ℕ) (f : Frame) (coded : List (Coded Style Mb Picture)) → capture pictures encoding quant f coded None
      ≡ capture pictures encoding quant f [] None
  unfolding capture
  alone quant f coded = refl

  none_named : (quant : ℕ) (f : Frame) → (capture pictures encoding quant f [] None).reference ≡ None
  unfolding capture
  none_named quant f = refl

module _ {Style Mb Picture : Type 0} (pictures : Pictures Style Mb Picture) where
  where_full : (coded : List (Coded Style Mb Picture)) (arrivals : List Arrival) (plays : List (Shown Picture)) (n : ℕ)
      → is_full coded arrivals n ≡ true
      → shown_at pictures coded arrivals plays n ≡ record { mark = Exact; picture = reconstruction_at pictures coded n }
  unfolding shown_at
  where_full coded arrivals plays n full = rw full refl

last_is : {X : Type 0} (xs : List X) (x : X) → slice_get (xs ++ x ∷ []) (length xs) ≡ Some x
last_is [] x = refl
last_is (y ∷ xs) x = last_is xs x

module _ (p : Params) (laws : CallLaws p) (below : AllBelowIs) (frames : List Frame) where
  abbrev source : Source Style Mb Picture
  source = encoded (coding p) (rules_of p) (steady p) frames

  abbrev call : List Event → Call Style Mb Picture
  call past = ideal (coding p) (rules_of p) (steady p) frames past

  abbrev intra : Frame → Coded Style Mb Picture
  intra f = capture (pictures p.format) (encoding p) p.quant f [] None

  next_is : (f : Frame) (coded : List (Coded Style Mb Picture)) (known : List ℕ) → known ≡ []
      → next_coded (pictures p.format) (encoding p) (rules_of p) (steady p) f coded known ≡ intra f
  next_is f coded known none =
      ap (λ (l : List ℕ). next_coded (pictures p.format) (encoding p) (rules_of p) (steady p) f coded l) none
      ∙ ap (λ (o : Option ℕ). capture (pictures p.format) (encoding p) p.quant f coded o)
      (no_reference (rules_of p) (depth_at coded) (length coded))
      ∙ alone (pictures p.format) (encoding p) p.quant f coded

  -- nothing becomes known
  known_delivered : (n count : ℕ) (past : List Event) → (call (delivered n count ++ past)).known ≡ (call past).known
  known_delivered n zero past = refl
  known_delivered n (suc j) past = known_delivered n j past

  -- ---- a frame that was passed on

  module _ (past : List Event) (n : ℕ) (f : Frame) (known : (call past).known ≡ []) (coded : length (call past).coded
      ≡ n) (at : slice_get frames n ≡ Some f) (played : played_before past ≡ n) where
    abbrev count : ℕ
    count = slices_before (pictures p.format) (rules_of p) source (Send ∷ past) n

    abbrev behind : List Event
    behind = delivered n count ++ Send ∷ past

    pub known_after : (call (passed_on n count past)).known ≡ []
    known_after = known_delivered n count (Send ∷ past) ∙ known

    coded_after : (call behind).coded ≡ (call past).coded ++ intra f ∷ []
    coded_after =
        coded_delivered (coding p) (rules_of p) (steady p) frames n count (Send ∷ past)
        ∙ ap (λ (o : Option Frame). (call past).coded ++ option_map_or (λ (x : Coded Style Mb Picture). x ∷ [])
        (option_map (λ frame. next_coded (pictures p.format) (encoding p) (rules_of p) (steady p) frame
        (call past).coded (call past).known) o) [])
        (ap (λ (k : ℕ). slice_get frames k) coded ∙ at)
        ∙ ap (λ (x : Coded Style Mb Picture). (call past).coded
        ++ x ∷ []) (next_is f (call past).coded (call past).known known)

    at_n : slice_get (call behind).coded n ≡ Some (intra f)
    at_n =
        ap (λ (l : List (Coded Style Mb Picture)). slice_get l n) coded_after
        ∙ ap (λ (k : ℕ). slice_get ((call past).coded ++ intra f ∷ []) k) (sym coded)
        ∙ last_is (call past).coded (intra f)

    slices_same : (i : ℕ) → slices_before (pictures p.format) (rules_of p) source (delivered n i ++ Send ∷ past) n
        ≡ count
    slices_same i =
        ap (λ (l : List (Coded Style Mb Picture)). length (slices_at l n)) (coded_delivered (coding p) (rules_of p)
        (steady p) frames n i (Send ∷ past))

    -- it has as many slices as it was cut into
    pub count_is : count ≡ length (intra f).slices
    unfolding slices_at
    count_is =
        sym (slices_same count)
        ∙ ap (λ (o : Option (Coded Style Mb Picture)). length
        (option_map_or (λ (x : Coded Style Mb Picture). x.slices) o [])) at_n

    -- it is full
    was_delivered : (k j : ℕ) → j < k → WasDelivered (pictures p.format) (rules_of p) source (delivered n k
        ++ Send ∷ past) n j ⊎ (count ≤ j)
    was_delivered zero j less = absurd (omega (arith, less))
    was_delivered (suc i) j less = go (was_delivered i j) (cases_lt j i) (cases_lt j count)
      where
        go : (j < i → WasDelivered (pictures p.format) (rules_of p) source (delivered n i ++ Send ∷ past) n j
            ⊎ (count ≤ j))
            → (j < i) ⊎ (i ≤ j) → (j < count) ⊎ (count ≤ j)
            → WasDelivered (pictures p.format) (rules_of p) source (Deliver n i ∷ (delivered n i ++ Send ∷ past)) n j
            ⊎ (count ≤ j)
        go before (inl lower) some = later (before lower)
          where
            later : WasDelivered (pictures p.format) (rules_of p) source (delivered n i ++ Send ∷ past) n j
                ⊎ (count ≤ j)
                → WasDelivered (pictures p.format) (rules_of p) source (Deliver n i ∷ (delivered n i ++ Send ∷ past)) n
                j ⊎ (count ≤ j)
            later (inl was) = inl (inr was)
            later (inr past_end) = inr past_end
        go before (inr same) (inr past_end) = inr past_end
        go before (inr same) (inl some) = inl (inl (
          refl,
          omega (arith, less, same),
          (
            omega (arith, played_delivered n i (Send ∷ past), played),
            omega (
              arith,
              played_delivered n i (Send ∷ past),
              played,
            ),
          ),
          omega (arith, slices_same i, some),
        ))

    each_arrived : (j : ℕ) → j < count → has_arrived (call behind).arrivals n j ≡ true
    each_arrived j less = go (was_delivered count j less)
      where
        go : WasDelivered (pictures p.format) (rules_of p) source behind n j ⊎ (count ≤ j)
            → has_arrived (call behind).arrivals n j ≡ true
        go (inl was) = (laws.arrived (steady p) frames behind n j).1 was
        go (inr past_end) = absurd (omega (arith, less, past_end))

    full : is_full (call behind).coded (call behind).arrivals n ≡ true
    unfolding is_full
    full =
        and_from (nat_lt n (length (call behind).coded)) (all_below (length (slices_at (call behind).coded n))
        (has_arrived (call behind).arrivals n))
        (lt-ltb n (length (call behind).coded) (slice_get_within (call behind).coded n (intra f) at_n))
        ((below (length (slices_at (call behind).coded n)) (has_arrived (call behind).arrivals n)).1
        (λ j less. each_arrived j (omega (arith, less, slices_same count))))

    -- so its play shows it as it was coded
    abbrev shown : Shown Picture
    shown = record { mark = Exact; picture = (intra f).picture }

    pub plays_after : (call (passed_on n count past)).plays ≡ shown ∷ (call past).plays
    plays_after =
        let here : (call behind).played ≡ n = (laws.counts (steady p) frames behind).1
        ∙ played_delivered n count (Send ∷ past) ∙ played in
        ap (λ (k : ℕ). shown_at (pictures p.format) (call behind).coded (call behind).arrivals (call behind).plays k ∷
        (call behind).plays) here
        ∙ ap (λ (x : Shown Picture). x ∷ (call behind).plays) (where_full (pictures p.format) (call behind).coded
        (call behind).arrivals (call behind).plays n full)
        ∙ ap (λ (o : Option (Coded Style Mb Picture)). let x : Shown Picture = record {
          mark = Exact;
          picture = option_map_or (λ (x : Coded Style Mb Picture). x.picture) o (grey (pictures p.format));
        } in
        x ∷ (call behind).plays) at_n
        ∙ ap (λ (l : List (Shown Picture)). shown ∷ l) (plays_delivered (coding p) (rules_of p)
        (steady p) frames n count (Send ∷ past))

    pub reference_after : reference_of (pictures p.format) (rules_of p) source (passed_on n count past) n ≡ None
    reference_after =
        ap (λ (o : Option (Coded Style Mb Picture)). option_and_then (λ (x : Coded Style Mb Picture). x.reference) o)
        at_n
        ∙ none_named (pictures p.format) (encoding p) p.quant f
