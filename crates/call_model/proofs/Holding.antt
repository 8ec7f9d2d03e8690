-- A sender holds its run, whatever its pace was at each picture.
use Rattle.std.proofs.Common.{Ok, Err, Result, ◌≡◌, ℕ, zero, suc, ◌+◌, ◌-◌, ◌%◌, ◌^◌, ◌<◌, ◌≤◌, Bool, true, false, ◌&&◌, ◌||◌, refl, sym, ap, ◌∙◌, arith, inl, inr, Option, Some, None, List, [], ◌∷◌, ◌++◌, length, length-append, eqb, ltb, leb}
use Rattle.std.specs.Prelude.{if◌then◌else◌, option_and_then, is_some, map, take, drop}
use Rattle.std.specs.Option.{option_map, option_map_or}
use Rattle.std.specs.Result.{result_ok}
use Rattle.std.specs.List.{range_with_len}
use Rattle.std.proofs.lemmas.Bool.{cases_lt, or_cases, false≢true, false_from_ne_true, leb-true, and_parts, and_right}
use Rattle.std.proofs.lemmas.List.{take-append-le, take_all}
use Rattle.std.proofs.lemmas.List.FromFn.{map-range_with_len_more, length-map-range_with_len}
use Rattle.std.proofs.lemmas.List.Folds.{list_any-append}
use Rattle.std.proofs.lemmas.Option.{slice_get_cases, slice_get_within}
use Rattle.std.proofs.Math.Nat.{mod-lt, mod-add-mod}
use Rattle.call_model.specs.Numbers.{greatest}
use Rattle.call_model.specs.Coding.{Rules, window, Message, Pictures, Encoding, decoded_picture}
use Rattle.call_model.specs.CodedPictures.{Coded, depth_at, picture_at, is_among, reference_for, capture}
use Rattle.call_model.specs.Sending.{SenderRun, Noted, Old, header_of, bytes_together, made_known, known_by_feedback, feedback_answer, packets_before, packets_at, last_numbers, last_sizes}
use Rattle.call_model.specs.Stands.{Sender, IsRecent, SenderKeeps}
use Rattle.call_model.specs.SenderStanding.{reference_by_kept, with_size, is_noted, next_by_kept}
use Rattle.call_model.specs.Steering.{SteeredRun, known_from, from_floor, made_by_kept, NextAboveNothing, NextIsSteered, NewHolds, CaptureHolds, FeedbackHolds, OtherFeedbackHolds}
use Rattle.call_model.specs.Lawful.{IsRules, IsEncoding}
use Rattle.call_model.proofs.ListLemmas.{slice_get_left, slice_get_last, slice_get_push, greatest_same, greatest_passes}
use Rattle.call_model.proofs.Capturing.{reference_chosen}
use Rattle.call_model.proofs.Forgetting.{among_from, floor_is_known, from_nothing}
use Rattle.call_model.proofs.Slots.{same_rest_far}
use Rattle.call_model.proofs.Feedback.{feedback_below}

-- the rule of references looks at the numbers of the window alone
reference_same : (rules : Rules) (d e : ℕ → ℕ) (f g : ℕ → Bool) (n : ℕ) → ((m : ℕ) → m < n → n ≤ m + window rules
    → d m ≡ e m) → ((m : ℕ) → m < n → n ≤ m + window rules → f m ≡ g m) → reference_for rules d f n
    ≡ reference_for rules e g n
unfolding reference_for
reference_same rules d e f g n depths flags = first
    ∙ go (greatest (λ m. g m && leb n (m + window rules)) n) (λ m is. reference_candidate m is)
  where
    same_test : (m : ℕ) → m < n → (f m && leb n (m + window rules)) ≡ (g m && leb n (m + window rules))
    same_test m lt = by_window (leb n (m + window rules)) refl
      where
        by_window : (b : Bool) → leb n (m + window rules) ≡ b → (f m && leb n (m + window rules))
            ≡ (g m && leb n (m + window rules))
        by_window false far = and_right _ _ far ∙ sym (and_right _ _ far)
        by_window true close = ap (λ (b : Bool). b && leb n (m + window rules)) (flags m lt (leb-true _ _ close))

    first : option_and_then (λ m. if ltb (d m) rules.chain then Some m else None)
        (greatest (λ m. f m && leb n (m + window rules)) n)
        ≡ option_and_then (λ m. if ltb (d m) rules.chain then Some m else None)
        (greatest (λ m. g m && leb n (m + window rules)) n)
    first = ap (option_and_then (λ m. if ltb (d m) rules.chain then Some m else None)) (greatest_same _ _ n same_test)

    reference_candidate : (m : ℕ) → greatest (λ m. g m && leb n (m + window rules)) n ≡ Some m → d m ≡ e m
    reference_candidate m is =
        let passes = greatest_passes (λ m. g m && leb n (m + window rules)) n m is in
        depths m passes.1 (leb-true _ _ (and_parts (g m) (leb n (m + window rules)) passes.0).1)

    go : (o : Option ℕ) → ((m : ℕ) → o ≡ Some m → d m ≡ e m)
        → option_and_then (λ m. if ltb (d m) rules.chain then Some m else None) o
        ≡ option_and_then (λ m. if ltb (e m) rules.chain then Some m else None) o
    go None each = refl
    go (Some m) each = ap (λ (k : ℕ). if ltb k rules.chain then Some m else None) (each m refl)

packets_before_more : {Style Mb Picture : Type 0} (coded : List (Coded Style Mb Picture)) (x : Coded Style Mb Picture)
    → packets_before (coded ++ x ∷ []) ≡ packets_before coded + length x.slices
packets_before_more [] x = omega arith
packets_before_more (y ∷ coded) x = let rest = packets_before_more coded x in omega (arith, rest)

map_same : (f g : ℕ → ℕ) (a n : ℕ) → ((i : ℕ) → a ≤ i → i < a + n → f i ≡ g i) → map f (range_with_len a n)
    ≡ map g (range_with_len a n)
map_same f g a zero each = refl
map_same f g a (suc n) each =
    let here : f a ≡ g a = each a (omega arith) (omega arith) in
    let rest : map f (range_with_len (a + 1) n) ≡ map g (range_with_len (a + 1) n) =
    map_same f g (a + 1) n (λ i low high. each i (omega arith) (omega arith)) in
    cc

-- the last 16 values of a function, with one more
last_more : (f : ℕ → ℕ) (n : ℕ) → map f (last_numbers (n + 1)) ≡ with_size (map f (last_numbers n)) (f n)
last_more f n = elim (cases_lt n 16) [ inl few ↦ short few | inr many ↦ long many ]
  where
    long_list : map f (last_numbers n) ++ f n ∷ [] ≡ map f (range_with_len (n - 16) ((n - (n - 16)) + 1))
    long_list = sym (map-range_with_len_more f (n - 16) (n - (n - 16)) n (omega arith))

    count : length (map f (last_numbers n) ++ f n ∷ []) ≡ (n - (n - 16)) + 1
    count = ap length long_list ∙ length-map-range_with_len f (n - 16) ((n - (n - 16)) + 1)

    short : n < 16 → map f (last_numbers (n + 1)) ≡ with_size (map f (last_numbers n)) (f n)
    short few =
        let none : length (map f (last_numbers n) ++ f n ∷ []) - 16 ≡ 0 = omega (arith, count) in
        let from : n - 16 ≡ 0 = omega arith in
        let from' : (n + 1) - 16 ≡ 0 = omega arith in
        let many : (n - (n - 16)) + 1 ≡ (n + 1) - ((n + 1) - 16) = omega arith in
        ap (λ (a : ℕ). map f (range_with_len a ((n + 1) - ((n + 1) - 16)))) (from' ∙ sym from)
        ∙ ap (λ (k : ℕ). map f (range_with_len (n - 16) k)) (sym many) ∙ sym long_list
        ∙ ap (λ (k : ℕ). drop k (map f (last_numbers n) ++ f n ∷ [])) (sym none)

    long : 16 ≤ n → map f (last_numbers (n + 1)) ≡ with_size (map f (last_numbers n)) (f n)
    long many =
        let one : length (map f (last_numbers n) ++ f n ∷ []) - 16 ≡ 1 = omega (arith, count) in
        let size : (n - (n - 16)) + 1 ≡ suc ((n + 1) - ((n + 1) - 16)) = omega arith in
        let from : (n - 16) + 1 ≡ (n + 1) - 16 = omega arith in
        sym (ap (λ (k : ℕ). drop k (map f (last_numbers n) ++ f n ∷ [])) one
        ∙ ap (drop 1) (long_list ∙ ap (λ (k : ℕ). map f (range_with_len (n - 16) k)) size)
        ∙ ap (λ (a : ℕ). map f (range_with_len a ((n + 1) - ((n + 1) - 16)))) from)

module _ {Frame Style Mb Picture MessageFault : Type 0} (pictures : Pictures Style Mb Picture)
    (encoding : Encoding Frame Style Mb Picture MessageFault) (rules : Rules) where
  pub next_above_nothing : NextAboveNothing pictures encoding rules
  unfolding made_by_kept next_by_kept
  next_above_nothing pace frame s = ap (made_by_kept pictures encoding rules (pace s.sizes) frame s)
      (from_nothing (reference_by_kept rules s))

module _ {Frame Style Mb Picture MessageFault : Type 0} (pictures : Pictures Style Mb Picture)
    (encoding : Encoding Frame Style Mb Picture MessageFault) (rules : Rules) (ruled : IsRules rules) where
  -- a number of the window is one of the last slots
  recent : (coded : List (Coded Style Mb Picture)) (m : ℕ) → m < length coded → length coded ≤ m + window rules
      → IsRecent rules coded m
  recent coded m lt close = (lt, omega (arith, ruled.lead_small))

  depth_is : (s : Sender Picture) (run : SenderRun Style Mb Picture) (m : ℕ) → SenderKeeps pictures encoding rules s run
      → IsRecent rules run.coded m → s.depth (m % rules.slots) ≡ depth_at run.coded m
  depth_is s run m keeps last =
      elim (slice_get_cases run.coded m).1 [
        | inl h ↦ keeps.depths m h.0 last h.2
            ∙ sym (ap (λ (o : Option (Coded Style Mb Picture)). option_map_or (λ (x : Coded Style Mb Picture). x.depth)
            o 0) h.2)
        | inr h ↦ absurd (omega (arith, h.0, last.0))
      ]

  pub reference_held : (s : Sender Picture) (run : SenderRun Style Mb Picture)
      → SenderKeeps pictures encoding rules s run → reference_by_kept rules s
      ≡ reference_for rules (depth_at run.coded) (is_among run.known) (length run.coded)
  reference_held s run keeps =
      ap (reference_for rules (λ m. s.depth (m % rules.slots)) (λ m. s.known (m % rules.slots))) keeps.sent
      ∙ reference_same rules _ _ _ _ (length run.coded)
      (λ m lt close. depth_is s run m keeps (recent run.coded m lt close))
      (λ m lt close. keeps.known m (recent run.coded m lt close))

  -- the picture of a frame with this quantiser, reference, depth and reference's picture
  abbrev coded_from : Frame → ℕ → Option ℕ → ℕ → Option Picture → Coded Style Mb Picture
  coded_from frame quant reference depth before =
      let style = encoding.style frame (is_some reference) depth quant in
      let mbs = encoding.choice frame before style in
      record {
        reference = reference;
        depth = depth;
        style = style;
        slices = encoding.cut style mbs;
        picture = decoded_picture pictures style before mbs;
      }

  same_coded : (frame : Frame) (q q' : ℕ) (r r' : Option ℕ) (d d' : ℕ) (b b' : Option Picture) → q ≡ q' → r ≡ r'
      → d ≡ d' → b ≡ b' → coded_from frame q r d b ≡ coded_from frame q' r' d' b'
  same_coded frame q q' r r' d d' b b' qs rs ds bs = rw (qs, rs, ds, bs) refl

  -- a picture by what is kept is one by the run, where its reference is in the window
  pub made_is : (quant : ℕ) (frame : Frame) (s : Sender Picture) (run : SenderRun Style Mb Picture) (r : Option ℕ)
      → SenderKeeps pictures encoding rules s run
      → ((m : ℕ) → r ≡ Some m → (m < length run.coded) × (length run.coded ≤ m + window rules))
      → made_by_kept pictures encoding rules quant frame s r ≡ capture pictures encoding quant frame run.coded r
  unfolding made_by_kept capture
  made_is quant frame s run r keeps each = same_coded frame quant quant r r _ _ _ _ refl refl (depths r each)
      (befores r each)
    where
      depths : (o : Option ℕ) → ((m : ℕ) → o ≡ Some m → (m < length run.coded) × (length run.coded ≤ m + window rules))
          → option_map_or (λ m. s.depth (m % rules.slots) + 1) o 0 ≡ option_map_or (λ m. depth_at run.coded m + 1) o 0
      depths None each = refl
      depths (Some m) each = let h = each m refl in
          ap (λ (k : ℕ). k + 1) (depth_is s run m keeps (recent run.coded m h.0 h.1))

      befores : (o : Option ℕ) → ((m : ℕ) → o ≡ Some m → (m < length run.coded) × (length run.coded ≤ m + window rules))
          → option_map (λ m. s.picture (m % rules.slots)) o ≡ option_and_then (λ m. picture_at run.coded m) o
      befores None each = refl
      befores (Some m) each =
          let h = each m refl in
          elim (slice_get_cases run.coded m).1 [
            | inl got ↦ ap Some (keeps.kept m got.0 (recent run.coded m h.0 h.1) got.2)
                ∙ sym (ap (option_map (λ (x : Coded Style Mb Picture). x.picture)) got.2)
            | inr out ↦ absurd (omega (arith, out.0, h.0))
          ]

  -- the rule of references with a floor, by what is kept
  reference_above : (s : Sender Picture) (r : SteeredRun Style Mb Picture) → SenderKeeps pictures encoding rules s r.run
      → from_floor r.since (reference_by_kept rules s)
      ≡ reference_for rules (depth_at r.run.coded) (is_among (known_from r.since r.run.known)) (length r.run.coded)
  reference_above s r keeps =
      ap (from_floor r.since) (reference_held s r.run keeps)
      ∙ sym (floor_is_known rules (depth_at r.run.coded) (is_among r.run.known) r.since (length r.run.coded))
      ∙ sym (reference_same rules (depth_at r.run.coded) (depth_at r.run.coded)
      (is_among (known_from r.since r.run.known)) (λ m. is_among r.run.known m && leb r.since m)
      (length r.run.coded)
      (λ m lt close. refl) (λ m lt close. among_from r.since r.run.known m))

  pub next_is_steered : NextIsSteered pictures encoding rules
  next_is_steered pace frame s r holds =
      ap (λ (q : ℕ). made_by_kept pictures encoding rules q frame s (from_floor r.since (reference_by_kept rules s)))
      (ap pace holds.keeps.sizes)
      ∙ ap (made_by_kept pictures encoding rules (pace (last_sizes encoding rules r.run.coded)) frame s)
      (reference_above s r holds.keeps)
      ∙ made_is (pace (last_sizes encoding rules r.run.coded)) frame s r.run (reference_for rules (depth_at r.run.coded)
      (is_among (known_from r.since r.run.known)) (length r.run.coded)) holds.keeps
      (λ m e. let h = reference_chosen rules (depth_at r.run.coded) (is_among (known_from r.since r.run.known))
      (length r.run.coded) m e in (h.0, h.1))

  pub new_holds : NewHolds pictures encoding rules
  unfolding packets_at
  new_holds s sent sequence packets sizes = record {
    keeps = record {
      sent = sent;
      sequence = sequence;
      packets = packets;
      sizes = sizes;
      kept = λ m x last e. cc;
      depths = λ m x last e. cc;
      known = λ m last. absurd (omega (arith, last.0));
    };
    known = λ m is. absurd (false≢true is);
  }

  -- an earlier picture has the packets that it had
  packets_earlier : (coded : List (Coded Style Mb Picture)) (x : Coded Style Mb Picture) (m : ℕ) → m < length coded
      → packets_at encoding rules (coded ++ x ∷ []) m ≡ packets_at encoding rules coded m
  unfolding packets_at
  packets_earlier coded x m lt =
      elim (slice_get_cases coded m).1 [
        | inl h ↦
            let there = slice_get_left coded (x ∷ []) m h.0 h.2 in
            let front : take m (coded ++ x ∷ []) ≡ take m coded = take-append-le m coded (x ∷ []) (omega arith) in
            rw (there, h.2, front) refl
        | inr h ↦ absurd (omega (arith, h.0))
      ]

  -- the new picture has those of its slices
  packets_newest : (coded : List (Coded Style Mb Picture)) (x : Coded Style Mb Picture)
      → packets_at encoding rules (coded ++ x ∷ []) (length coded)
      ≡ encoding.packets (length coded) (packets_before coded) (header_of rules (length coded) x) x.slices
  unfolding packets_at
  packets_newest coded x =
      let front : take (length coded) (coded ++ x ∷ []) ≡ coded = take-append-le (length coded) coded (x ∷ [])
      (omega arith) ∙ take_all (length coded) coded (omega arith) in
      rw (slice_get_last coded x, front) refl

  pub capture_holds : IsEncoding pictures encoding rules → CaptureHolds pictures encoding rules
  capture_holds encodes s t run x holds after = record {
    keeps = record {
      sent = after.sent ∙ ap (λ (k : ℕ). k + 1) keeps.sent ∙ sym longer;
      sequence = after.sequence ∙ ap (λ (k : ℕ). (k + length x.slices) % 2 ^ 16) keeps.sequence
          ∙ mod-add-mod (packets_before run.coded) (2 ^ 16) (length x.slices)
          ∙ ap (λ (k : ℕ). k % 2 ^ 16) (sym (packets_before_more run.coded x));
      packets = packets;
      sizes = sizes;
      kept = λ m y last e. elim (slice_get_push run.coded x m y e) [
        | inl old ↦ let o = others m (slice_get_within run.coded m y old) (omega (arith, last.1, longer)) in o.0
            ∙ keeps.kept m y (slice_get_within run.coded m y old, omega (arith, last.1, longer)) old
        | inr new ↦ ap (λ (i : ℕ). t.picture (i % rules.slots)) (new.0 ∙ sym keeps.sent) ∙ after.picture
            ∙ ap (λ (z : Coded Style Mb Picture). z.picture) (sym new.1)
      ];
      depths = λ m y last e. elim (slice_get_push run.coded x m y e) [
        | inl old ↦ let o = others m (slice_get_within run.coded m y old) (omega (arith, last.1, longer)) in o.1
            ∙ keeps.depths m y (slice_get_within run.coded m y old, omega (arith, last.1, longer)) old
        | inr new ↦ ap (λ (i : ℕ). t.depth (i % rules.slots)) (new.0 ∙ sym keeps.sent) ∙ after.depth
            ∙ ap (λ (z : Coded Style Mb Picture). z.depth) (sym new.1)
      ];
      known = λ m last. elim (cases_lt m (length run.coded)) [
        | inl old ↦ let o = others m old (omega (arith, last.1, longer)) in o.2
            ∙ keeps.known m (old, omega (arith, last.1, longer))
        | inr new ↦
            let at : m ≡ length run.coded = omega (arith, new, last.0, longer) in
            ap (λ (i : ℕ). t.known (i % rules.slots)) (at ∙ sym keeps.sent) ∙ after.known
            ∙ sym (false_from_ne_true _ (λ known. omega (arith, holds.known m known, at)))
      ];
    };
    known = λ m is. let below = holds.known m is in omega (arith, below, longer);
  }
    where
      keeps : SenderKeeps pictures encoding rules s run
      keeps = holds.keeps

      longer : length (run.coded ++ x ∷ []) ≡ length run.coded + 1
      longer = length-append run.coded (x ∷ [])

      -- no other slot of the last ones changes
      others : (m : ℕ) → m < length run.coded → length run.coded + 1 ≤ m + rules.slots
          → (t.picture (m % rules.slots) ≡ s.picture (m % rules.slots))
          × (t.depth (m % rules.slots) ≡ s.depth (m % rules.slots))
          × (t.known (m % rules.slots) ≡ s.known (m % rules.slots))
      others m lt last =
          let pos : 0 < rules.slots = omega (arith, ruled.lead_small) in
          after.others (m % rules.slots) (mod-lt m pos) (λ same.
          let sent = keeps.sent in
          let far : m + rules.slots ≤ s.sent = same_rest_far rules.slots m s.sent pos same (omega arith) in
          omega arith)

      newest : t.packets ≡ packets_at encoding rules (run.coded ++ x ∷ []) (length run.coded)
      newest =
          after.packets
          ∙ ap (λ (n : ℕ). encoding.packets n s.sequence (header_of rules n x) x.slices) keeps.sent
          ∙ ap (λ (k : ℕ). encoding.packets (length run.coded) k (header_of rules (length run.coded) x) x.slices)
          keeps.sequence
          ∙ encodes.sequence_wraps (length run.coded) (packets_before run.coded) (header_of rules (length run.coded) x)
          x.slices
          ∙ sym (packets_newest run.coded x)

      packets : t.packets ≡ packets_at encoding rules (run.coded ++ x ∷ []) (length (run.coded ++ x ∷ []) - 1)
      packets = newest ∙ ap (packets_at encoding rules (run.coded ++ x ∷ [])) (let e : length run.coded
          ≡ length (run.coded ++ x ∷ []) - 1 = omega (arith, longer) in e)

      size_of : ℕ → ℕ
      size_of m = bytes_together (packets_at encoding rules (run.coded ++ x ∷ []) m)

      sizes_before : last_sizes encoding rules run.coded ≡ map size_of (last_numbers (length run.coded))
      sizes_before = map_same _ size_of (length run.coded - 16) (length run.coded - (length run.coded - 16))
          (λ i low high. ap bytes_together (sym (packets_earlier run.coded x i (omega arith))))

      sizes : t.sizes ≡ last_sizes encoding rules (run.coded ++ x ∷ [])
      sizes =
          after.sizes
          ∙ ap (λ (k : List ℕ). with_size k (bytes_together t.packets)) (keeps.sizes ∙ sizes_before)
          ∙ ap (λ (ps : List (List ℕ)). with_size (map size_of (last_numbers (length run.coded))) (bytes_together ps))
          newest
          ∙ sym (last_more size_of (length run.coded))
          ∙ ap (λ (n : ℕ). map size_of (last_numbers n)) (sym longer)

  pub feedback_holds : FeedbackHolds pictures encoding rules
  feedback_holds bytes s t run holds after = record {
    keeps = record {
      sent = after.sent ∙ keeps.sent;
      sequence = after.sequence ∙ keeps.sequence;
      packets = after.packets ∙ keeps.packets;
      sizes = after.sizes ∙ keeps.sizes;
      kept = λ m x last e. after.picture (m % rules.slots) (small m) ∙ keeps.kept m x last e;
      depths = λ m x last e. after.depth (m % rules.slots) (small m) ∙ keeps.depths m x last e;
      known = λ m last.
          let sent = keeps.sent in
          after.known m (omega (arith, last.0)) (omega (arith, last.1))
          ∙ ap (λ (n : ℕ). is_among (known_by_feedback rules n (result_ok (encoding.read_message bytes))) m || s.known
          (m % rules.slots)) sent
          ∙ ap (λ (b : Bool). is_among (new run) m || b) (keeps.known m last)
          ∙ sym (list_any-append (λ i. eqb i m) (new run) run.known);
    };
    known = λ m is. elim (or_cases _ _ (sym (list_any-append (λ x. eqb x m) (new run) run.known) ∙ is)) [
      | inl fresh ↦ feedback_below rules ruled (length run.coded) m (result_ok (encoding.read_message bytes)) fresh
      | inr old ↦ holds.known m old
    ];
  }
    where
      keeps : SenderKeeps pictures encoding rules s run
      keeps = holds.keeps

      new : SenderRun Style Mb Picture → List ℕ
      new before = known_by_feedback rules (length before.coded) (result_ok (encoding.read_message bytes))

      small : (m : ℕ) → m % rules.slots < rules.slots
      small m = mod-lt m (omega (arith, ruled.lead_small))

  -- what is refused or old makes nothing known
  nothing_known : (sent : ℕ) (reading : Result Message MessageFault) → is_noted (feedback_answer rules sent reading)
      ≡ false → known_by_feedback rules sent (result_ok reading) ≡ []
  nothing_known sent (Err fault) is = refl
  nothing_known sent (Ok message) is = go (made_known rules sent message) is
    where
      go : (o : Option (List ℕ)) → is_noted {MessageFault = MessageFault} (if is_some o then Noted else Old) ≡ false
          → option_map_or (λ numbers. numbers) o [] ≡ []
      go None is = refl
      go (Some numbers) is = cc

  pub other_feedback_holds : OtherFeedbackHolds pictures encoding rules
  other_feedback_holds bytes s run holds is =
      feedback_holds bytes s s run holds (record {
        sent = refl;
        sequence = refl;
        packets = refl;
        sizes = refl;
        picture = λ rest lt. refl;
        depth = λ rest lt. refl;
        known = λ m lt last. ap (λ (ns : List ℕ). is_among ns m || s.known (m % rules.slots))
            (sym (nothing_known s.sent (encoding.read_message bytes) is));
      })
