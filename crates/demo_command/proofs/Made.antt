-- The call of the made video: its events are near, and its pictures have slices.
use Rattle.std.proofs.Common.{◌≡◌, ℕ, zero, suc, ◌+◌, ◌<◌, ◌≤◌, List, [], ◌∷◌, ◌++◌, length, map, Option, Some, None, refl, sym, ap, subst, ◌∙◌, arith}
use Rattle.std.specs.List.{range_with_len}
use Rattle.std.specs.Option.{option_map_or}
use Rattle.std.specs.Prelude.{slice_get}
use Rattle.std.proofs.lemmas.List.FromFn.{length-range_with_len}
use Rattle.std.proofs.lemmas.List.{append-nil}
use Rattle.h263_types.specs.Clocks.{half_of}
use Rattle.h263_types.specs.declared.clock.Clock.{Clock}
use Rattle.h263_types.specs.declared.clock.Clock.TheVariants.{Standard, Custom}
use Rattle.h263_types.specs.declared.params.Params.{Params}
use Rattle.h263_types.specs.Params.{IsParams}
use Rattle.loss_trace.specs.declared.event.Event.{Event as Line}
use Rattle.make_input.specs.Expanded.{expanded, expanded_events, events_onto}
use Rattle.call_model.specs.Coding.{Pictures, Rules, pictures_of}
use Rattle.call_model.specs.CodedPictures.{Coded}
use Rattle.call_model.specs.IdealCall.{AllMayHappen, AllMayHappenFrom, Event, Send, Deliver, Play, Back, Source, call_from, encoded, slices_at}
use Rattle.call_model.specs.Lawful.{IsPace, IsRules}
use Rattle.call_model.specs.Sound.{EncoderIsSound}
use Rattle.call_decoding.specs.Rules.{rules_of}
use Rattle.coded_call.specs.Coding.{coding}
use Rattle.one_way.specs.Both.{steady}
use Rattle.demo_command.specs.declared.terms.DemoTerms.{DemoTerms}
use Rattle.demo_command.specs.Demo.{made_call, made_events, made_frame, made_video, with_made_line}

pub steady_is : (p : Params) → IsParams p → IsPace (steady p)
steady_is p in_range sizes few = (omega (arith, in_range.quant_low), omega (arith, in_range.quant_high))

-- half a period is more than four pictures
pub half_enough : (clock : Clock) → 4 ≤ half_of clock
half_enough Standard = omega arith
half_enough Custom = omega arith

-- ---- the video

as_many : {X Y : Type 0} (f : X → Y) (xs : List X) → length (map f xs) ≡ length xs
as_many f [] = refl
as_many f (x ∷ xs) = ap (λ (n : ℕ). suc n) (as_many f xs)

pub video_is : (t : DemoTerms) → length (made_video t) ≡ t.frames
video_is t = as_many (made_frame t) (range_with_len 0 t.frames) ∙ length-range_with_len 0 t.frames

frame_there : {X : Type 0} (f : ℕ → X) (from count n : ℕ) → n < count → slice_get (map f (range_with_len from count)) n
    ≡ Some (f (from + n))
frame_there f from zero n lt = absurd (omega arith)
frame_there f from (suc count) zero lt =
    let same : from ≡ from + 0 = omega arith in
    ap (λ (k : ℕ). Some (f k)) same
frame_there f from (suc count) (suc n) lt =
    let same : (from + 1) + n ≡ from + suc n = omega arith in
    frame_there f (from + 1) count n (omega (arith, lt)) ∙ ap (λ (k : ℕ). Some (f k)) same

-- frame n of the video
pub frame_is : (t : DemoTerms) (n : ℕ) → n < length (made_video t) → slice_get (made_video t) n ≡ Some (made_frame t n)
frame_is t n lt =
    let same : 0 + n ≡ n = omega arith in
    frame_there (made_frame t) 0 t.frames n (omega (arith, lt, video_is t)) ∙ ap (λ (k : ℕ). Some (made_frame t k)) same

-- ---- events

module _ {Style Mb Picture : Type 0} (pictures : Pictures Style Mb Picture) (rules : Rules)
    (source : Source Style Mb Picture) (left : ℕ) where
  abbrev Near : List Event → Type 0
  Near past = AllMayHappenFrom pictures rules source left past

  pub near_onto : (events past : List Event) → Near (events_onto events past) → Near past
  near_onto [] past near = near
  near_onto (e ∷ events) past near = (near_onto events (e ∷ past) near).1

  pub near_before : (lines : List Line) (past : List Event) → Near (expanded pictures rules source past lines)
      → Near past
  unfolding expanded
  near_before [] past near = near
  near_before (l ∷ lines) past near =
      let events = expanded_events (call_from pictures rules source past) l in
      near_onto events past (near_before lines (events_onto events past) near)

module _ (t : DemoTerms) where
  abbrev p : Params
  p = t.params

  -- what the lines say after a line
  pub after_line : (past : List Event) (line : Line) (lines : List Line) → made_events t past (line ∷ lines)
      ≡ made_events t (with_made_line t past line) lines
  unfolding expanded
  after_line past line lines = refl

  pub near_line : (past : List Event) (line : Line) (lines : List Line)
      → AllMayHappen (coding p) (rules_of p) (steady p) (made_video t) (made_events t past (line ∷ lines))
      → AllMayHappen (coding p) (rules_of p) (steady p) (made_video t) (with_made_line t past line)
  near_line past line lines near =
      near_before (pictures_of (coding p)) (rules_of p) (encoded (coding p) (rules_of p) (steady p) (made_video t))
      (length (made_video t)) lines (with_made_line t past line)
      (subst (λ (l : List Event). AllMayHappen (coding p) (rules_of p) (steady p) (made_video t) l)
      (after_line past line lines) near)

-- ---- slices

module _ {Style Mb Picture : Type 0} where
  abbrev HaveSlices : List (Coded Style Mb Picture) → Type 0
  HaveSlices coded = (n : ℕ) → n < length coded → 0 < length (slices_at coded n)

  one_more : (coded : List (Coded Style Mb Picture)) (x : Coded Style Mb Picture) → HaveSlices coded
      → 0 < length x.slices → HaveSlices (coded ++ x ∷ [])
  unfolding slices_at
  one_more [] x before some zero lt = some
  one_more [] x before some (suc n) lt = absurd (omega (arith, lt))
  one_more (y ∷ ys) x before some zero lt = before 0 (omega arith)
  one_more (y ∷ ys) x before some (suc n) lt = one_more ys x (λ m below. before (suc m) (omega (arith, below))) some n
      (omega (arith, lt))

  if_more : (coded : List (Coded Style Mb Picture)) (o : Option (Coded Style Mb Picture)) → HaveSlices coded
      → ((x : Coded Style Mb Picture) → o ≡ Some x → 0 < length x.slices)
      → HaveSlices (coded ++ option_map_or (λ x. x ∷ []) o [])
  if_more coded None before some = subst HaveSlices (sym (append-nil coded)) before
  if_more coded (Some x) before some = one_more coded x before (some x refl)

module _ (t : DemoTerms) (sound : EncoderIsSound (coding t.params) (rules_of t.params))
    (rules : IsRules (rules_of t.params)) (paced : IsPace (steady t.params)) where
  pub some_slices : (past : List Event) → HaveSlices (made_call t past).coded
  some_slices [] = λ n lt. absurd (omega (arith, lt))
  some_slices (Send ∷ past) =
      let c = made_call t past in
      if_more c.coded (encoded (coding t.params) (rules_of t.params) (steady t.params) (made_video t) c)
      (some_slices past)
      (λ x is.
      let covers = ((sound (steady t.params) (made_video t) (Send ∷ past) paced).0 x is).covers in
      omega (arith, covers.below 0 rules.some_mbs))
  some_slices (Deliver n j ∷ past) = some_slices past
  some_slices (Play ∷ past) = some_slices past
  some_slices (Back k ∷ past) = some_slices past
