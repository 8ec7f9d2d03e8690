-- A frame that is passed on over the plain trace, by both ends: it is sent, its packets are
-- delivered, and the next picture is played, where all before it were.
use Rattle.std.proofs.Common.{◌≡◌, ℕ, ◌+◌, ◌-◌, List, [], ◌∷◌, ◌++◌, length, Some, sym, ap, subst, ◌∙◌, arith}
use Rattle.std.specs.Prelude.{slice_get}
use Rattle.h263_types.specs.declared.blocks.Mb.{Mb}
use Rattle.h263_types.specs.declared.params.Params.{Params}
use Rattle.h263_planes.specs.Layout.{picture_of}
use Rattle.h263_planes.specs.Picture.{Picture}
use Rattle.h263_outside.specs.declared.desk.Role.{Role}
use Rattle.h263_outside.specs.declared.desk.Role.TheVariants.{Events}
use Rattle.y4m.specs.Place.{Y4mPlace}
use Rattle.loss_trace.specs.Place.{TracePlace}
use Rattle.call_model.specs.CodedPictures.{Coded}
use Rattle.call_model.specs.IdealCall.{Event, Send, Deliver, Play, slices_at}
use Rattle.call_model.specs.JoinedRun.{Joined}
use Rattle.call_model.specs.LaterFrames.{LaterFramesBoth}
use Rattle.call_model.specs.Sending.{SenderRun}
use Rattle.call_decoding.specs.Rules.{rules_of}
use Rattle.call_decoding.specs.Styles.{Style}
use Rattle.call_encoding.specs.Frames.{Frame}
use Rattle.coded_call.specs.Coding.{coding}
use Rattle.receiver_end.specs.declared.kept.Kept.{Kept}
use Rattle.receiver_end.specs.State as receiver_end
use Rattle.one_way.specs.declared.way.Way.{Way}
use Rattle.one_way.specs.Both.{State, bare, both_after, next_of, steady}
use Rattle.one_way.specs.Laws.{EventLaws, WayLaws}
use Rattle.one_way.specs.Seen.{in_both}
use Rattle.one_way.specs.Trace.{delivered, passed_on}
use Rattle.one_way.specs.Way.{HoldsNetwork, IsAmongLast, MayHappenNow, kept_in}
use Rattle.call_command.specs.declared.link.Link.{Link}
use Rattle.call_command.specs.Call.{CallState, by_ends, play_texts, with_whole_frame}
use Rattle.call_command.specs.Standing.{CallParts, PartsStand, call_state_of}
use Rattle.call_command.proofs.After.{at_end, below_end, longer, push_then}
use Rattle.call_command.proofs.Half.{half_some}

module _ (x : CallParts) (laws : WayLaws x.terms.params) (events : EventLaws x.terms.params)
    (frames_law : LaterFramesBoth (coding x.terms.params) (rules_of x.terms.params))
    (s : CallState) (inputs : Role → List ℕ) (k : PartsStand x s inputs) (level : x.receiver.played ≡ x.sender.sent)
    (out : List ℕ) where
  abbrev p : Params
  p = x.terms.params

  abbrev f : Frame
  f = bare (picture_of p.format out)

  abbrev all : List Frame → List Frame
  all later = s.frames ++ f ∷ later

  abbrev both : List Frame → List Event → Joined Style Mb Picture
  both later past = both_after p (steady p) (all later) s.before past

  pub at : (later : List Frame) → slice_get (all later) x.sender.sent ≡ Some f
  at later = ap (λ (i : ℕ). slice_get (all later) i) k.sent ∙ at_end s.frames later f

  coded_was : (later : List Frame) → x.sender.sent ≡ length (both later s.past).sender.coded
  coded_was later = laws.sent x.sender x.receiver s.before (all later) s.past (k.holds (f ∷ later)).way_holds.joined

  played_was : (later : List Frame) → x.receiver.played ≡ (both later s.past).receiver.played
  played_was later = laws.played x.sender x.receiver s.before (all later) s.past (k.holds (f ∷ later)).way_holds.joined

  pub may_send : (later : List Frame) → MayHappenNow p s.before (all later) s.past Send
  may_send later = (
    omega (arith, coded_was later, k.sent, below_end s.frames later f),
    omega (arith, coded_was later, played_was later, level, half_some p.clock),
  )

  coded_now : (later : List Frame) → length (both later (Send ∷ s.past)).sender.coded ≡ x.sender.sent + 1
  coded_now later =
      ap (λ (l : List (Coded Style Mb Picture)). length l) (events.captured s.before (all later) s.past f
      (ap (λ (i : ℕ). slice_get (all later) i) (sym (coded_was later)) ∙ at later))
      ∙ longer (both later s.past).sender.coded (next_of p (steady p) f (both later s.past))
      ∙ ap (λ (i : ℕ). i + 1) (sym (coded_was later))

  pub may_deliver : (later : List Frame) (n : ℕ) → n ≡ x.sender.sent
      → MayHappenNow p s.before (all later) (Send ∷ s.past) (Deliver n 0)
  may_deliver later n is = (
    omega (arith, is, coded_now later),
    omega (
      arith,
      is,
      played_was later,
      level,
      half_some p.clock,
    ),
  )

  pub among_last : (later : List Frame) (way : Way) (n : ℕ) → n ≡ x.sender.sent → kept_in way ≡ 1
      → IsAmongLast way (length (both later (Send ∷ s.past)).sender.coded) n
  among_last later way n is one = (omega (arith, is, coded_now later), omega (arith, is, coded_now later, one))

  -- how many slices the picture has, whatever frames come after
  abbrev pub count_of : List Frame → ℕ → ℕ
  count_of later n = length (slices_at (both later (Send ∷ s.past)).sender.coded n)

  count_same : (later : List Frame) (n : ℕ) → count_of later n ≡ count_of [] n
  count_same later n =
      let slices : Joined Style Mb Picture → ℕ = λ both. length (slices_at both.sender.coded n) in
      ap (λ (l : List Frame). slices (both_after p (steady p) l s.before (Send ∷ s.past)))
      (sym (push_then s.frames later f))
      ∙ ap slices (frames_law (receiver_end.run_of p s.before) (steady p) (all []) later (Send ∷ s.past) (
        may_send [],
        (k.holds (f ∷ [])).way_holds.near,
      )).0

  pub may_play : (later : List Frame) (n count : ℕ)
      → MayHappenNow p s.before (all later) (delivered n count ++ Send ∷ s.past) Play
  may_play later n count =
      let coded = ap (λ (run : SenderRun Style Mb Picture). length run.coded)
      (events.sender s.before (all later) n count (Send ∷ s.past)) in
      omega (
        arith,
        events.played s.before (all later) n count (Send ∷ s.past),
        played_was later,
        level,
        coded,
        coded_now later,
      )

  -- ---- what is shown, and where the parts stand then

  abbrev then : CallState
  then = with_whole_frame by_ends (call_state_of x s.before s.frames s.past) out

  pub texts_are : (n played : ℕ) → n ≡ x.sender.sent → played ≡ x.receiver.played
      → play_texts (in_both (both [] (passed_on n (count_of [] n) s.past))) played
      ≡ play_texts (by_ends then) (length s.frames)
  texts_are n played is same =
      let number : n ≡ length s.frames = is ∙ k.sent in
      let shown : played ≡ length s.frames = same ∙ level ∙ k.sent in
      λ i. play_texts (in_both (both [] (passed_on (number i) (count_of [] (number i)) s.past))) (shown i)

  pub stands_after : (video : Y4mPlace) (sender : State) (receiver : Kept) (link : Link) (n size : ℕ) (rest : Role
      → List ℕ) → n ≡ x.sender.sent
      → ((later : List Frame) → HoldsNetwork p link.network sender receiver s.before (all later)
      (passed_on n (count_of later n) s.past))
      → link.trace ≡ x.link.trace → sender.sent ≡ x.sender.sent + 1 → video.at ≡ x.video.at + size
      → video.more + 1 ≡ x.video.more → rest Events ≡ inputs Events
      → PartsStand (record { terms = x.terms; video = video; sender = sender; receiver = receiver; link = link })
      (record then { at = x.video.at + size; more = x.video.more - 1 }) rest
  stands_after video sender receiver link n size rest number holds same sent place fewer still = record {
    is = let less : x.video.more - 1 ≡ video.more = omega (arith, fewer) in
        λ i. record {
          params = x.terms.params;
          plain = x.terms.plain;
          before = s.before;
          frames = all [];
          past = then.past;
          at = sym place i;
          more = less i;
          lines = (sym same i).lines;
          ended = (sym same i).ended;
        };
    begun = k.begun;
    sent = sent ∙ ap (λ (i : ℕ). i + 1) k.sent ∙ sym (longer s.frames f);
    over = λ ended. still ∙ k.over (ap (λ (r : TracePlace). r.ended) (sym same) ∙ ended);
    holds = λ later.
        subst (λ (l : List Frame). HoldsNetwork p link.network sender receiver s.before l then.past)
        (sym (push_then s.frames later f))
        (subst (λ (i : ℕ). HoldsNetwork p link.network sender receiver s.before (all later)
        (passed_on (length s.frames) i s.past)) (count_same later (length s.frames))
        (subst (λ (i : ℕ). HoldsNetwork p link.network sender receiver s.before (all later)
        (passed_on i (count_of later i) s.past)) (number ∙ k.sent) (holds later)));
  }
