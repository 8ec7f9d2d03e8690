-- A text with no fault is a video, and a video has no fault.
use Rattle.std.proofs.Common.{◌≡◌, ◌≢◌, ℕ, zero, suc, ◌+◌, ◌-◌, ◌<◌, ◌≤◌, inl, inr, Bool, true, false, cond, nat_lt, min, ◌==◌, List, [], ◌∷◌, ◌++◌, length, take, drop, map, codes, Option, Some, None, Result, Ok, Err, refl, sym, ap, ◌∙◌, arith, All, append_assoc, take-append-drop, length-take, length-drop, length-append}
use Rattle.std.specs.List.{flat_map}
use Rattle.std.proofs.lemmas.Bool.{cases_lt}
use Rattle.std.proofs.lemmas.Bool.Decides.{nat_tests}
use Rattle.std.proofs.lemmas.List.{drop-drop}
use Rattle.std.proofs.lemmas.List.Elements.{All-nil, All-cons, All-head, All-tail}
use Rattle.std.proofs.Math.Seq.{take-append_seam, drop-append_seam}
use Rattle.h263_types.specs.declared.format.Format.{Format}
use Rattle.h263_types.specs.Sizes.{size_of_picture}
use Rattle.y4m.specs.declared.fault.Y4mFault.{Y4mFault}
use Rattle.y4m.specs.declared.fault.Y4mFault.TheVariants.{NotY4m, ShortFrame}
use Rattle.h263_outside.specs.Lines.{NoNewline}
use Rattle.y4m.specs.Line.{Tag, agreement, is_line_whole, tags_of}
use Rattle.y4m.specs.Head.{or_else, tag_fault, tags_fault, format_in, format_sized, format_unless, format_of_line, head_line, head_size, head_of}
use Rattle.y4m.specs.Frame.{frame_line, frame_size, line_stop, planes_of, frame_after_line, frame_of}
use Rattle.y4m.specs.Video.{frame_then, video_fault_from, frames_of, first_video_fault, fault_after_head, frames_after_head, video_fault, video_frames}
use Rattle.y4m.specs.Spelled.{IsTextLine, IsHead, SpelledFrame, IsFrame, IsVideo}
use Rattle.y4m.proofs.Frames.{planes_there, size_is}
use Rattle.y4m.proofs.Heads.{whole_head}
use Rattle.y4m.proofs.Spelling.{line_found, line_agrees, line_whole, line_front, line_is}

abbrev Other : ℕ → Type 0
Other b = b ≢ 10

-- a text without a newline, by looking
abbrev pub is_free : List ℕ → Bool
is_free [] = true
is_free (b ∷ bytes) = cond (b == 10) false (is_free bytes)

free_head : (b : ℕ) (rest : Bool) → cond (b == 10) false rest ≡ true → b ≢ 10
free_head b rest is = λ ten. meets b rest ten is
  where
    meets : (b : ℕ) (rest : Bool) → b ≡ 10 → cond (b == 10) false rest ≡ true → ⊥
    meets b rest ten is = let no : cond (b == 10) false rest ≡ false = grind (arith, nat_tests) in cc (sym no ∙ is)

free_tail : (b : ℕ) (rest : Bool) → b ≢ 10 → cond (b == 10) false rest ≡ true → rest ≡ true
free_tail b rest other is = grind (arith, nat_tests)

-- bytes that are free of newlines have none
pub free : (bytes : List ℕ) → is_free bytes ≡ true → NoNewline bytes
free [] is = All-nil Other
free (b ∷ bytes) is =
    let other : b ≢ 10 = free_head b (is_free bytes) is in
    All-cons Other b bytes other (free bytes (free_tail b (is_free bytes) other is))

word_frame : NoNewline (codes "FRAME")
word_frame = free (codes "FRAME") refl

word_head : NoNewline (codes "YUV4MPEG2")
word_head = free (codes "YUV4MPEG2") refl

-- tags without a fault
abbrev Accepted : Tag → Type 0
Accepted tag = tag_fault tag ≡ None

both_none : (a b : Option Y4mFault) → or_else a b ≡ None → (a ≡ None) × (b ≡ None)
both_none None b none = (refl, none)
both_none (Some x) b none = absurd (cc none)

pub tags_accepted : (tags : List Tag) → tags_fault tags ≡ None → All Accepted tags
tags_accepted [] none = All-nil Accepted
tags_accepted (tag ∷ tags) none =
    let parts = both_none (tag_fault tag) (tags_fault tags) none in
    All-cons Accepted tag tags parts.0 (tags_accepted tags parts.1)

no_fault : (tags : List Tag) → All Accepted tags → tags_fault tags ≡ None
no_fault [] all = refl
no_fault (tag ∷ tags) all =
    ap (λ (o : Option Y4mFault). or_else o (tags_fault tags)) (All-head Accepted tag tags all)
    ∙ no_fault tags (All-tail Accepted tag tags all)

-- the head
pub head_found : (line more : List ℕ) (f : Format) → IsHead line f → head_of (line ++ more) ≡ Ok f
head_found line more f h =
    let word = codes "YUV4MPEG2" in
    let agrees : 10 ≡ agreement word line = sym (line_agrees word line h.spelled) in
    ap format_of_line (line_found 256 word line more word_head h.spelled h.spelled.short)
    ∙ whole_head 10 line (Some f) agrees (omega arith) (no_fault (tags_of line) h.accepted)
    (line_whole word line h.spelled) h.sized

head_ends : (line more : List ℕ) (f : Format) → IsHead line f → drop (head_size (line ++ more)) (line ++ more) ≡ more
head_ends line more f h =
    ap (λ (l : List ℕ). drop (length l) (line ++ more))
    (line_found 256 (codes "YUV4MPEG2") line more word_head h.spelled h.spelled.short)
    ∙ drop-append_seam line more

head_parts : (k size : ℕ) (fault : Option Y4mFault) (whole : Bool) (format : Option Format) (f : Format)
    → cond (nat_lt k 10) (Err (NotY4m k))
    (format_unless fault (cond whole (format_sized format (size - 1)) (Err (NotY4m size))))
    ≡ Ok f → (9 < k) × (fault ≡ None) × (whole ≡ true) × (format ≡ Some f)
head_parts k size fault whole format f is = elim (cases_lt k 10) [
  | inl lt ↦ absurd (below lt)
  | inr le ↦ (let rest = by_fault fault whole format
      (sym (ap (λ (b : Bool). cond b (Err (NotY4m k))
      (format_unless fault (cond whole (format_sized format (size - 1)) (Err (NotY4m size))))) (above le)) ∙ is) in
      (omega (arith, le), rest.0, rest.1, rest.2))
]
  where
    test : (k : ℕ) → k < 10 → nat_lt k 10 ≡ true
    test k lt = grind (arith, nat_tests)

    above : 10 ≤ k → nat_lt k 10 ≡ false
    above le = grind (arith, nat_tests)

    below : k < 10 → ⊥
    below lt = let e : Err (NotY4m k)
        ≡ Ok f = sym (ap (λ (b : Bool). cond b (Err (NotY4m k))
        (format_unless fault (cond whole (format_sized format (size - 1)) (Err (NotY4m size))))) (test k lt)) ∙ is in
        cc e

    by_fault : (fault : Option Y4mFault) (whole : Bool) (format : Option Format)
        → format_unless fault (cond whole (format_sized format (size - 1)) (Err (NotY4m size))) ≡ Ok f
        → (fault ≡ None) × (whole ≡ true) × (format ≡ Some f)
    by_fault (Some x) whole format is = absurd (cc is)
    by_fault None false format is = absurd (cc is)
    by_fault None true None is = absurd (cc is)
    by_fault None true (Some g) is = (refl, refl, ap (λ (g : Format). Some g) (cc is))

pub head_is : (video : List ℕ) (f : Format) → head_of video ≡ Ok f → IsHead (head_line video) f
unfolding format_of_line
head_is video f is =
    let line = head_line video in
    let parts = head_parts (agreement (codes "YUV4MPEG2") line) (length line) (tags_fault (tags_of line))
    (is_line_whole line) (format_in (tags_of line)) f is in
    record {
      spelled = line_is 256 (codes "YUV4MPEG2") video parts.0 parts.2;
      accepted = tags_accepted (tags_of line) parts.1;
      sized = parts.3;
    }

-- a frame
stop_found : (k size : ℕ) (whole : Bool) → 5 < k → whole ≡ true
    → cond (nat_lt k 6) (Some k) (cond whole None (Some size)) ≡ None
stop_found k size whole lt is =
    ap (λ (b : Bool). cond b (Some k) (cond whole None (Some size))) (above k lt)
    ∙ ap (λ (b : Bool). cond b None (Some size)) is
  where
    above : (k : ℕ) → 5 < k → nat_lt k 6 ≡ false
    above k lt = grind (arith, nat_tests)

stop_parts : (k size : ℕ) (whole : Bool) → cond (nat_lt k 6) (Some k) (cond whole None (Some size)) ≡ None
    → (5 < k) × (whole ≡ true)
stop_parts k size whole is = elim (cases_lt k 6) [
  | inl lt ↦ absurd (below k lt is)
  | inr le ↦ (
    omega (arith, le),
    by_whole whole (sym (ap (λ (b : Bool). cond b (Some k) (cond whole None (Some size))) (above k le)) ∙ is),
  )
]
  where
    test : (k : ℕ) → k < 6 → nat_lt k 6 ≡ true
    test k lt = grind (arith, nat_tests)

    above : (k : ℕ) → 6 ≤ k → nat_lt k 6 ≡ false
    above k le = grind (arith, nat_tests)

    below : (k : ℕ) → k < 6 → cond (nat_lt k 6) (Some k) (cond whole None (Some size)) ≡ None → ⊥
    below k lt is = let e : Some k
        ≡ None = sym (ap (λ (b : Bool). cond b (Some k) (cond whole None (Some size))) (test k lt)) ∙ is in cc e

    by_whole : (whole : Bool) → cond whole None (Some size) ≡ None → whole ≡ true
    by_whole true is = refl
    by_whole false is = absurd (cc is)

pub line_stops : (line : List ℕ) → line_stop line ≡ None → (5 < agreement (codes "FRAME") line)
    × (is_line_whole line ≡ true)
line_stops line is = stop_parts (agreement (codes "FRAME") line) (min (length line) 256) (is_line_whole line) is

line_goes_on : (line : List ℕ) → IsTextLine (codes "FRAME") line → line_stop line ≡ None
line_goes_on line l =
    stop_found (agreement (codes "FRAME") line) (min (length line) 256) (is_line_whole line)
    (omega (arith, line_agrees (codes "FRAME") line l)) (line_whole (codes "FRAME") line l)

pub planes_parts : (f : Format) (at n : ℕ) (rest planes : List ℕ) → planes_of f at n rest ≡ Ok planes
    → (n + size_of_picture f ≤ length rest) × (planes ≡ take (size_of_picture f) (drop n rest))
planes_parts f at n rest planes is = elim (cases_lt (length rest) (n + size_of_picture f)) [
  | inl lt ↦ absurd (short (test (length rest) (n + size_of_picture f) lt))
  | inr le ↦ (le, long (above (length rest) (n + size_of_picture f) le))
]
  where
    test : (a b : ℕ) → a < b → nat_lt a b ≡ true
    test a b lt = grind (arith, nat_tests)

    above : (a b : ℕ) → b ≤ a → nat_lt a b ≡ false
    above a b le = grind (arith, nat_tests)

    by : (b : Bool) → nat_lt (length rest) (n + size_of_picture f) ≡ b
        → cond b (Err (ShortFrame (at + length rest))) (Ok (take (size_of_picture f) (drop n rest))) ≡ Ok planes
    by b e = sym (ap (λ (b : Bool). cond b (Err (ShortFrame (at + length rest)))
        (Ok (take (size_of_picture f) (drop n rest)))) e) ∙ is

    short : nat_lt (length rest) (n + size_of_picture f) ≡ true → ⊥
    short e = let no : Err (ShortFrame (at + length rest)) ≡ Ok planes = by true e in cc no

    long : nat_lt (length rest) (n + size_of_picture f) ≡ false → planes ≡ take (size_of_picture f) (drop n rest)
    long e = let yes : Ok (take (size_of_picture f) (drop n rest)) ≡ Ok planes = by false e in cc yes

after_parts : (stop : Option ℕ) (f : Format) (at n : ℕ) (rest planes : List ℕ) → frame_after_line stop f at n rest
    ≡ Ok planes → (stop ≡ None) × (planes_of f at n rest ≡ Ok planes)
after_parts None f at n rest planes is = (refl, is)
after_parts (Some stop) f at n rest planes is = absurd (cc is)

pub frame_parts : (f : Format) (at : ℕ) (rest planes : List ℕ) → frame_of f at rest ≡ Ok planes
    → (line_stop (frame_line rest) ≡ None) × (planes_of f at (length (frame_line rest)) rest ≡ Ok planes)
unfolding frame_of
frame_parts f at rest planes is = after_parts (line_stop (frame_line rest)) f at (length (frame_line rest)) rest planes
    is

pub frame_is : (f : Format) (at : ℕ) (rest planes : List ℕ) → frame_of f at rest ≡ Ok planes
    → IsFrame f (record { line = frame_line rest; planes = planes })
frame_is f at rest planes is =
    let parts = frame_parts f at rest planes is in
    let line = line_stops (frame_line rest) parts.0 in
    let there = planes_parts f at (length (frame_line rest)) rest planes parts.1 in
    record {
      spelled = line_is 257 (codes "FRAME") rest line.0 line.1;
      size = ap (λ (l : List ℕ). length l) there.1
          ∙ (omega (
            arith,
            length-take (size_of_picture f) (drop (length (frame_line rest)) rest),
            length-drop (length (frame_line rest)) rest,
            there.0,
          ));
    }

pub frame_text : (f : Format) (at : ℕ) (rest planes : List ℕ) → frame_of f at rest ≡ Ok planes
    → rest ≡ (frame_line rest ++ planes) ++ drop (frame_size f rest) rest
frame_text f at rest planes is =
    let n = length (frame_line rest) in
    let there = planes_parts f at n rest planes (frame_parts f at rest planes is).1 in
    let after : drop n rest ≡ planes ++ drop (frame_size f rest) rest =
    sym (take-append-drop (size_of_picture f) (drop n rest))
    ∙ (λ j. sym there.1 j ++ drop-drop (size_of_picture f) n rest j) in
    line_front 257 rest ∙ ap (λ (l : List ℕ). frame_line rest ++ l) after
    ∙ sym (append_assoc (frame_line rest) planes (drop (frame_size f rest) rest))

module _ (f : Format) (at : ℕ) (x : SpelledFrame) (more : List ℕ) (is : IsFrame f x) where
  abbrev rest : List ℕ
  rest = (x.line ++ x.planes) ++ more

  pub line_there : x.line ≡ frame_line rest
  line_there =
      let short : length x.line ≤ 257 = omega (arith, is.spelled.short) in
      sym (ap (λ (l : List ℕ). frame_line l) (append_assoc x.line x.planes more)
      ∙ line_found 257 (codes "FRAME") x.line (x.planes ++ more) word_frame is.spelled short)

  after_line : drop (length x.line) rest ≡ x.planes ++ more
  after_line = ap (λ (l : List ℕ). drop (length x.line) l) (append_assoc x.line x.planes more)
      ∙ drop-append_seam x.line (x.planes ++ more)

  pub frame_found : frame_of f at rest ≡ Ok x.planes
  frame_found =
      let long : size_of_picture f ≤ length (drop (length x.line) rest) = omega (
        arith,
        ap (λ (l : List ℕ). length l) after_line,
        length-append x.planes more,
        is.size,
      ) in
      planes_there f at rest x.line (length x.line) line_there refl (line_goes_on x.line is.spelled) long
      ∙ (λ j. Ok (take (sym is.size j) (after_line j)))
      ∙ ap (λ (l : List ℕ). Ok l) (take-append_seam x.planes more)

  after_frame : drop (frame_size f rest) rest ≡ more
  after_frame =
      ap (λ (n : ℕ). drop n rest) (size_is f at rest x.line (length x.line) line_there refl)
      ∙ sym (drop-drop (size_of_picture f) (length x.line) rest)
      ∙ (λ j. drop (sym is.size j) (after_line j))
      ∙ drop-append_seam x.planes more

frames_step : (f : Format) (n at : ℕ) (rest planes : List ℕ) → 0 < length rest → frame_of f at rest ≡ Ok planes
    → frames_of f (suc n) at rest ≡ planes ∷ frames_of f n (at + frame_size f rest) (drop (frame_size f rest) rest)
unfolding frames_of
frames_step f n at [] planes more is = absurd (omega arith)
frames_step f n at (b ∷ rest) planes more is =
    ap (λ (r : Result (List ℕ) Y4mFault). frame_then r (frames_of f n (at + frame_size f (b ∷ rest))
    (drop (frame_size f (b ∷ rest)) (b ∷ rest)))) is

fault_step : (f : Format) (n at : ℕ) (rest planes : List ℕ) → 0 < length rest → frame_of f at rest ≡ Ok planes
    → first_video_fault f (suc n) at rest ≡ first_video_fault f n (at + frame_size f rest)
    (drop (frame_size f rest) rest)
unfolding first_video_fault
fault_step f n at [] planes more is = absurd (omega arith)
fault_step f n at (b ∷ rest) planes more is =
    ap (λ (r : Result (List ℕ) Y4mFault). video_fault_from r (first_video_fault f n (at + frame_size f (b ∷ rest))
    (drop (frame_size f (b ∷ rest)) (b ∷ rest)))) is

frames-nil : (f : Format) (n at : ℕ) → frames_of f n at [] ≡ []
unfolding frames_of
frames-nil f zero at = refl
frames-nil f (suc n) at = refl

fault-nil : (f : Format) (n at : ℕ) → first_video_fault f n at [] ≡ None
unfolding first_video_fault
fault-nil f n at = refl

abbrev joined : SpelledFrame → List ℕ
joined frame = frame.line ++ frame.planes

-- these are the frames of the rest, this many at most
record AreWhole (f : Format) (n : ℕ) (rest : List ℕ) (planes : List (List ℕ)) : Type 0 where
  pub frames : List SpelledFrame
  pub text : rest ≡ flat_map joined frames
  pub of_frames : All (IsFrame f) frames
  pub of_planes : planes ≡ map (λ frame. frame.planes) frames
  pub count : length frames ≤ n

none_whole : (f : Format) (n : ℕ) → AreWhole f n [] []
none_whole f n = record {
  frames = [];
  text = refl;
  of_frames = All-nil (IsFrame f);
  of_planes = refl;
  count = omega arith;
}

no_fault_after : (r : Result (List ℕ) Y4mFault) (more : Option Y4mFault) → video_fault_from r more ≡ None → more ≡ None
no_fault_after (Ok planes) more none = none
no_fault_after (Err fault) more none = absurd (cc)

frames_split : (r : Result (List ℕ) Y4mFault) (f : Format) (n at : ℕ) (rest : List ℕ) (more : List (List ℕ))
    (faults : Option Y4mFault) → frame_of f at rest ≡ r → video_fault_from r faults ≡ None
    → AreWhole f n (drop (frame_size f rest) rest) more → AreWhole f (suc n) rest (frame_then r more)
frames_split (Ok planes) f n at rest more faults is none after =
    let frame : SpelledFrame = record { line = frame_line rest; planes = planes } in
    record {
      frames = frame ∷ after.frames;
      text = frame_text f at rest planes is ∙ ap (λ (l : List ℕ). (frame_line rest ++ planes) ++ l) after.text;
      of_frames = All-cons (IsFrame f) frame after.frames (frame_is f at rest planes is) after.of_frames;
      of_planes = ap (λ (l : List (List ℕ)). planes ∷ l) after.of_planes;
      count = omega (arith, after.count);
    }
frames_split (Err fault) f n at rest more faults is none after = absurd (cc none)

frames_whole : (f : Format) (n at : ℕ) (rest : List ℕ) → first_video_fault f n at rest ≡ None
    → AreWhole f n rest (frames_of f n at rest)
unfolding frames_of first_video_fault
frames_whole f zero at [] none = none_whole f zero
frames_whole f zero at (b ∷ rest) none = absurd (cc)
frames_whole f (suc n) at [] none = none_whole f (suc n)
frames_whole f (suc n) at (b ∷ rest) none =
    let size = frame_size f (b ∷ rest) in
    let faults = first_video_fault f n (at + size) (drop size (b ∷ rest)) in
    frames_split (frame_of f at (b ∷ rest)) f n at (b ∷ rest) (frames_of f n (at + size) (drop size (b ∷ rest))) faults
    refl none
    (frames_whole f n (at + size) (drop size (b ∷ rest)) (no_fault_after (frame_of f at (b ∷ rest)) faults none))

-- a frame, and what follows
module _ (f : Format) (at : ℕ) (x : SpelledFrame) (more : List ℕ) (is : IsFrame f x) where
  there : 0 < length ((x.line ++ x.planes) ++ more)
  there = omega (
    arith,
    ap (λ (l : List ℕ). length l) is.spelled.text,
    length-append (codes "FRAME" ++ is.spelled.tail)
        (10 ∷ []),
    length-append (x.line ++ x.planes) more,
    length-append x.line x.planes,
  )

  one_frame : (n : ℕ) (planes : List (List ℕ)) → ((at : ℕ) → frames_of f n at more ≡ planes)
      → frames_of f (suc n) at ((x.line ++ x.planes) ++ more) ≡ x.planes ∷ planes
  one_frame n planes after =
      let rest = (x.line ++ x.planes) ++ more in
      frames_step f n at rest x.planes there (frame_found f at x more is)
      ∙ ap (λ (l : List ℕ). x.planes ∷ frames_of f n (at + frame_size f rest) l) (after_frame f at x more is)
      ∙ ap (λ (l : List (List ℕ)). x.planes ∷ l) (after (at + frame_size f rest))

  one_good : (n : ℕ) → ((at : ℕ) → first_video_fault f n at more ≡ None)
      → first_video_fault f (suc n) at ((x.line ++ x.planes) ++ more)
      ≡ None
  one_good n after =
      let rest = (x.line ++ x.planes) ++ more in
      fault_step f n at rest x.planes there (frame_found f at x more is)
      ∙ ap (λ (l : List ℕ). first_video_fault f n (at + frame_size f rest) l) (after_frame f at x more is)
      ∙ after (at + frame_size f rest)

frames_found : (f : Format) (n : ℕ) (frames : List SpelledFrame) → All (IsFrame f) frames → length frames ≤ n → (at : ℕ)
    → frames_of f n at (flat_map joined frames) ≡ map (λ frame. frame.planes) frames
frames_found f n [] all count at = frames-nil f n at
frames_found f zero (x ∷ frames) all count at = absurd (omega arith)
frames_found f (suc n) (x ∷ frames) all count at =
    one_frame f at x (flat_map joined frames) (All-head (IsFrame f) x frames all) n (map (λ frame. frame.planes) frames)
    (frames_found f n frames (All-tail (IsFrame f) x frames all) (omega arith))

fault_found : (f : Format) (n : ℕ) (frames : List SpelledFrame) → All (IsFrame f) frames → length frames ≤ n → (at : ℕ)
    → first_video_fault f n at (flat_map joined frames) ≡ None
fault_found f n [] all count at = fault-nil f n at
fault_found f zero (x ∷ frames) all count at = absurd (omega arith)
fault_found f (suc n) (x ∷ frames) all count at =
    one_good f at x (flat_map joined frames) (All-head (IsFrame f) x frames all) n
    (fault_found f n frames (All-tail (IsFrame f) x frames all) (omega arith))

-- a whole video
by_head : (head : Result Format Y4mFault) (video : List ℕ) → head_of video ≡ head
    → video_fault video ≡ fault_after_head head (head_size video) (drop (head_size video) video)
unfolding video_fault
by_head head video is = ap (λ (h : Result Format Y4mFault). fault_after_head h (head_size video)
    (drop (head_size video) video)) is

frames_by_head : (head : Result Format Y4mFault) (video : List ℕ) → head_of video ≡ head
    → video_frames video ≡ frames_after_head head (head_size video) (drop (head_size video) video)
unfolding video_frames
frames_by_head head video is = ap (λ (h : Result Format Y4mFault). frames_after_head h (head_size video)
    (drop (head_size video) video)) is

accepted_with : (head : Result Format Y4mFault) (video : List ℕ) → head_of video ≡ head → video_fault video ≡ None
    → (f : Format) × IsVideo video f (video_frames video)
accepted_with (Err fault) video is none = absurd (cc (sym (by_head (Err fault) video is) ∙ none))
accepted_with (Ok f) video is none =
    let w = frames_whole f 1048576 (head_size video) (drop (head_size video) video) (sym (by_head (Ok f) video is)
    ∙ none) in (
      f,
      record {
        head = head_line video;
        frames = w.frames;
        text = line_front 256 video ∙ ap (λ (l : List ℕ). head_line video ++ l) w.text;
        of_head = head_is video f is;
        of_frames = w.of_frames;
        of_planes = frames_by_head (Ok f) video is ∙ w.of_planes;
        count = w.count;
      },
    )

pub accepted : (video : List ℕ) → video_fault video ≡ None → (f : Format) × IsVideo video f (video_frames video)
accepted video none = accepted_with (head_of video) video refl none

module _ (video : List ℕ) (f : Format) (planes : List (List ℕ)) (v : IsVideo video f planes) where
  pub format_found : head_of video ≡ Ok f
  format_found = ap (λ (l : List ℕ). head_of l) v.text ∙ head_found v.head (flat_map joined v.frames) f v.of_head

  body_found : drop (head_size video) video ≡ flat_map joined v.frames
  body_found = ap (λ (l : List ℕ). drop (head_size l) l) v.text
      ∙ head_ends v.head (flat_map joined v.frames) f v.of_head

  pub video_found : video_fault video ≡ None
  video_found = by_head (Ok f) video format_found
      ∙ ap (λ (l : List ℕ). first_video_fault f 1048576 (head_size video) l) body_found
      ∙ fault_found f 1048576 v.frames v.of_frames v.count (head_size video)

  pub planes_found : video_frames video ≡ planes
  planes_found =
      frames_by_head (Ok f) video format_found
      ∙ ap (λ (l : List ℕ). frames_of f 1048576 (head_size video) l) body_found
      ∙ frames_found f 1048576 v.frames v.of_frames v.count (head_size video)
      ∙ sym v.of_planes
