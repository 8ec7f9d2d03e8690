-- What was taken when a read failed has no whole head or frame.
use Rattle.std.proofs.Common.{◌≡◌, ◌≢◌, ℕ, ◌+◌, ◌-◌, ◌<◌, ◌≤◌, List, [], ◌∷◌, ◌++◌, length, take, drop, codes, None, Result, Ok, Err, IsErr, inl, inr, refl, sym, ap, subst, ◌∙◌, arith, length-take, length-append}
use Rattle.std.proofs.lemmas.Bool.{cases_lt}
use Rattle.std.proofs.lemmas.List.Elements.{All-nil, All-cons, All-head, All-tail, All-append}
use Rattle.std.proofs.Math.Seq.{take-append-add, take-add}
use Rattle.h263_types.specs.declared.format.Format.{Format}
use Rattle.h263_types.specs.Sizes.{size_of_picture}
use Rattle.h263_outside.specs.Lines.{NoNewline}
use Rattle.y4m.specs.Line.{line_within}
use Rattle.y4m.specs.Head.{head_line, head_size, head_of}
use Rattle.y4m.specs.Frame.{frame_line, frame_size, line_stop, frame_of}
use Rattle.y4m.specs.Spelled.{IsTextLine, IsHead, SpelledFrame, IsFrame}
use Rattle.y4m.proofs.Frames.{size_is, line_fits}
use Rattle.y4m.proofs.Spelling.{line_found, line_front, line_is}
use Rattle.y4m.proofs.Videos.{free, head_is, head_found, frame_is, frame_parts, planes_parts, line_stops, frame_text, frame_found, line_there}

abbrev Other : ℕ → Type 0
Other b = b ≢ 10

err_unless : {A E : Type 0} (r : Result A E) → ((x : A) → r ≡ Ok x → ⊥) → IsErr r
err_unless (Ok x) no_ok = absurd (no_ok x refl)
err_unless (Err e) no_ok = refl

newline_in : (front more : List ℕ) → NoNewline ((front ++ 10 ∷ []) ++ more) → ⊥
newline_in [] more none = All-head Other 10 more none refl
newline_in (b ∷ front) more none = newline_in front more (All-tail Other b ((front ++ 10 ∷ []) ++ more) none)

-- a whole line has a newline
no_line : (n : ℕ) (word xs : List ℕ) → NoNewline xs → IsTextLine word (line_within n xs) → ⊥
no_line n word xs none l =
    let rest = drop (length (line_within n xs)) xs in
    newline_in (word ++ l.tail) rest (subst NoNewline (line_front n xs ∙ ap (λ (x : List ℕ). x ++ rest) l.text) none)

-- a whole line has its word and a newline
pub line_least : (word line : List ℕ) → IsTextLine word line → length word < length line
line_least word line l = omega (
  arith,
  ap (λ (x : List ℕ). length x) l.text,
  length-append (word ++ l.tail) (10 ∷ []),
  length-append word l.tail,
)

-- bytes that are cut, n of a text with this word
cut_line : (n least k : ℕ) (word text : List ℕ) → least ≤ length word + 1 → (least ≤ k → NoNewline (take k text))
    → IsTextLine word (line_within n (take k text)) → ⊥
cut_line n least k word text le free l =
    elim (cases_lt k least) [
      | inl lt ↦ absurd (omega (
        arith,
        line_least word (line_within n (take k text)) l,
        line_fits n (take k text),
        length-take k text,
      ))
      | inr ge ↦ no_line n word (take k text) (free (omega arith)) l
    ]

pub head_cut : (k : ℕ) (text : List ℕ) → (10 ≤ k → NoNewline (take k text)) → IsErr (head_of (take k text))
head_cut k text free = err_unless (head_of (take k text)) (λ f is. cut_line 256 10 k (codes "YUV4MPEG2") text
    (omega arith) free (head_is (take k text) f is).spelled)

pub frame_cut : (f : Format) (at k : ℕ) (text : List ℕ) → (6 ≤ k → NoNewline (take k text))
    → IsErr (frame_of f at (take k text))
frame_cut f at k text free = err_unless (frame_of f at (take k text))
    (λ planes is. cut_line 257 6 k (codes "FRAME") text (omega arith) free
    (frame_is f at (take k text) planes is).spelled)

-- the lines of a head and of a frame have as many bytes as are read at once
pub head_least : (video : List ℕ) (f : Format) → head_of video ≡ Ok f → 10 ≤ head_size video
head_least video f is = omega (arith, line_least (codes "YUV4MPEG2") (head_line video) (head_is video f is).spelled)

pub frame_least : (rest : List ℕ) → line_stop (frame_line rest) ≡ None → 6 ≤ length (frame_line rest)
frame_least rest whole =
    let line = line_stops (frame_line rest) whole in
    omega (arith, line_least (codes "FRAME") (frame_line rest) (line_is 257 (codes "FRAME") rest line.0 line.1))

-- the planes were cut
module _ (f : Format) (at j : ℕ) (rest : List ℕ) (whole : line_stop (frame_line rest)
    ≡ None) (short : j < size_of_picture f) where
  abbrev taken : List ℕ
  taken = take (length (frame_line rest) + j) rest

  spelled : IsTextLine (codes "FRAME") (frame_line rest)
  spelled = let line = line_stops (frame_line rest) whole in line_is 257 (codes "FRAME") rest line.0 line.1

  taken_is : taken ≡ frame_line rest ++ take j (drop (length (frame_line rest)) rest)
  taken_is =
      ap (λ (l : List ℕ). take (length (frame_line rest) + j) l) (line_front 257 rest)
      ∙ take-append-add (frame_line rest) (drop (length (frame_line rest)) rest) j

  same_line : frame_line taken ≡ frame_line rest
  same_line =
      let le : length (frame_line rest) ≤ 257 = omega (arith, spelled.short) in
      ap (λ (l : List ℕ). frame_line l) taken_is
      ∙ line_found 257 (codes "FRAME") (frame_line rest) (take j (drop (length (frame_line rest)) rest))
      (free (codes "FRAME") refl) spelled le

  too_short : (planes : List ℕ) → frame_of f at taken ≡ Ok planes → ⊥
  too_short planes is =
      let there = planes_parts f at (length (frame_line taken)) taken planes (frame_parts f at taken planes is).1 in
      omega (arith, there.0, ap (λ (l : List ℕ). length l) same_line, length-take (length (frame_line rest) + j) rest)

  pub planes_cut : IsErr (frame_of f at taken)
  planes_cut = err_unless (frame_of f at taken) too_short

-- a byte more without a newline
pub free_more : (left : List ℕ) (i b : ℕ) → NoNewline (take i left) → drop i left ≡ b ∷ drop 1 (drop i left) → b ≢ 10
    → NoNewline (take (i + 1) left)
free_more left i b none there other =
    let more : take (i + 1) left ≡ take i left ++ b ∷ [] = take-add i 1 left
    ∙ ap (λ (l : List ℕ). take i left ++ take 1 l) there in
    subst NoNewline (sym more) (All-append Other (take i left) (b ∷ []) none
    (All-cons Other b [] other (All-nil Other)))

-- a whole head or frame stays one where what follows is cut
take_past : (xs ys : List ℕ) (k : ℕ) → length xs ≤ k → take k (xs ++ ys) ≡ xs ++ take (k - length xs) ys
take_past xs ys k le =
    let split : k ≡ length xs + (k - length xs) = omega arith in
    ap (λ (n : ℕ). take n (xs ++ ys)) split ∙ take-append-add xs ys (k - length xs)

pub head_stays : (video : List ℕ) (f : Format) (k : ℕ) → head_of video ≡ Ok f → head_size video ≤ k
    → (head_of (take k video) ≡ Ok f) × (head_size (take k video) ≡ head_size video)
head_stays video f k is le =
    let line = head_line video in
    let h : IsHead line f = head_is video f is in
    let more = take (k - length line) (drop (length line) video) in
    let text : take k video ≡ line ++ more = ap (λ (l : List ℕ). take k l) (line_front 256 video)
    ∙ take_past line (drop (length line) video) k le in (
      ap (λ (l : List ℕ). head_of l) text ∙ head_found line more f h,
      ap (λ (l : List ℕ). head_size l) text
          ∙ ap (λ (l : List ℕ). length l) (line_found 256 (codes "YUV4MPEG2") line more (free (codes "YUV4MPEG2") refl)
          h.spelled h.spelled.short),
    )

-- a frame is found in as many bytes as it has
pub frame_stays : (f : Format) (at k : ℕ) (rest planes : List ℕ) → frame_of f at rest ≡ Ok planes
    → frame_size f rest ≤ k → (frame_of f at (take k rest) ≡ Ok planes)
    × (frame_size f (take k rest) ≡ frame_size f rest)
frame_stays f at k rest planes is le =
    let line = frame_line rest in
    let x : SpelledFrame = record { line = line; planes = planes } in
    let whole : IsFrame f x = frame_is f at rest planes is in
    let more = drop (frame_size f rest) rest in
    let size : length (line ++ planes) ≡ frame_size f rest = length-append line planes
    ∙ ap (λ (n : ℕ). length line + n) whole.size in
    let after = take (k - length (line ++ planes)) more in
    let text : take k rest ≡ (line ++ planes) ++ after = ap (λ (l : List ℕ). take k l) (frame_text f at rest planes is)
    ∙ take_past (line ++ planes) more k (omega (arith, size, le)) in (
      ap (λ (l : List ℕ). frame_of f at l) text ∙ frame_found f at x after whole,
      ap (λ (l : List ℕ). frame_size f l) text
          ∙ size_is f at ((line ++ planes) ++ after) line (length line) (line_there f at x after whole) refl,
    )
