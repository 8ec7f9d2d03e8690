-- A frame by what there is of its line, and by what stands after it.
use Rattle.std.proofs.Common.{◌≡◌, ◌≢◌, ℕ, zero, suc, ◌+◌, ◌<◌, ◌≤◌, ◌==◌, Bool, true, false, cond, nat_lt, List, [], ◌∷◌, length, take, drop, Option, Some, None, Ok, Err, refl, sym, ap, ◌∙◌, arith, length-take, length-drop}
use Rattle.std.proofs.lemmas.Bool.Decides.{nat_tests}
use Rattle.h263_types.specs.declared.format.Format.{Format}
use Rattle.h263_types.specs.Sizes.{size_of_picture}
use Rattle.y4m.specs.declared.fault.Y4mFault.TheVariants.{ShortFrame, TooMany}
use Rattle.y4m.specs.Line.{through_newline, line_within}
use Rattle.y4m.specs.Frame.{frame_line, frame_size, line_stop, stop_fault, frame_after_line, frame_of, next_frame}
use Rattle.y4m.proofs.Inputs.{nil_of}

length-through : (bytes : List ℕ) → length (through_newline bytes) ≤ length bytes
length-through [] = omega arith
length-through (b ∷ bytes) = through_cases (b == 10) b bytes (length-through bytes)
  where
    through_cases : (ten : Bool) (b : ℕ) (bytes : List ℕ) → length (through_newline bytes) ≤ length bytes
        → length (b ∷ cond ten [] (through_newline bytes)) ≤ length (b ∷ bytes)
    through_cases true b bytes le = omega arith
    through_cases false b bytes le = omega (arith, le)

pub line_fits : (n : ℕ) (bytes : List ℕ) → length (line_within n bytes) ≤ length bytes
line_fits n bytes = omega (arith, length-through (take n bytes), length-take n bytes)

through_none : (bytes : List ℕ) → length (through_newline bytes) ≡ 0 → bytes ≡ []
through_none [] none = refl
through_none (b ∷ bytes) none = absurd (omega arith)

pub no_line : (rest : List ℕ) → length (frame_line rest) ≡ 0 → rest ≡ []
no_line rest none = nil_of rest (omega (
  arith,
  length-take 257 rest,
  ap (λ (l : List ℕ). length l) (through_none (take 257 rest) none),
))

-- l is what there is of the line, n bytes
module _ (f : Format) (at : ℕ) (rest l : List ℕ) (n : ℕ) (is : l ≡ frame_line rest) (size : length l ≡ n) where
  split : (stop : Option ℕ) → line_stop l ≡ stop → frame_of f at rest ≡ frame_after_line stop f at n rest
  unfolding frame_of
  split stop e = (λ j. frame_after_line (line_stop (sym is j)) f at (length (sym is j)) rest)
      ∙ (λ j. frame_after_line (e j) f at (size j) rest)

  pub line_refused : (stop : ℕ) → line_stop l ≡ Some stop → frame_of f at rest ≡ Err (stop_fault at n stop)
  line_refused stop e = split (Some stop) e

  pub within : n ≤ length rest
  within = omega (arith, line_fits 257 rest, ap (λ (x : List ℕ). length x) is)

  short_test : length rest < n + size_of_picture f → nat_lt (length rest) (n + size_of_picture f) ≡ true
  short_test lt = tested (length rest) (n + size_of_picture f) lt
    where
      tested : (a b : ℕ) → a < b → nat_lt a b ≡ true
      tested a b lt = grind (arith, nat_tests)

  long_test : n + size_of_picture f ≤ length rest → nat_lt (length rest) (n + size_of_picture f) ≡ false
  long_test le = tested (length rest) (n + size_of_picture f) le
    where
      tested : (a b : ℕ) → b ≤ a → nat_lt a b ≡ false
      tested a b le = grind (arith, nat_tests)

  by_test : line_stop l ≡ None → (b : Bool) → nat_lt (length rest) (n + size_of_picture f) ≡ b
      → frame_of f at rest ≡ cond b (Err (ShortFrame (at + length rest))) (Ok (take (size_of_picture f) (drop n rest)))
  by_test e b test = split None e
      ∙ ap (λ (b : Bool). cond b (Err (ShortFrame (at + length rest))) (Ok (take (size_of_picture f) (drop n rest))))
      test

  pub planes_short : line_stop l ≡ None → length (drop n rest) < size_of_picture f
      → frame_of f at rest ≡ Err (ShortFrame (at + n + length (drop n rest)))
  planes_short e short =
      let same : at + length rest ≡ at + n + length (drop n rest) = omega (arith, length-drop n rest, within) in
      by_test e true (short_test (omega (arith, length-drop n rest, within))) ∙ ap (λ (m : ℕ). Err (ShortFrame m)) same

  -- after a good line there is a frame where its samples are there
  pub planes_there : line_stop l ≡ None → size_of_picture f ≤ length (drop n rest)
      → frame_of f at rest ≡ Ok (take (size_of_picture f) (drop n rest))
  planes_there e long = by_test e false (long_test (omega (arith, length-drop n rest, within)))

  -- a frame is its line and its samples
  pub size_is : frame_size f rest ≡ n + size_of_picture f
  size_is = omega (arith, ap (λ (x : List ℕ). length x) is)

pub next_is : (more : ℕ) (f : Format) (at : ℕ) (rest : List ℕ) → more ≢ 0 → next_frame more f at rest
    ≡ frame_of f at rest
next_is zero f at rest some = absurd (some refl)
next_is (suc n) f at rest some = refl

pub next_none : (more : ℕ) (f : Format) (at : ℕ) (rest : List ℕ) → more ≡ 0 → next_frame more f at rest
    ≡ Err (TooMany at)
next_none more f at rest none = ap (λ (n : ℕ). next_frame n f at rest) none
