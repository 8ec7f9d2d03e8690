-- How long numbers are, and lines with them.
use Rattle.std.proofs.Common.{◌<◌, ◌≤◌, ◌^◌, ◌+◌, inl, inr, ℕ, [], ◌∷◌, length, length-append, arith}
use Rattle.std.specs.Prelude.{decimal}
use Rattle.std.proofs.lemmas.Fmt.{length-decimal-le}
use Rattle.h263_types.specs.Texts.{Text}
use Rattle.call_report.specs.Text.{HasRoomForWord, gap, with_pair}

pub decimal_short : (n : ℕ) → n < 2 ^ 64 → length (decimal n) ≤ 20
decimal_short n h = length-decimal-le 20 n (omega arith) (omega arith) h

pub gap_short : (text : Text) → length (gap text) ≤ 1
gap_short [] = omega arith
gap_short (_ ∷ _) = omega arith

-- a word and its number take 22 bytes more than the word at most
pub pair_short : (text word : Text) (number : ℕ) → number < 2 ^ 64
    → length (with_pair text word number) ≤ length text + length word + 22
pair_short text word number h =
    simp length-append (omega (arith, gap_short text, decimal_short number h))

pub pair_fits : (text word : Text) (number : ℕ) → number < 2 ^ 64 → HasRoomForWord text word number
    → length (with_pair text word number) ≤ 256
pair_fits text word number h (inl room) = omega (arith, pair_short text word number h)
pair_fits text word number h (inr fits) = fits
