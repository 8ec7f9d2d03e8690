-- Coded pictures and the choice of their references, by whole numbers from 0 on.
use Rattle.std.specs.Prelude.{ℕ, ◌+◌, Bool, ◌&&◌, nat_lt, nat_le, ◌==◌, List, slice_get, Option, Some, None, is_some, option_and_then, if◌then◌else◌}
use Rattle.std.specs.Option.{option_map, option_map_or}
use Rattle.std.specs.List.{list_any}
use Rattle.call_model.specs.Numbers.{greatest}
use Rattle.call_model.specs.Coding.{Rules, window, Slice, Pictures, Encoding, decoded_picture}

-- A coded picture. Its depth is the length of its chain of references: 0 where it is coded intra.
-- Its slices are those of its packets, and its picture is what decoding gives.
pub record Coded (Style Mb Picture : Type 0) : Type 0 where
  pub reference : Option ℕ
  pub depth : ℕ
  pub style : Style
  pub slices : List (Slice Mb)
  pub picture : Picture

-- The reference of picture n: the greatest known number in the window below n, unless there is none
-- or its chain may not grow. Without a reference the picture is coded intra.
unfoldable pub reference_for : Rules → (ℕ → ℕ) → (ℕ → Bool) → ℕ → Option ℕ
reference_for rules depth known n =
    option_and_then (λ m. if nat_lt (depth m) rules.chain then Some m else None)
    (greatest (λ m. known m && nat_le n (m + window rules)) n)

abbrev pub is_among : List ℕ → ℕ → Bool
is_among numbers n = list_any (λ m. m == n) numbers

module _ {Style Mb Picture : Type 0} where
  abbrev pub depth_at : List (Coded Style Mb Picture) → ℕ → ℕ
  depth_at coded n = option_map_or (λ x. x.depth) (slice_get coded n) 0

  abbrev pub picture_at : List (Coded Style Mb Picture) → ℕ → Option Picture
  picture_at coded n = option_map (λ x. x.picture) (slice_get coded n)

module _ {Frame Style Mb Picture MessageFault : Type 0} (pictures : Pictures Style Mb Picture)
    (encoding : Encoding Frame Style Mb Picture MessageFault) where
  -- a frame coded with this quantiser, after these pictures, with the reference of this number
  unfoldable pub capture : ℕ → Frame → List (Coded Style Mb Picture) → Option ℕ → Coded Style Mb Picture
  capture quant frame coded reference =
      let depth = option_map_or (λ m. depth_at coded m + 1) reference 0 in
      let style = encoding.style frame (is_some reference) depth quant in
      let before = option_and_then (λ m. picture_at coded m) reference in
      let mbs = encoding.choice frame before style in
      record {
        reference = reference;
        depth = depth;
        style = style;
        slices = encoding.cut style mbs;
        picture = decoded_picture pictures style before mbs;
      }
