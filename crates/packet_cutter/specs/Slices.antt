-- The cut as a function of the macroblocks: the slices with their places in the picture.
use Rattle.std.specs.Prelude.{ℕ, zero, suc, ◌+◌, nat_le, List, [], ◌∷◌, length, take, drop}
use Rattle.std.specs.Option.{option_map_or}
use Rattle.call_model.specs.Coding.{Slice}
use Rattle.call_model.specs.Numbers.{greatest}
use Rattle.h263_types.specs.declared.blocks.Mb.{Mb}
use Rattle.picture_header.specs.declared.header.Header.{Header}
use Rattle.packet_cutter.specs.Cut.{packet_bytes}

-- how many of these macroblocks the longest slice has that begins with the first of them, number
-- `first` of the picture: the most with which `size` keeps within the limit, and one where none
-- does
abbrev pub longest_of : (ℕ → List Mb → ℕ) → ℕ → ℕ → List Mb → ℕ
longest_of size limit first mbs =
    option_map_or (λ n. n + 1) (greatest (λ n. nat_le (size first (take (n + 1) mbs)) limit) (length mbs)) 1

-- the slices of these macroblocks, one after the other, and this many at most
unfoldable pub slices_from : ℕ → (ℕ → List Mb → ℕ) → ℕ → ℕ → List Mb → List (Slice Mb)
slices_from zero size limit first mbs = []
slices_from (suc most) size limit first [] = []
slices_from (suc most) size limit first (m ∷ mbs) =
    let count = longest_of size limit first (m ∷ mbs) in
    record { first = first; mbs = take count (m ∷ mbs) }
    ∷ slices_from most size limit (first + count) (drop count (m ∷ mbs))

-- the slices of a picture, each the longest whose packet has at most `limit` bytes
abbrev pub cut_of : Header → ℕ → List Mb → List (Slice Mb)
cut_of h limit mbs = slices_from (length mbs) (packet_bytes h) limit 0 mbs

-- slices by their macroblocks, where the first one begins with macroblock `first`
abbrev pub runs_as_slices : ℕ → List (List Mb) → List (Slice Mb)
runs_as_slices first [] = []
runs_as_slices first (run ∷ runs) = record { first = first; mbs = run } ∷ runs_as_slices (first + length run) runs
