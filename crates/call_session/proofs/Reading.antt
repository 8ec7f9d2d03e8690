-- The room has a packet as ends read it.
use Rattle.std.proofs.Common.{◌≡◌, ℕ, List, length, take, ◌++◌, ap, sym, ◌∙◌}
use Rattle.std.proofs.Math.Seq.{take-append_seam}

pub in_room : (count size : ℕ) (bytes after room own : List ℕ) → size ≡ 9000 → length bytes ≡ 9000
    → room ≡ take size (bytes ++ after) → take count bytes ≡ own → take count room ≡ own
in_room count size bytes after room own s l r e =
    ap (take count) (r ∙ ap (λ (n : ℕ). take n (bytes ++ after)) (s ∙ sym l) ∙ take-append_seam bytes after) ∙ e
