-- The messages of a picture that is among the last, found from the newest one.
use Rattle.std.proofs.Common.{◌≡◌, ℕ, ◌+◌, ◌-◌, ◌<◌, ◌≤◌, List, [], length, map, get_or, nat_lt, Option, Some, None, ap, ◌∙◌, arith}
use Rattle.std.specs.Prelude.{slice_get, if◌then◌else◌}
use Rattle.std.proofs.lemmas.Bool.{lt-ltb}
use Rattle.std.proofs.lemmas.Option.{slice_get-get_or}
use Rattle.std.proofs.lemmas.List.{length-drop, length-map, get_or-drop, get_or-map}
use Rattle.circular_buffer.specs.Buffer.{keep_last}
use Rattle.duplex_call.specs.declared.queue.Carried.{Carried}
use Rattle.duplex_call.specs.Waiting.{in_four_places}
use Rattle.duplex_ends.specs.declared.headers.CarriedRing.{CarriedRing}
use Rattle.duplex_ends.specs.Headers.{HoldsHeaders, kept_by}

-- what lies so many places before the last item
abbrev pub from_back : {X : Type 0} → List X → ℕ → Option X
from_back xs since = if nat_lt since (length xs) then slice_get xs (length xs - since - 1) else None

last_kept : {X : Type 0} (xs : List X) (n k since : ℕ) (d : X) → since + 1 + k ≡ length xs → length xs ≤ k + n
    → from_back (keep_last n xs) since ≡ Some (get_or xs k d)
last_kept {X} xs n k since d e near =
    let last = keep_last n xs in
    let long : length last ≡ length xs - (length xs - n) = length-drop (length xs - n) xs in
    let inside : since < length last = omega (arith, e, near, long) in
    let place : length last - since - 1 < length last = omega (arith, inside) in
    let at : length xs - n + (length last - since - 1) ≡ k = omega (arith, e, near, long) in
    rw (lt-ltb since (length last) inside)
    (slice_get-get_or last (length last - since - 1) d place
    ∙ ap (λ (x : X). let o : Option X = Some x in o) (get_or-drop (length xs - n) xs (length last - since - 1) d
    ∙ ap (λ (i : ℕ). get_or xs i d) at))

pub header_kept : (ring : CarriedRing) (headers : List (List Carried)) (number since : ℕ) → HoldsHeaders ring headers
    → number < length headers → length headers ≤ number + kept_by ring
    → since ≡ ring.newest - number → from_back ring.kept.items since ≡ Some (in_four_places (get_or headers number []))
header_kept ring headers number since held low near is =
    let all : List (List (Option Carried)) = map in_four_places headers in
    let long : length all ≡ length headers = length-map headers in_four_places in
    ap (λ (l : List (List (Option Carried))). from_back l since) held.last
    ∙ last_kept all (kept_by ring) number since [] (omega (arith, long, low, is, held.newest))
    (omega (arith, long, near))
    ∙ ap (λ (x : List (Option Carried)). let o : Option (List (Option Carried)) = Some x in
    o) (get_or-map in_four_places headers number [] [] low)
