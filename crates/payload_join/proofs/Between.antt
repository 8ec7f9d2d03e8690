-- Bytes between two places, after others were put among them.
use Rattle.std.proofs.Common.{◌≡◌, ℕ, suc, ◌+◌, ◌-◌, ◌≤◌, List, [], ◌∷◌, ◌++◌, length, take, drop, refl, sym, ap, ◌∙◌, arith, append_assoc, length-append}
use Rattle.std.proofs.lemmas.List.{take_at, drop_at, drop-append-le, take-take, drop-take, drop-drop, length-take-le, length-drop}
use Rattle.std.proofs.lemmas.Slice.{drop-append-drop}
use Rattle.payload_join.specs.Packet.{bytes_between}
use Rattle.payload_join.specs.Places.{put_at}

take_over : (ws rest : List ℕ) (m : ℕ) → take (length ws + m) (ws ++ rest) ≡ ws ++ take m rest
take_over [] rest m = let e : 0 + m ≡ m = omega arith in ap (λ (k : ℕ). take k rest) e
take_over (w ∷ ws) rest m =
    let e : suc (length ws) + m ≡ suc (length ws + m) = omega arith in
    ap (λ (k : ℕ). take k (w ∷ (ws ++ rest))) e ∙ ap (λ (l : List ℕ). w ∷ l) (take_over ws rest m)

-- the front, and what stands after it
pub between_put : (room front : List ℕ) (p to : ℕ) → p + length front ≤ to → to ≤ length room
    → bytes_between (put_at room p front) p to ≡ front ++ bytes_between room (p + length front) to
between_put room front p to order end =
    let l : length (take p room) ≡ p = length-take-le p room (omega arith) in
    let e : to - p ≡ length front + (to - (p + length front)) = omega arith in
    ap (take (to - p)) (drop_at (take p room) (front ++ drop (p + length front) room) p l)
    ∙ ap (λ (k : ℕ). take k (front ++ drop (p + length front) room)) e
    ∙ take_over front (drop (p + length front) room) (to - (p + length front))

-- nothing changes after it
pub between_after : (room front : List ℕ) (p from to : ℕ) → p + length front ≤ from → p + length front ≤ length room
    → bytes_between (put_at room p front) from to ≡ bytes_between room from to
between_after room front p from to order end =
    let l : length (take p room) ≡ p = length-take-le p room (omega arith) in
    let m : length (take p room ++ front) ≡ p + length front = length-append (take p room) front
    ∙ ap (λ (k : ℕ). k + length front) l in
    ap (λ (r : List ℕ). take (to - from) (drop from r))
    (sym (append_assoc (take p room) front (drop (p + length front) room)))
    ∙ ap (take (to - from)) (drop-append-drop (p + length front) room (take p room ++ front) from order m)

pub between_take : (room : List ℕ) (at to n : ℕ) → at + n ≤ to → take n (bytes_between room at to)
    ≡ bytes_between room at (at + n)
between_take room at to n le =
    let e : n ≡ at + n - at = omega arith in
    take-take n (to - at) (drop at room) (omega arith) ∙ ap (λ (k : ℕ). take k (drop at room)) e

pub between_drop : (room : List ℕ) (at to n : ℕ) → at + n ≤ to → drop n (bytes_between room at to)
    ≡ bytes_between room (at + n) to
between_drop room at to n le =
    let e : to - at ≡ n + (to - (at + n)) = omega arith in
    ap (λ (k : ℕ). drop n (take k (drop at room))) e
    ∙ drop-take n (to - (at + n)) (drop at room)
    ∙ ap (take (to - (at + n))) (drop-drop n at room)

-- coded bytes are added
pub between_grown : (room ws : List ℕ) (from at : ℕ) → from ≤ at → at + length ws ≤ length room
    → bytes_between (put_at room at ws) from (at + length ws) ≡ bytes_between room from at ++ ws
between_grown room ws from at order end =
    let l : length (take at room) ≡ at = length-take-le at room (omega arith) in
    let rest : List ℕ = ws ++ drop (at + length ws) room in
    let front : drop from (take at room) ≡ bytes_between room from at =
    (let e : at ≡ from + (at - from) = omega arith in ap (λ (k : ℕ). drop from (take k room)) e)
    ∙ drop-take from (at - from) room in
    let d : length (drop from room) ≡ length room - from = length-drop from room in
    let many : length (bytes_between room from at) ≡ at - from = length-take-le (at - from) (drop from room)
    (omega arith) in
    let e : at + length ws - from ≡ length (bytes_between room from at) + length ws = omega arith in
    ap (take (at + length ws - from)) (drop-append-le from (take at room) rest (omega arith)
    ∙ ap (λ (x : List ℕ). x ++ rest) front)
    ∙ ap (λ (k : ℕ). take k (bytes_between room from at ++ rest)) e
    ∙ take_over (bytes_between room from at) rest (length ws)
    ∙ ap (λ (x : List ℕ). bytes_between room from at ++ x) (take_at ws (drop (at + length ws) room) (length ws) refl)

-- what was put, after what stood before it
pub take_put : (xs ws : List ℕ) (at : ℕ) → at + length ws ≤ length xs → take (at + length ws) (put_at xs at ws)
    ≡ take at xs ++ ws
take_put xs ws at le =
    let l : length (take at xs) ≡ at = length-take-le at xs (omega arith) in
    let e : at + length ws ≡ length (take at xs) + length ws = omega arith in
    ap (λ (k : ℕ). take k (put_at xs at ws)) e
    ∙ take_over (take at xs) (ws ++ drop (at + length ws) xs) (length ws)
    ∙ ap (λ (x : List ℕ). take at xs ++ x) (take_at ws (drop (at + length ws) xs) (length ws) refl)
