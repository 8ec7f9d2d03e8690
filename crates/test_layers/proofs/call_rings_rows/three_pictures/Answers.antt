-- The ring has room for each packet that is put, by its law.
use Rattle.std.proofs.Common.{ℕ, List, [], ◌∷◌, arith}
use Rattle.test_layers.proofs.call_rings_rows.three_pictures.Goals as goal

pub push-requires : goal.push-requires
push-requires c = c.has_room.ensures _ [] [] 3 (c.begin.ensures.begins [] c.in_ok-ring.ensures.none)
    (omega (arith, c.begin.ensures.sizes, c.in_ok-ring.ensures.sizes)) (omega (
      arith,
      c.begin.ensures.sizes,
      c.in_ok-ring.ensures.sizes,
    ))

pub push-requires-2 : goal.push-requires-2
push-requires-2 c =
    let one = c.push.ensures.pushes [] [] (c.begin.ensures.begins [] c.in_ok-ring.ensures.none) in
    c.has_room.ensures _ [] _ 2 one (omega (
      arith,
      c.push.ensures.sizes,
      c.begin.ensures.sizes,
      c.in_ok-ring.ensures.sizes,
    )) (omega (
      arith,
      c.push.ensures.sizes,
      c.begin.ensures.sizes,
      c.in_ok-ring.ensures.sizes,
    ))

pub push-requires-3 : goal.push-requires-3
push-requires-3 c =
    let one = c.push.ensures.pushes [] [] (c.begin.ensures.begins [] c.in_ok-ring.ensures.none) in
    let two = c.push-2.ensures.pushes [] _ one in
    let before : List (List (List ℕ)) = ((1 ∷ 2 ∷ 3 ∷ []) ∷ (2 ∷ 3 ∷ []) ∷ []) ∷ [] ∷ [] in
    let three = c.begin-3.ensures.begins _ (c.begin-2.ensures.begins _ two) in
    c.has_room.ensures _ before [] 1 three (omega (
      arith,
      c.begin-3.ensures.sizes,
      c.begin-2.ensures.sizes,
      c.push-2.ensures.sizes,
      c.push.ensures.sizes,
      c.begin.ensures.sizes,
      c.in_ok-ring.ensures.sizes,
    ))
    (omega (
      arith,
      c.begin-3.ensures.sizes,
      c.begin-2.ensures.sizes,
      c.push-2.ensures.sizes,
      c.push.ensures.sizes,
      c.begin.ensures.sizes,
      c.in_ok-ring.ensures.sizes,
    ))
