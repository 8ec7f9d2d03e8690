use Rattle.std.proofs.Common.{ℕ, ◌+◌, ℤ, pos, arith, replicate, slice_set, length, ◌≡◌, length-set}
use Rattle.std.proofs.lemmas.Int.{ints}
use Rattle.std.proofs.lemmas.List.Elements.{All-replicate, All-set, All-get_or}
use Rattle.h263_types.specs.Blocks.{IsLevel, IsInterBlock}
use Rattle.test_layers.proofs.picture_recon_rows.residual.Goals as goal

-- zeros with two levels put in
inter_block : (place : ℕ) (first level : ℤ) → IsLevel first → IsLevel level
    → IsInterBlock (record { levels = slice_set (slice_set (replicate 64 (pos 0)) (place + 1) level) 0 first })
inter_block place first level hf hl =
    let none : IsLevel (pos 0) = record { low = omega (arith, ints); high = omega (arith, ints) } in
    let zeros = replicate 64 (pos 0) in
    let inner = slice_set zeros (place + 1) level in
    let long : length inner ≡ 64 = length-set zeros (place + 1) level in
    let whole : length (slice_set inner 0 first) ≡ 64 = omega (arith, length-set inner 0 first) in
    let each = All-set IsLevel inner 0 first hf (All-set IsLevel zeros (place + 1) level hl
    (All-replicate IsLevel 64 (pos 0) none)) in
    record { levels = λ k below. All-get_or IsLevel (slice_set inner 0 first) k (pos 0) (omega arith) each }

pub returns : goal.returns
returns c =
    inter_block c.args.place _ _ (record { low = omega (arith, ints); high = omega (arith, ints) })
    (record { low = omega (arith, ints); high = omega (arith, ints) })
