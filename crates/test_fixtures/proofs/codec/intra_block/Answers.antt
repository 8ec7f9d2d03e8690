use Rattle.std.proofs.Common.{◌≡◌, ◌≢◌, ℕ, ◌+◌, ℤ, pos, arith, sym, subst, replicate, slice_set, length, length-set, get_or-set_same, get_or-set_other}
use Rattle.std.proofs.lemmas.Int.{ints}
use Rattle.std.proofs.lemmas.List.Elements.{All-replicate, All-set, All-get_or}
use Rattle.h263_types.specs.Blocks.{IsDc, IsLevel, IsIntraBlock}
use Rattle.test_fixtures.proofs.codec.intra_block.Goals as goal

-- zeros with one level and INTRADC put in
intra_block : (place : ℕ) (dc level : ℤ) → IsDc dc → IsLevel level
    → IsIntraBlock (record { levels = slice_set (slice_set (replicate 64 (pos 0)) (place + 1) level) 0 dc })
intra_block place dc level hd hl =
    let none : IsLevel (pos 0) = record { low = omega (arith, ints); high = omega (arith, ints) } in
    let zeros = replicate 64 (pos 0) in
    let inner = slice_set zeros (place + 1) level in
    let long : length inner ≡ 64 = length-set zeros (place + 1) level in
    let each = All-set IsLevel zeros (place + 1) level hl (All-replicate IsLevel 64 (pos 0) none) in
    record {
      dc = subst IsDc (sym (get_or-set_same inner 0 dc (pos 0) (omega arith))) hd;
      levels = λ k some below.
          let other : k ≢ 0 = omega arith in
          subst IsLevel (sym (get_or-set_other inner 0 k dc (pos 0) other))
          (All-get_or IsLevel inner k (pos 0) (omega arith) each);
    }

pub returns : goal.returns
returns c =
    intra_block c.args.place _ _ (record { low = omega (arith, ints); high = omega (arith, ints) })
    (record { low = omega (arith, ints); high = omega (arith, ints) })
