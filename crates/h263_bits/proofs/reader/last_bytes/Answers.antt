use Rattle.std.proofs.Common.{◌≡◌, ℕ, ◌+◌, ◌*◌, ◌^◌, ◌<◌, List, length, take, get_or, refl, ap, sym, subst, ◌∙◌, arith}
use Rattle.std.proofs.lemmas.List.{length-take, take_all, take_more}
use Rattle.h263_bits.specs.Bits.{bits_of, number}
use Rattle.h263_bits.proofs.BitLists.{few_bytes, number-push}
use Rattle.h263_bits.proofs.reader.last_bytes.Goals as goal

-- fewer than seven bytes so far, so that one more fits
sum_fits : (bytes : List ℕ) (i sum : ℕ) → length bytes < 8 → i < length bytes → sum ≡ number (bits_of (take i bytes))
    → sum < 2 ^ 48
sum_fits bytes i sum h l e = subst (λ (s : ℕ). s < 2 ^ 48) (sym e)
    (few_bytes (take i bytes) (omega (arith, length-take i bytes)))

pub loop-byte-init : goal.loop-byte-init
unfolding number bits_of
loop-byte-init c = refl

pub overflow_mul-sum : goal.overflow_mul-sum
overflow_mul-sum c =
    let small = sum_fits c.args.bytes.now c.loop-byte.byte-index c.loop-byte.sum c.requires c.loop-byte-test.true
    c.loop-byte.invariant in
    omega (arith, small)

pub overflow_add-sum : goal.overflow_add-sum
overflow_add-sum c =
    let small = sum_fits c.args.bytes.now c.loop-byte.byte-index c.loop-byte.sum c.requires c.loop-byte-test.true
    c.loop-byte.invariant in
    omega (arith, small, c.type_inv.bytes c.loop-byte.byte-index)

pub loop-byte-preserved : goal.loop-byte-preserved
loop-byte-preserved c =
    let bytes = c.args.bytes.now in
    let i = c.loop-byte.byte-index in
    let byte : get_or c.args.bytes.now c.loop-byte.byte-index 0 < 256 = omega (
      arith,
      c.type_inv.bytes c.loop-byte.byte-index,
    ) in
    ap (λ (s : ℕ). s * 256 + get_or bytes i 0) c.loop-byte.invariant
    ∙ sym (number-push (take i bytes) (get_or bytes i 0) byte)
    ∙ ap (λ (t : List ℕ). number (bits_of t)) (sym (take_more bytes i 0 c.loop-byte-test.true))

pub returns : goal.returns
returns c = c.loop-byte.invariant
    ∙ ap (λ (t : List ℕ). number (bits_of t)) (take_all c.loop-byte.byte-index c.args.bytes.now c.loop-byte-test.false)
