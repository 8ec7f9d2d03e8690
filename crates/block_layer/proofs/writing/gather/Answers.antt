-- The bits that wait and the new ones are one text, of which the first 32 are written once they are there.
use Rattle.std.proofs.Common.{◌≡◌, ◌∙◌, ◌+◌, ◌-◌, ◌*◌, ◌/◌, ◌%◌, ◌^◌, ◌<◌, ◌≤◌, ◌++◌, ℕ, ap, arith, subst, sym}
use Rattle.h263_bits.specs.Bits.{spelled}
use Rattle.h263_bits.specs.Written.{written}
use Rattle.block_layer.proofs.Gathered.{both_fit, first_below, kept_shift, more_wait, one_shifted, some_written}
use Rattle.block_layer.proofs.writing.gather.Goals as goal

-- the number of all bits, as the shift makes it
all_are : (bits count number len from : ℕ) → bits < 2 ^ count → count < 32 → len ≤ 22 → from ≡ number
    → bits * 2 ^ len % 18446744073709551616 + from ≡ bits * 2 ^ len + number
all_are bits count number len from fits few short is =
    ap (λ (k : ℕ). k + from) (kept_shift bits count len fits few short) ∙ ap (λ (k : ℕ). bits * 2 ^ len + k) is

pub returns-then-count-lt32-clause-waiting : goal.returns-then-count-lt32-clause-waiting
returns-then-count-lt32-clause-waiting c =
    let w = c.args.waiting in
    let is = all_are w.bits w.count c.args.number c.args.len c.from.result c.requires.waiting.fits
    c.requires.waiting.few c.requires.few c.from.ensures in
    record {
      few = c.if-count-lt32.true;
      fits = subst (λ (n : ℕ). n < 2 ^ (w.count + c.args.len)) (sym is)
          (both_fit w.bits c.args.number w.count c.args.len c.requires.waiting.fits c.requires.fits);
    }

pub returns-then-count-lt32-clause-text : goal.returns-then-count-lt32-clause-text
returns-then-count-lt32-clause-text c =
    let w = c.args.waiting in
    let is = all_are w.bits w.count c.args.number c.args.len c.from.result c.requires.waiting.fits
    c.requires.waiting.few c.requires.few c.from.ensures in
    ap (λ (n : ℕ). written c.args.writer.now ++ spelled (w.count + c.args.len) n) is
    ∙ more_wait (written c.args.writer.now) w.bits c.args.number w.count c.args.len c.requires.fits

pub overflow_cast-bits-2 : goal.overflow_cast-bits-2
overflow_cast-bits-2 c = record {
  fits =
      let w = c.args.waiting in
      let rest : ℕ = w.count + c.args.len - 32 in
      let many : w.count + c.args.len ≡ 32 + rest = omega (arith, c.if-count-lt32.false) in
      let is = all_are w.bits w.count c.args.number c.args.len c.from.result c.requires.waiting.fits
      c.requires.waiting.few c.requires.few c.from.ensures in
      subst (λ (n : ℕ). n / 2 ^ rest < 2 ^ 32) (sym is)
      (first_below (w.bits * 2 ^ c.args.len + c.args.number) (w.count + c.args.len) rest many
      (both_fit w.bits c.args.number w.count c.args.len c.requires.waiting.fits c.requires.fits));
}

pub put-requires-clause-fits : goal.put-requires-clause-fits
put-requires-clause-fits c =
    let w = c.args.waiting in
    let rest : ℕ = w.count + c.args.len - 32 in
    let many : w.count + c.args.len ≡ 32 + rest = omega (arith, c.if-count-lt32.false) in
    let is = all_are w.bits w.count c.args.number c.args.len c.from.result c.requires.waiting.fits
    c.requires.waiting.few c.requires.few c.from.ensures in
    subst (λ (n : ℕ). n / 2 ^ rest < 2 ^ 32) (sym is)
    (first_below (w.bits * 2 ^ c.args.len + c.args.number) (w.count + c.args.len) rest many
    (both_fit w.bits c.args.number w.count c.args.len c.requires.waiting.fits c.requires.fits))

pub returns-clause-text : goal.returns-clause-text
returns-clause-text c =
    let w = c.args.waiting in
    let all : ℕ = w.bits * 2 ^ c.args.len % 18446744073709551616 + c.from.result in
    let count : ℕ = w.count + c.args.len in
    let rest : ℕ = count - 32 in
    let many : count ≡ 32 + rest = omega (arith, c.if-count-lt32.false) in
    let short : rest ≤ 22 = omega (arith, c.requires.waiting.few, c.requires.few) in
    let is = all_are w.bits w.count c.args.number c.args.len c.from.result c.requires.waiting.fits
    c.requires.waiting.few c.requires.few c.from.ensures in
    ap (λ (m : ℕ). written c.put.new.self ++ spelled rest (all % m)) (one_shifted rest short)
    ∙ some_written (written c.args.writer.now) (written c.put.new.self) all count rest many c.put.ensures.bits.text
    ∙ ap (λ (n : ℕ). written c.args.writer.now ++ spelled count n) is
    ∙ more_wait (written c.args.writer.now) w.bits c.args.number w.count c.args.len c.requires.fits
