use Rattle.std.proofs.Common.{◌≡◌, ℕ, ◌&&◌, sym, ap, ◌∙◌, arith, leb}
use Rattle.sender_end.specs.Known.{count_below}
use Rattle.sender_end.proofs.Counted.{at_most, counts_one, none_yet}
use Rattle.sender_end.proofs.next.known_from.Goals as goal

pub numbers-init : goal.numbers-init
numbers-init c = record {
  few = omega arith;
  low = omega arith;
  counted = λ rules depth known stands near. none_yet c.args.first (λ m. leb c.args.floor m && known m);
}

pub numbers-preserved : goal.numbers-preserved
numbers-preserved c =
    let l = c.numbers in
    let n = l.number in
    record {
      few = at_most l.count n c.counted-count.result c.counts.result l.invariant.few c.counted-count.ensures;
      low = omega (arith, l.invariant.low);
      counted = λ rules depth known stands near.
          let here = c.counts.ensures rules c.args.sent depth known c.numbers-test.true
          (omega (arith, near, l.invariant.low)) stands in
          c.counted-count.ensures
          ∙ counts_one c.args.first c.args.floor n l.count known c.counts.result l.invariant.low (sym here)
          (l.invariant.counted rules depth known stands near);
    }

pub returns : goal.returns
returns c rules depth known stands near =
    let all : c.numbers.number ≡ c.args.sent = omega (arith, c.numbers-test.false, c.numbers.auto.number-end) in
    c.numbers.invariant.counted rules depth known stands near
    ∙ ap (λ (n : ℕ). count_below n (λ m. leb c.args.first m && (leb c.args.floor m && known m))) all
