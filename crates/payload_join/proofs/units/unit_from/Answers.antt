-- A unit is made where its packets follow each other up to its marker, within the limits.
use Rattle.std.proofs.Common.{sym, ◌∙◌, arith}
use Rattle.payload_join.proofs.Following.{finds_none, finds_marked, finds_begun, finds_end, last_marked, last_open}
use Rattle.payload_join.proofs.units.unit_from.Goals as goal

pub returns-then-not-begins : goal.returns-then-not-begins
returns-then-not-begins c =
    record {
      exact = finds_none c.args.ring.now.packets c.args.first c.args.last c.requires.order (sym c.begins.ensures
          ∙ c.if-not-begins.true);
      upto = tt;
    }

pub returns-then-is_marked : goal.returns-then-is_marked
returns-then-is_marked c =
    record {
      exact = finds_marked c.args.ring.now.packets c.args.first c.args.last c.next.follow (omega arith) c.requires.few
          c.next.invariant (sym c.is_marked.ensures ∙ c.if-is_marked.true);
      upto = omega arith;
    }

pub returns-then-begins-clause-exact : goal.returns-then-begins-clause-exact
returns-then-begins-clause-exact c =
    finds_begun c.args.ring.now.packets c.args.first c.args.last c.next.follow (omega arith) c.requires.few
    c.next.invariant (sym c.is_marked.ensures ∙ c.if-is_marked.false) (sym c.begins-in-next.ensures
    ∙ c.if-begins.true)

pub returns-then-not-follows : goal.returns-then-not-follows
returns-then-not-follows c =
    record {
      exact = finds_end c.args.ring.now.packets c.args.first c.args.last c.next.follow (omega arith) c.next.invariant
          (sym c.is_marked.ensures ∙ c.if-is_marked.false) (sym c.begins-in-next.ensures
          ∙ c.if-begins.false) (sym c.follows.ensures ∙ c.if-not-follows.true);
      upto = tt;
    }

pub returns-then-is_marked-2 : goal.returns-then-is_marked-2
returns-then-is_marked-2 c =
    record {
      exact = last_marked c.args.ring.now.packets c.args.first c.args.last c.next.follow c.requires.order c.requires.few
          (omega arith) c.next.invariant (sym c.is_marked-2.ensures ∙ c.if-is_marked-2.true);
      upto = omega arith;
    }

pub returns : goal.returns
returns c =
    record {
      exact = last_open c.args.ring.now.packets c.args.first c.args.last c.next.follow c.requires.order
          (omega arith) c.next.invariant (sym c.is_marked-2.ensures ∙ c.if-is_marked-2.false);
      upto = tt;
    }
