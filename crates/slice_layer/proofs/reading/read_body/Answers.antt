-- The macroblocks before the place stand where the slice has them, up to its padding or first fault.
use Rattle.std.proofs.Common.{◌≡◌, ◌<◌, set, get_or, ap, sym, ◌∙◌, arith}
use Rattle.std.proofs.lemmas.List.{get_or-set_same}
use Rattle.h263_types.specs.declared.blocks.Mb.TheVariants.{Skip}
use Rattle.std.proofs.lemmas.Result.{err_from_is_err_and}
use Rattle.h263_types.specs.Sizes.{mbs_of}
use Rattle.slice_layer.specs.Text.{first_with}
use Rattle.slice_layer.proofs.Steps.{none_yet, with_next, with_none, past_last, none_there, found, slice_in, others}
use Rattle.slice_layer.proofs.reading.read_body.Goals as goal

pub mbs-init : goal.mbs-init
mbs-init c = none_yet c.args.header.now c.args.first c.args.quant c.args.out.now c.args.reader.now c.requires.first
    c.requires.picture c.requires.quant

pub returns-then-at-mbs-clause-exact : goal.returns-then-at-mbs-clause-exact
returns-then-at-mbs-clause-exact c =
    rw (c.at-then-at-mbs.ensures, c.at.ensures)
    (ap (first_with c.args.first) (past_last _ _ _ _ _ _ _ _ _ c.mbs.invariant
    (c.if-at-mbs.true ∙ c.mbs-in-mbs.ensures) (sym c.mbs-test.ensures)))

pub returns-in_err-read_next-clause-exact : goal.returns-in_err-read_next-clause-exact
returns-in_err-read_next-clause-exact c =
    let p = err_from_is_err_and c.from_residual.result c.from_residual.ensures.1 in
    let inside : c.mbs.at < mbs_of c.args.header.now.format = omega (
      arith,
      c.mbs.invariant.within,
      c.if-at-mbs.false,
      c.mbs-in-mbs.ensures,
    ) in
    rw (p.1, p.2) (ap (first_with c.args.first) (with_none _ _ _ _ _ _ _ _ _ _ c.mbs.invariant inside
    (sym c.mbs-test.ensures) c.in_err-read_next.ensures.reads))

pub mbs-preserved : goal.mbs-preserved
mbs-preserved c =
    let inside : c.mbs.at < mbs_of c.args.header.now.format = omega (
      arith,
      c.mbs.invariant.within,
      c.if-at-mbs.false,
      c.mbs-in-mbs.ensures,
    ) in
    let next = with_next _ _ _ _ _ _ _ _ _ _ _ c.mbs.invariant inside (sym c.mbs-test.ensures)
    c.in_ok-read_next.ensures.reads c.in_ok-read_next.ensures.range in
    let same : get_or (set c.mbs.out c.mbs.at c.read_next.new.out) c.mbs.at Skip ≡ c.read_next.new.out =
    get_or-set_same c.mbs.out c.mbs.at c.read_next.new.out Skip (omega (
      arith,
      inside,
      c.mbs.auto.out,
      c.requires.picture,
    )) in
    rw (c.quant_after-quant.ensures.value, c.vector_of.ensures, same) next

pub returns-then-at-first-clause-exact : goal.returns-then-at-first-clause-exact
returns-then-at-first-clause-exact c =
    rw (c.at-then-at-first-2.ensures, c.at-then-at-first.ensures)
    (ap (first_with c.args.first) (none_there _ _ _ _ _ _ _ _ _ c.mbs.invariant c.if-at-first.true
    (sym c.mbs-test.ensures)))

pub returns-clause-exact : goal.returns-clause-exact
returns-clause-exact c = ap (first_with c.args.first) (found _ _ _ _ _ _ _ _ _ c.mbs.invariant c.if-at-first.false
    (sym c.mbs-test.ensures))

pub returns-clause-range : goal.returns-clause-range
returns-clause-range c = slice_in _ _ _ _ _ _ _ _ _ c.mbs.invariant c.if-at-first.false

pub returns-clause-others : goal.returns-clause-others
returns-clause-others c = others _ _ _ _ _ _ _ _ _ c.mbs.invariant
