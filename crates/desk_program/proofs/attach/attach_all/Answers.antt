-- The roles before the place are attached, and no others are.
use Rattle.std.proofs.Common.{Bool, List, [], ◌∙◌, ap, subst, arith}
use Rattle.h263_outside.specs.declared.desk.Role.{Role}
use Rattle.h263_outside.specs.declared.desk.Role.TheVariants.{Video}
use Rattle.std.proofs.lemmas.List.{take_all}
use Rattle.desk_program.specs.Attached.{AreAttached, names}
use Rattle.desk_program.proofs.Attaching.{Pair, none_attached, stays_attached, first_free, rest_free, next_attached, not_attached}
use Rattle.desk_program.proofs.attach.attach_all.Goals as goal

none : Pair
none = (Video, record { ref_ptr = (0, 0); now = [] })

pub loop-role-preserved : goal.loop-role-preserved
unfolding none
loop-role-preserved g c =
    let outside = g.D.Desk.outside in
    let said = c.in_ok-attach_role.ensures in
    let free = first_free (outside c.loop-role.desk).attached c.args.order.now c.loop-role.role-index none
    c.loop-role-test.true c.loop-role.invariant.free in
    record {
      free = rest_free (outside c.loop-role.desk).attached c.args.order.now c.loop-role.role-index none
          c.loop-role-test.true c.loop-role.invariant.free (outside c.attach_role.new.desk).attached said.attached;
      attached = λ first before. next_attached first c.args.order.now c.loop-role.role-index none
          (outside c.loop-role.desk) (outside c.attach_role.new.desk) c.loop-role-test.true
          (c.loop-role.invariant.attached first before) free said.attached said.name said.other_names;
      kept = λ r there. stays_attached r _ _ _ said.attached (c.loop-role.invariant.kept r there);
      faults = said.ok_faults ∙ c.loop-role.invariant.faults;
      rest = record {
        left = said.rest.left ∙ c.loop-role.invariant.rest.left;
        written = said.rest.written ∙ c.loop-role.invariant.rest.written;
        faults = record { attach = omega arith; read = omega arith; write = omega arith };
        flushed = said.rest.flushed ∙ c.loop-role.invariant.rest.flushed;
        loans = said.rest.loans ∙ c.loop-role.invariant.rest.loans;
      };
    }

pub returns-in_err-attach_role-clause-attached : goal.returns-in_err-attach_role-clause-attached
unfolding none
returns-in_err-attach_role-clause-attached g c = λ first before.
    let outside = g.D.Desk.outside in
    let said = c.in_err-attach_role.ensures in
    not_attached c.from_residual.result c.in_err-attach_role.field-0.0 first c.args.order.now c.loop-role.role-index
    none (outside c.loop-role.desk) (outside c.attach_role.new.desk) c.loop-role-test.true
    (c.loop-role.invariant.attached first before) said.err said.err_name c.from_residual.ensures.1 said.kind

pub returns-in_err-attach_role-clause-alone : goal.returns-in_err-attach_role-clause-alone
unfolding none
returns-in_err-attach_role-clause-alone g c = λ nothing.
    let outside = g.D.Desk.outside in
    let said = c.in_err-attach_role.ensures in
    not_attached c.from_residual.result c.in_err-attach_role.field-0.0 [] c.args.order.now c.loop-role.role-index none
    (outside c.loop-role.desk) (outside c.attach_role.new.desk) c.loop-role-test.true
    (c.loop-role.invariant.attached [] (none_attached (outside c.args.desk.now) nothing)) said.err said.err_name
    c.from_residual.ensures.1 said.kind

pub returns-clause-alone : goal.returns-clause-alone
returns-clause-alone g c = λ nothing.
    let outside = g.D.Desk.outside in
    subst (λ (order : List Pair). AreAttached (names order) (outside c.loop-role.desk))
    (take_all c.loop-role.role-index c.args.order.now (omega (arith, c.loop-role-test.false)))
    (c.loop-role.invariant.attached [] (none_attached (outside c.args.desk.now) nothing))

pub returns-in_err-attach_role-clause-kept : goal.returns-in_err-attach_role-clause-kept
returns-in_err-attach_role-clause-kept g c = λ r there. ap (λ (f : Role → Bool). f r) c.in_err-attach_role.ensures.err
    ∙ c.loop-role.invariant.kept r there
