use Rattle.std.proofs.Common.{◌≡◌, ℕ, ◌+◌, ◌<◌, ◌++◌, length, get_or, take, drop, sym, ap, ◌∙◌, arith}
use Rattle.std.specs.Option.{option_map}
use Rattle.std.specs.Borrow.{Bor}
use Rattle.std.proofs.lemmas.List.{append-nil, length-set}
use Rattle.h263_outside.specs.declared.desk.Role.TheVariants.{Video}
use Rattle.h263_types.specs.Texts.{Text}
use Rattle.command_words.specs.View.{asked_of}
use Rattle.desk_program.specs.Attached.{names}
use Rattle.h263rps_run.proofs.Named.{all_named, named, order, passed, put}
use Rattle.h263rps_run.proofs.roles.put_roles.Goals as goal
use Rattle.h263rps_run.proofs.roles.put_roles.Goals.{in-Some, in_default}

pub order-init : goal.order-init
order-init c = record {
  few = omega arith;
  long = c.told-places;
  roles = all_named (asked_of c.args.words.now) c.requires;
}

pub order-preserved : goal.order-preserved
order-preserved c =
    let a = asked_of c.args.words.now in
    let at = c.order.role-index in
    let i = c.order.invariant in
    let more : at < 6 = omega (arith, c.order-test.true) in
    elim c.match-name.branch [
      | in-Some w ↦ record {
        few = omega (arith, w.count-is, i.few);
        long = ap length w.places-is ∙ length-set c.order.places c.order.count (get_or order at Video, w.in-Some.word)
            ∙ i.long;
        roles =
            (λ i. names (take (w.count-is i) (w.places-is i)) ++ named a (drop (at + 1) order))
            ∙ put a c.order.places c.order.count at w.in-Some.word _ more (omega (arith, i.few, i.long, more))
            (sym c.name.ensures ∙ ap (option_map (λ (s : Bor Text). s.now)) w.in-Some.is) i.roles;
      }
      | in_default w ↦ record {
        few = omega (arith, w.count-is, i.few);
        long = ap length w.places-is ∙ i.long;
        roles =
            (λ i. names (take (w.count-is i) (w.places-is i)) ++ named a (drop (at + 1) order))
            ∙ passed a (names (take c.order.count c.order.places)) _ at more
            (sym c.name.ensures ∙ ap (option_map (λ (s : Bor Text). s.now)) w.in_default.is) i.roles;
      }
    ]

pub returns-clause-roles : goal.returns-clause-roles
returns-clause-roles c =
    let a = asked_of c.args.words.now in
    let end : c.order.role-index ≡ 6 = omega (arith, c.order-test.false, c.order.auto.role-index-end) in
    sym (append-nil (names (take c.order.count c.order.places)))
    ∙ sym (ap (λ (k : ℕ). names (take c.order.count c.order.places) ++ named a (drop k order)) end)
    ∙ c.order.invariant.roles
