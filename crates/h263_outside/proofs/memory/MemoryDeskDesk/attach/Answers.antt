-- Only `give` changes what is attached, and `count` the number of the next call.
use Rattle.std.proofs.Common.{rules, ◌≡◌, Option, Some, IfSome, List, ℕ, refl, sym, ap, ◌∙◌, subst}
use Rattle.h263_outside.specs.Desk.{Outside}
use Rattle.h263_outside.specs.Memory.{Setup, memory_outside, setup_of}
use Rattle.h263_outside.proofs.Given.{at_other, at_role, none_falls}
use Rattle.h263_outside.proofs.memory.MemoryDeskDesk.attach.Goals as goal

pub returns-clause-attached : goal.returns-clause-attached
unfolding memory_outside
returns-clause-attached c = ap (λ (o : Outside). o.attached) c.give.ensures.outside

pub returns-clause-told : goal.returns-clause-told
unfolding memory_outside
returns-clause-told c =
    let same : c.in_ok-name.name.items ≡ c.args.name.now = search rules in
    ap (λ (o : Outside). o.name c.args.role) c.give.ensures.outside
    ∙ at_role (memory_outside c.args.self.now).name c.args.role _ ∙ ap (λ (l : List ℕ). Some l) same

pub returns-clause-name : goal.returns-clause-name
unfolding memory_outside
returns-clause-name c =
    subst (λ (told : Option (List ℕ)). IfSome told (λ told. told ≡ c.args.name.now)) (sym (returns-clause-told c)) refl

pub returns-clause-other_names : goal.returns-clause-other_names
unfolding memory_outside
returns-clause-other_names c = λ r other.
    ap (λ (o : Outside). o.name r) c.give.ensures.outside
    ∙ at_other (memory_outside c.args.self.now).name c.args.role _ r other

pub returns-clause-rest : goal.returns-clause-rest
unfolding memory_outside
returns-clause-rest c =
    let e = c.give.ensures.outside in
    record {
      left = ap (λ (o : Outside). o.left) e;
      written = ap (λ (o : Outside). o.written) e;
      faults = none_falls _ _ (ap (λ (o : Outside). o.faults) e ∙ c.count.ensures.faults);
      flushed = ap (λ (o : Outside). o.flushed) e;
      loans = ap (λ (o : Outside). o.loans) e;
    }

pub returns-clause-setup : goal.returns-clause-setup
unfolding setup_of
returns-clause-setup c =
    c.give.ensures.setup ∙ (λ i. let s : Setup = record (setup_of c.args.self.now) {
      failing = c.count.ensures.failing i;
      next = c.count.ensures.next i;
    } in s)
