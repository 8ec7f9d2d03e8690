use Rattle.std.proofs.Common.{◌∷◌, ap, sym, subst}
use Rattle.stream_audit.specs.declared.kept.Kept.{Kept}
use Rattle.stream_audit.specs.State.{StandsForLog}
use Rattle.stream_audit.specs.Stream.{Fed}
use Rattle.stream_audit.proofs.Standing.{fed, stays_broken}
use Rattle.stream_audit.proofs.audit.Audit.feedback.Goals as goal

pub returns-in-Some-clause-stands : goal.returns-in-Some-clause-stands
returns-in-Some-clause-stands c = λ past stands.
    let k = c.self.inside.kept in
    let mine : StandsForLog k past = subst (λ (x : Kept). StandsForLog x past) (sym c.self.view_is) stands in
    subst (λ (x : Kept). StandsForLog x (Fed c.args.bytes.now ∷ past)) c.self.view_is
    (stays_broken k past (Fed c.args.bytes.now) _ c.in-Some.is mine)

pub returns-in-None-clause-stands : goal.returns-in-None-clause-stands
returns-in-None-clause-stands c = λ past stands.
    let k = c.self.inside.kept in
    let mine : StandsForLog k past = subst (λ (x : Kept). StandsForLog x past) (sym c.self.view_is) stands in
    let same = c.note.ensures.same in
    fed k past mine c.in-None.is c.note.new.self c.args.bytes.now (ap (λ (x : Kept). x.params) same)
    (ap (λ (x : Kept). x.broken) same) (λ keeps. c.note.ensures.keeps _ keeps)
