use Rattle.std.proofs.Common.{sym, subst, ap, ◌∙◌}
use Rattle.call_model.specs.Receiving.{played_mark, played_message}
use Rattle.call_decoding.specs.Rules.{rules_of}
use Rattle.receiver_end.specs.declared.kept.Kept.{Kept}
use Rattle.receiver_end.specs.Answers.{IsPlayed}
use Rattle.receiver_end.specs.Decoding.{decoding}
use Rattle.receiver_end.specs.State.{Stands, reference_after, run_of}
use Rattle.receiver_end.proofs.Referred.{reference_is}
use Rattle.receiver_end.proofs.Runs.{played_so}
use Rattle.receiver_end.proofs.receiver.Receiver.play.Goals as goal

pub returns-clause-told : goal.returns-clause-told
returns-clause-told c = λ past stands.
    let k = c.self.inside.kept in
    let mine : Stands k past = subst (λ (x : Kept). Stands x past) (sym c.self.view_is) stands in
    subst (λ (x : Kept). IsPlayed x.params.clock c.play.result (played_mark (decoding x.params.format)
    (rules_of x.params) (run_of x.params past)) (played_message (decoding x.params.format) (rules_of x.params)
    (run_of x.params past))) c.self.view_is
    (played_so k past mine (c.receiver_stands.ensures.play (decoding k.params.format) (rules_of k.params)
    (c.is_decoding.ensures k.params) (c.are_rules.ensures k.params c.self.invariant.0.params)) c.play.result
    c.play.ensures.told)

pub returns-clause-stands : goal.returns-clause-stands
returns-clause-stands c = λ past stands. c.play.ensures.stands past (subst (λ (x : Kept). Stands x past)
    (sym c.self.view_is) stands)

pub returns-clause-reference : goal.returns-clause-reference
returns-clause-reference c = λ past stands.
    let k = c.self.inside.kept in
    let mine : Stands k past = subst (λ (x : Kept). Stands x past) (sym c.self.view_is) stands in
    c.play.ensures.reference ∙ reference_is k past (c.is_decoding.ensures k.params) mine
    ∙ ap (λ (x : Kept). reference_after x.params past) c.self.view_is
