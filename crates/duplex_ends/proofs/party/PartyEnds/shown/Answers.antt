use Rattle.std.proofs.Common.{[], ap, ◌∙◌}
use Rattle.call_model.specs.Coding.{pictures_of}
use Rattle.call_model.specs.IdealCall.{shown_last}
use Rattle.call_decoding.specs.Rules.{rules_of}
use Rattle.coded_call.specs.Coding.{coding}
use Rattle.duplex_call.specs.Duplex.{way}
use Rattle.one_way.specs.Both.{steady}
use Rattle.one_way.specs.Seen.{Seen}
use Rattle.duplex_ends.proofs.Screen.{screen_is}
use Rattle.duplex_ends.proofs.party.PartyEnds.shown.Goals as goal

pub returns-clause-holds : goal.returns-clause-holds
returns-clause-holds c = λ p x far ways h.
    let w = way x ways in
    let P = p x in
    let one = h.own_holds in
    let same = c.ends_agree.ensures P w.frames w.past (h.in_range x) one.done.near in
    (c.way_laws.ensures P).shown c.args.self.now.sender c.args.self.now.far_end [] w.frames w.past
    _ one.done.joined c.shown.ensures.run
    ∙ screen_is (coding P) (rules_of P) (steady P) w.frames w.past
    ∙ ap (λ (seen : Seen). shown_last (pictures_of (coding P)) seen.plays) same
