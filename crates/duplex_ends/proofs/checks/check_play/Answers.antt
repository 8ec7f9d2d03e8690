use Rattle.std.proofs.Common.{◌+◌, length, [], subst}
use Rattle.call_model.specs.IdealCall.{Play}
use Rattle.call_model.specs.Refusals as call
use Rattle.call_model.specs.Refusals.{first_refusal}
use Rattle.std.specs.Prelude.{Option}
use Rattle.call_decoding.specs.Rules.{rules_of}
use Rattle.duplex_call.specs.Duplex.{way}
use Rattle.duplex_call.specs.Refused.{refusal_of}
use Rattle.one_way.specs.Refused.{IsAllowed}
use Rattle.one_way.specs.Seen.{Seen, in_call}
use Rattle.duplex_ends.specs.Pair.{MayHappenToParty}
use Rattle.duplex_ends.specs.Ways.{call_in, sides}
use Rattle.duplex_ends.proofs.Refusals.{any_play, may_of}
use Rattle.duplex_ends.proofs.checks.check_play.Goals as goal

pub returns-clause-refusal : goal.returns-clause-refusal
returns-clause-refusal c = λ p x far ways left h.
    let w = way x ways in
    let one = h.own_holds in
    let seen = in_call (call_in p x ways) in
    let same = c.ends_agree.ensures (p x) w.frames w.past (h.in_range x) one.done.near in
    subst (λ (o : Option call.Refusal). IsAllowed c.check_play.result Play o)
    (any_play (rules_of (p x)) (length seen.coded) seen.played seen.abouts (length seen.coded + 1) left)
    (subst (λ (seen : Seen). IsAllowed c.check_play.result Play (first_refusal (rules_of (p x)) (length seen.coded + 1)
    (length seen.coded) seen.played seen.abouts Play)) same
    (c.check_play.ensures.refusal (p x) [] w.frames w.past one.done.joined))

pub returns-clause-may : goal.returns-clause-may
returns-clause-may c = λ far e.
    may_of (MayHappenToParty c.args.own.now far Play) c.check_play.result Play
    (refusal_of (sides e.params) 0 e.party Play e.ways)
    (returns-clause-refusal c e.params e.party far e.ways 0 e.holds)
    (λ none. record {
      params = e.params;
      party = e.party;
      ways = e.ways;
      left = 0;
      holds = e.holds;
      may = (c.refused_exactly.ensures e.params 0 e.party Play e.ways).0 none;
    })
