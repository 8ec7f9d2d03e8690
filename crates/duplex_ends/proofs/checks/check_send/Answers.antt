use Rattle.std.proofs.Common.{◌≡◌, ◌+◌, length, [], ap, subst, ◌∙◌}
use Rattle.h263_types.specs.declared.params.Params.{Params}
use Rattle.h263_types.specs.Clocks.{half_of}
use Rattle.call_model.specs.IdealCall.{Send}
use Rattle.call_model.specs.Refusals.{first_refusal}
use Rattle.call_decoding.specs.Rules.{rules_of}
use Rattle.duplex_call.specs.Duplex.{way}
use Rattle.duplex_call.specs.Refused.{refusal_of}
use Rattle.one_way.specs.Refused.{IsAllowed}
use Rattle.one_way.specs.Seen.{Seen}
use Rattle.duplex_ends.specs.Pair.{MayHappenToParty}
use Rattle.duplex_ends.specs.Ways.{call_in, sides}
use Rattle.duplex_ends.proofs.Refusals.{may_of}
use Rattle.duplex_ends.proofs.checks.check_send.Goals as goal

pub returns-clause-refusal : goal.returns-clause-refusal
returns-clause-refusal c = λ p x far ways h.
    let w = way x ways in
    let one = h.own_holds in
    let same = c.ends_agree.ensures (p x) w.frames w.past (h.in_range x) one.done.near in
    let half : c.half.result ≡ half_of (p x).clock = c.half.ensures ∙ ap (λ (q : Params). half_of q.clock) one.params in
    subst (λ (seen : Seen). IsAllowed c.check_capture.result Send
    (first_refusal (rules_of (p x)) (length seen.coded + 1) (length seen.coded) seen.played seen.abouts Send)) same
    (c.check_capture.ensures (p x) [] w.frames w.past half one.done.joined)

pub returns-clause-may : goal.returns-clause-may
returns-clause-may c = λ far e.
    let left = length (call_in e.params e.party e.ways).coded + 1 in
    may_of (MayHappenToParty c.args.own.now far Send) c.check_capture.result Send
    (refusal_of (sides e.params) left e.party Send e.ways)
    (returns-clause-refusal c e.params e.party far e.ways e.holds)
    (λ none. record {
      params = e.params;
      party = e.party;
      ways = e.ways;
      left = left;
      holds = e.holds;
      may = (c.refused_exactly.ensures e.params left e.party Send e.ways).0 none;
    })
