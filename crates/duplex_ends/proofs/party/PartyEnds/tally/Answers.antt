use Rattle.std.proofs.Common.{sym, subst}
use Rattle.duplex_call.specs.Duplex.{way}
use Rattle.one_way.specs.declared.tally.Tally.{Tally}
use Rattle.one_way.specs.Counts.{AreCounted}
use Rattle.one_way.specs.Seen.{Seen}
use Rattle.one_way.specs.Way.{tally_of}
use Rattle.duplex_ends.specs.Ways.{call_in}
use Rattle.duplex_ends.proofs.party.PartyEnds.tally.Goals as goal

pub returns : goal.returns
returns c = λ p x far ways h.
    let w = way x ways in
    let one = h.own_holds in
    let same = c.ends_agree.ensures (p x) w.frames w.past (h.in_range x) one.done.near in
    subst (λ (t : Tally). AreCounted t (call_in p x ways).plays) (sym c.tally.ensures)
    (subst (λ (seen : Seen). AreCounted (tally_of c.args.self.now.way) seen.plays) same one.done.tally)
