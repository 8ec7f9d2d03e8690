use Rattle.std.proofs.Common.{sym, ap, ◌∙◌}
use Rattle.std.specs.Prelude.{option_copied}
use Rattle.duplex_ends.proofs.Lasting.{header_kept}
use Rattle.duplex_ends.proofs.headers.CarriedRing.get.Goals as goal

pub returns-in-Some : goal.returns-in-Some
returns-in-Some c headers held low near =
    let there = sym (ap option_copied c.in-Some.is) ∙ c.nth_back.ensures
    ∙ header_kept c.args.self.now headers c.args.number c.saturating_sub-since.result held low near
    c.saturating_sub-since.ensures in
    cc

pub returns-in-None : goal.returns-in-None
returns-in-None c headers held low near =
    let there = sym (ap option_copied c.in-None.is) ∙ c.nth_back.ensures
    ∙ header_kept c.args.self.now headers c.args.number c.saturating_sub-since.result held low near
    c.saturating_sub-since.ensures in
    cc
