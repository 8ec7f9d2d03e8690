use Rattle.std.proofs.Common.{ℕ, ◌+◌, ◌&&◌, ◌∙◌, ap, arith, leb, length, refl, sym}
use Rattle.call_model.specs.Coding.{window}
use Rattle.call_model.specs.Numbers.{greatest}
use Rattle.call_decoding.specs.Rules.{rules_of}
use Rattle.group_sender.specs.Parties.{all_have}
use Rattle.group_sender.specs.Holding.{pictures_alone}
use Rattle.group_sender.proofs.Grouping.{stand_as}
use Rattle.group_sender.proofs.group.Group.next_reference.Goals as goal

pub returns : goal.returns
returns g c = λ run held.
    let rules = rules_of c.args.self.now.params in
    let is = c.sent.ensures.holds (pictures_alone run) held.sender in
    let before = stand_as rules c.args.self.now.members.items c.as_slice.result.now (length run.coded) c.sent.result
    run.parties (sym c.as_slice.ensures.value) (sym is) held.members in
    c.newest_for_all.ensures.value rules run.parties before refl (omega arith)
    ∙ ap (λ (n : ℕ). greatest (λ m. all_have run.parties m && leb n (m + window rules)) n) is
