use Rattle.std.proofs.Common.{◌≡◌, ℕ, List, Some, None, take}
use Rattle.std.specs.Prelude.{MatchResult}
use Rattle.group_command.specs.Lines.{group_line}
use Rattle.group_command.proofs.Lined.{said_there}
use Rattle.group_command.proofs.room.line_in.Goals as goal

pub returns-clause-there : goal.returns-clause-there
returns-clause-there c =
    let line : List ℕ = take c.min.result c.args.bytes.now in
    let says : MatchResult c.group_line.result (λ said. group_line c.args.count line ≡ Some said)
    (λ _. group_line c.args.count line ≡ None) = c.group_line.ensures in
    said_there (λ _. group_line c.args.count line ≡ None) c.args.count line c.group_line.result c.requires says
