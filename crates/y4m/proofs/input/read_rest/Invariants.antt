use Rattle.std.proofs.Common.{◌≡◌, ◌≢◌, ℕ, ◌-◌, ◌++◌, List, length, take, drop, Some}
use Rattle.h263_outside.specs.Desk.{OnlyReads}
use Rattle.h263_outside.specs.declared.desk.Role.{Role}
use Rattle.h263_outside.specs.declared.desk.Role.TheVariants.{Video}
use Rattle.h263_outside.specs.Lines.{NoNewline}
use Rattle.y4m.specs.Line.{line_within}
use Rattle.y4m.proofs.input.read_rest.Given as goal

abbrev pub invariant-loop-i : goal.invariant-loop-i
invariant-loop-i g l =
    let outside = g.D.Desk.outside in
    record {
      told : (left : List ℕ) → (outside l.fn.desk).left Video ≡ Some left
          → (take l.i l.line ++ line_within (length l.line - l.i) (drop l.i left) ≡ line_within (length l.line) left)
          × ((outside l.desk).left Video ≡ Some (drop l.i left));
      free : (left : List ℕ) → (outside l.fn.desk).left Video ≡ Some left → NoNewline (take l.i left);
      others : (r : Role) → r ≢ Video → (outside l.desk).left r ≡ (outside l.fn.desk).left r;
      faults : (outside l.desk).faults ≡ (outside l.fn.desk).faults;
      rest : OnlyReads (outside l.fn.desk) (outside l.desk);
    }
