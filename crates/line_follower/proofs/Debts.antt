-- What is owed.
use Rattle.std.proofs.Common.{◌≡◌, ◌-◌, ◌*◌, Bool, true, false, cond, leb, ltb, arith}
use Rattle.std.proofs.lemmas.Bool.{leb-true}
use Rattle.line_follower.specs.Following.{is_frame_held}
use Rattle.line_follower.specs.Laws.{OwesLittle}

has_none : (b c d : Bool) → cond b false (cond c false d) ≡ true → d ≡ true
has_none true c d e = cc
has_none false true d e = cc
has_none false false d e = e

pub owes_little : OwesLittle
owes_little f number bytes packets now e =
    let left = f.line.debt.owed - (now - f.line.debt.at) * f.line.rate in
    let h = leb-true left (f.line.rate * 200000000)
    (has_none (ltb now f.line.paused) (is_frame_held now f) (leb left (f.line.rate * 200000000)) e) in
    omega arith
