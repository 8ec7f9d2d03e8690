use Rattle.std.proofs.Common.{◌≡◌, arith, length, ◌∙◌, not, eqb, w16, of_z, rules}
use Rattle.std.specs.Prelude.{map}
use Rattle.std.proofs.lemmas.Simd.{bitmask_splat}
use lib.ListN.{length-map}
use Rattle.std.specs.Simd.Lanes.{mask_l}
use Rattle.h263_types.specs.Marks.{marks_of}
use Rattle.h263_types.proofs.Marked.{marks_are}
use Rattle.h263_types.proofs.blocks.marks.Goals as goal

pub returns-clause-marks : goal.returns-clause-marks
returns-clause-marks c =
    let levels = c.args.levels in
    let long : length (map (of_z w16) levels) ≡ 64 = length-map levels (of_z w16) ∙ search rules in
    let same : mask_l (map (λ x. not (eqb x 0)) (map (of_z w16) levels))
    ≡ marks_of levels = search (rules, marks_are) in
    bitmask_splat w16 (λ a b. not (eqb a b)) (map (of_z w16) levels) 64 0 long (omega arith) ∙ same
