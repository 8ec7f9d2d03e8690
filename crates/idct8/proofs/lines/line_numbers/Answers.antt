use Rattle.std.proofs.Common.{◌^◌, ◌∙◌, ap, lit≤, ℤ, ◌+ℤ◌, pos, map, w16, to_z, of_z}
use Rattle.std.specs.Int.{int_shr}
use Rattle.idct8.specs.Passes.{pass_at}
use Rattle.idct8.specs.declared.passes.Direction.TheVariants.{Inverse}
use Rattle.idct8.proofs.Alone.{line_rounded}
use Rattle.idct8.proofs.Steps.{same_pass}
use Rattle.idct8.proofs.Vectors.{passed_lane, passed_lane16, passed_within, passed_within16}
use Rattle.idct8.proofs.lines.line_numbers.Goals as goal

pub row_of_sums-requires : goal.row_of_sums-requires
row_of_sums-requires c = passed_within16 8191 8191 (lit≤ tt) (lit≤ tt) c.requires

pub line_quotients-requires : goal.line_quotients-requires
line_quotients-requires c = passed_within (2 ^ 28) (2 ^ 28) (lit≤ tt) (lit≤ tt) c.row_of_sums.ensures.size

pub returns-clause-numbers : goal.returns-clause-numbers
returns-clause-numbers c k hk =
    passed_lane16 32000 k (lit≤ tt) c.line_quotients.ensures.size
    ∙ c.line_quotients.ensures.value k hk
    ∙ ap (λ (z : ℤ). int_shr (z +ℤ pos 8192) 14) (passed_lane (2 ^ 28) k (lit≤ tt) c.row_of_sums.ensures.size
    ∙ c.row_of_sums.ensures.sums k hk
    ∙ same_pass Inverse (map (to_z w16) (map (of_z w16) c.args.line)) c.args.line k
    (λ i hi. passed_lane16 8191 i (lit≤ tt) c.requires))
    ∙ line_rounded (pass_at Inverse c.args.line k)

pub returns-clause-size : goal.returns-clause-size
returns-clause-size c = passed_within16 32000 32000 (lit≤ tt) (lit≤ tt) c.line_quotients.ensures.size
