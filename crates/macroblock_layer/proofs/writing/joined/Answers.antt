use Rattle.std.proofs.Common.{◌+◌, ◌^◌, ◌<◌, ℕ, ap, ◌∙◌, subst, sym}
use Rattle.h263_bits.specs.Bits.{spelled}
use Rattle.h263_bits.proofs.SyntaxLaws.{spelled-append}
use Rattle.macroblock_layer.proofs.Joined.{both_fit, below_32, kept}
use Rattle.macroblock_layer.proofs.writing.joined.Goals as goal

pub returns-clause-text : goal.returns-clause-text
returns-clause-text c =
    let a = c.args in
    ap (λ (k : ℕ). spelled (a.n + a.m) (k + a.second)) (kept a.first a.n a.m c.requires.first c.requires.few)
    ∙ spelled-append a.n a.m a.first a.second c.requires.second

pub returns-clause-fits : goal.returns-clause-fits
returns-clause-fits c =
    let a = c.args in
    subst (λ (k : ℕ). k + a.second < 2 ^ (a.n + a.m)) (sym (kept a.first a.n a.m c.requires.first c.requires.few))
    (both_fit a.first a.second a.n a.m c.requires.first c.requires.second)

pub overflow_add-result : goal.overflow_add-result
overflow_add-result c =
    let a = c.args in
    record {
      fits = below_32 _ (a.n + a.m) (subst (λ (k : ℕ). k + a.second < 2 ^ (a.n + a.m))
          (sym (kept a.first a.n a.m c.requires.first c.requires.few))
          (both_fit a.first a.second a.n a.m c.requires.first c.requires.second)) c.requires.few;
    }
