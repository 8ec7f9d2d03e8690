use mir.Val.{SFits}
use Rattle.std.proofs.Common.{w8, arith, ◌≡◌, ℕ, Bool, List, refl, get_or}
use Rattle.std.specs.Prelude.{ℤ, pos, map}
use Rattle.std.proofs.lemmas.Option.{get_or_from_slice_get}
use Rattle.std.proofs.lemmas.Result.{err_from_is_err_and}
use Rattle.std.proofs.lemmas.Int.{to_z-of_z, ints}
use Rattle.h263_bits.specs.Bits.{spelled}
use Rattle.h263_bits.specs.Syntax.{begins, is_prefix_free}
use Rattle.code_tables.specs.declared.tables.TheConstants.{STEPS, STEP_SYMBOLS}
use Rattle.code_tables.specs.Words.{listed}
use Rattle.code_tables.specs.Mcbpc.{dquant_words}
use Rattle.code_tables.proofs.Search.{read_symbol, read_no_symbol}
use Rattle.code_tables.proofs.macroblock.read_step.Goals as goal

abbrev symbol : ℕ → ℤ
symbol i = get_or STEP_SYMBOLS i (pos 0)

-- the words as the code has them are those of the standard
same_words : dquant_words ≡ map (λ (w : List Bool × ℕ). (w.0, symbol w.1)) (listed 0 STEPS)
unfolding dquant_words listed spelled
same_words = refl

pub read_code-requires-clause-apart : goal.read_code-requires-clause-apart
unfolding begins is_prefix_free listed spelled
read_code-requires-clause-apart c = refl

pub returns-in_err-place : goal.returns-in_err-place
returns-in_err-place c =
    let p = err_from_is_err_and c.from_residual.result c.from_residual.ensures.1 in
    rw (p.1, p.2) (read_no_symbol symbol (dquant_words) STEPS c.args.reader.now
    _ same_words c.in_err-place.ensures.reads)

pub returns : goal.returns
returns c =
    let fits : SFits w8 c.step_at.result = omega (arith, ints) in
    rw (to_z-of_z w8 c.step_at.result fits) (read_symbol symbol dquant_words STEPS c.args.reader.now _ _
    _ same_words c.in_ok-place.ensures.reads (get_or_from_slice_get STEP_SYMBOLS c.in_ok-place.place _
    (pos 0) c.step_at.ensures))
