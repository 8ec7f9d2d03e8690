use Rattle.std.proofs.Common.{◌≡◌, ℕ, Bool, List, refl, get_or}
use Rattle.std.specs.Prelude.{map}
use Rattle.std.proofs.lemmas.Option.{get_or_from_slice_get}
use Rattle.std.proofs.lemmas.Result.{err_from_is_err_and}
use Rattle.h263_bits.specs.Bits.{spelled}
use Rattle.h263_bits.specs.Syntax.{begins, is_prefix_free}
use Rattle.h263_types.specs.declared.Kind.TheVariants as kinds
use Rattle.code_tables.specs.declared.macroblock.Mcbpc.{Mcbpc}
use Rattle.code_tables.specs.declared.macroblock.Mcbpc.TheVariants.{Stuffing}
use Rattle.code_tables.specs.declared.tables.TheConstants.{INTRA_MCBPC, INTRA_MCBPC_SYMBOLS}
use Rattle.code_tables.specs.Words.{listed}
use Rattle.code_tables.specs.Mcbpc.{mcbpc_words, class_texts}
use Rattle.code_tables.proofs.Search.{read_symbol, read_no_symbol}
use Rattle.code_tables.proofs.macroblock.read_intra_mcbpc.Goals as goal

abbrev symbol : ℕ → Mcbpc
symbol i = get_or INTRA_MCBPC_SYMBOLS i Stuffing

-- the words as the code has them are those of the standard
same_words : mcbpc_words kinds.I ≡ map (λ (w : List Bool × ℕ). (w.0, symbol w.1)) (listed 0 INTRA_MCBPC)
unfolding mcbpc_words class_texts listed spelled
same_words = refl

pub read_code-requires-clause-apart : goal.read_code-requires-clause-apart
unfolding begins is_prefix_free listed spelled
read_code-requires-clause-apart c = refl

pub returns-in_err-place : goal.returns-in_err-place
returns-in_err-place c =
    let p = err_from_is_err_and c.from_residual.result c.from_residual.ensures.1 in
    rw (p.1, p.2) (read_no_symbol symbol (mcbpc_words kinds.I) INTRA_MCBPC c.args.reader.now
    _ same_words c.in_err-place.ensures.reads)

pub returns : goal.returns
returns c = read_symbol symbol (mcbpc_words kinds.I) INTRA_MCBPC c.args.reader.now _ _
    _ same_words c.in_ok-place.ensures.reads (get_or_from_slice_get INTRA_MCBPC_SYMBOLS c.in_ok-place.place
    _ Stuffing c.symbol_at.ensures)
