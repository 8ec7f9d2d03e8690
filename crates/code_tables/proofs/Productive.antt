-- No table has a repeated part.
use Rattle.std.proofs.Common.{ℕ, Bool, Option, Some, None, eqb}
use Rattle.std.specs.Prelude.{ℤ, pos}
use Rattle.h263_types.specs.declared.Kind.{Kind}
use Rattle.h263_bits.specs.Syntax.{Syntax, IsProductive, any, field, done}
use Rattle.h263_bits.proofs.SyntaxLaws.{either_productive}
use Rattle.code_tables.specs.Mcbpc.{mcbpc, dquant}
use Rattle.code_tables.specs.Laws.{AreTablesProductive}
use Rattle.code_tables.specs.Tables.{cbpy, mvd, mvd_parts, signed, event, event_parts, TableEvent, after_word}

pub mcbpc_productive : (kind : Kind) → IsProductive (mcbpc kind)
unfolding mcbpc IsProductive
mcbpc_productive kind = λ m. tt

pub cbpy_productive : (intra : Bool) → IsProductive (cbpy intra)
unfolding cbpy IsProductive
cbpy_productive intra = λ n. tt

pub dquant_productive : IsProductive dquant
unfolding dquant IsProductive
dquant_productive = λ z. tt

signs : ℕ → Syntax ℤ
signs size = field 1 any λ sign. done (signed sign size)

signs_productive : (size : ℕ) → IsProductive (signs size)
unfolding signs IsProductive
signs_productive size = λ sign. tt

nothing : Syntax ℤ
nothing = done (pos 0)

nothing_productive : IsProductive nothing
unfolding nothing IsProductive
nothing_productive = tt

pub mvd_productive : IsProductive mvd
unfolding mvd mvd_parts signs nothing IsProductive
mvd_productive = (
  λ size. either_productive (eqb size 0) nothing (signs size) nothing_productive
      (signs_productive size),
  λ z. tt,
)

after_productive : (o : Option TableEvent) → IsProductive (after_word o)
unfolding IsProductive
after_productive (Some e) = λ sign. tt
after_productive None = λ last. λ run. λ level. tt

pub event_productive : IsProductive event
unfolding event event_parts IsProductive
event_productive = (λ o. after_productive o, λ e. tt)

pub are_productive : AreTablesProductive
are_productive = record {
  mcbpc = mcbpc_productive;
  cbpy = cbpy_productive;
  dquant = dquant_productive;
  mvd = mvd_productive;
  event = event_productive;
}
