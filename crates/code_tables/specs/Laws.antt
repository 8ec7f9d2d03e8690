-- What a syntax that has words of these tables in it needs to know of them.
use Rattle.std.specs.Prelude.{ℕ, ℤ, pos, negsuc, ◌<◌, ◌≤ℤ◌, Bool}
use Rattle.h263_bits.specs.Syntax.{Spells, IsProductive}
use Rattle.h263_types.specs.declared.Kind.{Kind}
use Rattle.code_tables.specs.declared.macroblock.Mcbpc.{Mcbpc}
use Rattle.code_tables.specs.Mcbpc.{mcbpc, dquant, IsInTable, IsStep, mcbpc_text, dquant_text}
use Rattle.code_tables.specs.Tables.{cbpy, cbpy_text, mvd, mvd_text, event, event_text, Coefficient, IsEvent}

-- no table has a part that is read again and again
pub record AreTablesProductive : Type 0 where
  pub mcbpc : (kind : Kind) → IsProductive (mcbpc kind)
  pub cbpy : (intra : Bool) → IsProductive (cbpy intra)
  pub dquant : IsProductive dquant
  pub mvd : IsProductive mvd
  pub event : IsProductive event

-- what is written is spelled
pub record AreTablesSpelt : Type 0 where
  pub mcbpc : (kind : Kind) (m : Mcbpc) → IsInTable kind m → Spells (mcbpc kind) m (mcbpc_text kind m)
  pub cbpy : (intra : Bool) (pattern : ℕ) → pattern < 16 → Spells (cbpy intra) pattern (cbpy_text intra pattern)
  pub dquant : (step : ℤ) → IsStep step → Spells dquant step (dquant_text step)
  pub mvd : (value : ℤ) → negsuc 31 ≤ℤ value → value ≤ℤ pos 31 → Spells mvd value (mvd_text value)
  pub event : (e : Coefficient) → IsEvent e → Spells event e (event_text e)

pub record TableLaws : Type 0 where
  pub productive : AreTablesProductive
  pub spelt : AreTablesSpelt
