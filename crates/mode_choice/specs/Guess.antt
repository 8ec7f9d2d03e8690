-- Where the search for a macroblock's vector begins.
use Rattle.std.specs.Prelude.{pos}
use Rattle.h263_types.specs.declared.blocks.Mb.{Mb}
use Rattle.h263_types.specs.declared.blocks.Mb.TheVariants.{Skip, Intra, Inter}
use Rattle.h263_types.specs.declared.vector.Vector.{Vector}

-- the vector of a macroblock; where it has none, the zero vector
abbrev pub vector_in : Mb → Vector
vector_in Skip = record { x = pos 0; y = pos 0 }
vector_in (Intra quant blocks) = record { x = pos 0; y = pos 0 }
vector_in (Inter quant vector blocks) = vector
