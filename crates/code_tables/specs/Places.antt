-- Where the tables of the code have a word.
use Rattle.std.specs.Prelude.{ℕ, ◌+◌, ℤ, pos, negsuc, ◌==◌, if◌then◌else◌}
use Rattle.code_tables.specs.declared.macroblock.MbClass.{MbClass}
use Rattle.code_tables.specs.declared.macroblock.MbClass.TheVariants.{Inter, InterQ, Inter4, Intra, IntraQ}
use Rattle.code_tables.specs.declared.macroblock.Mcbpc.{Mcbpc}
use Rattle.code_tables.specs.declared.macroblock.Mcbpc.TheVariants.{Stuffing, Word}

-- the first word of a class in P pictures
abbrev pub class_place_of : MbClass → ℕ
class_place_of Inter = 0
class_place_of InterQ = 4
class_place_of Inter4 = 8
class_place_of Intra = 12
class_place_of IntraQ = 16

-- a word of P pictures
abbrev pub inter_place_of : Mcbpc → ℕ
inter_place_of Stuffing = 20
inter_place_of (Word class cbpc) = class_place_of class + cbpc

-- a word of I pictures
abbrev pub intra_place_of : Mcbpc → ℕ
intra_place_of Stuffing = 8
intra_place_of (Word IntraQ cbpc) = 4 + cbpc
intra_place_of (Word class cbpc) = cbpc

-- a step of the quantiser
abbrev pub step_place_of : ℤ → ℕ
step_place_of (negsuc n) = if n == 0 then 0 else 1
step_place_of (pos n) = if n == 1 then 2 else 3
