-- MCBPC and DQUANT (H.263 5.3.2 and 5.3.6).
use Rattle.std.specs.Prelude.{◌≡◌, ℕ, ◌+◌, ◌<◌, ◌⊎◌, ⊤, List, [], ◌∷◌, ◌++◌, Bool, refl, ℤ, pos, negsuc, slice_index_or, ◌==◌, if◌then◌else◌}
use Rattle.h263_types.specs.declared.Kind.{Kind}
use Rattle.h263_types.specs.declared.Kind.TheVariants as kinds
use Rattle.h263_bits.specs.Syntax.{Syntax, Words, code, done, begins, is_prefix_free}
use Rattle.code_tables.specs.declared.macroblock.MbClass.{MbClass}
use Rattle.code_tables.specs.declared.macroblock.MbClass.TheVariants.{Inter, InterQ, Inter4, Intra, IntraQ}
use Rattle.code_tables.specs.declared.macroblock.Mcbpc.{Mcbpc}
use Rattle.code_tables.specs.declared.macroblock.Mcbpc.TheVariants.{Stuffing, Word}
use Rattle.code_tables.specs.Words.{word}

-- the words of a class, for CBPC 0 to 3: none where the kind of picture has no macroblock of the class
unfoldable pub class_texts : Kind → MbClass → List (List Bool)
class_texts kinds.I Intra = word "1" ∷ word "001" ∷ word "010" ∷ word "011" ∷ []
class_texts kinds.I IntraQ = word "0001" ∷ word "000001" ∷ word "000010" ∷ word "000011" ∷ []
class_texts kinds.I Inter = []
class_texts kinds.I InterQ = []
class_texts kinds.I Inter4 = []
class_texts kinds.P Inter = word "1" ∷ word "0011" ∷ word "0010" ∷ word "000101" ∷ []
class_texts kinds.P InterQ = word "011" ∷ word "0000111" ∷ word "0000110" ∷ word "000000101" ∷ []
class_texts kinds.P Inter4 = word "010" ∷ word "0000101" ∷ word "0000100" ∷ word "00000101" ∷ []
class_texts kinds.P Intra = word "00011" ∷ word "00000100" ∷ word "00000011" ∷ word "0000011" ∷ []
class_texts kinds.P IntraQ = word "000100" ∷ word "000000100" ∷ word "000000011" ∷ word "000000010" ∷ []

-- the words with what they stand for, CBPC from n on
abbrev pub from_cbpc : MbClass → ℕ → List (List Bool) → List (List Bool × Mcbpc)
from_cbpc class n [] = []
from_cbpc class n (w ∷ ws) = (w, Word class n) ∷ from_cbpc class (n + 1) ws

-- the words of a kind of picture
unfoldable pub mcbpc_words : Kind → List (List Bool × Mcbpc)
mcbpc_words kind =
    from_cbpc Inter 0 (class_texts kind Inter) ++ from_cbpc InterQ 0 (class_texts kind InterQ)
    ++ from_cbpc Inter4 0 (class_texts kind Inter4)
    ++ from_cbpc Intra 0 (class_texts kind Intra)
    ++ from_cbpc IntraQ 0 (class_texts kind IntraQ) ++ (word "000000001", Stuffing) ∷ []

unfoldable pub mcbpc_table : Kind → Words Mcbpc
unfolding mcbpc_words class_texts begins is_prefix_free
mcbpc_table kinds.I = record { list = mcbpc_words kinds.I; apart = refl }
mcbpc_table kinds.P = record { list = mcbpc_words kinds.P; apart = refl }

unfoldable pub mcbpc : Kind → Syntax Mcbpc
mcbpc kind = code (mcbpc_table kind) done

-- the word is in the table of the kind of picture
abbrev pub IsInTable : Kind → Mcbpc → Type 0
IsInTable kind Stuffing = ⊤
IsInTable kinds.I (Word class cbpc) = (cbpc < 4) × ((class ≡ Intra) ⊎ (class ≡ IntraQ))
IsInTable kinds.P (Word class cbpc) = cbpc < 4

-- the text that is written
unfoldable pub mcbpc_text : Kind → Mcbpc → List Bool
mcbpc_text kind Stuffing = word "000000001"
mcbpc_text kind (Word class cbpc) = slice_index_or (class_texts kind class) cbpc []

-- the steps of DQUANT
unfoldable pub dquant_words : List (List Bool × ℤ)
dquant_words = (word "00", negsuc 0) ∷ (word "01", negsuc 1) ∷ (word "10", pos 1) ∷ (word "11", pos 2) ∷ []

unfoldable pub dquant_table : Words ℤ
unfolding dquant_words begins is_prefix_free
dquant_table = record { list = dquant_words; apart = refl }

unfoldable pub dquant : Syntax ℤ
dquant = code dquant_table done

-- a step of the quantiser: -2, -1, 1 or 2
abbrev pub IsStep : ℤ → Type 0
IsStep (pos n) = (n ≡ 1) ⊎ (n ≡ 2)
IsStep (negsuc n) = (n ≡ 0) ⊎ (n ≡ 1)

-- the text that is written for a step
unfoldable pub dquant_text : ℤ → List Bool
dquant_text (negsuc n) = if n == 0 then word "00" else word "01"
dquant_text (pos n) = if n == 1 then word "10" else word "11"
