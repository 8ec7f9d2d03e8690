-- Each turn before a macroblock's class takes a bit at least.
use Rattle.std.proofs.Common.{◌≡◌, true, [], length, refl}
use Rattle.std.specs.Prelude.{nat_lt, ◌==◌}
use Rattle.std.specs.List.{list_all}
use Rattle.h263_types.specs.declared.Kind.{Kind}
use Rattle.h263_types.specs.declared.Kind.TheVariants as kinds
use Rattle.h263_bits.specs.Syntax.{LoopTurn, again, finally, any, done, Spells, IsProductive}
use Rattle.h263_bits.proofs.SyntaxLaws.{field_some, part_some, code_some, either_productive}
use Rattle.code_tables.specs.declared.macroblock.Mcbpc.{Mcbpc}
use Rattle.code_tables.specs.Mcbpc.{mcbpc, mcbpc_table, mcbpc_words, class_texts}
use Rattle.macroblock_layer.specs.declared.reading.Lead.{Lead}
use Rattle.macroblock_layer.specs.declared.reading.Lead.TheVariants.{Skipped}
use Rattle.macroblock_layer.specs.Text.{no_four, class_turn, lead_turn, lead}

words_some : (kind : Kind) → list_all (λ w. nat_lt 0 (length w.0)) (mcbpc_table kind).list ≡ true
unfolding mcbpc_table mcbpc_words class_texts
words_some kinds.I = refl
words_some kinds.P = refl

mcbpc_some : (kind : Kind) (m : Mcbpc) → Spells (mcbpc kind) m [] → ⊥
unfolding mcbpc
mcbpc_some kind m h = code_some (mcbpc_table kind) done m (words_some kind) h

class_some : (kind : Kind) (t : LoopTurn (Unit {0}) Lead) → Spells (class_turn kind) t [] → ⊥
unfolding class_turn
class_some kind t h = part_some (mcbpc kind) no_four _ t (mcbpc_some kind) h

pub lead_some : (kind : Kind) (t u : Unit {0}) → Spells (lead_turn kind t) (again u) [] → ⊥
unfolding lead_turn
lead_some kinds.I t u h = class_some kinds.I (again u) h
lead_some kinds.P t u h = field_some 0 any _ (again u) h

class_productive : (kind : Kind) → IsProductive (class_turn kind)
unfolding class_turn mcbpc IsProductive
class_productive kind = (λ x. tt, λ m. tt)

abbrev skip_turn : LoopTurn (Unit {0}) Lead
skip_turn = finally Skipped

skip_productive : IsProductive (done (skip_turn))
unfolding IsProductive
skip_productive = tt

pub turn_productive : (kind : Kind) → IsProductive (lead_turn kind tt)
unfolding lead_turn IsProductive
turn_productive kinds.I = class_productive kinds.I
turn_productive kinds.P = λ cod. either_productive (cod == 1) (done (skip_turn)) (class_turn kinds.P) (skip_productive)
    (class_productive kinds.P)

pub lead_productive : (kind : Kind) → IsProductive (lead kind)
unfolding lead IsProductive
lead_productive kind = (lead_some kind, λ t. turn_productive kind)
