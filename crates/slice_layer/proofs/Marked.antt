-- Each text of a macroblock has a 1 in it, so that none begins like padding.
use Rattle.std.proofs.Common.{◌≡◌, ℕ, zero, suc, Bool, true, false, not, List, [], ◌∷◌, ◌++◌, length, nat_lt, refl, sym, subst, inl, inr}
use Rattle.std.specs.Prelude.{◌&&◌, ◌==◌}
use Rattle.std.specs.List.{list_all}
use Rattle.h263_types.specs.declared.Kind.{Kind}
use Rattle.h263_types.specs.declared.Kind.TheVariants as kinds
use Rattle.h263_types.specs.declared.vector.Vector.{Vector}
use Rattle.h263_types.specs.declared.vector.Reach.{Reach}
use Rattle.h263_types.specs.declared.blocks.Mb.{Mb}
use Rattle.h263_bits.specs.Bits.{spelled}
use Rattle.h263_bits.specs.Syntax.{LoopTurn, again, finally, Turns, IsIn, either, done, Spells}
use Rattle.code_tables.specs.declared.macroblock.Mcbpc.{Mcbpc}
use Rattle.code_tables.specs.Mcbpc.{mcbpc, mcbpc_table, mcbpc_words, class_texts}
use Rattle.h263_bits.proofs.SyntaxLaws.{and_both, not_false}
use Rattle.std.proofs.lemmas.Bool.{eqb-true}
use Rattle.macroblock_layer.specs.declared.reading.Lead.{Lead}
use Rattle.macroblock_layer.specs.declared.reading.Lead.TheVariants.{Skipped}
use Rattle.macroblock_layer.specs.Text.{class_turn, lead_turn, lead, mb}
use Rattle.slice_layer.specs.Text.{is_padding}

-- a 1 is among the bits
abbrev HasOne : List Bool → Type 0
HasOne bits = list_all not bits ≡ false

one_in_front : (front rest : List Bool) → HasOne front → HasOne (front ++ rest)
one_in_front [] rest h = absurd cc
one_in_front (true ∷ front) rest h = refl
one_in_front (false ∷ front) rest h = one_in_front front rest h

whole_one : (front rest text : List Bool) → text ≡ front ++ rest → HasOne front → HasOne text
whole_one front rest text e h = subst (λ (t : List Bool). HasOne t) (sym e) (one_in_front front rest h)

pub no_padding : (front rest : List Bool) → HasOne front → is_padding (front ++ rest) ≡ false
no_padding front rest h = at (nat_lt (length (front ++ rest)) 8)
  where
    at : (t : Bool) → (t && list_all not (front ++ rest)) ≡ false
    at true = one_in_front front rest h
    at false = refl

words_marked : (kind : Kind) → list_all (λ w. not (list_all not w.0)) (mcbpc_table kind).list ≡ true
unfolding mcbpc_table mcbpc_words class_texts
words_marked kinds.I = refl
words_marked kinds.P = refl

marked_word : {S : Type 0} (words : List (List Bool × S)) (w : List Bool × S)
    → list_all (λ v. not (list_all not v.0)) words ≡ true → IsIn w words → HasOne w.0
marked_word [] w e h = absurd h
marked_word {S} (v ∷ words) w e (inl same) =
    let p = and_both (not (list_all not v.0)) (list_all (λ v. not (list_all not v.0)) words) e in
    subst (λ (x : List Bool × S). HasOne x.0) same (not_false (list_all not v.0) p.0)
marked_word (v ∷ words) w e (inr later) =
    let p = and_both (not (list_all not v.0)) (list_all (λ v. not (list_all not v.0)) words) e in
    marked_word words w p.1 later

word_marked : (kind : Kind) (m : Mcbpc) (text : List Bool) → Spells (mcbpc kind) m text → HasOne text
unfolding Spells mcbpc
word_marked kind m text h = whole_one h.0 h.2 text h.4 (marked_word (mcbpc_table kind).list (
  h.0,
  h.1,
) (words_marked kind) h.3)

class_marked : (kind : Kind) (t : LoopTurn (Unit {0}) Lead) (text : List Bool) → Spells (class_turn kind) t text
    → HasOne text
unfolding Spells class_turn
class_marked kind t text h = whole_one h.1 h.2 text h.3 (word_marked kind h.0 h.1 h.4)

one_after : (front rest : List Bool) → HasOne rest → HasOne (front ++ rest)
one_after [] rest h = h
one_after (true ∷ front) rest h = refl
one_after (false ∷ front) rest h = one_after front rest h

abbrev skipped : LoopTurn (Unit {0}) Lead
skipped = finally Skipped

set : HasOne (spelled 1 1)
unfolding spelled
set = refl

-- COD is 1, or it stands before MCBPC
cod_marked : (cod : ℕ) (t : LoopTurn (Unit {0}) Lead) (rest text : List Bool) → text ≡ spelled 1 cod ++ rest
    → Spells (either (cod == 1) (done (skipped)) (class_turn kinds.P)) t rest → HasOne text
cod_marked cod t rest text e = at (cod == 1) refl
  where
    at : (test : Bool) → (cod == 1) ≡ test → Spells (either test (done (skipped)) (class_turn kinds.P)) t rest
        → HasOne text
    at true is h = whole_one (spelled 1 cod) rest text e (subst (λ (v : ℕ). HasOne (spelled 1 v))
        (sym (eqb-true cod 1 is)) set)
    at false is h = subst (λ (b : List Bool). HasOne b) (sym e)
        (one_after (spelled 1 cod) rest (class_marked kinds.P t rest h))

turn_marked : (kind : Kind) (u : Unit {0}) (t : LoopTurn (Unit {0}) Lead) (text : List Bool)
    → Spells (lead_turn kind u) t text → HasOne text
unfolding Spells lead_turn
turn_marked kinds.I u t text h = class_marked kinds.I t text h
turn_marked kinds.P u t text h = cod_marked h.0 t h.1 text h.4 h.5

turns_marked : (kind : Kind) (n : ℕ) (u : Unit {0}) (l : Lead) (text : List Bool)
    → Turns (λ t x front. Spells (lead_turn kind t) x front) n u l text → HasOne text
turns_marked kind zero u l text h = turn_marked kind u (finally l) text h
turns_marked kind (suc n) u l text h = whole_one h.1 h.2 text h.3 (turn_marked kind u (again h.0) h.1 h.4)

lead_marked : (kind : Kind) (l : Lead) (text : List Bool) → Spells (lead kind) l text → HasOne text
unfolding Spells lead
lead_marked kind l text h = turns_marked kind h.0 tt l text h.1

pub mb_marked : (kind : Kind) (quant : ℕ) (reach : Reach) (predictor : Vector) (m : Mb) (front rest : List Bool)
    → Spells (mb kind quant reach predictor) m front → is_padding (front ++ rest) ≡ false
unfolding Spells mb
mb_marked kind quant reach predictor m front rest h =
    no_padding front rest (whole_one h.1 h.2 front h.3 (lead_marked kind h.0 h.1 h.4))
