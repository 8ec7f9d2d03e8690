-- What a macroblock that was read may be.
use Rattle.std.proofs.Common.{◌≡◌, ℕ, Bool, true, false, cond, List, None, Some, Result, Ok, Err, refl, sym, subst, ℤ, ◌≤ℤ◌, ◌↔◌}
use Rattle.std.specs.Prelude.{IfOk, int_le}
use Rattle.std.proofs.lemmas.Float.{T_from_true}
use Rattle.h263_types.specs.declared.Kind.{Kind}
use Rattle.h263_types.specs.declared.Kind.TheVariants as kinds
use Rattle.h263_types.specs.declared.vector.Vector.{Vector}
use Rattle.h263_types.specs.declared.vector.Reach.{Reach}
use Rattle.h263_types.specs.declared.blocks.Mb.{Mb}
use Rattle.h263_types.specs.declared.blocks.Mb.TheVariants as mbs
use Rattle.h263_types.specs.Blocks.{IsMb, IsOfKind}
use Rattle.h263_types.specs.References.{ReachesInside}
use Rattle.h263_types.specs.Vectors.{InReach, IsWithin}
use Rattle.h263_bits.specs.declared.fault.Fault.{Fault}
use Rattle.h263_bits.specs.declared.fault.FaultKind.TheVariants as faults
use Rattle.h263_bits.specs.Reading.{Bits, Takes}
use Rattle.h263_bits.specs.Syntax.{either, Spells}
use Rattle.h263_bits.proofs.SyntaxLaws.{and_both}
use Rattle.picture_header.specs.declared.header.Header.{Header}
use Rattle.macroblock_layer.specs.declared.reading.Lead.{Lead}
use Rattle.macroblock_layer.specs.declared.reading.Lead.TheVariants.{Skipped, Coded}
use Rattle.macroblock_layer.specs.Text.{is_within_across, is_within_along, is_within, moved, allowed_in_reach, is_intra, vector, intra_mb, inter_mb, coded_mb, after_lead, mb, IsMbText}
use Rattle.macroblock_layer.specs.Written.{IsReached}
use Rattle.slice_layer.specs.Filled.{IsMbAt}

le_true : (a b : ℤ) → int_le a b ≡ true → a ≤ℤ b
le_true a b e = record { le = T_from_true (int_le a b) e }

is_reached : (reach : Reach) (predictor d : Vector) → allowed_in_reach reach predictor d ≡ None
    → IsWithin reach (moved predictor d).x (moved predictor d).y
is_reached reach predictor d = at (is_within reach (moved predictor d)) refl
  where
    at : (t : Bool) → is_within reach (moved predictor d) ≡ t → cond t None (Some faults.BadVector) ≡ None
        → IsWithin reach (moved predictor d).x (moved predictor d).y
    at false is e = absurd cc
    at true is e =
        let v = moved predictor d in
        let p = and_both (is_within_across reach v) (is_within_along reach v) is in
        let a = and_both (int_le reach.left v.x) (int_le v.x reach.right) p.0 in
        let b = and_both (int_le reach.up v.y) (int_le v.y reach.down) p.1 in
        ((le_true _ _ a.0, le_true _ _ a.1), (le_true _ _ b.0, le_true _ _ b.1))

vector_reached : (reach : Reach) (predictor v : Vector) (text : List Bool) → Spells (vector reach predictor) v text
    → IsWithin reach v.x v.y
unfolding Spells vector
vector_reached reach predictor v text h = subst (λ (w : Vector). IsWithin reach w.x w.y) (sym h.6.0)
    (is_reached reach predictor h.0 h.5)

class_reached : (test : Bool) (reach : Reach) (predictor : Vector) (quant cbpy cbpc : ℕ) (m : Mb) (text : List Bool)
    → Spells (either test (intra_mb quant cbpy cbpc) (inter_mb reach predictor quant cbpy cbpc)) m text
    → IsReached reach m
unfolding Spells intra_mb inter_mb
class_reached true reach predictor quant cbpy cbpc m text h = subst (λ (x : Mb). IsReached reach x) (sym h.6.0) tt
class_reached false reach predictor quant cbpy cbpc m text h =
    subst (λ (x : Mb). IsReached reach x) (sym h.6.6.0) (vector_reached reach predictor h.0 h.1 h.4)

after_reached : (quant : ℕ) (reach : Reach) (predictor : Vector) (l : Lead) (m : Mb) (text : List Bool)
    → Spells (after_lead quant reach predictor l) m text → IsReached reach m
unfolding Spells after_lead coded_mb
after_reached quant reach predictor Skipped m text h = subst (λ (x : Mb). IsReached reach x) (sym h.0) tt
after_reached quant reach predictor (Coded class cbpc) m text h = class_reached (is_intra class) reach predictor h.6.0
    h.0 cbpc m h.6.2 h.6.6

mb_reached : (kind : Kind) (quant : ℕ) (reach : Reach) (predictor : Vector) (m : Mb) (text : List Bool)
    → Spells (mb kind quant reach predictor) m text → IsReached reach m
unfolding Spells mb
mb_reached kind quant reach predictor m text h = after_reached quant reach predictor h.0 m h.2 h.6

inside : (h : Header) (k : ℕ) (reach : Reach) (m : Mb) → ((x y : ℤ) → InReach h.format k x y ↔ IsWithin reach x y)
    → IsReached reach m → ReachesInside h.format k m
inside h k reach mbs.Skip same is = tt
inside h k reach (mbs.Intra quant blocks) same is = tt
inside h k reach (mbs.Inter quant v blocks) same is = (same v.x v.y).1 is

-- what was read is a macroblock of the picture
pub next_within : {X : Type 0} (r : Result X Fault) (old new : Bits) (h : Header) (k quant : ℕ) (reach : Reach)
    (predictor : Vector) (m : Mb) → ((x y : ℤ) → InReach h.format k x y ↔ IsWithin reach x y)
    → IfOk r (λ _. Takes old new (IsMbText h.kind quant reach predictor m)) → IfOk r (λ _. IsMb m × IsOfKind h.kind m)
    → IfOk r (λ _. IsMbAt h k m)
next_within (Ok x) old new h k quant reach predictor m same p q = record {
  in_range = q.0;
  of_kind = q.1;
  reach = inside h k reach m same (mb_reached h.kind quant reach predictor m p.0 p.3);
}
next_within (Err e) old new h k quant reach predictor m same p q = tt

no_vector : (h : Header) (k : ℕ) (m : Mb) → IsOfKind kinds.I m → ReachesInside h.format k m
no_vector h k mbs.Skip is = tt
no_vector h k (mbs.Intra quant blocks) is = tt
no_vector h k (mbs.Inter quant v blocks) is = absurd is

-- and in an I picture, where it has no vector
pub next_in_i : {X : Type 0} (r : Result X Fault) (h : Header) (k : ℕ) (m : Mb) → h.kind ≡ kinds.I
    → IfOk r (λ _. IsMb m × IsOfKind kinds.I m) → IfOk r (λ _. IsMbAt h k m)
next_in_i (Ok x) h k m is q = record {
  in_range = q.0;
  of_kind = subst (λ (kind : Kind). IsOfKind kind m) (sym is) q.1;
  reach = no_vector h k m q.1;
}
next_in_i (Err e) h k m is q = tt
