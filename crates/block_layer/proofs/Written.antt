-- The events that are written of a block's levels spell them.
use Rattle.std.proofs.Common.{◌≡◌, ℕ, zero, suc, ◌+◌, ◌<◌, Bool, true, false, cond, List, [], ◌∷◌, ◌++◌, length, get_or, None, refl, sym, ap, ◌∙◌, subst, append_assoc, arith, length-append}
use Rattle.std.specs.Prelude.{ℤ, pos, negsuc, slice_set, replicate}
use Rattle.std.proofs.lemmas.Bool.{lt-ltb}
use Rattle.std.proofs.lemmas.Bool.Decides.{Decides-int_eq}
use Rattle.std.proofs.lemmas.List.{append-nil}
use Rattle.h263_types.specs.Marks.{is_zero}
use Rattle.h263_bits.specs.Syntax.{any, again, finally, repeat, Spells}
use Rattle.h263_bits.proofs.SyntaxLaws.{and_both, spells_done, spells_part, spells_last, spells_turn, spells_whole}
use Rattle.code_tables.specs.Tables.{Coefficient, event, event_text, size_of}
use Rattle.code_tables.specs.Laws.{TableLaws}
use Rattle.block_layer.specs.Text.{placed, allowed_place, event_turn, after_event, none_left, coefficients_of, events_text}
use Rattle.block_layer.proofs.Turns.{at_place, next}

pub true_not_false : true ≡ false → ⊥
true_not_false e = cc

-- levels that an event may have
abbrev pub IsWritten : ℤ → Type 0
IsWritten z = size_of z < 128

abbrev zeros : ℕ → List ℤ
zeros n = replicate n (pos 0)

pub some_size : (z : ℤ) → is_zero z ≡ false → 0 < size_of z
some_size (pos zero) e = absurd (true_not_false e)
some_size (pos (suc n)) e = omega arith
some_size (negsuc n) e = omega arith

event_spelt : TableLaws → (last : Bool) (run : ℕ) (z : ℤ) → run < 64 → is_zero z ≡ false → IsWritten z
    → let e : Coefficient = record { last = last; run = run; level = z } in Spells event e (event_text e)
event_spelt tables last run z few some range = tables.spelt.event (record { last = last; run = run; level = z })
    (record { run = few; some = some_size z some; level = range })

-- ---- one event

event_at : TableLaws → (p r k : ℕ) (z : ℤ) (last : Bool) (levels : List ℤ) → p + r ≡ k → k < 64 → is_zero z ≡ false
    → IsWritten z
    → Spells (event_turn (at_place p levels)) (after_event levels (next k z last))
    (event_text (record { last = last; run = r; level = z }))
unfolding event_turn placed
event_at tables p r k z last levels e lt some range =
    let one : Coefficient = record { last = last; run = r; level = z } in
    let inside : allowed_place p one ≡ None = rw (lt-ltb (p + r) 64 (omega arith)) refl in
    let at : Spells (placed p) (next (p + r) z last) (event_text one ++ []) = spells_part event (allowed_place p) _
    _ one (event_text one) [] (event_spelt tables last r z (omega arith) some range) inside (spells_done _) in
    let turn : Spells (event_turn (at_place p levels)) (after_event levels (next (p + r) z last))
    ((event_text one ++ []) ++ []) = spells_part (placed p) any _ _ (next (p + r) z last) (event_text one
    ++ []) [] at refl (spells_done _) in
    let whole : (event_text one ++ []) ++ [] ≡ event_text one = append-nil (event_text one ++ [])
    ∙ append-nil (event_text one) in
    subst (λ (n : ℕ). Spells (event_turn (at_place p levels)) (after_event levels (next n z last)) (event_text one)) e
    (spells_whole _ _ _ _ whole turn)

-- ---- all of them

set_here : (front zs : List ℤ) (z x : ℤ) → slice_set (front ++ (x ∷ zs)) (length front) z ≡ front ++ (z ∷ zs)
set_here [] zs z x = refl
set_here (f ∷ front) zs z x = ap (λ (l : List ℤ). f ∷ l) (set_here front zs z x)

pub zero_is : (z : ℤ) → is_zero z ≡ true → z ≡ pos 0
zero_is z e = (Decides-int_eq z (pos 0)).0 e

-- no level is left but zeros
pub all_zeros : (zs : List ℤ) → none_left zs ≡ true → zs ≡ zeros (length zs)
all_zeros [] none = refl
all_zeros (z ∷ zs) none =
    let both = and_both (is_zero z) (none_left zs) none in
    ap (λ (l : List ℤ). z ∷ l) (all_zeros zs both.1) ∙ ap (λ (x : ℤ). x ∷ zeros (length zs)) (zero_is z both.0)

one_longer : (front : List ℤ) (z : ℤ) (p r : ℕ) → p + r ≡ length front → p + (r + 1) ≡ length (front ++ z ∷ [])
one_longer front z p r e = omega (arith, length-append front (z ∷ []))

length_moves : (front zs : List ℤ) (z : ℤ) → length front + length (z ∷ zs) ≡ 64 → length (front ++ z ∷ []) + length zs
    ≡ 64
length_moves front zs z long = omega (arith, length-append front (z ∷ []))

-- where no level is left there are no events
pub no_events : (run : ℕ) (zs : List ℤ) → none_left zs ≡ true → coefficients_of run zs ≡ []
unfolding coefficients_of
no_events run [] none = refl
no_events run (z ∷ zs) none =
    let both = and_both (is_zero z) (none_left zs) none in
    rw both.0 (no_events (run + 1) zs both.1)

no_text : (zs : List ℤ) → none_left zs ≡ true → events_text (coefficients_of 0 zs) ≡ []
unfolding events_text
no_text zs none = rw (no_events 0 zs none) refl

-- the last event ends the block
ends : (p k : ℕ) (z : ℤ) (levels after : List ℤ) (text : List Bool) → slice_set levels k z ≡ after
    → Spells (event_turn (at_place p levels)) (after_event levels (next k z true)) text
    → Spells (repeat (at_place p levels) event_turn) after text
ends p k z levels after text is h = spells_last (at_place p levels) event_turn after text
    (subst (λ (l : List ℤ). Spells (event_turn (at_place p levels)) (finally l) text) is h)

-- another event goes on
goes : (p k : ℕ) (z : ℤ) (levels after whole : List ℤ) (text rest : List Bool) → slice_set levels k z ≡ after
    → Spells (event_turn (at_place p levels)) (after_event levels (next k z false)) text
    → Spells (repeat (at_place (k + 1) after) event_turn) whole rest
    → Spells (repeat (at_place p levels) event_turn) whole (text ++ rest)
goes p k z levels after whole text rest is h more =
    spells_turn (at_place p levels) (at_place (k + 1) after) event_turn whole text rest
    (subst (λ (l : List ℤ). Spells (event_turn (at_place p levels)) (again (at_place (k + 1) l)) text) is h) more

pub events_spelt : TableLaws → (front rest : List ℤ) (p r : ℕ) → p + r ≡ length front → length front + length rest ≡ 64
    → none_left rest ≡ false → ((k : ℕ) → IsWritten (get_or rest k (pos 0)))
    → Spells (repeat (at_place p (front ++ zeros (length rest))) event_turn) (front
    ++ rest) (events_text (coefficients_of r rest))
unfolding coefficients_of events_text
events_spelt tables front [] p r e long some range = absurd cc
events_spelt tables front (z ∷ zs) p r e long some range =
    step (λ p' r' e' some'. events_spelt tables (front ++ z ∷ []) zs p' r' e' (length_moves front zs z long) some'
    (λ k. range (suc k))) (is_zero z) refl
  where
    Spelt : List Bool → Type 0
    Spelt text = Spells (repeat (at_place p (front ++ zeros (length (z ∷ zs)))) event_turn) (front ++ (z ∷ zs)) text

    step : ((p r : ℕ) → p + r ≡ length (front ++ z ∷ []) → none_left zs ≡ false
        → Spells (repeat (at_place p ((front ++ z ∷ []) ++ zeros (length zs))) event_turn) ((front ++ z ∷ [])
        ++ zs) (events_text (coefficients_of r zs)))
        → (t : Bool) → is_zero z ≡ t
        → Spelt (events_text (cond t (coefficients_of (r + 1) zs) (record {
          last = none_left zs;
          run = r;
          level = z;
        } ∷ coefficients_of 0 zs)))
    step more true t =
        let some' : none_left zs ≡ false = rw t at some in
        let h0 = more p (r + 1) (one_longer front z p r e) some' in
        let h1 = subst (λ (l : List ℤ). Spells (repeat (at_place p l) event_turn) ((front ++ z ∷ [])
        ++ zs) (events_text (coefficients_of (r + 1) zs))) (append_assoc front (z ∷ []) (zeros (length zs))) h0 in
        let h2 = subst (λ (l : List ℤ). Spells (repeat (at_place p (front ++ (z ∷ zeros (length zs)))) event_turn) l
        (events_text (coefficients_of (r + 1) zs))) (append_assoc front (z ∷ []) zs) h1 in
        subst (λ (x : ℤ). Spells (repeat (at_place p (front ++ (x ∷ zeros (length zs)))) event_turn) (front ++ (z ∷ zs))
        (events_text (coefficients_of (r + 1) zs))) (zero_is z t) h2
    step more false t = at (none_left zs) refl (event_at tables p r (length front) z (none_left zs) (front
        ++ (pos 0 ∷ zeros (length zs))) e (omega arith) t (range 0))
      where
        one : Bool → Coefficient
        one last = record { last = last; run = r; level = z }

        levels : List ℤ
        levels = front ++ (pos 0 ∷ zeros (length zs))

        at : (last : Bool) → none_left zs ≡ last
            → Spells (event_turn (at_place p levels)) (after_event levels (next (length front) z last))
            (event_text (one last)) → Spelt (event_text (one last) ++ events_text (coefficients_of 0 zs))
        at true is h =
            let zero : zs ≡ zeros (length zs) = all_zeros zs is in
            let set : slice_set levels (length front) z ≡ front ++ (z ∷ zs) = set_here front (zeros (length zs)) z
            (pos 0) ∙ ap (λ (l : List ℤ). front ++ (z ∷ l)) (sym zero) in
            spells_whole (repeat (at_place p levels) event_turn) (front ++ (z ∷ zs)) (event_text (one true)) _
            (sym (append-nil (event_text (one true)))
            ∙ ap (λ (l : List Bool). event_text (one true) ++ l) (sym (no_text zs is)))
            (ends p (length front) z levels (front ++ (z ∷ zs)) (event_text (one true)) set h)
        at false is h =
            let h0 = more (length front + 1) 0 (omega (arith, length-append front (z ∷ []))) is in
            let h1 = subst (λ (l : List ℤ). Spells (repeat (at_place (length front + 1) l) event_turn)
            ((front ++ z ∷ []) ++ zs) (events_text (coefficients_of 0 zs)))
            (append_assoc front (z ∷ []) (zeros (length zs))) h0 in
            let h2 = subst (λ (l : List ℤ). Spells
            (repeat (at_place (length front + 1) (front ++ (z ∷ zeros (length zs)))) event_turn) l
            (events_text (coefficients_of 0 zs))) (append_assoc front (z ∷ []) zs) h1 in
            goes p (length front) z levels (front ++ (z ∷ zeros (length zs))) (front ++ (z ∷ zs))
            (event_text (one false)) (events_text (coefficients_of 0 zs)) (set_here front (zeros (length zs)) z (pos 0))
            h
            h2
