-- The reference of the next picture: the header that is kept of it is that of what was taken.
use Rattle.std.proofs.Common.{◌≡◌, ℕ, ◌+◌, Bool, true, false, ◌&&◌, ◌||◌, refl, sym, ap, ◌∙◌, subst, arith, List, [], ◌∷◌, Option, Some, None, eqb}
use Rattle.std.specs.Prelude.{if◌then◌else◌, not, option_and_then}
use Rattle.std.specs.Option.{option_map}
use Rattle.std.specs.List.{list_all}
use Rattle.std.proofs.lemmas.Bool.{and_from, and_left, and_parts, eq-eqb, eqb-true, false≢true, ne_eqb}
use Rattle.packet_collector.specs.Collected.{header_in}
use Rattle.call_model.specs.Coding.{Decoding, Header, Rules, same_header, same_reference}
use Rattle.call_model.specs.Lawful.{IsDecoding}
use Rattle.call_model.specs.Receiving.{ReceiverEntry, TakenSlice, header_fits, header_reference}
use Rattle.call_model.specs.Sending.{nearest_below}
use Rattle.call_model.specs.Stands.{fits_kept}
use Rattle.call_decoding.specs.Rules.{rules_of}
use Rattle.call_decoding.specs.Styles.{call_header_of}
use Rattle.receiver_end.specs.declared.kept.Kept.{Kept}
use Rattle.receiver_end.specs.Decoding.{decoding}
use Rattle.receiver_end.specs.State.{Stands, header_taken, reference_after, reference_kept, run_of}

same_reference_is : (a b : Option ℕ) → same_reference a b ≡ true → a ≡ b
same_reference_is None None e = refl
same_reference_is (Some m) (Some n) e = ap (λ (k : ℕ). let o : Option ℕ = Some k in o) (eqb-true m n e)
same_reference_is None (Some n) e = absurd (false≢true e)
same_reference_is (Some m) None e = absurd (false≢true e)

same_reference_self : (o : Option ℕ) → same_reference o o ≡ true
same_reference_self None = refl
same_reference_self (Some m) = eq-eqb m m refl

module _ {Style Mb Picture Fault : Type 0} (codec : Decoding Style Mb Picture Fault) (rules : Rules)
    (lawful : IsDecoding codec rules) where
  same_header_self : (h : Header Style) → same_header codec h h ≡ true
  unfolding same_header
  same_header_self h =
      and_from _ _ (eq-eqb h.number h.number refl)
      (and_from _ _ (same_reference_self h.reference)
      (and_from _ _ (eq-eqb h.half h.half refl) ((lawful.same_style_is h.style h.style).1 refl)))

  -- equal headers name the same reference
  names_same : (a b : Header Style) → same_header codec a b ≡ true → a.reference ≡ b.reference
  unfolding same_header
  names_same a b e =
      let rest = and_parts (eqb a.number b.number) _ e in
      let parts = and_parts (same_reference a.reference b.reference) _ rest.1 in
      same_reference_is a.reference b.reference parts.0

  -- a header with another number
  abbrev other_header : Header Style → Header Style
  other_header h = record h { number = h.number + 1 }

  not_same : (h : Header Style) → same_header codec h (other_header h) ≡ false
  unfolding same_header
  not_same h = and_left _ _ (ne_eqb h.number (h.number + 1) (omega arith))

  -- a header that fits all that was taken of a picture is that of its newest slice
  fits_first : (ts : List (TakenSlice Style Mb)) (n : ℕ) (first h : Header Style) → header_taken ts n ≡ Some first
      → header_fits codec rules ts n h ≡ true → same_header codec first h ≡ true
  unfolding header_fits
  fits_first [] n first h is fits = cc
  fits_first (t ∷ ts) n first h is fits = go (eqb t.number n) is fits (fits_first ts n first h)
    where
      go : (b : Bool) → (if b then Some t.piece.header else header_taken ts n) ≡ Some first
          → ((not b || same_header codec t.piece.header h) && list_all
          (λ x. not (eqb x.number n) || same_header codec x.piece.header h) ts) ≡ true
          → (header_taken ts n ≡ Some first
          → list_all (λ x. not (eqb x.number n) || same_header codec x.piece.header h) ts ≡ true
          → same_header codec first h ≡ true)
          → same_header codec first h ≡ true
      go true here fits rest =
          let e : t.piece.header ≡ first = cc in
          subst (λ (g : Header Style). same_header codec g h ≡ true) e (and_parts (same_header codec t.piece.header h)
          _ fits).0
      go false there fits rest = rest there fits

  -- where nothing was taken of a picture any header fits
  fits_nothing : (ts : List (TakenSlice Style Mb)) (n : ℕ) (h : Header Style) → header_taken ts n ≡ None
      → header_fits codec rules ts n h ≡ true
  unfolding header_fits
  fits_nothing [] n h is = refl
  fits_nothing (t ∷ ts) n h is = go (eqb t.number n) is (fits_nothing ts n h)
    where
      go : (b : Bool) → (if b then Some t.piece.header else header_taken ts n) ≡ None
          → (header_taken ts n ≡ None → list_all (λ x. not (eqb x.number n) || same_header codec x.piece.header h) ts
          ≡ true)
          → ((not b || same_header codec t.piece.header h) && list_all
          (λ x. not (eqb x.number n) || same_header codec x.piece.header h) ts) ≡ true
      go true is rest = cc
      go false is rest = rest is

  -- a kept header, which fits as what was taken does, names the same reference
  pub same_name : (ts : List (TakenSlice Style Mb)) (n : ℕ) (kept : Option (Header Style))
      → ((h : Header Style) → header_fits codec rules ts n h ≡ fits_kept codec kept h)
      → option_and_then (header_reference codec rules n) kept
      ≡ option_and_then (header_reference codec rules n) (header_taken ts n)
  same_name ts n kept each = go kept (header_taken ts n) refl each
    where
      go : (kept first : Option (Header Style)) → header_taken ts n ≡ first
          → ((h : Header Style) → header_fits codec rules ts n h ≡ fits_kept codec kept h)
          → option_and_then (header_reference codec rules n) kept
          ≡ option_and_then (header_reference codec rules n) first
      go None None is each = refl
      go None (Some first) is each =
          absurd (false≢true (sym (not_same first)
          ∙ fits_first ts n first (other_header first) is (each (other_header first))))
      go (Some mine) None is each =
          absurd (false≢true (sym (not_same mine) ∙ sym (each (other_header mine))
          ∙ fits_nothing ts n (other_header mine) is))
      go (Some mine) (Some first) is each =
          let same = fits_first ts n first mine is (each mine ∙ same_header_self mine) in
          ap (option_and_then (nearest_below rules n)) (sym (names_same first mine same))

-- what is kept of the next picture names the reference that its run has
pub reference_is : (r : Kept) (past : List ReceiverEntry) → IsDecoding (decoding r.params.format) (rules_of r.params)
    → Stands r past → reference_kept r ≡ reference_after r.params past
reference_is r past lawful stands =
    let run = run_of r.params past in
    let codec = decoding r.params.format in
    let rules = rules_of r.params in
    let same : r.played ≡ run.played = stands.played in
    same_name codec rules lawful run.taken r.played (option_map call_header_of (header_in r.collector r.played))
    (λ h. stands.headers r.played (omega (arith, same), omega (arith, same)) h)
    ∙ ap (λ (n : ℕ). option_and_then (header_reference codec rules n) (header_taken run.taken n)) same
