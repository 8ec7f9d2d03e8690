-- Headers that are tested for equality.
use Rattle.std.proofs.Common.{◌∙◌, ap, ◌≡◌, ℕ, true, None, Some, Option, refl, eqb}
use Rattle.std.proofs.lemmas.Bool.{and_from, and_parts, eqb-true, eq-eqb, false≢true}
use Rattle.call_model.specs.Coding.{Rules, Header, Decoding, same_header, same_reference}
use Rattle.call_model.specs.Lawful.{IsDecoding}

same_reference_is : (a b : Option ℕ) → same_reference a b ≡ true → a ≡ b
same_reference_is None None e = refl
same_reference_is (Some m) (Some n) e = ap Some (eqb-true m n e)
same_reference_is None (Some n) e = absurd (false≢true e)
same_reference_is (Some m) None e = absurd (false≢true e)

same_reference_self : (a : Option ℕ) → same_reference a a ≡ true
same_reference_self None = refl
same_reference_self (Some m) = eq-eqb m m refl

module _ {Style Mb P Fault : Type 0} (decoding : Decoding Style Mb P Fault) (rules : Rules)
    (lawful : IsDecoding decoding rules) where
  pub same_header_is : (a b : Header Style) → same_header decoding a b ≡ true → a ≡ b
  unfolding same_header
  same_header_is a b e =
      let one = and_parts (eqb a.number b.number) _ e in
      let two = and_parts (same_reference a.reference b.reference) _ one.1 in
      let three = and_parts (eqb a.half b.half) (decoding.same_style a.style b.style) two.1 in
      let style = (lawful.same_style_is a.style b.style).0 three.1 in
      let number = eqb-true a.number b.number one.0 in
      let half = eqb-true a.half b.half three.0 in
      let reference = same_reference_is a.reference b.reference two.0 in
      ap (λ (n : ℕ). let g : Header Style = record {
        number = n;
        reference = a.reference;
        half = a.half;
        style = a.style;
      } in g) number
      ∙ ap (λ (o : Option ℕ). let g : Header Style = record {
        number = b.number;
        reference = o;
        half = a.half;
        style = a.style;
      } in g) reference
      ∙ ap (λ (n : ℕ). let g : Header Style = record {
        number = b.number;
        reference = b.reference;
        half = n;
        style = a.style;
      } in g) half
      ∙ ap (λ (s : Style). let g : Header Style = record {
        number = b.number;
        reference = b.reference;
        half = b.half;
        style = s;
      } in g) style

  pub header_self : (h : Header Style) → same_header decoding h h ≡ true
  unfolding same_header
  header_self h =
      and_from _ _ (eq-eqb h.number h.number refl) (and_from _ _ (same_reference_self h.reference)
      (and_from _ _ (eq-eqb h.half h.half refl) ((lawful.same_style_is h.style h.style).1 refl)))
