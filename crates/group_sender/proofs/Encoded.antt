-- The pictures that an encoder makes are sound, whatever picture of samples each refers to.
use Rattle.std.proofs.Common.{Ok, ◌≡◌, ℕ, zero, suc, ◌%◌, ◌<◌, Bool, true, false, refl, sym, ap, ◌∙◌, subst, arith, inl, inr, ◌⊎◌, Option, Some, None, List, [], ◌∷◌, ◌++◌, length}
use Rattle.std.specs.Prelude.{if◌then◌else◌, slice_get, slice_index_or, is_some, take}
use Rattle.std.specs.Option.{option_map}
use Rattle.std.proofs.lemmas.Bool.{eq-eqb, eqb-true}
use Rattle.std.proofs.lemmas.Option.{slice_get_cases}
use Rattle.std.proofs.Math.Nat.{mod-lt}
use Rattle.call_model.specs.Coding.{Rules, period, Slice, has_mb, mb_at, Pictures, Encoding, Coding, pictures_of, decoded_picture, reconstruction_of_slices, mb_among}
use Rattle.call_model.specs.CodedPictures.{Coded}
use Rattle.call_model.specs.Sending.{header_of, packets_at, packets_before}
use Rattle.call_model.specs.Sound.{IsPacketOfSlice}
use Rattle.call_model.specs.Lawful.{Divides, IsMade, IsChosen, IsPictures, IsCoding, IsRules, FitsHeader}

-- ---- lists

pub slice_get_left : {X : Type 0} (xs ys : List X) (n : ℕ) (x : X) → slice_get xs n ≡ Some x → slice_get (xs ++ ys) n
    ≡ Some x
slice_get_left [] ys n x e = cc
slice_get_left (y ∷ xs) ys zero x e = e
slice_get_left (y ∷ xs) ys (suc n) x e = slice_get_left xs ys n x e

pub slice_get_last : {X : Type 0} (xs : List X) (x : X) → slice_get (xs ++ x ∷ []) (length xs) ≡ Some x
slice_get_last [] x = refl
slice_get_last (y ∷ xs) x = slice_get_last xs x

pub slice_get_push : {X : Type 0} (xs : List X) (y : X) (n : ℕ) (x : X) → slice_get (xs ++ y ∷ []) n ≡ Some x
    → (slice_get xs n ≡ Some x) ⊎ ((n ≡ length xs) × (x ≡ y))
slice_get_push [] y zero x e = inr (refl, cc)
slice_get_push [] y (suc n) x e = inl e
slice_get_push (z ∷ xs) y zero x e = inl e
slice_get_push (z ∷ xs) y (suc n) x e =
    elim (slice_get_push xs y n x e) [ inl h ↦ inl h | inr h ↦ inr (omega (arith, h.0), h.1) ]

-- the same one more at the end of lists of one length that agree from some place on
pub slice_get_both : {X : Type 0} (xs ys : List X) (x : X) (n : ℕ) → length xs ≡ length ys
    → slice_get xs n ≡ slice_get ys n → slice_get (xs ++ x ∷ []) n ≡ slice_get (ys ++ x ∷ []) n
slice_get_both [] [] x n long same = refl
slice_get_both [] (y ∷ ys) x n long same = absurd (omega (arith, long))
slice_get_both (y ∷ xs) [] x n long same = absurd (omega (arith, long))
slice_get_both (y ∷ xs) (z ∷ ys) x zero long same = same
slice_get_both (y ∷ xs) (z ∷ ys) x (suc n) long same = slice_get_both xs ys x n (omega (arith, long)) same

-- ---- slices

mb_of_one : {Mb : Type 0} (skip : Mb) (slices : List (Slice Mb)) (j k : ℕ) (slice : Slice Mb)
    → slice_get slices j ≡ Some slice → has_mb slice k ≡ true
    → ((i : ℕ) (other : Slice Mb) → slice_get slices i ≡ Some other → has_mb other k ≡ true → i ≡ j)
    → mb_among skip slices k ≡ mb_at skip slice k
mb_of_one skip [] j k slice at_j has one = cc
mb_of_one {Mb} skip (first ∷ slices) zero k slice at_j has one =
    let same : first ≡ slice = cc in
    let has_first : has_mb first k ≡ true = subst (λ (s : Slice Mb). has_mb s k ≡ true) (sym same) has in
    rw has_first (ap (λ (s : Slice Mb). mb_at skip s k) same)
mb_of_one {Mb} skip (first ∷ slices) (suc j) k slice at_j has one = go (has_mb first k) refl
    (mb_of_one skip slices j k slice at_j has (λ i other at_i has_i. omega (arith, one (suc i) other at_i has_i)))
  where
    go : (b : Bool) → has_mb first k ≡ b → mb_among skip slices k ≡ mb_at skip slice k
        → (if has_mb first k then mb_at skip first k else mb_among skip slices k) ≡ mb_at skip slice k
    go true e rest = let never : 0 ≡ suc j = one 0 first refl e in absurd (omega (arith, never))
    go false e rest = rw e rest

-- what an encoder sends: slices of macroblocks that it chose, and a picture that is made of samples
pub record IsOfEncoder {Frame Style Mb Picture MessageFault : Type 0} (pictures : Pictures Style Mb Picture)
    (encoding : Encoding Frame Style Mb Picture MessageFault) (x : Coded Style Mb Picture) : Type 0 where
  pub mbs : List Mb
  pub chosen : IsChosen pictures encoding (is_some x.reference) x.style mbs
  pub slices : x.slices ≡ encoding.cut x.style mbs
  pub made : IsMade pictures x.picture

module _ {Frame Style Mb Picture MessageFault : Type 0} (pictures : Pictures Style Mb Picture)
    (encoding : Encoding Frame Style Mb Picture MessageFault) (rules : Rules) where
  -- the picture by its slices is the picture by its macroblocks
  pub picture_by_slices : IsPictures pictures rules
      → (style : Style) (reference : Option Picture) (slices : List (Slice Mb)) (mbs : List Mb)
      → Divides pictures.skip rules.mbs slices mbs → decoded_picture pictures style reference mbs
      ≡ reconstruction_of_slices pictures style reference slices
  picture_by_slices lawful style reference slices mbs divides =
      lawful.picture_same _ _ (λ s inside. ap (λ (mb : Mb). pictures.reconstructed_sample style reference mb s)
      (sym (mb_is (pictures.owner s) inside)))
    where
      mb_is : (k : ℕ) → k < rules.mbs → mb_among pictures.skip slices k ≡ slice_index_or mbs k pictures.skip
      mb_is k lt =
          let covers = divides.covers in
          elim (slice_get_cases slices (covers.place_of k)).1 [
            | inl h ↦
                let has = covers.has (covers.place_of k) k h.0 lt h.2
                ∙ eq-eqb (covers.place_of k) (covers.place_of k) refl in
                mb_of_one pictures.skip slices (covers.place_of k) k h.0 h.2 has
                (λ i other at_i has_i. eqb-true i (covers.place_of k) (sym (covers.has i k other lt at_i) ∙ has_i))
                ∙ divides.same (covers.place_of k) k h.0 h.2 has
            | inr h ↦ absurd (omega (arith, h.0, covers.below k lt))
          ]

module _ {Frame Style Mb Picture Fault MessageFault : Type 0}
    (coding : Coding Frame Style Mb Picture Fault MessageFault) (rules : Rules) (lawful : IsCoding coding rules)
    (ruled : IsRules rules) where
  packets_of_is : (coded : List (Coded Style Mb Picture)) (n : ℕ) (x : Coded Style Mb Picture)
      → slice_get coded n ≡ Some x → packets_at coding.encoding rules coded n
      ≡ coding.encoding.packets n (packets_before (take n coded)) (header_of rules n x) x.slices
  unfolding packets_at
  packets_of_is coded n x at_n = rw at_n refl

  header_fits : (n : ℕ) (x : Coded Style Mb Picture) → FitsHeader rules (is_some x.reference) (header_of rules n x)
  unfolding header_of
  header_fits n x = record {
    number = mod-lt n positive;
    reference = λ m e. below x.reference m e;
    half = refl;
    kind = kind x.reference;
  }
    where
      positive : 0 < period rules
      positive = omega (arith, ruled.lead_small, ruled.slots_small)

      below : (r : Option ℕ) (m : ℕ) → option_map (λ q. q % period rules) r ≡ Some m → m < period rules
      below None m e = cc
      below (Some q) m e = let same : q % period rules ≡ m = cc in
          subst (λ (i : ℕ). i < period rules) same (mod-lt q positive)

      kind : (r : Option ℕ) → is_some (option_map (λ q. q % period rules) r) ≡ is_some r
      kind None = refl
      kind (Some q) = refl

  style_is : (n : ℕ) (x : Coded Style Mb Picture) → (header_of rules n x).style ≡ x.style
  unfolding header_of
  style_is n x = refl

  written_again : (n sequence j : ℕ) (x : Coded Style Mb Picture) (slice : Slice Mb)
      → IsOfEncoder (pictures_of coding) coding.encoding x → slice_get x.slices j ≡ Some slice
      → (bytes : List ℕ) × (slice_get (coding.encoding.packets n sequence (header_of rules n x) x.slices) j
      ≡ Some bytes) × (coding.decoding.read bytes ≡ Ok (record { header = header_of rules n x; slice = slice }))
  written_again n sequence j x slice one at_j =
      let style = style_is n x in
      let cut : x.slices ≡ coding.encoding.cut (header_of rules n x).style one.mbs = one.slices
      ∙ ap (λ (s : Style). coding.encoding.cut s one.mbs) (sym style) in
      let chosen : IsChosen (pictures_of coding) coding.encoding (is_some x.reference) (header_of rules n x).style
      one.mbs = subst (λ (s : Style). IsChosen (pictures_of coding) coding.encoding (is_some x.reference) s one.mbs)
      (sym style) one.chosen in
      let got = lawful.read_again n sequence (is_some x.reference) (header_of rules n x) one.mbs j slice chosen
      (header_fits n x) (ap (λ (ss : List (Slice Mb)). slice_get ss j) (sym cut) ∙ at_j) in (
        got.0,
        ap (λ (ss : List (Slice Mb)). slice_get (coding.encoding.packets n sequence (header_of rules n x) ss) j)
            cut ∙ got.1,
        got.2,
      )

  -- the packets of a picture are read as its slices
  pub packet_is_read : (coded : List (Coded Style Mb Picture)) (n j : ℕ) (x : Coded Style Mb Picture)
      → slice_get coded n ≡ Some x → IsOfEncoder (pictures_of coding) coding.encoding x
      → IsPacketOfSlice coding.decoding rules (packets_at coding.encoding rules coded n) n j x
  packet_is_read coded n j x at_n one = record {
    read_as = λ slice at_j.
        let got = written_again n (packets_before (take n coded)) j x slice one at_j in
        (got.0, ap (λ (ps : List (List ℕ)). slice_get ps j) (packets_of_is coded n x at_n) ∙ got.1, got.2);
    no_other = λ none. ap (λ (ps : List (List ℕ)). slice_get ps j) (packets_of_is coded n x at_n)
        ∙ lawful.no_packet n (packets_before (take n coded)) (header_of rules n x) x.slices j none;
  }
