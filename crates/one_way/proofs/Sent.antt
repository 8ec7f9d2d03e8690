-- What the network keeps of a picture more.
use Rattle.std.proofs.Common.{◌≡◌, ◌⊎◌, inl, inr, ℕ, zero, suc, ◌+◌, ◌<◌, ◌≤◌, List, [], ◌∷◌, ◌++◌, length, take, Option, None, refl, sym, ap, ◌∙◌, arith}
use Rattle.std.specs.Prelude.{map, slice_get, slice_index_or}
use Rattle.std.specs.Option.{option_map_or}
use Rattle.std.proofs.lemmas.Bool.{cases_lt}
use Rattle.h263_types.specs.declared.blocks.Mb.{Mb}
use Rattle.h263_types.specs.declared.params.Params.{Params}
use Rattle.h263_planes.specs.Picture.{Picture}
use Rattle.call_model.specs.CodedPictures.{Coded}
use Rattle.call_model.specs.Sending as call
use Rattle.call_decoding.specs.Rules.{rules_of}
use Rattle.call_decoding.specs.Styles.{Style}
use Rattle.call_encoding.specs.Encoding.{encoding}
use Rattle.call_rings.specs.declared.sent_packets.SentPackets.{SentPackets}
use Rattle.call_rings.specs.Keeping.{HoldsPackets, PacketsOfPictures}
use Rattle.one_way.specs.Network.{HasPackets}
use Rattle.one_way.specs.Seen.{reference_in}

-- ---- a list with one more

get_front : {X : Type 0} (xs : List X) (x : X) (n : ℕ) → n < length xs → slice_get (xs ++ x ∷ []) n ≡ slice_get xs n
get_front [] x n few = absurd (omega (arith, few))
get_front (y ∷ xs) x zero few = refl
get_front (y ∷ xs) x (suc n) few = get_front xs x n (omega (arith, few))

get_past : {X : Type 0} (xs : List X) (n : ℕ) → length xs ≤ n → slice_get xs n ≡ None
get_past [] n few = refl
get_past (y ∷ xs) zero few = absurd (omega (arith, few))
get_past (y ∷ xs) (suc n) few = get_past xs n (omega (arith, few))

or_front : {X : Type 0} (xs : List X) (x d : X) (n : ℕ) → n < length xs → slice_index_or (xs ++ x ∷ []) n d
    ≡ slice_index_or xs n d
or_front [] x d n few = absurd (omega (arith, few))
or_front (y ∷ xs) x d zero few = refl
or_front (y ∷ xs) x d (suc n) few = or_front xs x d n (omega (arith, few))

or_last : {X : Type 0} (xs : List X) (x d : X) → slice_index_or (xs ++ x ∷ []) (length xs) d ≡ x
or_last [] x d = refl
or_last (y ∷ xs) x d = or_last xs x d

or_past : {X : Type 0} (xs : List X) (d : X) (n : ℕ) → length xs ≤ n → slice_index_or xs n d ≡ d
or_past [] d n few = refl
or_past (y ∷ xs) d zero few = absurd (omega (arith, few))
or_past (y ∷ xs) d (suc n) few = or_past xs d n (omega (arith, few))

take_front : {X : Type 0} (xs : List X) (x : X) (n : ℕ) → n ≤ length xs → take n (xs ++ x ∷ []) ≡ take n xs
take_front xs x zero few = refl
take_front [] x (suc n) few = absurd (omega (arith, few))
take_front (y ∷ xs) x (suc n) few = ap (λ l. y ∷ l) (take_front xs x n (omega (arith, few)))

more : {X : Type 0} (xs : List X) (x : X) → length (xs ++ x ∷ []) ≡ length xs + 1
more [] x = refl
more (y ∷ xs) x = omega (arith, more xs x)

pub map_more : {X Y : Type 0} (f : X → Y) (xs : List X) (x : X) → map f (xs ++ x ∷ []) ≡ map f xs ++ f x ∷ []
map_more f [] x = refl
map_more f (y ∷ xs) x = ap (λ l. f y ∷ l) (map_more f xs x)

-- ---- packets

module _ (p : Params) where
  abbrev packets_of : List (Coded Style Mb Picture) → ℕ → List (List ℕ)
  packets_of coded n = call.packets_at (encoding p) (rules_of p) coded n

  -- the packets of an earlier picture stay
  packets_stay : (coded : List (Coded Style Mb Picture)) (x : Coded Style Mb Picture) (n : ℕ) → n < length coded
      → packets_of (coded ++ x ∷ []) n ≡ packets_of coded n
  unfolding call.packets_at
  packets_stay coded x n few =
      λ i. option_map_or (λ (y : Coded Style Mb Picture). (encoding p).packets n
      (call.packets_before (take_front coded x n (omega (arith, few)) i)) (call.header_of (rules_of p) n y)
      y.slices) (get_front coded x n few i) []

  packets_past : (coded : List (Coded Style Mb Picture)) (n : ℕ) → length coded ≤ n → packets_of coded n ≡ []
  unfolding call.packets_at
  packets_past coded n few =
      ap (λ (o : Option (Coded Style Mb Picture)). option_map_or (λ (y : Coded Style Mb Picture). (encoding p).packets n
      (call.packets_before (take n coded)) (call.header_of (rules_of p) n y) y.slices) o []) (get_past coded n few)

  -- before the first picture
  pub none_sent : (n : ℕ) → slice_index_or [] n [] ≡ packets_of [] n
  none_sent n = or_past [] [] n (omega arith) ∙ sym (packets_past [] n (omega arith))

  -- with those of one picture more
  pub has_one_more : (ring new : SentPackets) (coded : List (Coded Style Mb Picture)) (x : Coded Style Mb Picture)
      (packets : List (List ℕ))
      → HasPackets p ring coded → ((pictures : PacketsOfPictures) → HoldsPackets ring pictures
      → HoldsPackets new (pictures ++ packets ∷ []))
      → packets ≡ packets_of (coded ++ x ∷ []) (length coded) → HasPackets p new (coded ++ x ∷ [])
  has_one_more ring new coded x packets has kept is = record {
    pictures = has.pictures ++ packets ∷ [];
    keeps = kept has.pictures has.keeps;
    count = more has.pictures packets ∙ ap (λ (n : ℕ). n + 1) has.count ∙ sym (more coded x);
    each = λ n. by_place n (cases_lt n (length coded));
  }
    where
      by_place : (n : ℕ) → (n < length coded) ⊎ (length coded ≤ n) → slice_index_or (has.pictures ++ packets ∷ []) n []
          ≡ packets_of (coded ++ x ∷ []) n
      by_place n (inl few) =
          or_front has.pictures packets [] n (omega (arith, few, has.count)) ∙ has.each n
          ∙ sym (packets_stay coded x n few)
      by_place n (inr many) = by_end n many (cases_lt (length coded) n)
        where
          by_end : (n : ℕ) → length coded ≤ n → (length coded < n) ⊎ (n ≤ length coded)
              → slice_index_or (has.pictures ++ packets ∷ []) n [] ≡ packets_of (coded ++ x ∷ []) n
          by_end n many (inl past) =
              or_past (has.pictures ++ packets ∷ []) [] n (omega (arith, past, has.count, more has.pictures packets))
              ∙ sym (packets_past (coded ++ x ∷ []) n (omega (arith, past, more coded x)))
          by_end n many (inr few) =
              let at : n ≡ length has.pictures = omega (arith, few, many, has.count) in
              let there : length coded ≡ n = omega (arith, few, many) in
              ap (λ (k : ℕ). slice_index_or (has.pictures ++ packets ∷ []) k []) at
              ∙ or_last has.pictures packets []
              ∙ is
              ∙ ap (λ (k : ℕ). packets_of (coded ++ x ∷ []) k) there

-- ---- references

-- the reference of a picture, as it is noted
pub noted_is : (coded : List (Coded Style Mb Picture)) (n : ℕ)
    → slice_index_or (map (λ (x : Coded Style Mb Picture). x.reference) coded) n None ≡ reference_in coded n
noted_is [] n = refl
noted_is (x ∷ coded) zero = refl
noted_is (x ∷ coded) (suc n) = noted_is coded n

pub noted_more : (coded : List (Coded Style Mb Picture)) (x : Coded Style Mb Picture)
    → map (λ (x : Coded Style Mb Picture). x.reference) (coded ++ x ∷ [])
    ≡ map (λ (x : Coded Style Mb Picture). x.reference) coded ++ x.reference ∷ []
noted_more coded x = map_more (λ (x : Coded Style Mb Picture). x.reference) coded x
