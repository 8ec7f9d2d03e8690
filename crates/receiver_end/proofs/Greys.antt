-- A new receiver.
use Rattle.std.proofs.Common.{◌≡◌, ℕ, zero, suc, ◌+◌, List, [], ◌∷◌, ◌++◌, length, map, replicate, refl, ap, sym, ◌∙◌, arith}
use Rattle.std.proofs.lemmas.List.{length-replicate}
use Rattle.std.proofs.Math.Nat.{zero-add}
use Rattle.h263_types.specs.declared.format.Format.{Format}
use Rattle.h263_types.specs.Sizes.{size_of_picture}
use Rattle.h263_planes.specs.declared.Plane.{Plane}
use Rattle.h263_planes.specs.Picture.{Picture}
use Rattle.h263_planes.specs.Given.{picture_with}
use Rattle.h263_planes.specs.Layout.{picture_of}
use Rattle.h263_planes.specs.Samples.{IsWhole, bytes_of}
use Rattle.h263_planes.specs.Spots.{picture_by}

constant : (v : ℕ) (xs : List ℕ) → map (λ k. v) xs ≡ replicate (length xs) v
constant v [] = refl
constant v (x ∷ xs) = ap (λ (l : List ℕ). v ∷ l) (constant v xs)

joined : (v a b : ℕ) → replicate a v ++ replicate b v ≡ replicate (a + b) v
joined v zero b = ap (λ (k : ℕ). replicate k v) (sym (zero-add b))
joined v (suc a) b = ap (λ (l : List ℕ). v ∷ l) (joined v a b)
    ∙ ap (λ (k : ℕ). replicate k v) (let e : suc (a + b) ≡ suc a + b = omega arith in e)

of_three : (v : ℕ) (a b c : List ℕ) → map (λ k. v) a ++ map (λ k. v) b ++ map (λ k. v) c
    ≡ replicate (length (map (λ k. v) a ++ map (λ k. v) b ++ map (λ k. v) c)) v
of_three v a b c =
    let e : map (λ k. v) a ++ map (λ k. v) b ++ map (λ k. v) c ≡ replicate (length a + length b + length c) v =
    (λ i. constant v a i ++ constant v b i ++ constant v c i)
    ∙ ap (λ (l : List ℕ). l ++ replicate (length c) v) (joined v (length a) (length b))
    ∙ joined v (length a + length b) (length c) in
    e ∙ ap (λ (k : ℕ). replicate k v) (sym (ap length e ∙ length-replicate (length a + length b + length c) v))

-- the bytes of a picture all of whose samples are one number
flat : (v : ℕ) (f : Format) → bytes_of (picture_by f (λ s. v)) ≡ replicate (length (bytes_of (picture_by f (λ s. v)))) v
unfolding picture_with
flat v f = of_three v _ _ _

pub grey_is : ((p : Picture) → IsWhole p → picture_of p.format (bytes_of p) ≡ p)
    → ((p : Picture) → IsWhole p → length (bytes_of p) ≡ size_of_picture p.format)
    → ((f : Format) (sample : Plane → ℕ → ℕ → ℕ) → IsWhole (picture_with f sample))
    → ((f : Format) (sample : Plane → ℕ → ℕ → ℕ) → (picture_with f sample).format ≡ f)
    → (f : Format) (bytes : List ℕ) → bytes ≡ replicate (size_of_picture f) 128
    → picture_of f bytes ≡ picture_by f (λ s. 128)
grey_is picture size whole format f bytes is =
    let p : Picture = picture_by f (λ s. 128) in
    let ok : IsWhole p = whole f (λ plane x y. 128) in
    let same : p.format ≡ f = format f (λ plane x y. 128) in
    let many : length (bytes_of p) ≡ size_of_picture f = size p ok ∙ ap size_of_picture same in
    let e : bytes_of p ≡ bytes = flat 128 f ∙ ap (λ (k : ℕ). replicate k 128) many ∙ sym is in
    ap (picture_of f) (sym e) ∙ ap (λ (g : Format). picture_of g (bytes_of p)) (sym same) ∙ picture p ok
