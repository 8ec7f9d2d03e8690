-- A store after a work picture was written.
use Rattle.std.proofs.Common.{◌≡◌, ℕ, ◌+◌, ◌<◌, List, [], length, set, refl, ap, sym, ◌∙◌, subst, arith, length-set, Option, Bool}
use Rattle.std.proofs.lemmas.Bool.{eq-eqb}
use Rattle.std.proofs.lemmas.List.{get_or-set_same, get_or-set_other}
use Rattle.h263_types.specs.Sizes.{size_of_picture}
use Rattle.h263_types.specs.declared.format.Format.{Format}
use Rattle.h263_types.specs.declared.blocks.Mb.{Mb}
use Rattle.h263_planes.specs.Layout.{picture_of}
use Rattle.h263_planes.specs.Picture.{Picture}
use Rattle.packet_collector.specs.declared.piece.Piece.{Piece}
use Rattle.picture_store.specs.Pictures.{StoredPictures, slots_of, works_of, work_in, with_work}
use Rattle.receiver_end.specs.Steps.{IsSameBut, SetsPiece, Patches}

abbrev with_bytes : StoredPictures → ℕ → List ℕ → StoredPictures
with_bytes s w bytes = record s { pictures = set s.pictures (slots_of s + w) (picture_of s.format bytes) }

written : (s : StoredPictures) (w : ℕ) (bytes : List ℕ) → length bytes ≡ size_of_picture s.format
    → with_work s w bytes ≡ with_bytes s w bytes
written s w bytes long = rw (eq-eqb (length bytes) (size_of_picture s.format) long) refl

pub same_but : (s : StoredPictures) (w : ℕ) (bytes : List ℕ) → length bytes ≡ size_of_picture s.format
    → IsSameBut s (with_work s w bytes) w
same_but s w bytes long = subst (λ (t : StoredPictures). IsSameBut s t w) (sym (written s w bytes long)) (record {
  format = refl;
  numbers = refl;
  many = length-set s.pictures (slots_of s + w) (picture_of s.format bytes);
  room = refl;
  others = λ k other. get_or-set_other s.pictures (slots_of s + w) k (picture_of s.format bytes)
      (picture_of s.format []) other;
})

pub work_is : (s : StoredPictures) (w : ℕ) (bytes : List ℕ) → w < works_of s → length bytes ≡ size_of_picture s.format
    → work_in (with_work s w bytes) w ≡ picture_of s.format bytes
work_is s w bytes inside long = ap (λ (t : StoredPictures). work_in t w) (written s w bytes long)
    ∙ get_or-set_same s.pictures (slots_of s + w) (picture_of s.format bytes) (picture_of s.format [])
    (omega (arith, inside))

module _ (f : Format) (s : StoredPictures) (bytes : List ℕ) (w : ℕ) (same : f ≡ s.format) (inside : w < works_of s)
    (long : length bytes ≡ size_of_picture f) where
  pub new_is : picture_of f bytes ≡ work_in (with_work s w bytes) w
  new_is = ap (λ (k : Format). picture_of k bytes) same
      ∙ sym (work_is s w bytes inside (long ∙ ap size_of_picture same))

  -- a slice drawn into the bytes that a work picture is given is drawn into that picture
  pub sets_kept : (mbs : List Mb) (piece : Piece) (reference kept : Option Picture) (before : List ℕ)
      → reference ≡ kept → picture_of s.format before ≡ work_in s w
      → SetsPiece f mbs piece reference (picture_of f before) (picture_of f bytes)
      → SetsPiece f mbs piece kept (work_in s w) (work_in (with_work s w bytes) w)
  sets_kept mbs piece reference kept before seen old sets =
      let e : picture_of f before ≡ work_in s w = ap (λ (k : Format). picture_of k before) same ∙ old in
      subst (λ (p : Picture). SetsPiece f mbs piece kept (work_in s w) p) new_is
      (subst (λ (p : Picture). SetsPiece f mbs piece kept p (picture_of f bytes)) e
      (subst (λ (r : Option Picture). SetsPiece f mbs piece r (picture_of f before) (picture_of f bytes)) seen sets))

  -- a patch of the bytes that a work picture is given is a patch of that picture
  pub patched_kept : (test : ℕ → Bool) (screen before : List ℕ) (q : Picture) → picture_of s.format screen ≡ q
      → picture_of s.format before ≡ work_in s w
      → Patches f test (picture_of f screen) (picture_of f before) (picture_of f bytes)
      → Patches f test q (work_in s w) (work_in (with_work s w bytes) w)
  patched_kept test screen before q seen old patches =
      let e : picture_of f before ≡ work_in s w = ap (λ (k : Format). picture_of k before) same ∙ old in
      let r : picture_of f screen ≡ q = ap (λ (k : Format). picture_of k screen) same ∙ seen in
      subst (λ (p : Picture). Patches f test q (work_in s w) p) new_is
      (subst (λ (p : Picture). Patches f test q p (picture_of f bytes)) e
      (subst (λ (p : Picture). Patches f test p (picture_of f before) (picture_of f bytes)) r patches))
