-- A picture written into work picture 0 of a store.
use Rattle.std.proofs.Common.{◌≡◌, ℕ, ◌+◌, ◌<◌, Bool, refl, sym, ap, ◌∙◌, subst, arith, List, length, set}
use Rattle.std.specs.Prelude.{if◌then◌else◌}
use Rattle.std.proofs.lemmas.Bool.{eq-eqb}
use Rattle.std.proofs.lemmas.List.{get_or-set_same, get_or-set_other, length-set}
use Rattle.h263_types.specs.Sizes.{size_of_picture}
use Rattle.h263_planes.specs.Layout.{picture_of}
use Rattle.h263_planes.specs.Picture.{Picture}
use Rattle.picture_store.specs.Pictures.{StoredPictures, slots_of, with_work, works_of}
use Rattle.sender_end.specs.Coding.{IsCodedInto}

pub coded_into : (store : StoredPictures) (bytes : List ℕ) (picture : Picture)
    → length bytes ≡ size_of_picture store.format
    → 0 < works_of store
    → picture_of store.format bytes ≡ picture → IsCodedInto store (with_work store 0 bytes) picture
coded_into store bytes picture long some is =
    let at = slots_of store + 0 in
    let changed : StoredPictures = record store { pictures = set store.pictures at (picture_of store.format bytes) } in
    let same : with_work store 0 bytes ≡ changed = ap (λ (t : Bool). if t then changed else store)
    (eq-eqb (length bytes) (size_of_picture store.format) long) in
    subst (λ (s : StoredPictures). IsCodedInto store s picture) (sym same)
    (record {
      format = refl;
      numbers = refl;
      pictures = length-set store.pictures at (picture_of store.format bytes);
      work = get_or-set_same store.pictures at (picture_of store.format bytes) _ (omega (arith, some)) ∙ is;
      others = λ k below. get_or-set_other store.pictures at k (picture_of store.format bytes) _
          (λ e. omega (arith, below, e));
    })
