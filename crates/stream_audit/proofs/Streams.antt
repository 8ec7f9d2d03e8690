-- Streams and their items.
use Rattle.std.proofs.Common.{◌∙◌, ap, None, ◌≡◌, ℕ, ◌+◌, ◌<◌, ◌≤◌, Bool, true, false, refl, sym, subst, arith, inl, inr, Some, List, [], ◌∷◌, ◌++◌, length, eqb, append_assoc}
use Rattle.std.specs.Prelude.{if◌then◌else◌, Result}
use Rattle.std.proofs.lemmas.Bool.{eq-eqb, ne_eqb, cases_eq}
use Rattle.call_model.specs.Coding.{Rules, Message, Decoding}
use Rattle.stream_audit.specs.Stream.{Item, Picture, Feedback, StreamPicture, pictures_in, picture_numbered}
use Rattle.stream_audit.specs.Replay.{item_at}
use Rattle.stream_audit.specs.Sound.{IsSound, IsSoundAfter}
use Rattle.stream_audit.proofs.Lists.{not_none}

module _ {Style Mb : Type 0} where
  item_past : (items : List (Item Style Mb)) (k : ℕ) → length items ≤ k → item_at items k ≡ None
  item_past [] k past = refl
  item_past (item ∷ items) k past =
      let differ : eqb (length items) k ≡ false = ne_eqb (length items) k (λ (e : length items ≡ k). omega arith) in
      rw differ (item_past items k (omega arith))

  -- the item after these is the last of those that follow them
  pub item_next : (more done : List (Item Style Mb)) (x : Item Style Mb) → item_at (more ++ done) (length done) ≡ Some x
      → (before : List (Item Style Mb)) × (more ≡ before ++ x ∷ [])
  item_next [] done x e = let none = item_past done (length done) (omega arith) in
      absurd (not_none x (sym (sym none ∙ e)))
  item_next (y ∷ []) done x e =
      let same : eqb (length done) (length done) ≡ true = eq-eqb (length done) (length done) refl in
      let is : Some y ≡ Some x = sym (ap (λ (b : Bool). if b then Some y else item_at done (length done)) same) ∙ e in
      let equal : y ≡ x = cc in
      ([], ap (λ (z : Item Style Mb). let l : List (Item Style Mb) = z ∷ [] in l) equal)
  item_next (y ∷ z ∷ zs) done x e =
      let longer : length done < length (z ∷ zs ++ done) = long (z ∷ zs) done (omega arith) in
      let differ : eqb (length (z ∷ zs ++ done)) (length done)
      ≡ false = ne_eqb _ _ (λ (s : length (z ∷ zs ++ done) ≡ length done). omega arith) in
      let r = item_next (z ∷ zs) done x
      (sym (ap (λ (b : Bool). if b then Some y else item_at (z ∷ zs ++ done) (length done)) differ) ∙ e) in
      (y ∷ r.0, ap (λ (l : List (Item Style Mb)). y ∷ l) r.1)
    where
      long : (xs ys : List (Item Style Mb)) → 0 < length xs → length ys < length (xs ++ ys)
      long [] ys some = absurd (omega arith)
      long (x ∷ []) ys some = omega arith
      long (x ∷ w ∷ xs) ys some = let r = long (w ∷ xs) ys (omega arith) in omega arith

  pub split_next : (stream more done before : List (Item Style Mb)) (x : Item Style Mb) → stream ≡ more ++ done
      → more ≡ before ++ x ∷ [] → stream ≡ before ++ x ∷ done
  split_next stream more done before x split last =
      split ∙ ap (λ (l : List (Item Style Mb)). l ++ done) last ∙ simp append_assoc

  pub pictures_more : (before items : List (Item Style Mb)) → pictures_in items ≤ pictures_in (before ++ items)
  pictures_more [] items = omega arith
  pictures_more (Picture p ∷ before) items = let r = pictures_more before items in omega arith
  pictures_more (Feedback bytes ∷ before) items = pictures_more before items

  pub picture_here : (before items : List (Item Style Mb)) (p : StreamPicture Style Mb)
      → picture_numbered (before ++ Picture p ∷ items) (pictures_in items) ≡ Some p
  picture_here [] items p = rw (eq-eqb (pictures_in items) (pictures_in items) refl) refl
  picture_here (Picture q ∷ before) items p =
      let more : pictures_in items + 1 ≤ pictures_in (before ++ Picture p ∷ items) =
      pictures_more before (Picture p ∷ items) in
      let differ : eqb (pictures_in (before ++ Picture p ∷ items)) (pictures_in items)
      ≡ false = ne_eqb _ _ (λ (e : pictures_in (before ++ Picture p ∷ items) ≡ pictures_in items). omega arith) in
      rw differ (picture_here before items p)
  picture_here (Feedback bytes ∷ before) items p = picture_here before items p

module _ {Style Mb P Fault MessageFault : Type 0} (decoding : Decoding Style Mb P Fault) (read : List ℕ
    → Result Message MessageFault) (rules : Rules) where
  pub sound_before : (before items : List (Item Style Mb)) → IsSound decoding read rules (before ++ items)
      → IsSound decoding read rules items
  sound_before [] items sound = sound
  sound_before (Picture p ∷ before) items sound = sound_before before items sound.1
  sound_before (Feedback bytes ∷ before) items sound = sound_before before items sound

  -- each picture of a sound stream is sound after those before it
  pub sound_at : (items : List (Item Style Mb)) (n : ℕ) (p : StreamPicture Style Mb) → IsSound decoding read rules items
      → picture_numbered items n ≡ Some p → (before : List (Item Style Mb)) × (pictures_in before ≡ n)
      × IsSoundAfter decoding read rules before p
  sound_at [] n p sound e = absurd (not_none p (sym e))
  sound_at (Picture q ∷ items) n p sound e =
      elim (cases_eq (pictures_in items) n) [
        | inl is ↦
            let here : eqb (pictures_in items) n ≡ true = eq-eqb (pictures_in items) n is in
            let same : Some q ≡ Some p = sym (ap (λ (b : Bool). if b then Some q else picture_numbered items n) here)
            ∙ e in
            let equal : q ≡ p = cc in
            (items, is, subst (λ (r : StreamPicture Style Mb). IsSoundAfter decoding read rules items r) equal sound.0)
        | inr not_here ↦
            let there : eqb (pictures_in items) n ≡ false = ne_eqb (pictures_in items) n not_here in
            sound_at items n p sound.1 (sym (ap (λ (b : Bool). if b then Some q else picture_numbered items n) there)
            ∙ e)
      ]
  sound_at (Feedback bytes ∷ items) n p sound e = sound_at items n p sound e
