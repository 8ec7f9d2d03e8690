-- The reference of each picture of a group, by what its receivers have told.
use Rattle.std.proofs.Common.{◌≡◌, inl, inr, ℕ, zero, suc, ◌<◌, ◌≤◌, Bool, true, false, List, [], ◌∷◌, ◌++◌, length, Option, Some, refl, sym, ap, subst, ◌∙◌, arith, eqb, if◌then◌else◌}
use Rattle.std.specs.Prelude.{nat_le, replicate, slice_get, slice_index_or}
use Rattle.std.proofs.lemmas.Bool.{and_from, and_parts, cases_lt, eq-eqb, eqb-true, le-leb}
use Rattle.std.proofs.lemmas.List.{get_or-set_other, get_or-set_same, length-set}
use Rattle.h263_types.specs.declared.blocks.Mb.{Mb}
use Rattle.h263_types.specs.declared.params.Params.{Params}
use Rattle.h263_planes.specs.Picture.{Picture}
use Rattle.call_model.specs.CodedPictures.{Coded, is_among}
use Rattle.call_decoding.specs.Rules.{rules_of}
use Rattle.call_decoding.specs.Samples.{pictures}
use Rattle.call_decoding.specs.Styles.{Style}
use Rattle.call_encoding.specs.Encoding.{encoding}
use Rattle.call_encoding.specs.Frames.{Frame}
use Rattle.one_way.specs.Both.{steady}
use Rattle.group_sender.specs.Holding.{Groups, group_after_code, next_of_group}
use Rattle.group_sender.specs.Laws.{AllHaveIs, IsNewestOfAll, ReferenceIsNewestOfAll}
use Rattle.group_sender.specs.Parties.{Party, all_have, nobody, party_after_saying, party_at, party_has, party_joined, with_party_at}
use Rattle.group_call.specs.One.{one_sends}
use Rattle.group_command.specs.Group.{after_joins}
use Rattle.group_command.specs.Recorded.{AllHaveTold, Happening, IsNewestTold, RefersToNewest, call_at, group_at}
use Rattle.group_command.proofs.Lives.{none_coded}

-- ---- the receivers' places

-- so many receivers are there from the start, at the first places
pub record PartiesAre (count : ℕ) (parties : List Party) : Type 0 where
  pub long : length parties ≡ 16
  pub there : (k : ℕ) → k < count → (party_at parties k).present ≡ true
  pub since : (k : ℕ) → k < count → (party_at parties k).since ≡ 0
  pub nobody_else : (k : ℕ) → count ≤ k → (party_at parties k).present ≡ false

nobodies_are : (n k : ℕ) → slice_index_or (replicate n nobody) k nobody ≡ nobody
nobodies_are zero k = refl
nobodies_are (suc n) zero = refl
nobodies_are (suc n) (suc k) = nobodies_are n k

not_same : (k j : ℕ) → eqb k j ≡ false → k ≡ j → ⊥
not_same k j is same = let wrong : true ≡ false = sym (eq-eqb k j same) ∙ is in absurd (cc wrong)

-- what is so of a party at its own place, and of those at others, is so at each
at_place : (P : Party → Type 0) (parties : List Party) (k j : ℕ) (x : Party) → k < length parties
    → (k ≡ j → P x) → ((k ≡ j → ⊥) → P (party_at parties j)) → P (party_at (with_party_at k x parties) j)
at_place P parties k j x below here other = by_test (eqb k j) refl
  where
    by_test : (b : Bool) → eqb k j ≡ b → P (party_at (with_party_at k x parties) j)
    by_test true is =
        let same : k ≡ j = eqb-true k j is in
        subst (λ (i : ℕ). P (party_at (with_party_at k x parties) i)) same
        (subst P (sym (get_or-set_same parties k x nobody below)) (here same))
    by_test false is =
        let apart : k ≡ j → ⊥ = not_same k j is in
        subst P (sym (get_or-set_other parties k j x nobody (λ e. apart (sym e)))) (other apart)

pub parties_start : (n : ℕ) → n ≤ 16 → PartiesAre n (after_joins n).parties
parties_start zero most = record {
  long = refl;
  there = λ k few. absurd (omega (arith, few));
  since = λ k few. absurd (omega (arith, few));
  nobody_else = λ k far. ap (λ (q : Party). q.present) (nobodies_are 16 k);
}
parties_start (suc n) most =
    let before = parties_start n (omega (arith, most)) in
    let parties = (after_joins n).parties in
    let new = party_joined (length (after_joins n).coded) in
    let none : length (after_joins n).coded ≡ 0 = ap (λ (l : List (Coded Style Mb Picture)). length l) (none_coded n) in
    let below : n < length parties = omega (arith, before.long, most) in
    record {
      long = length-set parties n new ∙ before.long;
      there = λ k few. at_place (λ q. q.present ≡ true) parties n k new below (λ same. refl)
          (λ apart. before.there k (omega (arith, few, apart)));
      since = λ k few. at_place (λ q. q.since ≡ 0) parties n k new below (λ same. none)
          (λ apart. before.since k (omega (arith, few, apart)));
      nobody_else = λ k far. at_place (λ q. q.present ≡ false) parties n k new below
          (λ same. absurd (omega (arith, far, same))) (λ apart. before.nobody_else k (omega (arith, far)));
    }

said_there : (numbers : List ℕ) (party : Party) → (party_after_saying numbers party).present ≡ party.present
said_there numbers party = by_test party.present
  where
    by_test : (b : Bool) → (if b then record party { told = numbers ++ party.told } else party).present ≡ party.present
    by_test true = refl
    by_test false = refl

said_since : (numbers : List ℕ) (party : Party) → (party_after_saying numbers party).since ≡ party.since
said_since numbers party = by_test party.present
  where
    by_test : (b : Bool) → (if b then record party { told = numbers ++ party.told } else party).since ≡ party.since
    by_test true = refl
    by_test false = refl

pub parties_said : (count k : ℕ) (numbers : List ℕ) (parties : List Party) → k < count → count ≤ 16
    → PartiesAre count parties
    → PartiesAre count (with_party_at k (party_after_saying numbers (party_at parties k)) parties)
parties_said count k numbers parties few most are =
    let old = party_at parties k in
    let new = party_after_saying numbers old in
    let below : k < length parties = omega (arith, are.long, few, most) in
    record {
      long = length-set parties k new ∙ are.long;
      there = λ j less. at_place (λ q. q.present ≡ true) parties k j new below
          (λ same. said_there numbers old ∙ are.there k few) (λ apart. are.there j less);
      since = λ j less. at_place (λ q. q.since ≡ 0) parties k j new below
          (λ same. said_since numbers old ∙ are.since k few) (λ apart. are.since j less);
      nobody_else = λ j far. at_place (λ q. q.present ≡ false) parties k j new below
          (λ same. absurd (omega (arith, far, few, same))) (λ apart. are.nobody_else j far);
    }

-- ---- the reference

-- what the laws of groups say of references
pub record ReferenceLaws (p : Params) : Type 0 where
  pub reference : ReferenceIsNewestOfAll (pictures p.format) (encoding p) (rules_of p)
  pub all : AllHaveIs

last_is : {X : Type 0} (xs : List X) (x y : X) → slice_get (xs ++ x ∷ []) (length xs) ≡ Some y → x ≡ y
last_is [] x y is = cc is
last_is (z ∷ xs) x y is = last_is xs x y is

module _ (p : Params) (count : ℕ) (frames : List Frame) (laws : ReferenceLaws p) (past : List Happening) where
  abbrev run : Groups
  run = group_at p count frames past

  module _ (are : PartiesAre count run.parties) (most : count ≤ 16)
      (knows : (k : ℕ) → k < count → (party_at run.parties k).told ≡ (call_at p count frames k past).known) where
    abbrev Told : ℕ → Type 0
    Told m = AllHaveTold p count frames past m

    all_then : (m : ℕ) → all_have run.parties m ≡ true → Told m
    all_then m all k few =
        let has = (laws.all run.parties m).0 all k (omega (arith, few, most, are.long)) (are.there k few) in
        let party = party_at run.parties k in
        ap (λ (l : List ℕ). is_among l m) (sym (knows k few))
        ∙ (and_parts (nat_le party.since m) (is_among party.told m) has).1

    then_all : (m : ℕ) → Told m → all_have run.parties m ≡ true
    then_all m told = (laws.all run.parties m).1 each
      where
        each : (k : ℕ) → k < length run.parties → (party_at run.parties k).present ≡ true
            → party_has (party_at run.parties k) m ≡ true
        each k below here = elim (cases_lt k count) [
          | inl few ↦ and_from (nat_le (party_at run.parties k).since m) (is_among (party_at run.parties k).told m)
              (le-leb (party_at run.parties k).since m (omega (arith, are.since k few)))
              (ap (λ (l : List ℕ). is_among l m) (knows k few) ∙ told k few)
          | inr far ↦ absurd (cc (sym (are.nobody_else k far) ∙ here))
        ]

    not_all : (m : ℕ) (b : Bool) → all_have run.parties m ≡ b → (Told m → ⊥) → all_have run.parties m ≡ false
    not_all m true is no_way = absurd (no_way (all_then m is))
    not_all m false is no_way = is

    newest_then : (m : ℕ) → IsNewestOfAll (rules_of p) run m → IsNewestTold p count frames past m
    newest_then m k = record {
      sent = k.sent;
      near = k.near;
      all = all_then m k.all;
      newest = λ j above below told. let wrong : true ≡ false = sym (then_all j told) ∙ k.newest j above below in
          absurd (cc wrong);
    }

    then_newest : (m : ℕ) → IsNewestTold p count frames past m → IsNewestOfAll (rules_of p) run m
    then_newest m k = record {
      sent = k.sent;
      near = k.near;
      all = then_all m k.all;
      newest = λ j above below. not_all j (all_have run.parties j) refl (λ told. k.newest j above below told);
    }

    pub refers : (frame : Frame) → slice_get frames (length run.coded) ≡ Some frame
        → RefersToNewest p count frames past
    refers frame there x m at =
        let next = next_of_group p (steady p) frame run in
        let with_frame : one_sends p (slice_get frames (length run.coded)) run
        ≡ group_after_code p (steady p) frame run = ap (λ (o : Option Frame). one_sends p o run) there in
        let is : next ≡ x = last_is run.coded next x
        (sym (ap (λ (g : Groups). slice_get g.coded (length run.coded)) with_frame) ∙ at) in
        let law = laws.reference (steady p) frame run m in (
          λ refer.
              let parts = law.0 (ap (λ (y : Coded Style Mb Picture). y.reference) is ∙ refer) in
              (newest_then m parts.0, parts.1),
          λ parts. sym (ap (λ (y : Coded Style Mb Picture). y.reference) is)
              ∙ law.1 (then_newest m parts.0, parts.1),
        )
