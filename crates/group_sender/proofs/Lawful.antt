-- What holds of every group, from its definitions.
use Rattle.std.proofs.Common.{◌≡◌, ℕ, suc, ◌+◌, ◌<◌, ◌≤◌, Bool, true, false, not, ◌&&◌, ◌||◌, refl, sym, ap, ◌∙◌, subst, arith, inl, inr, ◌⊎◌, List, [], ◌∷◌, Option, Some, None, length, leb, ltb, get_or}
use Rattle.std.specs.Prelude.{if◌then◌else◌, option_and_then}
use Rattle.std.specs.List.{list_all}
use Rattle.std.proofs.lemmas.Bool.{and_from, and_left, and_parts, cases_eq, le-leb, leb-true, lt-leb, lt-ltb, ltb-true}
use Rattle.std.proofs.lemmas.List.{get_or-set_same, get_or-set_other, length-set}
use Rattle.std.proofs.lemmas.List.Folds.{list_all_at}
use Rattle.call_model.specs.Numbers.{GreatestIs, greatest}
use Rattle.call_model.specs.Coding.{Rules, window, Pictures, Encoding}
use Rattle.call_model.specs.CodedPictures.{capture, depth_at, is_among, reference_for}
use Rattle.group_sender.specs.Laws.{AllHaveIs, FeedbackChangesOne, IsNewestOfAll, JoinChangesOne, JoinerHasNone, LeaveChangesOne, LeaverFrees, ReferenceIsNewestOfAll}
use Rattle.group_sender.specs.Parties.{Party, all_have, may_go_by, nobody, party_at, party_has, party_joined, party_left, with_party_at}

-- ---- what all have

-- a test of all holds where it holds of each
all_from : (p : Party → Bool) (l : List Party) → ((k : ℕ) → k < length l → p (get_or l k nobody) ≡ true)
    → list_all p l ≡ true
all_from p [] each = refl
all_from p (x ∷ xs) each = and_from (p x) (list_all p xs) (each 0 (omega arith))
    (all_from p xs (λ k below. each (suc k) (omega (arith, below))))

all_at : (p : Party → Bool) (l : List Party) (k : ℕ) → list_all p l ≡ true → k < length l → p (get_or l k nobody) ≡ true
all_at p l k all below = go (p (get_or l k nobody)) refl
  where
    go : (b : Bool) → p (get_or l k nobody) ≡ b → p (get_or l k nobody) ≡ true
    go true is = is
    go false is = let wrong : true ≡ false = sym all ∙ list_all_at p l k nobody below is in cc

or_there : (a b : Bool) → (not a || b) ≡ true → a ≡ true → b ≡ true
or_there true b either there = either
or_there false b either there = let wrong : false ≡ true = there in cc

or_either : (a b : Bool) → (a ≡ true → b ≡ true) → (not a || b) ≡ true
or_either true b given = given refl
or_either false b given = refl

pub all_have_is : AllHaveIs
all_have_is parties m = (
  λ all k below there. or_there (party_at parties k).present (party_has (party_at parties k) m)
      (all_at (may_go_by m) parties k all below) there,
  λ each. all_from (may_go_by m) parties (λ k below. or_either (party_at parties k).present
      (party_has (party_at parties k) m) (each k below)),
)

-- ---- the newest of all

module _ {Frame Style Mb Picture MessageFault : Type 0} (pictures : Pictures Style Mb Picture)
    (encoding : Encoding Frame Style Mb Picture MessageFault) (rules : Rules) where
  pub reference_is : GreatestIs → ReferenceIsNewestOfAll pictures encoding rules
  unfolding reference_for capture
  reference_is greatest_is pace frame run m = (λ is. found (greatest test n) refl is, λ newest. here newest.0 newest.1)
    where
      n : ℕ
      n = length run.coded

      test : ℕ → Bool
      test k = all_have run.parties k && leb n (k + window rules)

      grows : ℕ → Option ℕ
      grows k = if ltb (depth_at run.coded k) rules.chain then Some k else None

      not_all : (j : ℕ) → test j ≡ false → leb n (j + window rules) ≡ true → all_have run.parties j ≡ false
      not_all j fails near = go (all_have run.parties j) refl
        where
          go : (b : Bool) → all_have run.parties j ≡ b → all_have run.parties j ≡ false
          go false is = is
          go true is = let wrong : true
              ≡ false = sym (and_from (all_have run.parties j) (leb n (j + window rules)) is near) ∙ fails in cc

      newest_at : (k : ℕ) → greatest test n ≡ Some k → IsNewestOfAll rules run k
      newest_at k is =
          let parts = (greatest_is test n k).0 is in
          let both = and_parts (all_have run.parties k) (leb n (k + window rules)) parts.0 in
          let near : n ≤ k + window rules = leb-true n (k + window rules) both.1 in
          record {
            sent = parts.1;
            near = near;
            all = both.0;
            newest = λ j later below. not_all j (parts.2 j later below)
                (le-leb n (j + window rules) (omega (arith, near, later)));
          }

      kept : (k : ℕ) (b : Bool) → ltb (depth_at run.coded k) rules.chain ≡ b → greatest test n ≡ Some k
          → (let o : Option ℕ = if b then Some k else None in o) ≡ Some m
          → IsNewestOfAll rules run m × (depth_at run.coded m < rules.chain)
      kept k true low is same =
          let e : k ≡ m = cc in
          subst (λ (i : ℕ). IsNewestOfAll rules run i × (depth_at run.coded i < rules.chain)) e (
            newest_at k is,
            ltb-true (depth_at run.coded k) rules.chain low,
          )
      kept k false low is same = cc

      found : (o : Option ℕ) → greatest test n ≡ o → option_and_then grows o ≡ Some m → IsNewestOfAll rules run m
          × (depth_at run.coded m < rules.chain)
      found None is same = cc
      found (Some k) is same = kept k (ltb (depth_at run.coded k) rules.chain) refl is same

      here : IsNewestOfAll rules run m → depth_at run.coded m < rules.chain → option_and_then grows (greatest test n)
          ≡ Some m
      here newest low =
          let is : greatest test n ≡ Some m = (greatest_is test n m).1 (
            and_from (all_have run.parties m) (leb n (m + window rules)) newest.all
                (le-leb n (m + window rules) newest.near),
            newest.sent,
            λ j later below. and_left (all_have run.parties j) (leb n (j + window rules)) (newest.newest j later below),
          )
          in
          ap (option_and_then grows) is
          ∙ ap (λ (b : Bool). if b then Some m else None) (lt-ltb (depth_at run.coded m) rules.chain low)

  pub feedback_changes_one : FeedbackChangesOne pictures encoding rules
  feedback_changes_one k bytes run j apart = get_or-set_other run.parties k j _ nobody apart

-- ---- joining and leaving

module _ (Style Mb Picture : Type 0) where
  pub join_changes_one : JoinChangesOne Style Mb Picture
  join_changes_one k run j apart = get_or-set_other run.parties k j _ nobody apart

  pub leave_changes_one : LeaveChangesOne Style Mb Picture
  leave_changes_one k run j apart = get_or-set_other run.parties k j _ nobody apart

  pub joiner_has_none : JoinerHasNone Style Mb Picture
  joiner_has_none k m run there before =
      let now = with_party_at k (party_joined (length run.coded)) run.parties in
      list_all_at (may_go_by m) now k nobody
      (subst (λ (n : ℕ). k < n) (sym (length-set run.parties k (party_joined (length run.coded)))) there)
      (ap (may_go_by m) (get_or-set_same run.parties k (party_joined (length run.coded)) nobody there)
      ∙ ap (λ (b : Bool). b && is_among [] m) (lt-leb (length run.coded) m before))

  pub leaver_frees : LeaverFrees Style Mb Picture
  leaver_frees k m run others = all_from (may_go_by m) now
      (λ j below. each j (subst (λ (n : ℕ). j < n) (length-set run.parties k left) below) (cases_eq j k))
    where
      left : Party
      left = party_left (party_at run.parties k)

      now : List Party
      now = with_party_at k left run.parties

      each : (j : ℕ) → j < length run.parties → ((j ≡ k) ⊎ (j ≡ k → ⊥)) → may_go_by m (get_or now j nobody) ≡ true
      each j below (inl same) =
          ap (λ (i : ℕ). may_go_by m (get_or now i nobody)) same
          ∙ ap (may_go_by m) (get_or-set_same run.parties k left nobody
          (subst (λ (i : ℕ). i < length run.parties) same below))
      each j below (inr apart) = ap (may_go_by m) (get_or-set_other run.parties k j left nobody apart)
          ∙ others j below apart
