-- Places that stand for receivers, one after the other.
use Rattle.std.proofs.Common.{◌≡◌, ℕ, ◌+◌, ◌<◌, ◌≤◌, Bool, true, false, ◌&&◌, sym, ap, ◌∙◌, subst, arith, inl, inr, ◌⊎◌, List, length, get_or, set}
use Rattle.std.specs.Prelude.{take}
use Rattle.std.specs.List.{list_all}
use Rattle.std.proofs.lemmas.Bool.{cases_eq}
use Rattle.std.proofs.lemmas.List.{get_or-set_same, get_or-set_other, length-set}
use Rattle.std.proofs.lemmas.List.Folds.{list_all_at, list_all_more}
use Rattle.call_model.specs.Coding.{Rules}
use Rattle.group_sender.specs.declared.member.Member.{Member}
use Rattle.group_sender.specs.Parties.{Party, all_have, may_go_by, nobody, party_at}
use Rattle.group_sender.specs.Standing.{MemberStands, MembersStand}

-- one receiver more may be gone by
pub one_more : (m k : ℕ) (parties : List Party) → k < length parties → list_all (may_go_by m) (take k parties) ≡ true
    → may_go_by m (party_at parties k) ≡ true
    → list_all (may_go_by m) (take (k + 1) parties) ≡ true
one_more m k parties below before here =
    list_all_more (may_go_by m) parties k nobody below
    ∙ ap (λ (b : Bool). b && may_go_by m (party_at parties k)) before
    ∙ here

-- one may not be
pub not_one : (m k : ℕ) (parties : List Party) → k < length parties → may_go_by m (party_at parties k) ≡ false
    → all_have parties m ≡ false
not_one m k parties below here = list_all_at (may_go_by m) parties k nobody below here

-- the places below k were told of one picture more
pub record AreTold (rules : Rules) (members : List Member) (number k : ℕ) (parties : List Party) : Type 0 where
  pub count : length members ≡ length parties
  pub told : (j : ℕ) (other : Member) → j < k → j < length members
      → MemberStands rules (get_or members j other) (number + 1) (party_at parties j)
  pub left : (j : ℕ) (other : Member) → k ≤ j → j < length members
      → MemberStands rules (get_or members j other) number (party_at parties j)

pub told_none : (rules : Rules) (members : List Member) (number : ℕ) (parties : List Party)
    → MembersStand rules members number parties → AreTold rules members number 0 parties
told_none rules members number parties stand = record {
  count = stand.count;
  told = λ j other low below. absurd (omega (arith, low));
  left = λ j other low below. stand.each j other below;
}

pub told_all : (rules : Rules) (members : List Member) (number k : ℕ) (parties : List Party) → length members ≤ k
    → AreTold rules members number k parties
    → MembersStand rules members (number + 1) parties
told_all rules members number k parties all told = record {
  count = told.count;
  each = λ j other below. told.told j other (omega (arith, all, below)) below;
}

-- place k is told too
pub told_one : (rules : Rules) (members : List Member) (number k : ℕ) (parties : List Party) (new : Member)
    → k < length members → AreTold rules members number k parties
    → MemberStands rules new (number + 1) (party_at parties k)
    → AreTold rules (set members k new) number (k + 1) parties
told_one rules members number k parties new low told one = record {
  count = length-set members k new ∙ told.count;
  told = λ j other small below. here j other small below (cases_eq j k);
  left = λ j other late below.
      let apart : j ≡ k → ⊥ = λ e. omega (arith, e, late) in
      subst (λ (x : Member). MemberStands rules x number (party_at parties j))
      (sym (get_or-set_other members k j new other apart))
      (told.left j other (omega (arith, late)) (subst (λ (n : ℕ). j < n) (length-set members k new) below));
}
  where
    here : (j : ℕ) (other : Member) → j < k + 1 → j < length (set members k new) → ((j ≡ k) ⊎ (j ≡ k → ⊥))
        → MemberStands rules (get_or (set members k new) j other) (number + 1) (party_at parties j)
    here j other small below (inl same) =
        subst (λ (i : ℕ). MemberStands rules (get_or (set members k new) i other) (number + 1) (party_at parties i))
        (sym same)
        (subst (λ (x : Member). MemberStands rules x (number + 1) (party_at parties k))
        (sym (get_or-set_same members k new other low)) one)
    here j other small below (inr apart) =
        subst (λ (x : Member). MemberStands rules x (number + 1) (party_at parties j))
        (sym (get_or-set_other members k j new other apart))
        (told.told j other (omega (arith, small, apart)) (subst (λ (n : ℕ). j < n) (length-set members k new) below))
