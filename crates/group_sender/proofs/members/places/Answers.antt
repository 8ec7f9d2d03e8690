-- The members so far are nobody's, in the room that was taken for sixteen.
use Rattle.std.proofs.Common.{◌≡◌, ℕ, ◌+◌, ◌∙◌, ◌++◌, ◌∷◌, [], List, inl, inr, ap, arith, length, get_or, refl, subst, sym}
use Rattle.std.proofs.lemmas.Bool.{cases_lt}
use Rattle.std.proofs.lemmas.List.{get_or_append_left, get_or-replicate, length-append, length-replicate}
use Rattle.group_sender.specs.declared.member.Member.{Member}
use Rattle.group_sender.specs.Parties.{Party, nobody}
use Rattle.group_sender.specs.Standing.{MemberStands}
use Rattle.group_sender.proofs.members.places.Goals as goal

get_or_seam : (xs : List Member) (x other : Member) → get_or (xs ++ x ∷ []) (length xs) other ≡ x
get_or_seam [] x other = refl
get_or_seam (y ∷ xs) x other = get_or_seam xs x other

pub places-preserved : goal.places-preserved
places-preserved c =
    let before = c.places.members.items in
    let one = c.start.result in
    let items = c.push_reserved.ensures.items in
    let long : length c.push_reserved.new.self.items ≡ length before + 1 = ap (λ (l : List Member). length l) items
    ∙ length-append before (one ∷ []) in (
      omega (arith, long, c.places.invariant.0),
      omega (arith, c.push_reserved.ensures.len, c.places.invariant.1),
      c.push_reserved.ensures.capacity ∙ c.places.invariant.2,
      λ rules slots lead half chain j other below.
          subst (λ (l : List Member). MemberStands rules (get_or l j other) 0 nobody) (sym items)
          (elim (cases_lt j (length before)) [
            | inl early ↦ subst (λ (x : Member). MemberStands rules x 0 nobody)
                (sym (get_or_append_left before (one ∷ []) other j early))
                (c.places.invariant.3 rules slots lead half chain j other early)
            | inr late ↦
                let last : j ≡ length before = omega (arith, below, late, long) in
                subst (λ (i : ℕ). MemberStands rules (get_or (before ++ one ∷ []) i other) 0 nobody) (sym last)
                (subst (λ (x : Member). MemberStands rules x 0 nobody) (sym (get_or_seam before one other))
                (c.start.ensures rules slots lead half chain))
          ]),
    )

pub returns-clause-stands : goal.returns-clause-stands
returns-clause-stands c = λ rules slots lead half chain.
    let count : length c.places.members.items ≡ 16 = omega (
      arith,
      c.places.invariant.0,
      c.places-test.false,
      c.places.auto.k-end,
    ) in
    record {
      count = count ∙ sym (length-replicate 16 nobody);
      each = λ k other below.
          subst (λ (p : Party). MemberStands rules (get_or c.places.members.items k other) 0 p)
          (sym (get_or-replicate 16 k nobody nobody (omega (arith, below, count))))
          (c.places.invariant.3 rules slots lead half chain k other below);
    }
