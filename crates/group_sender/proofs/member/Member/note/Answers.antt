use Rattle.std.proofs.Common.{◌≡◌, ℕ, ◌<◌, Bool, true, false, ◌||◌, ◌++◌, Some, refl, sym, ap, ◌∙◌, subst, arith, eqb}
use Rattle.std.specs.Prelude.{if◌then◌else◌}
use Rattle.std.proofs.lemmas.List.Folds.{list_any-append}
use Rattle.h263_types.specs.Clocks.{half_of}
use Rattle.h263_types.specs.declared.clock.Clock.{Clock}
use Rattle.h263_types.specs.declared.clock.Clock.TheVariants.{Standard, Custom}
use Rattle.reference_selector.specs.Messages.{message_of}
use Rattle.call_model.specs.CodedPictures.{is_among}
use Rattle.call_model.specs.Sending.{known_by_feedback}
use Rattle.group_sender.specs.Parties.{Party}
use Rattle.group_sender.specs.Standing.{MemberStands}
use Rattle.group_sender.proofs.Saying.{said_below}
use Rattle.group_sender.proofs.member.Member.note.Goals as goal

some_half : (clock : Clock) → 0 < half_of clock
some_half Standard = omega arith
some_half Custom = omega arith

either_below : (sent m : ℕ) (a b : Bool) → (a || b) ≡ true → (a ≡ true → m < sent) → (b ≡ true → m < sent) → m < sent
either_below sent m true b is left right = left refl
either_below sent m false b is left right = right is

pub returns-clause-said : goal.returns-clause-said
returns-clause-said c rules party stands =
    let sent = c.args.sent in
    let numbers = known_by_feedback rules sent (Some (message_of c.args.message.now)) in
    let some : 0 < rules.half = subst (λ (h : ℕ). 0 < h) (sym stands.selects.half)
    (some_half c.args.self.now.selector.clock) in
    let here : party.present ≡ true = sym stands.present ∙ c.requires.present in
    let heard : Party = record party { told = numbers ++ party.told } in
    let stands_so : MemberStands rules (record (c.args.self.now) { selector = c.note.new.self }) sent heard = record {
      present = stands.present;
      since = stands.since;
      said = λ m. is_among numbers m || stands.said m;
      selects = c.note.ensures.known rules (λ m. 0) stands.said stands.selects;
      were_sent = λ m is. either_below sent m (is_among numbers m) (stands.said m) is
          (said_below rules sent (message_of c.args.message.now) some m) (stands.were_sent m);
      same = λ m late. ap (λ (b : Bool). is_among numbers m || b) (stands.same m late)
          ∙ sym (list_any-append (λ q. eqb q m) numbers party.told);
    } in
    subst (λ (b : Bool). MemberStands rules (record (c.args.self.now) { selector = c.note.new.self }) sent
    (if b then heard else party)) (sym here) stands_so
