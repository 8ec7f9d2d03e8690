use Rattle.std.proofs.Common.{◌≡◌, ◌+◌, ◌∙◌, ◌&&◌, Bool, true, not, ap, leb, sym}
use Rattle.std.specs.Prelude.{is_some}
use Rattle.call_model.specs.Coding.{window as window_of}
use Rattle.call_model.specs.Numbers.{greatest}
use Rattle.group_sender.specs.Parties.{party_has}
use Rattle.group_sender.proofs.waiting.is_late.Goals as goal

pub returns : goal.returns
returns c = λ rules party stands is wide.
    let sent = c.args.sent in
    let here : party.present ≡ true = sym stands.present ∙ sym c.is_present.ensures ∙ c.if-not-is_present.false in
    let some = is_some (greatest (λ m. party_has party m && leb sent (m + window_of rules)) sent) in
    ap not (c.has_one.ensures rules party stands is wide) ∙ sym (ap (λ (b : Bool). b && not some) here)
