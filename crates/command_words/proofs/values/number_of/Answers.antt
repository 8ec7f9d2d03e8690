use Rattle.std.proofs.Common.{◌≡◌, ◌∙◌, ◌<◌, ◌^◌, true, Some, ap, sym, refl, subst}
use Rattle.std.specs.Prelude.{IfSome, Option, ℕ}
use Rattle.std.specs.Result.{result_ok}
use Rattle.std.specs.Str.Parse.{digits_value}
use Rattle.command_words.specs.Values.{is_number, number_in}
use Rattle.command_words.proofs.Numbers.{number_below, number_read}
use Rattle.command_words.proofs.values.number_of.Goals as goal

pub returns-then-is_number-clause-value : goal.returns-then-is_number-clause-value
returns-then-is_number-clause-value c =
    let yes : is_number c.args.most c.args.text.now ≡ true = rw c.as_bytes.ensures.value at (sym c.is_number.ensures
    ∙ c.if-is_number.true) in
    let is = number_read _ c.args.most c.args.text.now _ yes c.requires c.parse.ensures.value.0 in
    let told : Some (digits_value 10 c.args.text.now) ≡ number_in c.args.most c.args.text.now = rw yes refl in
    c.ok.ensures.value ∙ (ap result_ok is ∙ told)

pub returns-then-is_number-clause-below : goal.returns-then-is_number-clause-below
returns-then-is_number-clause-below c =
    let yes : is_number c.args.most c.args.text.now ≡ true = rw c.as_bytes.ensures.value at (sym c.is_number.ensures
    ∙ c.if-is_number.true) in
    let is = number_read _ c.args.most c.args.text.now _ yes c.requires c.parse.ensures.value.0 in
    subst (λ (o : Option ℕ). IfSome o (λ n. n < 10 ^ c.args.most)) (sym (c.ok.ensures.value ∙ ap result_ok is))
    (number_below c.args.most c.args.text.now yes)
