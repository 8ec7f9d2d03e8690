-- The next picture is kept, or it is patched and is no kept one.
use Rattle.std.proofs.Common.{◌≡◌, Bool, false, ap, sym, ◌∙◌, subst}
use Rattle.receiver_end.specs.declared.kept.Kept.{Kept}
use Rattle.receiver_end.specs.State.{slot_holds}
use Rattle.receiver_end.specs.Steps.{IsShownIn}
use Rattle.receiver_end.proofs.kept.Kept.show.Goals as goal

pub returns : goal.returns
returns c =
    let r = c.args.self.now in let s = c.patch.new.self.store in
    let part : false ≡ slot_holds r.params r.store r.played = sym c.if-holds.false ∙ c.holds.ensures.value in (
      ap (λ (x : Kept). record x { exact = false }) c.patch.ensures.0
          ∙ ap (λ (t : Bool). record r { exact = t; store = s }) part,
      subst (λ (t : Bool). IsShownIn r t s) part
          c.patch.ensures.1,
    )
