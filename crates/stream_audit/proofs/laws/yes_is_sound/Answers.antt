use Rattle.std.proofs.Common.{◌∙◌, ap}
use Rattle.stream_audit.specs.declared.verdict.Verdict.TheVariants.{Yes}
use Rattle.stream_audit.proofs.Approved.{sound_is_yes}
use Rattle.stream_audit.proofs.Verdicts.{yes_is_sound}
use Rattle.stream_audit.proofs.laws.yes_is_sound.Goals as goal

pub returns : goal.returns
returns g c decoding read rules lawful past count =
    let below = c.searches.ensures.all_below in (
      yes_is_sound decoding read rules lawful below past count,
      λ sound. sound_is_yes decoding read rules lawful below past sound.0 sound.2 ∙ ap Yes sound.1,
    )
