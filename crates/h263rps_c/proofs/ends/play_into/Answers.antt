use Rattle.std.proofs.Common.{ap, ◌∙◌, ◌∷◌}
use Rattle.h263_types.specs.declared.params.Params.{Params}
use Rattle.h263_planes.specs.Samples.{bytes_of}
use Rattle.call_model.specs.Receiving.{PlayNext}
use Rattle.receiver_end.specs.State as receivers
use Rattle.h263rps_c.proofs.ends.play_into.Goals as goal

pub returns-clause-shown : goal.returns-clause-shown
returns-clause-shown c = λ past stands played.
    c.copy.ensures ∙ c.bytes.ensures
    ∙ ap bytes_of (c.shown-2.ensures.run (PlayNext ∷ past) (c.play-played.ensures.stands past stands)
    ∙ ap (λ (p : Params). (receivers.run_of p (PlayNext ∷ past)).screen) c.play-played.ensures.params)
