use Rattle.make_input.proofs.Near.{made_taken}
use Rattle.make_input.proofs.laws.made_calls_are_near.Goals as goal

pub returns : goal.returns
returns g c = λ coding rules pace frames seed lawful numbers paced half.
    made_taken coding rules pace frames seed c.searches.ensures.all_below
    (c.encoder_is_sound.ensures coding rules lawful numbers) numbers paced half
