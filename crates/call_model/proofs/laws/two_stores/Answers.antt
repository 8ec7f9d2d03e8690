use Rattle.call_model.proofs.TwoStores.{two_stores}
use Rattle.call_model.proofs.laws.two_stores.Goals as goal

pub returns : goal.returns
returns g c coding rules pace frames past lawful ruled range near = two_stores coding rules lawful ruled pace frames
    range past near
