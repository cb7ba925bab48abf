use Rattle.network.proofs.Supposed.{all_near}
use Rattle.network.proofs.met.clocks_are_near.Goals as goal

pub returns : goal.returns
returns g c = λ error ks all. all_near g.K.Clock.reading g.K.Clock.bound g.met.K.Clock.near error ks all
