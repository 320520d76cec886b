use Rattle.use_sights.proofs.Telling as laws
use Rattle.use_sights.proofs.sights_tell.Goals as goal

pub returns : goal.returns
returns c = record { tells = laws.sights_tell; grows = laws.before_grows }
