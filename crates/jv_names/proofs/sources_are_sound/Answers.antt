use Rattle.jv_names.proofs.Sound as laws
use Rattle.jv_names.proofs.sources_are_sound.Goals as goal

pub returns : goal.returns
returns c = laws.sources_are_sound
