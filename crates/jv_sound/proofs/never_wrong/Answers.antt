use Rattle.jv_sound.proofs.Sound as laws
use Rattle.jv_sound.proofs.never_wrong.Goals as goal

pub returns : goal.returns
returns c = laws.never_wrong
