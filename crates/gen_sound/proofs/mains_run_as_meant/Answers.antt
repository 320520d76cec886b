use Rattle.gen_sound.proofs.PlainMains as mains
use Rattle.gen_sound.proofs.mains_run_as_meant.Goals as goal

pub returns : goal.returns
returns c = mains.mains_agree
