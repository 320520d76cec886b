use Rattle.gen_sound.proofs.PlainMains as mains
use Rattle.gen_sound.proofs.linked_code_runs.Goals as goal

pub returns : goal.returns
returns c = mains.linked_code_runs
