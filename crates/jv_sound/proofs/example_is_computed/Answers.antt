use Rattle.jv_sound.proofs.Examples as examples
use Rattle.jv_sound.proofs.example_is_computed.Goals as goal

pub returns : goal.returns
returns c = examples.counter_runs
