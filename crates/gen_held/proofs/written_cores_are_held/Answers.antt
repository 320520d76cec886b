use Rattle.gen_held.proofs.written_cores_are_held.Goals as goal
use Rattle.gen_held.proofs.Programs.{written_cores_are_held}

-- src/lib.rt:8:1
pub returns : goal.returns
returns c = written_cores_are_held
