use Rattle.jv_meaning.proofs.Examples as examples
use Rattle.jv_meaning.proofs.examples_are_computed.Goals as goal

pub returns : goal.returns
returns c = record { small = examples.small; programs = examples.programs; roles = examples.roles; followed = examples.followed }
