use Rattle.vm_model.proofs.BuiltLaws.{members_do}
use Rattle.vm_model.proofs.built.members_do_as_described.Goals as goal

pub returns : goal.returns
returns c = members_do
