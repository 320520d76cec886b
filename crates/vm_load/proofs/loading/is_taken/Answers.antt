use Rattle.vm_load.proofs.Loads.{taken, not_taken}
use Rattle.vm_load.proofs.loading.is_taken.Goals as goal

pub returns-in-Some : goal.returns-in-Some
returns-in-Some c = taken c.args.names.now c.args.name.now _ c.in-Some.ensures

pub returns-in-None : goal.returns-in-None
returns-in-None c = not_taken c.args.names.now c.args.name.now _ c.in-None.ensures c.is_built_in.ensures
