use Rattle.vm_world_law.proofs.Alone.{kept_by}
use Rattle.vm_world_law.proofs.roles_run_alone.Goals as goal

pub returns : goal.returns
returns c = λ p w fresh order r start role begins stands later q begin. (kept_by p w fresh order).alone r start role begins stands later q
    begin
