use Rattle.std.proofs.Common.{subst}
use Rattle.vm_model.specs.View.{args_of}
use Rattle.vm_load.specs.Faults.{Judges}
use Rattle.vm_load.specs.Outlines.{outlines_of}
use Rattle.vm_load.proofs.Standing.{same_judged}
use Rattle.vm_load.proofs.uses.judge_use.Goals as goal

pub returns-clause-judges : goal.returns-clause-judges
returns-clause-judges c =
    subst (λ r. Judges args_of c.judge_known.result r)
    (same_judged (outlines_of c.args.outlines.now) c.args.pool.now c.args.op c.same_constant-same.result c.args.number
    c.same_constant-same.ensures) c.judge_known.ensures.judges
