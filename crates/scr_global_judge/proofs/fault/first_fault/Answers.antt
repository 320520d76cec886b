use Rattle.std.proofs.Common.{subst}
use Rattle.std.proofs.lemmas.Result.{IfOk-weaker}
use Rattle.mg_read.specs.First.{FirstOf}
use Rattle.scr_global_tree.specs.Faults.{Of}
use Rattle.scr_global_tree.specs.Written.{written_of}
use Rattle.scr_judge.specs.Fault.{fault_of}
use Rattle.scr_global_judge.proofs.fault.first_fault.Goals as goal

pub returns : goal.returns
returns c =
    IfOk-weaker c.first_of.result _ _ (λ r f. subst (λ ks. FirstOf (Of (written_of c.args.file c.args.written.now)) ks (fault_of r))
    c.as_slice-order.ensures f) c.first_of.ensures
