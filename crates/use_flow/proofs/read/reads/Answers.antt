use Rattle.std.proofs.lemmas.Result.{IfOk-weaker}
use Rattle.use_flow.proofs.Asked.{read_by}
use Rattle.use_flow.proofs.read.reads.Goals as goal

pub returns : goal.returns
returns c =
    IfOk-weaker c.reads_in.result _ _ (λ l e.
    read_by c.args.core.now c.in_ok-tables.tables c.args.context l.items c.in_ok-tables.ensures.made e) c.reads_in.ensures
