use Rattle.mg_accepted.proofs.Usages.{usages_right}
use Rattle.mg_faults.proofs.Found.{all_told}
use Rattle.mg_faults.proofs.judged.by_usages.Goals as goal

pub accepted-requires : goal.accepted-requires
accepted-requires c = (c.args.core, c.in_ok-usages.ensures)

pub returns-in-Ok : goal.returns-in-Ok
returns-in-Ok c = λ files have.
    usages_right files (record { core = c.args.core; accepted = c.in-Ok.accepted }) have
    (c.in-Ok.ensures.accepted c.args.core c.in_ok-usages.ensures).1

pub returns-in_ok-said-in-Err : goal.returns-in_ok-said-in-Err
returns-in_ok-said-in-Err c = λ files have.
    all_told files c.args.core have c.in_ok-usages.usages c.in_ok-usages.ensures c.in-Err.failed.items c.in-Err.ensures.failed.0
    c.in-Err.ensures.failed.1 c.in_ok-said-in-Err.said.items c.in_ok-said-in-Err.ensures
