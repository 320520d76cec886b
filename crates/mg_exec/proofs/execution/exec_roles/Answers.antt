use Rattle.mg_sources.specs.Files.{sources}
use Rattle.mg_exec.proofs.Apart.{only_run, refused_run}
use Rattle.mg_exec.proofs.execution.exec_roles.Goals as goal

pub returns-clause-only : goal.returns-clause-only
returns-clause-only c = λ names same.
    only_run (sources names c.args.contents.now) c.args.mains.now c.args.order.now c.args.limit c.args.named c.args.traced
    c.ran_roles.result (c.ran_roles.ensures names same)

pub returns-clause-refused : goal.returns-clause-refused
returns-clause-refused c = λ names same.
    refused_run (sources names c.args.contents.now) c.args.mains.now c.args.order.now c.args.limit c.args.named c.args.traced
    c.ran_roles.result (c.ran_roles.ensures names same)
