use Rattle.std.proofs.Common.{sym}
use Rattle.mg_runs.proofs.Naming.{main_of_class, no_class}
use Rattle.mg_runs.proofs.mains.has_main.Goals as goal

pub returns-in-Some : goal.returns-in-Some
returns-in-Some c = main_of_class c.args.core.now c.args.class.now c.in-Some.number _ (sym c.in-Some.ensures)
    c.has_main_in.ensures

pub returns-in-None : goal.returns-in-None
returns-in-None c = no_class c.args.core.now c.args.class.now (sym c.in-None.ensures)
