use Rattle.std.proofs.Common.{sym}
use Rattle.vm_load.proofs.Maps.{if_ok}
use Rattle.vm_load.proofs.Rising.{found_by_halving, missed_by_halving}
use Rattle.vm_load.proofs.code.number_of.Goals as goal

pub returns-in-Ok : goal.returns-in-Ok
returns-in-Ok c =
    if_ok _ _ (sym (found_by_halving c.args.starts.now c.args.place c.in-Ok.number c.binary_search.result c.requires
    c.binary_search.ensures.position c.in-Ok.is))
    c.listed.result c.listed.ensures

pub returns-in-Err : goal.returns-in-Err
returns-in-Err c =
    if_ok _ _ (sym (missed_by_halving c.args.starts.now c.args.place c.in-Err._next c.binary_search.result c.requires
    c.binary_search.ensures.position c.in-Err.is))
    c.listed-in-Err.result c.listed-in-Err.ensures
