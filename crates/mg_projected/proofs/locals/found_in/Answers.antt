use Rattle.std.proofs.Common.{refl}
use Rattle.scr_global_tree.specs.Global.{tree_of}
use Rattle.scr_global_read.specs.Outcome as reads
use Rattle.mg_projected.proofs.Staged.{told_unprojected, told_unread}
use Rattle.mg_projected.proofs.locals.found_in.Goals as goal

pub returns-in-Ok-locals_of : goal.returns-in-Ok-locals_of
returns-in-Ok-locals_of c =
    let g = tree_of c.in-Ok.global in
    (c.in-Ok.ensures.answered (reads.Protocol g) refl, c.in-Ok-locals_of.ensures)

pub returns-in-Err-locals_of : goal.returns-in-Err-locals_of
returns-in-Err-locals_of c =
    let g = tree_of c.in-Ok.global in
    told_unprojected c.args.file c.args.bytes.now g c.in-Err-locals_of.fault c.unprojected.result
    (c.in-Ok.ensures.answered (reads.Protocol g) refl) c.in-Err-locals_of.ensures c.unprojected.ensures

pub returns-in-Err : goal.returns-in-Err
returns-in-Err c = told_unread c.args.file c.args.bytes.now c.in-Err.fault c.unread.result c.in-Err.ensures.answered c.unread.ensures
