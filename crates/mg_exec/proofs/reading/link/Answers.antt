use Rattle.std.proofs.Common.{map}
use Rattle.cls_tree.specs.View.{class_of as file_of}
use Rattle.mg_exec.proofs.Shown.{unlinked}
use Rattle.mg_exec.proofs.reading.link.Goals as goal

pub returns-in-Err : goal.returns-in-Err
returns-in-Err c = unlinked (map file_of c.args.classes.now) c.in-Err.fault c.stop_of_load.result c.in-Err.ensures.refused
    c.stop_of_load.ensures
