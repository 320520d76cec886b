use Rattle.std.proofs.Common.{length, map, ap, sym, ◌∙◌, subst}
use Rattle.std.specs.List.{AllByRecursion}
use Rattle.cls_tree.specs.View.{class_of as file_of}
use Rattle.gen_links.specs.Spelled.{IsSpelled}
use Rattle.mg_compile.proofs.Ready.{all_spelled, one_each}
use Rattle.mg_compile.proofs.Given.{excess_given}
use Rattle.mg_compile.proofs.files.class_files.Goals as goal

pub write_all-requires-clause-spelled : goal.write_all-requires-clause-spelled
write_all-requires-clause-spelled c =
    subst (AllByRecursion IsSpelled) (sym (ap (map file_of) c.as_slice.ensures.items))
    (all_spelled c.spelled_is_shaped.ensures c.core_is_kept.ensures c.written_cores_are_held.ensures c.members_are_few.ensures.few
    c.files_fit.ensures.cores c.args.core.now c.requires (map file_of c.in-Ok.classes.items) c.in-Ok.ensures.made
    c.in-Ok.ensures.fine)

pub write_all-requires-clause-same : goal.write_all-requires-clause-same
write_all-requires-clause-same c =
    one_each c.args.core.now c.classes.result.now c.in-Ok.classes.items c.classes.ensures c.in-Ok.ensures.made
    ∙ sym (ap length c.as_slice.ensures.items)

pub returns-in-Err : goal.returns-in-Err
returns-in-Err c = excess_given c.args.core.now c.in-Err.fault c.stop_of.result c.in-Err.ensures.fault c.stop_of.ensures
