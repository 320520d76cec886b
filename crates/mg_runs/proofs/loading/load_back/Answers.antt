use Rattle.std.proofs.Common.{List, map, ap, subst, ◌∙◌}
use Rattle.cls_tree.specs.Tree.{Class as File}
use Rattle.cls_tree.specs.View.{class_of as file_of}
use Rattle.vm_model.specs.Links.{Links}
use Rattle.vm_load.specs.Faults.{IsRefused}
use Rattle.mg_runs.proofs.Sound.{have_files, one_spelled_list, refused_never}
use Rattle.mg_runs.proofs.loading.load_back.Goals as goal

pub read_all-requires : goal.read_all-requires
read_all-requires c = have_files c.args.core.now c.args.files.now c.requires.made

pub unreachable-requires : goal.unreachable-requires
unreachable-requires c =
    let (sources, have) = c.requires.files in
    let (read, spelled, links) = c.written_classes_link.ensures sources c.args.core.now c.args.files.now have c.requires.made in
    let same = one_spelled_list _ (map file_of c.in_ok-classes.classes.items) read c.in_ok-classes.ensures spelled in
    refused_never c.in-Err.fault read links.right c.in_default.not-Memory
    (subst (IsRefused c.in-Err.fault) (ap (map file_of) c.as_slice.ensures.items ∙ same) c.in-Err.ensures.refused)

pub returns-in-Ok : goal.returns-in-Ok
returns-in-Ok c = (
  map file_of c.in_ok-classes.classes.items,
  c.in_ok-classes.ensures,
  subst (λ (z : List File). Links z c.in-Ok.linked) (ap (map file_of) c.as_slice.ensures.items)
      c.in-Ok.ensures.found,
)
