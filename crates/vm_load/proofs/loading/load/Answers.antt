use Rattle.std.proofs.Common.{map, ap, ◌∙◌}
use Rattle.cls_tree.specs.View.{class_of}
use Rattle.vm_load.specs.Outlines.{outlines_of}
use Rattle.vm_load.proofs.Loads.{links}
use Rattle.vm_load.proofs.Keeping.{keeps}
use Rattle.vm_load.proofs.loading.load.Goals as goal

pub judge_classes-requires-clause-same : goal.judge_classes-requires-clause-same
judge_classes-requires-clause-same c = ap outlines_of c.as_slice-known.ensures.value ∙ c.in_ok-outlines.ensures

pub new-requires : goal.new-requires
new-requires c =
    keeps (map class_of c.args.classes.now) _
    (links (outlines_of c.as_slice-known.result.now) (map class_of c.args.classes.now) _
    (ap outlines_of c.as_slice-known.ensures.value ∙ c.in_ok-outlines.ensures)
    c.in-Ok.ensures.distinct c.in-Ok-judge_classes.ensures.none c.in-Ok-judge_classes.ensures.right)

pub returns-in-Ok-judge_classes-clause-found : goal.returns-in-Ok-judge_classes-clause-found
returns-in-Ok-judge_classes-clause-found c =
    links (outlines_of c.as_slice-known.result.now) (map class_of c.args.classes.now) _
    (ap outlines_of c.as_slice-known.ensures.value ∙ c.in_ok-outlines.ensures)
    c.in-Ok.ensures.distinct c.in-Ok-judge_classes.ensures.none (c.new.ensures ∙ c.in-Ok-judge_classes.ensures.right)
