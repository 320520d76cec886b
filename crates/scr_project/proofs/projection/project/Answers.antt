use Rattle.scr_global_tree.specs.Global.{tree_of}
use Rattle.scr_project.proofs.Answered.{only_of}
use Rattle.scr_project.proofs.projection.project.Goals as goal

pub returns-clause-answered : goal.returns-clause-answered
returns-clause-answered c = c.project_of.ensures.right

pub returns-clause-only : goal.returns-clause-only
returns-clause-only c = only_of (tree_of c.args.global.now) c.args.role.now c.project_of.result c.project_of.ensures

pub returns-clause-nothing : goal.returns-clause-nothing
returns-clause-nothing c = c.project_of.ensures.answers
