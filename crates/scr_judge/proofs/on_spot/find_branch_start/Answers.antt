use Rattle.std.specs.Option.{is_some}
use Rattle.scr_tree.specs.View.{statements}
use Rattle.scr_tree.specs.Conditions.{BranchStart}
use Rattle.scr_judge.specs.inner.OnSpot.{branch_start}
use Rattle.scr_judge.proofs.SpotWalk.{first_asked}
use Rattle.scr_judge.proofs.Asking.{start_right}
use Rattle.scr_judge.proofs.on_spot.find_branch_start.Goals as goal

pub returns : goal.returns
returns c = first_asked BranchStart (λ begins around. branch_start (is_some begins)) start_right (statements c.args.body.now) _
    c.find_all.ensures
