use Rattle.std.proofs.Common.{rules}
use Rattle.scr_judge.proofs.Adding.{graph_more}
use Rattle.scr_judge.proofs.cycles.add_to.Goals as goal

pub returns : goal.returns
returns c =
    graph_more c.args.targets.now c.args.node _ c.extend_from_slice.new.self _ (search rules) c.in_ok-extend_from_slice.ensures.items
