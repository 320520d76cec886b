use Rattle.scr_global_parse.proofs.Answered.{same_tree}
use Rattle.scr_global_parse.proofs.one_tree.Goals as goal

pub returns : goal.returns
returns c = same_tree
