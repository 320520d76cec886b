use Rattle.scr_global_tree.specs.View.{statements}
use Rattle.scr_global_judge.proofs.RoleWalk.{first_self}
use Rattle.scr_global_judge.proofs.roles.find_peer_is_self.Goals as goal

pub returns : goal.returns
returns c = first_self (statements c.args.body.now) _ c.find_all.ensures
