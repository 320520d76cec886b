use Rattle.std.proofs.Common.{slice_get}
use Rattle.std.proofs.lemmas.Result.{IfOk-weaker}
use Rattle.vm_world.proofs.Going.{less_room, all_come}
use Rattle.vm_world.proofs.world.World.take_at_once.Goals as goal

pub take_turns-requires-clause-count : goal.take_turns-requires-clause-count
take_turns-requires-clause-count c =
    less_room (slice_get c.args.self.now.world.roles c.args.role) c.most_at_once.result c.args.left c.most_at_once.ensures.within
    c.requires.room

pub returns-clause-come : goal.returns-clause-come
returns-clause-come c =
    IfOk-weaker c.take_turns.result _ _
    (λ k most. all_come k c.most_at_once.result c.args.count c.args.left most c.most_at_once.ensures.come) c.take_turns.ensures.most
