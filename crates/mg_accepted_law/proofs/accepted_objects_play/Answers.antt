use Rattle.mg_accepted_law.proofs.Accepted as laws
use Rattle.mg_accepted_law.proofs.accepted_objects_play.Goals as goal

pub returns : goal.returns
returns c = laws.accepted_play c.acts_are_steps.ensures c.held_is_had.ensures c.accepted_keep_typestates.ensures
