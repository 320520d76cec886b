use Rattle.mg_accepted_law.proofs.Kept as laws
use Rattle.mg_accepted_law.proofs.accepted_keep_typestates.Goals as goal

pub returns : goal.returns
returns c = laws.accepted_keep c.spelled_is_shaped.ensures c.mains_are_the_same.ensures c.sources_keep_typestates.ensures
