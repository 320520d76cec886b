-- A search for a method from the front on.
use Rattle.std.proofs.lemmas.Grind.{common_steps}
use Rattle.ts_tree.proofs.Searches.{offered_in-drop, offered_in-past}

pub ruleset offering = (common_steps, offered_in-drop, offered_in-past)
