-- A test of each of a list that was mapped.
use Rattle.std.proofs.lemmas.List.Folds.{list_all-map}

pub ruleset mapped = (list_all-map)
