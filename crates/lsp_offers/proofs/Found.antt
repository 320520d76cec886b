-- What is found at a number.
use Rattle.std.proofs.lemmas.Option.{slice_get-map, get_or_from_slice_get}
use Rattle.std.proofs.lemmas.List.{get_or_past}

pub ruleset found = (slice_get-map, get_or_from_slice_get, get_or_past)
