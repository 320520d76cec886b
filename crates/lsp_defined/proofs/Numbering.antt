-- What is found at a number among images.
use Rattle.std.proofs.lemmas.List.{get_or_past}
use Rattle.std.proofs.lemmas.Option.{slice_get-map, get_or_from_slice_get}

pub ruleset numbering = (slice_get-map, get_or_from_slice_get, get_or_past)
