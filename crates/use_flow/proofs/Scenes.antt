-- What is found at a number among images.
use Rattle.std.proofs.lemmas.Option.{slice_get-map, get_or_from_slice_get}
use Rattle.std.proofs.lemmas.List.{get_or_past}
use Rattle.use_elements.proofs.Rests.{append_nil}

pub ruleset scenes = (slice_get-map, get_or_from_slice_get, get_or_past, append_nil)
