-- What expressions and statements say, by their kinds.
use Rattle.std.proofs.lemmas.Grind.{common_steps}
use Rattle.std.proofs.lemmas.Option.{slice_get-map, get_or_from_slice_get}
use Rattle.std.proofs.lemmas.List.{get_or_past}
use Rattle.jv_core.proofs.ViewLaws.{views}

pub ruleset seen = (common_steps, views)

pub ruleset found = (slice_get-map, get_or_from_slice_get, get_or_past)
