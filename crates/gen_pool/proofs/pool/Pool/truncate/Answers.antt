use Rattle.std.proofs.Common.{map, ap}
use Rattle.std.proofs.lemmas.List.{take-map}
use Rattle.gen_pool.specs.Keys.{const_of}
use Rattle.gen_pool.proofs.pool.Pool.truncate.Goals as goal

pub returns : goal.returns
returns c = rw (← c.self.view_is, take-map) (ap (map const_of) c.truncate.ensures.keys)
