use Rattle.std.proofs.Common.{◌≡◌, ◌++◌, map}
use Rattle.gen_pool.specs.Keys.{const_of}
use Rattle.gen_pool.proofs.pool.Pool.into_consts.Given as goal

-- the constants so far, and those of the keys that are left
abbrev pub invariant-loop-key : goal.invariant-loop-key
invariant-loop-key l = l.consts.items ++ map const_of l.key-iterator ≡ l.fn.self
