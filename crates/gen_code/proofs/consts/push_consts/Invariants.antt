use Rattle.std.proofs.Common.{◌≡◌, ◌++◌, map, drop}
use Rattle.gen_pool.specs.Keys.{const_of}
use Rattle.gen_pool.specs.Made.{IsFrontOf}
use Rattle.gen_code.proofs.consts.push_consts.Given as goal

-- the constants so far, and those of the keys that are left, and the old ones are kept
abbrev pub invariant-loop-key : goal.invariant-loop-key
invariant-loop-key l =
    (l.entries.items ++ map const_of (drop l.key-index l.fn.keys) ≡ l.fn.entries.items ++ map const_of l.fn.keys)
    × IsFrontOf l.fn.entries.items l.entries.items
