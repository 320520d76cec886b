use Rattle.std.proofs.Common.{◌≡◌, map, drop}
use Rattle.std.specs.List.{list_any}
use Rattle.gen_rules.specs.Limits.{is_long}
use Rattle.gen_pool.specs.Keys.{const_of}
use Rattle.gen_members.proofs.texts.has_long.Given as goal

abbrev pub invariant-loop-key : goal.invariant-loop-key
invariant-loop-key l = list_any is_long (map const_of (drop l.key-index l.keys)) ≡ list_any is_long (map const_of l.keys)
