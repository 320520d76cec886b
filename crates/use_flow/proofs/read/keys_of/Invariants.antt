use Rattle.std.proofs.Common.{◌≡◌, ◌++◌, drop, map}
use Rattle.use_flow.proofs.read.keys_of.Given as goal

abbrev pub invariant-loop-entry : goal.invariant-loop-entry
invariant-loop-entry l = l.keys.items ++ map (λ e. e.key) (drop l.entry-index l.entries) ≡ map (λ e. e.key) l.entries
