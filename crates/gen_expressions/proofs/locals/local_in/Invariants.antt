use Rattle.std.proofs.Common.{◌≡◌, ◌≤◌, take, length}
use Rattle.std.specs.Prelude.{reverse}
use Rattle.gen_rules.specs.Locals.{local_of}
use Rattle.gen_expressions.proofs.locals.local_in.Given as goal

abbrev pub invariant-loop-below : goal.invariant-loop-below
invariant-loop-below l = record {
  within : l.below ≤ length l.slots;
  left : local_of l.kind (reverse (take l.below l.slots)) l.slot ≡ local_of l.kind (reverse l.slots) l.slot;
}

abbrev pub decreases-loop-below : goal.decreases-loop-below
decreases-loop-below l = l.below
