use Rattle.std.proofs.Common.{◌≡◌, drop}
use Rattle.use_rules.specs.State.{joined}
use Rattle.use_flow.specs.inner.Followed.{Followed}
use Rattle.use_flow.specs.inner.Switching.{with_any, rest_of, nows_of, entry_of}
use Rattle.use_flow.proofs.switches.Sprouts.entry.Given as goal

abbrev pub invariant-loop-label : goal.invariant-loop-label
invariant-loop-label l =
    (s : Followed) → joined (with_any l.self.branches.variable l.self.branches.known l.all)
    (entry_of s (rest_of l.self) (nows_of l.self) (drop l.label-index l.labels))
    ≡ entry_of s (rest_of l.self) (nows_of l.self) l.labels
