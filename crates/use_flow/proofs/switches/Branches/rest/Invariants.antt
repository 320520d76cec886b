use Rattle.std.proofs.Common.{◌≡◌, drop}
use Rattle.use_rules.specs.State.{joined}
use Rattle.use_flow.specs.inner.Switching.{spread, with_any, uncased_by}
use Rattle.use_flow.proofs.switches.Branches.rest.Given as goal

abbrev pub invariant-loop-constant : goal.invariant-loop-constant
invariant-loop-constant l =
    joined (with_any l.self.variable l.self.known l.rest)
    (uncased_by l.cased l.constant (spread l.self.variable l.self.known (drop l.constant l.self.sets.items)))
    ≡ uncased_by l.cased 0 (spread l.self.variable l.self.known l.self.sets.items)
