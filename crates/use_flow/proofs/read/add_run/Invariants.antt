use Rattle.std.proofs.Common.{◌≡◌, ◌++◌, ◌-◌, Some}
use Rattle.use_flow.specs.inner.Reading.{run_entries, run_of}
use Rattle.use_flow.proofs.read.add_run.Given as goal

abbrev pub invariant-loop-context : goal.invariant-loop-context
invariant-loop-context l = l.entries.items ++ run_entries (Some l.class) l.context (l.to - l.context) ≡ l.initial.entries.items
    ++ run_of (Some l.class) l.from l.to
