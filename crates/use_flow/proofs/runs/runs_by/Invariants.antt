use Rattle.std.proofs.Common.{◌≡◌, ◌++◌, drop, length, map}
use Rattle.jv_core.specs.View.{method_of}
use Rattle.use_flow.specs.Runs.{starts_from, starts_in}
use Rattle.use_flow.proofs.runs.runs_by.Given as goal

abbrev pub invariant-loop-place : goal.invariant-loop-place
invariant-loop-place l =
    l.starts.items ++ starts_from l.core l.reached (length l.entered.contexts.items) l.place (map method_of (drop l.place l.methods))
    ≡ starts_in l.core l.reached
