use Rattle.std.proofs.Common.{◌≡◌, ◌++◌, drop, string_bytes}
use Rattle.std.specs.List.{flat_map}
use Rattle.mg_sets.specs.Sets.{members, members_from}
use Rattle.jv_core.specs.View.{class_of}
use Rattle.use_check.specs.Report.{state_lines}
use Rattle.use_check.specs.inner.Reported.{seen}
use Rattle.use_check.proofs.lines.Reporter.put_class.Given as goal

abbrev pub invariant-loop-state : goal.invariant-loop-state
invariant-loop-state l =
    string_bytes l.out ++ flat_map (state_lines (seen l.self) l.number (class_of l.class)) (members_from l.state (drop l.state l.states))
    ≡ string_bytes l.initial.out ++ flat_map (state_lines (seen l.self) l.number (class_of l.class)) (members l.states)
