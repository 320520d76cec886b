use Rattle.std.proofs.Common.{take, map}
use Rattle.jv_core.specs.View.{class_of}
use Rattle.mg_trace.specs.inner.Tabled.{AreClasses}
use Rattle.mg_trace.proofs.results.Results.of.Given as goal

abbrev pub invariant-loop-class : goal.invariant-loop-class
invariant-loop-class l = AreClasses l.core (map class_of (take l.class-index l.class-items)) l.by_class
