use Rattle.std.proofs.Common.{◌≡◌, ◌++◌, drop, map}
use Rattle.jv_tree.specs.View.{stmt_of}
use Rattle.stm_api.specs.Api.{label_test}
use Rattle.stm_api.specs.inner.View.{names_of}
use Rattle.stm_api.proofs.bodies.add_tests.Given as goal

abbrev pub invariant-loop-label : goal.invariant-loop-label
invariant-loop-label l =
    map stmt_of l.initial.body.items ++ map (label_test l.place l.of) (names_of l.labels)
    ≡ map stmt_of l.body.items ++ map (label_test l.place l.of) (names_of (drop l.label-index l.labels))
