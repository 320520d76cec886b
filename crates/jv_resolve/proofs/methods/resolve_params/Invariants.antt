use Rattle.std.proofs.Common.{◌≡◌, drop}
use Rattle.jv_resolve_law.specs.Members.{params}
use Rattle.jv_resolve.specs.inner.Counted.{counted_seen}
use Rattle.jv_resolve.specs.inner.Seen.{tables_seen}
use Rattle.jv_resolve.proofs.methods.resolve_params.Given as goal

abbrev pub invariant-loop-param : goal.invariant-loop-param
invariant-loop-param l =
    params (tables_seen l.table) l.params l.initial.body.locals (counted_seen l.initial.body) ≡ params (tables_seen l.table)
    (drop l.param-index l.params) l.body.locals (counted_seen l.body)
