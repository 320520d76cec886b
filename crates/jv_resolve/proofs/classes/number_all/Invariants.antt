use Rattle.std.proofs.Common.{◌≡◌, drop, map}
use Rattle.jv_resolve_law.specs.Members.{all_interned}
use Rattle.jv_resolve.specs.inner.Naming.{numbered, threaded, with_done}
use Rattle.jv_resolve.proofs.classes.number_all.Given as goal

abbrev pub invariant-loop-text : goal.invariant-loop-text
invariant-loop-text l =
    all_interned l.initial.names l.texts
    ≡ with_done (map (λ n. n.0) l.numbers.items) (threaded numbered l.names (map (λ x. x) (drop l.text-index l.texts)))
