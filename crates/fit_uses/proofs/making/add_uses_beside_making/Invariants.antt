use Rattle.std.proofs.Common.{◌≡◌, ◌++◌, drop}
use Rattle.std.specs.Prelude.{unwrap_or}
use Rattle.fit_uses.proofs.Beside.{beside_in, all_in}
use Rattle.fit_uses.proofs.making.add_uses_beside_making.Given as goal

abbrev pub invariant-loop-number : goal.invariant-loop-number
invariant-loop-number l =
    l.uses.items ++ unwrap_or (beside_in l.class (drop l.number l.body)) (all_in (drop l.number l.body))
    ≡ l.initial.uses.items ++ unwrap_or (beside_in l.class l.body) (all_in l.body)
