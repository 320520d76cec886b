use Rattle.std.proofs.Common.{◌≡◌, drop}
use Rattle.std.specs.Option.{is_some}
use Rattle.fit_uses.proofs.Beside.{beside_in}
use Rattle.fit_uses.proofs.making.has_making.Given as goal

abbrev pub invariant-loop-stmt : goal.invariant-loop-stmt
invariant-loop-stmt l = is_some (beside_in l.class (drop l.stmt-index l.body)) ≡ is_some (beside_in l.class l.body)
