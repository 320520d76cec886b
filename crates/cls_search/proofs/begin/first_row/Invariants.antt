use Rattle.std.proofs.Common.{◌≡◌, take}
use Rattle.vm_model.specs.View.{method_of}
use Rattle.cls_search.specs.Beginning.{first_kinds}
use Rattle.cls_search.proofs.begin.first_row.Given as goal

abbrev pub invariant-loop-local : goal.invariant-loop-local
invariant-loop-local l = l.row.items ≡ take l.local (first_kinds (method_of l.method) l.arguments)
