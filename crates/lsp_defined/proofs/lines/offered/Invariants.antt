use Rattle.std.proofs.Common.{◌≡◌, drop, map}
use Rattle.ts_tree.specs.Calls.{offered_in}
use Rattle.ts_tree.specs.View.{method_of}
use Rattle.lsp_defined.proofs.lines.offered.Given as goal

abbrev pub invariant-loop-method : goal.invariant-loop-method
invariant-loop-method l = offered_in (map method_of (drop l.method-index l.methods)) l.name ≡ offered_in (map method_of l.methods) l.name
