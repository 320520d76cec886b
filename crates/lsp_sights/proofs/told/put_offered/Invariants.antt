use Rattle.std.proofs.Common.{◌≡◌, ◌++◌, flat_map, map, take, string_bytes}
use Rattle.ts_tree.specs.View.{method_of}
use Rattle.lsp_sights.specs.Texts.{offered_text}
use Rattle.lsp_sights.proofs.told.put_offered.Given as goal

abbrev pub invariant-loop-method : goal.invariant-loop-method
invariant-loop-method l =
    string_bytes l.out ≡ string_bytes l.initial.out ++ flat_map offered_text (map method_of (take l.method-index l.methods))
