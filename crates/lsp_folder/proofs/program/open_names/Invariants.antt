use Rattle.std.proofs.Common.{◌≡◌, map}
use Rattle.std.specs.Prelude.{string_bytes}
use Rattle.std.specs.Map.Iter.{deref_pair}
use Rattle.lsp_folder.specs.Names.{plain}
use Rattle.lsp_folder.proofs.program.open_names.Given as goal

abbrev pub invariant-loop-name : goal.invariant-loop-name
invariant-loop-name l = l.names.items ≡ map (λ e. plain (string_bytes e.0)) (map deref_pair l.yielded)
