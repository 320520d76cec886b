use Rattle.std.proofs.Common.{◌≡◌, ◌++◌, map}
use Rattle.std.specs.Prelude.{filter}
use Rattle.std.specs.Map.Iter.{deref_pair}
use Rattle.lsp_folder.specs.Programs.{is_open, open_member}
use Rattle.lsp_folder.proofs.program.put_open.Given as goal

abbrev pub invariant-loop-name : goal.invariant-loop-name
invariant-loop-name l =
    l.members.items ≡ l.initial.members.items ++ map open_member (filter (is_open l.document) (map deref_pair l.yielded))
