use Rattle.std.proofs.Common.{◌≡◌, ◌++◌, map, take}
use Rattle.std.specs.List.{flat_map}
use Rattle.ts_parse.specs.Written.{wentry_of}
use Rattle.lsp_defined.specs.Spots.{entry_spots}
use Rattle.lsp_defined.proofs.methods.put_entries.Given as goal

abbrev pub invariant-loop-entry : goal.invariant-loop-entry
invariant-loop-entry l =
    l.spots.items ≡ l.initial.spots.items ++ flat_map (entry_spots l.state) (map wentry_of (take l.entry-index l.entries))
