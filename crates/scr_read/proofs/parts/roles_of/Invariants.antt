use Rattle.std.proofs.Common.{◌≡◌, ◌++◌, map, length}
use Rattle.std.specs.Vec.Iter.{into_iter_items, into_iter_len}
use Rattle.scr_read.specs.Parts.{listed}
use Rattle.scr_read.proofs.parts.roles_of.Given as goal

abbrev pub invariant-loop-name : goal.invariant-loop-name
invariant-loop-name l = record {
  count : into_iter_len l.name-iterator ≡ length (into_iter_items l.name-iterator);
  moved : l.roles.items ++ map (listed l.file) (into_iter_items l.name-iterator) ≡ map (listed l.file) l.fn.names.items;
}
