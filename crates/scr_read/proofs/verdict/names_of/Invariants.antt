use Rattle.std.proofs.Common.{◌≡◌, ◌++◌, map, length}
use Rattle.std.specs.Vec.Iter.{into_iter_items, into_iter_len}
use Rattle.scr_tree.specs.Written.{role_name}
use Rattle.scr_read.proofs.verdict.names_of.Given as goal

abbrev pub invariant-loop-role : goal.invariant-loop-role
invariant-loop-role l = record {
  count : into_iter_len l.role-iterator ≡ length (into_iter_items l.role-iterator);
  moved : l.names.items ++ map role_name (into_iter_items l.role-iterator) ≡ map role_name l.fn.roles.items;
}
