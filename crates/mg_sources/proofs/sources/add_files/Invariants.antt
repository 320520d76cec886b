use Rattle.std.proofs.Common.{◌≡◌, ◌++◌, map, length}
use Rattle.std.specs.Vec.Iter.{into_iter_items, into_iter_len}
use Rattle.jv_tree.specs.View.{file_of}
use Rattle.stm_api.specs.View.{written_of}
use Rattle.mg_sources.proofs.sources.add_files.Given as goal

abbrev pub invariant-loop-file : goal.invariant-loop-file
invariant-loop-file l = record {
  count : into_iter_len l.file-iterator ≡ length (into_iter_items l.file-iterator);
  moved : map file_of l.files.items ++ map (λ f. f.tree) (map written_of (into_iter_items l.file-iterator))
      ≡ map file_of l.initial.files.items ++ map (λ f. f.tree) (map written_of l.fn.api.items);
}
