-- The protocols of a file by numbers, as the program has them.
use Rattle.std.specs.Prelude.{◌≡◌, [], List, map, length, replicate, IsTrue}
use Rattle.scr_tree.specs.declared.written.WrittenPart.{WrittenPart as Part}
use Rattle.scr_judge.specs.declared.cycles.Round.{Round}
use Rattle.scr_judge.specs.inner.Gone.{part_name}
use Rattle.scr_judge.specs.inner.Round.{Falls, all_edges, with_texts}
use Rattle.scr_judge.specs.inner.View.{graph_of}

-- their names, where each goes on with no message, and ranks
pub record IsRound (ps : List Part) (r : Round) : Type 0 where
  pub names : r.names ≡ with_texts (map part_name ps) []
  pub graph : graph_of r.targets.items ≡ all_edges r.names ps (replicate (length r.names) [])
  pub falls : IsTrue r.falls → Falls (graph_of r.targets.items) r.ranks.items
