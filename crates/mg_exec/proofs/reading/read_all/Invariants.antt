use Rattle.std.proofs.Common.{◌≡◌, ℕ, List, length}
use Rattle.mg_sources.specs.Files.{sources}
use Rattle.mg_exec.proofs.FilesRead.{ReadSoFar}
use Rattle.mg_exec.proofs.reading.read_all.Given as goal

abbrev pub invariant-loop-number : goal.invariant-loop-number
invariant-loop-number l =
    (names : List (List ℕ)) → length names ≡ length l.contents → ReadSoFar (sources names l.contents) l.number l.classes.items
