use Rattle.mg_runs.proofs.Reading.{ReadSoFar}
use Rattle.mg_runs.proofs.loading.read_all.Given as goal

abbrev pub invariant-loop-file : goal.invariant-loop-file
invariant-loop-file l = ReadSoFar l.files l.file-index l.classes.items
