use Rattle.std.proofs.Common.{◌≡◌, ◌++◌, take}
use Rattle.mg_page.specs.Pieces.{files_bytes}
use Rattle.mg_page.proofs.responding.put_files.Given as goal

abbrev pub invariant-loop-file : goal.invariant-loop-file
invariant-loop-file l = l.out ≡ l.initial.out ++ files_bytes (take l.file-index l.files)
