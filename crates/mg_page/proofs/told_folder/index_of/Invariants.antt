use Rattle.std.proofs.Common.{◌≡◌, take}
use Rattle.mg_page.specs.Told.{files_in}
use Rattle.mg_page.proofs.told_folder.index_of.Given as goal

abbrev pub invariant-loop-file : goal.invariant-loop-file
invariant-loop-file l = l.index ≡ files_in (take l.file-index l.files)
