use Rattle.std.proofs.Common.{◌≡◌, ◌++◌, take}
use Rattle.lsp_folder.specs.Noted.{noted_in}
use Rattle.lsp_folder.specs.inner.Left.{left_among}
use Rattle.lsp_folder.proofs.program.put_read.Given as goal

abbrev pub invariant-loop-file : goal.invariant-loop-file
invariant-loop-file l = l.members.items ≡ l.initial.members.items ++ left_among (noted_in l.opened) l.document (take l.file-index l.files)
