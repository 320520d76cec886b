use Rattle.lsp_defined.specs.Files.{reads, refused}
use Rattle.lsp_defined.proofs.files.part_in.Goals as goal

pub returns-in-Ok : goal.returns-in-Ok
returns-in-Ok c = reads c.in-Ok.ensures

pub returns-in-Err-Refused : goal.returns-in-Err-Refused
returns-in-Err-Refused c = refused (rw c.in-Err-Refused.field-0-is at c.in-Err-Refused.ensures)
