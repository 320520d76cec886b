use Rattle.mg_compile.proofs.Filed.{spelled_file}
use Rattle.mg_compile.proofs.files.bytes_of.Goals as goal

pub write_class-requires : goal.write_class-requires
write_class-requires c = c.requires.fits

pub unreachable-requires : goal.unreachable-requires
unreachable-requires c = rw c.in-Err-Code.field-0-is at (c.in-Err-Code.ensures.file (spelled_file _ c.requires))

pub returns-in-Ok : goal.returns-in-Ok
returns-in-Ok c = c.in-Ok.ensures.spelled c.requires.well_formed
