use Rattle.cls_bytes.proofs.Files.{class_fits}
use Rattle.part_cases.proofs.machine.classes.is_written_back.Goals as goal

pub write_class-requires : goal.write_class-requires
write_class-requires c = class_fits _ c.in-Ok.ensures.found.file
