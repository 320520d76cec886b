use Rattle.cls_tree.specs.View.{class_of}
use Rattle.cls_bytes.proofs.Refusals.{file_written}
use Rattle.cls_bytes.proofs.Spells.{written_spells}
use Rattle.cls_bytes.proofs.write_class.Goals as goal

pub returns-clause-file : goal.returns-clause-file
returns-clause-file c = file_written (class_of c.args.class.now) c.class_written.result c.class_written.ensures

pub returns-clause-spelled : goal.returns-clause-spelled
returns-clause-spelled c = written_spells (class_of c.args.class.now) c.class_written.result c.requires c.class_written.ensures
