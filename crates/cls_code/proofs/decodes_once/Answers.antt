use Rattle.cls_code.proofs.Once.{decodes_once}
use Rattle.cls_code.proofs.decodes_once.Goals as goal

pub returns : goal.returns
returns c = decodes_once
