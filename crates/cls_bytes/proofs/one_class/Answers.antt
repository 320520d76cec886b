use Rattle.cls_bytes.proofs.Whole.{one_spelled}
use Rattle.cls_bytes.proofs.one_class.Goals as goal

pub returns : goal.returns
returns c = one_spelled
