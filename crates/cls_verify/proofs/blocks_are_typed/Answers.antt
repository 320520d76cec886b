use Rattle.cls_verify.proofs.Typed.{blocks_are_typed}
use Rattle.cls_verify.proofs.blocks_are_typed.Goals as goal

pub returns : goal.returns
returns c = blocks_are_typed
