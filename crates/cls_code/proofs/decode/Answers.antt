use Rattle.cls_code.proofs.Layouts.{exact_of}
use Rattle.cls_code.proofs.decode.Goals as goal

pub returns-clause-exact : goal.returns-clause-exact
returns-clause-exact c = exact_of c.args.bytes.now c.decoded.result c.decoded.ensures
