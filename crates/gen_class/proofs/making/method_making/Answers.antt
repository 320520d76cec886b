use Rattle.jv_core.specs.View.{method_of}
use Rattle.gen_class.proofs.Programs.{method_made}
use Rattle.gen_class.proofs.making.method_making.Goals as goal

pub returns : goal.returns
returns c = method_made c.args.core.now (method_of c.args.method.now) _ _ _ _ _ _ c.access_of.ensures c.name_text-name.ensures
    c.in_ok-descriptor.ensures c.in_ok-instrs.ensures.stack c.in_ok-instrs.ensures.locals c.in_ok-instrs.ensures.code
