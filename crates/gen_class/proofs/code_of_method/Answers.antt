use Rattle.std.proofs.lemmas.Result.{IfOk-weaker, IfErr-weaker, on_ok_weaker}
use Rattle.jv_core.specs.View.{method_of}
use Rattle.gen_class.proofs.Programs.{emitted_by, fine_by, told_by}
use Rattle.gen_class.proofs.code_of_method.Goals as goal

pub returns-clause-emitted : goal.returns-clause-emitted
returns-clause-emitted c = IfOk-weaker c.code.result _ _
    (λ code is. emitted_by c.args.core.now (method_of c.args.method.now) c.args.pool.now _ _ _ c.in_ok-making.ensures is)
    c.code.ensures.made

pub returns-clause-fine : goal.returns-clause-fine
returns-clause-fine c = on_ok_weaker c.code.result
    (λ none. fine_by c.args.core.now (method_of c.args.method.now) c.args.pool.now _ c.in_ok-making.ensures none)
    c.code.ensures.fine

pub returns-clause-fault : goal.returns-clause-fault
returns-clause-fault c = IfErr-weaker c.code.result _ _
    (λ fault tells. told_by c.args.core.now (method_of c.args.method.now) c.args.pool.now _ fault c.in_ok-making.ensures tells)
    c.code.ensures.fault
