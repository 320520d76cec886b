use Rattle.std.proofs.Common.{◌≤◌, ◌∙◌, length, sym, subst}
use Rattle.cls_tree.specs.View.{code_of}
use Rattle.jv_core.specs.View.{method_of}
use Rattle.gen_code.proofs.Emitting.{few_left}
use Rattle.gen_code.proofs.pool.Pool.emit.Goals as goal

pub invariant_of-self-in-Ok : goal.invariant_of-self-in-Ok
invariant_of-self-in-Ok c =
    let up = c.in_ok-keep_up-in-Ok.ensures in
    let few = few_left c.args.core.now (method_of c.args.method.now) c.self.inside.keys c.code_of_method.new.pool
    (code_of c.in-Ok.code)
    c.in-Ok.ensures.emitted c.in-Ok.ensures.fine in
    (up.keys ∙ sym up.entries, subst (λ x. length x ≤ 65534) (sym up.entries) few)
