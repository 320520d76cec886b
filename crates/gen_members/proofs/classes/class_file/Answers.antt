use Rattle.std.proofs.Common.{◌≡◌, None, map, ap, subst, ◌∙◌}
use Rattle.std.proofs.lemmas.Result.{err_from_is_err_and}
use Rattle.jv_core.specs.View.{class_of}
use Rattle.gen_rules.specs.Classes.{header}
use Rattle.gen_rules.specs.Limits.{Names, exceeded_by}
use Rattle.gen_members.specs.Parts.{compiled_of}
use Rattle.gen_members.proofs.Whole.{class_fine, fields_fail, methods_fail}
use Rattle.gen_members.proofs.classes.class_file.Goals as goal

pub returns-clause-fine : goal.returns-clause-fine
returns-clause-fine c =
    let left = c.in_ok-this_class.ensures.made.left ∙ ap (λ q. (header c.args.core.now (class_of c.args.class.now) q).1)
    c.new-pool.ensures in
    let fine = subst (λ q. exceeded_by c.args.core.now (class_of c.args.class.now) Names q ≡ None) c.new-pool.ensures
    c.in_ok-this_class.ensures.fine in
    class_fine c.args.core.now (class_of c.args.class.now) (map (compiled_of c.args.core.now) c.args.makings.now)
    _ _ _ left fine c.in_ok-fields.ensures.fine c.in_ok-methods.ensures.fine

pub returns-in_err-fields-clause-fault : goal.returns-in_err-fields-clause-fault
returns-in_err-fields-clause-fault c =
    let left = c.in_ok-this_class.ensures.made.left ∙ ap (λ q. (header c.args.core.now (class_of c.args.class.now) q).1)
    c.new-pool.ensures in
    let fine = subst (λ q. exceeded_by c.args.core.now (class_of c.args.class.now) Names q ≡ None) c.new-pool.ensures
    c.in_ok-this_class.ensures.fine in
    let e = err_from_is_err_and c.from_residual-in_err-fields.result c.from_residual-in_err-fields.ensures.1 in
    rw (e.1, e.2) (fields_fail c.args.core.now (class_of c.args.class.now)
    (map (compiled_of c.args.core.now) c.args.makings.now)
    _ c.fields.new.pool c.fields.new.pool left fine _ c.in_err-fields.ensures.fault)

pub returns-in_err-methods-clause-fault : goal.returns-in_err-methods-clause-fault
returns-in_err-methods-clause-fault c =
    let left = c.in_ok-this_class.ensures.made.left ∙ ap (λ q. (header c.args.core.now (class_of c.args.class.now) q).1)
    c.new-pool.ensures in
    let fine = subst (λ q. exceeded_by c.args.core.now (class_of c.args.class.now) Names q ≡ None) c.new-pool.ensures
    c.in_ok-this_class.ensures.fine in
    let e = err_from_is_err_and c.from_residual-in_err-methods.result c.from_residual-in_err-methods.ensures.1 in
    rw (e.1, e.2) (methods_fail c.args.core.now (class_of c.args.class.now)
    (map (compiled_of c.args.core.now) c.args.makings.now)
    _ _ c.methods.new.pool left fine c.in_ok-fields.ensures.fine _ c.in_err-methods.ensures.fault)
