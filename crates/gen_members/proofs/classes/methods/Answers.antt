use Rattle.std.proofs.Common.{refl, map}
use Rattle.std.proofs.lemmas.Result.{err_from_is_err_and}
use Rattle.gen_rules.specs.Classes.{method_in_file}
use Rattle.gen_rules.specs.Limits.{OfMethod}
use Rattle.gen_members.specs.Parts.{compiled_of}
use Rattle.gen_members.proofs.Filing.{parts_begin, kept_more, kept_made, kept_fine, kept_fails, no_class}
use Rattle.gen_members.proofs.classes.methods.Goals as goal

pub loop-making-init : goal.loop-making-init
loop-making-init c = λ k. rw c.new-members.ensures
    (parts_begin c.args.core.now k method_in_file OfMethod (map (compiled_of c.args.core.now) c.args.makings.now)
    c.args.pool.now)

pub loop-making-preserved : goal.loop-making-preserved
loop-making-preserved c = λ k. kept_more c.args.core.now k (compiled_of c.args.core.now) method_in_file OfMethod
    (λ x pool. refl) c.args.makings.now c.loop-making.making-index c.making-item.result _ _ _ _ _ _
    c.loop-making-test.true c.making-item.is c.in_ok-method.ensures.made (c.in_ok-method.ensures.fine k) c.in_ok-push.ensures.ok
    (c.loop-making.invariant k)

pub returns-clause-made : goal.returns-clause-made
returns-clause-made c = kept_made c.args.core.now no_class (compiled_of c.args.core.now) method_in_file OfMethod
    (λ x pool. refl) c.args.makings.now c.loop-making.making-index
    c.loop-making.members.items _ _ c.loop-making-test.false (c.loop-making.invariant no_class)

pub returns-clause-fine : goal.returns-clause-fine
returns-clause-fine c = λ k. kept_fine c.args.core.now k (compiled_of c.args.core.now) method_in_file OfMethod
    (λ x pool. refl) c.args.makings.now c.loop-making.making-index
    c.loop-making.members.items _ _ c.loop-making-test.false (c.loop-making.invariant k)

pub returns-in_err-method-clause-fault : goal.returns-in_err-method-clause-fault
returns-in_err-method-clause-fault c =
    let e = err_from_is_err_and c.from_residual.result c.from_residual.ensures.1 in
    rw (e.1, e.2) (λ k. kept_fails c.args.core.now k (compiled_of c.args.core.now) method_in_file OfMethod
    (λ x pool. refl) c.args.makings.now c.loop-making.making-index c.making-item.result _ _ _ _
    c.loop-making-test.true c.making-item.is (c.in_err-method.ensures.fault k) (c.loop-making.invariant k))
