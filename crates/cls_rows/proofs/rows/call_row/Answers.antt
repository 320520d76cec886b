use Rattle.std.proofs.Common.{sym, subst}
use Rattle.std.specs.Prelude.{map}
use Rattle.cls_kinds.specs.Stacks.{stack_at}
use Rattle.vm_model.specs.Actions.{Call}
use Rattle.vm_actions.specs.Table.{calling_of}
use Rattle.cls_rows.specs.declared.want.Want.TheVariants as wants
use Rattle.cls_rows.specs.Wants.{IsTaken, CanTake}
use Rattle.cls_rows.proofs.Doing.{taken_fits}
use Rattle.cls_rows.proofs.Belonging.{IsCalled, class_none, method_none, call_refused, call_comes, class_of_method}
use Rattle.cls_rows.proofs.rows.call_row.Goals as goal

pub returns-in_default-clause-comes : goal.returns-in_default-clause-comes
returns-in_default-clause-comes c = class_none c.args.scene c.args.stacks.now c.args.frame
    (Call (calling_of c.args.calling) c.args.class c.args.method) c.args.class
    (sym c.in_default.ensures) (λ p n. class_of_method p c.args.class c.args.method n.method_is n.there)

pub returns-in_default-callable-clause-comes : goal.returns-in_default-callable-clause-comes
returns-in_default-callable-clause-comes c = method_none c.args.scene c.args.stacks.now c.args.frame c.args.calling c.args.class
    c.args.method c.in-Some.kept.now
    (sym c.in-Some.ensures) c.in_default-callable.ensures.none

pub returns-in_default-take_kinds-clause-comes : goal.returns-in_default-take_kinds-clause-comes
returns-in_default-take_kinds-clause-comes c =
    let called : IsCalled c.args.scene c.args.calling c.args.class c.args.method c.in-Some.kept.now c.in-Some-callable.called.now = record {
      class_is = sym c.in-Some.ensures;
      there = c.in-Some-callable.ensures.found.0;
      fits = c.in-Some-callable.ensures.found.1.0;
      suits = c.in-Some-callable.ensures.found.1.1;
    } in
    call_refused c.args.scene c.args.stacks.now c.args.frame c.args.calling c.args.class c.args.method c.in-Some.kept.now
    c.in-Some-callable.called.now called
    (subst (λ ks. CanTake (map wants.Of ks) (stack_at c.args.stacks.now c.args.frame.operands) → ⊥) c.as_slice.ensures.value
    c.in_default-take_kinds.ensures.refused)

pub settle_on-requires-clause-fits : goal.settle_on-requires-clause-fits
settle_on-requires-clause-fits c = taken_fits _ (stack_at c.args.stacks.now c.args.frame.operands)
    (stack_at c.args.stacks.now c.in-Some-take_kinds.below)
    c.args.scene.max_stack c.in-Some-take_kinds.ensures.taken c.requires.fits

pub returns-clause-comes : goal.returns-clause-comes
returns-clause-comes c =
    let called : IsCalled c.args.scene c.args.calling c.args.class c.args.method c.in-Some.kept.now c.in-Some-callable.called.now = record {
      class_is = sym c.in-Some.ensures;
      there = c.in-Some-callable.ensures.found.0;
      fits = c.in-Some-callable.ensures.found.1.0;
      suits = c.in-Some-callable.ensures.found.1.1;
    } in
    call_comes c.args.scene c.args.stacks.now c.settle_on.new.stacks c.args.frame c.args.calling c.args.class c.args.method
    c.in-Some.kept.now c.in-Some-callable.called.now
    c.in-Some-take_kinds.below c.settle_on.result called
    (subst (λ ks. IsTaken (map wants.Of ks) (stack_at c.args.stacks.now c.args.frame.operands)
    (stack_at c.args.stacks.now c.in-Some-take_kinds.below))
    c.as_slice.ensures.value c.in-Some-take_kinds.ensures.taken) c.settle_on.ensures.settled
