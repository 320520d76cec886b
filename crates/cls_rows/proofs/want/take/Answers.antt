use Rattle.std.proofs.Common.{◌≡◌, ◌+◌, ◌-◌, ◌<◌, length, get_or, sym, ◌∙◌, arith}
use Rattle.std.proofs.lemmas.List.{get_or_default}
use Rattle.cls_kinds.specs.Stacks.{stack_at}
use Rattle.cls_rows.specs.declared.want.Want.TheVariants as wants
use Rattle.cls_rows.proofs.Taking.{begins, one_more, none_left, not_so, all_taken}
use Rattle.cls_rows.proofs.want.take.Goals as goal

pub down-init : goal.down-init
down-init c = record { there = c.requires; least = omega arith; went = begins _ _ _ (omega arith) }

pub returns-in_err-top-clause-refused : goal.returns-in_err-top-clause-refused
returns-in_err-top-clause-refused c =
    let within : c.down.left - 1 < length c.args.wants.now = omega (arith, c.down-test.true, c.down.invariant.least) in
    let same : c.down.left ≡ c.down.left - 1 + 1 = omega (arith, c.down-test.true) in
    rw c.from_residual.ensures
    (none_left c.args.wants.now (c.down.left - 1) c.down.left (get_or c.args.wants.now (c.down.left - 1) wants.Any)
    (stack_at c.args.stacks.now c.args.operands)
    (stack_at c.args.stacks.now c.down.below) same within (get_or_default c.args.wants.now (c.down.left - 1) wants.Any _ within)
    c.in_err-top.ensures c.down.invariant.went)

pub returns-then-not-passes-clause-refused : goal.returns-then-not-passes-clause-refused
returns-then-not-passes-clause-refused c =
    let within : c.down.left - 1 < length c.args.wants.now = omega (arith, c.down-test.true, c.down.invariant.least) in
    let same : c.down.left ≡ c.down.left - 1 + 1 = omega (arith, c.down-test.true) in
    not_so c.args.wants.now (c.down.left - 1) c.down.left _ (stack_at c.args.stacks.now c.args.operands)
    (stack_at c.args.stacks.now c.down.below) _ c.in_ok-top.top.kind
    same within (get_or_default c.args.wants.now (c.down.left - 1) _ _ within) c.in_ok-top.ensures.1
    (sym c.passes.ensures ∙ c.if-not-passes.true)
    c.down.invariant.went

pub down-preserved : goal.down-preserved
down-preserved c =
    let within : c.down.left - 1 < length c.args.wants.now = omega (arith, c.down-test.true, c.down.invariant.least) in
    let same : c.down.left ≡ c.down.left - 1 + 1 = omega (arith, c.down-test.true) in
    record {
      there = c.in_ok-top.ensures.0;
      least = omega (arith, c.down.invariant.least);
      went = one_more c.args.wants.now (c.down.left - 1) c.down.left _ (stack_at c.args.stacks.now c.args.operands)
          (stack_at c.args.stacks.now c.down.below) _
          c.in_ok-top.top.kind same within (get_or_default c.args.wants.now (c.down.left - 1) _ _ within) c.in_ok-top.ensures.1
          (sym c.passes.ensures ∙ c.if-not-passes.false) c.down.invariant.went;
    }

pub returns-clause-taken : goal.returns-clause-taken
returns-clause-taken c = all_taken c.args.wants.now c.down.left (stack_at c.args.stacks.now c.args.operands)
    (stack_at c.args.stacks.now c.down.below)
    (omega (arith, c.down-test.false)) c.down.invariant.went
