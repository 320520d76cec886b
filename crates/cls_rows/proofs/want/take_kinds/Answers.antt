use Rattle.std.proofs.Common.{◌≡◌, ◌+◌, ◌-◌, ◌<◌, length, map, get_or, sym, ◌∙◌, arith}
use Rattle.std.proofs.lemmas.List.{get_or-map, get_or_default, length-map}
use Rattle.cls_kinds.specs.Stacks.{stack_at}
use Rattle.cls_rows.specs.declared.want.Want.TheVariants as wants
use Rattle.cls_rows.proofs.Taking.{begins, one_more, none_left, not_so, all_taken}
use Rattle.cls_rows.proofs.want.take_kinds.Goals as goal

pub down-init : goal.down-init
down-init c = record {
  there = c.requires;
  least = omega arith;
  went =
      begins _ _ _ (let l = length-map c.args.wants.now wants.Of in omega (arith, l));
}

pub returns-in_err-top-clause-refused : goal.returns-in_err-top-clause-refused
returns-in_err-top-clause-refused c =
    let within : c.down.left - 1 < length c.args.wants.now = omega (arith, c.down-test.true, c.down.invariant.least) in
    let l = length-map c.args.wants.now wants.Of in
    let many : c.down.left - 1 < length (map wants.Of c.args.wants.now) = omega (arith, l, within) in
    let same : c.down.left ≡ c.down.left - 1 + 1 = omega (arith, c.down-test.true) in
    rw c.from_residual.ensures
    (none_left (map wants.Of c.args.wants.now) (c.down.left - 1) c.down.left
    (get_or (map wants.Of c.args.wants.now) (c.down.left - 1) wants.Any)
    (stack_at c.args.stacks.now c.args.operands) (stack_at c.args.stacks.now c.down.below) same many
    (get_or_default (map wants.Of c.args.wants.now) (c.down.left - 1) wants.Any _ many) c.in_err-top.ensures c.down.invariant.went)

pub returns-then-not-fits-clause-refused : goal.returns-then-not-fits-clause-refused
returns-then-not-fits-clause-refused c =
    let within : c.down.left - 1 < length c.args.wants.now = omega (arith, c.down-test.true, c.down.invariant.least) in
    let l = length-map c.args.wants.now wants.Of in
    let many : c.down.left - 1 < length (map wants.Of c.args.wants.now) = omega (arith, l, within) in
    let same : c.down.left ≡ c.down.left - 1 + 1 = omega (arith, c.down-test.true) in
    not_so (map wants.Of c.args.wants.now) (c.down.left - 1) c.down.left _ (stack_at c.args.stacks.now c.args.operands)
    (stack_at c.args.stacks.now c.down.below) _ c.in_ok-top.top.kind
    same many (sym (get_or-map wants.Of c.args.wants.now (c.down.left - 1) _ _ within)) c.in_ok-top.ensures.1
    (sym c.fits.ensures ∙ c.if-not-fits.true)
    c.down.invariant.went

pub down-preserved : goal.down-preserved
down-preserved c =
    let within : c.down.left - 1 < length c.args.wants.now = omega (arith, c.down-test.true, c.down.invariant.least) in
    let l = length-map c.args.wants.now wants.Of in
    let many : c.down.left - 1 < length (map wants.Of c.args.wants.now) = omega (arith, l, within) in
    let same : c.down.left ≡ c.down.left - 1 + 1 = omega (arith, c.down-test.true) in
    record {
      there = c.in_ok-top.ensures.0;
      least = omega (arith, c.down.invariant.least);
      went = one_more (map wants.Of c.args.wants.now) (c.down.left - 1) c.down.left _ (stack_at c.args.stacks.now c.args.operands)
          (stack_at c.args.stacks.now c.down.below) _
          c.in_ok-top.top.kind same many (sym (get_or-map wants.Of c.args.wants.now (c.down.left - 1) _ _ within)) c.in_ok-top.ensures.1
          (sym c.fits.ensures ∙ c.if-not-fits.false) c.down.invariant.went;
    }

pub returns-clause-taken : goal.returns-clause-taken
returns-clause-taken c = all_taken (map wants.Of c.args.wants.now) c.down.left (stack_at c.args.stacks.now c.args.operands)
    (stack_at c.args.stacks.now c.down.below)
    (omega (arith, c.down-test.false)) c.down.invariant.went
