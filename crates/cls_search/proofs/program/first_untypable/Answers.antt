use Rattle.std.proofs.Common.{◌≡◌, ◌<◌, length, get_or, ap, ◌∙◌, arith}
use Rattle.std.specs.Prelude.{List}
use Rattle.vm_model.specs.declared.linked.LinkedMethod.{LinkedMethod}
use Rattle.cls_search.proofs.Searched.{class_many, method_read, before_none, read_more, read_first, all_before}
use Rattle.cls_search.proofs.program.first_untypable.Goals as goal

pub loop-number-init : goal.loop-number-init
loop-number-init c = λ p n i. before_none p n c.args.program.now c.args.class.now c.args.kinds.now i

pub index-requires : goal.index-requires
index-requires c =
    let (p, (n, i)) = c.requires in
    let many = class_many p n c.args.program.now c.args.class.now c.args.kinds.now i in
    let slice = ap length c.as_slice-method-items.ensures.items in
    omega (arith, many, slice, c.loop-number-test.true)

pub is_typable-requires : goal.is_typable-requires
is_typable-requires c =
    let (p, (n, i)) = c.requires in
    let slice = ap length c.as_slice-method-items.ensures.items in (
      p,
      (
        n,
        (
          c.loop-number.number,
          method_read p n c.args.program.now c.args.class.now c.args.kinds.now i c.loop-number.number c.method-item.result
              c.index.result.now
              (omega (arith, slice, c.loop-number-test.true))
              (c.method-item.is ∙ ap (λ (ms : List LinkedMethod). get_or ms c.loop-number.number c.method-item.result)
              c.as_slice-method-items.ensures.items)
              c.index.ensures,
        ),
      ),
    )

pub returns-then-not-is_typable : goal.returns-then-not-is_typable
returns-then-not-is_typable c =
    let slice = ap length c.as_slice-method-items.ensures.items in
    let within : c.loop-number.number < length c.args.class.now.methods.items = omega (arith, slice, c.loop-number-test.true) in
    let item : c.method-item.result ≡ get_or c.args.class.now.methods.items c.loop-number.number c.method-item.result =
    c.method-item.is ∙ ap (λ (ms : List LinkedMethod). get_or ms c.loop-number.number c.method-item.result)
    c.as_slice-method-items.ensures.items in
    λ p n i. read_first p n c.args.program.now c.args.class.now c.args.kinds.now i c.loop-number.number c.method-item.result
    c.in_ok-is_typable.is_typable
    (c.loop-number.invariant p n i) within item
    (c.in_ok-is_typable.ensures p n c.loop-number.number
    (method_read p n c.args.program.now c.args.class.now c.args.kinds.now i c.loop-number.number
    c.method-item.result c.index.result.now within item c.index.ensures))
    c.if-not-is_typable.true

pub loop-number-preserved : goal.loop-number-preserved
loop-number-preserved c =
    let slice = ap length c.as_slice-method-items.ensures.items in
    let within : c.loop-number.number < length c.args.class.now.methods.items = omega (arith, slice, c.loop-number-test.true) in
    let item : c.method-item.result ≡ get_or c.args.class.now.methods.items c.loop-number.number c.method-item.result =
    c.method-item.is ∙ ap (λ (ms : List LinkedMethod). get_or ms c.loop-number.number c.method-item.result)
    c.as_slice-method-items.ensures.items in
    λ p n i. read_more p n c.args.program.now c.args.class.now c.args.kinds.now i c.loop-number.number c.method-item.result
    c.in_ok-is_typable.is_typable
    (c.loop-number.invariant p n i) within item
    (c.in_ok-is_typable.ensures p n c.loop-number.number
    (method_read p n c.args.program.now c.args.class.now c.args.kinds.now i c.loop-number.number
    c.method-item.result c.index.result.now within item c.index.ensures))
    c.if-not-is_typable.false

pub returns : goal.returns
returns c =
    let slice = ap length c.as_slice-method-items.ensures.items in
    λ p n i. all_before p n c.args.program.now c.args.class.now c.args.kinds.now i c.loop-number.number (c.loop-number.invariant p n i)
    (omega (arith, slice, c.loop-number-test.false))
