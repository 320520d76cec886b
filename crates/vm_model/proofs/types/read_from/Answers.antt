use Rattle.std.proofs.Common.{arith, rules, ◌+◌, ◌<◌, [], ap, sym, ◌∙◌, get_or, length}
use Rattle.std.proofs.lemmas.Grind.{common_steps}
use Rattle.vm_model.specs.Descriptors.{reading_of, after_of, types_view}
use Rattle.vm_model.proofs.Descriptors.{read_on, wrong_byte}
use Rattle.vm_model.proofs.types.read_from.Goals as goal

pub returns-in_default : goal.returns-in_default
returns-in_default c =
    let within : c.loop-at.at < length c.args.descriptor.now = search rules in
    wrong_byte (reading_of c.args.descriptor.now 0 [] c.args.first) c.args.descriptor.now c.loop-at.at
    (get_or c.as_bytes-byte-items.result.now c.loop-at.at 0)
    (reading_of c.args.descriptor.now c.loop-at.at (types_view c.loop-at.params.items) c.loop-at.stage) within
    (ap (λ l. get_or l c.loop-at.at 0) c.as_bytes-byte-items.ensures.value) c.loop-at.invariant.0
    (c.read.ensures.reads _ c.loop-at.invariant.1 ∙
    ap (after_of c.args.descriptor.now (c.loop-at.at + 1) (types_view c.loop-at.params.items)) c.in_default.is)

pub loop-at-preserved : goal.loop-at-preserved
loop-at-preserved c =
    let within : c.loop-at.at < length c.args.descriptor.now = search rules in (
      read_on (reading_of c.args.descriptor.now 0 [] c.args.first) c.args.descriptor.now c.loop-at.at
          (get_or c.as_bytes-byte-items.result.now c.loop-at.at 0)
          (reading_of c.args.descriptor.now c.loop-at.at (types_view c.loop-at.params.items) c.loop-at.stage) _ within
          (ap (λ l. get_or l c.loop-at.at 0) c.as_bytes-byte-items.ensures.value) c.loop-at.invariant.0
          (c.in-Some.ensures.reads _ c.loop-at.invariant.1
          ∙ ap (λ ps. reading_of c.args.descriptor.now (c.loop-at.at + 1) ps c.in-Some.next.stage) (sym c.in_ok-add.ensures)),
      c.in-Some.ensures.next _,
    )

pub returns : goal.returns
returns c = grind (arith, common_steps)

pub returns-in-Whole : goal.returns-in-Whole
returns-in-Whole c = grind (arith, common_steps)
