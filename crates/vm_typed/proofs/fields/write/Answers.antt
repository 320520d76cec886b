use Rattle.std.proofs.Common.{◌≡◌, ◌+◌, Some, slice_get, length, sym, ap, ◌∙◌, subst, arith}
use Rattle.vm_model.specs.declared.value.Value.{Value}
use Rattle.vm_model.specs.Machine.{Machine}
use Rattle.vm_model.specs.Tests.{below}
use Rattle.vm_model.specs.Step.{at_place, next}
use Rattle.vm_frames.specs.Frames.{with_field}
use Rattle.vm_frames.specs.Seen.{value_in, IsSet}
use Rattle.vm_session.specs.State.{state_of}
use Rattle.vm_typed.proofs.Objects.{write_some, writes_to}
use Rattle.vm_typed.proofs.fields.write.Goals as goal

pub operand-requires : goal.operand-requires
operand-requires c = write_some c.args.linked.now (state_of c.args.state.now) c.args.class c.args.field c.requires.next

pub operand-cell-requires : goal.operand-cell-requires
operand-cell-requires c =
    let some = write_some c.args.linked.now (state_of c.args.state.now) c.args.class c.args.field c.requires.next in
    omega (arith, some)

pub drop-requires : goal.drop-requires
drop-requires c = write_some c.args.linked.now (state_of c.args.state.now) c.args.class c.args.field c.requires.next

pub set_field-requires : goal.set_field-requires
set_field-requires c = subst (λ t. IsSet (length t) c.operand-cell.result) (sym c.drop.ensures.texts) c.operand-cell.ensures.set

pub returns : goal.returns
returns c =
    let m : Machine = state_of c.args.state.now in
    let object = c.in-Object.object in
    let v : Value = value_in c.args.state.now.texts c.operand-cell.result in
    let dropped : state_of c.drop.new.self ≡ next m (below 2 m.frame.operands) =
    c.drop.ensures.machine ∙ (λ i. at_place m (c.place-place.ensures i + 1) (below 2 m.frame.operands)) in
    writes_to c.args.linked.now m (state_of c.set_field.new.self) c.args.class c.args.field object v c.requires.next
    (c.operand.ensures.value ∙ ap (λ x. Some (value_in c.args.state.now.texts x)) c.in-Object.is) c.operand-cell.ensures.value
    (c.set_field.ensures.machine
    ∙ (λ i. record (dropped i) {
      heap =
          with_field (dropped i).heap object c.args.field (value_in (c.drop.ensures.texts i) c.operand-cell.result)
          (slice_get (dropped i).heap object);
    }))
