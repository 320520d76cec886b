use Rattle.std.proofs.Common.{◌≡◌, ◌+◌, ◌++◌, ◌∷◌, [], Some, ap, ◌∙◌}
use Rattle.vm_model.specs.declared.value.Value.{Value}
use Rattle.vm_model.specs.declared.value.Value.TheVariants as values
use Rattle.vm_model.specs.Machine.{Machine}
use Rattle.vm_model.specs.Tests.{below}
use Rattle.vm_model.specs.Step.{at_place}
use Rattle.vm_frames.specs.Seen.{value_in}
use Rattle.vm_session.specs.State.{state_of}
use Rattle.vm_session.specs.inner.Tops.{at_top}
use Rattle.vm_typed.proofs.Objects.{read_some, read_field, reads_to}
use Rattle.vm_typed.proofs.Taken.{is_there}
use Rattle.vm_typed.proofs.fields.read.Goals as goal

pub operand-requires : goal.operand-requires
operand-requires c = read_some c.args.linked.now (state_of c.args.state.now) c.args.class c.args.field c.requires.next

pub held_field-cell-requires : goal.held_field-cell-requires
held_field-cell-requires c =
    let m : Machine = state_of c.args.state.now in
    let top : at_top m.frame.operands 0 ≡ Some (values.Object c.in-Object.object) =
    c.operand.ensures.value ∙ ap (λ x. Some (value_in c.args.state.now.texts x)) c.in-Object.is in
    is_there (read_field c.args.linked.now m c.args.class c.args.field c.in-Object.object c.requires.next top).1

pub returns : goal.returns
returns c =
    let m : Machine = state_of c.args.state.now in
    let v : Value = value_in c.args.state.now.texts c.held_field-cell.result in
    reads_to c.args.linked.now m (state_of c.put.new.self) c.args.class c.args.field c.in-Object.object v c.requires.next
    (c.operand.ensures.value ∙ ap (λ x. Some (value_in c.args.state.now.texts x)) c.in-Object.is) c.held_field-cell.ensures.value
    (c.put.ensures.machine ∙ (λ i. at_place m (c.place-place.ensures i + 1) (below 1 m.frame.operands ++ v ∷ [])))
