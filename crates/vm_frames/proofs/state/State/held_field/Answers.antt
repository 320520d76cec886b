-- A field says what its cell says.
use Rattle.std.proofs.Common.{◌≡◌, List, Some, IsSome, length, reverse, sym, subst, ap, ◌∙◌}
use Rattle.std.specs.Prelude.{IfSome}
use Rattle.std.specs.Option.{option_map}
use Rattle.vm_frames.specs.declared.cell.Object.{Object}
use Rattle.vm_frames.specs.Seen.{value_in, IsSet}
use Rattle.vm_frames.specs.View.{cell_in}
use Rattle.vm_frames.proofs.Heaps.{field_is, cell_set, some_mapped}
use Rattle.vm_frames.proofs.States.{texts_is}
use Rattle.vm_frames.proofs.state.State.held_field.Goals as goal

pub cell_there-requires : goal.cell_there-requires
cell_there-requires c =
    let s = c.self.inside in
    let there : IsSome (cell_in s.heap.items c.args.object c.args.field) =
    some_mapped (value_in c.args.self.now.texts) (cell_in s.heap.items c.args.object c.args.field)
    (subst IsSome (sym (field_is s.texts.items s.head (reverse s.heads.items) s.cells.running s.cells.callers s.heap.items
    c.args.self.now c.self.view_is c.args.object c.args.field)) c.requires) in
    subst (λ (l : List Object). IsSome (cell_in l c.args.object c.args.field)) (sym c.as_slice.ensures.value) there

pub returns-clause-value : goal.returns-clause-value
returns-clause-value c =
    let s = c.self.inside in
    ap (option_map (value_in c.args.self.now.texts))
    (c.cell_there.ensures ∙ ap (λ (l : List Object). cell_in l c.args.object c.args.field) c.as_slice.ensures.value)
    ∙ field_is s.texts.items s.head (reverse s.heads.items) s.cells.running s.cells.callers s.heap.items c.args.self.now c.self.view_is
    c.args.object c.args.field

pub returns-clause-set : goal.returns-clause-set
returns-clause-set c =
    let s = c.self.inside in
    subst (λ t. IsSet (length t) c.cell_there.result) (sym (texts_is s c.args.self.now c.self.view_is c.self.invariant))
    (subst (λ o. IfSome o (IsSet (length s.texts.items)))
    (sym (c.cell_there.ensures ∙ ap (λ (l : List Object). cell_in l c.args.object c.args.field) c.as_slice.ensures.value))
    (cell_set (length s.texts.items) s.heap.items c.self.invariant.objects c.args.object c.args.field))
