-- The objects of the machine are those that lie in the heap.
use Rattle.std.proofs.Common.{List, reverse, ap, ◌∙◌}
use Rattle.std.specs.Prelude.{slice_get}
use Rattle.std.specs.Option.{option_map}
use Rattle.vm_frames.specs.declared.cell.Object.{Object}
use Rattle.vm_frames.proofs.Heaps.{class_is}
use Rattle.vm_frames.proofs.state.State.class_of_object.Goals as goal

pub returns : goal.returns
returns c =
    let s = c.self.inside in
    c.class_at.ensures ∙ ap (λ (l : List Object). option_map (λ o. o.class) (slice_get l c.args.object)) c.as_slice.ensures.value
    ∙ class_is s.texts.items s.head
    (reverse s.heads.items) s.cells.running s.cells.callers s.heap.items c.args.self.now c.self.view_is c.args.object
