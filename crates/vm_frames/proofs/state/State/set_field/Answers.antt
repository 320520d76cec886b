-- The object of that number holds another value.
use Rattle.std.proofs.Common.{◌≡◌, ◌<◌, Some, length, reverse, set, refl, subst, arith}
use Rattle.std.proofs.lemmas.Option.{slice_get_read}
use Rattle.std.specs.Prelude.{slice_get}
use Rattle.vm_frames.specs.Seen.{value_in, IsSet}
use Rattle.vm_frames.specs.Kept.{IsObject}
use Rattle.vm_frames.proofs.Heaps.{writes, unwritten, object-set}
use Rattle.vm_frames.proofs.Rows.{at_slice}
use Rattle.vm_frames.proofs.Same.{written-kept}
use Rattle.vm_frames.proofs.States.{texts_is}
use Rattle.vm_frames.proofs.state.State.set_field.Goals as goal

pub returns-then-number-len-clause-machine : goal.returns-then-number-len-clause-machine
returns-then-number-len-clause-machine c =
    let s = c.self.inside in
    unwritten s.texts.items s.head (reverse s.heads.items) s.cells.running s.cells.callers s.heap.items c.args.self.now c.self.view_is
    c.args.object c.args.field (value_in c.args.self.now.texts c.args.cell)
    (omega (arith, c.if-number-len.true, c.len.ensures, s.heap.ok.0))

pub invariant_of-self : goal.invariant_of-self
invariant_of-self c =
    let s = c.self.inside in
    let o = c.index_mut-found.result.now in
    let within : c.args.object < length s.heap.items = omega (arith, c.if-number-len.false, c.len.ensures, s.heap.ok.0) in
    let found : slice_get s.heap.items c.args.object ≡ Some o =
    slice_get_read s.heap.items (length s.heap.items) c.args.object o refl within c.index_mut-found.ensures.value in
    let is_set : IsSet (length s.texts.items) c.args.cell =
    subst (λ t. IsSet (length t) c.args.cell) (texts_is s c.args.self.now c.self.view_is c.self.invariant) c.requires in
    written-kept s c.args.self.now c.self.view_is c.self.invariant _ refl refl refl refl
    (omega arith) c.args.object c.put_field.new.object refl refl
    (object-set (length s.texts.items) o c.put_field.new.object c.args.field c.args.cell
    (at_slice (IsObject (length s.texts.items)) s.heap.items c.args.object o c.self.invariant.objects found) is_set
    c.put_field.ensures.fields)

pub returns-clause-machine : goal.returns-clause-machine
returns-clause-machine c =
    let s = c.self.inside in
    let o = c.index_mut-found.result.now in
    let within : c.args.object < length s.heap.items = omega (arith, c.if-number-len.false, c.len.ensures, s.heap.ok.0) in
    let found : slice_get s.heap.items c.args.object ≡ Some o =
    slice_get_read s.heap.items (length s.heap.items) c.args.object o refl within c.index_mut-found.ensures.value in
    writes s.texts.items s.head (reverse s.heads.items) s.cells.running s.cells.callers s.heap.items c.args.self.now c.self.view_is
    (set s.heap.items c.args.object c.put_field.new.object) c.args.object c.args.field c.args.cell o c.put_field.new.object found refl
    c.put_field.ensures.class c.put_field.ensures.fields
