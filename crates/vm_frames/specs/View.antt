-- What the frames and objects of a state are.
use Rattle.std.specs.Prelude.{ℕ, List, [], ◌∷◌, map, take, drop, reverse, Option, Some, None, slice_get}
use Rattle.mg_text.specs.Call.{Name}
use Rattle.vm_model.specs.Machine as model
use Rattle.vm_frames.specs.declared.cell.Cell.{Cell}
use Rattle.vm_frames.specs.declared.cell.Head.{Head}
use Rattle.vm_frames.specs.declared.cell.Object.{Object}
use Rattle.vm_frames.specs.declared.state.State.TheInside.{Inside}
use Rattle.vm_frames.specs.Seen.{Seen, values_in, local_in}

-- its first cells are its locals, and the others its operands
abbrev pub frame_in : List Name → Head → List Cell → model.Frame
frame_in texts head row = record {
  class = head.class;
  method = head.method;
  place = head.place;
  locals = map (local_in texts) (take head.locals row);
  operands = values_in texts (drop head.locals row);
  told = head.told;
}

-- the nearest first
abbrev pub frames_in : List Name → List Head → List (List Cell) → List model.Frame
frames_in texts [] rows = []
frames_in texts (head ∷ heads) [] = []
frames_in texts (head ∷ heads) (row ∷ rows) = frame_in texts head row ∷ frames_in texts heads rows

abbrev pub object_in : List Name → Object → model.Object
object_in texts o = record { class = o.class; fields = values_in texts o.fields.items }

abbrev pub objects_in : List Name → List Object → List model.Object
objects_in texts objects = map (object_in texts) objects

-- the cell of a field, where there are the object and the field
abbrev pub cell_of_object : ℕ → Option Object → Option Cell
cell_of_object field None = None
cell_of_object field (Some o) = slice_get o.fields.items field

abbrev pub cell_in : List Object → (object field : ℕ) → Option Cell
cell_in heap object field = cell_of_object field (slice_get heap object)

-- the running frame, those that wait and the objects
abbrev pub machine_in : List Name → Head → List Head → List Cell → List (List Cell) → List Object → model.Machine
machine_in texts head heads row rows heap = record {
  frame = frame_in texts head row;
  callers = frames_in texts heads rows;
  heap = objects_in texts heap;
}

abbrev pub seen_in : List Name → Head → List Head → List Cell → List (List Cell) → List Object → Seen
seen_in texts head heads row rows heap = record { machine = machine_in texts head heads row rows heap; texts = texts }

abbrev pub seen_of : Inside → Seen
seen_of s = seen_in s.texts.items s.head (reverse s.heads.items) s.cells.running s.cells.callers s.heap.items
