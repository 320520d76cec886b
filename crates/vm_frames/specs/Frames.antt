-- What calls and returns do to a machine.
use Rattle.std.specs.Prelude.{◌≡◌, ℕ, ◌-◌, List, [], ◌∷◌, ◌++◌, length, map, replicate, Option, Some, None, slice_get, slice_set}
use Rattle.vm_model.specs.declared.value.Value.{Value}
use Rattle.vm_model.specs.Machine.{Machine, Frame, Object}
use Rattle.vm_model.specs.Tests.{on_top, below}
use Rattle.vm_model.specs.Step.{next}

-- one frame at the beginning of a method, whose locals are unset, and no objects
abbrev pub started : (class method locals : ℕ) → Machine
started class method locals = record {
  frame = record {
    class = class;
    method = method;
    place = 0;
    locals = replicate locals None;
    operands = [];
    told = None;
  };
  callers = [];
  heap = [];
}

-- A frame of so many locals runs over the one that calls it, which goes on behind the call. The operands on top are its first locals.
abbrev pub entered : Machine → (class method args locals : ℕ) → Option ℕ → Machine
entered m class method args locals told = record m {
  frame = record {
    class = class;
    method = method;
    place = 0;
    locals = map Some (on_top args m.frame.operands) ++ replicate (locals - args) None;
    operands = [];
    told = told;
  };
  callers = (next m (below args m.frame.operands)).frame ∷ m.callers;
}

-- the nearest of the frames that wait runs, with these operands more
abbrev pub left_to : Machine → List Value → List Frame → Option Machine
left_to m vs [] = None
left_to m vs (f ∷ fs) = Some (record m { frame = record f { operands = f.operands ++ vs }; callers = fs })

-- the nearest of the frames that wait runs this method, and has so many operands
abbrev pub IsNearest : (class method operands : ℕ) → List Frame → Type 0
IsNearest class method operands [] = ⊥
IsNearest class method operands (f ∷ fs) = (class ≡ f.class) × (method ≡ f.method) × (operands ≡ length f.operands)

-- what a field of an object holds
abbrev pub field_of_object : ℕ → Option Object → Option Value
field_of_object field None = None
field_of_object field (Some o) = slice_get o.fields field

abbrev pub field_in : List Object → (object field : ℕ) → Option Value
field_in heap object field = field_of_object field (slice_get heap object)

-- an object's field holds a value
abbrev pub with_field : List Object → (object field : ℕ) → Value → Option Object → List Object
with_field heap object field v None = heap
with_field heap object field v (Some o) = slice_set heap object (record o { fields = slice_set o.fields field v })
