-- What the program's states say.
use Rattle.std.specs.Prelude.{List}
use Rattle.vm_model.specs.declared.value.Value.{Value}
use Rattle.vm_model.specs.Machine as model
use Rattle.vm_frames.specs.Seen.{Seen}

abbrev pub state_of : Seen → model.Machine
state_of s = s.machine

-- the operands of the running frame
abbrev pub operands_of : Seen → List Value
operands_of s = s.machine.frame.operands
