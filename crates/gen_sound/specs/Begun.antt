-- Where a run begins, as a moment of the machine.
use Rattle.std.specs.Prelude.{ℕ, [], None}
use Rattle.vm_model.specs.Machine.{Machine}
use Rattle.vm_model.specs.Messages.{Messages}
use Rattle.gen_sound.specs.Following.{Moment}
use Rattle.gen_sound.specs.Related.{Running}

-- the frame of a method that no other frame waits for, by the numbers of its class and of the method there
abbrev pub outermost : (class method : ℕ) → Running
outermost class method = record { class = class; method = method; told = None; callers = [] }

-- before the first instruction there are no events
abbrev pub begun : Machine → Messages → Moment
begun start q = record { machine = start; messages = q; events = [] }
