-- What the program's worlds say.
use Rattle.std.specs.Prelude.{List, map, Option, Some, None}
use Rattle.mg_text.specs.declared.event.Ending.{Ending}
use Rattle.vm_world_law.specs.World as model
use Rattle.vm_world.specs.declared.role.State.{State}
use Rattle.vm_world.specs.declared.role.State.TheVariants as states
use Rattle.vm_world.specs.declared.role.Role.{Role}

abbrev pub state_of : State → model.State
state_of (states.Runs machine) = model.Runs machine.machine
state_of (states.Over ending) = model.Over ending

abbrev pub role_of : Role → model.Role
role_of role = record { state = state_of role.state; count = role.count }

abbrev pub roles_of : List Role → List model.Role
roles_of roles = map role_of roles

-- the ending of a role that has ended
abbrev pub ending_of : model.State → Option Ending
ending_of (model.Runs machine) = None
ending_of (model.Over ending) = Some ending

abbrev pub ending_in : model.Role → Option Ending
ending_in role = ending_of role.state
