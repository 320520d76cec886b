-- What contracts see of a state, and what a cell says.
use Rattle.std.specs.Prelude.{ℕ, ◌<◌, List, [], map, get_or, Option, Some, None}
use Rattle.mg_text.specs.Call.{Name}
use Rattle.vm_model.specs.declared.value.Value.{Value}
use Rattle.vm_model.specs.declared.value.Value.TheVariants as values
use Rattle.vm_model.specs.Machine.{Machine}
use Rattle.vm_frames.specs.declared.cell.Cell.{Cell}
use Rattle.vm_frames.specs.declared.cell.Cell.TheVariants as cells

-- the machine, and the texts that its cells number
pub record Seen : Type 0 where
  pub machine : Machine
  pub texts : List Name

-- What a cell says, by the texts. An unset one stands for no value: no operand and no field is unset.
abbrev pub value_in : List Name → Cell → Value
value_in texts (cells.Int x) = values.Int x
value_in texts (cells.Text n) = values.Text (get_or texts n [])
value_in texts cells.Null = values.Null
value_in texts cells.Out = values.Out
value_in texts (cells.Object n) = values.Object n
value_in texts cells.Unset = values.Null

abbrev pub values_in : List Name → List Cell → List Value
values_in texts row = map (value_in texts) row

-- what a local says
abbrev pub local_in : List Name → Cell → Option Value
local_in texts cells.Unset = None
local_in texts cells.Null = Some values.Null
local_in texts cells.Out = Some values.Out
local_in texts (cells.Int x) = Some (values.Int x)
local_in texts (cells.Text n) = Some (values.Text (get_or texts n []))
local_in texts (cells.Object n) = Some (values.Object n)

-- the value of a local, where there is the local and it has one
abbrev pub held_in : Option (Option Value) → Option Value
held_in None = None
held_in (Some value) = value

-- where a cell names a text, it names one of so many
abbrev pub IsKnown : ℕ → Cell → Type 0
IsKnown count (cells.Text n) = n < count
IsKnown count cells.Unset = Unit {0}
IsKnown count cells.Null = Unit {0}
IsKnown count cells.Out = Unit {0}
IsKnown count (cells.Int x) = Unit {0}
IsKnown count (cells.Object n) = Unit {0}

-- the same of one that holds a value
abbrev pub IsSet : ℕ → Cell → Type 0
IsSet count cells.Unset = ⊥
IsSet count (cells.Text n) = n < count
IsSet count cells.Null = Unit {0}
IsSet count cells.Out = Unit {0}
IsSet count (cells.Int x) = Unit {0}
IsSet count (cells.Object n) = Unit {0}
