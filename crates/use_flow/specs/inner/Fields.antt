-- The tables of fields, by the names that the code has for them, and what flows into tables as the code keeps it.
use Rattle.std.specs.Prelude.{ℕ, ◌+◌, List, map}
use Rattle.use_rules.specs.declared.key.TableKey.{TableKey}
use Rattle.use_rules.specs.declared.key.TableKey.TheVariants as keys
use Rattle.use_flow.specs.declared.fields.FieldTable.{FieldTable}
use Rattle.use_flow.specs.declared.fields.FieldTable.TheVariants as tables
use Rattle.use_flow.specs.declared.out.Out as out
use Rattle.use_rules.specs.State.{Out}
use Rattle.use_flow.specs.View.{out_of}

-- the table of a field; at the head of a loop fields stand behind the slots
abbrev pub key_in : FieldTable → (field : ℕ) → TableKey
key_in (tables.State class state) f = keys.Field class state f
key_in (tables.Enter method) f = keys.Enter method f
key_in (tables.Leave method) f = keys.Leave method f
key_in (tables.Head context number slots) f = keys.Loop context number (slots + f)

abbrev pub outs_in : List out.Out → List Out
outs_in os = map out_of os
