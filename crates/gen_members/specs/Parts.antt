-- The methods that are to be written, and what is told of a part that is too large.
use Rattle.std.specs.Prelude.{◌≡◌, ◌++◌, List, Option, option_map, string_bytes}
use Rattle.mg_text.specs.Call.{Name}
use Rattle.mg_text.specs.declared.place.Place.{Place}
use Rattle.cls_tree.specs.declared.class.Const.{Const}
use Rattle.jv_core.specs.Tree.{Class, Program}
use Rattle.gen_rules.specs.Classes.{Compiled}
use Rattle.gen_rules.specs.Limits.{Limit, Excess, Part, told, exceeded_by, first_in_parts}
use Rattle.gen_members.specs.declared.faults.GenFault.{GenFault}
use Rattle.gen_members.specs.Told.{Tells}
use Rattle.gen_expressions.specs.View.{instrs_of}
use Rattle.gen_members.specs.declared.members.Making.{Making}

-- a method whose code is made
abbrev pub compiled_of : Program → Making → Compiled
compiled_of p m = record {
  access = m.access;
  name = m.name.now;
  descriptor = string_bytes m.descriptor;
  max_stack = m.max_stack;
  max_locals = m.max_locals;
  code = instrs_of p m.instrs.items;
  place = m.place;
  told_as = m.told_as.now;
}

abbrev pub excess_at : Place → Name → Option Limit → Option Excess
excess_at place name limit = option_map (λ l. record { limit = l; place = place; name = name }) limit

-- what is told of a part behind this pool
abbrev pub part_excess : Program → Class → Part → (pool : List Const) → Option Excess
part_excess p k part pool = option_map (told p k part) (exceeded_by p k part pool)

-- Nothing in these parts is too large, and this is the pool behind them.
abbrev pub AreFine : Program → Class → List Part → (old new : List Const) → Type 0
AreFine p k parts old new = (more : List Part) → first_in_parts p k (parts ++ more) old ≡ first_in_parts p k more new

-- The fault tells the first excess in these parts.
abbrev pub FirstTold : Program → Class → List Part → (old : List Const) → GenFault → Type 0
FirstTold p k parts old e = (more : List Part) → Tells (first_in_parts p k (parts ++ more) old) e
