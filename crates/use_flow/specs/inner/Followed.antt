-- What is followed, as the code has it: a context of a program, with its method and the tables as they stand.
use Rattle.std.specs.Prelude.{ℕ, Bool, List, Option, option_and_then}
use Rattle.mg_text.specs.Call.{Name}
use Rattle.mg_text.specs.declared.place.Place.{Place}
use Rattle.ts_tree.specs.declared.parts.To.{To}
use Rattle.jv_core.specs.declared.tree.Var.{Var}
use Rattle.jv_core.specs.declared.program.CoreType.{CoreType}
use Rattle.jv_core.specs.Tree.{Expr, Exprs, Field, Method, Program}
use Rattle.jv_core.specs.View.{method_of}
use Rattle.jv_core.specs.Lookup.{slot_type}
use Rattle.use_rules.specs.declared.demand.Demand.{Demand}
use Rattle.use_elements.specs.declared.elements.Rule.{Rule}
use Rattle.use_rules.specs.declared.key.Context.{Context}
use Rattle.use_rules.specs.declared.key.TableKey.{TableKey}
use Rattle.use_flow.specs.declared.held.Tables as held
use Rattle.use_flow.specs.declared.scene.Scene.{Scene}
use Rattle.use_rules.specs.Elements.{Set}
use Rattle.use_rules.specs.Keys.{class_in, typestate_of}
use Rattle.use_rules.specs.State.{Now, Out, Log, Argued}
use Rattle.use_rules.specs.Flow as rules
use Rattle.use_flow.specs.View.{contexts_of, tables_of}
use Rattle.use_elements.specs.Mappings.{rule_of}

pub record Followed : Type 0 where
  pub program : Program
  pub contexts : List Context
  pub context : Context
  pub method : Method
  pub held : held.Tables

abbrev pub seen : Scene → Followed
seen s = record {
  program = s.core.now;
  contexts = contexts_of s.tables.now;
  context = s.context;
  method = method_of s.method.now;
  held = s.tables.now;
}

abbrev pub own_fields : Followed → List Field
own_fields s = rules.own_fields s.program s.contexts s.context s.method

abbrev pub variable_at : Followed → Var → ℕ
variable_at s = rules.variable_at s.program s.contexts s.context s.method

abbrev pub behind_variables : Followed → ℕ
behind_variables s = rules.behind_variables s.program s.contexts s.context s.method

abbrev pub variable_text : Followed → Var → Name
variable_text s = rules.variable_text s.program s.contexts s.context s.method

abbrev pub class_or_none : Followed → Option CoreType → ℕ
class_or_none s = rules.class_or_none s.program s.contexts s.context s.method

abbrev pub variable_class : Followed → Var → ℕ
variable_class s = rules.variable_class s.program s.contexts s.context s.method

abbrev pub elements_of : Followed → (class : ℕ) → ℕ
elements_of s = rules.elements_of s.program s.contexts s.context s.method

abbrev pub width_of : Followed → CoreType → ℕ
width_of s = rules.width_of s.program s.contexts s.context s.method

abbrev pub variable_width : Followed → Var → ℕ
variable_width s = rules.variable_width s.program s.contexts s.context s.method

abbrev pub judged_variable : Followed → Rule → Place → Var → List Set → List Demand
judged_variable s rule q x = rules.judged_variable s.program s.contexts s.context s.method
    (rule_of rule (typestate_of s.program (variable_class s x))) q x

abbrev pub field_outs_from : Followed → (ℕ → TableKey) → (field : ℕ) → List Field → List Set → List Out
field_outs_from s = rules.field_outs_from s.program s.contexts s.context s.method

abbrev pub field_outs : Followed → (ℕ → TableKey) → List Set → List Out
field_outs s = rules.field_outs s.program s.contexts s.context s.method

abbrev pub with_fields_from : Followed → (ℕ → TableKey) → (field : ℕ) → List Field → List Set → List Set
with_fields_from s = rules.with_fields_from s.program s.contexts s.context s.method (tables_of s.held)

abbrev pub with_fields : Followed → (ℕ → TableKey) → List Set → List Set
with_fields s = rules.with_fields s.program s.contexts s.context s.method (tables_of s.held)

abbrev pub param_outs : Followed → (context param : ℕ) → List CoreType → List Set → List Out
param_outs s = rules.param_outs s.program s.contexts s.context s.method

abbrev pub state_outs : Followed → (method : ℕ) → Method → List ℕ → List Set → List Out
state_outs s = rules.state_outs s.program s.contexts s.context s.method

abbrev pub result_in : Followed → (context : ℕ) → Method → Set
result_in s = rules.result_in s.program s.contexts s.context s.method (tables_of s.held)

abbrev pub state_results : Followed → (method : ℕ) → Method → List ℕ → Set
state_results s = rules.state_results s.program s.contexts s.context s.method (tables_of s.held)

abbrev pub left_open : Followed → Place → List ℕ → List Set → List Demand
left_open s = rules.left_open s.program s.contexts s.context s.method

abbrev pub without : Followed → List ℕ → List Set → List Set
without s = rules.without s.program s.contexts s.context s.method

abbrev pub eval : Followed → (width : ℕ) → Expr → Now → Log → rules.Evaluated
eval s = rules.eval s.program s.contexts s.context s.method (tables_of s.held)

abbrev pub eval_all : Followed → (widths : List ℕ) → Exprs → Now → Log → Argued
eval_all s = rules.eval_all s.program s.contexts s.context s.method (tables_of s.held)

abbrev pub to_states : Followed → (class : ℕ) → List To → List Set → List Out
to_states s = rules.to_states s.program s.contexts s.context s.method

abbrev pub open_fields : Followed → Place → (field : ℕ) → List Field → List Set → List Demand
open_fields s = rules.open_fields s.program s.contexts s.context s.method

abbrev pub here : Followed → ℕ
here s = rules.here s.program s.contexts s.context s.method

abbrev pub loop_scope : Followed → (loop : ℕ) → List ℕ
loop_scope s = rules.loop_scope s.program s.contexts s.context s.method

abbrev pub slot_heads : Followed → (loop : ℕ) → List ℕ → List Set → List Out
slot_heads s = rules.slot_heads s.program s.contexts s.context s.method

abbrev pub has_fields : Followed → Bool
has_fields s = rules.has_fields s.program s.contexts s.context s.method

abbrev pub heads : Followed → (loop : ℕ) → Now → Log → Log
heads s = rules.heads s.program s.contexts s.context s.method

abbrev pub slots_at : Followed → (loop : ℕ) → List ℕ → List Set → List Set
slots_at s = rules.slots_at s.program s.contexts s.context s.method (tables_of s.held)

abbrev pub at_head : Followed → (loop : ℕ) → List Set → List Set
at_head s = rules.at_head s.program s.contexts s.context s.method (tables_of s.held)

-- the class of the objects of a slot
abbrev pub slot_class : Followed → (slot : ℕ) → Option ℕ
slot_class s k = option_and_then class_in (slot_type s.method k)

abbrev pub field_head : Followed → (loop field : ℕ) → TableKey
field_head s = rules.field_head s.program s.contexts s.context s.method

abbrev pub result_out : Followed → Set → List Out
result_out s = rules.result_out s.program s.contexts s.context s.method
