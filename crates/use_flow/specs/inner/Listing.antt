-- The tables that a program has, in the order in which the code lists them, each with the class of its objects.
use Rattle.std.specs.Prelude.{ℕ, suc, ◌+◌, List, [], ◌∷◌, ◌++◌, length, Option, Some, None, slice_get, option_and_then}
use Rattle.ts_tree.specs.Typestate.{State}
use Rattle.jv_core.specs.declared.program.CoreType.{CoreType}
use Rattle.jv_core.specs.declared.program.MethodKind.TheVariants as kinds
use Rattle.jv_core.specs.Tree.{Class, Field, Loop, Method, Program}
use Rattle.jv_core.specs.Lookup.{slot_type, param_types}
use Rattle.use_rules.specs.declared.key.Context.{Context}
use Rattle.use_rules.specs.declared.key.TableKey.{TableKey}
use Rattle.use_rules.specs.declared.key.TableKey.TheVariants as keys
use Rattle.use_flow.specs.declared.classed.Entry.{Entry}
use Rattle.use_rules.specs.Keys.{class_in, method_in, typestate_of}

-- what stands for each item, by its place
abbrev pub listed_from : {A B : Type 0} → (ℕ → A → List B) → (place : ℕ) → List A → List B
listed_from f k [] = []
listed_from f k (x ∷ xs) = f k x ++ listed_from f (suc k) xs

abbrev pub entry_if : TableKey → (class : Option ℕ) → List Entry
entry_if key None = []
entry_if key (Some c) = record { key = key; class = c } ∷ []

abbrev pub field_entry : (ℕ → TableKey) → ℕ → Field → List Entry
field_entry to f d = entry_if (to f) (class_in d.ty)

abbrev pub field_entries : (ℕ → TableKey) → List Field → List Entry
field_entries to ds = listed_from (field_entry to) 0 ds

abbrev pub fields_of : Program → (class : ℕ) → List Field
fields_of p c = elim (slice_get p.classes c) [ None ↦ [] | Some k ↦ k.fields ]

-- Classes: their fields, by states.

abbrev pub state_entry : (class : ℕ) → List Field → ℕ → State → List Entry
state_entry c ds q s = field_entries (keys.Field c q) ds

abbrev pub state_entries : (class : ℕ) → List Field → List State → List Entry
state_entries c ds ss = listed_from (state_entry c ds) 0 ss

abbrev pub class_entries : Program → (class : ℕ) → Class → List Entry
class_entries p c k = state_entries c k.fields (typestate_of p c).states

abbrev pub by_classes : Program → List Entry
by_classes p = listed_from (class_entries p) 0 p.classes

-- Helpers: the fields where they are entered and left.

abbrev pub method_entries : Program → (number : ℕ) → Method → List Entry
method_entries p n m = elim m.kind [
  | kinds.Helper ↦ field_entries (keys.Enter n) (fields_of p m.class) ++ field_entries (keys.Leave n) (fields_of p m.class)
  | _ ↦ []
]

abbrev pub by_methods : Program → List Entry
by_methods p = listed_from (method_entries p) 0 p.methods

-- Contexts: parameters, results, and what is known at the heads of loops.

abbrev pub param_entry : (context : ℕ) → ℕ → CoreType → List Entry
param_entry c i ty = entry_if (keys.Param c i) (class_in ty)

abbrev pub param_entries : (context : ℕ) → List CoreType → List Entry
param_entries c tys = listed_from (param_entry c) 0 tys

abbrev pub slot_entry : Method → (context loop : ℕ) → ℕ → (slot : ℕ) → List Entry
slot_entry m c l i k = entry_if (keys.Loop c l k) (option_and_then class_in (slot_type m k))

abbrev pub scope_entries : Method → (context loop : ℕ) → List ℕ → List Entry
scope_entries m c l ks = listed_from (slot_entry m c l) 0 ks

abbrev pub head_key : Method → (context loop : ℕ) → (field : ℕ) → TableKey
head_key m c l f = keys.Loop c l (length m.slots + f)

abbrev pub head_entries : Program → (context : ℕ) → Method → (loop : ℕ) → List Entry
head_entries p c m l = elim m.kind [
  | kinds.Protocol ↦ field_entries (head_key m c l) (fields_of p m.class)
  | kinds.Helper ↦ field_entries (head_key m c l) (fields_of p m.class)
  | _ ↦ []
]

abbrev pub loop_entries : Program → (context : ℕ) → Method → (loop : ℕ) → Loop → List Entry
loop_entries p c m l head = scope_entries m c l head.scope ++ head_entries p c m l

abbrev pub loops_entries : Program → (context : ℕ) → Method → List Loop → List Entry
loops_entries p c m ls = listed_from (loop_entries p c m) 0 ls

abbrev pub context_entries : Program → (context : ℕ) → Method → List Entry
context_entries p c m = param_entries c (param_types m) ++ (entry_if (keys.Result c) (class_in m.result) ++ loops_entries p c m m.loops)

abbrev pub entries_at : Program → (number : ℕ) → Context → List Entry
entries_at p c x = elim (slice_get p.methods (method_in x)) [ None ↦ [] | Some m ↦ context_entries p c m ]

abbrev pub by_contexts : Program → List Context → List Entry
by_contexts p cs = listed_from (entries_at p) 0 cs

abbrev pub entries_in : Program → List Context → List Entry
entries_in p cs = by_classes p ++ (by_methods p ++ by_contexts p cs)
