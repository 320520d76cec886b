-- How classes, enums and methods are resolved, and whole programs.
use Rattle.std.specs.Prelude.{ℕ, List, [], ◌∷◌, ◌++◌, length, Option, Some, None, option_map}
use Rattle.mg_text.specs.Call.{Name}
use Rattle.jv_tree.specs.declared.tree.Param.{Param}
use Rattle.jv_tree.specs.Source
use Rattle.jv_rules.specs.Program.{Program}
use Rattle.jv_core.specs.Tree as Core
use Rattle.jv_core.specs.Numbering.{numbers_from}
use Rattle.jv_core.specs.View.{stmts_of}
use Rattle.jv_resolve_law.specs.Tables.{◌>>=◌, Entry, Tables, tables_of, type_meant, kind_meant, interned}
use Rattle.jv_resolve_law.specs.Expressions.{Known, initial}
use Rattle.jv_resolve_law.specs.Statements.{Counted, slot_more, declared, stmts}

-- something with the names that have numbers by then
pub record Naming (A : Type 0) : Type 0 where
  pub it : A
  pub names : List Name

-- the numbers of names
abbrev pub all_interned : List Name → List Name → Option (Naming (List ℕ))
all_interned names [] = Some (record { it = []; names = names })
all_interned names (x ∷ xs) = do
  n ← interned names x
  rest ← all_interned n.names xs
  Some (record { it = n.number ∷ rest.it; names = rest.names })

abbrev pub enum : List Name → Source.Enum → Option (Naming Core.Enum)
enum names e = do
  n ← interned names e.name
  cs ← all_interned n.names e.constants
  Some (record { it = record { name = n.number; constants = cs.it }; names = cs.names })

abbrev pub enums : List Name → List Source.Enum → Option (Naming (List Core.Enum))
enums names [] = Some (record { it = []; names = names })
enums names (e ∷ es) = do
  k ← enum names e
  rest ← enums k.names es
  Some (record { it = k.it ∷ rest.it; names = rest.names })

-- parameters in scope
pub record Opened : Type 0 where
  pub locals : List Known
  pub so_far : Counted

module _ (tables : Tables) where
  -- the constant that a field begins with, where one is written
  abbrev pub begins_with : Option Source.Expr → Option (Option Core.Expr)
  begins_with None = Some None
  begins_with (Some e) = option_map Some (initial tables e)

  abbrev pub field : List Name → Source.Field → Option (Naming Core.Field)
  field names f = do
    n ← interned names f.name
    ty ← type_meant tables f.ty
    v ← begins_with f.value
    Some (record { it = record { name = n.number; ty = ty; value = v }; names = n.names })

  abbrev pub fields : List Name → List Source.Field → Option (Naming (List Core.Field))
  fields names [] = Some (record { it = []; names = names })
  fields names (f ∷ fs) = do
    k ← field names f
    rest ← fields k.names fs
    Some (record { it = k.it ∷ rest.it; names = rest.names })

  -- a class
  abbrev pub class : List Name → Entry → Option (Naming Core.Class)
  class names entry = do
    n ← interned names entry.class.name
    fs ← fields n.names entry.class.fields
    Some (record {
      it = record {
        place = entry.class.place;
        name = n.number;
        typestate = entry.typestate;
        fields = fs.it;
        methods = numbers_from entry.first_method (length entry.class.methods);
      };
      names = fs.names;
    })

  abbrev pub classes : List Name → List Entry → Option (Naming (List Core.Class))
  classes names [] = Some (record { it = []; names = names })
  classes names (e ∷ es) = do
    k ← class names e
    rest ← classes k.names es
    Some (record { it = k.it ∷ rest.it; names = rest.names })

  -- parameters
  abbrev pub params : List Param → List Known → Counted → Option Opened
  params [] locals s = Some (record { locals = locals; so_far = s })
  params (p ∷ ps) locals s = do
    k ← slot_more tables p.ty p.name s
    more ← declared k.it locals
    params ps more k.so_far

  -- a method of a class
  abbrev pub method : List Name → Entry → Source.Method → Option (Naming Core.Method)
  method names entry m = do
    n ← interned names m.name
    ty ← type_meant tables m.result
    o ← params m.params [] (record { names = n.names; slots = []; loops = [] })
    b ← stmts tables (record { entry = entry; is_static = m.is_static }) m.body [] o.locals o.so_far
    Some (record {
      it = record {
        place = m.place;
        end = m.end;
        class = entry.number;
        name = n.number;
        kind = kind_meant tables entry m;
        result = ty;
        params = length m.params;
        slots = b.so_far.slots;
        loops = b.so_far.loops;
        body = stmts_of b.it;
      };
      names = b.so_far.names;
    })

  -- methods of a class, in front of those of further ones
  abbrev pub methods_of : List Name → Entry → List Source.Method → Option (Naming (List Core.Method))
  methods_of names entry [] = Some (record { it = []; names = names })
  methods_of names entry (m ∷ ms) = do
    k ← method names entry m
    rest ← methods_of k.names entry ms
    Some (record { it = k.it ∷ rest.it; names = rest.names })

  -- the methods of classes
  abbrev pub methods : List Name → List Entry → Option (Naming (List Core.Method))
  methods names [] = Some (record { it = []; names = names })
  methods names (e ∷ es) = do
    k ← methods_of names e e.class.methods
    rest ← methods k.names es
    Some (record { it = k.it ++ rest.it; names = rest.names })

-- the core of a program
abbrev pub resolving : Program → Option Core.Program
resolving program = do
  tables ← tables_of program
  es ← enums [] tables.enums
  cs ← classes tables es.names tables.classes
  ms ← methods tables cs.names tables.classes
  Some (record { classes = cs.it; enums = es.it; methods = ms.it; typestates = program.typestates; names = ms.names })
