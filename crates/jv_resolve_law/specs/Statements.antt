-- How statements are resolved: slots, loops and names are numbered in the order of the text.
use Rattle.std.specs.Prelude.{ℕ, List, [], ◌∷◌, ◌++◌, map, reverse, length, Option, Some, None, option_map, slice_get, Bool, false}
use Rattle.std.specs.Prelude.{if◌then◌else◌}
use Rattle.std.specs.Str.{bytes_eq}
use Rattle.mg_text.specs.Call.{Name}
use Rattle.mg_text.specs.declared.place.Place.{Place}
use Rattle.ts_tree.specs.declared.parts.TypeName.{TypeName}
use Rattle.jv_tree.specs.Source
use Rattle.jv_meaning.specs.Program.{constant_position}
use Rattle.jv_core.specs.declared.program.CoreType.TheVariants as types
use Rattle.jv_core.specs.Tree as Core
use Rattle.jv_core.specs.View.{OneGroup, stmts_of, groups_of}
use Rattle.jv_scope.specs.Named.{under}
use Rattle.jv_resolve_law.specs.Tables.{◌>>=◌, Tables, type_meant, interned}
use Rattle.jv_resolve_law.specs.Expressions.{Given, Of, Known, Standing, known_named, variable_in, resolved}

-- what was numbered so far: the names of the program, the slots and the loops of the method
pub record Counted : Type 0 where
  pub names : List Name
  pub slots : List Core.Slot
  pub loops : List Core.Loop

-- a loop or a switch around a statement
pub data Around : Type 0 where
  -- with its label and its number
  InLoop : Option Name → ℕ → Around
  InSwitch : Around

-- something with what was numbered by then
pub record Counting (A : Type 0) : Type 0 where
  pub it : A
  pub so_far : Counted

-- whether a loop has this label
abbrev pub is_label : Option Name → Name → Bool
is_label None label = false
is_label (Some own) label = bytes_eq own label

-- the innermost loop with a label
abbrev pub labelled : List Around → Name → Option ℕ
labelled [] label = None
labelled (InLoop own n ∷ around) label = if is_label own label then Some n else labelled around label
labelled (InSwitch ∷ around) label = labelled around label

-- the innermost loop
abbrev pub innermost : List Around → Option ℕ
innermost [] = None
innermost (InLoop own n ∷ around) = Some n
innermost (InSwitch ∷ around) = innermost around

-- what a `break` without a label leaves: a loop, or a switch
abbrev pub left_first : List Around → Option (Option ℕ)
left_first [] = None
left_first (InLoop own n ∷ around) = Some (Some n)
left_first (InSwitch ∷ around) = Some None

-- the loop that a `break` leaves, or none where it leaves the innermost switch
abbrev pub left_by : List Around → Option Name → Option (Option ℕ)
left_by around None = left_first around
left_by around (Some label) = option_map Some (labelled around label)

-- the loop that a `continue` goes on with
abbrev pub gone_on_by : List Around → Option Name → Option ℕ
gone_on_by around None = innermost around
gone_on_by around (Some label) = labelled around label

-- the labels of a group, as positions of constants
abbrev pub labels_at : Source.Enum → List (Option Name) → Option (List (Option ℕ))
labels_at enum [] = Some []
labels_at enum (None ∷ labels) = do
  rest ← labels_at enum labels
  Some (None ∷ rest)
labels_at enum (Some label ∷ labels) = do
  n ← constant_position enum label
  rest ← labels_at enum labels
  Some (Some n ∷ rest)

-- one more loop, with the slots in scope
abbrev pub loop_more : Place → List Known → Counted → Counted
loop_more p locals s = record s { loops = s.loops ++ record { place = p; scope = reverse (map (λ l. l.it.slot) locals) } ∷ [] }

-- one more in scope, whose name is new
abbrev pub declared : Known → List Known → Option (List Known)
declared l locals = elim (known_named locals l.name) [ None ↦ Some (l ∷ locals) | Some k ↦ None ]

-- a statement of a block, with what is in scope behind it
pub record Item : Type 0 where
  pub stmt : Core.Stmt
  pub locals : List Known
  pub so_far : Counted

module _ (tables : Tables) where
  -- one more slot
  abbrev pub slot_more : TypeName → Name → Counted → Option (Counting Known)
  slot_more ty name s = do
    ty' ← type_meant tables ty
    n ← interned s.names name
    Some (record {
      it = under name (record { slot = length s.slots; ty = ty' });
      so_far = record s { names = n.names; slots = s.slots ++ record { name = n.number; ty = ty' } ∷ [] };
    })

  -- the enum of the value of a switch
  abbrev pub enum_given : Given → Option Source.Enum
  enum_given (Of (types.Enum n)) = slice_get tables.enums n
  enum_given _ = None

  module _ (at : Standing) where
    -- the value of a `return`
    abbrev pub given_back : List Known → Option Source.Expr → Option (Option Core.Expr)
    given_back locals None = Some None
    given_back locals (Some e) = option_map (λ r. Some r.expr) (resolved tables at locals e)

    -- a declaration
    abbrev pub local : Place → TypeName → Name → Source.Expr → List Known → Counted → Option (Counting Known × Core.Stmt)
    local p ty name e locals s = do
      r ← resolved tables at locals e
      k ← slot_more ty name s
      Some (k, Core.Local p k.it.it.slot r.expr)

    -- a statement of a block that was resolved to this; a declaration is in scope from then on
    abbrev pub item : Source.Stmt → List Known → Counted → Option (Counting Core.Stmt) → Option Item
    item (Source.Local p ty name e) locals s r = do
      k ← local p ty name e locals s
      more ← declared k.0.it locals
      Some (record { stmt = k.1; locals = more; so_far = k.0.so_far })
    item stmt locals s r = option_map (λ a. record { stmt = a.it; locals = locals; so_far = a.so_far }) r

    abbrev mutual
      -- a statement; nothing is in the scope of a declaration that stands alone
      pub stmt : Source.Stmt → List Around → List Known → Counted → Option (Counting Core.Stmt)
      stmt (Source.Block p body end) around locals s = do
        b ← stmts body around locals s
        Some (record { it = Core.Block p (stmts_of b.it) end; so_far = b.so_far })
      stmt (Source.Empty p) around locals s = Some (record { it = Core.Empty p; so_far = s })
      stmt (Source.Local p ty name e) around locals s = do
        k ← local p ty name e locals s
        Some (record { it = k.1; so_far = k.0.so_far })
      stmt (Source.Assign p target value) around locals s = do
        t ← resolved tables at locals target
        x ← variable_in t.expr
        v ← resolved tables at locals value
        Some (record { it = Core.Assign p x v.expr; so_far = s })
      stmt (Source.If p c body) around locals s = do
        t ← resolved tables at locals c
        b ← stmt body around locals s
        Some (record { it = Core.If p t.expr b.it; so_far = b.so_far })
      stmt (Source.IfElse p c body rest) around locals s = do
        t ← resolved tables at locals c
        b ← stmt body around locals s
        r ← stmt rest around locals b.so_far
        Some (record { it = Core.IfElse p t.expr b.it r.it; so_far = r.so_far })
      -- a loop is numbered before those inside it
      stmt (Source.While p label c body) around locals s = do
        t ← resolved tables at locals c
        b ← stmt body (InLoop label (length s.loops) ∷ around) locals (loop_more p locals s)
        Some (record { it = Core.While p (length s.loops) t.expr b.it; so_far = b.so_far })
      stmt (Source.Do p label body c) around locals s = do
        b ← stmt body (InLoop label (length s.loops) ∷ around) locals (loop_more p locals s)
        t ← resolved tables at locals c
        Some (record { it = Core.Do p (length s.loops) b.it t.expr; so_far = b.so_far })
      stmt (Source.Switch p e gs end) around locals s = do
        v ← resolved tables at locals e
        k ← enum_given v.given
        g ← groups gs k (InSwitch ∷ around) locals s
        Some (record { it = Core.Switch p v.expr (groups_of g.it) end; so_far = g.so_far })
      stmt (Source.Break p label) around locals s = do
        n ← left_by around label
        Some (record { it = Core.Break p n; so_far = s })
      stmt (Source.Continue p label) around locals s = do
        n ← gone_on_by around label
        Some (record { it = Core.Continue p n; so_far = s })
      stmt (Source.Return p value) around locals s = do
        v ← given_back locals value
        Some (record { it = Core.Return p v; so_far = s })
      stmt (Source.Print p e) around locals s = do
        v ← resolved tables at locals e
        Some (record { it = Core.Print p v.expr; so_far = s })
      stmt (Source.Eval p e) around locals s = do
        v ← resolved tables at locals e
        Some (record { it = Core.Eval p v.expr; so_far = s })

      -- statements, each declaration with those behind it in its scope
      pub stmts : Source.Stmts → List Around → List Known → Counted → Option (Counting (List Core.Stmt))
      stmts Source.NoStmt around locals s = Some (record { it = []; so_far = s })
      stmts (Source.Then first more) around locals s = do
        a ← item first locals s (stmt first around locals s)
        b ← stmts more around a.locals a.so_far
        Some (record { it = a.stmt ∷ b.it; so_far = b.so_far })

      -- the groups of a switch over an enum; a local's scope ends with its group
      pub groups : Source.Groups → Source.Enum → List Around → List Known → Counted → Option (Counting (List OneGroup))
      groups Source.NoGroup enum around locals s = Some (record { it = []; so_far = s })
      groups (Source.Group labels body end more) enum around locals s = do
        l ← labels_at enum labels
        b ← stmts body around locals s
        g ← groups more enum around locals b.so_far
        Some (record { it = record { labels = l; body = stmts_of b.it; end = end } ∷ g.it; so_far = g.so_far })
