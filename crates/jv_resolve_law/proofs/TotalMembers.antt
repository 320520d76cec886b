-- Well typed programs are resolved.
use Rattle.std.proofs.Common.{◌≡◌, ℕ, suc, ◌+◌, List, [], ◌∷◌, ◌++◌, map, length, Option, Some, None, position, refl, sym, subst}
use Rattle.std.specs.List.{AllByRecursion}
use Rattle.std.specs.Str.{bytes_eq}
use Rattle.mg_text.specs.Call.{Name}
use Rattle.mg_text.specs.declared.place.Place.{Place}
use Rattle.mg_read.specs.Culprit.{Culprit, culprit}
use Rattle.mg_read.specs.First.{Clean}
use Rattle.ts_tree.specs.Typestate.{Typestate}
use Rattle.ts_tree.specs.declared.parts.TypeName.{TypeName}
use Rattle.ts_tree.specs.declared.parts.TypeName.TheVariants as written
use Rattle.jv_tree.specs.declared.tree.Param.{Param}
use Rattle.jv_tree.specs.Source
use Rattle.jv_meaning.specs.Program.{classes_of, enum_named, constant_position}
use Rattle.jv_rules.specs.Program.{Program}
use Rattle.jv_rules.specs.Types.{meant}
use Rattle.jv_rules.specs.Scope.{Scope, Declared, entered, with_params}
use Rattle.jv_rules.specs.Spots.{AtEnd, param_spots, stmts_spots, method_spots}
use Rattle.jv_rules.specs.Members.{Written, mentions_in_stmts, param_mention}
use Rattle.jv_rules.specs.Declarations.{UnknownClass, UnknownTypestate, LacksConstant, FieldNeedsValue, IsConstantOf, HasConstant}
use Rattle.jv_core.specs.Tree as Core
use Rattle.jv_names.specs.Resolves.{Aligned, Owned, methods_of}
use Rattle.jv_names.specs.Resolves as is
use Rattle.jv_names.proofs.Tables.{some_is, none_some}
use Rattle.jv_names.proofs.Clean.{NoFaultAt, all_left, all_right}
use Rattle.jv_resolve_law.specs.Tables.{Entry, Tables, type_meant, followed, entries_from, tables_of, interned, enum_called}
use Rattle.jv_resolve_law.specs.Expressions.{Known, constant, initial}
use Rattle.jv_resolve_law.specs.Statements.{Counted, declared, slot_more, stmts}
use Rattle.jv_resolve_law.specs.Members.{Naming, Opened, all_interned, enum, enums, begins_with, field, fields, class, classes, params}
use Rattle.jv_resolve_law.specs.Members.{method, methods, resolving}
use Rattle.jv_resolve_law.specs.Members as members
use Rattle.jv_resolve_law.specs.Targets.{AllAssignVariables}
use Rattle.jv_resolve_law.proofs.Steps.{bound, not_named}
use Rattle.jv_resolve_law.proofs.Tabled.{IsTabled, enum_called_is}
use Rattle.jv_resolve_law.proofs.Given.{Stands}
use Rattle.jv_resolve_law.proofs.Counting.{slot_more_is}
use Rattle.jv_resolve_law.proofs.Statements.{declares}
use Rattle.jv_resolve_law.proofs.Methods.{standing, with_declared, with_params_are}
use Rattle.jv_resolve_law.proofs.Whole.{EntryAt}
use Rattle.jv_resolve_law.proofs.Total.{Given as G, given_bind, given_map, given_some, given_interned, type_given, enum_given}
use Rattle.jv_resolve_law.proofs.TotalExpressions.{AreMeant}
use Rattle.jv_resolve_law.proofs.TotalStatements.{Ready, slot_given, declared_given, ready_local, stmts_given, constant_there}

-- Names and enums.

all_interned_given : (names xs : List Name) → G (all_interned names xs)
all_interned_given names [] e = none_some (sym e)
all_interned_given names (x ∷ xs) e =
    given_bind (interned names x) _ (given_interned names x)
    (λ n q. given_bind (all_interned n.names xs) _ (λ q. all_interned_given n.names xs q) (λ r q. given_some _)) e

pub enums_given : (names : List Name) (es : List Source.Enum) → G (enums names es)
enums_given names [] e = none_some (sym e)
enums_given names (k ∷ es) e =
    given_bind (enum names k) _
    (λ q. given_bind (interned names k.name) _ (given_interned names k.name)
    (λ n q. given_bind (all_interned n.names k.constants) _ (all_interned_given n.names k.constants) (λ r q. given_some _)) q)
    (λ r q. given_bind (enums r.names es) _ (λ q. enums_given r.names es q) (λ s q. given_some _)) e

-- Tables.

followed_given : (program : Program) (c : Source.Class) → ((q : Culprit) → UnknownTypestate program c q → ⊥) →
    G (followed program.typestates c.typestate)
followed_given program c fine = go c.typestate refl
  where
    go : (o : Option Name) → c.typestate ≡ o → G (followed program.typestates o)
    go None e = given_some None
    go (Some name) e =
        given_bind (position (bytes_eq name) (map (λ t. t.name) program.typestates)) _
        (λ none. fine (culprit c.place name) (name, e, refl, not_named (λ (t : Typestate). t.name) program.typestates name none))
        (λ n q. given_some _)

entries_given : (program : Program) (n m : ℕ) (cs : List Source.Class) → Clean (UnknownTypestate program) cs →
    G (entries_from program.typestates n m cs)
entries_given program n m [] clean e = none_some (sym e)
entries_given program n m (c ∷ cs) clean e =
    given_bind (followed program.typestates c.typestate) _ (followed_given program c clean.0)
    (λ t q. given_bind (entries_from program.typestates (suc n) (m + length c.methods) cs) _
    (λ q. entries_given program (suc n) (m + length c.methods) cs clean.1 q) (λ es q. given_some _)) e

pub tables_given : (program : Program) → Clean (UnknownTypestate program) (classes_of program.files) → G (tables_of program)
tables_given program clean =
    given_bind (entries_from program.typestates 0 0 (classes_of program.files)) _
    (entries_given program 0 0 (classes_of program.files) clean) (λ es q. given_some _)

module _ (program : Program) (tables : Tables) (t : IsTabled program tables) where
  nothing : Core.Program
  nothing = record { classes = []; enums = []; methods = []; typestates = []; names = [] }

  -- What fields begin with.

  constant_given : (p : Place) (of name : Name) → HasConstant (enum_named program.files of) name → G (constant tables p of name)
  constant_given p of name has =
      given_bind (enum_called tables of) _ (enum_given program nothing tables t of (λ none. subst (λ o. HasConstant o name) none has))
      (λ k e. given_bind (constant_position k.enum name) _
      (constant_there k.enum name (subst (λ o. HasConstant o name) (enum_called_is program nothing tables t of k e).named has))
      (λ i q. given_some _))

  member_constant : (ty : TypeName) (p q : Place) (of name : Name) →
      IsConstantOf program ty (Source.Member p (Source.Variable q of) name) →
      HasConstant (enum_named program.files of) name
  member_constant written.Void p q of name h = absurd h
  member_constant written.Int p q of name h = absurd h
  member_constant written.Boolean p q of name h = absurd h
  member_constant written.Text p q of name h = absurd h
  member_constant (written.Named n) p q of name h = subst (λ n. HasConstant (enum_named program.files n) name) (sym h.0) h.1

  initial_given : (ty : TypeName) (e : Source.Expr) → IsConstantOf program ty e → G (initial tables e)
  initial_given ty (Source.Int p z) h = given_some _
  initial_given ty (Source.Truth p b) h = given_some _
  initial_given ty (Source.Text p s) h = given_some _
  initial_given ty (Source.Null p) h = given_some _
  initial_given ty (Source.Member p (Source.Variable q of) name) h =
      given_map _ (constant tables p of name) (constant_given p of name (member_constant ty p q of name h))
  initial_given written.Void e h = absurd h
  initial_given written.Int e h = absurd h
  initial_given written.Boolean e h = absurd h
  initial_given written.Text e h = absurd h
  initial_given (written.Named n) e h = absurd h

  begins_given : (f : Source.Field) → ((q : Culprit) → FieldNeedsValue program f q → ⊥) → G (begins_with tables f.value)
  begins_given f fine = go f.value refl
    where
      go : (o : Option Source.Expr) → f.value ≡ o → G (begins_with tables o)
      go None e h = none_some (sym h)
      go (Some v) e h =
          fine (culprit f.place f.name) (
            refl,
            subst (λ o. LacksConstant program f.ty o) (sym e)
                (λ is. given_map Some (initial tables v) (initial_given f.ty v is) h),
          )

  -- a field without a fault
  pub record FieldFine (f : Source.Field) : Type 0 where
    pub type : (q : Culprit) → UnknownClass program (Written f.place f.ty) q → ⊥
    pub value : (q : Culprit) → FieldNeedsValue program f q → ⊥

  fields_given : (names : List Name) (fs : List Source.Field) → AllByRecursion FieldFine fs → G (fields tables names fs)
  fields_given names [] fine e = none_some (sym e)
  fields_given names (f ∷ fs) fine e =
      given_bind (field tables names f) _
      (λ q. given_bind (interned names f.name) _ (given_interned names f.name)
      (λ n q. given_bind (type_meant tables f.ty) _ (type_given program nothing tables t f.place f.ty fine.0.type)
      (λ u q. given_bind (begins_with tables f.value) _ (begins_given f fine.0.value) (λ v q. given_some _))) q)
      (λ r q. given_bind (fields tables r.names fs) _ (λ q. fields_given r.names fs fine.1 q) (λ s q. given_some _)) e

  pub classes_given : (names : List Name) (es : List Entry) → AllByRecursion (λ e. AllByRecursion FieldFine e.class.fields) es →
      G (classes tables names es)
  classes_given names [] fine e = none_some (sym e)
  classes_given names (k ∷ es) fine e =
      given_bind (class tables names k) _
      (λ q. given_bind (interned names k.class.name) _ (given_interned names k.class.name)
      (λ n q. given_bind (fields tables n.names k.class.fields) _ (fields_given n.names k.class.fields fine.0) (λ r q. given_some _)) q)
      (λ r q. given_bind (classes tables r.names es) _ (λ q. classes_given r.names es fine.1 q) (λ s q. given_some _)) e

  -- Methods.

  -- a method without a fault
  pub record MethodFine (e : Entry) (m : Source.Method) : Type 0 where
    pub result : (q : Culprit) → UnknownClass program (Written m.place m.result) q → ⊥
    pub params : Clean (UnknownClass program) (map param_mention m.params)
    pub body : Clean (UnknownClass program) (mentions_in_stmts m.body)
    pub spots : AllByRecursion NoFaultAt (method_spots program e.class m)
    pub assigns : AllAssignVariables m.body

  module _ (core : Core.Program)
      (stand : (e : Entry) → EntryAt program tables e → (m : Source.Method) (k : Core.Method) → k.class ≡ e.number →
      Stands core tables k (entered program e.class m) (standing e m))
      (meant_all : (e : Entry) → EntryAt program tables e → AreMeant program tables e) where
    module _ (e : Entry) (i : EntryAt program tables e) (m : Source.Method) where
      abbrev R : List Declared → List Known → Counted → Type 0
      R ds locals c = Ready program e.class m core tables (standing e m) (stand e i m) t (meant_all e i) ds [] locals c

      abbrev sc : List Declared → Scope
      sc ds = record { program = program; class = e.class; method = m; locals = ds; around = [] }

      params_given : (ps : List Param) (ds : List Declared) (locals : List Known) (c : Counted) → R ds locals c →
          AllByRecursion NoFaultAt (param_spots (sc ds) ps) →
          Clean (UnknownClass program) (map param_mention ps) → G (params tables ps locals c)
      params_given [] ds locals c r spots fine h = none_some (sym h)
      params_given (p ∷ ps) ds locals c r spots fine h =
          given_bind (slot_more tables p.ty p.name c) _
          (slot_given program e.class m core tables (standing e m) (stand e i m) t (meant_all e i) p.place p.ty p.name c fine.0)
          (λ k q. let more = slot_more_is tables p.ty p.name c k q in given_bind (declared k.it locals) _
          (declared_given program e.class m core tables (standing e m) (stand e i m) t (meant_all e i) ds [] locals c p.name k.it r
          more.called
          (λ n. spots.0.new_local (culprit p.place p.name) (refl, n)))
          (λ ls z. params_given ps (record { name = p.name; type = meant program p.ty } ∷ ds) ls k.so_far
          (subst (λ ls. R (record { name = p.name; type = meant program p.ty } ∷ ds) ls k.so_far) (sym (declares k.it locals ls z).are)
          (ready_local program e.class m core tables (standing e m) (stand e i m) t (meant_all e i) p.ty p.name ds [] locals c k more
          r)) spots.1 fine.1)) h

      params_ready : (ps : List Param) (ds : List Declared) (locals : List Known) (c : Counted) (o : Opened) →
          params tables ps locals c ≡ Some o → R ds locals c →
          R (with_declared program ps ds) o.locals o.so_far
      params_ready [] ds locals c o given r = subst (λ (o : Opened). R ds o.locals o.so_far) (some_is given) r
      params_ready (p ∷ ps) ds locals c o given r =
          let b = bound (slot_more tables p.ty p.name c) _ o given in
          let d = bound (declared b.item.it locals) _ o b.gives in
          let more = slot_more_is tables p.ty p.name c b.item b.is in
          params_ready ps (record { name = p.name; type = meant program p.ty } ∷ ds) d.item b.item.so_far o d.gives
          (subst (λ ls. R (record { name = p.name; type = meant program p.ty } ∷ ds) ls b.item.so_far)
          (sym (declares b.item.it locals d.item d.is).are)
          (ready_local program e.class m core tables (standing e m) (stand e i m) t (meant_all e i) p.ty p.name ds [] locals c b.item
          more r))

      method_given : (names : List Name) → MethodFine e m → G (method tables names e m)
      method_given names fine =
          given_bind (interned names m.name) _ (given_interned names m.name)
          (λ n q. given_bind (type_meant tables m.result) _ (type_given program nothing tables t m.place m.result fine.result)
          (λ u q. given_bind (params tables m.params [] (record { names = n.names; slots = []; loops = [] })) _
          (params_given m.params [] [] (record { names = n.names; slots = []; loops = [] }) (first n.names) first_spots fine.params)
          (λ o z. given_bind (stmts tables (standing e m) m.body [] o.locals o.so_far) _
          (stmts_given program e.class m core tables (standing e m) (stand e i m) t (meant_all e i) m.body
          (with_declared program m.params []) [] o.locals o.so_far
          (params_ready m.params [] [] (record { names = n.names; slots = []; loops = [] }) o z (first n.names)) body_spots fine.body
          fine.assigns)
          (λ b q. given_some _))))
        where
          first : (names : List Name) → R [] [] (record { names = names; slots = []; loops = [] })
          first names = record { known = is.none; falls = tt; loops_fall = tt }

          first_spots : AllByRecursion NoFaultAt (param_spots (sc []) m.params)
          first_spots = all_left NoFaultAt (param_spots (sc []) m.params)
              (stmts_spots (with_params m.params (sc [])) m.body ++ AtEnd m ∷ []) fine.spots

          body_spots : AllByRecursion NoFaultAt (stmts_spots (sc (with_declared program m.params [])) m.body)
          body_spots =
              subst (λ s. AllByRecursion NoFaultAt (stmts_spots s m.body)) (with_params_are program e.class m m.params [])
              (all_left NoFaultAt (stmts_spots (with_params m.params (sc [])) m.body) (AtEnd m ∷ [])
              (all_right NoFaultAt (param_spots (sc []) m.params) (stmts_spots (with_params m.params (sc [])) m.body ++ AtEnd m ∷ [])
              fine.spots))

    block_given : (e : Entry) (i : EntryAt program tables e) (names : List Name) (ms : List Source.Method) →
        AllByRecursion (MethodFine e) ms →
        G (members.methods_of tables names e ms)
    block_given e i names [] fine h = none_some (sym h)
    block_given e i names (m ∷ ms) fine h =
        given_bind (method tables names e m) _ (method_given e i m names fine.0)
        (λ r q. given_bind (members.methods_of tables r.names e ms) _ (λ q. block_given e i r.names ms fine.1 q) (λ s q. given_some _)) h

    pub methods_given : (names : List Name) (es : List Entry) → AllByRecursion (EntryAt program tables) es →
        AllByRecursion (λ e. AllByRecursion (MethodFine e) e.class.methods) es → G (methods tables names es)
    methods_given names [] i fine h = none_some (sym h)
    methods_given names (e ∷ es) i fine h =
        given_bind (members.methods_of tables names e e.class.methods) _ (block_given e i.0 names e.class.methods fine.0)
        (λ r q. given_bind (methods tables r.names es) _ (λ q. methods_given r.names es i.1 fine.1 q) (λ s q. given_some _)) h
