-- Clean statements are resolved.
use Rattle.std.proofs.Common.{◌≡◌, ◌⊎◌, inr, ⊎_elim, ℕ, suc, ◌<◌, Bool, true, false, true≢false, List, [], ◌∷◌, ◌++◌, map, length, Option}
use Rattle.std.proofs.Common.{Some, None, option_map, slice_get, Contains, refl, sym, ap, ◌∙◌, subst, arith}
use Rattle.std.specs.Prelude.{if◌then◌else◌}
use Rattle.std.specs.List.{AllByRecursion, list_any}
use Rattle.std.specs.Str.{bytes_eq}
use Rattle.std.proofs.lemmas.Slice.Eq.{bytes_eq-Decides}
use Rattle.mg_text.specs.Call.{Name}
use Rattle.mg_text.specs.declared.place.Place.{Place}
use Rattle.mg_text.proofs.Numbered.{list_any-from_None}
use Rattle.mg_read.specs.Culprit.{Culprit, culprit}
use Rattle.mg_read.specs.First.{Clean, behind}
use Rattle.ts_tree.specs.declared.parts.TypeName.{TypeName}
use Rattle.jv_tree.specs.Source
use Rattle.jv_tree.specs.Source.{place_of}
use Rattle.jv_meaning.specs.Program.{enum_named, constant_position}
use Rattle.jv_rules.specs.Program.{Program}
use Rattle.jv_rules.specs.Types.{ValueType, EnumType, meant}
use Rattle.jv_rules.specs.Scope.{Scope, Declared, Loop, Target, entered, declared_named, is_variable}
use Rattle.jv_rules.specs.Scope as written_scope
use Rattle.jv_rules.specs.Spots.{Spot, AtStatement, stmt_spots, stmts_spots, group_spots, expr_spots, value_spots}
use Rattle.jv_rules.specs.Taking.{IsEnum}
use Rattle.jv_rules.specs.Members.{Mention, Written, mentions_in, mentions_in_stmt, mentions_in_stmts, mentions_in_groups}
use Rattle.jv_rules.specs.Members.{mentions_in_value}
use Rattle.jv_rules.specs.Declarations.{UnknownClass}
use Rattle.jv_rules.specs.Conditions.{CanBreak, CanContinue, BadLabel, CaseAt, IsCase, IsConstant, cases, label_name}
use Rattle.jv_rules.proofs.Tests.{any_decides, refuted, in_cases, nothing_in}
use Rattle.jv_core.specs.declared.program.CoreType.TheVariants as types
use Rattle.jv_core.specs.declared.program.MethodKind.TheVariants as kinds
use Rattle.jv_core.specs.Tree as Core
use Rattle.jv_core.specs.Lookup as core_lookup
use Rattle.jv_names.specs.Resolves.{Aligned}
use Rattle.jv_names.specs.Resolves as is
use Rattle.jv_names.proofs.Tables.{some_is, none_some}
use Rattle.jv_names.proofs.Clean.{NoFaultAt, CleanExpr, all_left, all_right}
use Rattle.jv_names.proofs.Declared.{clean_left, clean_right}
use Rattle.jv_resolve_law.specs.Tables.{◌>>=◌, Tables, type_meant, interned}
use Rattle.jv_resolve_law.specs.Expressions.{Given, Resolved, Known, Standing, known_named, variable_in, resolved}
use Rattle.jv_resolve_law.specs.Statements.{Counted, Around, InLoop, InSwitch, Counting, Item, is_label, labelled, innermost, labels_at}
use Rattle.jv_resolve_law.specs.Statements.{loop_more, declared, slot_more, left_by, gone_on_by, enum_given, given_back, local, item, stmt}
use Rattle.jv_resolve_law.specs.Statements.{stmts, groups}
use Rattle.jv_resolve_law.specs.Targets.{AssignsVariables, AllAssignVariables, GroupsAssignVariables}
use Rattle.jv_resolve_law.proofs.Steps.{bound, Mapped, mapped, Extends}
use Rattle.jv_resolve_law.proofs.Tabled.{IsTabled, type_meant_is}
use Rattle.jv_resolve_law.proofs.Given.{IsGiven, no_value, int_given, boolean_given, text_given, null_given, class_given, IsKnown, AreKnown}
use Rattle.jv_resolve_law.proofs.Given.{Falls, slots_in, local_found, Stands}
use Rattle.jv_resolve_law.proofs.Given as given
use Rattle.jv_resolve_law.proofs.Expressions.{Right, right}
use Rattle.jv_resolve_law.proofs.Counting.{Counts, SlotMore, slot_more_is}
use Rattle.jv_resolve_law.proofs.Leads.{targets, loop_numbers}
use Rattle.jv_resolve_law.proofs.Statements.{IsNoDeclaration, stays, stands_at, InScope, later, in_loop, in_switch, declares, item_other}
use Rattle.jv_resolve_law.proofs.Statements.{stmt_is, stmts_is}
use Rattle.jv_resolve_law.proofs.Total.{Given as G, given_bind, given_map, given_some, given_interned, type_given}
use Rattle.jv_resolve_law.proofs.TotalExpressions.{AreMeant, given_expr, given_placed}

-- Where breaks lead.

same_label : (own : Option Name) (label : Name) → is_label own label ≡ false → Loop own ≡ Loop (Some label) → ⊥
same_label None label e h = let no : None ≡ Some label = cc in none_some no
same_label (Some own) label e h =
    let same : own ≡ label = cc in
    true≢false (sym ((bytes_eq-Decides own label).1 same) ∙ e)

no_label : (label : Name) (around : List Around) → labelled around label ≡ None → Contains (targets around) (Loop (Some label)) → ⊥
no_label label [] e has = nothing_in (Loop (Some label)) has
no_label label (InSwitch ∷ around) e has =
    ⊎_elim (λ same. let no : ⊥ = cc in no) (λ more. no_label label around e more)
    (in_cases (targets around) written_scope.Switch (Loop (Some label)) has)
no_label label (InLoop own n ∷ around) e has =
    go (is_label own label) refl e (λ e more. no_label label around e more) (in_cases (targets around) (Loop own) (Loop (Some label)) has)
  where
    go : (b : Bool) → is_label own label ≡ b → (if b then Some n else labelled around label) ≡ None →
        (labelled around label ≡ None → Contains (targets around) (Loop (Some label)) → ⊥) →
        (Loop own ≡ Loop (Some label)) ⊎ Contains (targets around) (Loop (Some label)) → ⊥
    go true t e later q = none_some (sym e)
    go false t e later q = ⊎_elim (λ same. same_label own label t same) (λ more. later e more) q

given_break : (label : Option Name) (around : List Around) → ((CanBreak (targets around) label → ⊥) → ⊥) → G (left_by around label)
given_break None [] can e = can (λ some. some refl)
given_break None (InLoop own n ∷ around) can e = none_some (sym e)
given_break None (InSwitch ∷ around) can e = none_some (sym e)
given_break (Some label) around can e =
    given_map Some (labelled around label) (λ h. can (λ has. no_label label around h has)) e

no_loop : (around : List Around) → innermost around ≡ None → (label : Option Name) → Contains (targets around) (Loop label) → ⊥
no_loop [] e label has = nothing_in (Loop label) has
no_loop (InLoop own n ∷ around) e label has = none_some (sym e)
no_loop (InSwitch ∷ around) e label has =
    ⊎_elim (λ same. let no : ⊥ = cc in no) (λ more. no_loop around e label more)
    (in_cases (targets around) written_scope.Switch (Loop label) has)

given_continue : (label : Option Name) (around : List Around) → ((CanContinue (targets around) label → ⊥) → ⊥) →
    G (gone_on_by around label)
given_continue None around can e = can (λ q. no_loop around e q.0 q.1)
given_continue (Some label) around can e = can (λ has. no_label label around e has)

-- Labels of switches.

abbrev LabelFine : Source.Enum → Option Name → Type 0
LabelFine k None = Unit {0}
LabelFine k (Some name) = constant_position k name ≡ None → ⊥

given_labels : (k : Source.Enum) (labels : List (Option Name)) → AllByRecursion (LabelFine k) labels → G (labels_at k labels)
given_labels k [] fine e = none_some (sym e)
given_labels k (None ∷ labels) fine e = given_bind (labels_at k labels) _ (λ q. given_labels k labels fine.1 q) (λ n q. given_some _) e
given_labels k (Some name ∷ labels) fine e =
    given_bind (constant_position k name) _ fine.0
    (λ n q. given_bind (labels_at k labels) _ (λ q. given_labels k labels fine.1 q) (λ ns q. given_some _)) e

-- a constant has a position
pub constant_there : (k : Source.Enum) (name : Name) → Contains k.constants name → constant_position k name ≡ None → ⊥
constant_there k name has none =
    refuted (list_any (bytes_eq name) k.constants)
    (any_decides (bytes_eq name) name (λ y. ((λ e. sym ((bytes_eq-Decides name y).0 e)), (λ e. (bytes_eq-Decides name y).1 (sym e))))
    k.constants)
    (list_any-from_None (bytes_eq name) k.constants none) has

fine_cases : (sc : Scope) (p : Place) (e : Source.Expr) (k : Source.Enum) →
    ((name : Name) → IsCase sc e name → Contains k.constants name) →
    (seen ls : List (Option Name)) → Clean BadLabel (map (CaseAt sc p e) (behind seen ls)) → AllByRecursion (LabelFine k) ls
fine_cases sc p e k f seen [] clean = tt
fine_cases sc p e k f seen (None ∷ ls) clean = (tt, fine_cases sc p e k f (seen ++ None ∷ []) ls clean.1)
fine_cases sc p e k f seen (Some name ∷ ls) clean = (
  (λ none. clean.0 (culprit p name) (refl, inr (λ c. constant_there k name (f name c) none))),
  fine_cases sc p e k f (seen ++ Some name ∷ []) ls clean.1,
)

module _ (program : Program) (core : Core.Program) (tables : Tables) (t : IsTabled program tables) where
  no_enum : {ty : ValueType} {g : Given} → IsGiven program core ty g → enum_given tables g ≡ None → IsEnum ty → ⊥
  no_enum no_value e h = h
  no_enum int_given e h = h
  no_enum boolean_given e h = h
  no_enum text_given e h = h
  no_enum null_given e h = h
  no_enum (class_given c) e h = h
  no_enum (given.enum_given {e = n} i) e h = none_some (sym e ∙ ap (λ es. slice_get es n) t.enums ∙ i.at)

  -- the enum of a value is that of its type
  enum_case : {ty : ValueType} {g : Given} → IsGiven program core ty g → (k : Source.Enum) → enum_given tables g ≡ Some k →
      (of : Name) → ty ≡ EnumType of → enum_named program.files of ≡ Some k
  enum_case no_value k e of same = absurd (none_some e)
  enum_case int_given k e of same = absurd (none_some e)
  enum_case boolean_given k e of same = absurd (none_some e)
  enum_case text_given k e of same = absurd (none_some e)
  enum_case null_given k e of same = absurd (none_some e)
  enum_case (class_given c) k e of same = absurd (none_some e)
  enum_case (given.enum_given {name = name} {e = n} {k = enum} i) k e of same =
      let names : name ≡ of = cc in
      let one : enum ≡ k = some_is (sym i.at ∙ ap (λ es. slice_get es n) (sym t.enums) ∙ e) in
      subst (λ of. enum_named program.files of ≡ Some k) names (i.named ∙ ap Some one)

module _ (program : Program) (class : Source.Class) (m : Source.Method) (core : Core.Program) (tables : Tables) (at : Standing)
    (stand : (k : Core.Method) → k.class ≡ at.entry.number → Stands core tables k (entered program class m) at)
    (t : IsTabled program tables)
    (fields : AreMeant program tables at.entry) where
  -- a method with the slots so far
  abbrev pub so_far : Counted → Core.Method
  so_far c = record {
    place = m.place;
    end = m.end;
    class = at.entry.number;
    name = 0;
    kind = kinds.Static;
    result = types.Void;
    params = 0;
    slots = c.slots;
    loops = c.loops;
    body = Core.NoStmt;
  }

  abbrev pub S : (c : Counted) → Stands core tables (so_far c) (entered program class m) at
  S c = stand (so_far c) refl

  abbrev sc : List Declared → List Around → Scope
  sc ds around = record { program = program; class = class; method = m; locals = ds; around = targets around }

  abbrev pub Ready : List Declared → List Around → List Known → Counted → Type 0
  Ready ds around locals c = InScope program class m core tables (so_far c) at (S c) ds around locals c

  renown : (c u : Counted) (ds : List Declared) (ls : List Known) → Extends c.slots u.slots → AreKnown program core (so_far c) ds ls →
      AreKnown program core (so_far u) ds ls
  renown c u _ _ k is.none = is.none
  renown c u _ _ k (is.more {a = d} {b = l} {as' = ds} {bs = ls} i rest) =
      is.more (record {
        name = i.name;
        ty = i.ty;
        type = i.type;
        is = i.is;
        at =
            moved (mapped (λ (s : Core.Slot). s.ty) (slice_get c.slots l.it.slot) l.it.ty i.at);
      })
      (renown c u ds ls k rest)
    where
      moved : Mapped (λ (s : Core.Slot). s.ty) (slice_get c.slots l.it.slot) l.it.ty → core_lookup.slot_type (so_far u) l.it.slot ≡ Some l.it.ty
      moved w = ap (option_map (λ (s : Core.Slot). s.ty)) (k l.it.slot w.item w.is) ∙ ap Some w.gives

  pub move : {xs ys : List ℕ} (ds : List Declared) (around : List Around) (locals : List Known) (c u : Counted) → Counts xs ys c u →
      Ready ds around locals c → Ready ds around locals u
  move ds around locals c u k i =
      let w = later program class m core tables (so_far c) at (S c) ds around locals c u k i in
      record { known = renown c u ds locals k.slots_kept i.known; falls = w.falls; loops_fall = w.loops_fall }

  ready_loop : (label : Option Name) (p : Place) (ds : List Declared) (around : List Around) (locals : List Known) (c : Counted) →
      Ready ds around locals c → Ready ds (InLoop label (length c.loops) ∷ around) locals (loop_more p locals c)
  ready_loop label p ds around locals c i =
      let w = in_loop program class m core tables (so_far c) at (S c) label p ds around locals c i in
      record { known = renown c (loop_more p locals c) ds locals (λ n a e. e) i.known; falls = w.falls; loops_fall = w.loops_fall }

  ready_switch : (ds : List Declared) (around : List Around) (locals : List Known) (c : Counted) → Ready ds around locals c →
      Ready ds (InSwitch ∷ around) locals c
  ready_switch ds around locals c i = in_switch program class m core tables (so_far c) at (S c) ds around locals c i

  first_slot : (k a b : ℕ) → k ≡ a → b ≡ suc a → k < b
  first_slot k a b e f = omega (arith, e, f)

  pub ready_local : (ty : TypeName) (x : Name) (ds : List Declared) (around : List Around) (locals : List Known) (c : Counted)
      (k : Counting Known) →
      SlotMore ty x tables c k → Ready ds around locals c →
      Ready (record { name = x; type = meant program ty } ∷ ds) around (k.it ∷ locals) k.so_far
  ready_local ty x ds around locals c k more i =
      let w = move ds around locals c k.so_far more.counts i in
      record {
        known = is.more (record {
          name = more.called;
          ty = ty;
          type = refl;
          is = type_meant_is program core tables t ty k.it.it.ty more.meant;
          at = ap (option_map (λ (s : Core.Slot). s.ty)) more.at;
        }) w.known;
        falls = (
          first_slot k.it.it.slot (length c.slots) (length k.so_far.slots) more.slot more.count,
          subst (λ n. Falls n locals)
              (sym more.slot) i.falls,
        );
        loops_fall = w.loops_fall;
      }

  -- Expressions.

  abbrev Made : Source.Expr → Type 0
  Made e = Clean (UnknownClass program) (mentions_in e)

  value : (ds : List Declared) (around : List Around) (locals : List Known) (c : Counted) → Ready ds around locals c → (e : Source.Expr) →
      CleanExpr (sc ds around) e → Made e → G (resolved tables at locals e)
  value ds around locals c i e clean made =
      given_expr core tables (so_far c) (sc ds around) at (stands_at program class m core tables (so_far c) at (S c) ds around) locals
      (loop_numbers around)
      (length c.slots) i.known i.falls fields e clean made

  rightly : (ds : List Declared) (around : List Around) (locals : List Known) (c : Counted) (i : Ready ds around locals c)
      (e : Source.Expr) (r : Resolved) →
      CleanExpr (sc ds around) e → resolved tables at locals e ≡ Some r →
      Right core tables (so_far c) (sc ds around) at (stands_at program class m core tables (so_far c) at (S c) ds around) locals
      (loop_numbers around)
      (length c.slots) i.known i.falls e r
  rightly ds around locals c i e r clean h =
      right core tables (so_far c) (sc ds around) at (stands_at program class m core tables (so_far c) at (S c) ds around) locals
      (loop_numbers around)
      (length c.slots) i.known i.falls e r clean h

  variable : (ds : List Declared) (around : List Around) (locals : List Known) (c : Counted) (i : Ready ds around locals c)
      (e : Source.Expr) (r : Resolved) →
      CleanExpr (sc ds around) e → is_variable e ≡ true → resolved tables at locals e ≡ Some r → G (variable_in r.expr)
  variable ds around locals c i e r clean v h =
      given_placed core tables (so_far c) (sc ds around) at (stands_at program class m core tables (so_far c) at (S c) ds around) locals
      (loop_numbers around)
      (length c.slots) i.known i.falls fields (rightly ds around locals c i e r clean h).is v

  -- Declarations.

  pub slot_given : (p : Place) (ty : TypeName) (x : Name) (c : Counted) → ((q : Culprit) → UnknownClass program (Written p ty) q → ⊥) →
      G (slot_more tables ty x c)
  slot_given p ty x c fine =
      given_bind (type_meant tables ty) _ (type_given program core tables t p ty fine)
      (λ u e. given_bind (interned c.names x) _ (given_interned c.names x) (λ n h. given_some _))

  local_given : (p : Place) (ty : TypeName) (x : Name) (e : Source.Expr) (ds : List Declared) (around : List Around)
      (locals : List Known) (c : Counted) →
      Ready ds around locals c → CleanExpr (sc ds around) e → ((q : Culprit) → UnknownClass program (Written p ty) q → ⊥) → Made e →
      G (local tables at p ty x e locals c)
  local_given p ty x e ds around locals c i clean fine made =
      given_bind (resolved tables at locals e) _ (value ds around locals c i e clean made)
      (λ r h. given_bind (slot_more tables ty x c) _ (slot_given p ty x c fine) (λ k h. given_some _))

  -- a name that no local in scope has
  pub declared_given : (ds : List Declared) (around : List Around) (locals : List Known) (c : Counted) (x : Name) (l : Known) →
      Ready ds around locals c → l.name ≡ x →
      ((declared_named ds x ≡ None → ⊥) → ⊥) → G (declared l locals)
  declared_given ds around locals c x l i same new =
      subst (λ n. G (elim (known_named locals n) [ None ↦ Some (l ∷ locals) | Some k ↦ None ])) (sym same)
      (go (known_named locals x) refl)
    where
      go : (o : Option Known) → known_named locals x ≡ o → G (elim o [ None ↦ Some (l ∷ locals) | Some k ↦ None ])
      go None e = given_some (l ∷ locals)
      go (Some k) e =
          let w = local_found program core (so_far c) x ds locals (length c.slots) k i.known i.falls e in
          absurd (new (λ none. none_some (sym none ∙ w.found)))

  -- Statements.

  abbrev Spots : List Spot → Type 0
  Spots xs = AllByRecursion NoFaultAt xs

  abbrev Fine : List Mention → Type 0
  Fine ms = Clean (UnknownClass program) ms

  -- statements that are behind another one
  abbrev Follow : Source.Stmts → List Around → Type 0
  Follow rest around = (ds : List Declared) (locals : List Known) (c : Counted) → Ready ds around locals c →
      Spots (stmts_spots (sc ds around) rest) →
      Fine (mentions_in_stmts rest) → AllAssignVariables rest → stmts tables at rest around locals c ≡ None → ⊥

  new_local : (p : Place) (ty : TypeName) (x : Name) (e : Source.Expr) (ds : List Declared) (around : List Around) →
      NoFaultAt (AtStatement (sc ds around) (Source.Local p ty x e)) → (declared_named ds x ≡ None → ⊥) → ⊥
  new_local p ty x e ds around clean h = clean.new_local (culprit p x) (refl, h)

  follow_local : (p : Place) (ty : TypeName) (x : Name) (e : Source.Expr) (rest : Source.Stmts) (ds : List Declared)
      (around : List Around)
      (locals : List Known) (c : Counted) (o : Option (Counting Core.Stmt)) → Ready ds around locals c →
      Spots (stmt_spots (sc ds around) (Source.Local p ty x e)) →
      Spots (stmts_spots (sc (record { name = x; type = meant program ty } ∷ ds) around) rest) →
      Fine (Written p ty ∷ mentions_in e) → Fine (mentions_in_stmts rest) → AllAssignVariables rest → Follow rest around →
      (i : Item) → item tables at (Source.Local p ty x e) locals c o ≡ Some i → G (stmts tables at rest around i.locals i.so_far)
  follow_local p ty x e rest ds around locals c o i here there fine more assigns ih it given none =
      let k = bound (local tables at p ty x e locals c) _ it given in
      let r = bound (resolved tables at locals e) _ k.item k.is in
      let l = bound (declared k.item.0.it locals) _ it k.gives in
      let d = declares k.item.0.it locals l.item l.is in
      let q = bound (slot_more tables ty x c) _ k.item r.gives in
      let first : q.item ≡ k.item.0 = ap (λ (k : Counting Known × Core.Stmt). k.0) (some_is q.gives) in
      let slot = slot_more_is tables ty x c k.item.0 (q.is ∙ ap Some first) in
      let same : record { stmt = k.item.1; locals = k.item.0.it ∷ locals; so_far = k.item.0.so_far } ≡ it =
      ap (λ ls. record { stmt = k.item.1; locals = ls; so_far = k.item.0.so_far }) (sym d.are) ∙ some_is l.gives in
      ih (record { name = x; type = meant program ty } ∷ ds) (k.item.0.it ∷ locals) k.item.0.so_far
      (ready_local ty x ds around locals c k.item.0 slot i) there more assigns
      (ap (λ (i : Item). stmts tables at rest around i.locals i.so_far) same ∙ none)

  item_given : (p : Place) (ty : TypeName) (x : Name) (e : Source.Expr) (ds : List Declared) (around : List Around)
      (locals : List Known) (c : Counted)
      (o : Option (Counting Core.Stmt)) → Ready ds around locals c → Spots (stmt_spots (sc ds around) (Source.Local p ty x e)) →
      Fine (Written p ty ∷ mentions_in e) → G (item tables at (Source.Local p ty x e) locals c o)
  item_given p ty x e ds around locals c o i spots fine =
      given_bind (local tables at p ty x e locals c) _
      (local_given p ty x e ds around locals c i (all_left NoFaultAt (expr_spots (sc ds around) e)
      (AtStatement (sc ds around) (Source.Local p ty x e) ∷ []) spots) fine.0 fine.1)
      (λ k h. given_bind (declared k.0.it locals) _
      (declared_given ds around locals c x k.0.it i (called k h)
      (new_local p ty x e ds around (all_right NoFaultAt (expr_spots (sc ds around) e)
      (AtStatement (sc ds around) (Source.Local p ty x e) ∷ []) spots).0))
      (λ more q. given_some _))
    where
      called : (k : Counting Known × Core.Stmt) → local tables at p ty x e locals c ≡ Some k → k.0.it.name ≡ x
      called k h =
          let r = bound (resolved tables at locals e) _ k h in
          let q = bound (slot_more tables ty x c) _ k r.gives in
          let first : q.item ≡ k.0 = ap (λ (k : Counting Known × Core.Stmt). k.0) (some_is q.gives) in
          (slot_more_is tables ty x c k.0 (q.is ∙ ap Some first)).called

  abbrev together : Item → Counting (List Core.Stmt) → Counting (List Core.Stmt)
  together a b = record { it = a.stmt ∷ b.it; so_far = b.so_far }

  then_given : (st : Source.Stmt) (rest : Source.Stmts) (ds : List Declared) (around : List Around) (locals : List Known)
      (c : Counted) → IsNoDeclaration st →
      Ready ds around locals c → Spots (stmt_spots (sc ds around) st) →
      Spots (stmts_spots (written_scope.behind st (sc ds around)) rest) →
      Fine (mentions_in_stmts rest) → AllAssignVariables rest → G (stmt tables at st around locals c) → Follow rest around →
      G (do
        a ← item tables at st locals c (stmt tables at st around locals c)
        b ← stmts tables at rest around a.locals a.so_far
        Some (together a b))
  then_given st rest ds around locals c n i here there fine assigns some ih =
      given_bind (item tables at st locals c (stmt tables at st around locals c)) _
      (λ e. given_map as_item (stmt tables at st around locals c) some
      (sym (item_other program class m core tables (so_far c) at (S c) st locals c (stmt tables at st around locals c) n) ∙ e))
      (λ it h. given_bind (stmts tables at rest around it.locals it.so_far) _
      (go it (mapped as_item (stmt tables at st around locals c) it
      (sym (item_other program class m core tables (so_far c) at (S c) st locals c (stmt tables at st around locals c) n) ∙ h)))
      (λ b q. given_some _))
    where
      as_item : Counting Core.Stmt → Item
      as_item a = record { stmt = a.it; locals = locals; so_far = a.so_far }

      go : (it : Item) → Mapped as_item (stmt tables at st around locals c) it → G (stmts tables at rest around it.locals it.so_far)
      go it w none =
          let counts = (stmt_is program class m core tables (so_far c) at (S c) st ds around locals c w.item w.is).counts in
          ih ds locals w.item.so_far (move ds around locals c w.item.so_far counts i)
          (subst (λ sc. Spots (stmts_spots sc rest)) (stays st (sc ds around) n) there) fine assigns
          (ap (λ (i : Item). stmts tables at rest around i.locals i.so_far) w.gives ∙ none)

  -- the value of a switch is a constant of an enum
  switch_given : (p end : Place) (e : Source.Expr) (gs : Source.Groups) (ds : List Declared) (around : List Around)
      (locals : List Known) (c : Counted)
      (i : Ready ds around locals c) (v : Resolved) → CleanExpr (sc ds around) e → resolved tables at locals e ≡ Some v →
      NoFaultAt (AtStatement (sc ds around) (Source.Switch p e gs end)) → G (enum_given tables v.given)
  switch_given p end e gs ds around locals c i v clean h spot none =
      let w = rightly ds around locals c i e v clean h in
      spot.types.0 (culprit (place_of e) []) (
        refl,
        λ ty typed suits.
            no_enum program core tables t w.given none (subst IsEnum (some_is (sym typed ∙ w.typed)) suits),
      )

  -- the labels of a switch are constants of its enum
  labels_fine : (p end : Place) (e : Source.Expr) (gs : Source.Groups) (ds : List Declared) (around : List Around) (locals : List Known)
      (c : Counted)
      (i : Ready ds around locals c) (v : Resolved) (k : Source.Enum) → CleanExpr (sc ds around) e →
      resolved tables at locals e ≡ Some v →
      enum_given tables v.given ≡ Some k → NoFaultAt (AtStatement (sc ds around) (Source.Switch p e gs end)) →
      AllByRecursion (LabelFine k) (cases gs)
  labels_fine p end e gs ds around locals c i v k clean h g spot =
      let w = rightly ds around locals c i e v clean h in
      fine_cases (sc ds around) p e k (λ name q.
      subst (λ o. IsConstant o name) (enum_case program core tables t w.given k g q.0 (some_is (sym w.typed ∙ q.1))) q.2) [] (cases gs)
      spot.labels

  back_given : (ds : List Declared) (around : List Around) (locals : List Known) (c : Counted) (e : Option Source.Expr) →
      Ready ds around locals c →
      Spots (value_spots (sc ds around) e) → Fine (mentions_in_value e) → G (given_back tables at locals e)
  back_given ds around locals c None i clean made = given_some _
  back_given ds around locals c (Some e) i clean made =
      given_map _ (resolved tables at locals e) (value ds around locals c i e clean made)

  mutual
    stmt_given : (st : Source.Stmt) (ds : List Declared) (around : List Around) (locals : List Known) (c : Counted) →
        Ready ds around locals c →
        Spots (stmt_spots (sc ds around) st) → Fine (mentions_in_stmt st) → AssignsVariables st →
        stmt tables at st around locals c ≡ None → ⊥
    stmt_given (Source.Block p body end) ds around locals c i clean made assigns h =
        given_bind (stmts tables at body around locals c) _ (λ q. stmts_given body ds around locals c i clean made assigns q)
        (λ b q. given_some _) h
    stmt_given (Source.Empty p) ds around locals c i clean made assigns h = none_some (sym h)
    stmt_given (Source.Local p ty x e) ds around locals c i clean made assigns h =
        given_bind (local tables at p ty x e locals c) _
        (local_given p ty x e ds around locals c i
        (all_left NoFaultAt (expr_spots (sc ds around) e) (AtStatement (sc ds around) (Source.Local p ty x e) ∷ []) clean) made.0 made.1)
        (λ k q. given_some _) h
    stmt_given (Source.Assign p u e) ds around locals c i clean made assigns h =
        let s = sc ds around in
        let rest = all_right NoFaultAt (expr_spots s u) (expr_spots s e ++ AtStatement s (Source.Assign p u e) ∷ []) clean in
        let first = all_left NoFaultAt (expr_spots s u) (expr_spots s e ++ AtStatement s (Source.Assign p u e) ∷ []) clean in
        given_bind (resolved tables at locals u) _ (value ds around locals c i u first
        (clean_left (UnknownClass program) (mentions_in u) (mentions_in e) made))
        (λ r q. given_bind (variable_in r.expr) _ (variable ds around locals c i u r first assigns q)
        (λ x z. given_bind (resolved tables at locals e) _
        (value ds around locals c i e (all_left NoFaultAt (expr_spots s e) (AtStatement s (Source.Assign p u e) ∷ []) rest)
        (clean_right (UnknownClass program) (mentions_in u) (mentions_in e) made)) (λ v y. given_some _))) h
    stmt_given (Source.If p e body) ds around locals c i clean made assigns h =
        let s = sc ds around in
        let more = AtStatement s (Source.If p e body) ∷ stmt_spots s body in
        given_bind (resolved tables at locals e) _
        (value ds around locals c i e (all_left NoFaultAt (expr_spots s e) more clean)
        (clean_left (UnknownClass program) (mentions_in e) (mentions_in_stmt body) made))
        (λ v q. given_bind (stmt tables at body around locals c) _
        (λ q. stmt_given body ds around locals c i (all_right NoFaultAt (expr_spots s e) more clean).1
        (clean_right (UnknownClass program) (mentions_in e) (mentions_in_stmt body) made) assigns q) (λ b q. given_some _)) h
    stmt_given (Source.IfElse p e body other) ds around locals c i clean made assigns h =
        let s = sc ds around in
        let more = AtStatement s (Source.IfElse p e body other) ∷ (stmt_spots s body ++ stmt_spots s other) in
        let inner = (all_right NoFaultAt (expr_spots s e) more clean).1 in
        let names = clean_right (UnknownClass program) (mentions_in e) (mentions_in_stmt body ++ mentions_in_stmt other) made in
        given_bind (resolved tables at locals e) _
        (value ds around locals c i e (all_left NoFaultAt (expr_spots s e) more clean)
        (clean_left (UnknownClass program) (mentions_in e) (mentions_in_stmt body ++ mentions_in_stmt other) made))
        (λ v q. given_bind (stmt tables at body around locals c) _
        (λ q. stmt_given body ds around locals c i (all_left NoFaultAt (stmt_spots s body) (stmt_spots s other) inner)
        (clean_left (UnknownClass program) (mentions_in_stmt body) (mentions_in_stmt other) names) assigns.0 q)
        (λ b z. given_bind (stmt tables at other around locals b.so_far) _
        (λ q. stmt_given other ds around locals b.so_far
        (move ds around locals c b.so_far (stmt_is program class m core tables (so_far c) at (S c) body ds around locals c b z).counts i)
        (all_right NoFaultAt (stmt_spots s body) (stmt_spots s other) inner)
        (clean_right (UnknownClass program) (mentions_in_stmt body) (mentions_in_stmt other) names) assigns.1 q) (λ r q. given_some _))) h
    stmt_given (Source.While p label e body) ds around locals c i clean made assigns h =
        let s = sc ds around in
        let more = AtStatement s (Source.While p label e body) ∷ stmt_spots (sc ds (InLoop label (length c.loops) ∷ around)) body in
        given_bind (resolved tables at locals e) _
        (value ds around locals c i e (all_left NoFaultAt (expr_spots s e) more clean)
        (clean_left (UnknownClass program) (mentions_in e) (mentions_in_stmt body) made))
        (λ v q. given_bind (stmt tables at body (InLoop label (length c.loops) ∷ around) locals (loop_more p locals c)) _
        (λ q. stmt_given body ds (InLoop label (length c.loops) ∷ around) locals (loop_more p locals c)
        (ready_loop label p ds around locals c i)
        (all_right NoFaultAt (expr_spots s e) more clean).1
        (clean_right (UnknownClass program) (mentions_in e) (mentions_in_stmt body) made) assigns q)
        (λ b q. given_some _)) h
    stmt_given (Source.Do p label body e) ds around locals c i clean made assigns h =
        let s = sc ds around in
        let front = stmt_spots (sc ds (InLoop label (length c.loops) ∷ around)) body in
        let more = expr_spots s e ++ AtStatement s (Source.Do p label body e) ∷ [] in
        given_bind (stmt tables at body (InLoop label (length c.loops) ∷ around) locals (loop_more p locals c)) _
        (λ q. stmt_given body ds (InLoop label (length c.loops) ∷ around) locals (loop_more p locals c)
        (ready_loop label p ds around locals c i)
        (all_left NoFaultAt front more clean) (clean_left (UnknownClass program) (mentions_in_stmt body) (mentions_in e) made) assigns q)
        (λ b q. given_bind (resolved tables at locals e) _
        (value ds around locals c i e (all_left NoFaultAt (expr_spots s e) (AtStatement s (Source.Do p label body e) ∷ [])
        (all_right NoFaultAt front more clean))
        (clean_right (UnknownClass program) (mentions_in_stmt body) (mentions_in e) made)) (λ v q. given_some _)) h
    stmt_given (Source.Switch p e gs end) ds around locals c i clean made assigns h =
        let s = sc ds around in
        let more = AtStatement s (Source.Switch p e gs end) ∷ group_spots (sc ds (InSwitch ∷ around)) gs in
        let first = all_left NoFaultAt (expr_spots s e) more clean in
        let rest = all_right NoFaultAt (expr_spots s e) more clean in
        given_bind (resolved tables at locals e) _
        (value ds around locals c i e first (clean_left (UnknownClass program) (mentions_in e) (mentions_in_groups gs) made))
        (λ v q. given_bind (enum_given tables v.given) _ (switch_given p end e gs ds around locals c i v first q rest.0)
        (λ k g. given_bind (groups tables at gs k (InSwitch ∷ around) locals c) _
        (λ z. groups_given gs k ds (InSwitch ∷ around) locals c (ready_switch ds around locals c i) rest.1
        (clean_right (UnknownClass program) (mentions_in e) (mentions_in_groups gs) made) assigns
        (labels_fine p end e gs ds around locals c i v k first q g rest.0) z) (λ g z. given_some _))) h
    stmt_given (Source.Break p label) ds around locals c i clean made assigns h =
        given_bind (left_by around label) _
        (given_break label around (λ n. clean.0.labels.0 (culprit p (label_name label)) (refl, n)))
        (λ n q. given_some _) h
    stmt_given (Source.Continue p label) ds around locals c i clean made assigns h =
        given_bind (gone_on_by around label) _
        (given_continue label around (λ n. clean.0.labels.0 (culprit p (label_name label)) (refl, n)))
        (λ n q. given_some _) h
    stmt_given (Source.Return p e) ds around locals c i clean made assigns h =
        given_bind (given_back tables at locals e) _
        (back_given ds around locals c e i
        (all_left NoFaultAt (value_spots (sc ds around) e) (AtStatement (sc ds around) (Source.Return p e) ∷ []) clean) made)
        (λ v q. given_some _) h
    stmt_given (Source.Print p e) ds around locals c i clean made assigns h =
        given_bind (resolved tables at locals e) _
        (value ds around locals c i e (all_left NoFaultAt (expr_spots (sc ds around) e)
        (AtStatement (sc ds around) (Source.Print p e) ∷ []) clean) made)
        (λ v q. given_some _) h
    stmt_given (Source.Eval p e) ds around locals c i clean made assigns h =
        given_bind (resolved tables at locals e) _ (value ds around locals c i e clean made) (λ v q. given_some _) h

    pub stmts_given : (ss : Source.Stmts) (ds : List Declared) (around : List Around) (locals : List Known) (c : Counted) →
        Ready ds around locals c →
        Spots (stmts_spots (sc ds around) ss) → Fine (mentions_in_stmts ss) → AllAssignVariables ss →
        stmts tables at ss around locals c ≡ None → ⊥
    stmts_given Source.NoStmt ds around locals c i clean made assigns h = none_some (sym h)
    stmts_given (Source.Then (Source.Local p ty x e) rest) ds around locals c i clean made assigns h =
        let s = sc ds around in
        let inner = sc (record { name = x; type = meant program ty } ∷ ds) around in
        let here = all_left NoFaultAt (stmt_spots s (Source.Local p ty x e)) (stmts_spots inner rest) clean in
        let there = all_right NoFaultAt (stmt_spots s (Source.Local p ty x e)) (stmts_spots inner rest) clean in
        let first = clean_left (UnknownClass program) (Written p ty ∷ mentions_in e) (mentions_in_stmts rest) made in
        let more = clean_right (UnknownClass program) (Written p ty ∷ mentions_in e) (mentions_in_stmts rest) made in
        given_bind (item tables at (Source.Local p ty x e) locals c (stmt tables at (Source.Local p ty x e) around locals c)) _
        (item_given p ty x e ds around locals c (stmt tables at (Source.Local p ty x e) around locals c) i here first)
        (λ it q. given_bind (stmts tables at rest around it.locals it.so_far) _
        (follow_local p ty x e rest ds around locals c (stmt tables at (Source.Local p ty x e) around locals c) i here there first more
        assigns.1
        (λ ds locals c i s f a z. stmts_given rest ds around locals c i s f a z) it q) (λ b z. given_some _)) h
    stmts_given (Source.Then st rest) ds around locals c i clean made assigns h =
        let s = sc ds around in
        let here = all_left NoFaultAt (stmt_spots s st) (stmts_spots (written_scope.behind st s) rest) clean in
        let there = all_right NoFaultAt (stmt_spots s st) (stmts_spots (written_scope.behind st s) rest) clean in
        let first = clean_left (UnknownClass program) (mentions_in_stmt st) (mentions_in_stmts rest) made in
        let more = clean_right (UnknownClass program) (mentions_in_stmt st) (mentions_in_stmts rest) made in
        then_given st rest ds around locals c tt i here there more assigns.1
        (λ q. stmt_given st ds around locals c i here first assigns.0 q)
        (λ ds locals c i s f a z. stmts_given rest ds around locals c i s f a z) h

    groups_given : (gs : Source.Groups) (k : Source.Enum) (ds : List Declared) (around : List Around) (locals : List Known)
        (c : Counted) → Ready ds around locals c →
        Spots (group_spots (sc ds around) gs) → Fine (mentions_in_groups gs) → GroupsAssignVariables gs →
        AllByRecursion (LabelFine k) (cases gs) →
        groups tables at gs k around locals c ≡ None → ⊥
    groups_given Source.NoGroup k ds around locals c i clean made assigns fine h = none_some (sym h)
    groups_given (Source.Group labels body end more) k ds around locals c i clean made assigns fine h =
        let s = sc ds around in
        given_bind (labels_at k labels) _ (given_labels k labels (all_left (LabelFine k) labels (cases more) fine))
        (λ ls q. given_bind (stmts tables at body around locals c) _
        (λ q. stmts_given body ds around locals c i (all_left NoFaultAt (stmts_spots s body) (group_spots s more) clean)
        (clean_left (UnknownClass program) (mentions_in_stmts body) (mentions_in_groups more) made) assigns.0 q)
        (λ b z. given_bind (groups tables at more k around locals b.so_far) _
        (λ q. groups_given more k ds around locals b.so_far
        (move ds around locals c b.so_far (stmts_is program class m core tables (so_far c) at (S c) body ds around locals c b z).counts i)
        (all_right NoFaultAt (stmts_spots s body) (group_spots s more) clean)
        (clean_right (UnknownClass program) (mentions_in_stmts body) (mentions_in_groups more) made) assigns.1
        (all_right (LabelFine k) labels (cases more) fine) q) (λ g q. given_some _))) h
