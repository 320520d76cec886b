-- What clean statements are resolved to stands for them.
use Rattle.std.proofs.Common.{◌≡◌, ◌≢◌, ℕ, zero, suc, ◌+◌, ◌<◌, ◌≤◌, List, [], ◌∷◌, ◌++◌, reverse, length, Option, Some, None, option_map}
use Rattle.std.proofs.Common.{slice_get, refl, sym, ap, ◌∙◌, subst, arith}
use Rattle.std.specs.List.{AllByRecursion}
use Rattle.mg_text.specs.Call.{Name}
use Rattle.mg_text.specs.declared.place.Place.{Place}
use Rattle.ts_tree.specs.declared.parts.TypeName.{TypeName}
use Rattle.jv_tree.specs.Source
use Rattle.jv_meaning.specs.Program.{constant_position}
use Rattle.jv_rules.specs.Program.{Program}
use Rattle.jv_rules.specs.Types.{ValueType, meant}
use Rattle.jv_rules.specs.Scope.{Scope, Declared, entered, behind}
use Rattle.jv_rules.specs.Spots.{Spot, AtStatement, stmt_spots, stmts_spots, group_spots, expr_spots, value_spots}
use Rattle.jv_core.specs.declared.tree.CoreVar.{CoreVar}
use Rattle.jv_core.specs.declared.program.CoreType.TheVariants as types
use Rattle.jv_core.specs.Tree as Core
use Rattle.jv_core.specs.View.{OneGroup, before, stmts_of, groups_of}
use Rattle.jv_core.specs.Numbering.{numbers_from, declared_in, declared_in_all, declared_in_groups, loops_in, loops_in_all, loops_in_groups}
use Rattle.jv_names.specs.Resolves.{Aligned, Numbers, IsEnum, IsExpr, IsPlaced, IsLabel, IsValue, IsSlot, IsStmt, IsStmts, IsGroups}
use Rattle.jv_names.specs.Resolves.{GivesEnum}
use Rattle.jv_names.specs.Resolves as is
use Rattle.jv_names.proofs.Tables.{some_is, none_some}
use Rattle.jv_names.proofs.Clean.{NoFaultAt, CleanExpr, all_left, all_right}
use Rattle.jv_resolve_law.specs.Tables.{◌>>=◌, Tables}
use Rattle.jv_resolve_law.specs.Expressions.{Given, Of, Resolved, Known, Standing, known_named, variable_in, resolved}
use Rattle.jv_resolve_law.specs.Statements.{Counted, Around, InLoop, InSwitch, Counting, Item, labels_at, loop_more, declared, slot_more}
use Rattle.jv_resolve_law.specs.Statements.{left_by, gone_on_by, enum_given, given_back, local, item, stmt, stmts, groups}
use Rattle.jv_resolve_law.proofs.Steps.{bound, mapped, at_end}
use Rattle.jv_resolve_law.proofs.Tabled.{IsTabled}
use Rattle.jv_resolve_law.proofs.Given.{IsGiven, no_value, int_given, boolean_given, text_given, null_given, class_given, AreKnown, IsKnown}
use Rattle.jv_resolve_law.proofs.Given.{Falls, slots_in, Stands}
use Rattle.jv_resolve_law.proofs.Given as given
use Rattle.jv_resolve_law.proofs.Expressions.{Right, right, right_placed}
use Rattle.jv_resolve_law.proofs.Counting.{longer, Counts, counts_none, counts_then, counts_loop, counts_as, counts_before, Reaches}
use Rattle.jv_resolve_law.proofs.Counting.{reaches_back, SlotMore, slot_more_is, in_method}
use Rattle.jv_resolve_law.proofs.Leads.{targets, loop_numbers, LoopsFall, break_leads, continue_leads}

-- a statement but a declaration
abbrev pub IsNoDeclaration : Source.Stmt → Type 0
IsNoDeclaration (Source.Local p ty x e) = ⊥
IsNoDeclaration _ = Unit {0}

no_local : (s : Source.Stmt) → IsNoDeclaration s → (p : Place) (ty : TypeName) (x : Name) (e : Source.Expr) → s ≢ Source.Local p ty x e
no_local s n p ty x e same = subst IsNoDeclaration same n

pub stays : (s : Source.Stmt) (scope : Scope) → IsNoDeclaration s → behind s scope ≡ scope
stays (Source.Local p ty x e) scope n = absurd n
stays s scope n = refl

falls_up : (n m : ℕ) (ls : List Known) → n ≤ m → Falls n ls → Falls m ls
falls_up n m [] h f = tt
falls_up n m (l ∷ ls) h f = (let a = f.0 in omega (arith, h, a), f.1)

loops_fall_up : (n m : ℕ) (around : List Around) → n ≤ m → LoopsFall n around → LoopsFall m around
loops_fall_up n m [] h f = tt
loops_fall_up n m (InLoop label k ∷ around) h f = (let a = f.0 in omega (arith, h, a), f.1)
loops_fall_up n m (InSwitch ∷ around) h f = loops_fall_up n m around h f

pub record Declares (l : Known) (locals more : List Known) : Type 0 where
  pub are : more ≡ l ∷ locals

pub declares : (l : Known) (locals more : List Known) → declared l locals ≡ Some more → Declares l locals more
declares l locals more e = go (known_named locals l.name) e
  where
    go : (o : Option Known) → (elim o [ None ↦ Some (l ∷ locals) | Some k ↦ None ]) ≡ Some more → Declares l locals more
    go None e = record { are = sym (some_is e) }
    go (Some k) e = absurd (none_some e)

-- the labels of a group
labels_are : (program : Program) (core : Core.Program) (enum : Source.Enum) (labels : List (Option Name)) (at : List (Option ℕ)) →
    labels_at enum labels ≡ Some at →
    Aligned (IsLabel program core enum) labels at
labels_are program core enum [] at e = subst (Aligned (IsLabel program core enum) []) (some_is e) is.none
labels_are program core enum (None ∷ labels) at e =
    let b = bound (labels_at enum labels) _ at e in
    subst (Aligned (IsLabel program core enum) (None ∷ labels)) (some_is b.gives)
    (is.more is.default_label (labels_are program core enum labels b.item b.is))
labels_are program core enum (Some label ∷ labels) at e =
    let b = bound (constant_position enum label) _ at e in
    let c = bound (labels_at enum labels) _ at b.gives in
    subst (Aligned (IsLabel program core enum) (Some label ∷ labels)) (some_is c.gives)
    (is.more (is.case_label b.is) (labels_are program core enum labels c.item c.is))

-- the enum of the value of a switch
record SwitchOn (program : Program) (core : Core.Program) (g : Given) (k : Source.Enum) : Type 0 where
  name : Name
  number : ℕ
  of : g ≡ Of (types.Enum number)
  is : IsEnum program core name number k

switch_on : (program : Program) (core : Core.Program) (tables : Tables) → IsTabled program tables → {t : ValueType} {g : Given} →
    IsGiven program core t g → (k : Source.Enum) →
    enum_given tables g ≡ Some k → SwitchOn program core g k
switch_on program core tables tb no_value k e = absurd (none_some e)
switch_on program core tables tb int_given k e = absurd (none_some e)
switch_on program core tables tb boolean_given k e = absurd (none_some e)
switch_on program core tables tb text_given k e = absurd (none_some e)
switch_on program core tables tb null_given k e = absurd (none_some e)
switch_on program core tables tb (class_given c) k e = absurd (none_some e)
switch_on program core tables tb (given.enum_given {name = name} {e = n} {k = enum} i) k e =
    let same : enum ≡ k = some_is (sym i.at ∙ ap (λ es. slice_get es n) (sym tb.enums) ∙ e) in
    record { name = name; number = n; of = refl; is = subst (IsEnum program core name n) same i }

module _ (program : Program) (class : Source.Class) (m : Source.Method) (core : Core.Program) (tables : Tables) (method : Core.Method)
    (at : Standing)
    (s : Stands core tables method (entered program class m) at) where
  abbrev pub scope_at : List Declared → List Around → Scope
  scope_at ds around = record { program = program; class = class; method = m; locals = ds; around = targets around }

  abbrev pub numbers_at : List Known → List Around → Numbers
  numbers_at locals around = record { slots = slots_in locals; loops = loop_numbers around }

  pub stands_at : (ds : List Declared) (around : List Around) → Stands core tables method (scope_at ds around) at
  stands_at ds around = record {
    tabled = s.tabled;
    number = s.number;
    entry = s.entry;
    class = s.class;
    named = s.named;
    static = s.static;
    holds = s.holds;
  }

  -- what is in scope
  pub record InScope (ds : List Declared) (around : List Around) (locals : List Known) (c : Counted) : Type 0 where
    pub known : AreKnown program core method ds locals
    pub falls : Falls (length c.slots) locals
    pub loops_fall : LoopsFall (length c.loops) around

  grown : (a b j : ℕ) → b ≡ a + j → a ≤ b
  grown a b j e = omega (arith, e)

  pub later : {xs ys : List ℕ} (ds : List Declared) (around : List Around) (locals : List Known) (c t : Counted) → Counts xs ys c t →
      InScope ds around locals c → InScope ds around locals t
  later ds around locals c t k i = record {
    known = i.known;
    falls = falls_up (length c.slots) (length t.slots) locals (grown (length c.slots) (length t.slots) k.more_slots k.slot_count) i.falls;
    loops_fall = loops_fall_up (length c.loops) (length t.loops) around
        (grown (length c.loops) (length t.loops) k.more_loops k.loop_count) i.loops_fall;
  }

  one_longer : (a b : ℕ) → b ≡ a + suc zero → a < b
  one_longer a b e = omega (arith, e)

  pub in_loop : (label : Option Name) (p : Place) (ds : List Declared) (around : List Around) (locals : List Known) (c : Counted) →
      InScope ds around locals c →
      InScope ds (InLoop label (length c.loops) ∷ around) locals (loop_more p locals c)
  in_loop label p ds around locals c i = record {
    known = i.known;
    falls = i.falls;
    loops_fall = (
      one_longer (length c.loops) (length (loop_more p locals c).loops)
          (longer c.loops (record { place = p; scope = reverse (slots_in locals) })),
      i.loops_fall,
    );
  }

  pub in_switch : (ds : List Declared) (around : List Around) (locals : List Known) (c : Counted) → InScope ds around locals c →
      InScope ds (InSwitch ∷ around) locals c
  in_switch ds around locals c i = record { known = i.known; falls = i.falls; loops_fall = i.loops_fall }

  -- Expressions.

  abbrev E : List Declared → List Around → List Known → Source.Expr → Core.Expr → Type 0
  E ds around locals = IsExpr program core (scope_at ds around) (numbers_at locals around)

  abbrev R : (ds : List Declared) (around : List Around) (locals : List Known) (c : Counted) → InScope ds around locals c →
      Source.Expr → Resolved → Type 0
  R ds around locals c i = Right core tables method (scope_at ds around) at (stands_at ds around) locals (loop_numbers around)
      (length c.slots) i.known i.falls

  expr : (ds : List Declared) (around : List Around) (locals : List Known) (c : Counted) (i : InScope ds around locals c)
      (e : Source.Expr) (r : Resolved) →
      CleanExpr (scope_at ds around) e → resolved tables at locals e ≡ Some r → R ds around locals c i e r
  expr ds around locals c i e r clean given =
      right core tables method (scope_at ds around) at (stands_at ds around) locals (loop_numbers around) (length c.slots) i.known
      i.falls e r clean given

  placed : (ds : List Declared) (around : List Around) (locals : List Known) (c : Counted) (i : InScope ds around locals c)
      (e : Source.Expr) (e' : Core.Expr) (x : CoreVar) →
      E ds around locals e e' → variable_in e' ≡ Some x → IsPlaced program core (scope_at ds around) (numbers_at locals around) e x
  placed ds around locals c i e e' x h given =
      right_placed core tables method (scope_at ds around) at (stands_at ds around) locals (loop_numbers around) (length c.slots)
      i.known i.falls h x given

  abbrev Spots : List Spot → Type 0
  Spots xs = AllByRecursion NoFaultAt xs

  -- A statement is resolved rightly: what it declares is counted, and it stands for the source where all has its number in the end.
  pub record Stmt (st : Source.Stmt) (ds : List Declared) (around : List Around) (locals : List Known) (c : Counted)
      (a : Counting Core.Stmt) : Type 0 where
    pub counts : Counts (declared_in a.it) (loops_in a.it) c a.so_far
    is : Reaches core method a.so_far → InScope ds around locals c → Spots (stmt_spots (scope_at ds around) st) →
        IsStmt program core method (scope_at ds around) (numbers_at locals around) st a.it

  pub record Stmts (ss : Source.Stmts) (ds : List Declared) (around : List Around) (locals : List Known) (c : Counted)
      (a : Counting (List Core.Stmt)) : Type 0 where
    pub counts : Counts (declared_in_all (stmts_of a.it)) (loops_in_all (stmts_of a.it)) c a.so_far
    pub is : Reaches core method a.so_far → InScope ds around locals c → Spots (stmts_spots (scope_at ds around) ss) →
        IsStmts program core method (scope_at ds around) (numbers_at locals around) ss (stmts_of a.it)

  record Groups (gs : Source.Groups) (enum : Source.Enum) (ds : List Declared) (around : List Around) (locals : List Known)
      (c : Counted) (a : Counting (List OneGroup)) : Type 0 where
    counts : Counts (declared_in_groups (groups_of a.it)) (loops_in_groups (groups_of a.it)) c a.so_far
    is : Reaches core method a.so_far → InScope ds around locals c → Spots (group_spots (scope_at ds around) gs) →
        IsGroups program core method enum (scope_at ds around) (numbers_at locals around) gs (groups_of a.it)

  -- Declarations.

  record LocalIs (p : Place) (ty : TypeName) (x : Name) (e : Source.Expr) (ds : List Declared) (around : List Around)
      (locals : List Known) (c : Counted)
      (k : Counting Known × Core.Stmt) : Type 0 where
    value : Core.Expr
    stmt_is : k.1 ≡ Core.Local p k.0.it.it.slot value
    more : SlotMore ty x tables c k.0
    is : InScope ds around locals c → CleanExpr (scope_at ds around) e → E ds around locals e value

  local_is : (p : Place) (ty : TypeName) (x : Name) (e : Source.Expr) (ds : List Declared) (around : List Around) (locals : List Known)
      (c : Counted) (k : Counting Known × Core.Stmt) →
      local tables at p ty x e locals c ≡ Some k → LocalIs p ty x e ds around locals c k
  local_is p ty x e ds around locals c k given =
      let b = bound (resolved tables at locals e) _ k given in
      let d = bound (slot_more tables ty x c) _ k b.gives in
      subst (LocalIs p ty x e ds around locals c) (some_is d.gives) (record {
        value = b.item.expr;
        stmt_is = refl;
        more = slot_more_is tables ty x c d.item d.is;
        is = λ i clean. (expr ds around locals c i e b.item clean b.is).is;
      })

  local_counts : (p : Place) (ty : TypeName) (x : Name) (e : Source.Expr) (ds : List Declared) (around : List Around)
      (locals : List Known) (c : Counted) (k : Counting Known × Core.Stmt) →
      LocalIs p ty x e ds around locals c k → Counts (declared_in k.1) (loops_in k.1) c k.0.so_far
  local_counts p ty x e ds around locals c k w = counts_as w.more.counts (ap declared_in w.stmt_is) (ap loops_in w.stmt_is)

  alone : (p : Place) (ty : TypeName) (x : Name) (e : Source.Expr) (ds : List Declared) (around : List Around) (locals : List Known)
      (c : Counted) (k : Counting Known × Core.Stmt) →
      LocalIs p ty x e ds around locals c k → Stmt (Source.Local p ty x e) ds around locals c (record { it = k.1; so_far = k.0.so_far })
  alone p ty x e ds around locals c k w = record {
    counts = local_counts p ty x e ds around locals c k w;
    is = λ r i clean. subst (IsStmt program core method (scope_at ds around) (numbers_at locals around) (Source.Local p ty x e))
        (sym w.stmt_is)
        (is.local (w.is i (all_left NoFaultAt (expr_spots (scope_at ds around) e)
        (AtStatement (scope_at ds around) (Source.Local p ty x e) ∷ []) clean))
        (in_method program core method tables ty x c k.0 s.tabled w.more r).slot);
  }

  -- a declaration brings its slot into scope
  abbrev pub with_local : TypeName → Name → List Declared → List Declared
  with_local ty x ds = record { name = x; type = meant program ty } ∷ ds

  pub opened : (ty : TypeName) (x : Name) (ds : List Declared) (around : List Around) (locals : List Known) (c : Counted)
      (k : Counting Known) → SlotMore ty x tables c k →
      Reaches core method k.so_far → InScope ds around locals c → InScope (with_local ty x ds) around (k.it ∷ locals) k.so_far
  opened ty x ds around locals c k more r i =
      let w = in_method program core method tables ty x c k s.tabled more r in
      let after = later ds around locals c k.so_far more.counts i in
      record {
        known = is.more (record {
          name = more.called;
          ty = ty;
          type = refl;
          is =
              subst (λ u. is.IsType program core ty u) (typed_slot k.it (w.slot.slot) w.slot.at w.typed) w.slot.type;
          at = w.typed;
        })
            i.known;
        falls = (
          let e = more.counts.slot_count in let f =
              more.slot in one_slot (length c.slots) (length k.so_far.slots) k.it.it.slot more.counts.more_slots
              (some_slot k.it.it.slot more.counts.more_slots (length c.slots) more.counts.slots_are) e f,
          subst (λ n. Falls n locals) (sym more.slot) i.falls,
        );
        loops_fall = after.loops_fall;
      }
    where
      typed_slot : (k : Known) (slot : Core.Slot) → slice_get method.slots k.it.slot ≡ Some slot →
          option_map (λ (s : Core.Slot). s.ty) (slice_get method.slots k.it.slot) ≡ Some k.it.ty → slot.ty ≡ k.it.ty
      typed_slot k slot e f = some_is (sym (ap (option_map (λ (s : Core.Slot). s.ty)) e) ∙ f)

      some_slot : (k n first : ℕ) → k ∷ [] ≡ numbers_from first n → (n ≡ zero → ⊥)
      some_slot k n first e z = let no : k ∷ [] ≡ [] = e ∙ ap (numbers_from first) z in cc

      one_slot : (a b k n : ℕ) → (n ≡ zero → ⊥) → b ≡ a + n → k ≡ a → k < b
      one_slot a b k zero some e f = absurd (some refl)
      one_slot a b k (suc n) some e f = omega (arith, e, f)

  -- a declaration with the statements in its scope
  in_block : (p : Place) (ty : TypeName) (x : Name) (e : Source.Expr) (rest : Source.Stmts) (ds : List Declared) (around : List Around)
      (locals : List Known) (c : Counted)
      (k : Counting Known × Core.Stmt) (b : Counting (List Core.Stmt)) → LocalIs p ty x e ds around locals c k →
      Stmts rest (with_local ty x ds) around (k.0.it ∷ locals) k.0.so_far b →
      Stmts (Source.Then (Source.Local p ty x e) rest) ds around locals c (record { it = k.1 ∷ b.it; so_far = b.so_far })
  in_block p ty x e rest ds around locals c k b w more = record {
    counts = counts_before k.1 (stmts_of b.it) (local_counts p ty x e ds around locals c k w) more.counts;
    is = λ r i clean.
        let q = reaches_back more.counts r in
        let slot = in_method program core method tables ty x c k.0 s.tabled w.more q in
        let here = all_left NoFaultAt (stmt_spots (scope_at ds around) (Source.Local p ty x e))
        (stmts_spots (scope_at (with_local ty x ds) around) rest) clean in
        let there = all_right NoFaultAt (stmt_spots (scope_at ds around) (Source.Local p ty x e))
        (stmts_spots (scope_at (with_local ty x ds) around) rest) clean in
        subst (λ x'. IsStmts program core method (scope_at ds around) (numbers_at locals around)
        (Source.Then (Source.Local p ty x e) rest) (before x' (stmts_of b.it))) (sym w.stmt_is)
        (is.declaration (w.is i (all_left NoFaultAt (expr_spots (scope_at ds around) e)
        (AtStatement (scope_at ds around) (Source.Local p ty x e) ∷ []) here)) slot.slot
        (more.is r (opened ty x ds around locals c k.0 w.more q i) there));
  }

  -- a statement that stands for no declaration is none
  stands_before : {sc : Scope} {ns : Numbers} {st : Source.Stmt} {x : Core.Stmt} → IsStmt program core method sc ns st x →
      IsNoDeclaration st → (more : Core.Stmts) → before x more ≡ Core.Then x more
  stands_before (is.block b) n more = refl
  stands_before is.empty n more = refl
  stands_before (is.local e k) n more = absurd n
  stands_before (is.assign x v) n more = refl
  stands_before (is.if_then t b) n more = refl
  stands_before (is.if_else t b r) n more = refl
  stands_before (is.while_loop l t b) n more = refl
  stands_before (is.do_loop l b t) n more = refl
  stands_before (is.switch v k g gs) n more = refl
  stands_before (is.break l) n more = refl
  stands_before (is.continue l) n more = refl
  stands_before (is.return v) n more = refl
  stands_before (is.print e) n more = refl
  stands_before (is.eval e) n more = refl

  -- a statement but a declaration, in front of others
  in_front : (st : Source.Stmt) (rest : Source.Stmts) (ds : List Declared) (around : List Around) (locals : List Known) (c : Counted)
      (a : Counting Core.Stmt) (b : Counting (List Core.Stmt)) → IsNoDeclaration st → Stmt st ds around locals c a →
      Stmts rest ds around locals a.so_far b →
      Stmts (Source.Then st rest) ds around locals c (record { it = a.it ∷ b.it; so_far = b.so_far })
  in_front st rest ds around locals c a b n w more = record {
    counts = counts_before a.it (stmts_of b.it) w.counts more.counts;
    is = λ r i clean.
        let x = w.is (reaches_back more.counts r) i
        (all_left NoFaultAt (stmt_spots (scope_at ds around) st) (stmts_spots (behind st (scope_at ds around)) rest) clean) in
        let there = all_right NoFaultAt (stmt_spots (scope_at ds around) st) (stmts_spots (behind st (scope_at ds around)) rest) clean in
        let xs = more.is r (later ds around locals c a.so_far w.counts i)
        (subst (λ sc. Spots (stmts_spots sc rest)) (stays st (scope_at ds around) n) there) in
        subst (IsStmts program core method (scope_at ds around) (numbers_at locals around) (Source.Then st rest))
        (sym (stands_before x n (stmts_of b.it)))
        (is.then (no_local st n) x xs);
  }

  pub item_other : (st : Source.Stmt) (locals : List Known) (c : Counted) (r : Option (Counting Core.Stmt)) → IsNoDeclaration st →
      item tables at st locals c r ≡ option_map (λ a. record { stmt = a.it; locals = locals; so_far = a.so_far }) r
  item_other (Source.Local p ty x e) locals c r n = absurd n
  item_other st locals c r n = refl

  abbrev Rest : Source.Stmts → List Around → Type 0
  Rest rest around = (ds : List Declared) (locals : List Known) (c : Counted) (b : Counting (List Core.Stmt)) →
      stmts tables at rest around locals c ≡ Some b → Stmts rest ds around locals c b

  abbrev behind_item : Item → Counting (List Core.Stmt) → Counting (List Core.Stmt)
  behind_item i j = record { it = i.stmt ∷ j.it; so_far = j.so_far }

  joined : (x y : Item) (j b : Counting (List Core.Stmt)) → x ≡ y → behind_item y j ≡ b → behind_item x j ≡ b
  joined x y j b e f = ap (λ (i : Item). behind_item i j) e ∙ f

  then_local : (p : Place) (ty : TypeName) (x : Name) (e : Source.Expr) (rest : Source.Stmts) (ds : List Declared)
      (around : List Around) (locals : List Known) (c : Counted)
      (o : Option (Counting Core.Stmt)) (b : Counting (List Core.Stmt)) → Rest rest around →
      (do
        a ← item tables at (Source.Local p ty x e) locals c o
        b ← stmts tables at rest around a.locals a.so_far
        Some (record { it = a.stmt ∷ b.it; so_far = b.so_far })) ≡ Some b →
      Stmts (Source.Then (Source.Local p ty x e) rest) ds around locals c b
  then_local p ty x e rest ds around locals c o b ih given =
      let i = bound (item tables at (Source.Local p ty x e) locals c o) _ b given in
      let j = bound (stmts tables at rest around i.item.locals i.item.so_far) _ b i.gives in
      let k = bound (local tables at p ty x e locals c) _ i.item i.is in
      let l = bound (declared k.item.0.it locals) _ i.item k.gives in
      let w = local_is p ty x e ds around locals c k.item k.is in
      let d = declares k.item.0.it locals l.item l.is in
      let same : record { stmt = k.item.1; locals = k.item.0.it ∷ locals; so_far = k.item.0.so_far } ≡ i.item =
      ap (λ ls. record { stmt = k.item.1; locals = ls; so_far = k.item.0.so_far }) (sym d.are) ∙ some_is l.gives in
      let rest_is : stmts tables at rest around (k.item.0.it ∷ locals) k.item.0.so_far ≡ Some j.item =
      ap (λ (i : Item). stmts tables at rest around i.locals i.so_far) same ∙ j.is in
      subst (Stmts (Source.Then (Source.Local p ty x e) rest) ds around locals c)
      (joined (record { stmt = k.item.1; locals = k.item.0.it ∷ locals; so_far = k.item.0.so_far }) i.item j.item b same
      (some_is j.gives))
      (in_block p ty x e rest ds around locals c k.item j.item w
      (ih (with_local ty x ds) (k.item.0.it ∷ locals) k.item.0.so_far j.item rest_is))

  then_other : (st : Source.Stmt) (rest : Source.Stmts) (ds : List Declared) (around : List Around) (locals : List Known) (c : Counted)
      (o : Option (Counting Core.Stmt))
      (b : Counting (List Core.Stmt)) → IsNoDeclaration st → ((a : Counting Core.Stmt) → o ≡ Some a → Stmt st ds around locals c a) →
      Rest rest around →
      (do
        a ← item tables at st locals c o
        b ← stmts tables at rest around a.locals a.so_far
        Some (record { it = a.stmt ∷ b.it; so_far = b.so_far })) ≡ Some b →
      Stmts (Source.Then st rest) ds around locals c b
  then_other st rest ds around locals c o b n first ih given =
      let i = bound (item tables at st locals c o) _ b given in
      let j = bound (stmts tables at rest around i.item.locals i.item.so_far) _ b i.gives in
      let k = mapped (λ a. record { stmt = a.it; locals = locals; so_far = a.so_far }) o i.item
      (sym (item_other st locals c o n) ∙ i.is) in
      let rest_is : stmts tables at rest around locals k.item.so_far ≡ Some j.item =
      ap (λ (i : Item). stmts tables at rest around i.locals i.so_far) k.gives ∙ j.is in
      subst (Stmts (Source.Then st rest) ds around locals c)
      (ap (λ (i : Item). record { it = i.stmt ∷ j.item.it; so_far = j.item.so_far }) k.gives ∙ some_is j.gives)
      (in_front st rest ds around locals c k.item j.item n (first k.item k.is) (ih ds locals k.item.so_far j.item rest_is))

  -- Further statements.

  plain : (st : Source.Stmt) (x : Core.Stmt) (ds : List Declared) (around : List Around) (locals : List Known) (c : Counted) →
      declared_in x ≡ [] → loops_in x ≡ [] →
      (InScope ds around locals c → Spots (stmt_spots (scope_at ds around) st) →
      IsStmt program core method (scope_at ds around) (numbers_at locals around) st x) →
      Stmt st ds around locals c (record { it = x; so_far = c })
  plain st x ds around locals c e f i = record { counts = counts_as (counts_none c) e f; is = λ r s clean. i s clean }

  loop_at : (p : Place) (ds : List Declared) (around : List Around) (locals : List Known) (c t : Counted) {xs ys : List ℕ} →
      Counts xs ys (loop_more p locals c) t → Reaches core method t →
      is.IsLoop program core method (length c.loops) p (slots_in locals)
  loop_at p ds around locals c t k r =
      (reaches_back k r).loops (length c.loops) (record { place = p; scope = reverse (slots_in locals) })
      (at_end c.loops (record { place = p; scope = reverse (slots_in locals) }))

  value_is : (ds : List Declared) (around : List Around) (locals : List Known) (c : Counted) (e : Option Source.Expr)
      (v : Option Core.Expr) → given_back tables at locals e ≡ Some v →
      InScope ds around locals c → Spots (value_spots (scope_at ds around) e) →
      IsValue program core (scope_at ds around) (numbers_at locals around) e v
  value_is ds around locals c None v given i clean =
      subst (IsValue program core (scope_at ds around) (numbers_at locals around) None) (some_is given) is.without
  value_is ds around locals c (Some e) v given i clean =
      let b = mapped (λ (r : Resolved). Some r.expr) (resolved tables at locals e) v given in
      subst (IsValue program core (scope_at ds around) (numbers_at locals around) (Some e)) b.gives
      (is.with_value (expr ds around locals c i e b.item clean b.is).is)

  mutual
    pub stmt_is : (st : Source.Stmt) (ds : List Declared) (around : List Around) (locals : List Known) (c : Counted)
        (a : Counting Core.Stmt) → stmt tables at st around locals c ≡ Some a →
        Stmt st ds around locals c a
    stmt_is (Source.Block p body end) ds around locals c a given =
        let b = bound (stmts tables at body around locals c) _ a given in
        let w = stmts_is body ds around locals c b.item b.is in
        subst (Stmt (Source.Block p body end) ds around locals c) (some_is b.gives)
        (record { counts = w.counts; is = λ r i clean. is.block (w.is r i clean) })
    stmt_is (Source.Empty p) ds around locals c a given =
        subst (Stmt (Source.Empty p) ds around locals c) (some_is given)
        (plain (Source.Empty p) (Core.Empty p) ds around locals c refl refl (λ i clean. is.empty))
    stmt_is (Source.Local p ty x e) ds around locals c a given =
        let b = bound (local tables at p ty x e locals c) _ a given in
        subst (Stmt (Source.Local p ty x e) ds around locals c) (some_is b.gives)
        (alone p ty x e ds around locals c b.item (local_is p ty x e ds around locals c b.item b.is))
    stmt_is (Source.Assign p t e) ds around locals c a given =
        let b = bound (resolved tables at locals t) _ a given in
        let x = bound (variable_in b.item.expr) _ a b.gives in
        let v = bound (resolved tables at locals e) _ a x.gives in
        subst (Stmt (Source.Assign p t e) ds around locals c) (some_is v.gives)
        (plain (Source.Assign p t e) (Core.Assign p x.item v.item.expr) ds around locals c refl refl (λ i clean.
        let sc = scope_at ds around in
        let rest = all_right NoFaultAt (expr_spots sc t) (expr_spots sc e ++ AtStatement sc (Source.Assign p t e) ∷ []) clean in
        let target = (expr ds around locals c i t b.item
        (all_left NoFaultAt (expr_spots sc t) (expr_spots sc e ++ AtStatement sc (Source.Assign p t e) ∷ []) clean) b.is).is in
        let value = (expr ds around locals c i e v.item
        (all_left NoFaultAt (expr_spots sc e) (AtStatement sc (Source.Assign p t e) ∷ []) rest) v.is).is in
        is.assign (placed ds around locals c i t b.item.expr x.item target x.is) value))
    stmt_is (Source.If p t body) ds around locals c a given =
        let v = bound (resolved tables at locals t) _ a given in
        let b = bound (stmt tables at body around locals c) _ a v.gives in
        let w = stmt_is body ds around locals c b.item b.is in
        subst (Stmt (Source.If p t body) ds around locals c) (some_is b.gives) (record {
          counts = w.counts;
          is = λ r i clean.
              let sc = scope_at ds around in
              let more = AtStatement sc (Source.If p t body) ∷ stmt_spots sc body in
              is.if_then (expr ds around locals c i t v.item (all_left NoFaultAt (expr_spots sc t) more clean) v.is).is
              (w.is r i (all_right NoFaultAt (expr_spots sc t) more clean).1);
        })
    stmt_is (Source.IfElse p t body other) ds around locals c a given =
        let v = bound (resolved tables at locals t) _ a given in
        let b = bound (stmt tables at body around locals c) _ a v.gives in
        let d = bound (stmt tables at other around locals b.item.so_far) _ a b.gives in
        let w = stmt_is body ds around locals c b.item b.is in
        let u = stmt_is other ds around locals b.item.so_far d.item d.is in
        subst (Stmt (Source.IfElse p t body other) ds around locals c) (some_is d.gives)
        (record {
          counts = counts_then w.counts u.counts;
          is = λ r i clean.
              let sc = scope_at ds around in
              let more = AtStatement sc (Source.IfElse p t body other) ∷ (stmt_spots sc body ++ stmt_spots sc other) in
              let inner = (all_right NoFaultAt (expr_spots sc t) more clean).1 in
              is.if_else (expr ds around locals c i t v.item (all_left NoFaultAt (expr_spots sc t) more clean) v.is).is
              (w.is (reaches_back u.counts r) i (all_left NoFaultAt (stmt_spots sc body) (stmt_spots sc other) inner))
              (u.is r (later ds around locals c b.item.so_far w.counts i)
              (all_right NoFaultAt (stmt_spots sc body) (stmt_spots sc other) inner));
        })
    stmt_is (Source.While p label t body) ds around locals c a given =
        let v = bound (resolved tables at locals t) _ a given in
        let b = bound (stmt tables at body (InLoop label (length c.loops) ∷ around) locals (loop_more p locals c)) _ a v.gives in
        let w = stmt_is body ds (InLoop label (length c.loops) ∷ around) locals (loop_more p locals c) b.item b.is in
        subst (Stmt (Source.While p label t body) ds around locals c) (some_is b.gives)
        (record {
          counts = counts_then (counts_loop p locals c) w.counts;
          is = λ r i clean.
              let sc = scope_at ds around in
              let more = AtStatement sc (Source.While p label t body) ∷ stmt_spots (scope_at ds (InLoop label (length c.loops) ∷ around))
              body in
              is.while_loop (loop_at p ds around locals c b.item.so_far w.counts r)
              (expr ds around locals c i t v.item (all_left NoFaultAt (expr_spots sc t) more clean) v.is).is
              (w.is r (in_loop label p ds around locals c i) (all_right NoFaultAt (expr_spots sc t) more clean).1);
        })
    stmt_is (Source.Do p label body t) ds around locals c a given =
        let b = bound (stmt tables at body (InLoop label (length c.loops) ∷ around) locals (loop_more p locals c)) _ a given in
        let v = bound (resolved tables at locals t) _ a b.gives in
        let w = stmt_is body ds (InLoop label (length c.loops) ∷ around) locals (loop_more p locals c) b.item b.is in
        subst (Stmt (Source.Do p label body t) ds around locals c) (some_is v.gives)
        (record {
          counts = counts_then (counts_loop p locals c) w.counts;
          is = λ r i clean.
              let sc = scope_at ds around in
              let front = stmt_spots (scope_at ds (InLoop label (length c.loops) ∷ around)) body in
              let more = expr_spots sc t ++ AtStatement sc (Source.Do p label body t) ∷ [] in
              is.do_loop (loop_at p ds around locals c b.item.so_far w.counts r)
              (w.is r (in_loop label p ds around locals c i) (all_left NoFaultAt front more clean))
              (expr ds around locals c i t v.item (all_left NoFaultAt (expr_spots sc t) (AtStatement sc (Source.Do p label body t) ∷ [])
              (all_right NoFaultAt front more clean)) v.is).is;
        })
    stmt_is (Source.Switch p e gs end) ds around locals c a given =
        let v = bound (resolved tables at locals e) _ a given in
        let k = bound (enum_given tables v.item.given) _ a v.gives in
        let g = bound (groups tables at gs k.item (InSwitch ∷ around) locals c) _ a k.gives in
        let w = groups_are gs k.item ds (InSwitch ∷ around) locals c g.item g.is in
        subst (Stmt (Source.Switch p e gs end) ds around locals c) (some_is g.gives) (record {
          counts = w.counts;
          is = λ r i clean.
              let sc = scope_at ds around in
              let more = AtStatement sc (Source.Switch p e gs end) ∷ group_spots (scope_at ds (InSwitch ∷ around)) gs in
              let x = expr ds around locals c i e v.item (all_left NoFaultAt (expr_spots sc e) more clean) v.is in
              let on = switch_on program core tables s.tabled x.given k.item k.is in
              is.switch x.is on.is (x.gives on.number on.of)
              (w.is r (in_switch ds around locals c i) (all_right NoFaultAt (expr_spots sc e) more clean).1);
        })
    stmt_is (Source.Break p label) ds around locals c a given =
        let n = bound (left_by around label) _ a given in
        subst (Stmt (Source.Break p label) ds around locals c) (some_is n.gives)
        (plain (Source.Break p label) (Core.Break p n.item) ds around locals c refl refl (λ i clean.
        is.break (break_leads label around (length c.loops) n.item i.loops_fall n.is)))
    stmt_is (Source.Continue p label) ds around locals c a given =
        let n = bound (gone_on_by around label) _ a given in
        subst (Stmt (Source.Continue p label) ds around locals c) (some_is n.gives)
        (plain (Source.Continue p label) (Core.Continue p n.item) ds around locals c refl refl (λ i clean.
        is.continue (continue_leads label around (length c.loops) n.item i.loops_fall n.is)))
    stmt_is (Source.Return p e) ds around locals c a given =
        let v = bound (given_back tables at locals e) _ a given in
        subst (Stmt (Source.Return p e) ds around locals c) (some_is v.gives)
        (plain (Source.Return p e) (Core.Return p v.item) ds around locals c refl refl (λ i clean.
        let sc = scope_at ds around in
        is.return (value_is ds around locals c e v.item v.is i
        (all_left NoFaultAt (value_spots sc e) (AtStatement sc (Source.Return p e) ∷ []) clean))))
    stmt_is (Source.Print p e) ds around locals c a given =
        let v = bound (resolved tables at locals e) _ a given in
        subst (Stmt (Source.Print p e) ds around locals c) (some_is v.gives)
        (plain (Source.Print p e) (Core.Print p v.item.expr) ds around locals c refl refl (λ i clean.
        let sc = scope_at ds around in
        is.print (expr ds around locals c i e v.item
        (all_left NoFaultAt (expr_spots sc e) (AtStatement sc (Source.Print p e) ∷ []) clean) v.is).is))
    stmt_is (Source.Eval p e) ds around locals c a given =
        let v = bound (resolved tables at locals e) _ a given in
        subst (Stmt (Source.Eval p e) ds around locals c) (some_is v.gives)
        (plain (Source.Eval p e) (Core.Eval p v.item.expr) ds around locals c refl refl (λ i clean.
        is.eval (expr ds around locals c i e v.item clean v.is).is))

    pub stmts_is : (ss : Source.Stmts) (ds : List Declared) (around : List Around) (locals : List Known) (c : Counted)
        (b : Counting (List Core.Stmt)) →
        stmts tables at ss around locals c ≡ Some b → Stmts ss ds around locals c b
    stmts_is Source.NoStmt ds around locals c b given =
        subst (Stmts Source.NoStmt ds around locals c) (some_is given) (record { counts = counts_none c; is = λ r i clean. is.no_stmt })
    stmts_is (Source.Then (Source.Local p ty x e) rest) ds around locals c b given =
        then_local p ty x e rest ds around locals c (stmt tables at (Source.Local p ty x e) around locals c) b
        (λ ds locals c b h. stmts_is rest ds around locals c b h) given
    stmts_is (Source.Then st rest) ds around locals c b given =
        then_other st rest ds around locals c (stmt tables at st around locals c) b tt (λ a h. stmt_is st ds around locals c a h)
        (λ ds locals c b h. stmts_is rest ds around locals c b h) given

    groups_are : (gs : Source.Groups) (enum : Source.Enum) (ds : List Declared) (around : List Around) (locals : List Known)
        (c : Counted) (g : Counting (List OneGroup)) →
        groups tables at gs enum around locals c ≡ Some g → Groups gs enum ds around locals c g
    groups_are Source.NoGroup enum ds around locals c g given =
        subst (Groups Source.NoGroup enum ds around locals c) (some_is given)
        (record { counts = counts_none c; is = λ r i clean. is.no_group })
    groups_are (Source.Group labels body end more) enum ds around locals c g given =
        let l = bound (labels_at enum labels) _ g given in
        let b = bound (stmts tables at body around locals c) _ g l.gives in
        let d = bound (groups tables at more enum around locals b.item.so_far) _ g b.gives in
        let w = stmts_is body ds around locals c b.item b.is in
        let u = groups_are more enum ds around locals b.item.so_far d.item d.is in
        subst (Groups (Source.Group labels body end more) enum ds around locals c) (some_is d.gives)
        (record {
          counts = counts_then w.counts u.counts;
          is = λ r i clean.
              let sc = scope_at ds around in
              is.group (labels_are program core enum labels l.item l.is)
              (w.is (reaches_back u.counts r) i (all_left NoFaultAt (stmts_spots sc body) (group_spots sc more) clean))
              (u.is r (later ds around locals c b.item.so_far w.counts i)
              (all_right NoFaultAt (stmts_spots sc body) (group_spots sc more) clean));
        })
