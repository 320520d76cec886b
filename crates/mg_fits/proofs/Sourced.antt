-- Sources that a calm core stands for are quiet, but for mains that make one object.
use Rattle.std.proofs.Common.{◌≡◌, ◌≢◌, ℕ, Bool, true, false, true≢false, List, [], ◌∷◌, map, Option, Some, None, refl, sym, ap, ◌∙◌, subst}
use Rattle.std.proofs.Common.{option_map, option_and_then, ◌||◌, ◌&&◌}
use Rattle.std.specs.Prelude.{if◌then◌else◌, is_some, cond}
use Rattle.std.specs.List.{list_any}
use Rattle.std.specs.Str.{bytes_eq}
use Rattle.std.proofs.lemmas.Slice.Eq.{bytes_eq-Decides}
use Rattle.mg_text.specs.Call.{Name}
use Rattle.mg_text.specs.declared.place.Place.{Place}
use Rattle.ts_tree.specs.declared.parts.TypeName.{TypeName}
use Rattle.jv_tree.specs.Source.{Expr, Variable, Member, This, Method, Class, Field, Exprs}
use Rattle.jv_tree.specs.Source.{Stmt, Block, Empty, Local, Assign, If, IfElse, While, Do, Switch, Break, Continue, Return, Print, Eval}
use Rattle.jv_tree.specs.Source.{Stmts, Then, Groups}
use Rattle.jv_tree.specs.Source as Source
use Rattle.jv_meaning.specs.Program.{class_named, field_named, method_named}
use Rattle.jv_meaning.specs.Names.{is_main}
use Rattle.jv_rules.specs.Program.{Program}
use Rattle.jv_rules.specs.Types.{ValueType, TextType}
use Rattle.jv_rules.specs.Typing.{type_of}
use Rattle.jv_rules.specs.Scope.{Declared, declared_named, local_named, own_field, field_type, variable_type, Loop, within}
use Rattle.jv_rules.specs.Scope as typed
use Rattle.jv_core.specs.Tree as Core
use Rattle.jv_core.specs.Lookup.{class_text}
use Rattle.jv_core.specs.Lookup as looks
use Rattle.jv_names.specs.Resolves.{Numbers, HasSlot, Owned, IsClass, IsMethod, IsOwnField, IsVar, IsExpr, IsExprs, IsStmt, IsStmts}
use Rattle.jv_names.specs.Resolves.{IsGroups, IsValue}
use Rattle.jv_names.specs.Resolves.{MethodIs, methods_of, Resolves}
use Rattle.jv_names.specs.Resolves as is
use Rattle.jv_names.proofs.Naming.{kind_by}
use Rattle.jv_names.proofs.Tables.{some_is, aligned_at, class_name}
use Rattle.stm_acts.specs.Calm.{Scope, behind_it, is_variable, Every, EveryArgument, EveryIn, EveryInAll, EveryInGroups, IsQuiet, IsQuietOn}
use Rattle.stm_acts.specs.Calm.{HasNoMain, IsNoRole, NoReturn, NoReturnIn, NoReturnInGroups, MakesOne, here_it_is, behind}
use Rattle.fit_uses.specs.Uses.{returns, returns_in, returns_in_groups}
use Rattle.mg_fits.proofs.Calm.{IsNoMain, Calm, CalmAll, CalmIn, CalmInAll, CalmInGroups, MakesIn, it_makes, then_makes}
use Rattle.mg_fits.proofs.Calm.{declare_makes}

-- ---- truth values

or_left : (a b : Bool) → a ≡ true → (a || b) ≡ true
or_left true b e = refl
or_left false b e = absurd (true≢false (sym e))

or_right : (a b : Bool) → b ≡ true → (a || b) ≡ true
or_right true b e = refl
or_right false b e = e

neither : (a b : Bool) → (a || b) ≡ false → (a ≡ false) × (b ≡ false)
neither true b e = absurd (true≢false e)
neither false b e = (refl, e)

not_both : {b : Bool} {A : Type 0} → b ≡ true → b ≡ false → A
not_both e f = absurd (true≢false (sym e ∙ f))

same_text : (x : Name) → bytes_eq x x ≡ true
same_text x = (bytes_eq-Decides x x).1 refl

-- ---- what is visible

-- what is visible by the types, as names alone
abbrev pub seen : typed.Scope → Scope
seen sc = record {
  class = sc.class.name;
  on_object = if sc.method.is_static then false else true;
  locals = map (λ (d : Declared). d.name) sc.locals;
}

slot_seen : (x : Name) {ds : List Declared} {ks : List ℕ} {k : ℕ} → HasSlot x ds ks k →
    list_any (bytes_eq x) (map (λ (d : Declared). d.name) ds) ≡ true
slot_seen x (is.here {d = d} {ds = ds} e) =
    or_left (bytes_eq x d.name) (list_any (bytes_eq x) (map (λ (d : Declared). d.name) ds)) ((bytes_eq-Decides x d.name).1 (sym e))
slot_seen x (is.there {d = d} {ds = ds} n m more) =
    or_right (bytes_eq x d.name) (list_any (bytes_eq x) (map (λ (d : Declared). d.name) ds)) (slot_seen x more)

local_seen : (x : Name) (ds : List Declared) (d : Declared) → declared_named ds x ≡ Some d →
    list_any (bytes_eq x) (map (λ (d : Declared). d.name) ds) ≡ true
local_seen x [] d e = absurd (cc)
local_seen x (y ∷ ds) d e = go (bytes_eq y.name x) refl e (local_seen x ds d)
  where
    go : (b : Bool) → bytes_eq y.name x ≡ b → cond b (Some y) (declared_named ds x) ≡ Some d →
        (declared_named ds x ≡ Some d → list_any (bytes_eq x) (map (λ (d : Declared). d.name) ds) ≡ true) →
        list_any (bytes_eq x) (map (λ (d : Declared). d.name) (y ∷ ds)) ≡ true
    go true f e more = or_left (bytes_eq x y.name) (list_any (bytes_eq x) (map (λ (d : Declared). d.name) ds))
        ((bytes_eq-Decides x y.name).1 (sym ((bytes_eq-Decides y.name x).0 f)))
    go false f e more = or_right (bytes_eq x y.name) (list_any (bytes_eq x) (map (λ (d : Declared). d.name) ds)) (more e)

module _ (program : Program) (core : Core.Program) (res : Resolves program core) (roles : List Name) where
  -- the class of a scope is the class of its name
  abbrev pub Known : typed.Scope → Type 0
  Known sc = class_named program.files sc.class.name ≡ Some sc.class

  field_seen : (sc : typed.Scope) → Known sc → (x : Name) (f : Field) → own_field sc x ≡ Some f →
      is_variable program.files (seen sc) x ≡ true
  field_seen sc known x f e =
      or_right (list_any (bytes_eq x) (seen sc).locals)
      ((seen sc).on_object && is_some (option_and_then (λ c. field_named c x) (class_named program.files sc.class.name)))
      (go sc.method.is_static e)
    where
      go : (b : Bool) → (if b then None else field_named sc.class x) ≡ Some f →
          ((if b then false else true) && is_some (option_and_then (λ c. field_named c x) (class_named program.files sc.class.name))) ≡ true
      go true e = absurd (cc)
      go false e = ap (λ (c : Option Class). is_some (option_and_then (λ c. field_named c x) c)) known ∙ ap is_some e

  variable_seen : (sc : typed.Scope) → Known sc → (x : Name) (t : ValueType) → variable_type sc x ≡ Some t →
      is_variable program.files (seen sc) x ≡ true
  variable_seen sc known x t e = go (local_named sc x) refl e
    where
      field : (f : Option Field) → own_field sc x ≡ f →
          option_map (λ (f : Field). Rattle.jv_rules.specs.Types.meant sc.program f.ty) f ≡ Some t →
          is_variable program.files (seen sc) x ≡ true
      field None g e = absurd (cc)
      field (Some f) g e = field_seen sc known x f g

      go : (d : Option Declared) → local_named sc x ≡ d →
          (elim d as (λ _. Option ValueType) [ None ↦ field_type sc x | Some d ↦ Some d.type ]) ≡ Some t →
          is_variable program.files (seen sc) x ≡ true
      go None f e = field (own_field sc x) refl e
      go (Some d) f e = or_left (list_any (bytes_eq x) (seen sc).locals)
          ((seen sc).on_object && is_some (option_and_then (λ c. field_named c x) (class_named program.files sc.class.name)))
          (local_seen x sc.locals d f)

  -- ---- methods that are called

  has_no_main : (c f : Name) (n : ℕ) (method : Method) → IsMethod program core c f n method → is_main method ≡ false →
      HasNoMain program.files c f
  has_no_main c f n method i e k m named found =
      let same_class : k ≡ i.owner.class = some_is (sym named ∙ i.owner_named) in
      ap is_main (some_is (sym found ∙ ap (λ (k : Class). method_named k f) same_class ∙ i.named)) ∙ e

  main_kind : (static args protocol : Bool) → looks.is_main (kind_by static args protocol) ≡ false → (static && args) ≡ false
  main_kind true true protocol e = e
  main_kind true false protocol e = refl
  main_kind false args protocol e = refl

  static_no_main : (c f : Name) (n : ℕ) (method : Method) → IsMethod program core c f n method →
      IsNoMain core (λ c. Unit {0}) n → is_main method ≡ false
  static_no_main c f n method i none =
      let k = aligned_at res.methods n (record { owner = i.owner; method = method }) i.at in
      main_kind method.is_static method.takes_args (Rattle.jv_rules.specs.Program.is_of_protocol program i.owner.class method.name)
      (ap looks.is_main (sym k.is.kind) ∙ none k.item k.at)

  object_no_main : (m : Method) → m.is_static ≡ false → is_main m ≡ false
  object_no_main m e = go m.is_static e
    where
      go : (b : Bool) → b ≡ false → (b && m.takes_args) ≡ false
      go true f = absurd (true≢false f)
      go false f = refl

  -- ---- expressions

  -- objects of the class of a name may be made anywhere
  abbrev pub NoRole : (class : ℕ) → Type 0
  NoRole c = (name : Name) → IsClass program core name c → IsNoRole roles name

  abbrev IsCalmE : Core.Expr → Type 0
  IsCalmE e = Calm core NoRole e

  abbrev Quiet : typed.Scope → Expr → Type 0
  Quiet sc e = Every (IsQuiet program.files roles) (seen sc) e

  -- a variable holds no call
  variable_quiet : (sc : typed.Scope) {ns : Numbers} (e : Expr) {x : Rattle.jv_core.specs.declared.tree.Var.Var} →
      IsVar program core sc ns e x →
      Quiet sc e
  variable_quiet sc _ (is.a_local h) = tt
  variable_quiet sc _ (is.a_field n h) = tt
  variable_quiet sc _ (is.own h) = tt

  -- a call on a variable is none on a class
  on_variable : (sc : typed.Scope) → Known sc → {ns : Numbers} (e : Expr) {x : Rattle.jv_core.specs.declared.tree.Var.Var} →
      IsVar program core sc ns e x → (f : Name) → IsQuietOn program.files (seen sc) e f
  on_variable sc known _ (is.a_local {x = x} h) f = λ no. not_both (or_left (list_any (bytes_eq x) (seen sc).locals)
      ((seen sc).on_object && is_some (option_and_then (λ c. field_named c x) (class_named program.files sc.class.name)))
      (slot_seen x h)) no
  on_variable sc known _ (is.a_field {x = x} n h) f = λ no. not_both (field_seen sc known x h.field h.visible) no
  on_variable sc known _ (is.own h) f = tt

  -- so is a call on a text
  on_text : (sc : typed.Scope) → Known sc → (e : Expr) → type_of sc e ≡ Some TextType → (f : Name) → IsQuietOn program.files (seen sc) e f
  on_text sc known (Variable p x) e f = λ no. not_both (variable_seen sc known x TextType e) no
  on_text sc known (This p) e f = absurd (cc)
  on_text sc known _ e f = tt

  mutual
    pub quiet : (sc : typed.Scope) → Known sc → {ns : Numbers} (e : Expr) {e' : Core.Expr} → IsExpr program core sc ns e e' → IsCalmE e' →
        Quiet sc e
    quiet sc known _ is.int h = tt
    quiet sc known _ is.truth h = tt
    quiet sc known _ is.text h = tt
    quiet sc known _ is.null h = tt
    quiet sc known _ (is.variable {e = e} v) h = variable_quiet sc e v
    quiet sc known _ (is.constant v k c) h = tt
    quiet sc known _ (is.negative {e = e} i) h = quiet sc known e i h
    quiet sc known _ (is.opposite {e = e} i) h = quiet sc known e i h
    quiet sc known _ (is.binary {l = l} {r = r} i k) h = (quiet sc known l i h.0, quiet sc known r k h.1)
    quiet sc known _ (is.static {f = f} {m = n} {method = method} {args = args} m s i) h =
        (has_no_main sc.class.name f n method m (static_no_main sc.class.name f n method m h.0), quiet_all sc known args i h.1)
    quiet sc known _ (is.class_static {c = c} {f = f} {m = n} {method = method} {args = args} v other m s i) h = (
      (λ no. (other, has_no_main c f n method m (static_no_main c f n method m h.0))),
      tt,
      quiet_all sc known args i h.1,
    )
    quiet sc known _ (is.session v m i) h = absurd h
    quiet sc known _ (is.helper {f = f} {m = n} {method = method} {args = args} m s i) h =
        (has_no_main sc.class.name f n method m (object_no_main method s), quiet_all sc known args i h)
    quiet sc known _ (is.this_helper {f = f} {m = n} {method = method} {args = args} m s i) h =
        (has_no_main sc.class.name f n method m (object_no_main method s), tt, quiet_all sc known args i h)
    quiet sc known _ (is.protocol {e = e} {f = f} {args = args} p t m s i) h =
        (on_variable sc known e p.is f, variable_quiet sc e p.is, quiet_all sc known args i h)
    quiet sc known _ (is.equals {e = e} {a = a} t i k) h =
        (on_text sc known e t _, quiet sc known e i h.0, (quiet sc known a k h.1, tt))
    quiet sc known _ (is.concat {e = e} {a = a} t i k) h =
        (on_text sc known e t _, quiet sc known e i h.0, (quiet sc known a k h.1, tt))
    quiet sc known _ (is.new {c = c} k) h = h c k

    quiet_all : (sc : typed.Scope) → Known sc → {ns : Numbers} (args : Exprs) {args' : Core.Exprs} → IsExprs program core sc ns args args' →
        CalmAll core NoRole args' → EveryArgument (IsQuiet program.files roles) (seen sc) args
    quiet_all sc known _ is.no_args h = tt
    quiet_all sc known _ (is.arg {e = e} {rest = rest} i more) h = (quiet sc known e i h.0, quiet_all sc known rest more h.1)

  -- ---- statements

  -- what is in scope behind a statement that is no declaration
  still : (s : Stmt) → ((p : Place) (ty : TypeName) (x : Name) (e : Expr) → s ≢ Local p ty x e) → (sc : Scope) → behind_it s sc ≡ sc
  still (Local p ty x e) n sc = absurd (n p ty x e refl)
  still _ n sc = refl

  module _ (method : Core.Method) where
    mutual
      pub quiet_in : (sc : typed.Scope) → Known sc → {ns : Numbers} (s : Stmt) {s' : Core.Stmt} → IsStmt program core method sc ns s s' →
          CalmIn core NoRole s' → EveryIn (IsQuiet program.files roles) (seen sc) s
      quiet_in sc known _ (is.block {body = body} i) h = quiet_in_all sc known body i h
      quiet_in sc known _ is.empty h = tt
      quiet_in sc known _ (is.local {e = e} i slot) h = quiet sc known e i h
      quiet_in sc known _ (is.assign {value = value} p i) h = quiet sc known value i h
      quiet_in sc known _ (is.if_then {c = c} {s = s} i k) h = (quiet sc known c i h.0, quiet_in sc known s k h.1)
      quiet_in sc known _ (is.if_else {c = c} {s = s} {r = r} i k l) h =
          (quiet sc known c i h.0, quiet_in sc known s k h.1, quiet_in sc known r l h.2)
      quiet_in sc known _ (is.while_loop {l = l} {c = c} {s = s} loop i k) h =
          (quiet sc known c i h.0, quiet_in (within (Loop l) sc) known s k h.1)
      quiet_in sc known _ (is.do_loop {l = l} {c = c} {s = s} loop k i) h =
          (quiet_in (within (Loop l) sc) known s k h.0, quiet sc known c i h.1)
      quiet_in sc known _ (is.switch {e = e} {gs = gs} i enum gives k) h =
          (quiet sc known e i h.0, quiet_in_groups (within typed.Switch sc) known gs k h.1)
      quiet_in sc known _ (is.break b) h = tt
      quiet_in sc known _ (is.continue b) h = tt
      quiet_in sc known _ (is.return is.without) h = tt
      quiet_in sc known _ (is.return (is.with_value {e = e} i)) h = quiet sc known e i h
      quiet_in sc known _ (is.print {e = e} i) h = quiet sc known e i h
      quiet_in sc known _ (is.eval {e = e} i) h = quiet sc known e i h

      pub quiet_in_all : (sc : typed.Scope) → Known sc → {ns : Numbers} (ss : Stmts) {ss' : Core.Stmts} →
          IsStmts program core method sc ns ss ss' → CalmInAll core NoRole ss' → EveryInAll (IsQuiet program.files roles) (seen sc) ss
      quiet_in_all sc known _ is.no_stmt h = tt
      quiet_in_all sc known _ (is.declaration {ty = ty} {x = x} {e = e} {rest = rest} i slot more) h =
          (quiet sc known e i h.0, quiet_in_all (typed.declare x ty sc) known rest more h.1)
      quiet_in_all sc known _ (is.then {s = s} {rest = rest} n i more) h = (
        quiet_in sc known s i h.0,
        subst (λ c. EveryInAll (IsQuiet program.files roles) c rest) (sym (still s n (seen sc))) (quiet_in_all sc known rest more h.1),
      )

      quiet_in_groups : {enum : Source.Enum} (sc : typed.Scope) → Known sc → {ns : Numbers} (gs : Groups) {gs' : Core.Groups} →
          IsGroups program core method enum sc ns gs gs' → CalmInGroups core NoRole gs' →
          EveryInGroups (IsQuiet program.files roles) (seen sc) gs
      quiet_in_groups sc known _ is.no_group h = tt
      quiet_in_groups sc known _ (is.group {body = body} {gs = gs} labels i more) h =
          (quiet_in_all sc known body i h.0, quiet_in_groups sc known gs more h.1)

    -- ---- no `return`

    mutual
      straight : {sc : typed.Scope} {ns : Numbers} (s : Stmt) {s' : Core.Stmt} → IsStmt program core method sc ns s s' →
          returns s' ≡ false →
          NoReturn s
      straight _ (is.block {body = body} i) e = all_straight body i e
      straight _ is.empty e = tt
      straight _ (is.local i slot) e = tt
      straight _ (is.assign p i) e = tt
      straight _ (is.if_then {s = s} i k) e = straight s k e
      straight _ (is.if_else {s = s} {r = r} {s' = s'} {r' = r'} i k l) e =
          let n = neither (returns s') (returns r') e in (straight s k n.0, straight r l n.1)
      straight _ (is.while_loop {s = s} loop i k) e = straight s k e
      straight _ (is.do_loop {s = s} loop k i) e = straight s k e
      straight _ (is.switch {gs = gs} i enum gives k) e = groups_straight gs k e
      straight _ (is.break b) e = tt
      straight _ (is.continue b) e = tt
      straight _ (is.return v) e = absurd (true≢false e)
      straight _ (is.print i) e = tt
      straight _ (is.eval i) e = tt

      all_straight : {sc : typed.Scope} {ns : Numbers} (ss : Stmts) {ss' : Core.Stmts} → IsStmts program core method sc ns ss ss' →
          returns_in ss' ≡ false → NoReturnIn ss
      all_straight _ is.no_stmt e = tt
      all_straight _ (is.declaration {rest = rest} i slot more) e = (tt, all_straight rest more e)
      all_straight _ (is.then {s = s} {s' = s'} {rest = rest} {rest' = rest'} n i more) e =
          let k = neither (returns s') (returns_in rest') e in (straight s i k.0, all_straight rest more k.1)

      groups_straight : {enum : Source.Enum} {sc : typed.Scope} {ns : Numbers} (gs : Groups) {gs' : Core.Groups} →
          IsGroups program core method enum sc ns gs gs' → returns_in_groups gs' ≡ false → NoReturnInGroups gs
      groups_straight _ is.no_group e = tt
      groups_straight _ (is.group {body = body} {body' = body'} {gs = gs} {gs' = gs'} labels i more) e =
          let k = neither (returns_in body') (returns_in_groups gs') e in (all_straight body i k.0, groups_straight gs more k.1)

    -- ---- the making

    -- a class of a number has one name
    one_name : (c d : Name) (n : ℕ) → IsClass program core c n → IsClass program core d n → c ≡ d
    one_name c d n i k =
        sym (class_name program.files c i.class i.named) ∙ ap (λ (x : Class). x.name) (some_is (sym i.at ∙ k.at))
        ∙ class_name program.files d k.class k.named

    new_of : {sc : typed.Scope} {ns : Numbers} (e : Expr) {q : Place} (n : ℕ) (role : Name) → IsClass program core role n →
        IsExpr program core sc ns e (Core.New q n) → e ≡ Source.New q role
    new_of _ n role k (is.new {p = p} {c = c} i) = ap (Source.New p) (one_name c role n i k)

    pub makes : (n : ℕ) (role : Name) → IsClass program core role n → (sc : typed.Scope) → Known sc → {ns : Numbers} (ss : Stmts)
        {ss' : Core.Stmts} → IsStmts program core method sc ns ss ss' → MakesIn core NoRole n ss' →
        MakesOne program.files roles role (seen sc) ss
    makes n role k sc known _ is.no_stmt h = elim h [ ]
    makes n role k sc known _ (is.declaration {p = p} {ty = ty} {x = x} {e = e} {rest = rest} i slot more) (it_makes {q = q} h) =
        subst (λ v. MakesOne program.files roles role (seen sc) (Then (Local p ty x v) rest)) (sym (new_of e n role k i))
        (here_it_is (quiet_in_all (typed.declare x ty sc) known rest more h))
    makes n role k sc known _ (is.declaration {ty = ty} {x = x} {e = e} {rest = rest} i slot more) (declare_makes h later) =
        behind tt (quiet sc known e i h) (makes n role k (typed.declare x ty sc) known rest more later)
    makes n role k sc known _ (is.then {s = s} {rest = rest} m i more) (then_makes e h later) =
        behind (straight s i e) (quiet_in sc known s i h)
        (subst (λ c. MakesOne program.files roles role c rest) (sym (still s m (seen sc))) (makes n role k sc known rest more later))
