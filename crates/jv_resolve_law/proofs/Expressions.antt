-- What clean expressions are resolved to stands for them, and has their types.
use Rattle.std.proofs.Common.{◌≡◌, ℕ, Bool, true, false, true≢false, List, [], ◌∷◌, ◌++◌, Option, Some, None, option_map, option_and_then}
use Rattle.std.proofs.Common.{slice_get, refl, sym, ap, ◌∙◌, subst}
use Rattle.std.specs.Prelude.{codes, if◌then◌else◌}
use Rattle.std.specs.List.{list_any}
use Rattle.std.specs.Str.{bytes_eq}
use Rattle.std.proofs.lemmas.Slice.Eq.{bytes_eq-Decides}
use Rattle.mg_text.specs.Call.{Name}
use Rattle.mg_text.specs.declared.place.Place.{Place}
use Rattle.mg_read.specs.Culprit.{culprit}
use Rattle.jv_tree.specs.declared.tree.Op.{Op}
use Rattle.jv_tree.specs.declared.tree.Op.TheVariants as ops
use Rattle.jv_tree.specs.Source
use Rattle.jv_tree.specs.Source.{place_of}
use Rattle.jv_meaning.specs.Program.{class_named, method_named, constant_position}
use Rattle.jv_rules.specs.Program.{Program}
use Rattle.jv_rules.specs.Types.{ValueType, IntType, BooleanType, TextType, EnumType, ClassType, NullType, meant}
use Rattle.jv_rules.specs.Scope.{Scope, variable_type}
use Rattle.jv_rules.specs.Typing.{type_of, operator_type, constant_type, called, called_on, called_on_this, called_on_class}
use Rattle.jv_rules.specs.Typing.{called_on_value, built_in, text_methods}
use Rattle.jv_rules.specs.Typing as typing
use Rattle.jv_rules.specs.Spots.{Value, AtNode, nodes, nodes_in}
use Rattle.jv_tree.specs.declared.built_in.TextCall.{TextCall}
use Rattle.jv_tree.specs.declared.built_in.TextCall.TheVariants as texts
use Rattle.jv_tree.specs.BuiltIn.{session_method, session_named, text_method, text_named}
use Rattle.jv_tree.proofs.BuiltInLaws.{text_named_so}
use Rattle.jv_core.proofs.PlainTypes.{no_enum}
use Rattle.jv_core.specs.declared.tree.Var.{Var}
use Rattle.jv_core.specs.declared.tree.CoreVar.{CoreVar}
use Rattle.jv_tree.specs.declared.built_in.SessionCall.{SessionCall}
use Rattle.jv_core.specs.declared.program.CoreType.{CoreType}
use Rattle.jv_core.specs.declared.program.CoreType.TheVariants as types
use Rattle.jv_core.specs.Tree as Core
use Rattle.jv_core.specs.View.{exprs_of}
use Rattle.jv_core.specs.Lookup as core_lookup
use Rattle.jv_core.specs.Types.{session_result, text_result}
use Rattle.jv_core.specs.Meaning.{type_given, result_of}
use Rattle.jv_names.specs.Resolves.{Numbers, IsVar, IsPlaced, IsClass, IsMethod, IsExpr, IsExprs, GivesEnum}
use Rattle.jv_names.specs.Resolves as is
use Rattle.jv_names.proofs.Tables.{some_is, none_some}
use Rattle.jv_names.proofs.Clean.{NoFaultAt, CleanExpr, CleanArgs, nodes_left, nodes_right, first_arg, other_args, left_operand}
use Rattle.jv_names.proofs.Clean.{right_operand}
use Rattle.jv_names.proofs.Moving.{IsNotThis, arguments_clean, call_clean}
use Rattle.jv_resolve_law.specs.Tables.{◌>>=◌, Entry, Tables, Callee, class_called, enum_called, method_called, type_meant}
use Rattle.jv_resolve_law.specs.Expressions.{Given, Of, Resolved, Known, Standing, Found, Receiver, OnThis, OnClass, OnValue, typed}
use Rattle.jv_resolve_law.specs.Expressions.{is_text, operator_gives, variable_in, only, text_form, text_call, session_call, found_at}
use Rattle.jv_resolve_law.specs.Expressions.{constant, static_call, helper_call, object_call, call_class, call_protocol, call_typed}
use Rattle.jv_resolve_law.specs.Expressions.{own_found, call_own, call_this, call_on, make, found, variable_at, constant_at, member}
use Rattle.jv_resolve_law.specs.Expressions.{named_receiver, receiver, resolved, resolved_all}
use Rattle.jv_resolve_law.proofs.Steps.{bound, mapped}
use Rattle.jv_resolve_law.proofs.Tabled.{IsEntry, MethodCalled, method_called_is, is_method, class_called_is, enum_called_is, type_meant_is}
use Rattle.jv_resolve_law.proofs.Given.{IsGiven, no_value, int_given, boolean_given, text_given, null_given, class_given, enum_given}
use Rattle.jv_resolve_law.proofs.Given.{meant_given, AreKnown, Falls, slots_in, Stands, OwnIs, own_is, VariableIs, variable_is, any_found}
use Rattle.jv_resolve_law.proofs.Calls.{called_gives, called_on_this_gives, called_on_class_gives, called_on_object_gives, session_is}
use Rattle.jv_resolve_law.proofs.Calls.{session_gives, result_in}

-- Types that are given.

of_given : {t u : CoreType} → Of t ≡ Of u → t ≡ u
of_given e = cc

text_same : (program : Program) (core : Core.Program) {t : ValueType} {g : Given} → IsGiven program core t g →
    typing.is_text (Some t) ≡ is_text g
text_same program core no_value = refl
text_same program core int_given = refl
text_same program core boolean_given = refl
text_same program core text_given = refl
text_same program core null_given = refl
text_same program core (class_given i) = refl
text_same program core (enum_given i) = refl

module _ (program : Program) (core : Core.Program) where
  sum_given : (a b : Bool) → IsGiven program core (if a then TextType else if b then TextType else IntType)
      (Of (if a then types.Text else if b then types.Text else types.Int))
  sum_given true b = text_given
  sum_given false true = text_given
  sum_given false false = int_given

  added_given : (a b c d : Bool) → a ≡ c → b ≡ d →
      IsGiven program core (if a then TextType else if b then TextType else IntType)
      (Of (if c then types.Text else if d then types.Text else types.Int))
  added_given a b c d e f =
      subst (λ c. IsGiven program core (if a then TextType else if b then TextType else IntType)
      (Of (if c then types.Text else if d then types.Text else types.Int))) e
      (subst (λ d. IsGiven program core (if a then TextType else if b then TextType else IntType)
      (Of (if a then types.Text else if d then types.Text else types.Int))) f
      (sum_given a b))

  operator_given : (o : Op) (t u : ValueType) (g h : Given) → IsGiven program core t g → IsGiven program core u h →
      IsGiven program core (operator_type o (Some t) (Some u)) (Of (operator_gives o g h))
  operator_given ops.Or t u g h i j = boolean_given
  operator_given ops.And t u g h i j = boolean_given
  operator_given ops.Eq t u g h i j = boolean_given
  operator_given ops.Ne t u g h i j = boolean_given
  operator_given ops.Lt t u g h i j = boolean_given
  operator_given ops.Le t u g h i j = boolean_given
  operator_given ops.Gt t u g h i j = boolean_given
  operator_given ops.Ge t u g h i j = boolean_given
  operator_given ops.Add t u g h i j =
      added_given (typing.is_text (Some t)) (typing.is_text (Some u)) (is_text g) (is_text h) (text_same program core i)
      (text_same program core j)
  operator_given ops.Sub t u g h i j = int_given
  operator_given ops.Mul t u g h i j = int_given
  operator_given ops.Div t u g h i j = int_given
  operator_given ops.Rem t u g h i j = int_given

sum_no_enum : (a b : Bool) (n : ℕ) → (if a then types.Text else if b then types.Text else types.Int) ≡ types.Enum n → ⊥
sum_no_enum true b n e = cc
sum_no_enum false true n e = cc
sum_no_enum false false n e = cc

-- an operator gives no constant of an enum
operator_no_enum : (o : Op) (g h : Given) (n : ℕ) → operator_gives o g h ≡ types.Enum n → ⊥
operator_no_enum ops.Or g h n e = cc
operator_no_enum ops.And g h n e = cc
operator_no_enum ops.Eq g h n e = cc
operator_no_enum ops.Ne g h n e = cc
operator_no_enum ops.Lt g h n e = cc
operator_no_enum ops.Le g h n e = cc
operator_no_enum ops.Gt g h n e = cc
operator_no_enum ops.Ge g h n e = cc
operator_no_enum ops.Add g h n e = sum_no_enum (is_text g) (is_text h) n e
operator_no_enum ops.Sub g h n e = cc
operator_no_enum ops.Mul g h n e = cc
operator_no_enum ops.Div g h n e = cc
operator_no_enum ops.Rem g h n e = cc

session_no_enum : (c : SessionCall) (n : ℕ) → session_result c ≡ types.Enum n → ⊥
session_no_enum c n e = no_enum (session_method c).result n e

-- a call on a value
pub called_on_some : (scope : Scope) (e : Source.Expr) (t : ValueType) (f : Name) → IsNotThis e →
    called_on scope e (Some t) f ≡ called_on_value scope.program t f
called_on_some scope (Source.This p) t f n = absurd n
called_on_some scope e t f n = refl

module _ (core : Core.Program) (tables : Tables) (method : Core.Method) (scope : Scope) (at : Standing)
    (s : Stands core tables method scope at)
    (locals : List Known) (loops : List (Option ℕ)) (low : ℕ) (known : AreKnown scope.program core method scope.locals locals)
    (falls : Falls low locals) where
  abbrev program : Program
  program = scope.program

  abbrev ns : Numbers
  ns = record { slots = slots_in locals; loops = loops }

  abbrev E : Source.Expr → Core.Expr → Type 0
  E = IsExpr program core scope ns

  abbrev Es : Source.Exprs → Core.Exprs → Type 0
  Es = IsExprs program core scope ns

  -- an expression is resolved rightly
  pub record Right (e : Source.Expr) (r : Resolved) : Type 0 where
    pub is : IsExpr program core scope (record { slots = slots_in locals; loops = loops }) e r.expr
    pub type : ValueType
    pub typed : type_of scope e ≡ Some type
    pub given : IsGiven program core type r.given
    -- the core knows of its enum
    pub gives : (n : ℕ) → r.given ≡ Of (types.Enum n) → GivesEnum program core method r.expr n

  -- what has a type but that of an enum
  plain : (e : Source.Expr) (e' : Core.Expr) (t : ValueType) (u : CoreType) → E e e' → type_of scope e ≡ Some t →
      IsGiven program core t (Of u) →
      ((n : ℕ) → u ≡ types.Enum n → ⊥) → Right e (typed e' u)
  plain e e' t u i y g n = record { is = i; type = t; typed = y; given = g; gives = λ k h. absurd (n k (of_given h)) }

  -- what the core has a type for
  told : (e : Source.Expr) (e' : Core.Expr) (t : ValueType) (u : CoreType) → E e e' → type_of scope e ≡ Some t →
      IsGiven program core t (Of u) →
      ((number : ℕ) → slice_get core.methods number ≡ Some method → type_given core number e' ≡ Some u) → Right e (typed e' u)
  told e e' t u i y g h = record {
    is = i;
    type = t;
    typed = y;
    given = g;
    gives = λ n o number here. h number here ∙
        ap Some (of_given o);
  }

  -- Variables.

  variable_told : (p : Place) (v : Var) (u : CoreType) → core_lookup.variable_type core method v ≡ Some u →
      (number : ℕ) → slice_get core.methods number ≡ Some method → type_given core number (Core.Variable p v) ≡ Some u
  variable_told p v u e number here = ap (option_and_then (λ m. core_lookup.variable_type core m v)) here ∙ e

  right_found : (p : Place) (name : Name) (x : Found) →
      VariableIs core tables method scope at s locals loops low known falls name (Some x) → Right (Source.Variable p name) (found_at p x)
  right_found p name x w = told (Source.Variable p name) (Core.Variable p x.var) w.type x.ty (is.variable (w.is p)) w.typed w.given
      (variable_told p x.var x.ty w.in_core)

  right_variable : (p : Place) (name : Name) (r : Resolved) → found tables at locals name >>= variable_at tables at locals p ≡ Some r →
      Right (Source.Variable p name) r
  right_variable p name r given =
      let b = bound (found tables at locals name) (variable_at tables at locals p) r given in
      go b.item (variable_is core tables method scope at s locals loops low known falls name b.item b.is) b.gives
    where
      go : (o : Option Found) → VariableIs core tables method scope at s locals loops low known falls name o →
          variable_at tables at locals p o ≡ Some r → Right (Source.Variable p name) r
      go None w e = absurd (none_some e)
      go (Some x) w e = subst (Right (Source.Variable p name)) (some_is e) (right_found p name x w)

  right_own : (p q : Place) (name : Name) (r : Resolved) → own_found tables at name >>= variable_at tables at locals p ≡ Some r →
      Right (Source.Member p (Source.This q) name) r
  right_own p q name r given =
      let b = bound (own_found tables at name) (variable_at tables at locals p) r given in
      go b.item (own_is core tables method scope at s name b.item b.is) b.gives
    where
      go : (o : Option Found) → OwnIs core tables method scope at s name o → variable_at tables at locals p o ≡ Some r →
          Right (Source.Member p (Source.This q) name) r
      go None w e = absurd (none_some e)
      go (Some x) w e = subst (Right (Source.Member p (Source.This q) name)) (some_is e)
          (told (Source.Member p (Source.This q) name) (Core.Variable p x.var) w.type x.ty
          (is.variable (subst (IsVar program core scope ns (Source.Member p (Source.This q) name)) (sym w.var) (is.own w.own))) w.typed
          w.given
          (variable_told p x.var x.ty w.in_core))

  -- Constants.

  right_constant : (p q : Place) (of name : Name) (r : Resolved) → variable_type scope of ≡ None → constant tables p of name ≡ Some r →
      Right (Source.Member p (Source.Variable q of) name) r
  right_constant p q of name r none given =
      let b = bound (enum_called tables of) _ r given in
      let c = bound (constant_position b.item.enum name) _ r b.gives in
      let i = enum_called_is program core tables s.tabled of b.item b.is in
      let typed_as : type_of scope (Source.Member p (Source.Variable q of) name) ≡ Some (EnumType of) =
      ap (λ (o : Option ValueType). elim o [ None ↦ constant_type program of name | Some t ↦ None ]) none
      ∙ ap (λ (o : Option Source.Enum). elim o [
        | None ↦ None
        | Some e ↦ if list_any (bytes_eq name) e.constants then Some (EnumType of)
            else None
      ]) i.named
      ∙ ap (λ b. if b then Some (EnumType of) else None) (any_found (bytes_eq name) b.item.enum.constants c.item c.is) in
      subst (Right (Source.Member p (Source.Variable q of) name)) (some_is c.gives)
      (told (Source.Member p (Source.Variable q of) name) (Core.Constant p b.item.number c.item) (EnumType of) (types.Enum b.item.number)
      (is.constant none i c.is) typed_as (enum_given i) (λ number here. refl))

  right_member : (p : Place) (e : Source.Expr) (name : Name) (r : Resolved) → member tables at locals p e name ≡ Some r →
      Right (Source.Member p e name) r
  right_member p (Source.This q) name r given = right_own p q name r given
  right_member p (Source.Variable q of) name r given =
      let b = bound (found tables at locals of) (constant_at tables at locals p of name) r given in
      go b.item (variable_is core tables method scope at s locals loops low known falls of b.item b.is) b.gives
    where
      go : (o : Option Found) → VariableIs core tables method scope at s locals loops low known falls of o →
          constant_at tables at locals p of name o ≡ Some r →
          Right (Source.Member p (Source.Variable q of) name) r
      go None w e = right_constant p q of name r w e
      go (Some x) w e = absurd (none_some e)
  right_member p e name r given = absurd (none_some given)

  -- Calls.

  -- what a method gives, in the source and in the core
  record Returns (m : Source.Method) (number : ℕ) (u : CoreType) : Type 0 where
    given : IsGiven program core (meant program m.result) (Of u)
    told : result_of core number ≡ Some u

  returns : (k : ℕ) (e : Entry) (f : Name) (c : Callee) (u : CoreType) → MethodCalled program core e f c →
      type_meant tables c.method.result ≡ Some u → Returns c.method c.number u
  returns k e f c u w y = record {
    given = meant_given program core c.method.result u (type_meant_is program core tables s.tabled c.method.result u y);
    told = s.holds.results c.number _ u w.at y;
  }

  pub own_called : (f : Name) (c : Callee) → method_called at.entry f ≡ Some c → MethodCalled program core at.entry f c
  own_called f c given = method_called_is program core s.number at.entry s.entry f c given

  own_method_is : (f : Name) (c : Callee) → MethodCalled program core at.entry f c →
      IsMethod program core scope.class.name f c.number c.method
  own_method_is f c w = is_method program core scope.class.name at.entry f c (s.named ∙ ap Some (sym s.class)) w

  pub own_named : (f : Name) (c : Callee) → MethodCalled program core at.entry f c → method_named scope.class f ≡ Some c.method
  own_named f c w = ap (λ k. method_named k f) (sym s.class) ∙ w.named

  right_static : (e : Source.Expr) (p : Place) (c : Callee) (as' : List Core.Expr) (r : Resolved) →
      type_of scope e ≡ Some (meant program c.method.result) →
      ((u : CoreType) → type_meant tables c.method.result ≡ Some u → Returns c.method c.number u) →
      E e (Core.Static p c.number (exprs_of as')) → static_call tables p c as' ≡ Some r → Right e r
  right_static e p c as' r y back i given =
      let b = bound (type_meant tables c.method.result) _ r given in
      let w = back b.item b.is in
      subst (Right e) (some_is b.gives)
      (told e (Core.Static p c.number (exprs_of as')) (meant program c.method.result) b.item i y w.given (λ number here. w.told))

  right_helper : (e : Source.Expr) (p : Place) (c : Callee) (as' : List Core.Expr) (r : Resolved) →
      type_of scope e ≡ Some (meant program c.method.result) →
      ((u : CoreType) → type_meant tables c.method.result ≡ Some u → Returns c.method c.number u) →
      E e (Core.Helper p c.number (exprs_of as')) → helper_call tables p c as' ≡ Some r → Right e r
  right_helper e p c as' r y back i given =
      let b = bound (type_meant tables c.method.result) _ r given in
      let w = back b.item b.is in
      subst (Right e) (some_is b.gives)
      (told e (Core.Helper p c.number (exprs_of as')) (meant program c.method.result) b.item i y w.given (λ number here. w.told))

  right_object : (e : Source.Expr) (p : Place) (x : CoreVar) (c : Callee) (as' : List Core.Expr) (r : Resolved) →
      type_of scope e ≡ Some (meant program c.method.result) →
      ((u : CoreType) → type_meant tables c.method.result ≡ Some u → Returns c.method c.number u) →
      E e (Core.Protocol p x c.number (exprs_of as')) → object_call tables p x c as' ≡ Some r → Right e r
  right_object e p x c as' r y back i given =
      let b = bound (type_meant tables c.method.result) _ r given in
      let w = back b.item b.is in
      subst (Right e) (some_is b.gives)
      (told e (Core.Protocol p x c.number (exprs_of as')) (meant program c.method.result) b.item i y w.given (λ number here. w.told))

  -- `f(..)`
  right_call : (p : Place) (f : Name) (args : Source.Exprs) (as' : List Core.Expr) (r : Resolved) → Es args (exprs_of as') →
      NoFaultAt (AtNode scope (Value (Source.Call p f args))) → call_own tables at p f as' ≡ Some r → Right (Source.Call p f args) r
  right_call p f args as' r xs clean given =
      let b = bound (method_called at.entry f) _ r given in
      let w = own_called f b.item b.is in
      let y = called_gives scope f b.item.method (own_named f b.item w) (λ none. clean.known_name (culprit p f) (refl, none)) in
      go b.item w y b.item.method.is_static refl b.gives
    where
      go : (c : Callee) (w : MethodCalled program core at.entry f c) →
          result_in (called scope f) ≡ Some (meant program c.method.result) → (b : Bool) → c.method.is_static ≡ b →
          (if b then static_call tables p c as' else helper_call tables p c as') ≡ Some r → Right (Source.Call p f args) r
      go c w y true t e = right_static (Source.Call p f args) p c as' r y (λ u h. returns s.number at.entry f c u w h)
          (is.static (own_method_is f c w) t xs) e
      go c w y false t e = right_helper (Source.Call p f args) p c as' r y (λ u h. returns s.number at.entry f c u w h)
          (is.helper (own_method_is f c w) t xs) e

  -- `this.f(..)`
  right_this : (p q : Place) (f : Name) (args : Source.Exprs) (as' : List Core.Expr) (r : Resolved) → Es args (exprs_of as') →
      NoFaultAt (AtNode scope (Value (Source.MethodCall p (Source.This q) f args))) → call_this tables at p f as' ≡ Some r →
      Right (Source.MethodCall p (Source.This q) f args) r
  right_this p q f args as' r xs clean given =
      let b = bound (method_called at.entry f) _ r given in
      let w = own_called f b.item b.is in
      let y = called_on_this_gives scope f b.item.method (own_named f b.item w) (λ none. clean.known_name (culprit p f) (refl, none)) in
      go b.item w y b.item.method.is_static refl b.gives
    where
      go : (c : Callee) (w : MethodCalled program core at.entry f c) →
          result_in (called_on_this scope f) ≡ Some (meant program c.method.result) → (b : Bool) → c.method.is_static ≡ b →
          (if b then None else helper_call tables p c as') ≡ Some r → Right (Source.MethodCall p (Source.This q) f args) r
      go c w y true t e = absurd (none_some e)
      go c w y false t e =
          right_helper (Source.MethodCall p (Source.This q) f args) p c as' r y (λ u h. returns s.number at.entry f c u w h)
          (is.this_helper (own_method_is f c w) t xs) e

  -- `C.f(..)`
  right_class : (p q : Place) (class f : Name) (args : Source.Exprs) (as' : List Core.Expr) (r : Resolved) → Es args (exprs_of as') →
      NoFaultAt (AtNode scope (Value (Source.MethodCall p (Source.Variable q class) f args))) → variable_type scope class ≡ None →
      bytes_eq class (codes "Session") ≡ false → call_class tables p class f as' ≡ Some r →
      Right (Source.MethodCall p (Source.Variable q class) f args) r
  right_class p q class f args as' r xs clean none other given =
      let b = bound (class_called tables class) _ r given in
      let c = bound (method_called b.item f) _ r b.gives in
      let k = class_called_is program core tables s.tabled class b.item b.is in
      let w = method_called_is program core b.item.number b.item k.entry f c.item c.is in
      let out : called_on scope (Source.Variable q class) (type_of scope (Source.Variable q class)) f ≡ called_on_class program class f =
      ap (λ o. called_on scope (Source.Variable q class) o f) none in
      let y = ap result_in out ∙ called_on_class_gives program class f b.item.class c.item.method other k.named w.named
      (λ e. clean.known_name (culprit p f) (refl, out ∙ e)) in
      go c.item w k.named y c.item.method.is_static refl c.gives b.item k.entry
    where
      go : (c : Callee) {entry : Entry} (w : MethodCalled program core entry f c) → class_named program.files class ≡ Some entry.class →
          type_of scope (Source.MethodCall p (Source.Variable q class) f args) ≡ Some (meant program c.method.result) → (b : Bool) →
          c.method.is_static ≡ b →
          (if b then static_call tables p c as' else None) ≡ Some r → (e : Entry) → IsEntry program e.number e →
          Right (Source.MethodCall p (Source.Variable q class) f args) r
      go c {entry = entry} w owner y true t e k i =
          right_static (Source.MethodCall p (Source.Variable q class) f args) p c as' r y (λ u h. returns entry.number entry f c u w h)
          (is.class_static none (λ same. true≢false (sym ((bytes_eq-Decides class (codes "Session")).1 same) ∙ other))
          (is_method program core class entry f c owner w) t xs) e
      go c w owner y false t e k i = absurd (none_some e)

  -- `Session.f(..)`
  right_session : (p q : Place) (f : Name) (args : Source.Exprs) (as' : List Core.Expr) (r : Resolved) → Es args (exprs_of as') →
      variable_type scope (codes "Session") ≡ None → session_call p f as' ≡ Some r →
      Right (Source.MethodCall p (Source.Variable q (codes "Session")) f args) r
  right_session p q f args as' r xs none given =
      let b = bound (session_named f) _ r given in
      let i = session_is f b.item b.is in
      let g = session_gives program core f b.item i in
      subst (Right (Source.MethodCall p (Source.Variable q (codes "Session")) f args)) (some_is b.gives)
      (plain (Source.MethodCall p (Source.Variable q (codes "Session")) f args) (Core.Session p b.item (exprs_of as')) g.type
      (session_result b.item) (is.session none i xs)
      (ap (λ o. result_in (called_on scope (Source.Variable q (codes "Session")) o f)) none ∙ g.is) g.given (session_no_enum b.item))

  -- the one argument of a call
  record Single (args : Source.Exprs) (arg : Core.Expr) : Type 0 where
    one : Source.Expr
    are : args ≡ Source.Argument one Source.NoExpr
    is : IsExpr program core scope (record { slots = slots_in locals; loops = loops }) one arg

  ended : {args : Source.Exprs} {as' : Core.Exprs} → Es args as' → as' ≡ Core.NoExpr → args ≡ Source.NoExpr
  ended is.no_args e = refl
  ended (is.arg x xs) e = absurd (cc)

  single_from : {args : Source.Exprs} {as' : Core.Exprs} → Es args as' → (arg : Core.Expr) → as' ≡ Core.Argument arg Core.NoExpr →
      Single args arg
  single_from is.no_args arg e = absurd (cc)
  single_from (is.arg {e = a} {e' = a'} {rest = rest} {rest' = rest'} x xs) arg e =
      let same : a' ≡ arg = cc in
      let none : rest' ≡ Core.NoExpr = cc in
      record { one = a; are = ap (Source.Argument a) (ended xs none); is = subst (E a) same x }

  single : (args : Source.Exprs) (as' : List Core.Expr) (arg : Core.Expr) → Es args (exprs_of as') → only as' ≡ Some arg → Single args arg
  single args [] arg xs e = absurd (none_some e)
  single args (a ∷ []) arg xs e = single_from xs arg (ap (λ a. Core.Argument a Core.NoExpr) (some_is e))
  single args (a ∷ b ∷ more) arg xs e = absurd (none_some e)

  -- a method of a text
  right_text : (p : Place) (e : Source.Expr) (e' : Core.Expr) (f : Name) (args : Source.Exprs) (as' : List Core.Expr) (r : Resolved) →
      Es args (exprs_of as') → IsNotThis e →
      E e e' → type_of scope e ≡ Some TextType → only as' >>= text_call p e' f ≡ Some r → Right (Source.MethodCall p e f args) r
  right_text p e e' f args as' r xs not_this i y given =
      let b = bound (only as') (text_call p e' f) r given in
      let a = single args as' b.item xs b.is in
      let c = bound (text_named f) _ r b.gives in
      subst (λ args. Right (Source.MethodCall p e f args) r) (sym a.are)
      (subst (λ f. Right (Source.MethodCall p e f (Source.Argument a.one Source.NoExpr)) r) (sym (text_named_so f c.item c.is))
      (subst (Right (Source.MethodCall p e (text_method c.item).name (Source.Argument a.one Source.NoExpr))) (some_is c.gives)
      (called_by b.item a.one a.is c.item)))
    where
      called_as : (f : Name) → called_on scope e (type_of scope e) f ≡ built_in text_methods f
      called_as f = ap (λ o. called_on scope e o f) y ∙ called_on_some scope e TextType f not_this

      called_by : (arg : Core.Expr) (a : Source.Expr) → E a arg → (c : TextCall) →
          Right (Source.MethodCall p e (text_method c).name (Source.Argument a Source.NoExpr))
          (typed (text_form p e' arg c) (text_result c))
      called_by arg a x texts.Equals =
          plain (Source.MethodCall p e (text_method texts.Equals).name (Source.Argument a Source.NoExpr)) (Core.Equals p e' arg)
          BooleanType types.Boolean (is.equals y i x)
          (ap result_in (called_as (text_method texts.Equals).name)) boolean_given (λ n q. cc)
      called_by arg a x texts.Concat =
          plain (Source.MethodCall p e (text_method texts.Concat).name (Source.Argument a Source.NoExpr)) (Core.Concat p e' arg)
          TextType types.Text (is.concat y i x)
          (ap result_in (called_as (text_method texts.Concat).name)) text_given (λ n q. cc)

  -- what is resolved to a variable is one
  pub right_placed : {e : Source.Expr} {e' : Core.Expr} →
      IsExpr program core scope (record { slots = slots_in locals; loops = loops }) e e' → (x : CoreVar) → variable_in e' ≡ Some x →
      IsPlaced program core scope (record { slots = slots_in locals; loops = loops }) e x
  right_placed (is.variable {e = e} v) x h = subst (IsPlaced program core scope ns e) (some_is h) (record { place = refl; is = v })
  right_placed is.int x h = absurd (none_some h)
  right_placed is.truth x h = absurd (none_some h)
  right_placed is.text x h = absurd (none_some h)
  right_placed is.null x h = absurd (none_some h)
  right_placed (is.constant n e a) x h = absurd (none_some h)
  right_placed (is.negative i) x h = absurd (none_some h)
  right_placed (is.opposite i) x h = absurd (none_some h)
  right_placed (is.binary i j) x h = absurd (none_some h)
  right_placed (is.static i t xs) x h = absurd (none_some h)
  right_placed (is.class_static n o i t xs) x h = absurd (none_some h)
  right_placed (is.session n i xs) x h = absurd (none_some h)
  right_placed (is.helper i t xs) x h = absurd (none_some h)
  right_placed (is.this_helper i t xs) x h = absurd (none_some h)
  right_placed (is.protocol v y i t xs) x h = absurd (none_some h)
  right_placed (is.equals y i j) x h = absurd (none_some h)
  right_placed (is.concat y i j) x h = absurd (none_some h)
  right_placed (is.new i) x h = absurd (none_some h)

  -- `x.f(..)`, where x is of a class
  right_protocol : (p : Place) (e : Source.Expr) (x : CoreVar) (name : Name) (n : ℕ) (f : Name) (args : Source.Exprs)
      (as' : List Core.Expr) (r : Resolved) → Es args (exprs_of as') →
      IsNotThis e → NoFaultAt (AtNode scope (Value (Source.MethodCall p e f args))) → IsPlaced program core scope ns e x →
      type_of scope e ≡ Some (ClassType name) → IsClass program core name n → call_protocol tables p x n f as' ≡ Some r →
      Right (Source.MethodCall p e f args) r
  right_protocol p e x name n f args as' r xs not_this clean placed y class given =
      let b = bound (slice_get tables.classes n) _ r given in
      let c = bound (method_called b.item f) _ r b.gives in
      let k = s.tabled.entry n b.item b.is in
      let w = method_called_is program core n b.item k f c.item c.is in
      let owner : class_named program.files name ≡ Some b.item.class = class.named ∙ sym class.at ∙ k.at in
      let out : called_on scope e (type_of scope e) f ≡ called_on_value program (ClassType name) f =
      ap (λ o. called_on scope e o f) y ∙ called_on_some scope e (ClassType name) f not_this in
      let z = ap result_in out ∙ called_on_object_gives program name f b.item.class c.item.method owner w.named
      (λ h. clean.known_name (culprit p f) (refl, out ∙ h)) in
      go b.item c.item w owner z c.item.method.is_static refl c.gives
    where
      go : (entry : Entry) (c : Callee) (w : MethodCalled program core entry f c) → class_named program.files name ≡ Some entry.class →
          type_of scope (Source.MethodCall p e f args) ≡ Some (meant program c.method.result) → (b : Bool) → c.method.is_static ≡ b →
          (if b then None else object_call tables p x c as') ≡ Some r → Right (Source.MethodCall p e f args) r
      go entry c w owner z true t h = absurd (none_some h)
      go entry c w owner z false t h =
          right_object (Source.MethodCall p e f args) p x c as' r z (λ u h. returns entry.number entry f c u w h)
          (is.protocol placed y (is_method program core name entry f c owner w) t xs) h

  -- a call on a value
  right_value : {t : ValueType} {g : Given} → IsGiven program core t g →
      (p : Place) (e : Source.Expr) (e' : Core.Expr) (f : Name) (args : Source.Exprs) (as' : List Core.Expr) (r : Resolved) →
      Es args (exprs_of as') → IsNotThis e → NoFaultAt (AtNode scope (Value (Source.MethodCall p e f args))) → E e e' →
      type_of scope e ≡ Some t →
      call_typed tables p e' g f as' ≡ Some r → Right (Source.MethodCall p e f args) r
  right_value no_value p e e' f args as' r xs n clean i y h = absurd (none_some h)
  right_value int_given p e e' f args as' r xs n clean i y h = absurd (none_some h)
  right_value boolean_given p e e' f args as' r xs n clean i y h = absurd (none_some h)
  right_value text_given p e e' f args as' r xs n clean i y h = right_text p e e' f args as' r xs n i y h
  right_value null_given p e e' f args as' r xs n clean i y h = absurd (none_some h)
  right_value (class_given {name = name} {c = c} class) p e e' f args as' r xs n clean i y h =
      let b = bound (variable_in e') (λ x. call_protocol tables p x c f as') r h in
      right_protocol p e b.item name c f args as' r xs n clean (right_placed i b.item b.is) y class b.gives
  right_value (enum_given k) p e e' f args as' r xs n clean i y h = absurd (none_some h)

  -- what a call is on
  pub data IsReceiver : Source.Expr → Receiver → Type 0 where
    on_this : {q : Place} → IsReceiver (Source.This q) OnThis
    on_class : {q : Place} {x : Name} → variable_type scope x ≡ None → IsReceiver (Source.Variable q x) (OnClass x)
    on_value : {e : Source.Expr} {r : Resolved} → IsNotThis e → Right e r → IsReceiver e (OnValue r)

  right_name : (p : Place) (x : Name) (w : Receiver) →
      option_map (named_receiver tables at locals p x) (found tables at locals x) ≡ Some w → IsReceiver (Source.Variable p x) w
  right_name p x w given =
      let b = mapped (named_receiver tables at locals p x) (found tables at locals x) w given in
      subst (IsReceiver (Source.Variable p x)) b.gives
      (go b.item (variable_is core tables method scope at s locals loops low known falls x b.item b.is))
    where
      go : (o : Option Found) → VariableIs core tables method scope at s locals loops low known falls x o →
          IsReceiver (Source.Variable p x) (named_receiver tables at locals p x o)
      go None none = on_class none
      go (Some f) v = on_value tt (right_found p x f v)

  right_other : (e : Source.Expr) (w : Receiver) → IsNotThis e → ((r : Resolved) → resolved tables at locals e ≡ Some r → Right e r) →
      option_map OnValue (resolved tables at locals e) ≡ Some w → IsReceiver e w
  right_other e w n right given =
      let b = mapped OnValue (resolved tables at locals e) w given in
      subst (IsReceiver e) b.gives (on_value n (right b.item b.is))

  right_on : (p : Place) (f : Name) (args : Source.Exprs) (as' : List Core.Expr) (r : Resolved) → Es args (exprs_of as') →
      {e : Source.Expr} {w : Receiver} → IsReceiver e w →
      NoFaultAt (AtNode scope (Value (Source.MethodCall p e f args))) → call_on tables at p w f as' ≡ Some r →
      Right (Source.MethodCall p e f args) r
  right_on p f args as' r xs (on_this {q = q}) clean given = right_this p q f args as' r xs clean given
  right_on p f args as' r xs (on_class {q = q} {x = x} none) clean given = go (bytes_eq x (codes "Session")) refl given
    where
      go : (b : Bool) → bytes_eq x (codes "Session") ≡ b → (if b then session_call p f as' else call_class tables p x f as') ≡ Some r →
          Right (Source.MethodCall p (Source.Variable q x) f args) r
      go true t e =
          let same = (bytes_eq-Decides x (codes "Session")).0 t in
          subst (λ x. Right (Source.MethodCall p (Source.Variable q x) f args) r) (sym same)
          (right_session p q f args as' r xs (subst (λ x. variable_type scope x ≡ None) same none) e)
      go false t e = right_class p q x f args as' r xs clean none t e
  right_on p f args as' r xs (on_value {e = e} {r = v} n w) clean given =
      right_value w.given p e v.expr f args as' r xs n clean w.is w.typed given

  right_new : (p : Place) (class : Name) (r : Resolved) → make tables at p class ≡ Some r → Right (Source.New p class) r
  right_new p class r given =
      let b = bound (class_called tables class) _ r given in
      let k = class_called_is program core tables s.tabled class b.item b.is in
      subst (Right (Source.New p class)) (some_is b.gives)
      (plain (Source.New p class) (Core.New p b.item.number) (ClassType class) (types.Object b.item.number) (is.new k.is) refl
      (class_given k.is) (λ n e. cc))

  right_binary : (p : Place) (o : Op) (l r : Source.Expr) (l' r' : Resolved) → Right l l' → Right r r' →
      Right (Source.Binary p o l r) (typed (Core.Binary p o l'.expr r'.expr) (operator_gives o l'.given r'.given))
  right_binary p o l r l' r' x y =
      plain (Source.Binary p o l r) (Core.Binary p o l'.expr r'.expr) (operator_type o (Some x.type) (Some y.type))
      (operator_gives o l'.given r'.given) (is.binary x.is y.is)
      (ap (λ t. Some (operator_type o t (type_of scope r))) x.typed ∙ ap (λ t. Some (operator_type o (Some x.type) t)) y.typed)
      (operator_given program core o x.type y.type l'.given r'.given x.given y.given) (operator_no_enum o l'.given r'.given)

  pub right_receiver : (p : Place) (f : Name) (args : Source.Exprs) (e : Source.Expr) (w : Receiver) →
      ((r : Resolved) → CleanExpr scope e → resolved tables at locals e ≡ Some r → Right e r) →
      CleanExpr scope (Source.MethodCall p e f args) → receiver tables at locals e (resolved tables at locals e) ≡ Some w → IsReceiver e w
  right_receiver p f args (Source.This q) w ih clean given = subst (IsReceiver (Source.This q)) (some_is given) on_this
  right_receiver p f args (Source.Variable q x) w ih clean given = right_name q x w given
  right_receiver p f args e w ih clean given =
      right_other e w tt (λ r given. ih r (nodes_left scope (nodes e) (nodes_in args ++ Value (Source.MethodCall p e f args) ∷ [])
      clean) given) given

  mutual
    -- what a clean expression is resolved to stands for it
    pub right : (e : Source.Expr) (r : Resolved) → CleanExpr scope e → resolved tables at locals e ≡ Some r → Right e r
    right (Source.Int p z) r clean given = subst (Right (Source.Int p z)) (some_is given)
        (plain (Source.Int p z) (Core.Int p z) IntType types.Int is.int refl int_given (λ n e. cc))
    right (Source.Truth p b) r clean given =
        subst (Right (Source.Truth p b)) (some_is given)
        (plain (Source.Truth p b) (Core.Truth p b) BooleanType types.Boolean is.truth refl boolean_given (λ n e. cc))
    right (Source.Text p t) r clean given = subst (Right (Source.Text p t)) (some_is given)
        (plain (Source.Text p t) (Core.Text p t) TextType types.Text is.text refl text_given (λ n e. cc))
    right (Source.Null p) r clean given =
        subst (Right (Source.Null p)) (some_is given)
        (record { is = is.null; type = NullType; typed = refl; given = null_given; gives = λ n e. absurd (cc) })
    right (Source.This p) r clean given = absurd (none_some given)
    right (Source.Variable p name) r clean given = right_variable p name r given
    right (Source.Member p e name) r clean given = right_member p e name r given
    right (Source.Neg p e) r clean given =
        let b = bound (resolved tables at locals e) _ r given in
        let w = right e b.item (nodes_left scope (nodes e) (Value (Source.Neg p e) ∷ []) clean) b.is in
        subst (Right (Source.Neg p e)) (some_is b.gives)
        (plain (Source.Neg p e) (Core.Neg p b.item.expr) IntType types.Int (is.negative w.is) refl int_given (λ n e. cc))
    right (Source.Not p e) r clean given =
        let b = bound (resolved tables at locals e) _ r given in
        let w = right e b.item (nodes_left scope (nodes e) (Value (Source.Not p e) ∷ []) clean) b.is in
        subst (Right (Source.Not p e)) (some_is b.gives)
        (plain (Source.Not p e) (Core.Not p b.item.expr) BooleanType types.Boolean (is.opposite w.is) refl boolean_given (λ n e. cc))
    right (Source.Binary p o l r) v clean given =
        let b = bound (resolved tables at locals l) _ v given in
        let c = bound (resolved tables at locals r) _ v b.gives in
        let x = right l b.item (left_operand scope p o l r clean) b.is in
        let y = right r c.item (right_operand scope p o l r clean) c.is in
        subst (Right (Source.Binary p o l r)) (some_is c.gives) (right_binary p o l r b.item c.item x y)
    right (Source.Call p f args) r clean given =
        let b = bound (resolved_all tables at locals args) _ r given in
        let xs = right_all args b.item (nodes_left scope (nodes_in args) (Value (Source.Call p f args) ∷ []) clean) b.is in
        right_call p f args b.item r xs (nodes_right scope (nodes_in args) (Value (Source.Call p f args) ∷ []) clean).0 b.gives
    right (Source.MethodCall p e f args) r clean given =
        let b = bound (receiver tables at locals e (resolved tables at locals e)) _ r given in
        let c = bound (resolved_all tables at locals args) _ r b.gives in
        let xs = right_all args c.item (arguments_clean scope p f args e clean) c.is in
        right_on p f args c.item r xs (right_receiver p f args e b.item (λ r c g. right e r c g) clean b.is)
        (call_clean scope p f args e clean) c.gives
    right (Source.New p class) r clean given = right_new p class r given

    pub right_all : (es : Source.Exprs) (rs : List Core.Expr) → CleanArgs scope es → resolved_all tables at locals es ≡ Some rs →
        IsExprs program core scope (record { slots = slots_in locals; loops = loops }) es (exprs_of rs)
    right_all Source.NoExpr rs clean given = subst (λ rs. Es Source.NoExpr (exprs_of rs)) (some_is given) is.no_args
    right_all (Source.Argument e more) rs clean given =
        let b = bound (resolved tables at locals e) _ rs given in
        let c = bound (resolved_all tables at locals more) _ rs b.gives in
        let x = right e b.item (first_arg scope e more clean) b.is in
        let xs = right_all more c.item (other_args scope e more clean) c.is in
        subst (λ rs. Es (Source.Argument e more) (exprs_of rs)) (some_is c.gives) (is.arg x.is xs)
