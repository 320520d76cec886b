-- Clean expressions are resolved.
use Rattle.std.proofs.Common.{◌≡◌, ◌≢◌, ℕ, suc, Bool, true, false, true≢false, List, [], ◌∷◌, ◌++◌, length, Option, Some, None}
use Rattle.std.proofs.Common.{option_map, slice_get, refl, sym, ap, ◌∙◌, subst, arith}
use Rattle.std.specs.Prelude.{codes, if◌then◌else◌}
use Rattle.std.specs.List.{list_any}
use Rattle.std.specs.Str.{bytes_eq}
use Rattle.mg_text.specs.Call.{Name}
use Rattle.mg_text.specs.declared.place.Place.{Place}
use Rattle.mg_text.proofs.Numbered.{list_any-from_None}
use Rattle.mg_read.specs.Culprit.{Culprit, culprit}
use Rattle.mg_read.specs.First.{Clean}
use Rattle.jv_tree.specs.declared.built_in.TextCall.{TextCall}
use Rattle.jv_tree.specs.declared.built_in.TextCall.TheVariants as texts
use Rattle.jv_tree.specs.BuiltIn.{session_method, session_named, text_method, text_named}
use Rattle.jv_rules.specs.Typing.{plain_signature}
use Rattle.jv_rules.proofs.BuiltInTypes.{session_signed, text_signed}
use Rattle.jv_tree.specs.Source
use Rattle.jv_tree.specs.Source.{place_of}
use Rattle.jv_meaning.specs.Program.{class_named, enum_named, method_named, constant_position}
use Rattle.jv_rules.specs.Program.{Program, is_of_protocol}
use Rattle.jv_rules.specs.Types.{ValueType, EnumType, ClassType, Signature, signature_of, meant as meant_type}
use Rattle.jv_rules.specs.Scope.{Scope, variable_type, field_type, is_variable}
use Rattle.jv_rules.specs.Typing.{type_of, constant_type, called, called_on, called_on_this, called_on_class}
use Rattle.jv_rules.specs.Typing.{called_on_value, own_instance, own_method, static_of, protocol_method, built_in, session_methods}
use Rattle.jv_rules.specs.Typing.{text_methods}
use Rattle.jv_rules.specs.Spots.{Value, AtNode, nodes, nodes_in}
use Rattle.jv_rules.specs.Taking.{ClassVariable, Taken, Takes, taken, takes, receiver, arguments, count_of, all_taken}
use Rattle.jv_rules.specs.Members.{Made, mentions_in, mentions_in_args}
use Rattle.jv_rules.specs.Declarations.{UnknownClass, IsUsableClass}
use Rattle.jv_rules.specs.Conditions.{TypeMismatch}
use Rattle.jv_core.specs.declared.program.CoreType.{CoreType}
use Rattle.jv_core.specs.declared.tree.Var.TheVariants as vars
use Rattle.jv_core.specs.declared.tree.CoreVar.{CoreVar}
use Rattle.jv_core.specs.Tree as Core
use Rattle.jv_core.specs.View.{exprs_of}
use Rattle.std.proofs.lemmas.Bool.Decides.{nat_tests}
use Rattle.jv_names.specs.Resolves.{Owned, methods_of, IsClass, IsExpr, IsExprs}
use Rattle.jv_names.specs.Resolves as is
use Rattle.jv_names.proofs.Tables.{some_is, none_some}
use Rattle.jv_names.proofs.Clean.{NoFaultAt, CleanExpr, CleanArgs, nodes_left, nodes_right, first_arg, other_args, left_operand}
use Rattle.jv_names.proofs.Clean.{right_operand}
use Rattle.jv_names.proofs.Declared.{clean_left, clean_right}
use Rattle.jv_names.proofs.Moving.{IsNotThis, arguments_clean, call_clean}
use Rattle.jv_resolve_law.specs.Tables.{◌>>=◌, Numbered, Entry, Tables, Callee, Placed, class_called, enum_called, method_called}
use Rattle.jv_resolve_law.specs.Tables.{field_called, type_meant}
use Rattle.jv_resolve_law.specs.Expressions.{Given, Of, Resolved, Known, Standing, Found, Receiver, OnThis, OnClass, OnValue, variable_in}
use Rattle.jv_resolve_law.specs.Expressions.{only, text_call, session_call}
use Rattle.jv_resolve_law.specs.Expressions.{constant, static_call, helper_call, object_call, call_class, call_protocol, call_typed}
use Rattle.jv_resolve_law.specs.Expressions.{own_found, call_own, call_this, call_on, make, found, variable_at, constant_at, member}
use Rattle.jv_resolve_law.specs.Expressions.{named_receiver, resolved, resolved_all}
use Rattle.jv_resolve_law.specs.Expressions as expressions
use Rattle.jv_resolve_law.proofs.Tabled.{IsEntry, enum_called_is, MethodCalled, method_called_is, ClassCalled, class_called_is}
use Rattle.jv_resolve_law.proofs.Tabled.{field_called_is}
use Rattle.jv_resolve_law.proofs.Given.{IsGiven, no_value, int_given, boolean_given, text_given, null_given, class_given, AreKnown, Falls}
use Rattle.jv_resolve_law.proofs.Given.{slots_in, Stands, OwnIs, own_is, VariableIs, variable_is}
use Rattle.jv_resolve_law.proofs.Given as given
use Rattle.jv_resolve_law.proofs.Expressions.{right, right_all, IsReceiver, on_this, on_class, on_value, right_receiver, own_called}
use Rattle.jv_resolve_law.proofs.Expressions.{own_named, called_on_some}
use Rattle.jv_resolve_law.proofs.Total.{Given as G, given_bind, given_map, given_some, given_part, class_given as class_there}
use Rattle.jv_resolve_law.proofs.Total.{enum_given as enum_there, method_given}

-- the types of the fields of the class, and the results of methods, are there
pub record AreMeant (program : Program) (tables : Tables) (entry : Entry) : Type 0 where
  pub fields : (k : ℕ) (f : Source.Field) → slice_get entry.class.fields k ≡ Some f → type_meant tables f.ty ≡ None → ⊥
  pub results : (n : ℕ) (o : Owned) → slice_get (methods_of program) n ≡ Some o → type_meant tables o.method.result ≡ None → ⊥

-- a name that no method of the session has, or of texts, has no signature
no_session : (f : Name) → session_named f ≡ None → built_in session_methods f ≡ None
no_session f e = session_signed f ∙ ap (option_map (λ c. plain_signature (session_method c))) e

no_text : (f : Name) → text_named f ≡ None → built_in text_methods f ≡ None
no_text f e = text_signed f ∙ ap (option_map (λ c. plain_signature (text_method c))) e

abbrev as_field : Placed → CoreType → Option (Option Found)
as_field f ty = Some (Some (record { var = vars.Field f.place; ty = ty }))

abbrev as_slot : Known → Option (Option Found)
as_slot l = Some (Some (record { var = vars.Slot l.it.slot; ty = l.it.ty }))

module _ (core : Core.Program) (tables : Tables) (method : Core.Method) (scope : Scope) (at : Standing)
    (s : Stands core tables method scope at)
    (locals : List Known) (loops : List (Option ℕ)) (low : ℕ) (known : AreKnown scope.program core method scope.locals locals)
    (falls : Falls low locals)
    (meant : AreMeant scope.program tables at.entry) where
  abbrev program : Program
  program = scope.program

  -- Variables.

  given_own : (name : Name) → G (own_found tables at name)
  given_own name = go at.is_static
    where
      look : (q : Option Placed) → field_called at.entry name ≡ q → G (elim q [
        | None ↦ Some None
        | Some f ↦ type_meant tables f.field.ty >>= λ ty. as_field f ty
      ])
      look None e = given_some None
      look (Some f) e = given_bind (type_meant tables f.field.ty) _
          (meant.fields f.place f.field (field_called_is at.entry name f e).at) (λ u h. given_some _)

      go : (b : Bool) → G (if b then Some None else elim (field_called at.entry name) [
        | None ↦ Some None
        | Some f ↦ type_meant tables f.field.ty >>= λ ty. as_field f ty
      ])
      go true = given_some None
      go false = look (field_called at.entry name) refl

  given_found : (name : Name) → G (found tables at locals name)
  given_found name = go (expressions.known_named locals name)
    where
      go : (q : Option Known) → G (elim q [ Some l ↦ as_slot l | None ↦ own_found tables at name ])
      go None = given_own name
      go (Some l) = given_some _

  given_variable : (p : Place) (name : Name) → G (variable_type scope name) →
      G (found tables at locals name >>= variable_at tables at locals p)
  given_variable p name n =
      given_bind (found tables at locals name) (variable_at tables at locals p) (given_found name)
      (λ o e. go o (variable_is core tables method scope at s locals loops low known falls name o e))
    where
      go : (o : Option Found) → VariableIs core tables method scope at s locals loops low known falls name o →
          G (variable_at tables at locals p o)
      go None w = absurd (n w)
      go (Some x) w = given_some _

  given_own_member : (p q : Place) (name : Name) → G (field_type scope name) →
      G (own_found tables at name >>= variable_at tables at locals p)
  given_own_member p q name n =
      given_bind (own_found tables at name) (variable_at tables at locals p) (given_own name)
      (λ o e. go o (own_is core tables method scope at s name o e))
    where
      go : (o : Option Found) → OwnIs core tables method scope at s name o → G (variable_at tables at locals p o)
      go None w = absurd (n (ap (option_map (λ (f : Source.Field). meant_type scope.program f.ty)) w))
      go (Some x) w = given_some _

  given_constant : (p : Place) (of name : Name) → G (constant_type program of name) → G (constant tables p of name)
  given_constant p of name n =
      given_bind (enum_called tables of) _ (enum_there program core tables s.tabled of (λ e. n (no_enum e)))
      (λ k e. given_bind (constant_position k.enum name) _ (λ h. n (no_constant k.enum (enum_is k e) h)) (λ i h. given_some _))
    where
      no_enum : enum_named program.files of ≡ None → constant_type program of name ≡ None
      no_enum e =
          ap (λ (o : Option Source.Enum). elim o [
            | None ↦ None
            | Some e ↦ if list_any (bytes_eq name) e.constants then Some
                (EnumType of) else None
          ]) e

      enum_is : (k : Numbered) → enum_called tables of ≡ Some k → enum_named program.files of ≡ Some k.enum
      enum_is k e = (enum_called_is program core tables s.tabled of k e).named

      no_constant : (k : Source.Enum) → enum_named program.files of ≡ Some k → constant_position k name ≡ None →
          constant_type program of name ≡ None
      no_constant k named e =
          ap (λ (o : Option Source.Enum). elim o [
            | None ↦ None
            | Some e ↦ if list_any (bytes_eq name) e.constants then Some
                (EnumType of) else None
          ]) named
          ∙ ap (λ b. if b then Some (EnumType of) else None) (list_any-from_None (bytes_eq name) k.constants e)

  given_member : (p : Place) (e : Source.Expr) (name : Name) → G (type_of scope (Source.Member p e name)) →
      G (member tables at locals p e name)
  given_member p (Source.This q) name n = given_own_member p q name n
  given_member p (Source.Variable q of) name n =
      given_bind (found tables at locals of) (constant_at tables at locals p of name) (given_found of)
      (λ o e. go o (variable_is core tables method scope at s locals loops low known falls of o e))
    where
      by_variable : (o : Option ValueType) → variable_type scope of ≡ o →
          type_of scope (Source.Member p (Source.Variable q of) name) ≡ elim o [ None ↦ constant_type program of name | Some t ↦ None ]
      by_variable o e = ap (λ (o : Option ValueType). elim o [ None ↦ constant_type program of name | Some t ↦ None ]) e

      go : (o : Option Found) → VariableIs core tables method scope at s locals loops low known falls of o →
          G (constant_at tables at locals p of name o)
      go None w = given_constant p of name (λ h. n (by_variable None w ∙ h))
      go (Some x) w = absurd (n (by_variable (Some w.type) w.typed))
  given_member p e name n = absurd (n refl)

  -- Calls.

  given_result : (k : ℕ) (e : Entry) (f : Name) (c : Callee) → MethodCalled program core e f c → G (type_meant tables c.method.result)
  given_result k e f c w = meant.results c.number _ w.at

  given_static : (p : Place) (c : Callee) (as' : List Core.Expr) → G (type_meant tables c.method.result) → G (static_call tables p c as')
  given_static p c as' n = given_bind (type_meant tables c.method.result) _ n (λ u e. given_some _)

  given_helper : (p : Place) (c : Callee) (as' : List Core.Expr) → G (type_meant tables c.method.result) → G (helper_call tables p c as')
  given_helper p c as' n = given_bind (type_meant tables c.method.result) _ n (λ u e. given_some _)

  given_object : (p : Place) (x : CoreVar) (c : Callee) (as' : List Core.Expr) → G (type_meant tables c.method.result) →
      G (object_call tables p x c as')
  given_object p x c as' n = given_bind (type_meant tables c.method.result) _ n (λ u e. given_some _)

  own_given : (f : Name) → G (method_named scope.class f) → G (method_called at.entry f)
  own_given f n = method_given at.entry f (λ e. n (ap (λ c. method_named c f) (sym s.class) ∙ e))

  given_call : (p : Place) (f : Name) (as' : List Core.Expr) → G (called scope f) → G (call_own tables at p f as')
  given_call p f as' n =
      given_bind (method_called at.entry f) _
      (own_given f (λ e. n (ap (λ (o : Option Source.Method). elim o [ None ↦ None | Some m ↦ own_method scope m ]) e)))
      (λ c e. go c (given_result s.number at.entry f c (own_called core tables method scope at s locals loops low known falls f c e))
      c.method.is_static)
    where
      go : (c : Callee) → G (type_meant tables c.method.result) → (b : Bool) →
          G (if b then static_call tables p c as' else helper_call tables p c as')
      go c n true = given_static p c as' n
      go c n false = given_helper p c as' n

  static_instance : (m : Source.Method) → m.is_static ≡ true → own_instance scope m ≡ None
  static_instance m t = ap (λ b. if b then None else if is_of_protocol program scope.class m.name then Some (signature_of program m)
      else if scope.method.is_static then None else Some (signature_of program m)) t

  given_this : (p : Place) (f : Name) (as' : List Core.Expr) → G (called_on_this scope f) → G (call_this tables at p f as')
  given_this p f as' n =
      given_bind (method_called at.entry f) _
      (own_given f (λ e. n (ap by e)))
      (λ c e. go c (own_called core tables method scope at s locals loops low known falls f c e) c.method.is_static refl)
    where
      by : Option Source.Method → Option Signature
      by o = elim o [ None ↦ None | Some m ↦ own_instance scope m ]

      go : (c : Callee) → MethodCalled program core at.entry f c → (b : Bool) → c.method.is_static ≡ b →
          G (if b then None else helper_call tables p c as')
      go c w true t e = n (ap by (own_named core tables method scope at s locals loops low known falls f c w) ∙
          static_instance c.method t)
      go c w false t e = given_helper p c as' (given_result s.number at.entry f c w) e

  given_class : (p : Place) (class f : Name) (as' : List Core.Expr) → bytes_eq class (codes "Session") ≡ false →
      G (called_on_class program class f) →
      G (call_class tables p class f as')
  given_class p class f as' other n =
      given_bind (class_called tables class) _ (class_there program core tables s.tabled class (λ e. n (out ∙ ap by_class e)))
      (λ k e. of_class k (class_called_is program core tables s.tabled class k e))
    where
      by_method : Option Source.Method → Option Signature
      by_method o = elim o [ None ↦ None | Some m ↦ static_of program m ]

      by_class : Option Source.Class → Option Signature
      by_class o = elim o [ None ↦ None | Some c ↦ elim (method_named c f) [ None ↦ None | Some m ↦ static_of program m ] ]

      out : called_on_class program class f ≡ elim (class_named program.files class) [
        | None ↦ None
        | Some c ↦ elim (method_named c f) [ None ↦ None | Some m ↦ static_of program m ]
      ]
      out = ap (λ b. if b then built_in session_methods f else elim (class_named program.files class) [
        | None ↦ None
        | Some c ↦ elim (method_named c f) [ None ↦ None | Some m ↦ static_of program m ]
      ]) other

      no_static : (m : Source.Method) → m.is_static ≡ false → static_of program m ≡ None
      no_static m t = ap (λ b. if b then (if m.takes_args then None else Some (signature_of program m)) else None) t

      chosen : (k : Entry) (c : Callee) → ClassCalled program core tables s.tabled class k → MethodCalled program core k f c →
          (b : Bool) → c.method.is_static ≡ b →
          G (if b then static_call tables p c as' else None)
      chosen k c w v true t e = given_static p c as' (given_result k.number k f c v) e
      chosen k c w v false t e = n (out ∙ ap by_class w.named ∙ ap by_method v.named ∙ no_static c.method t)

      of_class : (k : Entry) → ClassCalled program core tables s.tabled class k →
          G (method_called k f >>= λ c. if c.method.is_static then static_call tables p c as' else None)
      of_class k w =
          given_bind (method_called k f) _ (method_given k f (λ e. n (out ∙ ap by_class w.named ∙ ap by_method e)))
          (λ c e. chosen k c w (method_called_is program core k.number k w.entry f c e) c.method.is_static refl)

  given_session : (p : Place) (f : Name) (as' : List Core.Expr) → G (built_in session_methods f) → G (session_call p f as')
  given_session p f as' n = given_bind (session_named f) _ (λ e. n (no_session f e)) (λ c e. given_some _)

  -- A call on a value.

  counts : (args : Source.Exprs) (as' : List Core.Expr) →
      IsExprs program core scope (record { slots = slots_in locals; loops = loops }) args (exprs_of as') →
      count_of args ≡ length as'
  counts Source.NoExpr [] xs = refl
  counts Source.NoExpr (a ∷ as') xs = elim xs [ ]
  counts (Source.Argument e more) [] xs = elim xs [ ]
  counts (Source.Argument e more) (a ∷ as') (is.arg x xs) = ap suc (counts more as' xs)

  one_argument : (as' : List Core.Expr) → length as' ≡ 1 → G (only as')
  one_argument [] n = absurd (omega (arith, n))
  one_argument (a ∷ []) n = given_some a
  one_argument (a ∷ b ∷ more) n = absurd (omega (arith, n))

  -- what a text's methods take is one argument
  takes_one : (f : Name) (sig : Signature) → built_in text_methods f ≡ Some sig → length sig.params ≡ 1
  takes_one f sig e = go (text_named f) (sym (text_signed f) ∙ e)
    where
      go : (o : Option TextCall) → option_map (λ c. plain_signature (text_method c)) o ≡ Some sig → length sig.params ≡ 1
      go None e = absurd (none_some e)
      go (Some texts.Equals) e = ap (λ (s : Signature). length s.params) (sym (some_is e))
      go (Some texts.Concat) e = ap (λ (s : Signature). length s.params) (sym (some_is e))

  -- a text has a method of this name
  given_text : (p : Place) (e' : Core.Expr) (f : Name) (arg : Core.Expr) → G (built_in text_methods f) → G (text_call p e' f arg)
  given_text p e' f arg n = given_bind (text_named f) _ (λ e. n (no_text f e)) (λ c e. given_some _)

  -- what has the form of a variable is resolved to one
  pub given_placed : {e : Source.Expr} {e' : Core.Expr} →
      IsExpr program core scope (record { slots = slots_in locals; loops = loops }) e e' → is_variable e ≡ true → G (variable_in e')
  given_placed (is.variable v) t = given_some _
  given_placed is.int t = absurd (true≢false (sym t))
  given_placed is.truth t = absurd (true≢false (sym t))
  given_placed is.text t = absurd (true≢false (sym t))
  given_placed is.null t = absurd (true≢false (sym t))
  given_placed (is.constant n e a) t = absurd (true≢false (sym t))
  given_placed (is.negative i) t = absurd (true≢false (sym t))
  given_placed (is.opposite i) t = absurd (true≢false (sym t))
  given_placed (is.binary i j) t = absurd (true≢false (sym t))
  given_placed (is.static i q xs) t = absurd (true≢false (sym t))
  given_placed (is.class_static n o i q xs) t = absurd (true≢false (sym t))
  given_placed (is.session n i xs) t = absurd (true≢false (sym t))
  given_placed (is.helper i q xs) t = absurd (true≢false (sym t))
  given_placed (is.this_helper i q xs) t = absurd (true≢false (sym t))
  given_placed (is.protocol v y i q xs) t = absurd (true≢false (sym t))
  given_placed (is.equals y i j) t = absurd (true≢false (sym t))
  given_placed (is.concat y i j) t = absurd (true≢false (sym t))
  given_placed (is.new i) t = absurd (true≢false (sym t))

  given_protocol : (p : Place) (x : CoreVar) (name : Name) (n : ℕ) (f : Name) (as' : List Core.Expr) → IsClass program core name n →
      G (called_on_value program (ClassType name) f) → G (call_protocol tables p x n f as')
  given_protocol p x name n f as' class some =
      given_bind (slice_get tables.classes n) _
      (given_part (λ (e : Entry). e.class) tables.classes n class.class (ap (λ cs. slice_get cs n) s.tabled.classes ∙ class.at))
      (λ k e. of_class k (s.tabled.entry n k e))
    where
      by_class : Option Source.Class → Option Signature
      by_class o = elim o [ None ↦ None | Some c ↦ protocol_method program c f ]

      by_method : Source.Class → Option Source.Method → Option Signature
      by_method c o = elim o [
        | None ↦ None
        | Some m ↦ if m.is_static then None else if is_of_protocol program c f then Some (signature_of program m) else None
      ]

      no_protocol : (c : Source.Class) (m : Source.Method) → m.is_static ≡ true → by_method c (Some m) ≡ None
      no_protocol c m t = ap (λ b. if b then None else if is_of_protocol program c f then Some (signature_of program m) else None) t

      owner : (k : Entry) → IsEntry program n k → class_named program.files name ≡ Some k.class
      owner k i = class.named ∙ (sym class.at ∙ i.at)

      chosen : (k : Entry) (c : Callee) → class_named program.files name ≡ Some k.class → MethodCalled program core k f c → (b : Bool) →
          c.method.is_static ≡ b →
          G (if b then None else object_call tables p x c as')
      chosen k c o v true t e = some (ap by_class o ∙ (ap (by_method k.class) v.named ∙ no_protocol k.class c.method t))
      chosen k c o v false t e = given_object p x c as' (given_result k.number k f c v) e

      of_class : (k : Entry) → IsEntry program n k →
          G (method_called k f >>= λ c. if c.method.is_static then None else object_call tables p x c as')
      of_class k i =
          given_bind (method_called k f) _ (method_given k f (λ e. some (ap by_class (owner k i) ∙ ap (by_method k.class) e)))
          (λ c e. chosen k c (owner k i) (method_called_is program core n k i f c e) c.method.is_static refl)

  -- an object is called through a variable
  through_variable : (p : Place) (e : Source.Expr) (f : Name) (args : Source.Exprs) (name : Name) →
      type_of scope e ≡ Some (ClassType name) →
      Clean TypeMismatch (all_taken scope (takes scope (Source.MethodCall p e f args))) → is_variable e ≡ true
  through_variable p e f args name y clean = go (is_variable e) refl first
    where
      rest : Option Signature → List Taken
      rest o = arguments o args

      all : Clean TypeMismatch (all_taken scope (taken e ClassVariable ∷ rest (called_on scope e (type_of scope e) f)))
      all = subst (λ o. Clean TypeMismatch (all_taken scope (receiver o e ++ rest (called_on scope e (type_of scope e) f)))) y clean

      first : (c : Culprit) → TypeMismatch (Takes scope (taken e ClassVariable)) c → ⊥
      first = all.0

      go : (b : Bool) → is_variable e ≡ b → ((c : Culprit) → TypeMismatch (Takes scope (taken e ClassVariable)) c → ⊥) → b ≡ true
      go true t n = refl
      go false t n = absurd (n (culprit (place_of e) []) (refl, λ type h suits. true≢false (sym suits.1 ∙ t)))

  equal : (a b : ℕ) → (a ≢ b → ⊥) → a ≡ b
  equal a b n = grind (arith, nat_tests, n)

  of_text : (p : Place) (e : Source.Expr) (e' : Core.Expr) (f : Name) (args : Source.Exprs) (as' : List Core.Expr) →
      IsExprs program core scope (record { slots = slots_in locals; loops = loops }) args (exprs_of as') →
      NoFaultAt (AtNode scope (Value (Source.MethodCall p e f args))) → G (built_in text_methods f) →
      called_on scope e (type_of scope e) f ≡ built_in text_methods f → G (only as' >>= text_call p e' f)
  of_text p e e' f args as' xs clean some out =
      given_bind (only as') (text_call p e' f) (one_argument as' (go (built_in text_methods f) refl some))
      (λ a h. given_text p e' f a some)
    where
      go : (o : Option Signature) → built_in text_methods f ≡ o → G o → length as' ≡ 1
      go None e n = absurd (n refl)
      go (Some sig) h n =
          sym (counts args as' xs)
          ∙ (equal (count_of args) (length sig.params) (λ differs. clean.arity (culprit p []) (refl, sig, out ∙ h, differs)) ∙
          takes_one f sig h)

  given_value : {t : ValueType} {g : Given} → IsGiven program core t g →
      (p : Place) (e : Source.Expr) (e' : Core.Expr) (f : Name) (args : Source.Exprs) (as' : List Core.Expr) →
      IsExprs program core scope (record { slots = slots_in locals; loops = loops }) args (exprs_of as') → IsNotThis e →
      NoFaultAt (AtNode scope (Value (Source.MethodCall p e f args))) →
      IsExpr program core scope (record { slots = slots_in locals; loops = loops }) e e' →
      type_of scope e ≡ Some t → G (called_on_value program t f) → called_on scope e (type_of scope e) f ≡ called_on_value program t f →
      G (call_typed tables p e' g f as')
  given_value no_value p e e' f args as' xs n clean i y some out h = some refl
  given_value int_given p e e' f args as' xs n clean i y some out h = some refl
  given_value boolean_given p e e' f args as' xs n clean i y some out h = some refl
  given_value text_given p e e' f args as' xs n clean i y some out h = of_text p e e' f args as' xs clean some out h
  given_value null_given p e e' f args as' xs n clean i y some out h = some refl
  given_value (class_given {name = name} {c = c} class) p e e' f args as' xs n clean i y some out h =
      given_bind (variable_in e') (λ x. call_protocol tables p x c f as')
      (given_placed i (through_variable p e f args name y clean.types))
      (λ x h. given_protocol p x name c f as' class some) h
  given_value (given.enum_given k) p e e' f args as' xs n clean i y some out h = some refl

  known_call : (p : Place) (e : Source.Expr) (f : Name) (args : Source.Exprs) →
      NoFaultAt (AtNode scope (Value (Source.MethodCall p e f args))) →
      G (called_on scope e (type_of scope e) f)
  known_call p e f args clean h = clean.known_name (culprit p f) (refl, h)

  given_on : (p : Place) (f : Name) (args : Source.Exprs) (as' : List Core.Expr) →
      IsExprs program core scope (record { slots = slots_in locals; loops = loops }) args (exprs_of as') →
      {e : Source.Expr} {w : Receiver} → IsReceiver core tables method scope at s locals loops low known falls e w →
      NoFaultAt (AtNode scope (Value (Source.MethodCall p e f args))) → G (call_on tables at p w f as')
  given_on p f args as' xs (on_this {q = q}) clean = given_this p f as' (known_call p (Source.This q) f args clean)
  given_on p f args as' xs (on_class {q = q} {x = x} none) clean = go (bytes_eq x (codes "Session")) refl
    where
      out : called_on scope (Source.Variable q x) (type_of scope (Source.Variable q x)) f ≡ called_on_class program x f
      out = ap (λ o. called_on scope (Source.Variable q x) o f) none

      some : G (called_on_class program x f)
      some h = known_call p (Source.Variable q x) f args clean (out ∙ h)

      session : bytes_eq x (codes "Session") ≡ true → called_on_class program x f ≡ built_in session_methods f
      session t = ap (λ b. if b then built_in session_methods f else elim (class_named program.files x) [
        | None ↦ None
        | Some c ↦ elim (method_named c f) [ None ↦ None | Some m ↦ static_of program m ]
      ]) t

      go : (b : Bool) → bytes_eq x (codes "Session") ≡ b → G (if b then session_call p f as' else call_class tables p x f as')
      go true t = given_session p f as' (λ h. some (session t ∙ h))
      go false t = given_class p x f as' t some
  given_on p f args as' xs (on_value {e = e} {r = v} n w) clean =
      let out = ap (λ o. called_on scope e o f) w.typed ∙ called_on_some scope e w.type f n in
      given_value w.given p e v.expr f args as' xs n clean w.is w.typed (λ h. known_call p e f args clean (out ∙ h)) out

  given_new : (p : Place) (class : Name) → ((c : Culprit) → UnknownClass program (Made p class) c → ⊥) → G (make tables at p class)
  given_new p class fine =
      given_bind (class_called tables class) _ (class_there program core tables s.tabled class
      (λ e. fine (culprit p class) (refl, λ u. subst IsUsableClass e u)))
      (λ k h. given_some _)

  receiver_given : (p : Place) (f : Name) (args : Source.Exprs) (e : Source.Expr) →
      (CleanExpr scope e → Clean (UnknownClass program) (mentions_in e) → G (resolved tables at locals e)) →
      CleanExpr scope (Source.MethodCall p e f args) → Clean (UnknownClass program) (mentions_in e) →
      G (expressions.receiver tables at locals e (resolved tables at locals e))
  receiver_given p f args (Source.This q) ih clean made = given_some OnThis
  receiver_given p f args (Source.Variable q x) ih clean made =
      given_map (named_receiver tables at locals q x) (found tables at locals x) (given_found x)
  receiver_given p f args e ih clean made =
      given_map OnValue (resolved tables at locals e)
      (ih (nodes_left scope (nodes e) (nodes_in args ++ Value (Source.MethodCall p e f args) ∷ []) clean) made)

  member_clean : (p : Place) (e : Source.Expr) (name : Name) → CleanExpr scope (Source.Member p e name) →
      NoFaultAt (AtNode scope (Value (Source.Member p e name)))
  member_clean p (Source.This q) name clean = clean.0
  member_clean p (Source.Variable q x) name clean = clean.1.0
  member_clean p e name clean = (nodes_right scope (nodes e) (Value (Source.Member p e name) ∷ []) clean).0

  mutual
    -- a clean expression is resolved
    pub given_expr : (e : Source.Expr) → CleanExpr scope e → Clean (UnknownClass program) (mentions_in e) →
        resolved tables at locals e ≡ None → ⊥
    given_expr (Source.Int p z) clean made h = none_some (sym h)
    given_expr (Source.Truth p b) clean made h = none_some (sym h)
    given_expr (Source.Text p t) clean made h = none_some (sym h)
    given_expr (Source.Null p) clean made h = none_some (sym h)
    given_expr (Source.This p) clean made h = clean.0.no_this (culprit p []) refl
    given_expr (Source.Variable p name) clean made h = given_variable p name (λ e. clean.0.known_name (culprit p name) (refl, e)) h
    given_expr (Source.Member p e name) clean made h =
        given_member p e name (λ q. (member_clean p e name clean).known_name (culprit p name) (refl, q)) h
    given_expr (Source.Neg p e) clean made h =
        given_bind (resolved tables at locals e) _ (λ q. given_expr e (nodes_left scope (nodes e) (Value (Source.Neg p e) ∷ []) clean)
        made q)
        (λ r q. given_some _) h
    given_expr (Source.Not p e) clean made h =
        given_bind (resolved tables at locals e) _ (λ q. given_expr e (nodes_left scope (nodes e) (Value (Source.Not p e) ∷ []) clean)
        made q)
        (λ r q. given_some _) h
    given_expr (Source.Binary p o l r) clean made h =
        given_bind (resolved tables at locals l) _
        (λ q. given_expr l (left_operand scope p o l r clean) (clean_left (UnknownClass program) (mentions_in l) (mentions_in r) made) q)
        (λ l' q. given_bind (resolved tables at locals r) _
        (λ q. given_expr r (right_operand scope p o l r clean) (clean_right (UnknownClass program) (mentions_in l) (mentions_in r) made)
        q)
        (λ r' q. given_some _)) h
    given_expr (Source.Call p f args) clean made h =
        given_bind (resolved_all tables at locals args) _
        (λ q. given_all args (nodes_left scope (nodes_in args) (Value (Source.Call p f args) ∷ []) clean) made q)
        (λ as' q. given_call p f as'
        (λ e. (nodes_right scope (nodes_in args) (Value (Source.Call p f args) ∷ []) clean).0.known_name (culprit p f) (refl, e))) h
    given_expr (Source.MethodCall p e f args) clean made h =
        given_bind (expressions.receiver tables at locals e (resolved tables at locals e)) _
        (receiver_given p f args e (λ c m q. given_expr e c m q) clean
        (clean_left (UnknownClass program) (mentions_in e) (mentions_in_args args) made))
        (λ w q. given_bind (resolved_all tables at locals args) _
        (λ q. given_all args (arguments_clean scope p f args e clean)
        (clean_right (UnknownClass program) (mentions_in e) (mentions_in_args args) made) q)
        (λ as' z. given_on p f args as'
        (right_all core tables method scope at s locals loops low known falls args as' (arguments_clean scope p f args e clean) z)
        (right_receiver core tables method scope at s locals loops low known falls p f args e w
        (λ r c g. right core tables method scope at s locals loops low known falls e r c g) clean q)
        (call_clean scope p f args e clean))) h
    given_expr (Source.New p class) clean made h = given_new p class made.0 h

    pub given_all : (es : Source.Exprs) → CleanArgs scope es → Clean (UnknownClass program) (mentions_in_args es) →
        resolved_all tables at locals es ≡ None → ⊥
    given_all Source.NoExpr clean made h = none_some (sym h)
    given_all (Source.Argument e more) clean made h =
        given_bind (resolved tables at locals e) _
        (λ q. given_expr e (first_arg scope e more clean)
        (clean_left (UnknownClass program) (mentions_in e) (mentions_in_args more) made) q)
        (λ r q. given_bind (resolved_all tables at locals more) _
        (λ q. given_all more (other_args scope e more clean)
        (clean_right (UnknownClass program) (mentions_in e) (mentions_in_args more) made) q)
        (λ rs q. given_some _)) h
