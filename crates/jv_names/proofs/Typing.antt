-- What is resolved of a clean expression has the type of its source.
use Rattle.std.proofs.Common.{◌≡◌, ◌≢◌, inl, ⊎_elim, ℕ, ◌<◌, Bool, true, false, true≢false, List, [], ◌∷◌, ◌++◌, map, length, Option, Some}
use Rattle.std.proofs.Common.{None, option_map, refl, sym, ap, ◌∙◌, subst, arith}
use Rattle.std.specs.Prelude.{codes, if◌then◌else◌}
use Rattle.std.specs.List.{list_any}
use Rattle.std.specs.Str.{bytes_eq}
use Rattle.std.proofs.lemmas.Slice.Eq.{bytes_eq-Decides}
use Rattle.mg_text.specs.Call.{Name}
use Rattle.mg_text.specs.declared.place.Place.{Place}
use Rattle.mg_read.specs.Culprit.{Culprit, culprit}
use Rattle.mg_read.specs.First.{Clean}
use Rattle.ts_tree.specs.Proper.{AreDistinct}
use Rattle.jv_tree.specs.declared.built_in.PlainType.{PlainType}
use Rattle.jv_tree.specs.declared.built_in.PlainType.TheVariants as plain
use Rattle.jv_tree.specs.declared.built_in.TextCall.TheVariants as texts
use Rattle.jv_tree.specs.BuiltIn.{session_method, text_method}
use Rattle.jv_core.specs.Types.{plain_type as core_plain}
use Rattle.jv_tree.specs.Source
use Rattle.jv_tree.specs.Source.{place_of}
use Rattle.jv_meaning.specs.Program.{class_named, method_named, constant_position}
use Rattle.jv_rules.specs.Program.{Program, is_of_protocol}
use Rattle.jv_rules.specs.Types.{ValueType, IntType, BooleanType, TextType, EnumType, ClassType, NullType, NoValue, Signature, signature_of}
use Rattle.jv_rules.specs.Types.{meant}
use Rattle.jv_rules.specs.Scope.{Scope, variable_type, field_of}
use Rattle.jv_rules.specs.Typing.{type_of, operator_type, constant_type, called, called_on, called_on_value, static_of, own_instance}
use Rattle.jv_rules.specs.Typing.{own_method, protocol_method, built_in, session_methods, text_methods, plain_type, plain_signature}
use Rattle.jv_rules.proofs.BuiltInTypes.{session_typed}
use Rattle.jv_rules.specs.Spots.{Value, nodes, nodes_in}
use Rattle.jv_rules.specs.Taking.{Fitting, Writable, AnyEnum, IsEnum, Taken, taken, all_taken, paired, arguments, receiver, count_of}
use Rattle.jv_rules.specs.Conditions as rules
use Rattle.jv_rules.specs.Conditions.{TypeMismatch}
use Rattle.jv_rules.specs.Members.{mentions_in, mentions_in_args}
use Rattle.jv_rules.specs.Declarations.{UnknownClass, IsUsableClass}
use Rattle.jv_core.specs.declared.tree.Var.{Var}
use Rattle.jv_core.specs.declared.tree.CoreVar.{CoreVar}
use Rattle.jv_tree.specs.declared.built_in.SessionCall.{SessionCall}
use Rattle.jv_core.specs.declared.program.CoreType.{CoreType}
use Rattle.jv_core.specs.declared.program.CoreType.TheVariants as types
use Rattle.jv_core.specs.Tree as Core
use Rattle.jv_core.specs.Lookup.{param_types}
use Rattle.jv_core.specs.Types.{Has, HasAll, HasTypestate, IsCalled, IsOwnField, IsField, IsVariable, IsShown, session_params}
use Rattle.jv_core.specs.Types.{session_result}
use Rattle.jv_core.specs.Types as has
use Rattle.jv_core.specs.Members.{type_names}
use Rattle.jv_names.specs.Resolves.{Aligned, Numbers, IsVar, IsClass, IsMethod, IsSession, IsExpr, IsExprs, Resolves}
use Rattle.jv_names.specs.Resolves as is
use Rattle.jv_names.proofs.Tables.{some_is, none_some, aligned_at, method_name}
use Rattle.jv_names.proofs.OneNumber.{one_class}
use Rattle.jv_names.proofs.Clean.{CleanExpr, CleanArgs, nodes_left, nodes_right, first_arg, other_args, left_operand, right_operand}
use Rattle.jv_names.proofs.Clean.{operator}
use Rattle.jv_names.proofs.Fitting.{IsKnown, meant_known, counted, suited, Typed, known, fits, shows, one_type}
use Rattle.jv_names.proofs.Labels.{position_in, constants_same}
use Rattle.jv_names.proofs.Locals.{AreLocals}
use Rattle.jv_names.proofs.Moving.{IsName, IsNotThis, not_this_variable, arguments_clean, call_clean, receiver_clean, own_class, own_named}
use Rattle.jv_names.proofs.Moving.{is_own, no_protocol, not_this, calls_back, calls_back_in}
use Rattle.jv_names.proofs.Naming.{Runs, Callee, callee, typed_var, own_of, runs_on_object, static_kind, protocol_kind, helper_kind}
use Rattle.jv_names.proofs.Operating.{operated}
use Rattle.jv_names.proofs.TypesMeet.{Meets}
use Rattle.jv_names.proofs.TypesMeet as meets

pub clean_left : {X C : Type 0} (At : X → C → Type 0) (xs ys : List X) → Clean At (xs ++ ys) → Clean At xs
clean_left At [] ys h = tt
clean_left At (x ∷ xs) ys h = (h.0, clean_left At xs ys h.1)

pub clean_right : {X C : Type 0} (At : X → C → Type 0) (xs ys : List X) → Clean At (xs ++ ys) → Clean At ys
clean_right At [] ys h = h
clean_right At (x ∷ xs) ys h = clean_right At xs ys h.1

taken_behind : (scope : Scope) (xs ys : List Taken) → Clean TypeMismatch (all_taken scope (xs ++ ys)) →
    Clean TypeMismatch (all_taken scope ys)
taken_behind scope [] ys h = h
taken_behind scope (x ∷ xs) ys h = taken_behind scope xs ys h.1

-- Tests that came out right.

chosen : {A : Type 0} (b : Bool) (u : A) (t : A) → (if b then Some u else None) ≡ Some t → u ≡ t
chosen true u t e = some_is e
chosen false u t e = absurd (none_some e)

-- a static method that is called
record StaticCall (program : Program) (method : Source.Method) (t : ValueType) : Type 0 where
  no_args : method.takes_args ≡ false
  sig : static_of program method ≡ Some (signature_of program method)
  result : meant program method.result ≡ t

static_call : (program : Program) (method : Source.Method) (t : ValueType) → method.is_static ≡ true →
    option_map (λ s. s.result) (static_of program method) ≡ Some t → StaticCall program method t
static_call program method t s e = go method.is_static method.takes_args refl refl s e
  where
    sig : Option Signature
    sig = Some (signature_of program method)

    go : (b a : Bool) → method.is_static ≡ b → method.takes_args ≡ a → b ≡ true →
        option_map (λ s. s.result) (if b then (if a then None else sig) else None) ≡ Some t → StaticCall program method t
    go true true i j s e = absurd (none_some e)
    go true false i j s e = record {
      no_args = j;
      sig = ap (λ b. if b then (if method.takes_args then None else sig) else None) i ∙ ap (λ a. if a then None else sig) j;
      result = some_is e;
    }
    go false a i j s e = absurd (true≢false (sym s))

-- a helper that is called: it isn't static, nor of the protocol
record HelperCall (scope : Scope) (method : Source.Method) (t : ValueType) : Type 0 where
  instance : scope.method.is_static ≡ false
  sig : own_instance scope method ≡ Some (signature_of scope.program method)
  result : meant scope.program method.result ≡ t

helper_call : (scope : Scope) (method : Source.Method) (t : ValueType) → method.is_static ≡ false →
    is_of_protocol scope.program scope.class method.name ≡ false →
    option_map (λ s. s.result) (own_instance scope method) ≡ Some t → HelperCall scope method t
helper_call scope method t s p e =
    let out : own_instance scope method ≡ (if scope.method.is_static then None else sig) =
    ap (λ b. if b then None else if is_of_protocol scope.program scope.class method.name then sig
    else if scope.method.is_static then None else sig) s
    ∙ ap (λ b. if b then sig else if scope.method.is_static then None else sig) p in
    go scope.method.is_static refl out (sym (ap (option_map (λ s. s.result)) out) ∙ e)
  where
    sig : Option Signature
    sig = Some (signature_of scope.program method)

    go : (b : Bool) → scope.method.is_static ≡ b → own_instance scope method ≡ (if scope.method.is_static then None else sig) →
        option_map (λ s. s.result) (if scope.method.is_static then None else sig) ≡ Some t → HelperCall scope method t
    go true i out e =
        absurd (none_some (sym (ap (λ b. option_map (λ (s : Signature). s.result) (if b then None else sig)) i) ∙ e))
    go false i out e = record {
      instance = i;
      sig = out ∙ ap (λ b. if b then None else sig) i;
      result = some_is (sym (ap (λ b. option_map (λ (s : Signature). s.result) (if b then None else sig)) i) ∙ e);
    }

-- a method of the protocol that is called on an object
record ProtocolCall (program : Program) (class : Source.Class) (f : Name) (method : Source.Method) (t : ValueType) : Type 0 where
  of_protocol : is_of_protocol program class f ≡ true
  sig : protocol_method program class f ≡ Some (signature_of program method)
  result : meant program method.result ≡ t

protocol_call : (program : Program) (class : Source.Class) (f : Name) (method : Source.Method) (t : ValueType) →
    method_named class f ≡ Some method →
    method.is_static ≡ false → option_map (λ s. s.result) (protocol_method program class f) ≡ Some t → ProtocolCall program class f method t
protocol_call program class f method t named s e =
    let out : protocol_method program class f ≡ (if is_of_protocol program class f then sig else None) =
    ap (λ (o : Option Source.Method). elim o [
      | None ↦ None
      | Some m ↦ if m.is_static then None else if is_of_protocol program class f then Some (signature_of program m) else None
    ]) named
    ∙ ap (λ b. if b then None else if is_of_protocol program class f then sig else None) s in
    go (is_of_protocol program class f) refl out (sym (ap (option_map (λ s. s.result)) out) ∙ e)
  where
    sig : Option Signature
    sig = Some (signature_of program method)

    go : (b : Bool) → is_of_protocol program class f ≡ b →
        protocol_method program class f ≡ (if is_of_protocol program class f then sig else None) →
        option_map (λ s. s.result) (if is_of_protocol program class f then sig else None) ≡ Some t → ProtocolCall program class f method t
    go true i out e = record {
      of_protocol = i;
      sig = out ∙ ap (λ b. if b then sig else None) i;
      result = some_is (sym (ap (λ b. option_map (λ (s : Signature). s.result) (if b then sig else None)) i) ∙ e);
    }
    go false i out e =
        absurd (none_some (sym (ap (λ b. option_map (λ (s : Signature). s.result) (if b then sig else None)) i) ∙ e))

-- The methods of `Session`.

record SessionIs (program : Program) (core : Core.Program) (f : Name) (call : SessionCall) : Type 0 where
  sig : Signature
  is : built_in session_methods f ≡ Some sig
  params : Aligned (Meets program core) sig.params (session_params call)
  result : Meets program core sig.result (session_result call)
  known : IsKnown sig.result

abbrev signature : List ValueType → ValueType → Signature
signature params result = record { params = params; result = result }

-- a plain type is the same type in sources and cores
plain_meets : (program : Program) (core : Core.Program) (t : PlainType) → Meets program core (plain_type t) (core_plain t)
plain_meets program core plain.Void = meets.no_value
plain_meets program core plain.Int = meets.int
plain_meets program core plain.Boolean = meets.boolean
plain_meets program core plain.Text = meets.text

plain_known : (t : PlainType) → IsKnown (plain_type t)
plain_known plain.Void = tt
plain_known plain.Int = tt
plain_known plain.Boolean = tt
plain_known plain.Text = tt

params_meet : (program : Program) (core : Core.Program) (ts : List PlainType) →
    Aligned (Meets program core) (map plain_type ts) (map core_plain ts)
params_meet program core [] = is.none
params_meet program core (t ∷ ts) = is.more (plain_meets program core t) (params_meet program core ts)

session_is : (program : Program) (core : Core.Program) (f : Name) (call : SessionCall) → IsSession f call → SessionIs program core f call
session_is program core f call named = record {
  sig = plain_signature (session_method call);
  is = subst (λ f. built_in session_methods f ≡ Some (plain_signature (session_method call))) (sym named) (session_typed call);
  params = params_meet program core (session_method call).params;
  result = plain_meets program core (session_method call).result;
  known = plain_known (session_method call).result;
}

module _ (core : Core.Program) (m : Core.Method) (scope : Scope) (ns : Numbers) (res : Resolves scope.program core)
    (apart : AreDistinct (type_names core)) (runs : Runs core m scope.program scope.class scope.method)
    (locals : AreLocals scope.program core m scope.locals ns.slots) where
  abbrev H : Core.Expr → CoreType → Type 0
  H = Has core m ns.slots

  abbrev T : ValueType → Core.Expr → Type 0
  T = Typed scope.program core res apart m ns.slots

  -- the classes of `new` are usable
  abbrev pub AreMade : Source.Expr → Type 0
  AreMade e = Clean (UnknownClass scope.program) (mentions_in e)

  abbrev pub AreAllMade : Source.Exprs → Type 0
  AreAllMade es = Clean (UnknownClass scope.program) (mentions_in_args es)

  is_known : (t : ValueType) (u : CoreType) (e : Core.Expr) → Meets scope.program core t u → IsKnown t → H e u → T t e
  is_known = known scope.program core res apart m ns.slots

  at_type : {t u : ValueType} {e : Core.Expr} → T t e → Some t ≡ Some u → T u e
  at_type {e = e} h g = subst (λ t. T t e) (some_is g) h

  takes : (e : Source.Expr) (e' : Core.Expr) (t : ValueType) (u : CoreType) (more : List Taken) →
      ((g : ValueType) → type_of scope e ≡ Some g → T g e') → Clean TypeMismatch (all_taken scope (taken e (Fitting t) ∷ more)) →
      Meets scope.program core t u → H e' u
  takes e e' t u more = fits scope.program core res apart m ns.slots scope e e' t u (all_taken scope more)

  typed_null : (p : Place) (u : CoreType) → Meets scope.program core NullType u → H (Core.Null p) u
  typed_null p _ meets.null = has.null

  -- `E.A`
  typed_constant : (p q : Place) (e a : Name) (k : Source.Enum) (n i : ℕ) → variable_type scope e ≡ None →
      is.IsEnum scope.program core e n k →
      constant_position k a ≡ Some i → (t : ValueType) → type_of scope (Source.Member p (Source.Variable q e) a) ≡ Some t →
      T t (Core.Constant p n i)
  typed_constant p q e a k n i none en at t g =
      let met = aligned_at res.enums n k en.at in
      let in_range : i < length met.item.constants =
      subst (λ c. i < c) (constants_same k.constants met.item.constants met.is.constants) (position_in (bytes_eq a) k.constants i at) in
      subst (λ t. T t (Core.Constant p n i)) (chosen (list_any (bytes_eq a) k.constants) (EnumType e) t (
      sym (
      ap (λ (o : Option ValueType). elim o [ None ↦ constant_type scope.program e a | Some t ↦ None ]) none
      ∙ ap (λ (o : Option Source.Enum). elim o [
        | None ↦ None
        | Some k ↦ if list_any (bytes_eq a) k.constants then Some (EnumType e) else
            None
      ]) en.named
      ) ∙ g))
      (is_known (EnumType e) (types.Enum n) (Core.Constant p n i) (meets.enum en) tt (has.constant met.at in_range))

  -- `new C()`
  typestate_is : (s : Option Name) (k : Option ℕ) → is.IsProtocol scope.program core s k → ((s ≢ None → ⊥) → ⊥) → (t : ℕ) × (k ≡ Some t)
  typestate_is _ _ is.no_protocol n = absurd (n (λ q. q refl))
  typestate_is _ _ (is.protocol_named {t = t} at named) n = (t, refl)

  typed_new : (p : Place) (c : Name) (k : ℕ) → IsClass scope.program core c k → AreMade (Source.New p c) → T (ClassType c) (Core.New p k)
  typed_new p c k i made =
      let met = aligned_at res.classes k i.class i.at in
      let s = typestate_is i.class.typestate met.item.typestate met.is.typestate
      (λ n. made.0 (culprit p c) (refl, subst (λ o. IsUsableClass o → ⊥) (sym i.named) n)) in
      is_known (ClassType c) (types.Object k) (Core.New p k) (meets.class i) tt
      (has.new (record { class = met.item; at = met.at; typestate = s.0; is = s.1 }))

  -- the value of a call
  abbrev Calls : (class f : Name) (n : ℕ) (method : Source.Method) → Source.Class → Type 0
  Calls = Callee scope.program core

  returned : (class f : Name) (n : ℕ) (method : Source.Method) (owner : Source.Class) (c : Calls class f n method owner) (t : ValueType)
      (e : Core.Expr) →
      meant scope.program method.result ≡ t → H e c.method_is.result → T t e
  returned class f n method owner c t e same h =
      subst (λ t. T t e) same
      (is_known (meant scope.program method.result) c.method_is.result e c.result (meant_known scope.program method.result) h)

  -- the arguments of a call, each of which is what its parameter takes
  record Given (args : Source.Exprs) (args' : Core.Exprs) : Type 0 where
    all : (ps : List ValueType) (us : List CoreType) → Aligned (Meets scope.program core) ps us → count_of args ≡ length ps →
        Clean TypeMismatch (all_taken scope (paired args ps)) → HasAll core m ns.slots args' us

  all_given : (p : Place) (o : Option Signature) (args : Source.Exprs) (args' : Core.Exprs) (s : Signature) (us : List CoreType) →
      Given args args' →
      o ≡ Some s → ((c : Culprit) → (c ≡ culprit p []) × (s : Signature) × (o ≡ Some s) × (count_of args ≢ length s.params) → ⊥) →
      Clean TypeMismatch (all_taken scope (arguments o args)) → Aligned (Meets scope.program core) s.params us →
      HasAll core m ns.slots args' us
  all_given p o args args' s us given e arity clean meet =
      given.all s.params us meet (counted p o args s arity e) (subst (λ o. Clean TypeMismatch (all_taken scope (arguments o args))) e clean)

  -- a static method
  static_has : (p : Place) (class f : Name) (n : ℕ) (method : Source.Method) (owner : Source.Class) (c : Calls class f n method owner)
      (args' : Core.Exprs) →
      method.is_static ≡ true → method.takes_args ≡ false → HasAll core m ns.slots args' (param_types c.method_is) →
      H (Core.Static p n args') c.method_is.result
  static_has p class f n method owner c args' s a all =
      has.static (record {
        at = c.at;
        kind_is = c.kind ∙ static_kind method.is_static method.takes_args (is_of_protocol scope.program owner method.name) s a;
      }) all refl

  typed_static : (p : Place) (f : Name) (n : ℕ) (method : Source.Method) (args : Source.Exprs) (args' : Core.Exprs) →
      IsMethod scope.program core scope.class.name f n method → method.is_static ≡ true → Given args args' →
      CleanExpr scope (Source.Call p f args) →
      (t : ValueType) → type_of scope (Source.Call p f args) ≡ Some t → T t (Core.Static p n args')
  typed_static p f n method args args' i st given clean t e =
      let spot = (nodes_right scope (nodes_in args) (Value (Source.Call p f args) ∷ []) clean).0 in
      let c = callee scope.program core res scope.class.name f n method i in
      let out : called scope f ≡ static_of scope.program method =
      ap (λ (o : Option Source.Method). elim o [ None ↦ None | Some m ↦ own_method scope m ]) (own_named core m scope ns runs f n method i)
      ∙ ap (λ b. if b then static_of scope.program method else own_instance scope method) st in
      let s = static_call scope.program method t st (sym (ap (option_map (λ s. s.result)) out) ∙ e) in
      let all = all_given p (called scope f) args args' (signature_of scope.program method) (param_types c.method_is) given
      (out ∙ s.sig) spot.arity spot.types c.params in
      returned scope.class.name f n method i.owner.class c t (Core.Static p n args') s.result
      (static_has p scope.class.name f n method i.owner.class c args' st s.no_args all)

  differs : (b : Bool) → (b ≡ true → ⊥) → b ≡ false
  differs true n = absurd (n refl)
  differs false n = refl

  typed_class_static : (p q : Place) (k f : Name) (n : ℕ) (method : Source.Method) (args : Source.Exprs) (args' : Core.Exprs) →
      variable_type scope k ≡ None → k ≢ codes "Session" → IsMethod scope.program core k f n method → method.is_static ≡ true →
      Given args args' →
      CleanExpr scope (Source.MethodCall p (Source.Variable q k) f args) →
      (t : ValueType) → type_of scope (Source.MethodCall p (Source.Variable q k) f args) ≡ Some t → T t (Core.Static p n args')
  typed_class_static p q k f n method args args' none other i st given clean t e =
      let spot = call_clean scope p f args (Source.Variable q k) clean in
      let c = callee scope.program core res k f n method i in
      let by_name : Option Signature = elim (class_named scope.program.files k) [
        | None ↦ None
        | Some c ↦ elim (method_named c f) [ None ↦ None | Some m ↦ static_of scope.program m ]
      ] in
      let out : called_on scope (Source.Variable q k) (type_of scope (Source.Variable q k)) f ≡ static_of scope.program method =
      ap (λ o. called_on scope (Source.Variable q k) o f) none
      ∙ ap (λ b. if b then built_in session_methods f else by_name)
      (differs (bytes_eq k (codes "Session")) (λ h. other ((bytes_eq-Decides k (codes "Session")).0 h)))
      ∙ ap (λ (o : Option Source.Class). elim o [
        | None ↦ None
        | Some c ↦ elim (method_named c f) [ None ↦ None | Some m ↦ static_of scope.program m ]
      ]) i.owner_named
      ∙ ap (λ (o : Option Source.Method). elim o [ None ↦ None | Some m ↦ static_of scope.program m ]) i.named in
      let s = static_call scope.program method t st (sym (ap (option_map (λ s. s.result)) out) ∙ e) in
      let takes_all = taken_behind scope (receiver (type_of scope (Source.Variable q k)) (Source.Variable q k))
      (arguments (called_on scope (Source.Variable q k) (type_of scope (Source.Variable q k)) f) args) spot.types in
      let all = all_given p (called_on scope (Source.Variable q k) (type_of scope (Source.Variable q k)) f) args args'
      (signature_of scope.program method) (param_types c.method_is) given (out ∙ s.sig) spot.arity takes_all c.params in
      returned k f n method i.owner.class c t (Core.Static p n args') s.result (static_has p k f n method i.owner.class c args' st s.no_args
      all)

  typed_session : (p q : Place) (f : Name) (call : SessionCall) (args : Source.Exprs) (args' : Core.Exprs) →
      variable_type scope (codes "Session") ≡ None → IsSession f call → Given args args' →
      CleanExpr scope (Source.MethodCall p (Source.Variable q (codes "Session")) f args) →
      (t : ValueType) → type_of scope (Source.MethodCall p (Source.Variable q (codes "Session")) f args) ≡ Some t →
      T t (Core.Session p call args')
  typed_session p q f call args args' none i given clean t e =
      let named : Source.Expr = Source.Variable q (codes "Session") in
      let spot = call_clean scope p f args named clean in
      let s = session_is scope.program core f call i in
      let out : called_on scope named (type_of scope named) f ≡ Some s.sig = ap (λ o. called_on scope named o f) none ∙ s.is in
      let takes_all = taken_behind scope (receiver (type_of scope named) named)
      (arguments (called_on scope named (type_of scope named) f) args) spot.types in
      let all = all_given p (called_on scope named (type_of scope named) f) args args' s.sig (session_params call) given out spot.arity
      takes_all s.params in
      subst (λ t. T t (Core.Session p call args')) (some_is (sym (ap (option_map (λ s. s.result)) out) ∙ e))
      (is_known s.sig.result (session_result call) (Core.Session p call args') s.result s.known (has.session all refl))

  -- a helper
  helped : (p : Place) (f : Name) (n : ℕ) (method : Source.Method) (args : Source.Exprs) (args' : Core.Exprs) →
      IsMethod scope.program core scope.class.name f n method → method.is_static ≡ false → Given args args' →
      is_of_protocol scope.program scope.class f ≡ false → (o : Option Signature) → o ≡ own_instance scope method →
      ((c : Culprit) → (c ≡ culprit p []) × (s : Signature) × (o ≡ Some s) × (count_of args ≢ length s.params) → ⊥) →
      Clean TypeMismatch (all_taken scope (arguments o args)) →
      (t : ValueType) → option_map (λ s. s.result) o ≡ Some t → T t (Core.Helper p n args')
  helped p f n method args args' i st given none o out arity types t e =
      let c = callee scope.program core res scope.class.name f n method i in
      let not_of : is_of_protocol scope.program scope.class method.name ≡ false =
      ap (is_of_protocol scope.program scope.class) (method_name i.owner.class f method i.named) ∙ none in
      let s = helper_call scope method t st not_of (sym (ap (option_map (λ s. s.result)) out) ∙ e) in
      let all = all_given p o args args' (signature_of scope.program method) (param_types c.method_is) given (out ∙ s.sig) arity types
      c.params in
      returned scope.class.name f n method i.owner.class c t (Core.Helper p n args') s.result
      (has.helper (runs_on_object core m scope.program scope.class scope.method runs s.instance)
      (record {
        at = c.at;
        kind_is =
            c.kind ∙ helper_kind method.is_static method.takes_args (is_of_protocol scope.program i.owner.class method.name) st
            (subst (λ k. is_of_protocol scope.program k method.name ≡ false) (sym (own_class core m scope ns runs f n method i)) not_of);
      })
      (one_class scope.program core res apart scope.class.name c.method_is.class m.class c.class_is
      (record { class = scope.class; named = runs.named; at = runs.source_at }))
      all refl)

  own_out : (f : Name) (n : ℕ) (method : Source.Method) → IsMethod scope.program core scope.class.name f n method → method.is_static ≡ false
      →
      called scope f ≡ own_instance scope method
  own_out f n method i st =
      ap (λ (o : Option Source.Method). elim o [ None ↦ None | Some m ↦ own_method scope m ]) (own_named core m scope ns runs f n method i)
      ∙ ap (λ b. if b then static_of scope.program method else own_instance scope method) st

  typed_helper : (p : Place) (f : Name) (n : ℕ) (method : Source.Method) (args : Source.Exprs) (args' : Core.Exprs) →
      IsMethod scope.program core scope.class.name f n method → method.is_static ≡ false → Given args args' →
      CleanExpr scope (Source.Call p f args) →
      (t : ValueType) → type_of scope (Source.Call p f args) ≡ Some t → T t (Core.Helper p n args')
  typed_helper p f n method args args' i st given clean t e =
      let spot = (nodes_right scope (nodes_in args) (Value (Source.Call p f args) ∷ []) clean).0 in
      helped p f n method args args' i st given (no_protocol core m scope ns runs p f spot.no_self_call
      (is_own core m scope ns runs f n method i st))
      (called scope f) (own_out f n method i st) spot.arity spot.types t e

  typed_this_helper : (p q : Place) (f : Name) (n : ℕ) (method : Source.Method) (args : Source.Exprs) (args' : Core.Exprs) →
      IsMethod scope.program core scope.class.name f n method → method.is_static ≡ false → Given args args' →
      CleanExpr scope (Source.MethodCall p (Source.This q) f args) →
      (t : ValueType) → type_of scope (Source.MethodCall p (Source.This q) f args) ≡ Some t → T t (Core.Helper p n args')
  typed_this_helper p q f n method args args' i st given clean t e =
      let spot = call_clean scope p f args (Source.This q) clean in
      helped p f n method args args' i st given (no_protocol core m scope ns runs p f spot.no_self_call
      (is_own core m scope ns runs f n method i st))
      (called_on scope (Source.This q) None f)
      (ap (λ (o : Option Source.Method). elim o [ None ↦ None | Some m ↦ own_instance scope m ])
      (own_named core m scope ns runs f n method i))
      spot.arity spot.types t e

  -- a call on a value
  on_value : (e : Source.Expr) (t : ValueType) (f : Name) → IsNotThis e → called_on scope e (Some t) f ≡ called_on_value scope.program t f
  on_value (Source.This q) t f n = absurd n
  on_value e t f n = refl

  typed_protocol : (p : Place) (e : Source.Expr) (x : CoreVar) (k f : Name) (n : ℕ) (method : Source.Method) (args : Source.Exprs)
      (args' : Core.Exprs) →
      IsVar scope.program core scope ns e x.var → type_of scope e ≡ Some (ClassType k) → IsMethod scope.program core k f n method →
      method.is_static ≡ false → Given args args' → (has.CallsHelperIn args' → rules.CallsHelperIn scope args) →
      CleanExpr scope (Source.MethodCall p e f args) →
      (t : ValueType) → type_of scope (Source.MethodCall p e f args) ≡ Some t → T t (Core.Protocol p x n args')
  typed_protocol p e x k f n method args args' v te i st given back clean t g =
      let spot = call_clean scope p f args e clean in
      let c = callee scope.program core res k f n method i in
      let out : called_on scope e (type_of scope e) f ≡ protocol_method scope.program i.owner.class f =
      ap (λ o. called_on scope e o f) te ∙ on_value e (ClassType k) f (not_this_variable core m scope ns runs v)
      ∙ ap (λ (o : Option Source.Class). elim o [ None ↦ None | Some c ↦ protocol_method scope.program c f ]) i.owner_named in
      let s = protocol_call scope.program i.owner.class f method t i.named st (sym (ap (option_map (λ s. s.result)) out) ∙ g) in
      let takes_all = taken_behind scope (receiver (type_of scope e) e) (arguments (called_on scope e (type_of scope e) f) args) spot.types
      in
      let all = all_given p (called_on scope e (type_of scope e) f) args args' (signature_of scope.program method) (param_types c.method_is)
      given
      (out ∙ s.sig) spot.arity takes_all c.params in
      let w = typed_var core m scope ns runs locals v (ClassType k) te in
      let same = one_type scope.program core res apart w.meets (meets.class c.class_is) tt in
      returned k f n method i.owner.class c t (Core.Protocol p x n args') s.result
      (has.protocol (subst (IsVariable core m ns.slots x.var) same w.is)
      (record {
        at = c.at;
        kind_is =
            c.kind ∙ protocol_kind method.is_static method.takes_args (is_of_protocol scope.program i.owner.class method.name) st
            (ap (is_of_protocol scope.program i.owner.class) (method_name i.owner.class f method i.named) ∙ s.of_protocol);
      })
      all refl
      (λ own h. let o = own_of core m scope ns runs locals v own in spot.no_move (culprit p o.0.name) (o.0, o.1, refl, back h)))

  -- a method of a text
  own_field_of : {e : Source.Expr} {e' : Core.Expr} → IsExpr scope.program core scope ns e e' → IsOwnField e' →
      (f : Source.Field) × (field_of scope e ≡ Some f)
  own_field_of (is.variable v) h = own_of core m scope ns runs locals v h
  own_field_of x h = absurd h

  record OnText (p : Place) (e a : Source.Expr) (f : Name) (e' a' : Core.Expr) : Type 0 where
    receiver_is : H e' types.Text
    argument_is : H a' types.Text
    moves : IsOwnField e' → has.CallsHelper a' → ⊥

  on_text : (p : Place) (e a : Source.Expr) (f : Name) (e' a' : Core.Expr) (result : ValueType) →
      built_in text_methods f ≡ Some (signature (TextType ∷ []) result) →
      type_of scope e ≡ Some TextType → IsExpr scope.program core scope ns e e' → T TextType e' →
      ((g : ValueType) → type_of scope a ≡ Some g → T g a') → (has.CallsHelper a' → rules.CallsHelper scope a) →
      CleanExpr scope (Source.MethodCall p e f (Source.Argument a Source.NoExpr)) → OnText p e a f e' a'
  on_text p e a f e' a' result found te x receives argued back clean =
      let args : Source.Exprs = Source.Argument a Source.NoExpr in
      let spot = call_clean scope p f args e clean in
      let out : called_on scope e (type_of scope e) f ≡ Some (signature (TextType ∷ []) result) =
      ap (λ o. called_on scope e o f) te ∙ on_value e TextType f (not_this core m scope ns runs x) ∙ found in
      let takes_all = subst (λ o. Clean TypeMismatch (all_taken scope (arguments o args))) out
      (taken_behind scope (receiver (type_of scope e) e) (arguments (called_on scope e (type_of scope e) f) args) spot.types) in
      record {
        receiver_is = receives.has types.Text meets.text;
        argument_is = takes a a' TextType types.Text [] argued takes_all meets.text;
        moves = λ own h. let o = own_field_of x own in spot.no_move (culprit p o.0.name) (o.0, o.1, refl, inl (back h));
      }

  text_result : (p : Place) (e a : Source.Expr) (f : Name) (result : ValueType) →
      built_in text_methods f ≡ Some (signature (TextType ∷ []) result) →
      type_of scope e ≡ Some TextType → IsNotThis e → (t : ValueType) →
      type_of scope (Source.MethodCall p e f (Source.Argument a Source.NoExpr)) ≡ Some t → result ≡ t
  text_result p e a f result found te n t g =
      some_is (sym (ap (option_map (λ s. s.result)) (ap (λ o. called_on scope e o f) te ∙ on_value e TextType f n ∙ found)) ∙ g)

  typed_variable : {e : Source.Expr} {x : Var} → IsVar scope.program core scope ns e x → (t : ValueType) → type_of scope e ≡ Some t →
      T t (Core.Variable (place_of e) x)
  typed_variable {e} {x} v t g =
      let w = typed_var core m scope ns runs locals v t g in
      is_known t w.type (Core.Variable (place_of e) x) w.meets w.known (has.variable w.is)

  -- a name is a variable
  typed_name : (e : Source.Expr) (e' : Core.Expr) → IsExpr scope.program core scope ns e e' → IsName e → (t : ValueType) →
      type_of scope e ≡ Some t → T t e'
  typed_name (Source.Variable p x) _ (is.variable v) n t g = typed_variable v t g
  typed_name e _ i n t g = absurd n

  -- a method of a text is called, with one argument
  text_call : (p : Place) (f : Name) (e a : Source.Expr) (e' a' : Core.Expr) (result : ValueType) →
      built_in text_methods f ≡ Some (signature (TextType ∷ []) result) → type_of scope e ≡ Some TextType →
      IsExpr scope.program core scope ns e e' → IsExpr scope.program core scope ns a a' →
      (CleanExpr scope e → AreMade e → (t : ValueType) → type_of scope e ≡ Some t → T t e') →
      (CleanExpr scope a → AreMade a → (t : ValueType) → type_of scope a ≡ Some t → T t a') →
      CleanExpr scope (Source.MethodCall p e f (Source.Argument a Source.NoExpr)) →
      AreMade (Source.MethodCall p e f (Source.Argument a Source.NoExpr)) →
      OnText p e a f e' a'
  text_call p f e a e' a' result found te x y receives argued clean made =
      let args : Source.Exprs = Source.Argument a Source.NoExpr in
      let inner = first_arg scope a Source.NoExpr (arguments_clean scope p f args e clean) in
      let made_args = clean_right (UnknownClass scope.program) (mentions_in e) (mentions_in_args args) made in
      let made_a = clean_left (UnknownClass scope.program) (mentions_in a) [] made_args in
      let received = ⊎_elim (λ n. typed_name e e' x n TextType te)
      (λ c. receives c (clean_left (UnknownClass scope.program) (mentions_in e) (mentions_in_args args) made) TextType te)
      (receiver_clean scope p f args e (not_this core m scope ns runs x) clean) in
      on_text p e a f e' a' result found te x received (λ t g. argued inner made_a t g) (λ h. calls_back core m scope ns runs y inner h)
      clean

  mutual
    -- A resolved expression is well typed, with the type of its source.
    pub typed : {e : Source.Expr} {e' : Core.Expr} → IsExpr scope.program core scope ns e e' → CleanExpr scope e → AreMade e →
        (t : ValueType) → type_of scope e ≡ Some t → T t e'
    typed (is.int {p = p} {z = z}) clean made t g = at_type (is_known IntType types.Int (Core.Int p z) meets.int tt has.int) g
    typed (is.truth {p = p} {b = b}) clean made t g =
        at_type (is_known BooleanType types.Boolean (Core.Truth p b) meets.boolean tt has.truth) g
    typed (is.text {p = p} {t = s}) clean made t g = at_type (is_known TextType types.Text (Core.Text p s) meets.text tt has.text) g
    typed (is.null {p = p}) clean made t g = at_type (record { type = types.Object 0; meets = meets.null; has = typed_null p }) g
    typed (is.variable v) clean made t g = typed_variable v t g
    typed (is.constant {p = p} {q = q} {e = e} {a = a} {k = k} {n = n} {i = i} none en at) clean made t g =
        typed_constant p q e a k n i none en at t g
    typed (is.negative {p = p} {e = a} {e' = a'} x) clean made t g =
        let spot = (nodes_right scope (nodes a) (Value (Source.Neg p a) ∷ []) clean).0 in
        let inner = nodes_left scope (nodes a) (Value (Source.Neg p a) ∷ []) clean in
        at_type (is_known IntType types.Int (Core.Neg p a') meets.int tt
        (has.negative (takes a a' IntType types.Int [] (λ t g. typed x inner made t g) spot.types meets.int))) g
    typed (is.opposite {p = p} {e = a} {e' = a'} x) clean made t g =
        let spot = (nodes_right scope (nodes a) (Value (Source.Not p a) ∷ []) clean).0 in
        let inner = nodes_left scope (nodes a) (Value (Source.Not p a) ∷ []) clean in
        at_type (is_known BooleanType types.Boolean (Core.Not p a') meets.boolean tt
        (has.opposite (takes a a' BooleanType types.Boolean [] (λ t g. typed x inner made t g) spot.types meets.boolean))) g
    typed (is.binary {p = p} {o = o} {l = l} {r = r} {l' = l'} {r' = r'} x y) clean made t g =
        at_type (operated core m scope ns res apart runs locals p l r l' r' x y
        (λ t g. typed x (left_operand scope p o l r clean) (clean_left (UnknownClass scope.program) (mentions_in l) (mentions_in r) made) t
        g)
        (λ t g. typed y (right_operand scope p o l r clean) (clean_right (UnknownClass scope.program) (mentions_in l) (mentions_in r) made)
        t g)
        o (operator scope p o l r clean).types) g
    typed (is.static {p = p} {f = f} {m = n} {method = method} {args = args} {args' = args'} i s xs) clean made t g =
        typed_static p f n method args args' i s
        (record { all = all_typed xs (nodes_left scope (nodes_in args) (Value (Source.Call p f args) ∷ []) clean) made }) clean t g
    typed (is.class_static {p = p} {q = q} {c = k} {f = f} {m = n} {method = method} {args = args} {args' = args'} none other i s xs) clean
        made t g =
        typed_class_static p q k f n method args args' none other i s
        (record { all = all_typed xs (arguments_clean scope p f args (Source.Variable q k) clean) made }) clean t g
    typed (is.session {p = p} {q = q} {f = f} {call = call} {args = args} {args' = args'} none i xs) clean made t g =
        typed_session p q f call args args' none i
        (record { all = all_typed xs (arguments_clean scope p f args (Source.Variable q (codes "Session")) clean) made }) clean t g
    typed (is.helper {p = p} {f = f} {m = n} {method = method} {args = args} {args' = args'} i s xs) clean made t g =
        typed_helper p f n method args args' i s
        (record { all = all_typed xs (nodes_left scope (nodes_in args) (Value (Source.Call p f args) ∷ []) clean) made }) clean t g
    typed (is.this_helper {p = p} {q = q} {f = f} {m = n} {method = method} {args = args} {args' = args'} i s xs) clean made t g =
        typed_this_helper p q f n method args args' i s
        (record { all = all_typed xs (arguments_clean scope p f args (Source.This q) clean) made }) clean t g
    typed (is.protocol {p = p} {e = e} {x = x} {c = k} {f = f} {m = n} {method = method} {args = args} {args' = args'} v te i s xs) clean
        made t g =
        let inner = arguments_clean scope p f args e clean in
        typed_protocol p e x k f n method args args' v.is te i s
        (record { all = all_typed xs inner (clean_right (UnknownClass scope.program) (mentions_in e) (mentions_in_args args) made) })
        (λ h. calls_back_in core m scope ns runs xs inner h) clean t g
    typed (is.equals {p = p} {e = e} {a = a} {e' = e'} {a' = a'} te x y) clean made t g =
        let h = text_call p (text_method texts.Equals).name e a e' a' BooleanType refl te x y (λ c k t g. typed x c k t g)
        (λ c k t g. typed y c k t g)
        clean made in
        subst (λ t. T t (Core.Equals p e' a'))
        (text_result p e a (text_method texts.Equals).name BooleanType refl te (not_this core m scope ns runs x) t g)
        (is_known BooleanType types.Boolean (Core.Equals p e' a') meets.boolean tt (has.equals h.receiver_is h.argument_is h.moves))
    typed (is.concat {p = p} {e = e} {a = a} {e' = e'} {a' = a'} te x y) clean made t g =
        let h = text_call p (text_method texts.Concat).name e a e' a' TextType refl te x y (λ c k t g. typed x c k t g)
        (λ c k t g. typed y c k t g) clean
        made in
        subst (λ t. T t (Core.Concat p e' a'))
        (text_result p e a (text_method texts.Concat).name TextType refl te (not_this core m scope ns runs x) t g)
        (is_known TextType types.Text (Core.Concat p e' a') meets.text tt (has.concat h.receiver_is h.argument_is h.moves))
    typed (is.new {p = p} {c = c} {k = k} i) clean made t g = at_type (typed_new p c k i made) g

    all_typed : {es : Source.Exprs} {es' : Core.Exprs} → IsExprs scope.program core scope ns es es' → CleanArgs scope es → AreAllMade es →
        (ps : List ValueType) (us : List CoreType) → Aligned (Meets scope.program core) ps us → count_of es ≡ length ps →
        Clean TypeMismatch (all_taken scope (paired es ps)) → HasAll core m ns.slots es' us
    all_typed is.no_args clean made _ _ is.none e tk = has.no_args
    all_typed is.no_args clean made _ _ (is.more w ws) e tk = absurd (omega (arith, e))
    all_typed (is.arg x xs) clean made _ _ is.none e tk = absurd (omega (arith, e))
    all_typed (is.arg {e = a} {e' = a'} {rest = more} {rest' = more'} x xs) clean made _ _
        (is.more {a = p} {b = u} {as' = ps} {bs = us} w ws) e tk =
        has.arg
        (takes a a' p u (paired more ps)
        (λ t g. typed x (first_arg scope a more clean) (clean_left (UnknownClass scope.program) (mentions_in a) (mentions_in_args more)
        made) t g) tk w)
        (all_typed xs (other_args scope a more clean) (clean_right (UnknownClass scope.program) (mentions_in a) (mentions_in_args more)
        made) ps us ws
        (omega (arith, e)) tk.1)

  -- What a statement needs of a clean expression.

  -- a value that is taken
  pub fitted : {e : Source.Expr} {e' : Core.Expr} → IsExpr scope.program core scope ns e e' → CleanExpr scope e → AreMade e →
      (t : ValueType) (u : CoreType) →
      Clean TypeMismatch (all_taken scope (taken e (Fitting t) ∷ [])) → Meets scope.program core t u → H e' u
  fitted {e} {e'} x clean made t u tk meet = takes e e' t u [] (λ t g. typed x clean made t g) tk meet

  -- a value that is printed
  pub shown : {e : Source.Expr} {e' : Core.Expr} → IsExpr scope.program core scope ns e e' → CleanExpr scope e → AreMade e →
      Clean TypeMismatch (all_taken scope (taken e Writable ∷ [])) → (u : CoreType) × IsShown u × H e' u
  shown {e} {e'} x clean made tk =
      let s = shows scope.program core res apart m ns.slots scope e e' [] (λ t g. typed x clean made t g) tk in
      (s.type, s.shown, s.has)

  -- a constant of an enum
  pub enumerated : {e : Source.Expr} {e' : Core.Expr} → IsExpr scope.program core scope ns e e' → CleanExpr scope e → AreMade e →
      Clean TypeMismatch (all_taken scope (taken e AnyEnum ∷ [])) → (n : ℕ) × H e' (types.Enum n)
  enumerated {e} {e'} x clean made tk =
      let s = suited scope e AnyEnum [] tk in
      go s.type s.suits (typed x clean made s.type s.is)
    where
      of_type : (name : Name) (u : CoreType) → Meets scope.program core (EnumType name) u → H e' u → (n : ℕ) × H e' (types.Enum n)
      of_type name _ (meets.enum {e = n} i) h = (n, h)

      go : (g : ValueType) → IsEnum g → T g e' → (n : ℕ) × H e' (types.Enum n)
      go NoValue w t = absurd w
      go IntType w t = absurd w
      go BooleanType w t = absurd w
      go TextType w t = absurd w
      go (EnumType name) w t = of_type name t.type t.meets (t.has t.type t.meets)
      go (ClassType name) w t = absurd w
      go NullType w t = absurd w

  -- Each clean expression that stands for one has a type.

  some_result : (o : Option Signature) → (o ≡ None → ⊥) → (t : ValueType) × (option_map (λ s. s.result) o ≡ Some t)
  some_result None n = absurd (n refl)
  some_result (Some s) n = (s.result, refl)

  some_type : (o : Option ValueType) → (o ≡ None → ⊥) → (t : ValueType) × (o ≡ Some t)
  some_type None n = absurd (n refl)
  some_type (Some t) n = (t, refl)

  variable_has_type : {e : Source.Expr} {x : Var} → IsVar scope.program core scope ns e x → CleanExpr scope e →
      (t : ValueType) × (type_of scope e ≡ Some t)
  variable_has_type (is.a_local {p = p} {x = x} s) clean =
      some_type (variable_type scope x) (λ n. clean.0.known_name (culprit p x) (refl, n))
  variable_has_type (is.a_field {p = p} {x = x} none own) clean =
      some_type (variable_type scope x) (λ n. clean.0.known_name (culprit p x) (refl, n))
  variable_has_type (is.own {p = p} {q = q} {x = x} own) clean =
      some_type (type_of scope (Source.Member p (Source.This q) x)) (λ n. clean.0.known_name (culprit p x) (refl, n))

  call_has_type : (p : Place) (e : Source.Expr) (f : Name) (args : Source.Exprs) → CleanExpr scope (Source.MethodCall p e f args) →
      (t : ValueType) × (type_of scope (Source.MethodCall p e f args) ≡ Some t)
  call_has_type p e f args clean =
      some_result (called_on scope e (type_of scope e) f) (λ n. (call_clean scope p f args e clean).known_name (culprit p f) (refl, n))

  own_call_has_type : (p : Place) (f : Name) (args : Source.Exprs) → CleanExpr scope (Source.Call p f args) →
      (t : ValueType) × (type_of scope (Source.Call p f args) ≡ Some t)
  own_call_has_type p f args clean =
      some_result (called scope f)
      (λ n. (nodes_right scope (nodes_in args) (Value (Source.Call p f args) ∷ []) clean).0.known_name (culprit p f) (refl, n))

  has_type : {e : Source.Expr} {e' : Core.Expr} → IsExpr scope.program core scope ns e e' → CleanExpr scope e →
      (t : ValueType) × (type_of scope e ≡ Some t)
  has_type is.int clean = (IntType, refl)
  has_type is.truth clean = (BooleanType, refl)
  has_type is.text clean = (TextType, refl)
  has_type is.null clean = (NullType, refl)
  has_type (is.variable v) clean = variable_has_type v clean
  has_type (is.constant {p = p} {q = q} {e = e} {a = a} none en at) clean =
      some_type (type_of scope (Source.Member p (Source.Variable q e) a)) (λ n. clean.1.0.known_name (culprit p a) (refl, n))
  has_type (is.negative x) clean = (IntType, refl)
  has_type (is.opposite x) clean = (BooleanType, refl)
  has_type (is.binary {o = o} {l = l} {r = r} x y) clean = (operator_type o (type_of scope l) (type_of scope r), refl)
  has_type (is.static {p = p} {f = f} {args = args} i s xs) clean = own_call_has_type p f args clean
  has_type (is.class_static {p = p} {q = q} {c = k} {f = f} {args = args} none other i s xs) clean = call_has_type p (Source.Variable q k) f
      args clean
  has_type (is.session {p = p} {q = q} {f = f} {args = args} none i xs) clean = call_has_type p (Source.Variable q (codes "Session")) f args
      clean
  has_type (is.helper {p = p} {f = f} {args = args} i s xs) clean = own_call_has_type p f args clean
  has_type (is.this_helper {p = p} {q = q} {f = f} {args = args} i s xs) clean = call_has_type p (Source.This q) f args clean
  has_type (is.protocol {p = p} {e = e} {f = f} {args = args} v te i s xs) clean = call_has_type p e f args clean
  has_type (is.equals {p = p} {e = e} {a = a} te x y) clean =
      call_has_type p e (text_method texts.Equals).name (Source.Argument a Source.NoExpr) clean
  has_type (is.concat {p = p} {e = e} {a = a} te x y) clean =
      call_has_type p e (text_method texts.Concat).name (Source.Argument a Source.NoExpr) clean
  has_type (is.new {c = c} i) clean = (ClassType c, refl)

  -- any expression
  pub evaluated : {e : Source.Expr} {e' : Core.Expr} → IsExpr scope.program core scope ns e e' → CleanExpr scope e → AreMade e →
      (u : CoreType) × H e' u
  evaluated {e} {e'} x clean made =
      let t = has_type x clean in
      let w = typed x clean made t.0 t.1 in
      (w.type, w.has w.type w.meets)

  -- a variable that is assigned, with its type
  pub target_typed : {e : Source.Expr} {x : Var} → IsVar scope.program core scope ns e x → CleanExpr scope e →
      (t : ValueType) × (u : CoreType) × (type_of scope e ≡ Some t) × Meets scope.program core t u × IsVariable core m ns.slots x u
  target_typed v clean =
      let t = variable_has_type v clean in
      let w = typed_var core m scope ns runs locals v t.0 t.1 in
      (t.0, w.type, t.1, w.meets, w.is)
