-- What calls name: methods of a class, of the session and of texts, with the types that they give.
use Rattle.std.proofs.Common.{◌≡◌, ◌⊎◌, inl, inr, Bool, true, false, Option, Some, None, option_map, refl, sym, ap, ◌∙◌}
use Rattle.std.proofs.Common.{subst}
use Rattle.std.specs.Prelude.{codes, if◌then◌else◌}
use Rattle.std.specs.Str.{bytes_eq}
use Rattle.mg_text.specs.Call.{Name}
use Rattle.jv_tree.specs.declared.built_in.PlainType.{PlainType}
use Rattle.jv_tree.specs.declared.built_in.PlainType.TheVariants as plain
use Rattle.jv_tree.specs.BuiltIn.{session_method, session_named}
use Rattle.jv_tree.proofs.BuiltInLaws.{named_so}
use Rattle.jv_core.specs.Types.{plain_type as core_plain}
use Rattle.jv_tree.specs.Source
use Rattle.jv_meaning.specs.Program.{class_named, method_named}
use Rattle.jv_rules.specs.Program.{Program, is_of_protocol}
use Rattle.jv_rules.specs.Types.{ValueType, ClassType, Signature, signature_of, meant}
use Rattle.jv_rules.specs.Scope.{Scope}
use Rattle.jv_rules.specs.Typing.{called, called_on_this, called_on_class, called_on_value, static_of, own_instance, own_method}
use Rattle.jv_rules.specs.Typing.{protocol_method, built_in, session_methods, plain_type, plain_signature}
use Rattle.jv_rules.proofs.BuiltInTypes.{session_typed}
use Rattle.jv_tree.specs.declared.built_in.SessionCall.{SessionCall}
use Rattle.jv_core.specs.Types.{session_result}
use Rattle.jv_core.specs.Tree as Core
use Rattle.jv_names.specs.Resolves.{IsSession}
use Rattle.jv_resolve_law.specs.Expressions.{Of}
use Rattle.jv_resolve_law.proofs.Given.{IsGiven, no_value, int_given, boolean_given, text_given}

-- there is no signature, or it is this one
abbrev pub OneOf : Option Signature → Signature → Type 0
OneOf o s = (o ≡ None) ⊎ (o ≡ Some s)

pub the_one : (o : Option Signature) (s : Signature) → OneOf o s → (o ≡ None → ⊥) → o ≡ Some s
the_one o s (inl none) n = absurd (n none)
the_one o s (inr one) n = one

by_one : (a : Bool) (s : Signature) → OneOf (if a then None else Some s) s
by_one true s = inl refl
by_one false s = inr refl

by_static : (a b : Bool) (s : Signature) → OneOf (if a then (if b then None else Some s) else None) s
by_static true b s = by_one b s
by_static false b s = inl refl

by_instance : (a b c : Bool) (s : Signature) → OneOf (if a then None else if b then Some s else if c then None else Some s) s
by_instance true b c s = inl refl
by_instance false true c s = inr refl
by_instance false false c s = by_one c s

by_own : (a b c d : Bool) (s : Signature) →
    OneOf (if a then (if a then (if b then None else Some s) else None) else
    (if a then None else if c then Some s else if d then None else Some s)) s
by_own true b c d s = by_one b s
by_own false b c d s = by_instance false c d s

by_protocol : (a b : Bool) (s : Signature) → OneOf (if a then None else if b then Some s else None) s
by_protocol true b s = inl refl
by_protocol false true s = inr refl
by_protocol false false s = inl refl

pub static_one : (program : Program) (m : Source.Method) → OneOf (static_of program m) (signature_of program m)
static_one program m = by_static m.is_static m.takes_args (signature_of program m)

pub instance_one : (scope : Scope) (m : Source.Method) → OneOf (own_instance scope m) (signature_of scope.program m)
instance_one scope m = by_instance m.is_static (is_of_protocol scope.program scope.class m.name) scope.method.is_static
    (signature_of scope.program m)

pub own_one : (scope : Scope) (m : Source.Method) → OneOf (own_method scope m) (signature_of scope.program m)
own_one scope m = by_own m.is_static m.takes_args (is_of_protocol scope.program scope.class m.name) scope.method.is_static
    (signature_of scope.program m)

same_one : (o p : Option Signature) (s : Signature) → o ≡ p → OneOf p s → OneOf o s
same_one o p s e (inl none) = inl (e ∙ none)
same_one o p s e (inr one) = inr (e ∙ one)

pub protocol_one : (program : Program) (class : Source.Class) (f : Name) (m : Source.Method) → method_named class f ≡ Some m →
    OneOf (protocol_method program class f) (signature_of program m)
protocol_one program class f m named =
    same_one (protocol_method program class f) (if m.is_static then None else if is_of_protocol program class f then Some
    (signature_of program m) else None)
    (signature_of program m)
    (ap (λ (o : Option Source.Method). elim o [
      | None ↦ None
      | Some m ↦ if m.is_static then None else if is_of_protocol program class f then Some (signature_of program m) else None
    ]) named)
    (by_protocol m.is_static (is_of_protocol program class f) (signature_of program m))

-- the type that a call gives
abbrev pub result_in : Option Signature → Option ValueType
result_in o = option_map (λ s. s.result) o

pub called_gives : (scope : Scope) (f : Name) (m : Source.Method) → method_named scope.class f ≡ Some m → (called scope f ≡ None → ⊥) →
    result_in (called scope f) ≡ Some (meant scope.program m.result)
called_gives scope f m named n =
    let e = ap (λ (o : Option Source.Method). elim o [ None ↦ None | Some m ↦ own_method scope m ]) named in
    ap result_in (the_one (called scope f) (signature_of scope.program m)
    (same_one (called scope f) (own_method scope m) (signature_of scope.program m) e (own_one scope m)) n)

pub called_on_this_gives : (scope : Scope) (f : Name) (m : Source.Method) → method_named scope.class f ≡ Some m →
    (called_on_this scope f ≡ None → ⊥) →
    result_in (called_on_this scope f) ≡ Some (meant scope.program m.result)
called_on_this_gives scope f m named n =
    let e = ap (λ (o : Option Source.Method). elim o [ None ↦ None | Some m ↦ own_instance scope m ]) named in
    ap result_in (the_one (called_on_this scope f) (signature_of scope.program m)
    (same_one (called_on_this scope f) (own_instance scope m) (signature_of scope.program m) e (instance_one scope m)) n)

-- `C.f(..)`, where C isn't the session
pub called_on_class_gives : (program : Program) (class f : Name) (c : Source.Class) (m : Source.Method) →
    bytes_eq class (codes "Session") ≡ false →
    class_named program.files class ≡ Some c → method_named c f ≡ Some m → (called_on_class program class f ≡ None → ⊥) →
    result_in (called_on_class program class f) ≡ Some (meant program m.result)
called_on_class_gives program class f c m other owner named n =
    let e : called_on_class program class f ≡ static_of program m =
    ap (λ b. if b then built_in session_methods f else elim (class_named program.files class) [
      | None ↦ None
      | Some c ↦ elim (method_named c f) [ None ↦ None | Some m ↦ static_of program m ]
    ]) other
    ∙ ap (λ (o : Option Source.Class). elim o [
      | None ↦ None
      | Some c ↦ elim (method_named c f)
          [ None ↦ None | Some m ↦ static_of program m ]
    ]) owner
    ∙ ap (λ (o : Option Source.Method). elim o [ None ↦ None | Some m ↦ static_of program m ]) named in
    ap result_in (the_one (called_on_class program class f) (signature_of program m)
    (same_one (called_on_class program class f) (static_of program m) (signature_of program m) e (static_one program m)) n)

-- `x.f(..)`, where x is of a class
pub called_on_object_gives : (program : Program) (class f : Name) (c : Source.Class) (m : Source.Method) →
    class_named program.files class ≡ Some c → method_named c f ≡ Some m → (called_on_value program (ClassType class) f ≡ None → ⊥) →
    result_in (called_on_value program (ClassType class) f) ≡ Some (meant program m.result)
called_on_object_gives program class f c m owner named n =
    let e = ap (λ (o : Option Source.Class). elim o [ None ↦ None | Some c ↦ protocol_method program c f ]) owner in
    ap result_in (the_one (called_on_value program (ClassType class) f) (signature_of program m)
    (same_one (called_on_value program (ClassType class) f) (protocol_method program c f) (signature_of program m) e
    (protocol_one program c f m named)) n)

-- The methods of the session.

pub session_is : (f : Name) (c : SessionCall) → session_named f ≡ Some c → IsSession f c
session_is f c e = named_so f c e

plain_given : (program : Program) (core : Core.Program) (t : PlainType) → IsGiven program core (plain_type t) (Of (core_plain t))
plain_given program core plain.Void = no_value
plain_given program core plain.Int = int_given
plain_given program core plain.Boolean = boolean_given
plain_given program core plain.Text = text_given

-- what a method of the session gives
pub record SessionGives (program : Program) (core : Core.Program) (f : Name) (c : SessionCall) : Type 0 where
  pub type : ValueType
  pub is : result_in (built_in session_methods f) ≡ Some type
  pub given : IsGiven program core type (Of (session_result c))

pub session_gives : (program : Program) (core : Core.Program) (f : Name) (c : SessionCall) → IsSession f c → SessionGives program core f c
session_gives program core f c named = record {
  type = plain_type (session_method c).result;
  is = ap result_in (subst (λ f. built_in session_methods f ≡ Some (plain_signature (session_method c))) (sym named) (session_typed c));
  given = plain_given program core (session_method c).result;
}
