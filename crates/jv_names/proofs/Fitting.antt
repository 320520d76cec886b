-- What the type of an expression says of what is resolved of it, and values that fit where they are taken.
use Rattle.std.proofs.Common.{◌≡◌, ◌≢◌, ℕ, List, [], ◌∷◌, length, Option, Some, None, Bool, true, false, ◌==◌, Decides, refl, sym, ap}
use Rattle.std.proofs.Common.{subst, ◌∙◌, true≢false}
use Rattle.std.proofs.lemmas.Bool.Decides.{Decides-eqb}
use Rattle.mg_text.specs.Call.{Name}
use Rattle.mg_text.specs.declared.place.Place.{Place}
use Rattle.mg_read.specs.Culprit.{Culprit, culprit}
use Rattle.mg_read.specs.First.{Clean}
use Rattle.ts_tree.specs.declared.parts.TypeName.{TypeName}
use Rattle.ts_tree.specs.declared.parts.TypeName.TheVariants as written
use Rattle.ts_tree.specs.Proper.{AreDistinct}
use Rattle.jv_tree.specs.Source
use Rattle.jv_tree.specs.Source.{place_of}
use Rattle.jv_meaning.specs.Program.{class_named}
use Rattle.jv_rules.specs.Program.{Program}
use Rattle.jv_rules.specs.Types.{ValueType, NoValue, IntType, BooleanType, TextType, EnumType, ClassType, NullType, Fits, same, meant}
use Rattle.jv_rules.specs.Types.{Signature}
use Rattle.jv_rules.specs.Types as rules
use Rattle.jv_rules.specs.Scope.{Scope}
use Rattle.jv_rules.specs.Typing.{type_of}
use Rattle.jv_rules.specs.Taking.{Wanted, Fitting, Writable, Taking, Takes, taken, Suits, IsWritable, count_of}
use Rattle.jv_rules.specs.Conditions.{TypeMismatch}
use Rattle.jv_rules.specs.inner.Deciding.{suits}
use Rattle.jv_rules.proofs.Deciding.{suits-Decides}
use Rattle.jv_core.specs.declared.program.CoreType.{CoreType}
use Rattle.jv_core.specs.declared.program.CoreType.TheVariants as types
use Rattle.jv_core.specs.Tree as Core
use Rattle.jv_core.specs.Types.{Has, IsShown}
use Rattle.jv_core.specs.Members.{type_names}
use Rattle.jv_names.specs.Resolves.{Resolves}
use Rattle.jv_names.proofs.Tables.{some_is, none_some}
use Rattle.jv_names.proofs.OneNumber.{one_class, one_enum}
use Rattle.jv_names.proofs.TypesMeet.{Meets, no_value, int, boolean, text, class, enum, null}

-- a type but that of `null`
abbrev pub IsKnown : ValueType → Type 0
IsKnown NullType = ⊥
IsKnown _ = Unit {0}

class_or_enum_known : (name : Name) (o : Option Source.Class) → IsKnown (elim o [ None ↦ EnumType name | Some c ↦ ClassType name ])
class_or_enum_known name None = tt
class_or_enum_known name (Some c) = tt

pub meant_known : (program : Program) (ty : TypeName) → IsKnown (meant program ty)
meant_known program written.Void = tt
meant_known program written.Int = tt
meant_known program written.Boolean = tt
meant_known program written.Text = tt
meant_known program (written.Named name) = class_or_enum_known name (class_named program.files name)

-- Values that are taken, by the conditions on types.

-- an expression has a type, and it is what is wanted
pub record Suited (scope : Scope) (e : Source.Expr) (wanted : Wanted) : Type 0 where
  pub type : ValueType
  pub is : type_of scope e ≡ Some type
  pub suits : Suits wanted e type

pub suited : (scope : Scope) (e : Source.Expr) (wanted : Wanted) (more : List Taking) →
    Clean TypeMismatch (Takes scope (taken e wanted) ∷ more) → Suited scope e wanted
suited scope e wanted more clean = go (type_of scope e) refl
  where
    wrong : ((type : ValueType) → type_of scope e ≡ Some type → Suits wanted e type → ⊥) → ⊥
    wrong n = clean.0 (culprit (place_of e) []) (refl, n)

    fitting : (g : ValueType) → type_of scope e ≡ Some g → (b : Bool) → Decides b (Suits wanted e g) → Suited scope e wanted
    fitting g i true d = record { type = g; is = i; suits = d.0 refl }
    fitting g i false d =
        absurd (wrong (λ type f q. true≢false (sym (d.1 (subst (Suits wanted e) (some_is (sym f ∙ i)) q)))))

    go : (o : Option ValueType) → type_of scope e ≡ o → Suited scope e wanted
    go None i = absurd (wrong (λ type f q. none_some (sym i ∙ f)))
    go (Some g) i = fitting g i (suits wanted e g) (suits-Decides wanted e g)

-- arguments are as many as the parameters
pub counted : (p : Place) (o : Option Signature) (args : Source.Exprs) (s : Signature) →
    ((c : Culprit) → (c ≡ culprit p []) × (s : Signature) × (o ≡ Some s) × (count_of args ≢ length s.params) → ⊥) → o ≡ Some s →
    count_of args ≡ length s.params
counted p o args s clean e = go (count_of args == length s.params) (Decides-eqb (count_of args) (length s.params))
  where
    go : (b : Bool) → Decides b (count_of args ≡ length s.params) → count_of args ≡ length s.params
    go true d = d.0 refl
    go false d = absurd (clean (culprit p []) (refl, s, e, λ k. true≢false (sym (d.1 k))))

module _ (program : Program) (core : Core.Program) where
  -- what fits where a type is taken, is of that type in the core
  pub fits_meets : (t g : ValueType) (u : CoreType) → Fits t g → Meets program core t u → Meets program core g u
  fits_meets t _ u same m = m
  fits_meets _ _ u (rules.null {name = name}) m = fitting name u m
    where
      fitting : (name : Name) (u : CoreType) → Meets program core (ClassType name) u → Meets program core NullType u
      fitting name _ (class i) = null

  module _ (res : Resolves program core) (apart : AreDistinct (type_names core)) where
    -- one type of the core meets a type, but where that is the type of `null`
    pub one_type : {t : ValueType} {u v : CoreType} → Meets program core t u → Meets program core t v → IsKnown t → u ≡ v
    one_type no_value no_value n = refl
    one_type int int n = refl
    one_type boolean boolean n = refl
    one_type text text n = refl
    one_type (class {name = name} {c = c} i) (class {c = d} j) n = ap types.Object (one_class program core res apart name c d i j)
    one_type (enum {name = name} {e = c} {k = k} i) (enum {e = d} {k = l} j) n =
        ap types.Enum (one_enum program core res apart name c d k l i j)
    one_type null null n = absurd n

    module _ (m : Core.Method) (slots : List ℕ) where
      -- a resolved expression has each type that the source's meets, and there is one
      pub record Typed (t : ValueType) (e : Core.Expr) : Type 0 where
        pub type : CoreType
        pub meets : Meets program core t type
        pub has : (u : CoreType) → Meets program core t u → Has core m slots e u

      pub known : (t : ValueType) (u : CoreType) (e : Core.Expr) → Meets program core t u → IsKnown t → Has core m slots e u → Typed t e
      known t u e meets n h =
          record { type = u; meets = meets; has = λ v w. subst (Has core m slots e) (one_type meets w n) h }

      -- a value that is taken
      pub fits : (scope : Scope) (e : Source.Expr) (e' : Core.Expr) (t : ValueType) (u : CoreType) (more : List Taking) →
          ((g : ValueType) → type_of scope e ≡ Some g → Typed g e') → Clean TypeMismatch (Takes scope (taken e (Fitting t)) ∷ more) →
          Meets program core t u → Has core m slots e' u
      fits scope e e' t u more typed clean meets =
          let s = suited scope e (Fitting t) more clean in
          (typed s.type s.is).has u (fits_meets t s.type u s.suits meets)

      -- a value that can be written
      pub record Shown (e : Core.Expr) : Type 0 where
        pub type : CoreType
        pub shown : IsShown type
        pub has : Has core m slots e type

      pub shows : (scope : Scope) (e : Source.Expr) (e' : Core.Expr) (more : List Taking) →
          ((g : ValueType) → type_of scope e ≡ Some g → Typed g e') → Clean TypeMismatch (Takes scope (taken e Writable) ∷ more) → Shown e'
      shows scope e e' more typed clean =
          let s = suited scope e Writable more clean in
          go s.type s.suits (typed s.type s.is)
        where
          go : (g : ValueType) → IsWritable g → Typed g e' → Shown e'
          go NoValue w t = absurd w
          go IntType w t = record { type = types.Int; shown = tt; has = t.has types.Int int }
          go BooleanType w t = record { type = types.Boolean; shown = tt; has = t.has types.Boolean boolean }
          go TextType w t = record { type = types.Text; shown = tt; has = t.has types.Text text }
          go (EnumType name) w t = absurd w
          go (ClassType name) w t = absurd w
          go NullType w t = absurd w
