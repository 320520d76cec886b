-- What classes, enums and typestates meet, and fields and methods by their declarations.
use Rattle.std.specs.Prelude.{◌≡◌, ◌<◌, ◌≤◌, ◌^◌, ℕ, List, [], ◌∷◌, ◌++◌, length, map, Option, Some, None, slice_get, Contains, codes}
use Rattle.std.specs.List.{AllByRecursion}
use Rattle.mg_text.specs.Call.{Name}
use Rattle.ts_tree.specs.declared.parts.TypeName.{TypeName}
use Rattle.ts_tree.specs.declared.parts.TypeName.TheVariants as written
use Rattle.ts_tree.specs.Typestate.{Typestate}
use Rattle.ts_tree.specs.Typestate as protocols
use Rattle.ts_tree.specs.Proper.{AreDistinct, IsOffered}
use Rattle.jv_core.specs.declared.program.CoreType.{CoreType}
use Rattle.jv_core.specs.declared.program.CoreType.TheVariants as types
use Rattle.jv_core.specs.Tree.{Expr, Int, Truth, Text, Null, Constant, Field, Class, Enum, Method, Program}
use Rattle.jv_core.specs.Lookup.{text_at, class_text, param_types, IsInstance, IsOf}
use Rattle.jv_core.specs.Types.{HasTypestate}

-- the classes that are built in
abbrev pub built_in_classes : List Name
built_in_classes = codes "Object" ∷ codes "String" ∷ codes "System" ∷ codes "PrintStream" ∷ codes "Session" ∷ []

abbrev pub texts_at : Program → List ℕ → List Name
texts_at p names = map (text_at p) names

-- the names of classes and enums
abbrev pub type_names : Program → List Name
type_names p = map (λ c. text_at p c.name) p.classes ++ map (λ e. text_at p e.name) p.enums

-- No two classes or enums, and no two typestates, have one name, and no class or enum has that of a built-in class.
pub record AreNamedApart (p : Program) : Type 0 where
  pub types : AreDistinct (type_names p)
  pub not_built_in : (name : Name) → Contains (type_names p) name → Contains built_in_classes name → ⊥
  pub typestates : AreDistinct (map (λ t. t.name) p.typestates)

-- the type of a field, parameter or local: int, boolean, String, an enum, or a class with a typestate
abbrev pub IsUsable : Program → CoreType → Type 0
IsUsable p types.Void = ⊥
IsUsable p (types.Object c) = HasTypestate p c
IsUsable p (types.Enum e) = e < length p.enums
IsUsable p _ = Unit {0}

-- the type of a result
abbrev pub IsResult : Program → CoreType → Type 0
IsResult p types.Void = Unit {0}
IsResult p t = IsUsable p t

-- a type that a typestate names is this one
abbrev pub IsMeant : Program → TypeName → CoreType → Type 0
IsMeant p written.Void t = t ≡ types.Void
IsMeant p written.Int t = t ≡ types.Int
IsMeant p written.Boolean t = t ≡ types.Boolean
IsMeant p written.Text t = t ≡ types.Text
IsMeant p (written.Named name) (types.Object c) = class_text p c ≡ Some name
IsMeant p (written.Named name) (types.Enum e) = (d : Enum) × (slice_get p.enums e ≡ Some d) × (text_at p d.name ≡ name)
IsMeant p (written.Named name) _ = ⊥

abbrev pub AreMeant : Program → List TypeName → List CoreType → Type 0
AreMeant p [] [] = Unit {0}
AreMeant p (n ∷ ns) (t ∷ ts) = IsMeant p n t × AreMeant p ns ts
AreMeant p _ _ = ⊥

abbrev pub same_members : List Name → List Name → Type 0
same_members xs ys = (name : Name) → (Contains xs name → Contains ys name) × (Contains ys name → Contains xs name)

-- a method that answers with labels has an enum as result, and these are its constants
abbrev pub AnswersFit : Program → protocols.Target → CoreType → Type 0
AnswersFit p (protocols.One to) t = Unit {0}
AnswersFit p (protocols.ByAnswer branches) (types.Enum e) =
    (d : Enum) × (slice_get p.enums e ≡ Some d) × same_members (map (λ b. b.label) branches) (texts_at p d.constants)
AnswersFit p (protocols.ByAnswer branches) _ = ⊥

-- a class has an instance method for a method of its typestate, with its result, its parameters and its answers
pub record Performs (p : Program) (c : ℕ) (offered : protocols.Method) : Type 0 where
  pub method : Method
  pub of : IsOf p c method
  pub instance : IsInstance method.kind
  pub name : text_at p method.name ≡ offered.name
  pub result : IsMeant p offered.result method.result
  pub params : AreMeant p offered.params (param_types method)
  pub answers : AnswersFit p offered.target method.result

-- an initialiser: a number, a truth value, a text, a constant of the enum, or `null` for a class
abbrev pub IsConstantOf : Program → CoreType → Expr → Type 0
IsConstantOf p types.Int (Int q z) = Unit {0}
IsConstantOf p types.Boolean (Truth q b) = Unit {0}
IsConstantOf p types.Text (Text q s) = Unit {0}
IsConstantOf p (types.Object c) (Null q) = Unit {0}
IsConstantOf p (types.Enum e) (Constant q of n) = (of ≡ e) × (d : Enum) × (slice_get p.enums e ≡ Some d) × (n < length d.constants)
IsConstantOf p _ _ = ⊥

-- what a field begins with: a String or a constant of an enum must be written
abbrev pub MayBeginWith : Program → CoreType → Option Expr → Type 0
MayBeginWith p t (Some e) = IsConstantOf p t e
MayBeginWith p types.Text None = ⊥
MayBeginWith p (types.Enum e) None = ⊥
MayBeginWith p _ None = Unit {0}

pub record IsField (p : Program) (f : Field) : Type 0 where
  pub name : f.name < length p.names
  pub type : IsUsable p f.ty
  pub begins : MayBeginWith p f.ty f.value

-- a class without a typestate has no field and no instance method
pub record IsPlain (p : Program) (c : ℕ) (class : Class) : Type 0 where
  pub fields : class.fields ≡ []
  pub methods : (m : Method) → IsOf p c m → IsInstance m.kind → ⊥

-- a typestate of the program, each of whose methods the class has
pub record IsProtocolOf (p : Program) (c t : ℕ) : Type 0 where
  pub typestate : Typestate
  pub at : slice_get p.typestates t ≡ Some typestate
  pub performs : (offered : protocols.Method) → IsOffered typestate.states offered → Performs p c offered

abbrev pub KeepsTo : Program → (number : ℕ) → Class → Option ℕ → Type 0
KeepsTo p c class None = IsPlain p c class
KeepsTo p c class (Some t) = IsProtocolOf p c t

-- the typestate of a class names this method
pub record IsNamedByTypestate (p : Program) (m : Method) : Type 0 where
  pub class : Class
  pub at : slice_get p.classes m.class ≡ Some class
  pub number : ℕ
  pub has : class.typestate ≡ Some number
  pub typestate : Typestate
  pub typestate_at : slice_get p.typestates number ≡ Some typestate
  pub offered : protocols.Method
  pub is_offered : IsOffered typestate.states offered
  pub name : offered.name ≡ text_at p m.name

pub record IsEnum (p : Program) (e : Enum) : Type 0 where
  pub name : e.name < length p.names
  pub names : AllByRecursion (λ n. n < length p.names) e.constants
  pub apart : AreDistinct (texts_at p e.constants)
  pub count : length e.constants ≤ 2 ^ 31
