-- The conditions on declarations: where each is at fault, and with which name.
use Rattle.std.specs.Prelude.{◌≡◌, ◌≢◌, ◌⊎◌, ℕ, List, [], ◌∷◌, map, Option, Some, None, Contains, false, codes}
use Rattle.mg_text.specs.Call.{Name}
use Rattle.mg_read.specs.Culprit.{Culprit, culprit}
use Rattle.ts_tree.specs.Typestate as protocols
use Rattle.ts_tree.specs.declared.parts.TypeName.{TypeName}
use Rattle.ts_tree.specs.declared.parts.TypeName.TheVariants as written
use Rattle.jv_tree.specs.Source.{Expr, Int, Truth, Text, Null, Variable, Member, Field, Method, Class, Enum}
use Rattle.jv_meaning.specs.Program.{class_named, enum_named, typestate_named, method_named}
use Rattle.jv_rules.specs.Program.{Program, typestate_of, offers_in}
use Rattle.jv_rules.specs.Members.{Entry, OfType, Mention, Written, Made, ClassMember, OfField, OfMethod}

-- the classes that are built in
abbrev pub built_in_classes : List Name
built_in_classes = codes "Object" ∷ codes "String" ∷ codes "System" ∷ codes "PrintStream" ∷ codes "Session" ∷ []

-- a name of this sort was declared before
abbrev pub IsTaken : List Entry → Entry → Type 0
IsTaken earlier e = (d : Entry) × Contains earlier d × (d.sort ≡ e.sort) × (d.name ≡ e.name)

-- 1. DuplicateName: two classes or enums, or two typestates, have one name, or a class or enum has that of a built-in class
abbrev pub DuplicateName : List Entry × Entry → Culprit → Type 0
DuplicateName q c = (c ≡ culprit q.1.place q.1.name) × (IsTaken q.0 q.1 ⊎ ((q.1.sort ≡ OfType) × Contains built_in_classes q.1.name))

-- 2. DuplicateMember: two fields, two methods or two constants of one declaration share a name
abbrev pub DuplicateMember : List Entry × Entry → Culprit → Type 0
DuplicateMember q c = (c ≡ culprit q.1.place q.1.name) × IsTaken q.0 q.1

-- a class with a typestate, also where that typestate isn't there
abbrev pub IsUsableClass : Option Class → Type 0
IsUsableClass None = ⊥
IsUsableClass (Some c) = c.typestate ≢ None

abbrev pub IsUsable : Program → Name → Type 0
IsUsable program name = (enum_named program.files name ≢ None) ⊎ IsUsableClass (class_named program.files name)

-- 3. UnknownClass: a written type is no enum and no class with a typestate, or the class of `new` is no class with a typestate
abbrev pub UnknownClass : Program → Mention → Culprit → Type 0
UnknownClass program (Written p (written.Named name)) c = (c ≡ culprit p name) × (IsUsable program name → ⊥)
UnknownClass program (Made p name) c = (c ≡ culprit p name) × (IsUsableClass (class_named program.files name) → ⊥)
UnknownClass program _ c = ⊥

-- 4. UnknownTypestate: `@Typestate` names no typestate
abbrev pub UnknownTypestate : Program → Class → Culprit → Type 0
UnknownTypestate program class c =
    (name : Name) × (class.typestate ≡ Some name) × (c ≡ culprit class.place name) × (typestate_named program.typestates name ≡ None)

-- the methods of a class's typestate, in the order of the text, each with the class
abbrev pub demands_on : Program → Class → List (Class × protocols.Method)
demands_on program class = elim (typestate_of program class) [ None ↦ [] | Some t ↦ map (λ m. (class, m)) (offers_in t.states) ]

abbrev pub IsInstance : Option Method → Type 0
IsInstance None = ⊥
IsInstance (Some m) = m.is_static ≡ false

-- 5. MissingMethod: the typestate has a method that the class lacks as an instance method
abbrev pub MissingMethod : Class × protocols.Method → Culprit → Type 0
MissingMethod q c = (c ≡ culprit q.0.place q.1.name) × (IsInstance (method_named q.0 q.1.name) → ⊥)

-- a method of a class
pub record Owned : Type 0 where
  pub owner : Class
  pub method : Method

abbrev pub owned_methods : Class → List Owned
owned_methods c = map (λ m. record { owner = c; method = m }) c.methods

-- the typestate of a class has this method
abbrev pub IsDemanded : Program → Class → protocols.Method → Type 0
IsDemanded program class m = (t : protocols.Typestate) × (typestate_of program class ≡ Some t) × Contains (offers_in t.states) m

-- 6. SignatureDiffers: an instance method has another result or other parameters than in the typestate
abbrev pub SignatureDiffers : Program → Owned → Culprit → Type 0
SignatureDiffers program o c =
    (c ≡ culprit o.method.place o.method.name) × (o.method.is_static ≡ false)
    × (m : protocols.Method) × IsDemanded program o.owner m × (m.name ≡ o.method.name)
    × ((m.result ≢ o.method.result) ⊎ (m.params ≢ map (λ p. p.ty) o.method.params))

abbrev pub same_members : List Name → List Name → Type 0
same_members xs ys = (name : Name) → (Contains xs name → Contains ys name) × (Contains ys name → Contains xs name)

-- labels are exactly the constants of an enum
abbrev pub AreConstants : Option Enum → List Name → Type 0
AreConstants None labels = ⊥
AreConstants (Some e) labels = same_members labels e.constants

abbrev pub AreLabelsOf : Program → TypeName → List Name → Type 0
AreLabelsOf program (written.Named name) labels = AreConstants (enum_named program.files name) labels
AreLabelsOf program _ labels = ⊥

-- a method answers with labels
abbrev pub AnswersBy : protocols.Target → List Name → Type 0
AnswersBy (protocols.One to) labels = ⊥
AnswersBy (protocols.ByAnswer branches) labels = labels ≡ map (λ b. b.label) branches

-- 7. LabelsDiffer: an answer list on a method whose result is no enum, or labels that aren't exactly its constants
abbrev pub LabelsDiffer : Program → Owned → Culprit → Type 0
LabelsDiffer program o c =
    (c ≡ culprit o.method.place o.method.name) × (o.method.is_static ≡ false)
    × (m : protocols.Method) × (labels : List Name) × IsDemanded program o.owner m × (m.name ≡ o.method.name)
    × AnswersBy m.target labels × (AreLabelsOf program o.method.result labels → ⊥)

abbrev pub HasConstant : Option Enum → Name → Type 0
HasConstant None name = ⊥
HasConstant (Some e) name = Contains e.constants name

-- an initialiser of a field of this type: a number, a truth value, a text, a constant of the enum, or `null` for a class
abbrev pub IsConstantOf : Program → TypeName → Expr → Type 0
IsConstantOf program written.Int (Int p z) = Unit {0}
IsConstantOf program written.Boolean (Truth p b) = Unit {0}
IsConstantOf program written.Text (Text p t) = Unit {0}
IsConstantOf program (written.Named name) (Null p) = class_named program.files name ≢ None
IsConstantOf program (written.Named name) (Member p (Variable q of) constant) = (of ≡ name) × HasConstant (enum_named program.files name)
    constant
IsConstantOf program _ _ = ⊥

-- a field of this type has no default value
abbrev pub NeedsValue : Program → TypeName → Type 0
NeedsValue program written.Text = Unit {0}
NeedsValue program (written.Named name) = enum_named program.files name ≢ None
NeedsValue program _ = ⊥

abbrev pub LacksConstant : Program → TypeName → Option Expr → Type 0
LacksConstant program ty None = NeedsValue program ty
LacksConstant program ty (Some e) = IsConstantOf program ty e → ⊥

-- 8. FieldNeedsValue: a String or enum field without initialiser, or an initialiser that is no constant of the field's type
abbrev pub FieldNeedsValue : Program → Field → Culprit → Type 0
FieldNeedsValue program f c = (c ≡ culprit f.place f.name) × LacksConstant program f.ty f.value

-- a member of a class, with the typestate of the class
pub record Standing : Type 0 where
  pub typestate : Option (List ℕ)
  pub member : ClassMember

-- 9. InstanceInPlain: a field or an instance method in a class without a typestate
abbrev pub InstanceInPlain : Standing → Culprit → Type 0
InstanceInPlain s c = elim s.member [
  | OfField f ↦ (c ≡ culprit f.place []) × (s.typestate ≡ None)
  | OfMethod m ↦ (c ≡ culprit m.place []) × (s.typestate ≡ None) × (m.is_static ≡ false)
]
