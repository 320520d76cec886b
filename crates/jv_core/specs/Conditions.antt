-- What a core meets: its numbers are in range, it is well typed, and it is numbered in the order of its text.
use Rattle.std.specs.Prelude.{◌≡◌, ◌≢◌, ◌<◌, ◌≤◌, ◌+◌, ◌-◌, ◌^◌, ℕ, [], length, map, take, reverse, Some, slice_get, codes, nat_eq}
use Rattle.std.specs.List.{AllByRecursion, filter}
use Rattle.ts_tree.specs.Proper.{AreDistinct}
use Rattle.jv_core.specs.declared.program.CoreType.TheVariants as types
use Rattle.jv_core.specs.declared.program.MethodKind.{MethodKind}
use Rattle.jv_core.specs.declared.program.MethodKind.TheVariants as kinds
use Rattle.jv_core.specs.Tree.{Class, Slot, Method, Program}
use Rattle.jv_core.specs.Lookup.{text_at}
use Rattle.jv_core.specs.Statements.{FineAll}
use Rattle.jv_core.specs.Completes.{Completes}
use Rattle.jv_core.specs.Numbering.{numbers_from, methods_of, IsNumbered}
use Rattle.jv_core.specs.Members.{texts_at, AreNamedApart, IsUsable, IsResult, IsField, KeepsTo, IsNamedByTypestate, IsEnum}

-- class c of a program
pub record IsClass (p : Program) (c : ℕ) (class : Class) : Type 0 where
  pub name : class.name < length p.names
  -- its methods are those that say so, in rising order
  pub methods : class.methods ≡ methods_of c 0 p.methods
  pub fields : AllByRecursion (IsField p) class.fields
  -- no two fields and no two methods have one name
  pub fields_apart : AreDistinct (map (λ f. text_at p f.name) class.fields)
  pub methods_apart : AreDistinct (map (λ m. text_at p m.name) (filter (λ m. nat_eq m.class c) p.methods))
  pub keeps : KeepsTo p c class class.typestate

-- `static void main(String[] x)`, whose parameter has no slot
pub record IsMain (p : Program) (m : Method) : Type 0 where
  pub name : text_at p m.name ≡ codes "main"
  pub result : m.result ≡ types.Void
  pub params : m.params ≡ 0

-- an instance method is of the protocol exactly where the typestate of its class names it
abbrev pub IsOfKind : Program → Method → MethodKind → Type 0
IsOfKind p m kinds.Main = IsMain p m
IsOfKind p m kinds.Static = Unit {0}
IsOfKind p m kinds.Helper = IsNamedByTypestate p m → ⊥
IsOfKind p m kinds.Protocol = IsNamedByTypestate p m

pub record IsSlot (p : Program) (s : Slot) : Type 0 where
  pub name : s.name < length p.names
  pub type : IsUsable p s.ty

pub record IsMethod (p : Program) (m : Method) : Type 0 where
  pub class : Class
  pub class_at : slice_get p.classes m.class ≡ Some class
  pub name : m.name < length p.names
  pub kind : IsOfKind p m m.kind
  pub result : IsResult p m.result
  pub slots : AllByRecursion (IsSlot p) m.slots
  pub count : length m.slots + length class.fields ≤ 2 ^ 32 - 1
  pub numbered : IsNumbered m
  -- no two parameters have one name
  pub params_apart : AreDistinct (texts_at p (map (λ s. s.name) (take m.params m.slots)))
  -- at the beginning the parameters are in scope, the last innermost
  pub body : FineAll p m (reverse (numbers_from 0 m.params)) [] m.body
  -- the body of a method with a result can't complete
  pub returns : m.result ≢ types.Void → Completes m.body → ⊥

pub record IsCore (p : Program) : Type 0 where
  pub named_apart : AreNamedApart p
  pub classes : (c : ℕ) (class : Class) → slice_get p.classes c ≡ Some class → IsClass p c class
  pub enums : AllByRecursion (IsEnum p) p.enums
  pub methods : AllByRecursion (IsMethod p) p.methods
