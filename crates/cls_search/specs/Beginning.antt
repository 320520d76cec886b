-- What a search begins with: the arguments at the first place, which waits, and no list of operands but the empty one.
use Rattle.std.specs.Prelude.{◌≡◌, ℕ, ◌-◌, ◌<◌, List, [], ◌∷◌, ◌++◌, length, take, replicate, slice_set, Bool, true, false, Option, Some}
use Rattle.std.specs.Prelude.{None, if◌then◌else◌}
use Rattle.vm_model.specs.Program.{Program, MethodOf, ClassOf, class_at, class_name, method_at}
use Rattle.vm_model.specs.Start.{is_main}
use Rattle.cls_verify.specs.Typing.{Typing}
use Rattle.cls_kinds.specs.declared.kind.Kind.{Kind}
use Rattle.cls_table.specs.declared.classes.MethodKinds.{MethodKinds}
use Rattle.cls_table.specs.declared.classes.ClassKinds.{ClassKinds}
use Rattle.cls_table.specs.declared.classes.ProgramKinds.{ProgramKinds}
use Rattle.cls_table.specs.Tables.{IsMethod, IsClass, AreKinds}
use Rattle.cls_rows.specs.declared.frame.Frame.{Frame}
use Rattle.cls_search.specs.declared.leading.Found.{Found}

-- nothing is known
abbrev pub any_number : Kind
any_number = record { 0 = 3 }

-- the locals at the first place, in kinds by numbers
abbrev pub first_kinds : MethodOf → List Kind → List Kind
first_kinds m ks = if is_main m then replicate m.max_locals any_number else ks ++ replicate (m.max_locals - length ks) any_number

pub record IsBegun (m : MethodOf) (ks : List Kind) (f : Found) : Type 0 where
  pub frame : Frame
  pub locals : frame.locals.value.items ≡ take 256 (first_kinds m ks)
  pub operands : frame.operands ≡ 0
  pub frames : f.frames.items ≡ slice_set (replicate (length m.code) None) 0 (Some frame)
  pub waiting : f.waiting ≡ slice_set (replicate (length m.code) false) 0 true
  pub stacks : f.stacks ≡ [] ∷ []

-- a method of a program, in kinds
pub record MethodIs (p : Program) (class number : ℕ) (k : ProgramKinds) (m : MethodOf) (x : MethodKinds) : Type 0 where
  pub there : method_at p class number ≡ Some m
  pub kinds : AreKinds p k
  pub is : IsMethod k.names (class_name p class) m x

-- a class of a program, in kinds
pub record ClassIs (p : Program) (class : ℕ) (k : ProgramKinds) (c : ClassOf) (x : ClassKinds) : Type 0 where
  pub there : class_at p class ≡ Some c
  pub kinds : AreKinds p k
  pub is : IsClass k.names c x

abbrev pub TypableIs : Program → (class method : ℕ) → MethodOf → Bool → Type 0
TypableIs p class method m true = Typing p class method m
TypableIs p class method m false = Typing p class method m → ⊥

-- the first method of a class without a typing
pub record FirstIn (p : Program) (class number : ℕ) : Type 0 where
  pub found : MethodOf
  pub there : method_at p class number ≡ Some found
  pub untypable : Typing p class number found → ⊥
  pub before : (m : ℕ) (other : MethodOf) → m < number → method_at p class m ≡ Some other → Typing p class m other

abbrev pub FirstOr : Program → (class : ℕ) → Option ℕ → Type 0
FirstOr p class None = (m : ℕ) (other : MethodOf) → method_at p class m ≡ Some other → Typing p class m other
FirstOr p class (Some number) = FirstIn p class number
