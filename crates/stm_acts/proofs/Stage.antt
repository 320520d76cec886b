-- What the proofs need of a program: which classes are generated of protocols; and, where only these call `Session`, that others don't.
use Rattle.std.specs.Prelude.{◌≡◌, ◌≢◌, ℕ, List, Option, Some, None, Contains, codes, false}
use Rattle.std.specs.List.{AllByRecursion}
use Rattle.mg_text.specs.Call.{Name}
use Rattle.mg_text.specs.declared.place.Place.{Place}
use Rattle.jv_tree.specs.Source.{Class, Method, Expr, This, Variable, Call, MethodCall, New}
use Rattle.jv_values.specs.Values.{Inputs}
use Rattle.jv_meaning.specs.Program.{Sources, class_named, method_named}
use Rattle.stm_gen.specs.Laid.{choice_enum}
use Rattle.stm_api.specs.Doings.{Doing, Asks}
use Rattle.stm_api.specs.Api.{class_with}
use Rattle.stm_acts.specs.Played.{role_class, HasEnum}
use Rattle.stm_acts.specs.Calm.{Scope, scope_of, is_variable, EveryInAll}

-- a role whose class and enums the program has
pub record Part (j : Sources) : Type 0 where
  pub me : Name
  pub place : Place
  pub firsts : List Doing
  pub class : class_named j (role_class me) ≡ Some (class_with place me firsts)
  pub enums : (n : ℕ) (q : Name) (labels : List Name) → Contains firsts (Asks n q labels) → HasEnum j (choice_enum me n) labels

-- the method that a class has of this name is such a one
abbrev pub Has : Sources → (Plain : Method → Type 0) → (class method : Name) → Type 0
Has j Plain class method =
    (c : Class) (m : Method) → class_named j class ≡ Some c → method_named c method ≡ Some m → Plain m

-- What is asked of each call and each `new` that runs in other classes. `Calm` is that only roles' classes call `Session`, `Few` that
-- objects of them are made in mains alone, `Plain` says which methods may be called, `NoRole` which classes are no role's.
module _ (j : Sources) (Calm Few : Type 0) (Plain : Method → Type 0) (NoRole : Name → Type 0) where
  abbrev pub FitsOn : Scope → Expr → (method : Name) → Type 0
  FitsOn sc (This p) m = Has j Plain sc.class m
  FitsOn sc (Variable p x) m = is_variable j sc x ≡ false → (Calm → x ≢ codes "Session") × Has j Plain x m
  FitsOn sc _ m = Unit {0}

  abbrev pub Fits : Scope → Expr → Type 0
  Fits sc (Call p m args) = Has j Plain sc.class m
  Fits sc (MethodCall p e m args) = FitsOn sc e m
  Fits sc (New p c) = Few → NoRole c
  Fits sc _ = Unit {0}

pub record Stage : Type 1 where
  pub j : Sources
  pub inputs : Inputs
  pub Calm : Type 0
  pub Few : Type 0
  pub Plain : Method → Type 0
  -- all that run on an object may be called
  pub on_object : (m : Method) → m.is_static ≡ false → Plain m
  -- the role of a class's name
  pub role_of : Name → Option (Part j)
  pub named : (c : Name) (k : Part j) → role_of c ≡ Some k → c ≡ role_class k.me
  pub bodies : (c : Name) (class : Class) → class_named j c ≡ Some class → role_of c ≡ None →
      AllByRecursion (λ (m : Method). Plain m → EveryInAll (Fits j Calm Few Plain (λ c. role_of c ≡ None)) (scope_of c m) m.body)
      class.methods

-- what is asked in this program
abbrev pub Asked : (st : Stage) → Scope → Expr → Type 0
Asked st = Fits st.j st.Calm st.Few st.Plain (λ c. st.role_of c ≡ None)
