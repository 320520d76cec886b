-- Which statements are well typed, in a method, with these slots in scope, and inside these loops and switches.
use Rattle.std.specs.Prelude.{◌≡◌, ◌≢◌, ◌<◌, ℕ, List, [], ◌∷◌, ◌++◌, length, reverse, Option, Some, None, slice_get, Contains}
use Rattle.mg_text.specs.declared.place.Place.{Place}
use Rattle.jv_core.specs.declared.tree.CoreVar.{CoreVar}
use Rattle.jv_core.specs.declared.program.CoreType.{CoreType}
use Rattle.jv_core.specs.declared.program.CoreType.TheVariants as types
use Rattle.jv_core.specs.Tree.{Expr, Stmt, Block, Empty, Local, Assign, If, IfElse, While, Do, Switch, Break, Continue, Return, Print, Eval}
use Rattle.jv_core.specs.Tree.{Stmts, NoStmt, Then, Declare, Groups, NoGroup, Group, Enum, Loop, Method, Program}
use Rattle.jv_core.specs.Lookup.{slot_type, slot_text}
use Rattle.jv_core.specs.Types.{IsShown, IsVariable, Has}

-- what stands around a statement
pub data Target : Type 0 where
  LoopOf : (number : ℕ) → Target
  ASwitch : Target

-- nothing stands twice
abbrev pub AreApart : {A : Type 0} → List A → Type 0
AreApart [] = Unit {0}
AreApart (x ∷ xs) = (Contains xs x → ⊥) × AreApart xs

-- the labels of a switch, in the order of the text
abbrev pub labels_in : Groups → List (Option ℕ)
labels_in NoGroup = []
labels_in (Group labels body end more) = labels ++ labels_in more

-- a `break` leaves a loop around it, or the switch that is the innermost of what is around it
abbrev pub MayBreak : List Target → Option ℕ → Type 0
MayBreak around (Some l) = Contains around (LoopOf l)
MayBreak [] None = ⊥
MayBreak (ASwitch ∷ around) None = Unit {0}
MayBreak (LoopOf l ∷ around) None = ⊥

module _ (p : Program) (m : Method) where
  -- no slot in scope has the name of this one
  abbrev pub IsNewIn : List ℕ → ℕ → Type 0
  IsNewIn scope k = (j : ℕ) → Contains scope j → slot_text p m j ≢ slot_text p m k

  -- slot k is declared with a value of its type, and under a name that no slot in scope has
  pub record Declares (scope : List ℕ) (k : ℕ) (e : Expr) : Type 0 where
    pub type : CoreType
    pub is : slot_type m k ≡ Some type
    pub value : Has p m scope e type
    pub new : IsNewIn scope k

  -- a loop of this number begins with these slots in scope, which are numbered as they are declared
  pub record Heads (scope : List ℕ) (l : ℕ) : Type 0 where
    pub loop : Loop
    pub at : slice_get m.loops l ≡ Some loop
    pub scope_is : loop.scope ≡ reverse scope

  -- the constants of an enum, each at most once, or `default`, at most once
  pub record AreCases (e : ℕ) (labels : List (Option ℕ)) : Type 0 where
    pub enum : Enum
    pub at : slice_get p.enums e ≡ Some enum
    pub constants : (n : ℕ) → Contains labels (Some n) → n < length enum.constants
    pub apart : AreApart labels

  -- a `return` has a value of the result's type exactly where the method has a result
  abbrev pub MayReturn : List ℕ → Option Expr → Type 0
  MayReturn scope None = m.result ≡ types.Void
  MayReturn scope (Some e) = (m.result ≢ types.Void) × Has p m scope e m.result

  -- The scope has the innermost declaration first, and what is around has the innermost first.
  mutual
    pub data Fine : (scope : List ℕ) → (around : List Target) → Stmt → Type 0 where
      block : {sc : List ℕ} {ts : List Target} {q end : Place} {body : Stmts} → FineAll sc ts body → Fine sc ts (Block q body end)
      empty : {sc : List ℕ} {ts : List Target} {q : Place} → Fine sc ts (Empty q)
      local : {sc : List ℕ} {ts : List Target} {q : Place} {k : ℕ} {e : Expr} → Declares sc k e → Fine sc ts (Local q k e)
      assign : {sc : List ℕ} {ts : List Target} {q : Place} {x : CoreVar} {e : Expr} {t : CoreType} →
          IsVariable p m sc x.var t → Has p m sc e t → Fine sc ts (Assign q x e)
      if_true : {sc : List ℕ} {ts : List Target} {q : Place} {c : Expr} {s : Stmt} →
          Has p m sc c types.Boolean → Fine sc ts s → Fine sc ts (If q c s)
      if_else : {sc : List ℕ} {ts : List Target} {q : Place} {c : Expr} {s r : Stmt} →
          Has p m sc c types.Boolean → Fine sc ts s → Fine sc ts r → Fine sc ts (IfElse q c s r)
      while_true : {sc : List ℕ} {ts : List Target} {q : Place} {l : ℕ} {c : Expr} {s : Stmt} →
          Heads sc l → Has p m sc c types.Boolean → Fine sc (LoopOf l ∷ ts) s → Fine sc ts (While q l c s)
      do_while : {sc : List ℕ} {ts : List Target} {q : Place} {l : ℕ} {c : Expr} {s : Stmt} →
          Heads sc l → Fine sc (LoopOf l ∷ ts) s → Has p m sc c types.Boolean → Fine sc ts (Do q l s c)
      switch : {sc : List ℕ} {ts : List Target} {q end : Place} {e : Expr} {gs : Groups} {of : ℕ} →
          Has p m sc e (types.Enum of) → AreCases of (labels_in gs) → FineGroups sc (ASwitch ∷ ts) gs → Fine sc ts (Switch q e gs end)
      break : {sc : List ℕ} {ts : List Target} {q : Place} {l : Option ℕ} → MayBreak ts l → Fine sc ts (Break q l)
      continue : {sc : List ℕ} {ts : List Target} {q : Place} {l : ℕ} → Contains ts (LoopOf l) → Fine sc ts (Continue q l)
      return : {sc : List ℕ} {ts : List Target} {q : Place} {value : Option Expr} → MayReturn sc value → Fine sc ts (Return q value)
      print : {sc : List ℕ} {ts : List Target} {q : Place} {e : Expr} {t : CoreType} → Has p m sc e t → IsShown t → Fine sc ts (Print q e)
      eval : {sc : List ℕ} {ts : List Target} {q : Place} {e : Expr} {t : CoreType} → Has p m sc e t → Fine sc ts (Eval q e)

    pub data FineAll : (scope : List ℕ) → (around : List Target) → Stmts → Type 0 where
      no_stmt : {sc : List ℕ} {ts : List Target} → FineAll sc ts NoStmt
      then : {sc : List ℕ} {ts : List Target} {s : Stmt} {more : Stmts} → Fine sc ts s → FineAll sc ts more → FineAll sc ts (Then s more)
      -- the statements behind a declaration have its slot in scope
      declare : {sc : List ℕ} {ts : List Target} {q : Place} {k : ℕ} {e : Expr} {more : Stmts} →
          Declares sc k e → FineAll (k ∷ sc) ts more → FineAll sc ts (Declare q k e more)

    -- the scope of a local ends with its group
    pub data FineGroups : (scope : List ℕ) → (around : List Target) → Groups → Type 0 where
      no_group : {sc : List ℕ} {ts : List Target} → FineGroups sc ts NoGroup
      group : {sc : List ℕ} {ts : List Target} {labels : List (Option ℕ)} {body : Stmts} {end : Place} {more : Groups} →
          FineAll sc ts body → FineGroups sc ts more → FineGroups sc ts (Group labels body end more)
