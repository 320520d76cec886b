-- Sources that leave a protocol's messages to the classes that are generated of it: no other code calls `Session`, and objects of these
-- classes are made in one statement.
use Rattle.std.specs.Prelude.{◌≡◌, ◌≢◌, Bool, true, false, List, [], ◌∷◌, Some, codes, Contains, ◌||◌, ◌&&◌, is_some, option_and_then}
use Rattle.std.specs.Prelude.{if◌then◌else◌}
use Rattle.std.specs.List.{AllByRecursion, list_any}
use Rattle.std.specs.Str.{bytes_eq}
use Rattle.mg_text.specs.Call.{Name}
use Rattle.mg_text.specs.declared.place.Place.{Place}
use Rattle.ts_tree.specs.declared.parts.TypeName.{TypeName}
use Rattle.jv_tree.specs.declared.tree.Param.{Param}
use Rattle.jv_tree.specs.Source.{Expr, This, Variable, Neg, Not, Binary, Call, MethodCall, New, Exprs}
use Rattle.jv_tree.specs.Source.{NoExpr, Argument}
use Rattle.jv_tree.specs.Source.{Stmt, Block, Local, Assign, If, IfElse, While, Do, Switch, Return, Print, Eval}
use Rattle.jv_tree.specs.Source.{Stmts, NoStmt, Then, Groups, NoGroup, Group, Method, Class}
use Rattle.jv_meaning.specs.Program.{Sources, class_named, field_named, method_named}
use Rattle.jv_meaning.specs.Names.{is_main}
use Rattle.stm_acts.specs.Played.{role_class}

-- What is visible where code stands: its class, whether it runs on an object, and the names of its parameters and locals, the last one
-- first.
pub record Scope : Type 0 where
  pub class : Name
  pub on_object : Bool
  pub locals : List Name

abbrev pub declare : Name → Scope → Scope
declare x sc = record sc { locals = x ∷ sc.locals }

-- what is in scope behind a statement
abbrev pub behind_it : Stmt → Scope → Scope
behind_it (Local p ty x e) sc = declare x sc
behind_it s sc = sc

abbrev pub with_params : List Param → List Name → List Name
with_params [] names = names
with_params (p ∷ ps) names = with_params ps (p.name ∷ names)

-- where the body of a method begins
abbrev pub scope_of : (class : Name) → Method → Scope
scope_of class m = record { class = class; on_object = if m.is_static then false else true; locals = with_params m.params [] }

-- a variable has this name: a parameter or a local, or else a field of the object that the code runs on
abbrev pub is_variable : Sources → Scope → Name → Bool
is_variable j sc x = list_any (bytes_eq x) sc.locals ||
    (sc.on_object && is_some (option_and_then (λ c. field_named c x) (class_named j sc.class)))

-- What holds of every call and every `new` that runs, and of what is visible there. Targets of assignments hold none.
module _ (P : Scope → Expr → Type 0) where
  abbrev mutual
    pub Every : Scope → Expr → Type 0
    Every sc (Neg p e) = Every sc e
    Every sc (Not p e) = Every sc e
    Every sc (Binary p op l r) = Every sc l × Every sc r
    Every sc (Call p m args) = P sc (Call p m args) × EveryArgument sc args
    Every sc (MethodCall p e m args) = P sc (MethodCall p e m args) × Every sc e × EveryArgument sc args
    Every sc (New p c) = P sc (New p c)
    Every sc _ = Unit {0}

    pub EveryArgument : Scope → Exprs → Type 0
    EveryArgument sc NoExpr = Unit {0}
    EveryArgument sc (Argument e rest) = Every sc e × EveryArgument sc rest

  abbrev mutual
    pub EveryIn : Scope → Stmt → Type 0
    EveryIn sc (Block p body end) = EveryInAll sc body
    EveryIn sc (Local p ty x e) = Every sc e
    EveryIn sc (Assign p target e) = Every sc e
    EveryIn sc (If p e s) = Every sc e × EveryIn sc s
    EveryIn sc (IfElse p e s r) = Every sc e × EveryIn sc s × EveryIn sc r
    EveryIn sc (While p l e s) = Every sc e × EveryIn sc s
    EveryIn sc (Do p l s e) = EveryIn sc s × Every sc e
    EveryIn sc (Switch p e groups end) = Every sc e × EveryInGroups sc groups
    EveryIn sc (Return p (Some e)) = Every sc e
    EveryIn sc (Print p e) = Every sc e
    EveryIn sc (Eval p e) = Every sc e
    EveryIn sc _ = Unit {0}

    pub EveryInAll : Scope → Stmts → Type 0
    EveryInAll sc NoStmt = Unit {0}
    EveryInAll sc (Then s rest) = EveryIn sc s × EveryInAll (behind_it s sc) rest

    pub EveryInGroups : Scope → Groups → Type 0
    EveryInGroups sc NoGroup = Unit {0}
    EveryInGroups sc (Group labels body end rest) = EveryInAll sc body × EveryInGroups sc rest

-- a call on what no variable is named as is none of `Session`
abbrev pub IsCalmOn : Sources → Scope → Expr → Type 0
IsCalmOn j sc (Variable p x) = is_variable j sc x ≡ false → x ≢ codes "Session"
IsCalmOn j sc _ = Unit {0}

-- it calls no method of `Session`
abbrev pub IsCalm : Sources → Scope → Expr → Type 0
IsCalm j sc (MethodCall p e m args) = IsCalmOn j sc e
IsCalm j sc _ = Unit {0}

-- the class is none of these roles'
abbrev pub IsNoRole : List Name → Name → Type 0
IsNoRole roles name = (me : Name) → Contains roles me → name ≡ role_class me → ⊥

-- the method that a class has of this name is no `main`
abbrev pub HasNoMain : Sources → (class method : Name) → Type 0
HasNoMain j class method =
    (c : Class) (m : Method) → class_named j class ≡ Some c → method_named c method ≡ Some m → is_main m ≡ false

-- A call on `this`, or on a class, whose name no variable has, is none of a `main`; and the class isn't `Session`.
abbrev pub IsQuietOn : Sources → Scope → Expr → (method : Name) → Type 0
IsQuietOn j sc (This p) m = HasNoMain j sc.class m
IsQuietOn j sc (Variable p x) m = is_variable j sc x ≡ false → (x ≢ codes "Session") × HasNoMain j x m
IsQuietOn j sc _ m = Unit {0}

-- it calls no method of `Session`, makes no object of these roles' classes, and calls no `main`
abbrev pub IsQuiet : Sources → List Name → Scope → Expr → Type 0
IsQuiet j roles sc (Call p m args) = HasNoMain j sc.class m
IsQuiet j roles sc (MethodCall p e m args) = IsQuietOn j sc e m
IsQuiet j roles sc (New p c) = IsNoRole roles c
IsQuiet j roles sc _ = Unit {0}

-- The classes but those of these roles call `Session` nowhere.
pub record OnlyRolesCall (j : Sources) (roles : List Name) : Type 0 where
  pub others : (name : Name) (class : Class) → class_named j name ≡ Some class → IsNoRole roles name →
      AllByRecursion (λ (m : Method). EveryInAll (IsCalm j) (scope_of name m) m.body) class.methods

-- They are quiet but for the methods that are a `main`.
pub record OnlyMainsPlay (j : Sources) (roles : List Name) : Type 0 where
  pub others : (name : Name) (class : Class) → class_named j name ≡ Some class → IsNoRole roles name →
      AllByRecursion (λ (m : Method). is_main m ≡ false → EveryInAll (IsQuiet j roles) (scope_of name m) m.body) class.methods

-- A statement that holds no `return`, so that it never completes by one.
abbrev mutual
  pub NoReturn : Stmt → Type 0
  NoReturn (Block p body end) = NoReturnIn body
  NoReturn (If p e s) = NoReturn s
  NoReturn (IfElse p e s r) = NoReturn s × NoReturn r
  NoReturn (While p l e s) = NoReturn s
  NoReturn (Do p l s e) = NoReturn s
  NoReturn (Switch p e groups end) = NoReturnInGroups groups
  NoReturn (Return p e) = ⊥
  NoReturn _ = Unit {0}

  pub NoReturnIn : Stmts → Type 0
  NoReturnIn NoStmt = Unit {0}
  NoReturnIn (Then s rest) = NoReturn s × NoReturnIn rest

  pub NoReturnInGroups : Groups → Type 0
  NoReturnInGroups NoGroup = Unit {0}
  NoReturnInGroups (Group labels body end rest) = NoReturnIn body × NoReturnInGroups rest

-- A local gets a new object of the class, behind statements that hold no `return`. All else is quiet.
pub data MakesOne (j : Sources) (roles : List Name) (role : Name) : Scope → Stmts → Type 0 where
  here_it_is : {sc : Scope} {p at : Place} {ty : TypeName} {x : Name} {rest : Stmts} → EveryInAll (IsQuiet j roles) (declare x sc) rest →
      MakesOne j roles role sc (Then (Local p ty x (New at role)) rest)
  behind : {sc : Scope} {s : Stmt} {rest : Stmts} → NoReturn s → EveryIn (IsQuiet j roles) sc s →
      MakesOne j roles role (behind_it s sc) rest → MakesOne j roles role sc (Then s rest)

-- The `main` of a class does so. The class is none of the roles'.
pub record MainPlaysOne (j : Sources) (roles : List Name) (me class : Name) : Type 0 where
  pub plain : IsNoRole roles class
  pub main : (c : Class) → class_named j class ≡ Some c →
      AllByRecursion (λ (m : Method). is_main m ≡ true → MakesOne j roles (role_class me) (scope_of class m) m.body) c.methods
