-- What holds of each call and each `new` of two kinds holds of both.
use Rattle.std.proofs.Common.{◌≡◌, List, [], ◌∷◌, Some, None, Bool, true, false, true≢false, refl}
use Rattle.std.specs.Prelude.{◌&&◌}
use Rattle.std.specs.List.{AllByRecursion}
use Rattle.mg_text.specs.Call.{Name}
use Rattle.jv_tree.specs.Source.{Expr, Int, Truth, Text, Null, This, Variable, Member, Neg, Not, Binary, Call, MethodCall, New, Exprs}
use Rattle.jv_tree.specs.Source.{NoExpr, Argument}
use Rattle.jv_tree.specs.Source.{Stmt, Block, Empty, Local, Assign, If, IfElse, While, Do, Switch, Break, Continue, Return, Print, Eval}
use Rattle.jv_tree.specs.Source.{Stmts, NoStmt, Then, Groups, NoGroup, Group, Method}
use Rattle.jv_meaning.specs.Program.{Sources}
use Rattle.jv_meaning.specs.Names.{is_main}
use Rattle.stm_acts.specs.Calm.{Scope, scope_of, behind_it, Every, EveryArgument, EveryIn, EveryInAll, EveryInGroups, IsCalmOn, IsCalm}
use Rattle.stm_acts.specs.Calm.{IsNoRole, IsQuietOn, IsQuiet}
use Rattle.stm_acts.proofs.Stage.{Fits, FitsOn}

module _ (A : Type 0) (P Q R : Scope → Expr → Type 0) (both : (sc : Scope) (e : Expr) → (A → P sc e) → Q sc e → R sc e) where
  mutual
    pub every : (sc : Scope) (e : Expr) → (A → Every P sc e) → Every Q sc e → Every R sc e
    every sc (Int p z) h k = tt
    every sc (Truth p b) h k = tt
    every sc (Text p t) h k = tt
    every sc (Null p) h k = tt
    every sc (This p) h k = tt
    every sc (Variable p x) h k = tt
    every sc (Member p e f) h k = tt
    every sc (Neg p e) h k = every sc e h k
    every sc (Not p e) h k = every sc e h k
    every sc (Binary p op l r) h k = (every sc l (λ a. (h a).0) k.0, every sc r (λ a. (h a).1) k.1)
    every sc (Call p m args) h k = (both sc (Call p m args) (λ a. (h a).0) k.0, every_argument sc args (λ a. (h a).1) k.1)
    every sc (MethodCall p e m args) h k =
        (both sc (MethodCall p e m args) (λ a. (h a).0) k.0, every sc e (λ a. (h a).1) k.1, every_argument sc args (λ a. (h a).2) k.2)
    every sc (New p c) h k = both sc (New p c) h k

    every_argument : (sc : Scope) (args : Exprs) → (A → EveryArgument P sc args) → EveryArgument Q sc args → EveryArgument R sc args
    every_argument sc NoExpr h k = tt
    every_argument sc (Argument e rest) h k = (every sc e (λ a. (h a).0) k.0, every_argument sc rest (λ a. (h a).1) k.1)

  mutual
    pub every_in : (sc : Scope) (s : Stmt) → (A → EveryIn P sc s) → EveryIn Q sc s → EveryIn R sc s
    every_in sc (Block p body end) h k = every_in_all sc body h k
    every_in sc (Empty p) h k = tt
    every_in sc (Local p ty x e) h k = every sc e h k
    every_in sc (Assign p target e) h k = every sc e h k
    every_in sc (If p e s) h k = (every sc e (λ a. (h a).0) k.0, every_in sc s (λ a. (h a).1) k.1)
    every_in sc (IfElse p e s r) h k = (every sc e (λ a. (h a).0) k.0, every_in sc s (λ a. (h a).1) k.1, every_in sc r (λ a. (h a).2) k.2)
    every_in sc (While p l e s) h k = (every sc e (λ a. (h a).0) k.0, every_in sc s (λ a. (h a).1) k.1)
    every_in sc (Do p l s e) h k = (every_in sc s (λ a. (h a).0) k.0, every sc e (λ a. (h a).1) k.1)
    every_in sc (Switch p e groups end) h k = (every sc e (λ a. (h a).0) k.0, every_in_groups sc groups (λ a. (h a).1) k.1)
    every_in sc (Break p l) h k = tt
    every_in sc (Continue p l) h k = tt
    every_in sc (Return p None) h k = tt
    every_in sc (Return p (Some e)) h k = every sc e h k
    every_in sc (Print p e) h k = every sc e h k
    every_in sc (Eval p e) h k = every sc e h k

    pub every_in_all : (sc : Scope) (ss : Stmts) → (A → EveryInAll P sc ss) → EveryInAll Q sc ss → EveryInAll R sc ss
    every_in_all sc NoStmt h k = tt
    every_in_all sc (Then s rest) h k = (every_in sc s (λ a. (h a).0) k.0, every_in_all (behind_it s sc) rest (λ a. (h a).1) k.1)

    every_in_groups : (sc : Scope) (gs : Groups) → (A → EveryInGroups P sc gs) → EveryInGroups Q sc gs → EveryInGroups R sc gs
    every_in_groups sc NoGroup h k = tt
    every_in_groups sc (Group labels body end rest) h k =
        (every_in_all sc body (λ a. (h a).0) k.0, every_in_groups sc rest (λ a. (h a).1) k.1)

-- what holds of all calls
abbrev Nothing : Scope → Expr → Type 0
Nothing sc e = Unit {0}

mutual
  none_in : (sc : Scope) (e : Expr) → Every Nothing sc e
  none_in sc (Int p z) = tt
  none_in sc (Truth p b) = tt
  none_in sc (Text p t) = tt
  none_in sc (Null p) = tt
  none_in sc (This p) = tt
  none_in sc (Variable p x) = tt
  none_in sc (Member p e f) = tt
  none_in sc (Neg p e) = none_in sc e
  none_in sc (Not p e) = none_in sc e
  none_in sc (Binary p op l r) = (none_in sc l, none_in sc r)
  none_in sc (Call p m args) = (tt, none_in_arguments sc args)
  none_in sc (MethodCall p e m args) = (tt, none_in sc e, none_in_arguments sc args)
  none_in sc (New p c) = tt

  none_in_arguments : (sc : Scope) (args : Exprs) → EveryArgument Nothing sc args
  none_in_arguments sc NoExpr = tt
  none_in_arguments sc (Argument e rest) = (none_in sc e, none_in_arguments sc rest)

mutual
  none_at : (sc : Scope) (s : Stmt) → EveryIn Nothing sc s
  none_at sc (Block p body end) = none_at_all sc body
  none_at sc (Empty p) = tt
  none_at sc (Local p ty x e) = none_in sc e
  none_at sc (Assign p target e) = none_in sc e
  none_at sc (If p e s) = (none_in sc e, none_at sc s)
  none_at sc (IfElse p e s r) = (none_in sc e, none_at sc s, none_at sc r)
  none_at sc (While p l e s) = (none_in sc e, none_at sc s)
  none_at sc (Do p l s e) = (none_at sc s, none_in sc e)
  none_at sc (Switch p e groups end) = (none_in sc e, none_at_groups sc groups)
  none_at sc (Break p l) = tt
  none_at sc (Continue p l) = tt
  none_at sc (Return p None) = tt
  none_at sc (Return p (Some e)) = none_in sc e
  none_at sc (Print p e) = none_in sc e
  none_at sc (Eval p e) = none_in sc e

  none_at_all : (sc : Scope) (ss : Stmts) → EveryInAll Nothing sc ss
  none_at_all sc NoStmt = tt
  none_at_all sc (Then s rest) = (none_at sc s, none_at_all (behind_it s sc) rest)

  none_at_groups : (sc : Scope) (gs : Groups) → EveryInGroups Nothing sc gs
  none_at_groups sc NoGroup = tt
  none_at_groups sc (Group labels body end rest) = (none_at_all sc body, none_at_groups sc rest)

-- a method of any name may be called
abbrev pub Any : Method → Type 0
Any m = Unit {0}

-- what is asked where code may make objects and call mains
module _ (j : Sources) (Calm : Type 0) (NoRole : Name → Type 0) where
  calm_on : (sc : Scope) (e : Expr) (m : Name) → (Calm → IsCalmOn j sc e) → FitsOn j Calm ⊥ Any NoRole sc e m
  calm_on sc (This p) m h = λ c f e k. tt
  calm_on sc (Variable p x) m h = λ e. ((λ calm. h calm e), (λ c f k l. tt))
  calm_on sc (Int p z) m h = tt
  calm_on sc (Truth p b) m h = tt
  calm_on sc (Text p t) m h = tt
  calm_on sc (Null p) m h = tt
  calm_on sc (Member p e f) m h = tt
  calm_on sc (Neg p e) m h = tt
  calm_on sc (Not p e) m h = tt
  calm_on sc (Binary p op l r) m h = tt
  calm_on sc (Call p f args) m h = tt
  calm_on sc (MethodCall p e f args) m h = tt
  calm_on sc (New p c) m h = tt

  calm_fits : (sc : Scope) (e : Expr) → (Calm → IsCalm j sc e) → Nothing sc e → Fits j Calm ⊥ Any NoRole sc e
  calm_fits sc (Call p m args) h k = λ c f e l. tt
  calm_fits sc (MethodCall p e m args) h k = calm_on sc e m h
  calm_fits sc (New p c) h k = λ few. absurd few
  calm_fits sc (Int p z) h k = tt
  calm_fits sc (Truth p b) h k = tt
  calm_fits sc (Text p t) h k = tt
  calm_fits sc (Null p) h k = tt
  calm_fits sc (This p) h k = tt
  calm_fits sc (Variable p x) h k = tt
  calm_fits sc (Member p e f) h k = tt
  calm_fits sc (Neg p e) h k = tt
  calm_fits sc (Not p e) h k = tt
  calm_fits sc (Binary p op l r) h k = tt

  pub all_calm : (class : Name) (ms : List Method) →
      (Calm → AllByRecursion (λ (m : Method). EveryInAll (IsCalm j) (scope_of class m) m.body) ms) →
      AllByRecursion (λ (m : Method). Any m → EveryInAll (Fits j Calm ⊥ Any NoRole) (scope_of class m) m.body) ms
  all_calm class [] h = tt
  all_calm class (m ∷ ms) h = (
    (λ u. every_in_all Calm (IsCalm j) Nothing (Fits j Calm ⊥ Any NoRole) calm_fits (scope_of class m) m.body (λ c. (h c).0)
        (none_at_all (scope_of class m) m.body)),
    all_calm class ms (λ c. (h c).1),
  )

-- and where nothing is said of them
pub all_fit : (j : Sources) (NoRole : Name → Type 0) (class : Name) (ms : List Method) →
    AllByRecursion (λ (m : Method). Any m → EveryInAll (Fits j ⊥ ⊥ Any NoRole) (scope_of class m) m.body) ms
all_fit j NoRole class ms = all_calm j ⊥ NoRole class ms (λ c. absurd c)

-- any but a `main`
abbrev pub NoMain : Method → Type 0
NoMain m = is_main m ≡ false

-- a method that runs on an object is none
pub on_object_no_main : (m : Method) → m.is_static ≡ false → NoMain m
on_object_no_main m e = go m.is_static e
  where
    go : (b : Bool) → b ≡ false → (b && m.takes_args) ≡ false
    go true f = absurd (true≢false f)
    go false f = refl

-- what is asked where they don't
module _ (j : Sources) (roles : List Name) (NoRole : Name → Type 0) (is : (c : Name) → IsNoRole roles c → NoRole c) where
  abbrev Asks : Scope → Expr → Type 0
  Asks = Fits j (Unit {0}) (Unit {0}) NoMain NoRole

  quiet_on : (sc : Scope) (e : Expr) (m : Name) → IsQuietOn j sc e m → FitsOn j (Unit {0}) (Unit {0}) NoMain NoRole sc e m
  quiet_on sc (This p) m h = h
  quiet_on sc (Variable p x) m h = λ e. ((λ c. (h e).0), (h e).1)
  quiet_on sc (Int p z) m h = tt
  quiet_on sc (Truth p b) m h = tt
  quiet_on sc (Text p t) m h = tt
  quiet_on sc (Null p) m h = tt
  quiet_on sc (Member p e f) m h = tt
  quiet_on sc (Neg p e) m h = tt
  quiet_on sc (Not p e) m h = tt
  quiet_on sc (Binary p op l r) m h = tt
  quiet_on sc (Call p f args) m h = tt
  quiet_on sc (MethodCall p e f args) m h = tt
  quiet_on sc (New p c) m h = tt

  quiet_fits : (sc : Scope) (e : Expr) → (⊥ → Nothing sc e) → IsQuiet j roles sc e → Asks sc e
  quiet_fits sc (Call p m args) h k = k
  quiet_fits sc (MethodCall p e m args) h k = quiet_on sc e m k
  quiet_fits sc (New p c) h k = λ few. is c k
  quiet_fits sc (Int p z) h k = tt
  quiet_fits sc (Truth p b) h k = tt
  quiet_fits sc (Text p t) h k = tt
  quiet_fits sc (Null p) h k = tt
  quiet_fits sc (This p) h k = tt
  quiet_fits sc (Variable p x) h k = tt
  quiet_fits sc (Member p e f) h k = tt
  quiet_fits sc (Neg p e) h k = tt
  quiet_fits sc (Not p e) h k = tt
  quiet_fits sc (Binary p op l r) h k = tt

  pub in_quiet : (sc : Scope) (s : Stmt) → EveryIn (IsQuiet j roles) sc s → EveryIn Asks sc s
  in_quiet sc s k = every_in ⊥ Nothing (IsQuiet j roles) Asks quiet_fits sc s (λ a. absurd a) k

  pub in_all_quiet : (sc : Scope) (ss : Stmts) → EveryInAll (IsQuiet j roles) sc ss → EveryInAll Asks sc ss
  in_all_quiet sc ss k = every_in_all ⊥ Nothing (IsQuiet j roles) Asks quiet_fits sc ss (λ a. absurd a) k

  pub all_quiet : (class : Name) (ms : List Method) →
      AllByRecursion (λ (m : Method). NoMain m → EveryInAll (IsQuiet j roles) (scope_of class m) m.body) ms →
      AllByRecursion (λ (m : Method). NoMain m → EveryInAll Asks (scope_of class m) m.body) ms
  all_quiet class [] k = tt
  all_quiet class (m ∷ ms) k = ((λ n. in_all_quiet (scope_of class m) m.body (k.0 n)), all_quiet class ms k.1)
