-- Which statements can complete. Each statement is reached where the one before it in its list completes;
-- the value of a condition counts only where it is the literal `true`.
use Rattle.std.specs.Prelude.{◌≡◌, ◌≢◌, ◌⊎◌, ℕ, Option, Some, None, Contains, true}
use Rattle.jv_core.specs.Tree.{Expr, Truth, Stmt, Block, Empty, Local, Assign, If, IfElse, While, Do, Switch, Break, Continue, Return}
use Rattle.jv_core.specs.Tree.{Print, Eval}
use Rattle.jv_core.specs.Tree.{Stmts, NoStmt, Then, Declare, Groups, NoGroup, Group}

-- how control may leave a statement that is reached, but for the end of the method
pub data Exit : Type 0 where
  Through : Exit
  -- it leaves the loop of this number, or the switch around it
  Breaks : (loop : Option ℕ) → Exit
  Continues : (loop : ℕ) → Exit

abbrev pub IsAlwaysTrue : Expr → Type 0
IsAlwaysTrue (Truth p b) = b ≡ true
IsAlwaysTrue _ = ⊥

-- a switch has a default
abbrev pub HasDefault : Groups → Type 0
HasDefault NoGroup = ⊥
HasDefault (Group labels body end more) = Contains labels None ⊎ HasDefault more

-- what leaves a loop and leads further out
abbrev pub Passes : (loop : ℕ) → Exit → Type 0
Passes loop exit = (exit ≢ Through) × (exit ≢ Breaks (Some loop)) × (exit ≢ Continues loop)

abbrev mutual
  -- a reached statement can be left so
  pub Leaves : Stmt → Exit → Type 0
  Leaves (Block p body end) exit = LeavesAll body exit
  Leaves (Empty p) exit = exit ≡ Through
  Leaves (Local p x e) exit = exit ≡ Through
  Leaves (Assign p x e) exit = exit ≡ Through
  Leaves (If p c s) exit = (exit ≡ Through) ⊎ Leaves s exit
  Leaves (IfElse p c s r) exit = Leaves s exit ⊎ Leaves r exit
  Leaves (While p loop c s) exit =
      ((exit ≡ Through) × ((IsAlwaysTrue c → ⊥) ⊎ Leaves s (Breaks (Some loop))))
      ⊎ (Passes loop exit × Leaves s exit)
  Leaves (Do p loop s c) exit =
      ((exit ≡ Through) × (((IsAlwaysTrue c → ⊥) × (Leaves s Through ⊎ Leaves s (Continues loop))) ⊎ Leaves s (Breaks (Some loop))))
      ⊎ (Passes loop exit × Leaves s exit)
  Leaves (Switch p e groups end) exit =
      ((exit ≡ Through) × ((HasDefault groups → ⊥) ⊎ (LeavesLast groups ⊎ LeavesSome groups (Breaks None))))
      ⊎ ((exit ≢ Through) × (exit ≢ Breaks None) × LeavesSome groups exit)
  Leaves (Break p loop) exit = exit ≡ Breaks loop
  Leaves (Continue p loop) exit = exit ≡ Continues loop
  Leaves (Return p value) exit = ⊥
  Leaves (Print p e) exit = exit ≡ Through
  Leaves (Eval p e) exit = exit ≡ Through

  pub LeavesAll : Stmts → Exit → Type 0
  LeavesAll NoStmt exit = exit ≡ Through
  LeavesAll (Then s more) exit = ((exit ≢ Through) × Leaves s exit) ⊎ (Leaves s Through × LeavesAll more exit)
  LeavesAll (Declare p x e scope) exit = LeavesAll scope exit

  -- some group of a switch, each of which is reached
  pub LeavesSome : Groups → Exit → Type 0
  LeavesSome NoGroup exit = ⊥
  LeavesSome (Group labels body end more) exit = LeavesAll body exit ⊎ LeavesSome more exit

  -- the last group of a switch completes
  pub LeavesLast : Groups → Type 0
  LeavesLast NoGroup = ⊥
  LeavesLast (Group labels body end NoGroup) = LeavesAll body Through
  LeavesLast (Group labels body end more) = LeavesLast more

-- a list of statements completes
abbrev pub Completes : Stmts → Type 0
Completes body = LeavesAll body Through
