-- How methods, slots and loops are numbered.
use Rattle.std.specs.Prelude.{◌≡◌, ◌≤◌, ◌-◌, ℕ, zero, suc, List, [], ◌∷◌, ◌++◌, length, if◌then◌else◌, nat_eq}
use Rattle.jv_core.specs.Tree.{Stmt, Block, Local, If, IfElse, While, Do, Switch}
use Rattle.jv_core.specs.Tree.{Stmts, NoStmt, Then, Declare, Groups, NoGroup, Group, Method}

-- so many numbers in rising order, from this one on
abbrev pub numbers_from : (first count : ℕ) → List ℕ
numbers_from n zero = []
numbers_from n (suc count) = n ∷ numbers_from (suc n) count

-- the numbers of the methods of a class, in rising order; the first in the list has number n
abbrev pub methods_of : (class n : ℕ) → List Method → List ℕ
methods_of c n [] = []
methods_of c n (m ∷ ms) = if nat_eq m.class c then n ∷ methods_of c (suc n) ms else methods_of c (suc n) ms

abbrev mutual
  -- the slots that a statement declares, in the order of the text
  pub declared_in : Stmt → List ℕ
  declared_in (Block p body end) = declared_in_all body
  declared_in (Local p k e) = k ∷ []
  declared_in (If p c s) = declared_in s
  declared_in (IfElse p c s r) = declared_in s ++ declared_in r
  declared_in (While p l c s) = declared_in s
  declared_in (Do p l s c) = declared_in s
  declared_in (Switch p e groups end) = declared_in_groups groups
  declared_in _ = []

  pub declared_in_all : Stmts → List ℕ
  declared_in_all NoStmt = []
  declared_in_all (Then s more) = declared_in s ++ declared_in_all more
  declared_in_all (Declare p k e more) = k ∷ declared_in_all more

  pub declared_in_groups : Groups → List ℕ
  declared_in_groups NoGroup = []
  declared_in_groups (Group labels body end more) = declared_in_all body ++ declared_in_groups more

abbrev mutual
  -- the numbers of the loops in a statement, in the order of the text
  pub loops_in : Stmt → List ℕ
  loops_in (Block p body end) = loops_in_all body
  loops_in (If p c s) = loops_in s
  loops_in (IfElse p c s r) = loops_in s ++ loops_in r
  loops_in (While p l c s) = l ∷ loops_in s
  loops_in (Do p l s c) = l ∷ loops_in s
  loops_in (Switch p e groups end) = loops_in_groups groups
  loops_in _ = []

  pub loops_in_all : Stmts → List ℕ
  loops_in_all NoStmt = []
  loops_in_all (Then s more) = loops_in s ++ loops_in_all more
  loops_in_all (Declare p k e more) = loops_in_all more

  pub loops_in_groups : Groups → List ℕ
  loops_in_groups NoGroup = []
  loops_in_groups (Group labels body end more) = loops_in_all body ++ loops_in_groups more

-- the parameters come first; each other slot is declared once and each loop stands once, both in the order of the text
pub record IsNumbered (m : Method) : Type 0 where
  pub params : m.params ≤ length m.slots
  pub slots : declared_in_all m.body ≡ numbers_from m.params (length m.slots - m.params)
  pub loops : loops_in_all m.body ≡ numbers_from 0 (length m.loops)
