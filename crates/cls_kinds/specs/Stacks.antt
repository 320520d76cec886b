-- Lists of operands by numbers: 0 is the empty one, and each other one is an older one with a kind on top.
use Rattle.std.specs.Prelude.{◌≡◌, ℕ, ◌+◌, ◌<◌, ◌≤◌, ◌^◌, true, false, List, [], ◌∷◌, ◌++◌, length, fold, get_or}
use Rattle.cls_kinds.specs.declared.kind.Kind.{Kind}
use Rattle.cls_kinds.specs.declared.stacks.Node.{Node}
use Rattle.cls_kinds.specs.Numbers.{is_raised}

-- the list of a number
abbrev pub stack_at : List (List Kind) → ℕ → List Kind
stack_at stacks i = get_or stacks i []

abbrev pub with_node : List (List Kind) → Node → List (List Kind)
with_node stacks n = stacks ++ (stack_at stacks n.below ++ n.kind ∷ []) ∷ []

abbrev pub stacks_of : List Node → List (List Kind)
stacks_of nodes = fold with_node ([] ∷ []) nodes

-- each list stands on an older one, and knows how long it is
pub record AreNodes (nodes : List Node) : Type 0 where
  pub few : length nodes < 2 ^ 32
  pub below : (i : ℕ) (d : Node) → i < length nodes → (get_or nodes i d).below ≤ i
  pub depth : (i : ℕ) (d : Node) → i < length nodes → (get_or nodes i d).depth ≡ length (stack_at (stacks_of nodes) (i + 1))

-- these lists are there, and maybe more behind them
pub record Grows (old new : List (List Kind)) : Type 0 where
  pub more : List (List Kind)
  pub is : new ≡ old ++ more

-- the second list is what both fit, and the first isn't
pub record IsHigher (from to : List Kind) : Type 0 where
  pub higher : is_raised from to ≡ true
  pub highest : is_raised to from ≡ false

-- a list and the one to which it was raised
pub record IsRaised (stacks : List (List Kind)) (from to : ℕ) : Type 0 where
  pub from_there : from < length stacks
  pub to_there : to < length stacks
  pub higher : IsHigher (stack_at stacks from) (stack_at stacks to)

-- what is noted of lists that were raised: behind each number less one that to which it was raised, or 0
abbrev pub AreRaised : List (List Kind) → List ℕ → Type 0
AreRaised stacks raised = (i : ℕ) → 0 < get_or raised i 0 → IsRaised stacks (i + 1) (get_or raised i 0)

pub record AreStacks (nodes : List Node) (raised : List ℕ) : Type 0 where
  pub made : AreNodes nodes
  pub noted : AreRaised (stacks_of nodes) raised
