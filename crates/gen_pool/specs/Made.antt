-- What a step made, and the pool that it left.
use Rattle.std.specs.Prelude.{◌≡◌, ◌++◌, List, length, position, None}
use Rattle.cls_tree.specs.declared.class.Const.{Const}
use Rattle.cls_tree.specs.Emitted.{same_const}

-- a value and a pool are those of a pair
pub record IsMade {A : Type 0} (a : A) (pool : List Const) (made : A × List Const) : Type 0 where
  pub value : a ≡ made.0
  pub left : pool ≡ made.1

-- the pool of a class file has no room for a constant: it has as many as it can, and none is the same
pub record IsFull (entry : Const) (pool : List Const) : Type 0 where
  pub is_new : position (same_const entry) pool ≡ None
  pub has_most : length pool ≡ 65534

-- the larger pool holds the entries of the other one first
pub record IsFrontOf (pool larger : List Const) : Type 0 where
  pub more : List Const
  pub is : larger ≡ pool ++ more
