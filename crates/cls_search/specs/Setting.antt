-- A method that is searched: what stays the same in all of it.
use Rattle.std.specs.Prelude.{◌≡◌, ℕ, ◌+◌, ◌≤◌, ◌⊎◌, List, [], length, Bool, true, Some, slice_get, Contains}
use Rattle.mg_text.specs.Call.{Name}
use Rattle.vm_model.specs.Program.{Program, Instr, MethodOf, method_at}
use Rattle.vm_model.specs.Actions.{Action, action}
use Rattle.cls_verify.specs.Kinds.{Kind}
use Rattle.cls_verify.specs.Typing.{arguments}
use Rattle.cls_verify.specs.Blocks.{jumps}
use Rattle.cls_kinds.specs.Named.{AreNames}

pub record Setting : Type 0 where
  pub p : Program
  pub class : ℕ
  pub method : ℕ
  pub m : MethodOf
  pub there : method_at p class method ≡ Some m
  pub names : List Name
  pub are_names : AreNames names
  -- the locals that no instruction names, and how many are kept
  pub rest : List Kind
  pub width : ℕ
  pub whole : width + length rest ≡ m.max_locals
  pub kept : (rest ≡ []) ⊎ (256 ≤ width)
  -- there are locals for all arguments
  pub fits : length (arguments p class m) ≤ m.max_locals
  -- ways may join where one jumps to, and at the first place
  pub joins : ℕ → Bool
  pub first_joined : joins 0 ≡ true
  pub joined : (place : ℕ) (i : Instr) (a : Action) → slice_get m.code place ≡ Some i → action i.op i.args ≡ Some a →
      (next : ℕ) → Contains (jumps a) next → joins next ≡ true
