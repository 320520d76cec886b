-- What an instruction leaves of the kinds that it finds, where its row is met by all values of them.
use Rattle.std.specs.Prelude.{◌≡◌, ℕ, ◌≤◌, List, ◌++◌, length, Some, slice_get}
use Rattle.vm_model.specs.Program.{Program, Instr, MethodOf}
use Rattle.vm_model.specs.Actions.{Action, action}
use Rattle.cls_verify.specs.Kinds.{Kind}
use Rattle.cls_verify.specs.Rows.{Names}
use Rattle.cls_verify.specs.Typing.{Kinds, Meets, asks}
use Rattle.cls_verify.specs.Search.{left_by}

pub record Row (p : Program) (class method : ℕ) (m : MethodOf) (k : Kinds) (a : Action) (left : Kinds) : Type 0 where
  pub below : List Kind
  pub taken : List Kind
  pub split : k.operands ≡ below ++ taken
  pub meets : Meets (asks p class method k a) k.locals taken
  pub names : Names p a
  pub left_is : left ≡ left_by p a k.locals below taken
  pub room : length left.operands ≤ m.max_stack

-- the instruction at a place
pub record RowAt (p : Program) (class method : ℕ) (m : MethodOf) (place : ℕ) (k left : Kinds) : Type 0 where
  pub instr : Instr
  pub there : slice_get m.code place ≡ Some instr
  pub action_is : Action
  pub acts : action instr.op instr.args ≡ Some action_is
  pub row : Row p class method m k action_is left
