-- What is remembered of the constants of a class.
use Rattle.std.specs.Prelude.{◌≡◌, List, Option, Some, Ok}
use Rattle.cls_tree.specs.declared.class.Const.{Const}
use Rattle.vm_model.specs.declared.linked.LinkedArgs.{LinkedArgs}
use Rattle.vm_model.specs.View.{args_of}
use Rattle.vm_model.specs.Links.{Outline, judged_pool}
use Rattle.vm_load.specs.declared.uses.Use.{Use}

-- each constant that is found behind an opcode means what is found
pub record AreRight (os : List Outline) (pool : List Const) (find : Use → Option LinkedArgs) : Type 0 where
  pub each : (u : Use) (args : LinkedArgs) → find u ≡ Some args → judged_pool os pool u.op u.number ≡ Ok (args_of args)
