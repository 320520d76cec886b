-- The code of a method of a program that a class file can hold: it can be encoded, and its stack is never deeper than it is long.
use Rattle.std.specs.Prelude.{◌≤◌, length}
use Rattle.jv_core.specs.Tree.{Method, Program}
use Rattle.gen_rules.specs.Frames.{max_stack, max_locals}
use Rattle.gen_rules.specs.inner.Generating.{generated}
use Rattle.gen_links.specs.Encodable.{AreEncodable}
use Rattle.gen_links.specs.Held.{IsHeld, HoldsStmts}

-- The code of a method can be encoded where its locals are at most 255, and no more operands stand on its stack than it has instructions.
pub record CodeFits : Type 0 where
  pub encodable : (p : Program) (m : Method) → IsHeld p → HoldsStmts m.body → max_locals m ≤ 255 → AreEncodable (generated p m)
  pub depth : (p : Program) (m : Method) → IsHeld p → HoldsStmts m.body → max_locals m ≤ 255 → max_stack p m ≤ length (generated p m)
