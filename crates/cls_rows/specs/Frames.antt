-- What a frame says: the kinds of its locals and operands. Locals that no instruction names keep theirs.
use Rattle.std.specs.Prelude.{◌≡◌, ℕ, ◌≤◌, ◌⊎◌, List, [], ◌++◌, length, Some, option_map}
use Rattle.mg_text.specs.Call.{Name}
use Rattle.vm_model.specs.Program.{Program, MethodOf, method_at}
use Rattle.vm_model.specs.Types.{signature_of}
use Rattle.vm_model.specs.Tests.{result_in}
use Rattle.cls_verify.specs.Kinds.{Kind, kind_of_type}
use Rattle.cls_verify.specs.Typing.{Kinds}
use Rattle.cls_kinds.specs.declared.kind.Kind.{Kind as Number}
use Rattle.cls_kinds.specs.Stacks.{stack_at}
use Rattle.cls_kinds.specs.Named.{kind_of, kinds_of}
use Rattle.cls_table.specs.Tables.{AreKinds}
use Rattle.cls_rows.specs.declared.frame.Frame.{Frame}
use Rattle.cls_rows.specs.declared.frame.Scene.{Scene}

abbrev pub kinds_at : List Name → (rest : List Kind) → (stacks : List (List Number)) → Frame → Kinds
kinds_at names rest stacks f = record {
  locals = kinds_of names f.locals.value.items ++ rest;
  operands = kinds_of names (stack_at stacks f.operands);
}

-- a scene is that of a method of a program
pub record IsScene (p : Program) (class method : ℕ) (m : MethodOf) (s : Scene) : Type 0 where
  pub kinds : AreKinds p s.program.now
  pub there : method_at p class method ≡ Some m
  pub result : option_map (kind_of s.program.now.names) s.result ≡ option_map kind_of_type (result_in (signature_of m.descriptor))
  pub max_stack : s.max_stack ≡ m.max_stack

-- all locals that an instruction can name are kept
abbrev pub KeepsLocals : (rest : List Kind) → Frame → Type 0
KeepsLocals rest f = (rest ≡ []) ⊎ (256 ≤ length f.locals.value.items)
