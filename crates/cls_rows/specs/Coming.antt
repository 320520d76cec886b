-- What an instruction comes to: its row isn't met, or it leaves a frame.
use Rattle.std.specs.Prelude.{◌≡◌, ℕ, ◌+◌, ◌<◌, Bool, not, ◌&&◌, List, length, Option, Some, None}
use Rattle.mg_text.specs.Call.{Name}
use Rattle.vm_model.specs.Program.{Program, MethodOf}
use Rattle.vm_model.specs.Actions.{Action}
use Rattle.vm_actions.specs.declared.action.Calling.{Calling}
use Rattle.vm_actions.specs.declared.action.Calling.TheVariants as callings
use Rattle.cls_verify.specs.Kinds.{Kind}
use Rattle.cls_verify.specs.Typing.{Kinds}
use Rattle.cls_verify.specs.BlockRows.{Row}
use Rattle.cls_kinds.specs.declared.kind.Kind.{Kind as Number}
use Rattle.cls_rows.specs.declared.frame.Frame.{Frame}
use Rattle.cls_rows.specs.declared.frame.Scene.{Scene}
use Rattle.cls_rows.specs.Frames.{kinds_at, IsScene, KeepsLocals}

-- a scene and a frame of a method, with the locals that aren't kept
pub record IsBefore (p : Program) (class method : ℕ) (m : MethodOf) (rest : List Kind) (s : Scene) (f : Frame) : Type 0 where
  pub scene : IsScene p class method m s
  pub keeps : KeepsLocals rest f
  pub whole : length f.locals.value.items + length rest ≡ m.max_locals

pub record Leaves (p : Program) (class method : ℕ) (m : MethodOf) (rest : List Kind) (names : List Name) (old new : List (List Number))
    (f : Frame) (a : Action)
    (g : Frame) : Type 0 where
  pub row : Row p class method m (kinds_at names rest old f) a (kinds_at names rest new g)
  pub there : g.operands < length new
  pub width : length g.locals.value.items ≡ length f.locals.value.items

-- no frame: the row isn't met
abbrev pub ComesTo : (p : Program) (class method : ℕ) (m : MethodOf) (rest : List Kind) (names : List Name) (old new : List (List Number)) →
    Frame → Action →
    Option Frame → Type 0
ComesTo p class method m rest names old new f a None = (left : Kinds) → Row p class method m (kinds_at names rest old f) a left → ⊥
ComesTo p class method m rest names old new f a (Some g) = Leaves p class method m rest names old new f a g

abbrev pub Comes : Scene → (old new : List (List Number)) → Frame → Action → Option Frame → Type 0
Comes s old new f a o = (p : Program) (class method : ℕ) (m : MethodOf) (rest : List Kind) → IsBefore p class method m rest s f →
    ComesTo p class method m rest s.program.now.names old new f a o

-- how a method may be called: on an object exactly where it isn't static, and then no built-in class has the name of its class
abbrev pub suits_in : Calling → (is_static is_built_in : Bool) → Bool
suits_in callings.Static is_static built = is_static
suits_in callings.Telling is_static built = not is_static && not built
suits_in callings.Silent is_static built = not is_static && not built
