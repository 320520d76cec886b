-- What flat instructions say, and when a program of them is that of a linked program.
use Rattle.std.specs.Prelude.{◌≡◌, ℕ, ◌≤◌, List, [], length, slice_get, true, false, Option, Some, None, IfSome}
use Rattle.std.specs.List.{AllZip}
use Rattle.vm_model.specs.declared.value.Value.TheVariants as values
use Rattle.vm_model.specs.Program.{Program, Instr, MethodOf, ClassOf}
use Rattle.vm_model.specs.Types.{signature_of}
use Rattle.vm_model.specs.declared.linked.Built.TheVariants as builts
use Rattle.vm_model.specs.Tests.{params_in}
use Rattle.vm_model.specs.Actions.{Action, action}
use Rattle.vm_model.specs.Actions as model
use Rattle.vm_actions.specs.Table.{sort_of}
use Rattle.vm_flat.specs.declared.flat.Flat.{Flat}
use Rattle.vm_flat.specs.declared.flat.Flat.TheVariants as flats
use Rattle.vm_flat.specs.declared.program.FlatMethod.{FlatMethod}
use Rattle.vm_flat.specs.declared.program.FlatClass.{FlatClass}
use Rattle.vm_flat.specs.declared.program.FlatProgram.{FlatProgram}

-- what a flat instruction does, where that is known
abbrev pub action_of_flat : Flat → Option Action
action_of_flat (flats.Int x) = Some (model.Push (values.Int x))
action_of_flat flats.Null = Some (model.Push values.Null)
action_of_flat (flats.Load sort local) = Some (model.Load (sort_of sort) local)
action_of_flat (flats.Store sort local) = Some (model.Store (sort_of sort) local)
action_of_flat flats.Pop = Some model.Pop
action_of_flat flats.Double = Some model.Double
action_of_flat flats.Swap = Some model.Swap
action_of_flat flats.Plus = Some (model.Compute model.Plus)
action_of_flat flats.Minus = Some (model.Compute model.Minus)
action_of_flat flats.Times = Some (model.Compute model.Times)
action_of_flat flats.Divide = Some (model.Compute model.Divide)
action_of_flat flats.Remain = Some (model.Compute model.Remain)
action_of_flat flats.Negate = Some model.Negate
action_of_flat (flats.Increase local by) = Some (model.Increase local by)
action_of_flat (flats.IfZeroEqual target) = Some (model.IfZero model.Equal target)
action_of_flat (flats.IfZeroUnequal target) = Some (model.IfZero model.Unequal target)
action_of_flat (flats.IfZeroLess target) = Some (model.IfZero model.Less target)
action_of_flat (flats.IfZeroAtLeast target) = Some (model.IfZero model.AtLeast target)
action_of_flat (flats.IfZeroGreater target) = Some (model.IfZero model.Greater target)
action_of_flat (flats.IfZeroAtMost target) = Some (model.IfZero model.AtMost target)
action_of_flat (flats.IfBothEqual target) = Some (model.IfBoth model.Equal target)
action_of_flat (flats.IfBothUnequal target) = Some (model.IfBoth model.Unequal target)
action_of_flat (flats.IfBothLess target) = Some (model.IfBoth model.Less target)
action_of_flat (flats.IfBothAtLeast target) = Some (model.IfBoth model.AtLeast target)
action_of_flat (flats.IfBothGreater target) = Some (model.IfBoth model.Greater target)
action_of_flat (flats.IfBothAtMost target) = Some (model.IfBoth model.AtMost target)
action_of_flat (flats.IfNull target) = Some (model.IfNull true target)
action_of_flat (flats.IfNotNull target) = Some (model.IfNull false target)
action_of_flat (flats.Go target) = Some (model.Go target)
action_of_flat flats.ReturnNothing = Some (model.Return None)
action_of_flat (flats.Return sort) = Some (model.Return (Some (sort_of sort)))
action_of_flat (flats.Read class field) = Some (model.Read class field)
action_of_flat (flats.Write class field) = Some (model.Write class field)
action_of_flat (flats.CallStatic class method) = Some (model.Call model.Static class method)
action_of_flat (flats.CallSilent class method) = Some (model.Call model.Silent class method)
action_of_flat (flats.CallTelling class method) = Some (model.Call model.Telling class method)
action_of_flat flats.Out = Some (model.Use builts.Out)
action_of_flat flats.Other = None

-- what a flat instruction is known to do is what the instruction does
abbrev pub IsFlatInstr : Flat → Instr → Type 0
IsFlatInstr flat instr = IfSome (action_of_flat flat) (λ a. action instr.op instr.args ≡ Some a)

-- the same instructions, one for one, with as many locals and parameters; a method may have as many operands as 16 bits say
pub record IsFlatMethod (flat : FlatMethod) (method : MethodOf) : Type 0 where
  pub code : AllZip IsFlatInstr flat.code.items method.code
  pub locals : flat.max_locals ≡ method.max_locals
  pub params : flat.params ≡ length (params_in (signature_of method.descriptor))
  pub room : method.max_stack ≤ 65535

abbrev pub IsFlatClass : FlatClass → ClassOf → Type 0
IsFlatClass flat class = AllZip IsFlatMethod flat.methods.items class.methods

-- the same classes, one for one, with the same methods
abbrev pub IsFlatOf : FlatProgram → Program → Type 0
IsFlatOf flat p = AllZip IsFlatClass flat.classes.items p

-- the flat method of these numbers
abbrev pub flat_methods : Option FlatClass → List FlatMethod
flat_methods None = []
flat_methods (Some c) = c.methods.items

abbrev pub flat_method_at : FlatProgram → (class method : ℕ) → Option FlatMethod
flat_method_at flat class method = slice_get (flat_methods (slice_get flat.classes.items class)) method

-- a flat method stands for a method, or neither is there
abbrev pub StandsFor : Option FlatMethod → Option MethodOf → Type 0
StandsFor (Some flat) (Some method) = IsFlatMethod flat method
StandsFor None None = Unit {0}
StandsFor _ _ = ⊥
