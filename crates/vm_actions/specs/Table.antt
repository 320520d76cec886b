-- What the program's actions say.
use Rattle.std.specs.Prelude.{option_map}
use Rattle.vm_model.specs.declared.value.Value.{Value}
use Rattle.vm_model.specs.declared.value.Value.TheVariants as values
use Rattle.vm_model.specs.Actions as model
use Rattle.vm_actions.specs.declared.action.Sort.{Sort}
use Rattle.vm_actions.specs.declared.action.Sort.TheVariants as sorts
use Rattle.vm_actions.specs.declared.action.Operation.{Operation}
use Rattle.vm_actions.specs.declared.action.Operation.TheVariants as operations
use Rattle.vm_actions.specs.declared.action.Comparison.{Comparison}
use Rattle.vm_actions.specs.declared.action.Comparison.TheVariants as comparisons
use Rattle.vm_actions.specs.declared.action.Calling.{Calling}
use Rattle.vm_actions.specs.declared.action.Calling.TheVariants as callings
use Rattle.vm_actions.specs.declared.action.Constant.{Constant}
use Rattle.vm_actions.specs.declared.action.Constant.TheVariants as constants
use Rattle.vm_actions.specs.declared.action.Plain.{Plain}
use Rattle.vm_actions.specs.declared.action.Plain.TheVariants as plains
use Rattle.vm_actions.specs.declared.action.Action.{Action}
use Rattle.vm_actions.specs.declared.action.Action.TheVariants as actions

abbrev pub sort_of : Sort → model.Sort
sort_of sorts.Number = model.Number
sort_of sorts.Reference = model.Reference

abbrev pub operation_of : Operation → model.Operation
operation_of operations.Plus = model.Plus
operation_of operations.Minus = model.Minus
operation_of operations.Times = model.Times
operation_of operations.Divide = model.Divide
operation_of operations.Remain = model.Remain

abbrev pub comparison_of : Comparison → model.Comparison
comparison_of comparisons.Equal = model.Equal
comparison_of comparisons.Unequal = model.Unequal
comparison_of comparisons.Less = model.Less
comparison_of comparisons.AtLeast = model.AtLeast
comparison_of comparisons.Greater = model.Greater
comparison_of comparisons.AtMost = model.AtMost

abbrev pub calling_of : Calling → model.Calling
calling_of callings.Telling = model.Telling
calling_of callings.Silent = model.Silent
calling_of callings.Static = model.Static

abbrev pub constant_of : Constant → Value
constant_of (constants.Int x) = values.Int x
constant_of (constants.Text text) = values.Text text.now.value
constant_of constants.Null = values.Null

abbrev pub plain_of : Plain → model.Action
plain_of (plains.Push constant) = model.Push (constant_of constant)
plain_of (plains.Load sort local) = model.Load (sort_of sort) local
plain_of (plains.Store sort local) = model.Store (sort_of sort) local
plain_of plains.Pop = model.Pop
plain_of plains.Double = model.Double
plain_of plains.Swap = model.Swap
plain_of (plains.Compute operation) = model.Compute (operation_of operation)
plain_of plains.Negate = model.Negate
plain_of (plains.Increase local by) = model.Increase local by.now
plain_of (plains.IfZero comparison target) = model.IfZero (comparison_of comparison) target
plain_of (plains.IfBoth comparison target) = model.IfBoth (comparison_of comparison) target
plain_of (plains.IfNull wanted target) = model.IfNull wanted target
plain_of (plains.Go target) = model.Go target
plain_of (plains.Switch default low targets) = model.Switch default low.now targets.now

abbrev pub action_of : Action → model.Action
action_of (actions.Plain plain) = plain_of plain
action_of (actions.Return sort) = model.Return (option_map sort_of sort)
action_of (actions.Read class field) = model.Read class field
action_of (actions.Write class field) = model.Write class field
action_of (actions.Make class) = model.Make class
action_of (actions.Call calling class method) = model.Call (calling_of calling) class method
action_of (actions.Use member) = model.Use member
