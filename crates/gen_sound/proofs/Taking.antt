-- An instruction of running code that takes operands and gives others.
use Rattle.std.proofs.Common.{◌≡◌, ℕ, ◌+◌, ◌-◌, ◌≤◌, List, ◌++◌, length, Option, Some, sym, ap, ◌∙◌, subst, arith}
use Rattle.std.specs.Prelude.{slice_get}
use Rattle.std.proofs.lemmas.List.{length-append}
use Rattle.jv_values.specs.Values.{Shared}
use Rattle.jv_core.specs.Tree.{Method, Program}
use Rattle.vm_model.specs.declared.value.Value.{Value as Held}
use Rattle.vm_model.specs.Program as linked
use Rattle.vm_model.specs.Links.{Outline}
use Rattle.vm_model.specs.Messages.{Messages}
use Rattle.vm_model.specs.Machine.{Machine}
use Rattle.vm_model.specs.Actions.{Action}
use Rattle.vm_model.specs.Tests.{Want, needs, taking, misfit_read, method_of_frame, max_stack_in}
use Rattle.vm_model.specs.Step.{step, act, act_at, act_some, acts, code_in}
use Rattle.gen_rules.specs.Symbolic.{Instr}
use Rattle.gen_rules.specs.Frames.{max_stack}
use Rattle.gen_sound.specs.Related.{Running, moment, heap_in, action_of, RunsCode}
use Rattle.cls_verify.proofs.Acts.{AllMeet, acts_well, as_many}

-- what stays of the room of operands once some are taken
left_room : (whole rest args takes gives most : ℕ) → whole ≡ rest + args → takes ≡ args → rest + gives ≤ most →
    whole - takes + gives ≤ most
left_room whole rest args takes gives most a b c = omega arith

module _ (p : Program) (os : List Outline) (linked : linked.Program) (me : ℕ) (r : Running) (m : Method) (code : List Instr)
    (runs : RunsCode p os linked me r m code) where
  abbrev pub Here : Type 0
  Here = Shared

  -- the most operands of the running frame
  pub most : (place : ℕ) (st : List Held) (ls : List (Option Held)) (s : Shared) (q : Messages) →
      max_stack_in (method_of_frame linked (moment p r place st ls s q).machine.frame) ≡ max_stack p m
  most place st ls s q = ap max_stack_in runs.at ∙ runs.stack

  -- a step does the action of the instruction
  pub step_is : (place : ℕ) (st : List Held) (ls : List (Option Held)) (s : Shared) (q : Messages) (i : Instr) (a : Action) →
      slice_get code place ≡ Some i → action_of os i ≡ Some a →
      step linked me (moment p r place st ls s q).machine q ≡ act linked q (moment p r place st ls s q).machine me a
  step_is place st ls s q i a at is =
      ap (λ o. act_at linked q (moment p r place st ls s q).machine me (slice_get (code_in o) place)) runs.at
      ∙ runs.does place i at q (moment p r place st ls s q).machine
      ∙ ap (act_some linked q (moment p r place st ls s q).machine me) is

  -- where it takes operands as it wants them, and there is room for what it gives
  pub step_takes : (place : ℕ) (st : List Held) (ls : List (Option Held)) (s : Shared) (q : Messages) (i : Instr) (a : Action) →
      slice_get code place ≡ Some i → action_of os i ≡ Some a →
      (rest args : List Held) (takes : List Want) (gives : ℕ) → st ≡ rest ++ args →
      needs linked (moment p r place st ls s q).machine a ≡ taking linked (moment p r place st ls s q).machine takes gives →
      AllMeet linked (heap_in p s.heap) takes args → length rest + gives ≤ max_stack p m →
      step linked me (moment p r place st ls s q).machine q ≡ acts linked q (moment p r place st ls s q).machine me rest args a
  step_takes place st ls s q i a at is rest args takes gives split needed meet room =
      let state : Machine = (moment p r place st ls s q).machine in
      step_is place st ls s q i a at is
      ∙ acts_well linked q state me a rest args split
      (subst (λ n. AllMeet linked (heap_in p s.heap) n.takes args) (sym needed) meet)
      (ap (λ n. misfit_read n.reads ls) needed)
      (subst (λ n. n.locals ≤ n.of_locals) (sym needed) (omega arith))
      (ap (λ n. n.returns) needed)
      (subst (λ n. n.operands ≤ n.max_stack) (sym needed)
      (subst (λ k. length st - length takes + gives ≤ k) (sym (most place st ls s q))
      (left_room (length st) (length rest) (length args) (length takes) gives (max_stack p m)
      (ap length split ∙ length-append rest args) (as_many linked (heap_in p s.heap) takes args meet) room)))
