use Rattle.std.proofs.Common.{◌≡◌, ℕ, ℤ, Bool, Some, refl, ap, ◌∙◌, subst, slice_get, w32, to_z, of_z, arith}
use Rattle.std.proofs.lemmas.Int.{to_z-of_z}
use Rattle.vm_model.specs.declared.value.Value.TheVariants as values
use Rattle.vm_model.specs.Machine.{Machine}
use Rattle.vm_model.specs.Program.{Int, Instr, MethodOf}
use Rattle.vm_model.specs.Actions.{Push, action, int_action}
use Rattle.vm_model.specs.View.{instr_of, method_of}
use Rattle.vm_session.specs.State.{state_of}
use Rattle.vm_step.specs.Alone.{Alone, Keeps}
use Rattle.vm_step.proofs.Quietly.{keeps_so}
use Rattle.vm_step.proofs.quiet.push_int.Goals as goal

module _ (m m' : Machine) (method : MethodOf) (i : Instr) (value : ℤ) (at : slice_get method.code m.frame.place ≡ Some i)
    (args : i.args ≡ Int value) where
  kept_so : (op : ℕ) (pushed : ℤ) (b : Bool) → i.op ≡ op → int_action op value ≡ Some (Push (values.Int value)) → pushed ≡ value →
      Alone method.max_stack (Push (values.Int pushed)) m m' b → Keeps m m' method b
  kept_so op pushed b is does same h =
      keeps_so m m' method i (Push (values.Int value)) b at
      (ap (action i.op) args ∙ ap (λ o. int_action o value) is ∙ does)
      (subst (λ v. Alone method.max_stack (Push (values.Int v)) m m' b) same h)

pub returns-in-16 : goal.returns-in-16
returns-in-16 c =
    let value : to_z w32 (of_z w32 c.args.value) ≡ c.args.value = grind (arith, to_z-of_z) in
    kept_so (state_of c.args.state.now) (state_of c.push_constant.new.state) (method_of c.args.method.now)
    (instr_of c.args.instr.now) c.args.value c.requires.at c.requires.args 16 (to_z w32 (of_z w32 c.args.value))
    c.push_constant.result c.in-16.is refl value c.push_constant.ensures

pub returns-in-17 : goal.returns-in-17
returns-in-17 c =
    let value : to_z w32 (of_z w32 c.args.value) ≡ c.args.value = grind (arith, to_z-of_z) in
    kept_so (state_of c.args.state.now) (state_of c.push_constant-in-17.new.state) (method_of c.args.method.now)
    (instr_of c.args.instr.now) c.args.value c.requires.at c.requires.args 17 (to_z w32 (of_z w32 c.args.value))
    c.push_constant-in-17.result c.in-17.is refl value c.push_constant-in-17.ensures

pub returns-in-18 : goal.returns-in-18
returns-in-18 c =
    let value : to_z w32 (of_z w32 c.args.value) ≡ c.args.value = grind (arith, to_z-of_z) in
    kept_so (state_of c.args.state.now) (state_of c.push_constant-in-18.new.state) (method_of c.args.method.now)
    (instr_of c.args.instr.now) c.args.value c.requires.at c.requires.args 18 (to_z w32 (of_z w32 c.args.value))
    c.push_constant-in-18.result c.in-18.is refl value c.push_constant-in-18.ensures

pub returns-in-19 : goal.returns-in-19
returns-in-19 c =
    let value : to_z w32 (of_z w32 c.args.value) ≡ c.args.value = grind (arith, to_z-of_z) in
    kept_so (state_of c.args.state.now) (state_of c.push_constant-in-19.new.state) (method_of c.args.method.now)
    (instr_of c.args.instr.now) c.args.value c.requires.at c.requires.args 19 (to_z w32 (of_z w32 c.args.value))
    c.push_constant-in-19.result c.in-19.is refl value c.push_constant-in-19.ensures
