-- Nothing is wrong with the next action of a machine that fits the typings of its program.
use Rattle.std.proofs.Common.{◌≡◌, Some, None, sym, ap, ◌∙◌, subst}
use Rattle.std.specs.Prelude.{slice_get}
use Rattle.vm_model.specs.Program.{Program, Instr}
use Rattle.vm_model.specs.Machine.{Machine}
use Rattle.vm_model.specs.Actions.{Action, action}
use Rattle.vm_model.specs.Tests.{needs, wrong, method_of_frame}
use Rattle.vm_model.specs.Step.{code_in}
use Rattle.cls_verify.specs.Typing.{AllTypable}
use Rattle.cls_verify.specs.Sound.{Sound}
use Rattle.cls_verify.specs.Courses.{NextIsRight}
use Rattle.cls_verify.proofs.Rightly.{sound_is_right}

some_is : {A : Type 0} (x y : A) → Some x ≡ Some y → x ≡ y
some_is x y e = cc

pub right_next : (p : Program) → AllTypable p → (m : Machine) → Sound p m → (i : Instr) (a : Action) →
    slice_get (code_in (method_of_frame p m.frame)) m.frame.place ≡ Some i → action i.op i.args ≡ Some a →
    wrong p (needs p m a) m ≡ None
right_next p all m sound i a there acts =
    let r : NextIsRight p m = sound_is_right p all m sound in
    let instr : r.instr ≡ i = some_is r.instr i (sym r.there ∙ there) in
    let same : r.action_is ≡ a = some_is r.action_is a (sym r.acts ∙ ap (λ (k : Instr). action k.op k.args) instr ∙ acts) in
    subst (λ b. wrong p (needs p m b) m ≡ None) same r.right
