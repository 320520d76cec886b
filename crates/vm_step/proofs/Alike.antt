-- Steps after steps, and what fits its typings behind them.
use Rattle.std.proofs.Common.{◌≡◌, ℕ, zero, suc, ◌+◌, sym, subst, arith}
use Rattle.vm_model.specs.Program.{Program}
use Rattle.vm_model.specs.Machine.{Machine}
use Rattle.cls_verify.specs.Typing.{AllTypable}
use Rattle.cls_verify.specs.Sound.{Sound}
use Rattle.vm_typed.proofs.Flatly.{step_sound}
use Rattle.vm_step.specs.Alone.{AllAlone}

pub steps_and : (p : Program) (m n k : Machine) (taken more : ℕ) → AllAlone p m taken n → AllAlone p n more k →
    AllAlone p m (taken + more) k
steps_and p m n k taken zero steps same =
    let none : taken + zero ≡ taken = omega arith in
    subst (λ j. AllAlone p m j k) (sym none) (subst (AllAlone p m taken) (sym same) steps)
steps_and p m n k taken (suc more) steps (o, (front, last)) =
    let next : taken + suc more ≡ suc (taken + more) = omega arith in
    subst (λ j. AllAlone p m j k) (sym next) (o, (steps_and p m n o taken more steps front, last))

pub steps_sound : (p : Program) → AllTypable p → (m n : Machine) (taken : ℕ) → Sound p m → AllAlone p m taken n → Sound p n
steps_sound p all m n zero sound same = subst (Sound p) (sym same) sound
steps_sound p all m n (suc taken) sound (o, (front, last)) = step_sound p all o n (steps_sound p all m o taken sound front) last
