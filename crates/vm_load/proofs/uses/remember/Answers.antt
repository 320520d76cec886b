use Rattle.std.proofs.Common.{◌≡◌, Ok, sym, ap, ◌∙◌}
use Rattle.vm_model.specs.View.{args_of}
use Rattle.vm_load.proofs.Remembered.{right_on}
use Rattle.vm_load.proofs.uses.remember.Goals as goal

pub returns : goal.returns
returns c = λ os pool h right.
    let same : args_of c.in-Some.args ≡ args_of c.args.args.now = rw c.in-Some.is at c.in_ok-args.ensures in
    right_on os pool _ h c.args.key c.in-Some.args (right ∙ ap Ok (sym same)) _ c.in_ok-insert.ensures.updates.0
