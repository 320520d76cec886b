use Rattle.std.proofs.Common.{option_map, sym, ap, ◌∙◌}
use Rattle.vm_load.proofs.Remembered.{found_right}
use Rattle.vm_load.proofs.uses.remembered.Goals as goal

pub returns-in-Some : goal.returns-in-Some
returns-in-Some c = λ os pool h.
    found_right os pool _ h c.args.key c.in-Some.args.now (sym c.get.ensures.value ∙ ap (option_map (λ x. x.now)) c.in-Some.is)
    c.shared.result c.shared.ensures
