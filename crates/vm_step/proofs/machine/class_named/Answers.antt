use Rattle.std.proofs.Common.{◌∙◌, sym, ap}
use Rattle.std.specs.List.{position}
use Rattle.std.specs.Str.{bytes_eq}
use Rattle.vm_model.specs.Program.{ClassOf}
use Rattle.vm_model.specs.View.{class_of}
use Rattle.vm_step.proofs.Places.{position-map}
use Rattle.vm_step.proofs.machine.class_named.Goals as goal

pub returns-in-Some : goal.returns-in-Some
returns-in-Some c =
    c.in-Some.ensures.place
    ∙ sym (position-map class_of (λ k. bytes_eq k.name c.args.name.now) c.classes.result.now)
    ∙ ap (position (λ (k : ClassOf). bytes_eq k.name c.args.name.now)) c.classes.ensures.classes

pub returns-in-None : goal.returns-in-None
returns-in-None c =
    c.in-None.ensures.place
    ∙ sym (position-map class_of (λ k. bytes_eq k.name c.args.name.now) c.classes.result.now)
    ∙ ap (position (λ (k : ClassOf). bytes_eq k.name c.args.name.now)) c.classes.ensures.classes
