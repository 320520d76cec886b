use Rattle.std.proofs.Common.{◌∙◌, sym, ap}
use Rattle.std.specs.List.{position}
use Rattle.vm_model.specs.declared.linked.LinkedMethod.{LinkedMethod}
use Rattle.vm_model.specs.View.{method_of}
use Rattle.vm_model.specs.Start.{is_main, main_in}
use Rattle.vm_step.proofs.Places.{position-map}
use Rattle.vm_step.proofs.machine.main_in.Goals as goal

pub returns-in-Some-main_place : goal.returns-in-Some-main_place
returns-in-Some-main_place c =
    c.in-Some-main_place.ensures.place
    ∙ ap (position (λ (m : LinkedMethod). is_main (method_of m))) c.as_slice.ensures.items
    ∙ sym (position-map method_of is_main c.in-Some.class.now.methods.items)
    ∙ ap main_in c.in-Some.ensures

pub returns-in-None : goal.returns-in-None
returns-in-None c =
    c.in-None.ensures.place
    ∙ ap (position (λ (m : LinkedMethod). is_main (method_of m))) c.as_slice.ensures.items
    ∙ sym (position-map method_of is_main c.in-Some.class.now.methods.items)
    ∙ ap main_in c.in-Some.ensures
