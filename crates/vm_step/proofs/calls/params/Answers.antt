use Rattle.std.proofs.Common.{◌∙◌, length, sym, ap}
use Rattle.std.proofs.lemmas.List.{length-map}
use Rattle.vm_model.specs.Types.{signature_of}
use Rattle.vm_model.specs.Kept.{type_kept}
use Rattle.vm_model.proofs.KeptTypes.{params_are, no_params}
use Rattle.vm_step.proofs.Calling.{params_taken}
use Rattle.vm_step.proofs.calls.params.Goals as goal

pub returns-in-Some-clause-value : goal.returns-in-Some-clause-value
returns-in-Some-clause-value c =
    let m = c.in-Some.method.now in
    c.len.ensures.value ∙ sym (length-map m.params.items type_kept)
    ∙ ap length (params_are m.params.items (signature_of m.descriptor) m.takes)
    ∙ sym (ap params_taken c.in-Some.is)

pub returns-in-None-clause-value : goal.returns-in-None-clause-value
returns-in-None-clause-value c = sym (ap params_taken c.in-None.is ∙ ap length no_params)
