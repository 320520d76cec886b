use Rattle.std.proofs.Common.{Option, option_map, Bor, sym, ap, ◌∙◌}
use Rattle.vm_model.specs.declared.linked.LinkedMethod.{LinkedMethod}
use Rattle.vm_model.specs.View.{method_of}
use Rattle.vm_model.specs.Types.{FieldType, signature_of}
use Rattle.vm_model.specs.Tests.{result_in, descriptor_in}
use Rattle.vm_model.proofs.KeptTypes.{no_result}
use Rattle.vm_step.proofs.program.result_type.Goals as goal

abbrev answered_by : Option (Bor LinkedMethod) → Option FieldType
answered_by method = result_in (signature_of (descriptor_in (option_map (λ m. method_of m.now) method)))

pub returns-in-None : goal.returns-in-None
returns-in-None c = sym (ap answered_by c.in-None.is ∙ no_result)
