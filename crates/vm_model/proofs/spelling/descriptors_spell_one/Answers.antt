use Rattle.vm_model.proofs.Spelled as law
use Rattle.vm_model.proofs.spelling.descriptors_spell_one.Goals as goal

pub returns-clause-method : goal.returns-clause-method
returns-clause-method c = λ d s. law.method_exact d s

pub returns-clause-field : goal.returns-clause-field
returns-clause-field c = λ d t. law.field_exact d t

pub returns-clause-one_signature : goal.returns-clause-one_signature
returns-clause-one_signature c = λ d s t h k. law.one_signature d s t h k

pub returns-clause-one_descriptor : goal.returns-clause-one_descriptor
returns-clause-one_descriptor c = λ d e s h k. law.one_descriptor d e s h k
