use Rattle.vm_model.proofs.Descriptors.{param_name_on}
use Rattle.vm_model.proofs.types.read_param_name.Goals as goal

pub returns-else-byte-eq59-clause-reads : goal.returns-else-byte-eq59-clause-reads
returns-else-byte-eq59-clause-reads c = λ params.
    param_name_on c.args.descriptor.now c.args.start c.args.at c.args.byte params c.to.result c.requires.order c.requires.within
    c.requires.byte c.if-byte-eq59.false c.to.ensures
