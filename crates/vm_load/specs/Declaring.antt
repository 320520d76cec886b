-- What the program's names of members and its declared members say.
use Rattle.cls_tree.specs.Pool.{Signature, Reference}
use Rattle.vm_model.specs.Links.{Declared}
use Rattle.vm_load.specs.declared.pool.NamedType.{NamedType}
use Rattle.vm_load.specs.declared.pool.Named.{Named}
use Rattle.vm_load.specs.declared.declared.Declared.{Declared as KeptDeclared}

abbrev pub named_of : NamedType → Signature
named_of n = record { name = n.name.now; descriptor = n.descriptor.now }

abbrev pub member_of : Named → Reference
member_of n = record { class = n.class.now; member = record { name = n.name.now; descriptor = n.descriptor.now } }

abbrev pub declared_of : KeptDeclared → Declared
declared_of d = record { name = d.name.now; descriptor = d.descriptor.now; is_static = d.is_static }
