-- What contracts see of what files spell.
use Rattle.scr_tree.specs.Local.{tree_of}
use Rattle.jv_tree.specs.View.{file_of}
use Rattle.mg_sources.specs.Reading.{Part, Protocol, States, Classes}
use Rattle.mg_sources.specs.declared.part.Part.{Part as KeptPart}
use Rattle.mg_sources.specs.declared.part.Part.TheVariants as parts

abbrev pub part_of : KeptPart → Part
part_of (parts.Protocol local) = Protocol (tree_of local)
part_of (parts.States typestate) = States typestate
part_of (parts.Classes file) = Classes (file_of file)
