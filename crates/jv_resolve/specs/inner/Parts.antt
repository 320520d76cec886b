-- The core that parts are.
use Rattle.jv_core.specs.Tree.{Program}
use Rattle.jv_core.specs.View.{program_of}
use Rattle.jv_resolve.specs.declared.program.Parts.{Parts}

abbrev pub parts_seen : Parts → Program
parts_seen p = program_of p.classes.items p.enums.items p.methods.items p.typestates.items p.names
