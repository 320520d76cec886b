-- What the program's enums and classes say.
use Rattle.std.specs.Prelude.{map}
use Rattle.jv_core.specs.View.{class_of, enum_of}
use Rattle.jv_resolve.specs.declared.program.Heads.{Heads}
use Rattle.jv_resolve.specs.inner.Wholes.{Headed, heads}

abbrev pub heads_seen : Heads → Headed
heads_seen h = heads (map enum_of h.enums.items) (map class_of h.classes.items) h.names
