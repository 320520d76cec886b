-- What contracts see of the sources of a command.
use Rattle.std.specs.Prelude.{map}
use Rattle.jv_tree.specs.View.{file_of}
use Rattle.mg_sources.specs.Sources.{Sourced}
use Rattle.mg_sources.specs.declared.sources.Sources.{Sources as KeptSources}

abbrev pub sourced_of : KeptSources → Sourced
sourced_of s = record {
  program = record { files = map file_of s.files.items; typestates = s.typestates.items };
  origins = s.origins.items;
}
