-- What contracts see of a file that was made.
use Rattle.jv_tree.specs.View.{file_of}
use Rattle.stm_api.specs.Api.{ApiText}
use Rattle.stm_api.specs.declared.files.ApiFile.{ApiFile}

abbrev pub written_of : ApiFile → ApiText
written_of f = record { name = f.name; tree = file_of f.tree; text = f.text }
