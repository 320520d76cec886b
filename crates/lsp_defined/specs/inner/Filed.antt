-- A file of a program, as the code has it.
use Rattle.mg_sources.specs.Files.{Source, source_of}
use Rattle.lsp_defined.specs.declared.files.SourceFile.{SourceFile}

abbrev pub source_in : SourceFile → Source
source_in f = source_of f.number f.name.now f.bytes.now
