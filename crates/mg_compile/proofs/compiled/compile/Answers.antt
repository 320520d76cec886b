use Rattle.mg_sources.specs.Files.{sources}
use Rattle.mg_compile.proofs.Apart.{compiled_answered, refused_no_files}
use Rattle.mg_compile.proofs.compiled.compile.Goals as goal

pub returns : goal.returns
returns c = record {
  answered = c.compiled.ensures;
  only = compiled_answered (sources c.args.names.now c.args.contents.now) c.compiled.result c.compiled.ensures;
  refused = refused_no_files (sources c.args.names.now c.args.contents.now) c.compiled.result c.compiled.ensures;
}
