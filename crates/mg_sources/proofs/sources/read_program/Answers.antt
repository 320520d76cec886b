use Rattle.mg_sources.specs.Files.{sources}
use Rattle.mg_sources.proofs.Programs.{that_alone, no_program}
use Rattle.mg_sources.proofs.sources.read_program.Goals as goal

pub returns : goal.returns
returns c = record {
  answered = c.program_of.ensures;
  only = that_alone (sources c.args.names.now c.args.contents.now) c.program_of.result c.program_of.ensures;
  refused = no_program (sources c.args.names.now c.args.contents.now) c.program_of.result c.program_of.ensures;
}
