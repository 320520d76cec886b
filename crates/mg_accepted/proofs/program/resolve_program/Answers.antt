use Rattle.mg_sources.specs.Files.{sources}
use Rattle.mg_accepted.proofs.Resolved.{core_answered, refused_no_core}
use Rattle.mg_accepted.proofs.program.resolve_program.Goals as goal

pub returns : goal.returns
returns c = record {
  answered = c.core_of.ensures;
  only = core_answered (sources c.args.names.now c.args.contents.now) c.core_of.result c.core_of.ensures;
  refused = refused_no_core (sources c.args.names.now c.args.contents.now) c.core_of.result c.core_of.ensures;
}
