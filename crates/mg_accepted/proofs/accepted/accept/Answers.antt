use Rattle.mg_sources.specs.Files.{sources}
use Rattle.mg_accepted.proofs.Usages.{accepted_answered, refused_no_program}
use Rattle.mg_accepted.proofs.accepted.accept.Goals as goal

pub returns : goal.returns
returns c = record {
  answered = c.verdict.ensures;
  only = accepted_answered (sources c.args.names.now c.args.contents.now) c.verdict.result c.verdict.ensures;
  refused = refused_no_program (sources c.args.names.now c.args.contents.now) c.verdict.result c.verdict.ensures;
}
