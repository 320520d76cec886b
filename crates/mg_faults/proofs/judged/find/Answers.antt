use Rattle.mg_sources.specs.Files.{sources}
use Rattle.mg_faults.proofs.Found.{accepted_found, refused_found}
use Rattle.mg_faults.proofs.judged.find.Goals as goal

pub returns : goal.returns
returns c = record {
  found = c.found.ensures;
  only = accepted_found (sources c.args.names.now c.args.contents.now) c.found.result c.found.ensures;
  refused = refused_found (sources c.args.names.now c.args.contents.now) c.found.result c.found.ensures;
}
