use Rattle.mg_sources.specs.Files.{sources}
use Rattle.mg_refined.proofs.Apart.{judged_answered, refused_untold}
use Rattle.mg_refined.proofs.refined.refine.Goals as goal

pub returns : goal.returns
returns c = record {
  answered = c.refined.ensures;
  only = judged_answered (sources c.args.names.now c.args.contents.now) c.refined.result c.refined.ensures;
  refused = refused_untold (sources c.args.names.now c.args.contents.now) c.refined.result c.refined.ensures;
}
