use Rattle.std.specs.Prelude.{length}
use Rattle.mg_sources.specs.Files.{source_of, sources}
use Rattle.mg_fitted.proofs.Apart.{only_fitted, refused_unfitted}
use Rattle.mg_fitted.proofs.fitted.fit.Goals as goal

pub returns-clause-only : goal.returns-clause-only
returns-clause-only c = λ name.
    only_fitted (source_of (length c.args.names.now) name c.args.global.now) (sources c.args.names.now c.args.contents.now) c.args.mains.now
    c.fitted.result (c.fitted.ensures name)

pub returns-clause-refused : goal.returns-clause-refused
returns-clause-refused c = λ name.
    refused_unfitted (source_of (length c.args.names.now) name c.args.global.now) (sources c.args.names.now c.args.contents.now)
    c.args.mains.now c.fitted.result (c.fitted.ensures name)
