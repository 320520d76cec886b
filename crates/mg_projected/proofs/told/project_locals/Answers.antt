use Rattle.mg_sources.specs.Files.{source_of}
use Rattle.mg_projected.proofs.Located.{only_locals, refused_locals}
use Rattle.mg_projected.proofs.told.project_locals.Goals as goal

pub returns-clause-only : goal.returns-clause-only
returns-clause-only c = λ name.
    only_locals (source_of c.args.file name c.args.bytes.now) c.locals_told.result (c.locals_told.ensures name)

pub returns-clause-refused : goal.returns-clause-refused
returns-clause-refused c = λ name.
    refused_locals (source_of c.args.file name c.args.bytes.now) c.locals_told.result (c.locals_told.ensures name)
