use Rattle.mg_projected.proofs.Located.{written_found}
use Rattle.mg_projected.proofs.files.projected_of.Goals as goal

pub returns-in-Ok-files_of : goal.returns-in-Ok-files_of
returns-in-Ok-files_of c =
    written_found c.args.file c.args.bytes.now c.in-Ok.found c.as_slice.result.now c.in-Ok-files_of.files c.in-Ok.ensures
    c.as_slice.ensures.items c.in-Ok-files_of.ensures
