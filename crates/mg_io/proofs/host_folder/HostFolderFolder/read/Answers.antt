use Rattle.std.proofs.Common.{◌≡◌, take}
use Rattle.std.specs.Prelude.{IfSome}
use Rattle.mg_io.proofs.Answered.{of_some_file}
use Rattle.mg_io.proofs.host_folder.HostFolderFolder.read.Goals as goal

pub returns-clause-front : goal.returns-clause-front
returns-clause-front g c =
    of_some_file (λ file bytes. IfSome (g.R.File.Read.remaining file) (λ all. bytes ≡ take c.args.limit all))
    c.open-opened.result c.read_opened-result.result c.noted.result
    c.read_opened-result.ensures.content c.read_opened-result.ensures.refused c.noted.ensures.same
