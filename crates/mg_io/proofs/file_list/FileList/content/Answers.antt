use Rattle.std.proofs.Common.{◌∙◌, sym, ap, Some}
use Rattle.std.specs.FinMap as map
use Rattle.mg_io.proofs.Files.{get-files_of}
use Rattle.mg_io.proofs.file_list.FileList.content.Goals as goal

pub returns-in-Some : goal.returns-in-Some
returns-in-Some c =
    ap Some c.as_slice.ensures ∙ c.in-Some.ensures.value
    ∙ sym (get-files_of c.self.inside.files.entries c.args.name.now)
    ∙ ap (λ m. map.get m c.args.name.now) c.self.view_is

pub returns-in-None : goal.returns-in-None
returns-in-None c =
    c.in-None.ensures.value
    ∙ sym (get-files_of c.self.inside.files.entries c.args.name.now)
    ∙ ap (λ m. map.get m c.args.name.now) c.self.view_is
