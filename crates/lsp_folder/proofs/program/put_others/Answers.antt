use Rattle.std.proofs.Common.{◌≡◌, ℕ, Bool, List, ◌++◌, ap, subst, ◌∙◌}
use Rattle.std.specs.Prelude.{OnOk}
use Rattle.lsp_folder.specs.Noted.{among, noted_in}
use Rattle.lsp_folder.specs.Programs.{open_names}
use Rattle.lsp_folder.specs.inner.Left.{left_among}
use Rattle.lsp_folder.proofs.program.put_others.Goals as goal

pub returns : goal.returns
returns c =
    let test : noted_in c.in_ok-opened.opened ≡ among (open_names c.args.documents.now) =
    c.in_ok-opened.ensures ∙ ap among (c.as_slice.ensures.value ∙ c.in_ok-names.ensures) in
    subst (λ (has : List ℕ → Bool). OnOk c.put_read.result
    (c.put_read.new.members.items ≡ c.args.members.now.items ++ left_among has c.args.document.now c.args.files.now)) test
    c.put_read.ensures
