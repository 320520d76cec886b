use Rattle.std.proofs.Common.{length, ap, ◌∙◌}
use Rattle.lsp_notes.proofs.Grouping.{as_many}
use Rattle.lsp_notes.proofs.files.told_by_file.Goals as goal

pub each_of-requires : goal.each_of-requires
each_of-requires c =
    ap (λ xs. length xs) c.as_slice.ensures.value
    ∙ as_many (length c.args.contents.now) (λ g. g.items) c.in_ok-groups.groups.items c.args.refusals.items c.in_ok-groups.ensures
