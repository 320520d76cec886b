use Rattle.std.proofs.Common.{◌≡◌, ℕ, Option, Some, None, ◌∙◌}
use Rattle.std.proofs.lemmas.Option.{none-some}
use Rattle.cls_table.proofs.names.number_of.Goals as goal

pub unreachable-requires : goal.unreachable-requires
unreachable-requires c =
    let no : ◌≡◌ {A = Option ℕ} None (Some c.requires.number) = c.in-None.ensures ∙ c.requires.found in absurd
    (none-some c.requires.number no)
