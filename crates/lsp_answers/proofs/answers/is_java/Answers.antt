use Rattle.std.proofs.Common.{codes, ◌∙◌}
use Rattle.mg_sources.proofs.Endings.{ends_told}
use Rattle.lsp_answers.proofs.answers.is_java.Goals as goal

pub returns : goal.returns
returns c = ends_told _ c.args.name.now (codes ".java") _ (c.as_bytes.ensures.value ∙ c.as_str.ensures) c.ends_with.ensures.value
