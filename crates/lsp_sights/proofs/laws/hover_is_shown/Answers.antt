use Rattle.lsp_sights.proofs.Shown.{hover_shown}
use Rattle.lsp_sights.proofs.laws.hover_is_shown.Goals as goal

pub returns : goal.returns
returns c = hover_shown
