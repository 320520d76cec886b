use Rattle.lsp_text.proofs.LineFinds.{whole_line, first_is_line}
use Rattle.lsp_text.proofs.lines.line_of.Goals as goal

pub returns-in-None : goal.returns-in-None
returns-in-None c = whole_line _ c.in-None.ensures.line

pub returns-in-Some : goal.returns-in-Some
returns-in-Some c = first_is_line _ _ _ c.in-Some.ensures.line
