use Rattle.std.proofs.Common.{sym, ◌∙◌}
use Rattle.jv_lex.proofs.Told.{text_shown}
use Rattle.jv_lex.proofs.front.text_of.Goals as goal

pub returns-in-None : goal.returns-in-None
returns-in-None c =
    text_shown c.args.bytes.now c.in-Some.len (sym c.closing_of.ensures.place ∙ c.in-Some.is) (sym c.bad_escape_of.ensures ∙ c.in-None.is)
