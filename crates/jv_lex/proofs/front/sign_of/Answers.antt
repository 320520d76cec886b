use Rattle.std.proofs.Common.{sym, ◌∙◌}
use Rattle.jv_lex.proofs.Told.{pair_shown}
use Rattle.jv_lex.proofs.front.sign_of.Goals as goal

pub returns-in-Some-pair : goal.returns-in-Some-pair
returns-in-Some-pair c =
    pair_shown c.args.first c.args.rest.now c.in-Some.sign c.in-Some-pair.longer (sym c.single.ensures ∙ c.in-Some.is)
    c.in-len1-up.len_at_least
    (sym c.pair.ensures ∙ c.in-Some-pair.is)
