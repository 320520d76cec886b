use Rattle.std.proofs.Common.{◌∙◌}
use Rattle.jv_lex.proofs.Told.{line_shown}
use Rattle.jv_lex.proofs.front.line_of.Goals as goal

pub returns : goal.returns
returns c =
    c.comment_with.ensures ∙ line_shown c.args.bytes.now c.line_len-len.result c.line_len-len.ensures.value c.line_len-len.ensures.within
