use Rattle.std.proofs.Common.{length}
use Rattle.scr_tree.specs.Tok.{toks}
use Rattle.mg_read.proofs.Loop.{Left}
use Rattle.scr_tree.specs.declared.token.Mark.TheVariants as marks
use Rattle.scr_parse.specs.inner.Reading.{is_at, other_role_at, more_roles_at}
use Rattle.scr_parse.proofs.header.more_roles_of.Given as goal

abbrev pub invariant-others : goal.invariant-others
invariant-others l = Left (is_at marks.Comma) (other_role_at) l.roles.items (toks l.rest)
    (more_roles_at l.fn.roles.items (toks l.fn.tokens))

abbrev pub decreases-others : goal.decreases-others
decreases-others l = length l.rest
