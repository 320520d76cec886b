use Rattle.std.proofs.Common.{length}
use Rattle.scr_tree.specs.Tok.{toks}
use Rattle.mg_read.proofs.Loop.{Left}
use Rattle.mg_read.specs.Reader.{all_of}
use Rattle.scr_parse.specs.inner.Reading.{is_other_role, earlier_role_at}
use Rattle.scr_parse.proofs.header.earlier_roles_of.Given as goal

abbrev pub invariant-others : goal.invariant-others
invariant-others l = Left (is_other_role) (earlier_role_at) l.roles.items (toks l.rest)
    (all_of is_other_role earlier_role_at (toks l.fn.tokens))

abbrev pub decreases-others : goal.decreases-others
decreases-others l = length l.rest
