use Rattle.std.proofs.Common.{length}
use Rattle.mg_read.proofs.Loop.{Left, with_front}
use Rattle.mg_read.specs.Reader.{all_of}
use Rattle.ts_parse.specs.declared.token.Mark.TheVariants as marks
use Rattle.ts_parse.specs.Tok.{toks}
use Rattle.ts_parse.specs.inner.Reading.{is_at, behind_at, branch_at}
use Rattle.ts_parse.proofs.methods.more_branches_of.Given as goal

abbrev pub invariant-others : goal.invariant-others
invariant-others l = Left (is_at marks.Comma) (behind_at marks.Comma branch_at) l.branches.items (toks l.rest)
    (with_front l.fn.branches.items (all_of (is_at marks.Comma) (behind_at marks.Comma branch_at) (toks l.fn.tokens)))

abbrev pub decreases-others : goal.decreases-others
decreases-others l = length l.rest
