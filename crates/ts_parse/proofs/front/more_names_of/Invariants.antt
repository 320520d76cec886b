use Rattle.ts_parse.specs.declared.token.Mark.TheVariants as marks
use Rattle.std.proofs.Common.{length}
use Rattle.ts_parse.specs.Tok.{toks}
use Rattle.mg_read.proofs.Loop.{Left, with_front}
use Rattle.mg_read.specs.Reader.{all_of}
use Rattle.ts_parse.specs.inner.Reading.{is_dot_name, behind_at, name_at}
use Rattle.ts_parse.proofs.front.more_names_of.Given as goal

abbrev pub invariant-others : goal.invariant-others
invariant-others l = Left is_dot_name (behind_at marks.Dot name_at) l.names.items (toks l.rest)
    (with_front l.fn.names.items (all_of is_dot_name (behind_at marks.Dot name_at) (toks l.fn.tokens)))

abbrev pub decreases-others : goal.decreases-others
decreases-others l = length l.rest
