use Rattle.std.proofs.Common.{length, map}
use Rattle.mg_read.proofs.Loop.{Left, with_front}
use Rattle.mg_read.specs.Reader.{all_of}
use Rattle.ts_parse.specs.declared.token.Mark.TheVariants as marks
use Rattle.ts_parse.specs.Tok.{toks}
use Rattle.ts_parse.specs.Written.{wentry_of}
use Rattle.ts_parse.specs.inner.Reading.{is_more, behind_at, entry_at}
use Rattle.ts_parse.proofs.entries.more_entries_of.Given as goal

abbrev pub invariant-others : goal.invariant-others
invariant-others l = Left is_more (behind_at marks.Comma entry_at) (map wentry_of l.entries.items) (toks l.rest)
    (with_front (map wentry_of l.fn.entries.items) (all_of is_more (behind_at marks.Comma entry_at) (toks l.fn.tokens)))

abbrev pub decreases-others : goal.decreases-others
decreases-others l = length l.rest
