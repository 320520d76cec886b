use Rattle.std.proofs.Common.{length}
use Rattle.mg_read.proofs.Loop.{Left}
use Rattle.mg_read.specs.Reader.{all_of}
use Rattle.ts_parse.specs.declared.token.Mark.TheVariants as marks
use Rattle.ts_parse.specs.Tok.{toks}
use Rattle.ts_parse.specs.inner.Reading.{is_at, import_at}
use Rattle.ts_parse.proofs.head.imports_of.Given as goal

abbrev pub invariant-others : goal.invariant-others
invariant-others l = Left (is_at marks.Import) import_at l.imports.items (toks l.rest)
    (all_of (is_at marks.Import) import_at (toks l.fn.tokens))

abbrev pub decreases-others : goal.decreases-others
decreases-others l = length l.rest
