use Rattle.std.proofs.Common.{length}
use Rattle.scr_tree.specs.Tok.{toks}
use Rattle.mg_read.proofs.Loop.{Left}
use Rattle.mg_read.specs.Reader.{all_of}
use Rattle.scr_tree.specs.declared.token.Mark.TheVariants as marks
use Rattle.scr_parse.specs.inner.Reading.{is_at, type_at}
use Rattle.scr_parse.proofs.types.types_of.Given as goal

abbrev pub invariant-types : goal.invariant-types
invariant-types l = Left (is_at marks.Type) (type_at) l.declared.items (toks l.rest) (all_of (is_at marks.Type) type_at (toks l.fn.tokens))

abbrev pub decreases-types : goal.decreases-types
decreases-types l = length l.rest
