use Rattle.std.proofs.Common.{length}
use Rattle.scr_tree.specs.Tok.{toks}
use Rattle.mg_read.proofs.Loop.{Left, with_front}
use Rattle.mg_read.specs.Reader.{all_of}
use Rattle.scr_parse.specs.inner.Reading.{is_at, other_name_at}
use Rattle.scr_parse.proofs.front.more_names_of.Given as goal

abbrev pub invariant-others : goal.invariant-others
invariant-others l = Left (is_at l.mark) (other_name_at l.mark) l.names.items (toks l.rest)
    (with_front l.fn.names.items (all_of (is_at l.mark) (other_name_at l.mark) (toks l.fn.tokens)))

abbrev pub decreases-others : goal.decreases-others
decreases-others l = length l.rest
