use Rattle.std.proofs.Common.{length}
use Rattle.scr_tree.specs.Tok.{toks}
use Rattle.mg_read.proofs.Loop.{Left}
use Rattle.mg_read.specs.Reader.{all_of}
use Rattle.scr_parse.specs.inner.View.{all_parts}
use Rattle.scr_parse.specs.inner.Reading.{is_more, part_at}
use Rattle.scr_parse.proofs.part.parts_of.Given as goal

abbrev pub invariant-parts : goal.invariant-parts
invariant-parts l =
    Left is_more (part_at l.types.declared.items) (all_parts l.parts.items) (toks l.rest)
    (all_of is_more (part_at l.types.declared.items) (toks l.fn.tokens))

abbrev pub decreases-parts : goal.decreases-parts
decreases-parts l = length l.rest
