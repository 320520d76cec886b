use Rattle.std.proofs.Common.{arith}
use Rattle.scr_parse.proofs.Views.{statements_joined}
use Rattle.scr_parse.specs.inner.Reading.{part_at}
use Rattle.scr_parse.proofs.Nested.{shortens}
use Rattle.scr_parse.proofs.part.part_of.Goals as goal

pub block_of-requires-clause-shorter : goal.block_of-requires-clause-shorter
block_of-requires-clause-shorter c = shortens c.args.types.now.declared.items

pub returns : goal.returns
unfolding part_at
returns c = grind (arith, statements_joined)
