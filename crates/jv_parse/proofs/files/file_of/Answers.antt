-- By `grind` at once, which is shorter than a search.
use Rattle.std.proofs.Common.{arith}
use Rattle.std.proofs.lemmas.Grind.{common_steps}
use Rattle.jv_grammar.specs.Files.{file_at}
use Rattle.jv_parse.proofs.files.file_of.Goals as goal

pub returns : goal.returns
unfolding file_at
returns c = grind (arith, common_steps)
