use Rattle.std.proofs.Common.{length}
use Rattle.std.specs.Prelude.{codes}
use Rattle.jv_grammar.specs.Base.{is_word}
use Rattle.jv_grammar.specs.Files.{import_at}
use Rattle.jv_parse.specs.inner.Rests.{imports_at}
use Rattle.jv_parse.proofs.Walks.{Walking}
use Rattle.jv_parse.proofs.files.imports_of.Given as goal

abbrev pub invariant-imports : goal.invariant-imports
invariant-imports l = Walking (is_word (codes "import")) import_at l.rest (imports_at l.fn.tokens)

abbrev pub decreases-imports : goal.decreases-imports
decreases-imports l = length l.rest
