use Rattle.std.proofs.Common.{length}
use Rattle.std.specs.Prelude.{map}
use Rattle.mg_read.proofs.Loop.{Left}
use Rattle.jv_tree.specs.View.{decl_of}
use Rattle.jv_grammar.specs.Files.{is_some_token, decl_at}
use Rattle.jv_parse.specs.inner.Rests.{decls_at}
use Rattle.jv_parse.proofs.files.decls_of.Given as goal

abbrev pub invariant-turns : goal.invariant-turns
invariant-turns l = Left is_some_token decl_at (map decl_of l.decls.items) l.rest (decls_at l.fn.tokens)

abbrev pub decreases-turns : goal.decreases-turns
decreases-turns l = length l.rest
