-- By `grind` at once, which is shorter than a search.
use Rattle.std.proofs.Common.{arith}
use Rattle.jv_grammar.specs.Files.{decl_at, enum_at}
use Rattle.jv_parse.proofs.MemberTurns.{class_is}
use Rattle.jv_parse.proofs.decls.decl_of.Goals as goal

pub returns : goal.returns
unfolding decl_at enum_at
returns c = grind (arith, class_is)

pub returns-in-Some : goal.returns-in-Some
unfolding decl_at enum_at
returns-in-Some c = grind (arith, class_is)
