-- What is read over and not kept, and the rows of a file.
use Rattle.std.specs.Prelude.{List, Option, Some, codes}
use Rattle.mg_read.specs.Reader.{Reader, ◌>>=◌, all_of}
use Rattle.jv_tree.specs.declared.token.Token.{Token}
use Rattle.jv_tree.specs.Source.{Decl}
use Rattle.jv_grammar.specs.Base.{is_word}
use Rattle.jv_grammar.specs.Files.{import_at, is_some_token, decl_at}

-- what comes behind something that is read and not kept
abbrev pub rest_of : {T A : Type 0} → Option (A × List T) → Option (List T)
rest_of read = read >>= λ x. Some x.1

abbrev pub imports_at : Reader Token (List (Unit {0}))
imports_at = all_of (is_word (codes "import")) import_at

abbrev pub decls_at : Reader Token (List Decl)
decls_at = all_of is_some_token decl_at
