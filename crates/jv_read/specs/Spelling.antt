-- Which bytes of a file spell a tree.
use Rattle.std.specs.Prelude.{ℕ, ◌≤◌, List, length, None}
use Rattle.mg_read.specs.First.{Judged}
use Rattle.jv_tree.specs.declared.token.Token.{Token}
use Rattle.jv_tree.specs.Source.{File}
use Rattle.jv_tree.specs.Files as files
use Rattle.jv_lex.specs.Pieces.{AreTokens}
use Rattle.jv_parse.specs.Unsupported.{IsUnsupported}

-- at most 1,048,576 bytes, whose tokens are all supported and spell the tree
pub record Spells (file : ℕ) (bytes : List ℕ) (tree : File) : Type 0 where
  pub size : length bytes ≤ 1048576
  pub tokens : List Token
  pub cut : AreTokens file tokens bytes
  pub supported : Judged IsUnsupported tokens None
  pub spelled : files.Spells tree tokens
