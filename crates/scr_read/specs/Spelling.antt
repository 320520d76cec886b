-- Which bytes spell a file.
use Rattle.std.specs.Prelude.{◌≡◌, ◌≤◌, ℕ, List, length, None}
use Rattle.mg_read.specs.First.{Judged}
use Rattle.scr_tree.specs.Tok.{Tok}
use Rattle.scr_tree.specs.Written.{WrittenTree}
use Rattle.scr_lex.specs.Pieces.{AreTokens}
use Rattle.scr_parse.specs.Grammar.{IsSpelled}
use Rattle.scr_read.specs.Unsupported.{IsUnsupported}
use Rattle.scr_read.specs.declared.words.ProtocolKind.TheVariants as kinds

-- the bytes of a file are no more than a file may hold, and separate into these tokens, which takes that they are UTF-8
pub record Separates (file : ℕ) (bytes : List ℕ) (tokens : List Tok) : Type 0 where
  pub size : length bytes ≤ 1048576
  pub cut : AreTokens file tokens bytes

-- the bytes of the file of this number spell what is written, with no word that isn't supported
pub record Spells (file : ℕ) (bytes : List ℕ) (w : WrittenTree) : Type 0 where
  pub same_file : w.file ≡ file
  pub tokens : List Tok
  pub separates : Separates file bytes tokens
  pub supported : Judged (IsUnsupported kinds.Local) tokens None
  pub spelled : IsSpelled w tokens
