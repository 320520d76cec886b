-- Which bytes spell a file.
use Rattle.std.specs.Prelude.{◌≡◌, ℕ, List, None}
use Rattle.mg_read.specs.First.{Judged}
use Rattle.scr_tree.specs.Tok.{Tok}
use Rattle.scr_global_tree.specs.Written.{WrittenTree}
use Rattle.scr_global_parse.specs.Grammar.{IsSpelled}
use Rattle.scr_read.specs.Spelling.{Separates}
use Rattle.scr_read.specs.Unsupported.{IsUnsupported}
use Rattle.scr_read.specs.declared.words.ProtocolKind.TheVariants as kinds

-- the bytes of the file of this number spell what is written, with no word that isn't supported
pub record Spells (file : ℕ) (bytes : List ℕ) (w : WrittenTree) : Type 0 where
  pub same_file : w.file ≡ file
  pub tokens : List Tok
  pub separates : Separates file bytes tokens
  pub supported : Judged (IsUnsupported kinds.Global) tokens None
  pub spelled : IsSpelled w tokens
