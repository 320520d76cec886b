use Rattle.mg_page.specs.Pieces.{IsText, IsFile}
use Rattle.mg_page.proofs.Asked.{same_all, one_text, one_file, some_text, some_file}
use Rattle.mg_page.proofs.asks_once.Goals as goal

pub returns : goal.returns
returns c = λ words files meant others told those one other. (
  same_all IsText one_text some_text words meant others one.are_words other.are_words,
  same_all IsFile one_file some_file files told those one.are_files other.are_files,
)
