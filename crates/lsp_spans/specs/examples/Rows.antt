-- Worked rows of words and paths.
use Rattle.std.specs.Prelude.{◌≡◌, [], ◌∷◌, codes}
use Rattle.lsp_spans.specs.Words.{word_len, path_len}

pub record Rows : Type 0 where
  pub word : word_len (codes "count_1$ = 0;") ≡ 8
  pub sign : word_len (codes "== 0") ≡ 1
  pub line_end : word_len (codes "\nx") ≡ 0
  pub text_end : word_len [] ≡ 0
  -- letters of two bytes and of four: they stand in no word, and are not parted
  pub two : word_len (195 ∷ 164 ∷ codes "b") ≡ 2
  pub four : word_len (240 ∷ 159 ∷ 152 ∷ 128 ∷ 195 ∷ 164 ∷ []) ≡ 4
  pub call : path_len (codes "c.send_byeToS();") ≡ 13
  pub field : path_len (codes "this.f.m(x.y)") ≡ 8
  -- blanks and ends of lines around a dot
  pub broken : path_len (codes "c\n    .m()") ≡ 8
  pub behind : path_len (codes "c.\r\n\tm()") ≡ 6
  pub apart : path_len (codes "x . m()") ≡ 5
  pub lines : path_len (codes "this\n.f\n.m()") ≡ 10
  -- a word that no dot follows is behind the path, and so is a dot that no word follows
  pub other : path_len (codes "x y.m") ≡ 1
  pub blanks : path_len (codes "x \n") ≡ 1
  pub dot : path_len (codes "x .") ≡ 1
  pub dots : path_len (codes "x..m") ≡ 1
  pub later : path_len (codes "x.m .(y)") ≡ 3
  pub none : path_len (codes ".m") ≡ 0
