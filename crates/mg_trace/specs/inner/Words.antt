-- For private clauses: the last word of a line.
use Rattle.std.specs.Prelude.{ℕ, List, [], ◌++◌, codes}
use Rattle.std.specs.Fmt.{signed_decimal}
use Rattle.mg_trace.specs.declared.words.Word.{Word}
use Rattle.mg_trace.specs.declared.words.Word.TheVariants as words

-- a word, behind a blank
abbrev pub word_text : Word → List ℕ
word_text words.Nothing = []
word_text (words.Number n) = codes " " ++ signed_decimal n
word_text (words.Said text) = codes " " ++ text.now
