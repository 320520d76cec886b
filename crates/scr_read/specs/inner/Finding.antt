-- For private clauses: the word that a token is, if it isn't supported.
use Rattle.std.specs.Prelude.{Option, None}
use Rattle.mg_text.specs.Call.{Name}
use Rattle.scr_tree.specs.Tok.{Tok, named, quoted, marked}
use Rattle.scr_read.specs.Unsupported.{unsupported_word}
use Rattle.scr_read.specs.declared.words.ProtocolKind.{ProtocolKind}

abbrev pub word_in : ProtocolKind → Tok → Option Name
word_in kind (named place name) = None
word_in kind (quoted place name) = None
word_in kind (marked place mark) = unsupported_word kind mark
