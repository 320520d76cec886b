use Rattle.scr_lex.specs.Pieces.{is_name_byte}
use Rattle.mg_words.proofs.WordsLemmas.{passes_is}
use Rattle.mg_words.proofs.names.has_name_bytes.Goals as goal

pub returns : goal.returns
returns c = passes_is c.all_name_bytes.result is_name_byte c.args.bytes.now c.all_name_bytes.ensures
