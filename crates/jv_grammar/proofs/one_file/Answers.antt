use Rattle.jv_grammar.proofs.Decls.{file_unique}
use Rattle.jv_grammar.proofs.one_file.Goals as goal

pub returns : goal.returns
returns c = file_unique
