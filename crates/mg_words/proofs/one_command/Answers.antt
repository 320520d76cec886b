use Rattle.mg_words.proofs.RunLemmas.{same_command}
use Rattle.mg_words.proofs.one_command.Goals as goal

pub returns : goal.returns
returns c = same_command
