use Rattle.stm_client.proofs.Words.{reserved_is}
use Rattle.stm_client.proofs.labels.is_reserved.Goals as goal

pub returns : goal.returns
returns c = reserved_is c.args.label.now c.is_java_word.result c.is_java_word.ensures
