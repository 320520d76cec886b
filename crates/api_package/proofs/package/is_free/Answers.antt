use Rattle.jv_parse.proofs.Words.{reserved_is}
use Rattle.api_package.proofs.package.is_free.Goals as goal

pub returns : goal.returns
returns c = reserved_is c.args.word.now c.is_java_word.result c.is_java_word.ensures
