use Rattle.jv_parse.proofs.Words.{none_among}
use Rattle.jv_parse.proofs.unsupported.is_unsupported.Goals as goal

pub returns-then-not-is_java_word : goal.returns-then-not-is_java_word
returns-then-not-is_java_word c = none_among c.args.word.now c.is_java_word.result c.is_java_word.ensures c.if-not-is_java_word.true

pub returns : goal.returns
returns c = c.contains.ensures.value
