use Rattle.mg_text.proofs.Among.{any-Contains}
use Rattle.mg_text.proofs.Letters.{unlike}
use Rattle.mg_text.specs.JavaWords.{java_words}
use Rattle.mg_text.proofs.java_words.is_java_word.Goals as goal

pub returns : goal.returns
returns c = any-Contains c.args.text.now java_words c.contains.result c.contains.ensures.value

pub returns-then-not-may_be_word : goal.returns-then-not-may_be_word
returns-then-not-may_be_word c =
    unlike c.args.text.now c.may_be_word.result c.may_be_word.ensures c.if-not-may_be_word.true
