use Rattle.cls_code.specs.Inner.{words}
use Rattle.cls_code.proofs.reading.words_of.Goals as goal

pub loop-index-init : goal.loop-index-init
unfolding words
loop-index-init c = c.in_ok-numbers.ensures
