use Rattle.mg_words.proofs.WordsLemmas.{few_none}
use Rattle.mg_words.proofs.words.judge.Goals as goal

pub returns-in-None : goal.returns-in-None
returns-in-None c = few_none _ c.in-None.ensures.cases
