use Rattle.mg_words.proofs.CodeLemmas.{first_split, first_whole}
use Rattle.mg_words.proofs.roles.first_name.Goals as goal

pub returns-in-Some : goal.returns-in-Some
returns-in-Some c = first_split c.args.word.now c.split_once.result c.in-Some.name c.in-Some.behind c.split_once.ensures.cases c.in-Some.is

pub returns-in-None : goal.returns-in-None
returns-in-None c = first_whole c.args.word.now c.split_once.result c.split_once.ensures.cases c.in-None.is
