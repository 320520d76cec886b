use Rattle.std.proofs.Common.{arith}
use Rattle.std.proofs.lemmas.Grind.{common_steps}
use Rattle.mg_words.specs.inner.Judging.{asked_of}
use Rattle.mg_words.proofs.LawLemmas.{distinct_mains, some_mains}
use Rattle.mg_words.proofs.asked.Asked.mains.Goals as goal

pub returns-in_err-mains-clause-distinct : goal.returns-in_err-mains-clause-distinct
returns-in_err-mains-clause-distinct c = distinct_mains (asked_of c.args.self.now) c.requires

pub returns-in_err-mains-clause-some : goal.returns-in_err-mains-clause-some
returns-in_err-mains-clause-some c = some_mains (asked_of c.args.self.now) c.requires

pub returns-clause-distinct : goal.returns-clause-distinct
returns-clause-distinct c = distinct_mains (asked_of c.args.self.now) c.requires

pub returns-clause-some : goal.returns-clause-some
returns-clause-some c = some_mains (asked_of c.args.self.now) c.requires

pub returns-clause-few : goal.returns-clause-few
returns-clause-few c = grind (arith, common_steps)
