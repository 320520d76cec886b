use Rattle.mg_words.specs.inner.Judging.{asked_of}
use Rattle.mg_words.proofs.LawLemmas.{order_below, order_each}
use Rattle.mg_words.proofs.asked.Asked.order.Goals as goal

pub returns-in_err-names-clause-below : goal.returns-in_err-names-clause-below
returns-in_err-names-clause-below c = order_below (asked_of c.args.self.now)

pub returns-in_err-names-clause-each : goal.returns-in_err-names-clause-each
returns-in_err-names-clause-each c = order_each (asked_of c.args.self.now) c.requires

pub returns-in-Some-clause-below : goal.returns-in-Some-clause-below
returns-in-Some-clause-below c = order_below (asked_of c.args.self.now)

pub returns-in-Some-clause-each : goal.returns-in-Some-clause-each
returns-in-Some-clause-each c = order_each (asked_of c.args.self.now) c.requires

pub returns-clause-below : goal.returns-clause-below
returns-clause-below c = order_below (asked_of c.args.self.now)

pub returns-clause-each : goal.returns-clause-each
returns-clause-each c = order_each (asked_of c.args.self.now) c.requires
