use Rattle.std.proofs.Common.{sym, subst}
use Rattle.ts_refine.specs.inner.Judging.{AreProper}
use Rattle.ts_refine.proofs.Relating.{methods-proper}
use Rattle.ts_refine.proofs.judge.others_at.Goals as goal

pub returns-clause-proper : goal.returns-clause-proper
returns-clause-proper c = subst AreProper (sym c.methods_at.ensures) (methods-proper c.args.t.now c.typestates_are_proper.ensures c.args.at)
