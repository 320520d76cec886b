use Rattle.gen_expressions.proofs.Loops.{opened, opened_more}
use Rattle.gen_expressions.proofs.Written.{writes}
use Rattle.std.proofs.Common.{arith}
use Rattle.gen_expressions.specs.Held.{draft_in}
use Rattle.gen_expressions.proofs.coder.Coder.open_all.Goals as goal

pub loop-opened-preserved : goal.loop-opened-preserved
loop-opened-preserved c =
    opened_more c.args.count _ (draft_in c.args.self.now c.loop-opened.draft) (draft_in c.args.self.now c.open.new.draft) _ (omega arith)
    c.in_ok-open.ensures.draft c.loop-opened.invariant

pub returns-clause-number : goal.returns-clause-number
returns-clause-number c = grind (arith, writes, opened)
