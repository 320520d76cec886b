use Rattle.mg_top.proofs.CommandLemmas.{reported}
use Rattle.mg_top.proofs.check.show.Goals as goal

pub returns : goal.returns
returns c = reported _ c.in_ok-text.text c.as_str.result.now c.print.result c.as_str.ensures c.in_ok-text.ensures.report
    c.print.ensures.actions c.print.ensures.status
