use Rattle.mg_words.specs.inner.Judging.{command_of}
use Rattle.mg_top.proofs.CommandLemmas.{given_yields, refusal_yields}
use Rattle.mg_top.proofs.top.carry_out.Goals as goal

pub returns-in-Ok : goal.returns-in-Ok
returns-in-Ok c = given_yields (command_of c.args.command.now) c.args.contents.now c.in-Ok.delivery c.in-Ok.ensures

pub returns-in_ok-line-in-Err-Refused : goal.returns-in_ok-line-in-Err-Refused
returns-in_ok-line-in-Err-Refused c =
    let h = rw c.in-Err-Refused.field-0-is at c.in-Err-Refused.ensures in
    refusal_yields (command_of c.args.command.now) c.args.contents.now c.in-Err-Refused.refusal c.in_ok-line-in-Err-Refused.line
    c.said.result h c.in_ok-line-in-Err-Refused.ensures c.said.ensures.actions c.said.ensures.status
