use Rattle.std.proofs.Common.{Ok}
use Rattle.vm_model.specs.Actions.{Return}
use Rattle.vm_model.specs.Step as model
use Rattle.std.specs.Option.{option_map}
use Rattle.vm_session.specs.State.{state_of}
use Rattle.vm_actions.specs.Table.{sort_of}
use Rattle.vm_step.proofs.Acts.{does_plays_for}
use Rattle.vm_step.proofs.step_typed.act_right.Goals as goal

pub returns-in-Return-clause-ok : goal.returns-in-Return-clause-ok
returns-in-Return-clause-ok c =
    rw c.in-Return.is
    (does_plays_for (state_of c.args.state.now) (state_of c.return_right.new.state) c.args.me c.args.ports.now (Ok c.return_right.result)
    (λ me q. model.act c.args.linked.now q (state_of c.args.state.now) me
    (Return (option_map sort_of c.in-Return.sort))) c.return_right.ensures)
