use Rattle.std.proofs.Common.{sym, ap, ◌∙◌, slice_get}
use Rattle.vm_model.specs.declared.value.Value.{Value}
use Rattle.vm_model.specs.Actions.{Load}
use Rattle.vm_frames.specs.Seen.{value_in}
use Rattle.vm_session.specs.State.{state_of}
use Rattle.vm_actions.specs.Table.{sort_of}
use Rattle.vm_step.proofs.Ready.{alone_if, load_alone, when_true, held_is}
use Rattle.vm_step.proofs.frequent.load.Goals as goal

pub returns : goal.returns
returns c =
    let says : Value = value_in c.args.state.now.texts c.in-Some.cell in
    alone_if c.args.max (Load (sort_of c.args.sort) c.args.local) (state_of c.args.state.now) (state_of c.push.new.state) c.push.result
    c.push.ensures.room c.push.ensures.yes c.push.ensures.no
    (λ room is. load_alone c.args.max (state_of c.args.state.now) (state_of c.push.new.state) (sort_of c.args.sort) c.args.local says
    (ap (slice_get (state_of c.args.state.now).frame.locals) (sym c.from.ensures)
    ∙ held_is (slice_get (state_of c.args.state.now).frame.locals c.from.result) says (rw c.in-Some.is at c.held.ensures.value))
    (when_true c.is_of_sort.result c.if-not-is_of_sort.false c.is_of_sort.ensures c.args.state.now.texts) room is)
