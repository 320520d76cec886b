use Rattle.std.proofs.Common.{sym, ap, Ok, arith}
use Rattle.vm_model.specs.Actions.{Use}
use Rattle.vm_model.specs.Tests.{needs}
use Rattle.vm_session.specs.State.{state_of}
use Rattle.vm_step.proofs.Acts.{does_so, does_alone_so, room_in}
use Rattle.vm_step.proofs.Whole.{init_is, concat_is, equals_is, show_int_is, show_truth_is, out_is, print_is, send_is, send_int_is}
use Rattle.vm_step.proofs.Whole.{send_truth_is, send_text_is, look_is, take_is, take_int_is, take_truth_is, take_text_is, refuse_is}
use Rattle.vm_step.proofs.step.use_built.Goals as goal

pub returns-in-Init-clause-ok : goal.returns-in-Init-clause-ok
returns-in-Init-clause-ok c =
    does_alone_so c.args.linked.now (state_of c.args.state.now) (state_of c.init.new.state) (ap Use c.in-Init.is) c.args.ports.now
    c.args.me init_is (sym c.requires.right) (Ok c.init.result) c.init.ensures

pub returns-in-Concat-clause-ok : goal.returns-in-Concat-clause-ok
returns-in-Concat-clause-ok c =
    does_alone_so c.args.linked.now (state_of c.args.state.now) (state_of c.concat.new.state) (ap Use c.in-Concat.is) c.args.ports.now
    c.args.me concat_is (sym c.requires.right) c.concat.result c.concat.ensures.ok

pub returns-in-Equals-clause-ok : goal.returns-in-Equals-clause-ok
returns-in-Equals-clause-ok c =
    does_alone_so c.args.linked.now (state_of c.args.state.now) (state_of c.equals.new.state) (ap Use c.in-Equals.is) c.args.ports.now
    c.args.me equals_is (sym c.requires.right) (Ok c.equals.result) c.equals.ensures

pub returns-in-ValueOfInt-clause-ok : goal.returns-in-ValueOfInt-clause-ok
returns-in-ValueOfInt-clause-ok c =
    does_alone_so c.args.linked.now (state_of c.args.state.now) (state_of c.show_int.new.state) (ap Use c.in-ValueOfInt.is)
    c.args.ports.now c.args.me show_int_is (sym c.requires.right) c.show_int.result c.show_int.ensures.ok

pub returns-in-ValueOfTruth-clause-ok : goal.returns-in-ValueOfTruth-clause-ok
returns-in-ValueOfTruth-clause-ok c =
    does_alone_so c.args.linked.now (state_of c.args.state.now) (state_of c.show_truth.new.state) (ap Use c.in-ValueOfTruth.is)
    c.args.ports.now c.args.me show_truth_is (sym c.requires.right) c.show_truth.result
    c.show_truth.ensures.ok

pub returns-in-Out-clause-ok : goal.returns-in-Out-clause-ok
returns-in-Out-clause-ok c =
    does_alone_so c.args.linked.now (state_of c.args.state.now) (state_of c.push_out.new.state) (ap Use c.in-Out.is) c.args.ports.now
    c.args.me out_is (sym c.requires.right) (Ok c.push_out.result) c.push_out.ensures

pub returns-in-Println-clause-ok : goal.returns-in-Println-clause-ok
returns-in-Println-clause-ok c =
    does_alone_so c.args.linked.now (state_of c.args.state.now) (state_of c.print.new.state) (ap Use c.in-Println.is) c.args.ports.now
    c.args.me print_is (sym c.requires.right) c.print.result c.print.ensures.ok

pub returns-in-Send-clause-ok : goal.returns-in-Send-clause-ok
returns-in-Send-clause-ok c =
    does_so c.args.linked.now (state_of c.args.state.now) (state_of c.send.new.state) (ap Use c.in-Send.is) c.args.ports.now
    c.send.new.ports c.args.me send_is (sym c.requires.right) c.send.result c.send.ensures.ok

pub returns-in-SendInt-clause-ok : goal.returns-in-SendInt-clause-ok
returns-in-SendInt-clause-ok c =
    does_so c.args.linked.now (state_of c.args.state.now) (state_of c.send-in-SendInt.new.state) (ap Use c.in-SendInt.is) c.args.ports.now
    c.send-in-SendInt.new.ports c.args.me send_int_is (sym c.requires.right) c.send-in-SendInt.result
    c.send-in-SendInt.ensures.ok

pub returns-in-SendTruth-clause-ok : goal.returns-in-SendTruth-clause-ok
returns-in-SendTruth-clause-ok c =
    does_so c.args.linked.now (state_of c.args.state.now) (state_of c.send-in-SendTruth.new.state) (ap Use c.in-SendTruth.is)
    c.args.ports.now c.send-in-SendTruth.new.ports c.args.me send_truth_is (sym c.requires.right)
    c.send-in-SendTruth.result c.send-in-SendTruth.ensures.ok

pub returns-in-SendText-clause-ok : goal.returns-in-SendText-clause-ok
returns-in-SendText-clause-ok c =
    does_so c.args.linked.now (state_of c.args.state.now) (state_of c.send-in-SendText.new.state) (ap Use c.in-SendText.is)
    c.args.ports.now c.send-in-SendText.new.ports c.args.me send_text_is (sym c.requires.right)
    c.send-in-SendText.result c.send-in-SendText.ensures.ok

pub returns-in-Look-clause-ok : goal.returns-in-Look-clause-ok
returns-in-Look-clause-ok c =
    does_so c.args.linked.now (state_of c.args.state.now) (state_of c.look.new.state) (ap Use c.in-Look.is) c.args.ports.now
    c.args.ports.now c.args.me look_is (sym c.requires.right) c.look.result c.look.ensures.ok

pub returns-in-Take-clause-ok : goal.returns-in-Take-clause-ok
returns-in-Take-clause-ok c =
    does_so c.args.linked.now (state_of c.args.state.now) (state_of c.take.new.state) (ap Use c.in-Take.is) c.args.ports.now
    c.take.new.ports c.args.me take_is (sym c.requires.right) c.take.result c.take.ensures.ok

pub returns-in-TakeInt-clause-ok : goal.returns-in-TakeInt-clause-ok
returns-in-TakeInt-clause-ok c =
    does_so c.args.linked.now (state_of c.args.state.now) (state_of c.take-in-TakeInt.new.state) (ap Use c.in-TakeInt.is) c.args.ports.now
    c.take-in-TakeInt.new.ports c.args.me take_int_is (sym c.requires.right) c.take-in-TakeInt.result
    c.take-in-TakeInt.ensures.ok

pub returns-in-TakeTruth-clause-ok : goal.returns-in-TakeTruth-clause-ok
returns-in-TakeTruth-clause-ok c =
    does_so c.args.linked.now (state_of c.args.state.now) (state_of c.take-in-TakeTruth.new.state) (ap Use c.in-TakeTruth.is)
    c.args.ports.now c.take-in-TakeTruth.new.ports c.args.me take_truth_is (sym c.requires.right)
    c.take-in-TakeTruth.result c.take-in-TakeTruth.ensures.ok

pub returns-in-TakeText-clause-ok : goal.returns-in-TakeText-clause-ok
returns-in-TakeText-clause-ok c =
    does_so c.args.linked.now (state_of c.args.state.now) (state_of c.take-in-TakeText.new.state) (ap Use c.in-TakeText.is)
    c.args.ports.now c.take-in-TakeText.new.ports c.args.me take_text_is (sym c.requires.right)
    c.take-in-TakeText.result c.take-in-TakeText.ensures.ok

pub returns-in-Refuse-clause-ok : goal.returns-in-Refuse-clause-ok
returns-in-Refuse-clause-ok c =
    does_so c.args.linked.now (state_of c.args.state.now) (state_of c.args.state.now) (ap Use c.in-Refuse.is) c.args.ports.now
    c.args.ports.now c.args.me refuse_is (sym c.requires.right) c.refuse.result c.refuse.ensures

pub push_out-requires-clause-room : goal.push_out-requires-clause-room
push_out-requires-clause-room c =
    let p = c.args.linked.now in
    let m = state_of c.args.state.now in
    let right = room_in p (needs p m (Use c.args.built)) m (sym c.requires.right) in
    omega (arith, rw c.in-Out.is at right.1, c.bound_room.ensures)
