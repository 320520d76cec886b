-- One frame, whose cells are its locals.
use Rattle.std.proofs.Common.{None, refl, ◌∙◌, arith}
use Rattle.vm_frames.proofs.Starting.{begins, none_below, started-kept, starts}
use Rattle.vm_frames.proofs.state.State.start.Goals as goal

pub invariant_of-result : goal.invariant_of-result
invariant_of-result c =
    started-kept
    (record {
      cells = c.enter.new.self;
      head = record { class = c.args.class; method = c.args.method; place = 0; told = None; locals = c.args.locals };
      heads = c.new-in-Ok.result;
      heap = c.new-in-Ok-2.result;
      texts = c.new-in-Ok-3.result;
      notes = c.in_ok-notes.notes;
    })
    c.args.class c.args.method c.args.locals c.new-in-Ok-3.ensures c.new-in-Ok-2.ensures.items c.new-in-Ok.ensures.items refl
    (begins c.reserve.new.self c.enter.new.self (c.reserve.ensures.frames.0 ∙ c.new-cells.ensures.running) c.from-count.result c.args.locals
    c.enter.ensures.running c.from-count.ensures)
    (none_below c.reserve.new.self c.enter.new.self (c.reserve.ensures.frames.0 ∙ c.new-cells.ensures.running)
    (c.reserve.ensures.frames.1 ∙ c.new-cells.ensures.callers) c.enter.ensures.callers)
    (omega (arith, c.enter.ensures.spare, c.in-Ok.ensures.ok.0, c.from-count.ensures))

pub returns-in-Ok-clause-machine : goal.returns-in-Ok-clause-machine
returns-in-Ok-clause-machine c =
    starts
    (record {
      cells = c.enter.new.self;
      head = record { class = c.args.class; method = c.args.method; place = 0; told = None; locals = c.args.locals };
      heads = c.new-in-Ok.result;
      heap = c.new-in-Ok-2.result;
      texts = c.new-in-Ok-3.result;
      notes = c.in_ok-notes.notes;
    })
    c.args.class c.args.method c.args.locals c.new-in-Ok-3.ensures c.new-in-Ok-2.ensures.items c.new-in-Ok.ensures.items refl
    (begins c.reserve.new.self c.enter.new.self (c.reserve.ensures.frames.0 ∙ c.new-cells.ensures.running) c.from-count.result c.args.locals
    c.enter.ensures.running c.from-count.ensures)
