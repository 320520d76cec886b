use Rattle.std.proofs.Common.{sym, ap, ◌∙◌}
use Rattle.std.specs.Prelude.{slice_get}
use Rattle.cls_rows.proofs.Doing.{goes_loads, no_load}
use Rattle.cls_rows.proofs.locals.load.Goals as goal

pub returns-in_default-clause-loaded : goal.returns-in_default-clause-loaded
returns-in_default-clause-loaded c = no_load c.args.stacks.now c.args.limit c.args.sort c.args.local c.args.frame
    c.as_slice.result.now
    (rw c.as_ref.ensures at c.as_slice.ensures.value) c.in_default.ensures.refused

pub returns-clause-loaded : goal.returns-clause-loaded
returns-clause-loaded c = goes_loads c.args.stacks.now c.settle_on.new.stacks c.args.limit c.args.sort c.args.local c.args.frame
    c.in-Some.kind
    c.settle_on.result (ap (λ ks. slice_get ks c.args.local) (sym (rw c.as_ref.ensures at c.as_slice.ensures.value)) ∙
    c.in-Some.ensures.held.0)
    c.in-Some.ensures.held.1 c.settle_on.ensures.settled
