use Rattle.std.proofs.Common.{◌∙◌}
use Rattle.std.proofs.lemmas.List.{get_or_default}
use Rattle.scr_trace.specs.declared.arrow.Hop.TheVariants as hops
use Rattle.scr_trace.proofs.Ending.{writing_none, writing_more}
use Rattle.scr_trace.proofs.entries.write_along.Goals as goal

pub loop-left-init : goal.loop-left-init
loop-left-init c = writing_none c.args.entries.now c.args.from c.args.end

pub loop-left-preserved : goal.loop-left-preserved
loop-left-preserved c =
    writing_more c.args.entries.now c.loop-left.entries c.args.from c.args.end c.loop-left.at c.loop-left.left c.in-Part.number c.requires
    c.loop-left.invariant c.if-at-entries.true
    (get_or_default c.loop-left.entries c.loop-left.at hops.End (hops.State 0) c.if-at-entries.true ∙ c.in-Part.is)
