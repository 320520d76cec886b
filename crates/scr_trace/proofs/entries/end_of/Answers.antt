use Rattle.std.proofs.Common.{sym, ◌∙◌, arith}
use Rattle.scr_trace.specs.declared.arrow.Hop.TheVariants as hops
use Rattle.scr_trace.proofs.Ending.{nears_first, nears_last, nears_none, nears_next, plain_if}
use Rattle.scr_trace.proofs.entries.end_of.Goals as goal

pub along-init : goal.along-init
along-init c = nears_first c.args.entries.now c.args.from

pub along-preserved : goal.along-preserved
along-preserved c =
    nears_next c.args.entries.now c.args.from c.along.at c.along.left c.in-Part.number c.along.invariant
    (sym c.entry_at-hop.ensures ∙ c.in-Part.is) (let some = c.if-left-eq0.false in omega (arith, some))

pub returns-in_default : goal.returns-in_default
returns-in_default c =
    let plain = plain_if c.entry_at-hop.result c.in_default.not-Part in
    record {
      plain = plain;
      last = nears_last c.args.entries.now c.args.from c.along.at c.along.left c.entry_at-hop.result c.along.invariant
          c.entry_at-hop.ensures plain;
    }

pub returns-then-left-eq0-clause-last : goal.returns-then-left-eq0-clause-last
returns-then-left-eq0-clause-last c =
    nears_none c.args.entries.now c.args.from c.along.at c.along.left c.in-Part.number hops.End c.along.invariant
    (sym c.entry_at-hop.ensures ∙ c.in-Part.is) c.if-left-eq0.true
