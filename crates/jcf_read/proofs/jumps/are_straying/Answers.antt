use Rattle.std.proofs.Common.{sym, ap, ◌∙◌}
use Rattle.jcf_read.specs.Jumps.{strays}
use Rattle.jcf_read.proofs.Loops.{stray_more}
use Rattle.jcf_read.proofs.jumps.are_straying.Goals as goal

pub loop-preserved : goal.loop-preserved
loop-preserved c =
    let missed = ap (λ n. strays c.args.marks.now c.args.length c.args.place n 2147483648) (sym c.u4_in.ensures) ∙ sym c.strays.ensures
    ∙ c.if-strays.false in
    rw c.tail-rest.ensures (stray_more c.args.marks.now c.args.length c.args.place c.args.step c.args.count c.loop.counter c.loop.rest.now _
    c.loop-test.true missed c.loop.invariant)
