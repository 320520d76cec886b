use Rattle.std.proofs.Common.{◌≡◌, ◌<◌, [], length, get_or, sym, ◌∙◌, arith}
use Rattle.std.proofs.lemmas.Grind.{common_steps}
use Rattle.use_flow.proofs.Choosing.{rest_uncased}
use Rattle.use_flow.proofs.switches.Branches.rest.Goals as goal

pub loop-constant-preserved : goal.loop-constant-preserved
loop-constant-preserved c =
    let at : c.index.result.now ≡ get_or c.args.self.now.sets.items c.loop-constant.constant [] = grind (arith, common_steps) in
    let within : c.loop-constant.constant < length c.args.self.now.sets.items = grind (arith, common_steps) in
    rest_uncased c.args.cased.now c.args.self.now.variable c.args.self.now.known c.args.self.now.sets.items c.loop-constant.constant within
    c.loop-constant.rest _ c.index.result.now
    c.in_ok-all.all (sym c.is_in.ensures ∙ c.if-is_in.false) at c.in_ok-all.ensures c.loop-constant.invariant
