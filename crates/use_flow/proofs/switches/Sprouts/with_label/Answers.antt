use Rattle.std.proofs.Common.{◌≡◌, ◌<◌, [], length, get_or, arith}
use Rattle.std.proofs.lemmas.Grind.{common_steps}
use Rattle.use_flow.proofs.Choosing.{some_led_at}
use Rattle.use_flow.proofs.switches.Sprouts.with_label.Goals as goal

pub returns-then-at-len : goal.returns-then-at-len
returns-then-at-len c =
    let at : c.index.result.now ≡ get_or c.args.self.now.branches.sets.items c.in-Some.constant [] = grind (arith, common_steps) in
    let within : c.in-Some.constant < length c.args.self.now.branches.sets.items = grind (arith, common_steps) in
    some_led_at c.args.self.now.branches.variable c.args.self.now.branches.known c.args.self.now.branches.sets.items c.args.all
    c.args.self.now.rest c.args.label c.in-Some.constant
    c.index.result.now c.in_ok-all-in-Some.all c.in-Some.is within at c.in_ok-all-in-Some.ensures
