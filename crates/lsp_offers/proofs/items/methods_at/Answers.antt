use Rattle.std.proofs.Common.{◌-◌, ◌<◌, ◌≤◌, length, arith}
use Rattle.std.proofs.lemmas.Bool.Decides.{nat_tests}
use Rattle.lsp_offers.proofs.Naming.{some_offered, none_offered}
use Rattle.lsp_offers.proofs.items.methods_at.Goals as goal

pub returns-in-Some : goal.returns-in-Some
returns-in-Some c =
    let at = c.in-Some.ensures.lookup in
    let test = at.0 in
    let less : c.args.element - 3 < length c.args.states.now = grind (arith, nat_tests, test) in
    some_offered c.args.states.now c.args.element (omega arith) c.in-Some.state.now c.as_slice.result.now less at.1
    c.as_slice.ensures.items

pub returns-in-None : goal.returns-in-None
returns-in-None c =
    let test = c.in-None.ensures.lookup.0 in
    let most : length c.args.states.now ≤ c.args.element - 3 = grind (arith, nat_tests, test) in
    none_offered c.args.states.now c.args.element (omega arith) most
