use Rattle.std.proofs.Common.{arith}
use Rattle.lsp_offers.proofs.Naming.{chosen_step}
use Rattle.lsp_offers.proofs.items.put_chosen.Goals as goal

pub loop-method-preserved : goal.loop-method-preserved
loop-method-preserved c =
    chosen_step c.args.tables.now c.args.always c.loop-method.items.items c.push.new.self.items _ c.args.methods.now
    c.loop-method.method-index c.method-item.result c.in_ok-item.item (omega arith) c.method-item.is c.if-not-is_chosen.ensures
    c.in_ok-item.ensures c.in_ok-push.ensures.items c.loop-method.invariant
