use Rattle.lsp_serving.proofs.Speeches.{one_more}
use Rattle.lsp_serving.proofs.speaking.speak.Goals as goal

pub loop-message-preserved : goal.loop-message-preserved
loop-message-preserved c =
    one_more c.args.told.now c.loop-message.message-index c.message-item.result c.message-item.result c.loop-message.out
    c.put_message.new.out
    c.loop-message-test.true c.message-item.is c.loop-message.invariant c.in_ok-put_message.ensures
