use Rattle.std.proofs.Common.{sym, ◌∙◌}
use Rattle.jv_tree.specs.BuiltIn.{text_method, text_calls, method_seen}
use Rattle.jv_tree.proofs.BuiltInLaws.{passed_over}
use Rattle.jv_tree.proofs.built_in.TextCall.named.Goals as goal

pub loop-call-preserved : goal.loop-call-preserved
loop-call-preserved c =
    passed_over text_method text_calls c.args.name.now c.loop-call.call-index _ (method_seen c.method.result) c.loop-call-test.true
    c.method.ensures (sym c.eq.ensures ∙ c.if-eq.false)
    ∙ c.loop-call.invariant
