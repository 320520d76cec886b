use Rattle.std.proofs.Common.{arith, [], map, ◌∙◌}
use Rattle.stm_api.proofs.Made.{method_steps}
use Rattle.scr_tree.specs.Local.{tree_of}
use Rattle.stm_api.specs.Api.{method_of}
use Rattle.stm_api.specs.inner.Does.{firsts_of}
use Rattle.stm_api.specs.inner.View.{doing_of}
use Rattle.stm_api.proofs.Whole.{method_more}
use Rattle.stm_api.proofs.files.methods_of.Goals as goal

pub loop-doing-preserved : goal.loop-doing-preserved
loop-doing-preserved c =
    let me = (tree_of c.args.local.now).me in
    method_more me c.args.place c.loop-doing.seen c.add_call.new.seen c.args.doings.now c.loop-doing.doing-index c.doing-item.result
    c.loop-doing.methods.items c.push.new.self.items
    c.in_ok-method.method c.as_str.result.now c.in_ok-is_new.is_new
    (map (method_of c.args.place me) (firsts_of me [] (map doing_of c.args.doings.now))) c.loop-doing-test.true c.doing-item.is
    (c.as_str.ensures ∙ c.in_ok-name.ensures) c.in_ok-is_new.ensures.new c.if-not-is_new.false c.in_ok-is_new.ensures.added
    c.in_ok-method.ensures c.in_ok-push.ensures.ok c.loop-doing.invariant

pub loop-doing-init : goal.loop-doing-init
loop-doing-init c = grind (arith, method_steps)

pub loop-doing-preserved-then-not-is_new : goal.loop-doing-preserved-then-not-is_new
loop-doing-preserved-then-not-is_new c = grind (arith, method_steps)

pub returns : goal.returns
returns c = grind (arith, method_steps)
