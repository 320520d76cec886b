use Rattle.std.proofs.Common.{sym, ◌∙◌}
use Rattle.gen_rules.specs.Limits.{is_long}
use Rattle.gen_pool.specs.Keys.{const_of}
use Rattle.gen_members.proofs.Looking.{go_on, is_there, is_none}
use Rattle.gen_members.proofs.texts.has_long.Goals as goal

pub loop-key-preserved : goal.loop-key-preserved
loop-key-preserved c = go_on is_long const_of c.args.keys.now c.loop-key.key-index c.key-item.result _ c.loop-key-test.true c.key-item.is
    (sym c.is_long.ensures ∙ c.if-is_long.false) c.loop-key.invariant

pub returns-then-is_long : goal.returns-then-is_long
returns-then-is_long c = is_there is_long const_of c.args.keys.now c.loop-key.key-index c.key-item.result _ c.loop-key-test.true
    c.key-item.is
    (sym c.is_long.ensures ∙ c.if-is_long.true) c.loop-key.invariant

pub returns : goal.returns
returns c = is_none is_long const_of c.args.keys.now c.loop-key.key-index _ c.loop-key-test.false c.loop-key.invariant
