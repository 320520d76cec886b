use Rattle.std.proofs.Common.{◌∷◌, ◌++◌, [], ap, ◌∙◌}
use Rattle.mg_text.specs.declared.names.Name.{Name}
use Rattle.use_rules.specs.Elements.{none}
use Rattle.use_flow.proofs.Choosing.{mapped_any, mapped_all}
use Rattle.use_flow.proofs.switches.empty_sets.Goals as goal

pub loop-constant-preserved : goal.loop-constant-preserved
loop-constant-preserved c =
    mapped_any (none 0) c.args.constants.now c.loop-constant._constant-index c.loop-constant.sets.items c.push.new.self.items _
    c.loop-constant-test.true
    (c.in_ok-push.ensures.items ∙ ap (λ y. c.loop-constant.sets.items ++ y ∷ []) c.in_ok-set.ensures) c.loop-constant.invariant

pub returns : goal.returns
returns c =
    mapped_all (λ (n : Name). none 0) c.args.constants.now c.loop-constant._constant-index c.loop-constant.sets.items
    c.loop-constant-test.false c.loop-constant.invariant
