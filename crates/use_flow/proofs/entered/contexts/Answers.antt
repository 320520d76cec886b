use Rattle.std.proofs.Common.{ap, ◌∙◌}
use Rattle.use_rules.specs.Keys.{contexts_in}
use Rattle.use_flow.proofs.entered.contexts.Goals as goal

pub returns : goal.returns
returns c = record {
  reached = c.in_ok-reached.reached.items;
  are = c.in_ok-reached.ensures.reached;
  is = c.in_ok-entered.ensures ∙ ap (contexts_in c.args.core.now) c.as_slice.ensures.value;
}
