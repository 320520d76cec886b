use Rattle.std.proofs.Common.{◌∙◌, map, option_map, refl, arith}
use Rattle.std.proofs.lemmas.Grind.{common_steps}
use Rattle.lsp_server.specs.Telling.{telling}
use Rattle.lsp_server.proofs.Tellings.{none_told, more_told, item_got}
use Rattle.lsp_server.proofs.judging.put_sources.Goals as goal

pub loop-diagnostics-init : goal.loop-diagnostics-init
loop-diagnostics-init c = record { count = refl; told = none_told (map telling c.args.told.now.items) c.args.names.now c.args.versions.now }

pub loop-diagnostics-preserved : goal.loop-diagnostics-preserved
loop-diagnostics-preserved c = record {
  count = grind (arith, common_steps);
  told = more_told (map telling c.args.told.now.items) (map telling c.loop-diagnostics.told.items) (map telling c.put_source.new.told.items)
      c.args.names.now c.args.versions.now c.loop-diagnostics.yielded c.in-Some.diagnostics c.loop-diagnostics.at
      (option_map (λ n. n.now) c.get.result) c.copied.result c.loop-diagnostics.invariant.count
      (item_got c.args.names.now c.loop-diagnostics.at c.get.result c.get.ensures.lookup)
      (c.copied.ensures
      ∙ item_got c.args.versions.now c.loop-diagnostics.at c.get-in-loop-diagnostics.result c.get-in-loop-diagnostics.ensures.lookup)
      c.loop-diagnostics.invariant.told c.in_ok-put_source.ensures;
}
