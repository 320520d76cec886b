use Rattle.std.proofs.lemmas.Grind.{common_steps}
use Rattle.std.proofs.Common.{◌∙◌, ◌-◌, arith, rules}
use Rattle.std.specs.HashMap.{get_by_text}
use Rattle.std.specs.String.{string_bytes}
use Rattle.std.proofs.lemmas.Map.Text.{hash_map_updates_text}
use Rattle.scr_trace.proofs.Naming.{inserted, numbers_more}
use Rattle.scr_trace.proofs.entries.numbers_behind.Goals as goal

pub loop-i-preserved : goal.loop-i-preserved
loop-i-preserved c = record {
  counted = search rules;
  found = numbers_more c.args.others.now (c.loop-i.i - 1) c.loop-i.i c.loop-i.number c.index-others-i.result (get_by_text c.loop-i.numbers)
      (get_by_text c.insert.new.self) (omega arith) (omega arith) c.index-others-i.is c.loop-i.invariant.counted c.loop-i.invariant.found
      (λ q. hash_map_updates_text (string_bytes c.in_ok-name.name) c.loop-i.numbers c.insert.new.self _ c.in_ok-insert.ensures.updates q ∙
      inserted c.index-others-i.result.name (string_bytes c.in_ok-name.name) q c.loop-i.number (get_by_text c.loop-i.numbers)
      (search rules));
}

pub loop-i-init : goal.loop-i-init
loop-i-init c = grind (arith, common_steps)
