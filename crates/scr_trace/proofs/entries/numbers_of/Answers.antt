use Rattle.std.proofs.Common.{◌∙◌, rules}
use Rattle.std.specs.HashMap.{get_by_text}
use Rattle.std.specs.String.{string_bytes}
use Rattle.std.proofs.lemmas.Map.Text.{hash_map_updates_text}
use Rattle.scr_trace.proofs.Naming.{inserted, numbered_all}
use Rattle.scr_trace.proofs.entries.numbers_of.Goals as goal

pub returns : goal.returns
returns c = λ q. hash_map_updates_text (string_bytes c.in_ok-name.name) c.in_ok-numbers.numbers c.insert.new.self _
    c.in_ok-insert.ensures.updates q
    ∙ inserted c.args.local.now.name (string_bytes c.in_ok-name.name) q c.in-Ok.number (get_by_text c.in_ok-numbers.numbers) (search rules)
    ∙ numbered_all c.others.result.now.items c.args.local.now.others.items q c.args.local.now.name c.in-Ok.number
    (get_by_text c.in_ok-numbers.numbers q) c.others.ensures (search rules) (search rules)
