use Rattle.scr_judge.proofs.Sets.{one_noted}
use Rattle.scr_judge.proofs.seen.note_name.Goals as goal

pub returns-clause-names : goal.returns-clause-names
returns-clause-names c = one_noted c.args.name c.args.names.now c.insert.new.self c.in_ok-insert.ensures.updates
