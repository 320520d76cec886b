-- What is reported, as the code has it.
use Rattle.mg_sets.specs.Sets.{members}
use Rattle.use_flow.specs.View.{tables_of, reached_of}
use Rattle.use_check.specs.declared.lines.Reporter.{Reporter}
use Rattle.use_check.specs.Report.{Usages}

abbrev pub seen : Reporter → Usages
seen r = record { program = r.core.now; reached = reached_of r.tables.now; elements = λ key. members (tables_of r.tables.now key) }
