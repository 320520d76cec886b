use Rattle.std.proofs.Common.{sym, subst}
use Rattle.mg_sources.specs.Files.{HaveKinds}
use Rattle.part_cases.proofs.programs.program.core_of.Goals as goal

pub resolve_program-requires-clause-kinds : goal.resolve_program-requires-clause-kinds
resolve_program-requires-clause-kinds c = subst HaveKinds (sym c.as_slice.ensures.items) c.in_ok-sources.ensures.kinds
