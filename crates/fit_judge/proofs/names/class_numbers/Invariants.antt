use Rattle.std.proofs.Common.{take}
use Rattle.jv_core.specs.Lookup.{text_at}
use Rattle.jv_core.specs.declared.program.CoreClass.{CoreClass}
use Rattle.fit_judge.proofs.Named.{Numbers}
use Rattle.fit_judge.proofs.names.class_numbers.Given as goal

abbrev pub invariant-loop-number : goal.invariant-loop-number
invariant-loop-number l = Numbers (λ (class : CoreClass). text_at l.core class.name.0) (take l.number l.classes) l.numbers
