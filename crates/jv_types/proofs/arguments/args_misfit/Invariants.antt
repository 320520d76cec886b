use Rattle.std.proofs.Common.{◌≡◌}
use Rattle.jv_types.specs.inner.Signatures.{params_seen}
use Rattle.jv_types.specs.Tables.{program_in}
use Rattle.jv_types.proofs.AtIndex.{left_misfit}
use Rattle.jv_types.proofs.arguments.args_misfit.Given as goal

abbrev pub invariant-loop-i : goal.invariant-loop-i
invariant-loop-i l = left_misfit l.args (params_seen (program_in l.table) l.params) l.types 0 ≡ left_misfit l.args
    (params_seen (program_in l.table) l.params) l.types l.i
