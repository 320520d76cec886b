-- The reports are computed.
use Rattle.std.proofs.Common.{◌≡◌, [], ◌∷◌, refl, arith}
use Rattle.std.specs.Fmt.{decimal}
use Rattle.std.proofs.lemmas.Fmt.{decimal_digit}
use Rattle.use_rules.proofs.Examples.{fails}
use Rattle.use_check.specs.Computed.{ReportsOfExamples}

pub reports : ReportsOfExamples
reports =
    let one : decimal 1 ≡ 49 ∷ [] = decimal_digit 1 (omega arith) in
    record {
      kept_reports = rw one refl;
      tested_reports = refl;
      swaps_report = refl;
      nodes_report = rw one refl;
      nodes_fail = fails _ _ _ _ refl refl;
      files_report = rw one refl;
      files_fail = fails _ _ _ _ refl refl;
      unclosed_fail = fails _ _ _ _ refl refl;
    }
