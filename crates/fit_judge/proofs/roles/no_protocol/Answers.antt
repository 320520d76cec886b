use Rattle.std.proofs.Common.{map, codes}
use Rattle.std.specs.HashSet.{contains_text}
use Rattle.std.proofs.lemmas.Result.{IfOk-weaker}
use Rattle.mg_sources.specs.Parts.{part_of}
use Rattle.mg_fits.specs.Parts.{roles_in}
use Rattle.fit_judge.proofs.Absences.{absent_as}
use Rattle.fit_judge.proofs.roles.no_protocol.Goals as goal

pub returns : goal.returns
returns c p ms =
    IfOk-weaker c.absent.result _ _ (λ r j. absent_as (codes "NoProtocol") (contains_text c.in_ok-spelled.spelled)
    (roles_in (map part_of c.args.parts.now)) c.in_ok-spelled.ensures j) c.absent.ensures
