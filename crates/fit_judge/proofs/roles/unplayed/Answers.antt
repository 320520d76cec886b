use Rattle.std.proofs.Common.{map, codes}
use Rattle.std.specs.HashSet.{contains_text}
use Rattle.std.proofs.lemmas.Result.{IfOk-weaker}
use Rattle.fit_judge.proofs.Absences.{absent_as}
use Rattle.fit_judge.proofs.roles.unplayed.Goals as goal

pub returns : goal.returns
returns c ps p =
    IfOk-weaker c.absent.result _ _ (λ r j. absent_as (codes "Unplayed") (contains_text c.in_ok-played.played)
    (map (λ m. m.role) c.args.mains.now) c.in_ok-played.ensures j) c.absent.ensures
