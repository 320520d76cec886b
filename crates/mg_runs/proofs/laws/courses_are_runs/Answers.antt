use Rattle.mg_runs.proofs.Courses.{runs_law}
use Rattle.mg_runs.proofs.laws.courses_are_runs.Goals as goal

pub returns : goal.returns
returns c =
    runs_law c.roles_are_meant.ensures c.roles_keep.ensures c.roles_play.ensures c.roles_fit.ensures c.protocols_agree.ensures
