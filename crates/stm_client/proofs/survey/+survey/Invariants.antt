use Rattle.std.proofs.Common.{◌≡◌, ◌+◌, ◌*◌, drop}
use Rattle.scr_tree.specs.View.{statements, bodies}
use Rattle.stm_client.specs.inner.Surveyed.{survey, survey_in}
use Rattle.stm_client.proofs.survey.+survey.Given as goal

abbrev pub invariant-survey_body-loop-statement : goal.invariant-survey_body-loop-statement
invariant-survey_body-loop-statement l =
    survey l.me l.level l.fn.so_far (statements l.body) ≡ survey l.me l.level l.so_far (statements (drop l.statement-index l.body))

abbrev pub invariant-survey_in-loop-branch : goal.invariant-survey_in-loop-branch
invariant-survey_in-loop-branch l =
    survey_in l.me l.is_own l.fn.level l.fn.so_far (bodies l.branches)
    ≡ survey_in l.me l.is_own l.level l.so_far (bodies (drop l.branch-index l.branches))

abbrev pub decreases-survey_at : goal.decreases-survey_at
decreases-survey_at l = 3 * goal.size-survey_at l

abbrev pub decreases-survey_body : goal.decreases-survey_body
decreases-survey_body l = 3 * goal.size-survey_body l + 1

abbrev pub decreases-survey_in : goal.decreases-survey_in
decreases-survey_in l = 3 * goal.size-survey_in l + 2
