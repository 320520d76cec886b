use Rattle.mg_runs.proofs.Courses.{course_law}
use Rattle.mg_runs.proofs.laws.each_order_has_a_course.Goals as goal

pub returns : goal.returns
returns c = course_law c.written_classes_link.ensures c.runs_are_meant.ensures c.one_run.ensures.some
