use Rattle.std.proofs.Common.{◌≡◌, drop, map}
use Rattle.scr_tree.specs.Tree.{other}
use Rattle.scr_tree.specs.View.{part_of}
use Rattle.stm_client.specs.inner.Surveyed.{survey_all}
use Rattle.stm_client.proofs.survey.survey_parts.Given as goal

abbrev pub invariant-loop-part : goal.invariant-loop-part
invariant-loop-part l =
    survey_all l.me l.fn.so_far (map other (map part_of l.parts))
    ≡ survey_all l.me l.so_far (map other (map part_of (drop l.part-index l.parts)))
