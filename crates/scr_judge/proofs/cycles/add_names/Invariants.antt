use Rattle.std.proofs.Common.{◌≡◌, drop, map}
use Rattle.scr_judge.specs.inner.Gone.{part_name}
use Rattle.scr_judge.specs.inner.Round.{with_texts}
use Rattle.scr_judge.proofs.cycles.add_names.Given as goal

abbrev pub invariant-loop-part : goal.invariant-loop-part
invariant-loop-part l = with_texts (map part_name l.parts) l.initial.names ≡ with_texts (map part_name (drop l.part-index l.parts)) l.names
