use Rattle.std.proofs.Common.{◌≡◌, drop, map}
use Rattle.std.specs.HashSet.{contains_text}
use Rattle.scr_judge.specs.inner.Gone.{part_name, with_names}
use Rattle.scr_judge.proofs.going.add_names.Given as goal

abbrev pub invariant-loop-part : goal.invariant-loop-part
invariant-loop-part l = with_names (map part_name l.parts) (contains_text l.initial.names)
    ≡ with_names (map part_name (drop l.part-index l.parts)) (contains_text l.names)
