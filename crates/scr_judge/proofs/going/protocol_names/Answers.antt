use Rattle.std.proofs.Common.{map, ◌∙◌}
use Rattle.scr_judge.specs.inner.Gone.{part_name, with_names}
use Rattle.scr_judge.specs.inner.Seen.{with_name}
use Rattle.scr_judge.proofs.going.protocol_names.Goals as goal

pub returns : goal.returns
returns c =
    c.in_ok-add_names.ensures ∙ (λ i. with_names (map part_name (c.as_slice.ensures.items i))
    ((c.in_ok-add_name.ensures.names ∙ (λ j. with_name ((c.in_ok-first.ensures.ok ∙ c.as_str.ensures) j) (c.no_names-names.ensures j))) i))
