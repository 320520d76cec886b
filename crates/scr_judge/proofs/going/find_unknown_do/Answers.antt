use Rattle.std.proofs.Common.{[], None, sym, ap, ◌∙◌}
use Rattle.std.specs.HashSet.{contains_text}
use Rattle.scr_tree.specs.View.{statements}
use Rattle.scr_judge.specs.inner.Gone.{unknown_in}
use Rattle.scr_judge.specs.inner.Listed.{first_among}
use Rattle.scr_judge.specs.inner.OnSpot.{asks_protocol, walk}
use Rattle.scr_judge.specs.inner.View.{culprit_of}
use Rattle.scr_judge.proofs.Files.{or_here, or_behind, file_going}
use Rattle.scr_judge.proofs.going.find_unknown_do.Goals as goal

pub returns-in-Some : goal.returns-in-Some
returns-in-Some c =
    file_going c.args.written.now (contains_text c.in_ok-names.names) c.in_ok-names.ensures _
    (or_here _ _ _ (ap (λ b. walk (asks_protocol (contains_text c.in_ok-names.names)) None [] (statements b)) (sym c.as_slice.ensures.items)
    ∙ sym c.find_unknown_protocol.ensures
    ∙ ap culprit_of c.in-Some.is))

pub returns : goal.returns
returns c =
    file_going c.args.written.now (contains_text c.in_ok-names.names) c.in_ok-names.ensures _
    (or_behind _ _ _ (ap (λ b. walk (asks_protocol (contains_text c.in_ok-names.names)) None [] (statements b))
    (sym c.as_slice.ensures.items) ∙ sym c.find_unknown_protocol.ensures
    ∙ ap culprit_of c.in-None.is) (c.find_unknown_in.ensures ∙ ap (first_among (unknown_in (contains_text c.in_ok-names.names)))
    c.as_slice-in-None.ensures.items))
