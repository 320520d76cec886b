use Rattle.std.proofs.Common.{ap, ◌∙◌}
use Rattle.std.proofs.lemmas.Result.{IfOk-weaker}
use Rattle.std.specs.HashSet.{contains_text}
use Rattle.scr_judge.specs.inner.Gone.{named_again}
use Rattle.scr_judge.specs.inner.Seen.{with_name}
use Rattle.scr_judge.specs.inner.View.{culprit_of}
use Rattle.scr_judge.proofs.Files.{file_again}
use Rattle.scr_judge.proofs.going.find_duplicate_protocol.Goals as goal

pub returns : goal.returns
returns c =
    IfOk-weaker c.find_named_again.result _ _
    (λ r e. file_again c.args.written.now (contains_text c.add_name.new.names)
    (c.in_ok-add_name.ensures.names ∙ (λ i. with_name ((c.in_ok-first.ensures.ok ∙ c.as_str.ensures) i) (c.no_names-names.ensures i)))
    (culprit_of r) (e ∙ ap (named_again (contains_text c.add_name.new.names)) c.as_slice.ensures.items)) c.find_named_again.ensures
