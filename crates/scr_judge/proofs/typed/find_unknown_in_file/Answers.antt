use Rattle.std.proofs.Common.{sym, ap, ◌∙◌}
use Rattle.std.specs.HashSet.{contains_text}
use Rattle.scr_judge.specs.inner.Listed.{first_among, undeclared_in, undeclared_by}
use Rattle.scr_judge.specs.inner.View.{culprit_of}
use Rattle.scr_judge.proofs.Files.{or_here, or_behind, file_unknown, file_unsupported}
use Rattle.scr_judge.proofs.Tables.{declarations_at_fault}
use Rattle.scr_judge.proofs.typed.find_unknown_in_file.Goals as goal

pub returns-in-Some : goal.returns-in-Some
returns-in-Some c =
    file_unsupported c.args.written.now _ _ c.as_slice-types.ensures.items
    (declarations_at_fault c.as_slice-types.result.now _ (sym (ap culprit_of c.in-Some.is) ∙ c.find_unsupported.ensures))

pub returns-in-Some-find_undeclared : goal.returns-in-Some-find_undeclared
returns-in-Some-find_undeclared c =
    file_unknown c.args.written.now _ (contains_text c.in_ok-aliases-in-None.aliases) c.as_slice-types.ensures.items
    c.in_ok-aliases-in-None.ensures
    (sym (ap culprit_of c.in-None.is) ∙ c.find_unsupported.ensures) _
    (or_here _ _ _ (ap (first_among (undeclared_in (contains_text c.in_ok-aliases-in-None.aliases))) (sym c.as_slice.ensures.items)
    ∙ sym c.find_undeclared.ensures ∙ ap culprit_of c.in-Some-find_undeclared.is))

pub returns : goal.returns
returns c =
    file_unknown c.args.written.now _ (contains_text c.in_ok-aliases-in-None.aliases) c.as_slice-types.ensures.items
    c.in_ok-aliases-in-None.ensures
    (sym (ap culprit_of c.in-None.is) ∙ c.find_unsupported.ensures) _
    (or_behind _ _ _ (ap (first_among (undeclared_in (contains_text c.in_ok-aliases-in-None.aliases))) (sym c.as_slice.ensures.items)
    ∙ sym c.find_undeclared.ensures ∙ ap culprit_of c.in-None-find_undeclared.is)
    (c.find_undeclared_among.ensures ∙ ap (first_among (undeclared_by (contains_text c.in_ok-aliases-in-None.aliases)))
    c.as_slice-in-None-find_undeclared.ensures.items))
