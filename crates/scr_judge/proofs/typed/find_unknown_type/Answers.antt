use Rattle.std.proofs.Common.{sym, ap, ◌∙◌}
use Rattle.std.specs.HashSet.{contains_text}
use Rattle.scr_judge.specs.inner.View.{culprit_of}
use Rattle.scr_judge.proofs.Tables.{unknown_type, unknown_declaration}
use Rattle.scr_judge.proofs.typed.find_unknown_type.Goals as goal

pub returns-in-Some : goal.returns-in-Some
returns-in-Some c = unknown_declaration c.args.types.now c.args.carries.now _ (sym (ap culprit_of c.in-Some.is) ∙
    c.find_unsupported.ensures)

pub returns-in_ok-aliases-in-None : goal.returns-in_ok-aliases-in-None
returns-in_ok-aliases-in-None c =
    unknown_type c.args.types.now c.args.carries.now (contains_text c.in_ok-aliases-in-None.aliases) c.in_ok-aliases-in-None.ensures _
    (sym (ap culprit_of c.in-None.is) ∙ c.find_unsupported.ensures) c.find_undeclared.ensures
