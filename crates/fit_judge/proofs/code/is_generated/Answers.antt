use Rattle.std.proofs.Common.{◌∙◌, sym}
use Rattle.std.specs.HashSet.{contains_text}
use Rattle.jv_core.specs.View.{method_of}
use Rattle.fit_judge.proofs.Tables.{generated_named, generated_unnamed}
use Rattle.fit_judge.proofs.code.is_generated.Goals as goal

pub returns-in-Some : goal.returns-in-Some
returns-in-Some c = λ roles held. c.contains.ensures
    ∙ generated_named roles c.args.core.now (method_of c.args.method.now).class c.in-Some.name.now
    (contains_text c.args.classes.now c.in-Some.name.now) (sym c.in-Some.ensures) (held c.in-Some.name.now)

pub returns-in-None : goal.returns-in-None
returns-in-None c = λ roles held. generated_unnamed roles c.args.core.now (method_of c.args.method.now).class (sym c.in-None.ensures)
