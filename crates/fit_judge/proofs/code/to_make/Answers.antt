use Rattle.std.proofs.Common.{◌∙◌, sym}
use Rattle.jv_core.specs.View.{method_of}
use Rattle.fit_judge.proofs.Tables.{make_named, make_nothing, make_unnamed}
use Rattle.fit_judge.proofs.code.to_make.Goals as goal

pub returns-then-not-is_main : goal.returns-then-not-is_main
returns-then-not-is_main c = λ mains by.
    sym (make_nothing c.args.core.now mains (method_of c.args.method.now) (sym c.is_main.ensures ∙ c.if-not-is_main.true))

pub returns-in-Some : goal.returns-in-Some
returns-in-Some c = λ mains by.
    c.copied.ensures ∙ c.get.ensures.value ∙ by c.in-Some.name.now
    ∙ sym (make_named c.args.core.now mains (method_of c.args.method.now) c.in-Some.name.now
    (sym c.is_main.ensures ∙ c.if-not-is_main.false) (sym c.in-Some.ensures))

pub returns-in-None : goal.returns-in-None
returns-in-None c = λ mains by. sym (make_unnamed c.args.core.now mains (method_of c.args.method.now) (sym c.in-None.ensures))
