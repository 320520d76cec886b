use Rattle.std.proofs.Common.{List, ◌∙◌, subst}
use Rattle.std.proofs.lemmas.Result.{err_from_is_err_and}
use Rattle.vm_world_law.specs.declared.role.RoleMain.{RoleMain}
use Rattle.mg_sources.specs.Files.{sources}
use Rattle.mg_exec.specs.Runs.{FirstRefusal}
use Rattle.mg_exec.specs.View.{IsOfRun}
use Rattle.mg_words.specs.Words.{Exec}
use Rattle.mg_words.specs.inner.Judging.{asked_of}
use Rattle.mg_top.specs.Commands as commands
use Rattle.mg_top.proofs.CommandLemmas.{stopped_so}
use Rattle.mg_top.proofs.ExecLemmas.{exec_given}
use Rattle.mg_top.proofs.RoleLemmas.{roles_distinct, numbers_below, each_numbered}
use Rattle.mg_top.proofs.exec.exec.Goals as goal

pub exec_roles-requires-clause-roles : goal.exec_roles-requires-clause-roles
exec_roles-requires-clause-roles c =
    roles_distinct _ (asked_of c.args.asked.now) (c.as_slice-roles.ensures.items ∙ c.in_ok-mains.ensures.items)
    c.in_ok-mains.ensures.distinct

pub exec_roles-requires-clause-numbers : goal.exec_roles-requires-clause-numbers
exec_roles-requires-clause-numbers c =
    numbers_below _ (asked_of c.args.asked.now) _ (c.as_slice-roles.ensures.items ∙ c.in_ok-mains.ensures.items)
    (c.as_slice.ensures.value ∙ c.in_ok-order.ensures.items) c.in_ok-order.ensures.below

pub exec_roles-requires-clause-order : goal.exec_roles-requires-clause-order
exec_roles-requires-clause-order c =
    each_numbered _ (asked_of c.args.asked.now) _ (c.as_slice-roles.ensures.items ∙ c.in_ok-mains.ensures.items)
    (c.as_slice.ensures.value ∙ c.in_ok-order.ensures.items) c.in_ok-order.ensures.each

pub returns-in_err-mains : goal.returns-in_err-mains
returns-in_err-mains c = λ names same.
    let e = err_from_is_err_and c.from_residual.result c.from_residual.ensures.1 in
    rw (e.1, e.2) tt

pub returns-in_err-order : goal.returns-in_err-order
returns-in_err-order c = λ names same.
    let e = err_from_is_err_and c.from_residual-in_err-order.result c.from_residual-in_err-order.ensures.1 in
    rw (e.1, e.2) tt

pub returns-in_err-ran : goal.returns-in_err-ran
returns-in_err-ran c = λ names same.
    let files = sources names c.args.contents.now in
    let asked = asked_of c.args.asked.now in
    let mains_are = c.as_slice-roles.ensures.items ∙ c.in_ok-mains.ensures.items in
    let e = err_from_is_err_and c.from_residual-in_err-ran.result c.from_residual-in_err-ran.ensures.1 in
    rw (e.1, e.2)
    (stopped_so (Exec asked names) c.args.contents.now
    (IsOfRun files c.as_slice-roles.result.now c.as_slice.result.now c.limit_of-limit.result c.is_named-named.result asked.traced)
    (FirstRefusal files c.as_slice-roles.result.now)
    (λ r h. commands.exec (subst (λ (z : List RoleMain). FirstRefusal files z r) mains_are h)) _ (c.in_err-ran.ensures.answered names same))

pub returns-in_err-show : goal.returns-in_err-show
returns-in_err-show c = λ names same.
    let e = err_from_is_err_and c.from_residual-in_err-show.result c.from_residual-in_err-show.ensures.1 in
    rw (e.1, e.2) tt

pub returns : goal.returns
returns c = λ names same.
    exec_given (asked_of c.args.asked.now) names c.args.contents.now _ _ c.limit_of-limit.result
    c.is_named-named.result c.in_ok-ran.ran c.in_ok-show.field-0
    (c.as_slice-roles.ensures.items ∙ c.in_ok-mains.ensures.items) (c.as_slice.ensures.value ∙ c.in_ok-order.ensures.items)
    c.limit_of-limit.ensures c.is_named-named.ensures (c.in_ok-ran.ensures.answered names same) c.in_ok-show.ensures.actions
    c.in_ok-show.ensures.status
