use Rattle.std.proofs.Common.{map, Some, refl, ap}
use Rattle.std.proofs.lemmas.Result.{err_from_is_err_and}
use Rattle.std.specs.Option.{option_or}
use Rattle.jv_tree.specs.View.{expr_of, group_of, groups_of}
use Rattle.jv_rules.specs.Taking.{AnyEnum}
use Rattle.jv_types.specs.inner.Scopes.{scope_seen}
use Rattle.jv_types.specs.inner.Stating.{value_told, cases_told, choice_told}
use Rattle.jv_types.proofs.Checking.{tells_first}
use Rattle.jv_types.proofs.StmtLoops.{answers_last}
use Rattle.jv_types.proofs.StmtSteps.{value_tells, value_wrong, value_fine}
use Rattle.jv_types.proofs.switches.check_choice.Goals as goal

pub returns-in_err-checked : goal.returns-in_err-checked
returns-in_err-checked c =
    let r = err_from_is_err_and c.from_residual.result c.from_residual.ensures.1 in
    let s = scope_seen c.args.scope.now c.args.locals.now in
    let e = expr_of c.args.value.now in
    let gs = groups_of (map group_of c.args.groups.now) in
    rw (r.1, r.2)
    (tells_first c.in_err-checked.field-0.0 (value_told s e AnyEnum) (cases_told s c.args.place e gs) (choice_told s c.args.place e gs) refl
    (value_tells s e AnyEnum c.in_err-checked.field-0.0 c.in_err-checked.ensures))

pub returns-in-Some : goal.returns-in-Some
returns-in-Some c =
    let s = scope_seen c.args.scope.now c.args.locals.now in
    let e = expr_of c.args.value.now in
    ap (λ z. option_or z (cases_told s c.args.place e (groups_of (map group_of c.args.groups.now))))
    (value_wrong s e AnyEnum c.in_ok-checked.checked c.in_ok-checked.ensures c.in-Some.at c.in-Some.ensures)

pub check_cases-requires : goal.check_cases-requires
check_cases-requires c = c.in_ok-checked.ensures.typed

pub returns-in-None : goal.returns-in-None
returns-in-None c =
    let s = scope_seen c.args.scope.now c.args.locals.now in
    let e = expr_of c.args.value.now in
    let gs = groups_of (map group_of c.args.groups.now) in
    answers_last c.check_cases.result (value_told s e AnyEnum) (cases_told s c.args.place e gs) (choice_told s c.args.place e gs) refl
    (value_fine s e AnyEnum c.in_ok-checked.checked c.in_ok-checked.ensures c.in-None.ensures) c.check_cases.ensures
