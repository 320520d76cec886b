use Rattle.std.proofs.Common.{map, Bor, Option, Some, None, false, sym, ap, ◌∙◌}
use Rattle.std.specs.Option.{option_map}
use Rattle.std.proofs.lemmas.Result.{err_from_is_err_and}
use Rattle.mg_text.specs.declared.text.Text.{Text}
use Rattle.jv_tree.specs.View.{expr_of, group_of, groups_of}
use Rattle.jv_rules.specs.inner.Deciding.{is_case_of}
use Rattle.jv_types.specs.Tables.{program_in}
use Rattle.jv_types.specs.inner.View.{type_seen}
use Rattle.jv_types.specs.inner.Scopes.{scope_seen}
use Rattle.jv_types.specs.inner.Stating.{bad_case}
use Rattle.jv_types.proofs.Choosing.{cases_decided}
use Rattle.jv_types.proofs.switches.check_cases.Goals as goal

pub returns-in_err-labels : goal.returns-in_err-labels
returns-in_err-labels c =
    let r = err_from_is_err_and c.from_residual.result c.from_residual.ensures.1 in
    rw (r.1, r.2) tt

pub returns-in_err-bad : goal.returns-in_err-bad
returns-in_err-bad c =
    let r = err_from_is_err_and c.from_residual-in_err-bad.result c.from_residual-in_err-bad.ensures.1 in
    rw (r.1, r.2) tt

pub returns-in-Some : goal.returns-in-Some
returns-in-Some c =
    cases_decided (scope_seen c.args.scope.now c.args.locals.now) c.args.place (expr_of c.args.value.now) (type_seen c.args.ty) c.requires
    (groups_of (map group_of c.args.groups.now))
    (map (λ (l : Bor (Option Text)). l.now) c.as_slice.result.now) (Some c.in-Some.name.now)
    (ap (map (λ (l : Bor (Option Text)). l.now)) c.as_slice.ensures.value ∙ c.in_ok-labels.ensures)
    (ap (option_map (λ n. n.now)) (sym c.in-Some.is) ∙ c.in_ok-bad.ensures ∙
    ap (λ met. bad_case (is_case_of (program_in c.args.scope.now.table.now) (Some (type_seen c.args.ty))) met false
    (map (λ (l : Bor (Option Text)). l.now) c.as_slice.result.now)) c.new-met.ensures)

pub returns : goal.returns
returns c =
    cases_decided (scope_seen c.args.scope.now c.args.locals.now) c.args.place (expr_of c.args.value.now) (type_seen c.args.ty) c.requires
    (groups_of (map group_of c.args.groups.now))
    (map (λ (l : Bor (Option Text)). l.now) c.as_slice.result.now) None
    (ap (map (λ (l : Bor (Option Text)). l.now)) c.as_slice.ensures.value ∙ c.in_ok-labels.ensures)
    (ap (option_map (λ n. n.now)) (sym c.in-None.is) ∙ c.in_ok-bad.ensures ∙
    ap (λ met. bad_case (is_case_of (program_in c.args.scope.now.table.now) (Some (type_seen c.args.ty))) met false
    (map (λ (l : Bor (Option Text)). l.now) c.as_slice.result.now)) c.new-met.ensures)
