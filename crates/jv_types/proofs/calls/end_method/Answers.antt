use Rattle.std.proofs.Common.{map, refl, sym, ap, subst}
use Rattle.std.specs.Option.{option_map}
use Rattle.std.proofs.lemmas.Result.{err_from_is_err_and}
use Rattle.jv_tree.specs.View.{expr_of, exprs_of}
use Rattle.jv_types.specs.inner.Judging.{Tells}
use Rattle.jv_types.specs.inner.Scopes.{scope_seen, program_seen}
use Rattle.jv_types.specs.inner.Signatures.{signature_seen}
use Rattle.jv_types.proofs.CallSteps.{types_count, known_method, method_fine}
use Rattle.jv_types.proofs.calls.end_method.Goals as goal

pub end_site-requires : goal.end_site-requires
end_site-requires c = types_count (scope_seen c.args.scope.now c.args.locals.now) c.args.args.now c.args.given.now.types.items
    c.requires.typed

pub returns-in_err-end_site : goal.returns-in_err-end_site
returns-in_err-end_site c = λ e k.
    let s = scope_seen c.args.scope.now c.args.locals.now in
    let sees = signature_seen (program_seen c.args.scope.now) in
    let r = err_from_is_err_and c.from_residual.result c.from_residual.ensures.1 in
    rw (r.1, r.2) (subst (Tells c.in_err-end_site.field-0.0)
    (sym (known_method s e c.args.site (option_map sees c.args.signature) (exprs_of (map expr_of c.args.args.now)) k c.args.given.now
    c.requires (sees c.in-Some.signature) (ap (option_map sees) c.in-Some.is)))
    c.in_err-end_site.ensures)

pub returns : goal.returns
returns c = λ e k.
    let sees = signature_seen (program_seen c.args.scope.now) in
    method_fine (scope_seen c.args.scope.now c.args.locals.now) e c.args.site (option_map sees c.args.signature)
    (exprs_of (map expr_of c.args.args.now)) k c.args.given.now c.requires
    (sees c.in-Some.signature) (ap (option_map sees) c.in-Some.is) c.in_ok-end_site.ensures c.in-Some.signature.result c.either.result refl
    c.either.ensures
