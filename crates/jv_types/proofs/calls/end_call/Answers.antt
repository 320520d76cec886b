use Rattle.std.proofs.Common.{map, Option, None, refl, sym, subst}
use Rattle.jv_tree.specs.Source.{Call}
use Rattle.jv_tree.specs.View.{expr_of, exprs_of}
use Rattle.jv_rules.specs.Types.{Signature}
use Rattle.jv_types.specs.declared.calls.Site.{Site}
use Rattle.jv_types.specs.inner.Calls.{IsSite}
use Rattle.jv_types.specs.inner.Scopes.{scope_seen}
use Rattle.jv_types.proofs.CallForms.{plain_site}
use Rattle.jv_types.proofs.calls.end_call.Goals as goal

pub returns : goal.returns
returns c =
    let s = scope_seen c.args.scope.now c.args.locals.now in
    let args = exprs_of (map expr_of c.args.args.now) in
    let site : Site = record {
      place = c.args.place;
      name = c.args.name;
      receiver = None;
      is_own = c.own_call-own.result.is_protocol;
      field =
          None;
      helper = c.own_call-own.result.is_helper;
    } in
    let e = Call c.args.place c.args.name.now args in
    c.end_method.ensures e (subst (λ (o : Option Signature). IsSite s e site o args) (sym c.called-signature.ensures)
    (plain_site s site args refl c.own_call-own.ensures.protocol refl c.own_call-own.ensures.helper))
