use Rattle.std.proofs.Common.{◌≡◌, map, Option, Some, None, refl, sym, subst, true, false}
use Rattle.jv_tree.specs.Source.{MethodCall}
use Rattle.jv_tree.specs.View.{expr_of, exprs_of}
use Rattle.jv_rules.specs.Types.{Signature}
use Rattle.jv_rules.specs.inner.Deciding.{is_receiver}
use Rattle.jv_types.specs.declared.calls.Receiver.{Receiver}
use Rattle.jv_types.specs.declared.calls.Site.{Site}
use Rattle.jv_types.specs.inner.View.{type_seen}
use Rattle.jv_types.specs.inner.Calls.{IsSite, ReceiverIs}
use Rattle.jv_types.specs.inner.Judging.{IsChecked, is_this, variable_name}
use Rattle.jv_types.specs.inner.Scopes.{scope_seen}
use Rattle.jv_types.proofs.CallForms.{own_site, behind_name, other_site}
use Rattle.jv_types.proofs.calls.end_method_call.Goals as goal

-- `this.name(..)`
pub returns-in-Own : goal.returns-in-Own
returns-in-Own c =
    let s = scope_seen c.args.scope.now c.args.locals.now in
    let of = expr_of c.args.of.now in
    let args = exprs_of (map expr_of c.args.args.now) in
    let own : is_this of ≡ true = subst (λ (r : Receiver). ReceiverIs s of r) c.in-Own.is c.requires.receiver in
    let site : Site = record {
      place = c.args.place;
      name = c.args.name;
      receiver = None;
      is_own = c.own_call-own.result.is_protocol;
      field =
          None;
      helper = c.own_call-own.result.is_helper;
    } in
    let e = MethodCall c.args.place of c.args.name.now args in
    c.end_method.ensures e (subst (λ (o : Option Signature). IsSite s e site o args) (sym c.called_on_this-signature.ensures)
    (own_site s site args of own refl c.own_call-own.ensures.protocol refl c.own_call-own.ensures.helper))

-- `x.name(..)`
pub returns-in-Named : goal.returns-in-Named
returns-in-Named c =
    let s = scope_seen c.args.scope.now c.args.locals.now in
    let of = expr_of c.args.of.now in
    let args = exprs_of (map expr_of c.args.args.now) in
    let x = c.in-Named.x.now in
    let named : (variable_name of ≡ Some x) × (is_receiver s x ≡ true) =
    subst (λ (r : Receiver). ReceiverIs s of r) c.in-Named.is c.requires.receiver
    in
    let site : Site = record {
      place = c.args.place;
      name = c.args.name;
      receiver = None;
      is_own = false;
      field = c.field_named.result;
      helper = false;
    } in
    let e = MethodCall c.args.place of c.args.name.now args in
    c.end_method-in-Named.ensures e (subst (λ (o : Option Signature). IsSite s e site o args) (sym c.called_on_name-signature.ensures)
    (behind_name s site args of x named.0 named.1 refl refl c.field_named.ensures refl))

-- behind another expression
pub field_of-requires : goal.field_of-requires
field_of-requires c =
    let s = scope_seen c.args.scope.now c.args.locals.now in
    let of = expr_of c.args.of.now in
    let other : (is_this of ≡ false) × ((variable_name of ≡ None) × IsChecked s of c.in-Value.inner) =
    subst (λ (r : Receiver). ReceiverIs s of r) c.in-Value.is c.requires.receiver
    in
    other.1.0

pub returns-in-Value : goal.returns-in-Value
returns-in-Value c =
    let s = scope_seen c.args.scope.now c.args.locals.now in
    let of = expr_of c.args.of.now in
    let args = exprs_of (map expr_of c.args.args.now) in
    let inner = c.in-Value.inner in
    let other : (is_this of ≡ false) × ((variable_name of ≡ None) × IsChecked s of inner) =
    subst (λ (r : Receiver). ReceiverIs s of r) c.in-Value.is c.requires.receiver
    in
    let site : Site = record {
      place = c.args.place;
      name = c.args.name;
      receiver = c.receiver_misfit.result;
      is_own = false;
      field =
          c.field_of.result;
      helper = inner.helper;
    } in
    let e = MethodCall c.args.place of c.args.name.now args in
    c.end_method-in-Value.ensures e (subst (λ (o : Option Signature). IsSite s e site o args) (sym c.called_on_value-signature.ensures)
    (other_site s site args (type_seen inner.ty) of other.0 (sym other.1.0) other.1.1.fine other.1.1.typed c.receiver_misfit.ensures refl
    c.field_of.ensures other.1.1.helper))
