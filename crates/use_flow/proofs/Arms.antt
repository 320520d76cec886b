-- Each form of an expression, from what the code has behind its parts.
use Rattle.std.proofs.Common.{◌≡◌, ◌≢◌, ℕ, List, [], Some, None, map, sym, ap, ◌∙◌}
use Rattle.std.specs.declared.boxed.Box.{Box}
use Rattle.std.specs.declared.alloc.Global.{Global}
use Rattle.mg_text.specs.Row.{Row}
use Rattle.jv_tree.specs.declared.tree.Op.{Op}
use Rattle.jv_tree.specs.declared.tree.Op.TheVariants as ops
use Rattle.jv_core.specs.declared.tree.CoreVar.{CoreVar}
use Rattle.jv_core.specs.declared.tree.CoreExpr.{CoreExpr}
use Rattle.jv_core.specs.declared.tree.CoreExprKind.{CoreExprKind}
use Rattle.jv_core.specs.declared.tree.CoreExprKind.TheVariants as E
use Rattle.jv_core.specs.Tree.{Expr, Not, Neg, Binary, Equals, Concat, Protocol, Helper, Static}
use Rattle.jv_core.specs.View.{expr_of, exprs_of, kind_of}
use Rattle.jv_core.proofs.ViewLaws.{expr_of-is, kind-Neg, kind-Not, kind-Binary, kind-Equals, kind-Concat, kind-Protocol, kind-Helper}
use Rattle.jv_core.proofs.ViewLaws.{kind-Static, views}
use Rattle.use_flow.specs.declared.evaluated.Value.{Value}
use Rattle.use_flow.specs.declared.evaluated.Ways.TheVariants as ways
use Rattle.use_rules.specs.Elements.{Set}
use Rattle.use_rules.specs.State.{Log}
use Rattle.use_rules.specs.Flow.{Evaluated, NullTest, null_test, alike}
use Rattle.use_flow.specs.inner.Followed.{Followed, eval}
use Rattle.use_flow.specs.inner.Values.{evaluated_of, settled, operands, conjunction, disjunction, opposite, null_tested}
use Rattle.use_flow.specs.inner.Values.{called_protocol, called_helper, called_static}
use Rattle.use_flow.proofs.Following.{binary_tests, binary_other}

is_form : (x : CoreExpr) (k : CoreExprKind) (e : Expr) → x.kind ≡ k → kind_of k x.place ≡ e → expr_of x ≡ e
is_form x k e h ek = expr_of-is x ∙ ap (λ (z : CoreExprKind). kind_of z x.place) h ∙ ek

module _ (s : Followed) (w : ℕ) (sets : List Set) (log : Log) (x : CoreExpr) where
  seen_as : (e : Expr) (t : Evaluated) → expr_of x ≡ e → t ≡ eval s w e (Some sets) log → t ≡ eval s w (expr_of x) (Some sets) log
  seen_as e t h g = g ∙ ap (λ z. eval s w z (Some sets) log) (sym h)

  -- a value without objects, behind which all is as before
  pub plain_as : (k : CoreExprKind) (e : Expr) (v : Value) → x.kind ≡ k → kind_of k x.place ≡ e →
      alike [] (Some sets) log ≡ eval s w e (Some sets) log → v ≡ record { set = []; ways = ways.Alike (Some sets) } →
      evaluated_of v log ≡ eval s w (expr_of x) (Some sets) log
  plain_as k e v is ek ee ev = ap (λ (y : Value). evaluated_of y log) ev ∙ ee ∙ ap (λ z. eval s w z (Some sets) log)
      (sym (is_form x k e is ek))

  module _ (a : Box CoreExpr Global) (l : CoreExpr) (el : l ≡ a.value) (lv : Log) (v : Value) where
    pub neg_as : x.kind ≡ E.Neg a → evaluated_of v lv ≡ settled (eval s 0 (expr_of l) (Some sets) log) →
        evaluated_of v lv ≡ eval s w (expr_of x) (Some sets) log
    neg_as is ev = seen_as (Neg x.place (expr_of l)) _
        (is_form x (E.Neg a) _ is (kind-Neg a x.place ∙ ap (λ (z : CoreExpr). Neg x.place (expr_of z)) (sym el))) ev

    pub not_as : x.kind ≡ E.Not a → evaluated_of v lv ≡ opposite s (expr_of l) sets log → evaluated_of v lv ≡ eval s w (expr_of x)
        (Some sets) log
    not_as is ev = seen_as (Not x.place (expr_of l)) _
        (is_form x (E.Not a) _ is (kind-Not a x.place ∙ ap (λ (z : CoreExpr). Not x.place (expr_of z)) (sym el))) ev

  module _ (a b : Box CoreExpr Global) (l r : CoreExpr) (el : l ≡ a.value) (er : r ≡ b.value) (lv : Log) (v : Value) where
    binary_is : (o : Op) → x.kind ≡ E.Binary o a b → expr_of x ≡ Binary x.place o (expr_of l) (expr_of r)
    binary_is o is =
        is_form x (E.Binary o a b) _ is (kind-Binary o a b x.place
        ∙ ap (λ (z : CoreExpr). Binary x.place o (expr_of z) (expr_of b.value)) (sym el) ∙
        ap (λ (z : CoreExpr). Binary x.place o (expr_of l) (expr_of z)) (sym er))

    pub equals_as : x.kind ≡ E.Equals a b → evaluated_of v lv ≡ operands s (expr_of l) (expr_of r) sets log →
        evaluated_of v lv ≡ eval s w (expr_of x) (Some sets) log
    equals_as is ev =
        seen_as (Equals x.place (expr_of l) (expr_of r)) _
        (is_form x (E.Equals a b) _ is (kind-Equals a b x.place
        ∙ ap (λ (z : CoreExpr). Equals x.place (expr_of z) (expr_of b.value)) (sym el) ∙
        ap (λ (z : CoreExpr). Equals x.place (expr_of l) (expr_of z)) (sym er)))
        ev

    pub concat_as : x.kind ≡ E.Concat a b → evaluated_of v lv ≡ operands s (expr_of l) (expr_of r) sets log →
        evaluated_of v lv ≡ eval s w (expr_of x) (Some sets) log
    concat_as is ev =
        seen_as (Concat x.place (expr_of l) (expr_of r)) _
        (is_form x (E.Concat a b) _ is (kind-Concat a b x.place
        ∙ ap (λ (z : CoreExpr). Concat x.place (expr_of z) (expr_of b.value)) (sym el) ∙
        ap (λ (z : CoreExpr). Concat x.place (expr_of l) (expr_of z)) (sym er)))
        ev

    pub and_as : (o : Op) → x.kind ≡ E.Binary o a b → o ≡ ops.And → evaluated_of v lv ≡ conjunction s (expr_of l) (expr_of r) sets log →
        evaluated_of v lv ≡ eval s w (expr_of x) (Some sets) log
    and_as o is eo ev =
        seen_as (Binary x.place ops.And (expr_of l) (expr_of r)) _ (binary_is o is ∙ ap (λ z. Binary x.place z (expr_of l) (expr_of r)) eo)
        ev

    pub or_as : (o : Op) → x.kind ≡ E.Binary o a b → o ≡ ops.Or → evaluated_of v lv ≡ disjunction s (expr_of l) (expr_of r) sets log →
        evaluated_of v lv ≡ eval s w (expr_of x) (Some sets) log
    or_as o is eo ev =
        seen_as (Binary x.place ops.Or (expr_of l) (expr_of r)) _ (binary_is o is ∙ ap (λ z. Binary x.place z (expr_of l) (expr_of r)) eo)
        ev

    pub other_as : (o : Op) → x.kind ≡ E.Binary o a b → None ≡ null_test o (expr_of l) (expr_of r) → o ≢ ops.And → o ≢ ops.Or →
        evaluated_of v lv ≡ operands s (expr_of l) (expr_of r) sets log → evaluated_of v lv ≡ eval s w (expr_of x) (Some sets) log
    other_as o is none na nor ev =
        seen_as (Binary x.place o (expr_of l) (expr_of r)) _ (binary_is o is)
        (ev ∙ binary_other s sets log w x.place o (expr_of l) (expr_of r) none na nor)

    pub test_as : (o : Op) (t : NullTest) → x.kind ≡ E.Binary o a b → Some t ≡ null_test o (expr_of l) (expr_of r) →
        evaluated_of v lv ≡ null_tested s t sets log → evaluated_of v lv ≡ eval s w (expr_of x) (Some sets) log
    test_as o t is some ev =
        seen_as (Binary x.place o (expr_of l) (expr_of r)) _ (binary_is o is) (ev ∙ binary_tests s sets log w x.place o (expr_of l)
        (expr_of r) t some)

  module _ (m : ℕ) (args : Row CoreExpr) (given : List CoreExpr) (eg : given ≡ args.items) (lv : Log) (v : Value) where
    pub protocol_as : (y : CoreVar) → x.kind ≡ E.Protocol y m args → evaluated_of v lv ≡ called_protocol s y m
        (exprs_of (map expr_of given)) sets log →
        evaluated_of v lv ≡ eval s w (expr_of x) (Some sets) log
    protocol_as y is ev =
        seen_as (Protocol x.place y m (exprs_of (map expr_of given))) _
        (is_form x (E.Protocol y m args) _ is (kind-Protocol y m args x.place ∙
        ap (λ (z : List CoreExpr). Protocol x.place y m (exprs_of (map expr_of z))) (sym eg))) ev

    pub helper_as : x.kind ≡ E.Helper m args → evaluated_of v lv ≡ called_helper s m (exprs_of (map expr_of given)) sets log →
        evaluated_of v lv ≡ eval s w (expr_of x) (Some sets) log
    helper_as is ev =
        seen_as (Helper x.place m (exprs_of (map expr_of given))) _
        (is_form x (E.Helper m args) _ is
        (kind-Helper m args x.place ∙ ap (λ (z : List CoreExpr). Helper x.place m (exprs_of (map expr_of z))) (sym eg))) ev

    pub static_as : x.kind ≡ E.Static m args → evaluated_of v lv ≡ called_static s m (exprs_of (map expr_of given)) sets log →
        evaluated_of v lv ≡ eval s w (expr_of x) (Some sets) log
    static_as is ev =
        seen_as (Static x.place m (exprs_of (map expr_of given))) _
        (is_form x (E.Static m args) _ is
        (kind-Static m args x.place ∙ ap (λ (z : List CoreExpr). Static x.place m (exprs_of (map expr_of z))) (sym eg))) ev

pub ruleset arms = (views, protocol_as, helper_as, static_as, neg_as, not_as, equals_as, concat_as, and_as, or_as, other_as, test_as)
