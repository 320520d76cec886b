-- What an expression of the program says, by its kind.
use Rattle.std.proofs.Common.{◌≡◌, ℕ, List, Bool, ap, ◌∙◌}
use Rattle.std.specs.Prelude.{ℤ, map}
use Rattle.std.specs.declared.boxed.Box.{Box}
use Rattle.std.specs.declared.alloc.Global.{Global}
use Rattle.mg_text.specs.Call.{Name}
use Rattle.mg_text.specs.Row.{Row}
use Rattle.jv_tree.specs.declared.tree.Op.{Op}
use Rattle.jv_tree.specs.declared.tree.Expr.{Expr as KeptExpr}
use Rattle.jv_tree.specs.declared.tree.ExprKind.{ExprKind as KeptExprKind}
use Rattle.jv_tree.specs.declared.tree.ExprKind.TheVariants as E
use Rattle.jv_tree.specs.Source.{Expr, Int, Truth, Text, Null, This, Variable, Member, Neg, Not, Binary, Call, MethodCall, New}
use Rattle.jv_tree.specs.View.{exprs_of, expr_of, kind_of}
use Rattle.jv_tree.proofs.ViewLaws.{expr_of-is, kind-Int, kind-Truth, kind-Text, kind-Null, kind-This, kind-Name, kind-Member, kind-Neg}
use Rattle.jv_tree.proofs.ViewLaws.{kind-Not, kind-Binary, kind-Call, kind-MethodCall, kind-New}

module _ (x : KeptExpr) where
  shape : (k : KeptExprKind) (e : Expr) → x.kind ≡ k → kind_of k x.place ≡ e → expr_of x ≡ e
  shape k e is says = expr_of-is x ∙ ap (λ j. kind_of j x.place) is ∙ says

  pub shape-Int : (z : ℤ) → x.kind ≡ E.Int z → expr_of x ≡ Int x.place z
  shape-Int z is = shape (E.Int z) (Int x.place z) is (kind-Int z x.place)

  pub shape-Truth : (b : Bool) → x.kind ≡ E.Truth b → expr_of x ≡ Truth x.place b
  shape-Truth b is = shape (E.Truth b) (Truth x.place b) is (kind-Truth b x.place)

  pub shape-Text : (t : List ℕ) → x.kind ≡ E.Text t → expr_of x ≡ Text x.place t
  shape-Text t is = shape (E.Text t) (Text x.place t) is (kind-Text t x.place)

  pub shape-Null : x.kind ≡ E.Null → expr_of x ≡ Null x.place
  shape-Null is = shape E.Null (Null x.place) is (kind-Null x.place)

  pub shape-This : x.kind ≡ E.This → expr_of x ≡ This x.place
  shape-This is = shape E.This (This x.place) is (kind-This x.place)

  pub shape-Name : (n : Name) → x.kind ≡ E.Name n → expr_of x ≡ Variable x.place n
  shape-Name n is = shape (E.Name n) (Variable x.place n) is (kind-Name n x.place)

  pub shape-Member : (e : Box KeptExpr Global) (n : Name) → x.kind ≡ E.Member e n → expr_of x ≡ Member x.place (expr_of e.value) n
  shape-Member e n is = shape (E.Member e n) (Member x.place (expr_of e.value) n) is (kind-Member e n x.place)

  pub shape-Neg : (e : Box KeptExpr Global) → x.kind ≡ E.Neg e → expr_of x ≡ Neg x.place (expr_of e.value)
  shape-Neg e is = shape (E.Neg e) (Neg x.place (expr_of e.value)) is (kind-Neg e x.place)

  pub shape-Not : (e : Box KeptExpr Global) → x.kind ≡ E.Not e → expr_of x ≡ Not x.place (expr_of e.value)
  shape-Not e is = shape (E.Not e) (Not x.place (expr_of e.value)) is (kind-Not e x.place)

  pub shape-Binary : (o : Op) (l r : Box KeptExpr Global) → x.kind ≡ E.Binary o l r → expr_of x ≡ Binary x.place o (expr_of l.value)
      (expr_of r.value)
  shape-Binary o l r is = shape (E.Binary o l r) (Binary x.place o (expr_of l.value) (expr_of r.value)) is (kind-Binary o l r x.place)

  pub shape-Call : (n : Name) (args : Row KeptExpr) → x.kind ≡ E.Call n args →
      expr_of x ≡ Call x.place n (exprs_of (map expr_of args.items))
  shape-Call n args is = shape (E.Call n args) (Call x.place n (exprs_of (map expr_of args.items))) is (kind-Call n args x.place)

  pub shape-MethodCall : (e : Box KeptExpr Global) (n : Name) (args : Row KeptExpr) → x.kind ≡ E.MethodCall e n args →
      expr_of x ≡ MethodCall x.place (expr_of e.value) n (exprs_of (map expr_of args.items))
  shape-MethodCall e n args is =
      shape (E.MethodCall e n args) (MethodCall x.place (expr_of e.value) n (exprs_of (map expr_of args.items))) is
      (kind-MethodCall e n args x.place)

  pub shape-New : (n : Name) → x.kind ≡ E.New n → expr_of x ≡ New x.place n
  shape-New n is = shape (E.New n) (New x.place n) is (kind-New n x.place)
