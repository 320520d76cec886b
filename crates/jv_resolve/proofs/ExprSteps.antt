-- What an expression is resolved to, from what its parts are.
use Rattle.std.proofs.Common.{◌≡◌, ℕ, List, [], ◌∷◌, ◌++◌, Bool, Option, Some, None, refl, sym, ap, ◌∙◌, append_assoc}
use Rattle.std.specs.Prelude.{ℤ, map}
use Rattle.std.specs.Option.{option_map}
use Rattle.std.specs.declared.boxed.Box.{Box}
use Rattle.std.specs.declared.alloc.Global.{Global}
use Rattle.mg_text.specs.Call.{Name}
use Rattle.mg_text.specs.Row.{Row}
use Rattle.jv_tree.specs.declared.tree.Op.{Op}
use Rattle.jv_tree.specs.declared.tree.Expr.{Expr as KeptExpr}
use Rattle.jv_tree.specs.declared.tree.ExprKind.TheVariants as E
use Rattle.jv_tree.specs.Source
use Rattle.jv_tree.specs.View.{exprs_of, expr_of}
use Rattle.jv_core.specs.Tree as Core
use Rattle.jv_core.specs.declared.program.CoreType.TheVariants as types
use Rattle.jv_resolve_law.specs.Tables.{◌>>=◌, Tables}
use Rattle.jv_resolve_law.specs.Expressions.{Known, Standing, Resolved, Receiver, OfNull, typed, operator_gives, resolved, resolved_all}
use Rattle.jv_resolve_law.specs.Expressions.{receiver, member, call_own, call_on, make}
use Rattle.jv_resolve.specs.declared.given.Unresolved.{Unresolved}
use Rattle.jv_resolve.specs.inner.Gives.{Fails}
use Rattle.jv_resolve.specs.inner.Named.{variable_named}
use Rattle.jv_resolve.proofs.Chains.{fails_then, fails_map, fails_as}
use Rattle.jv_resolve.proofs.Shapes.{shape-Int, shape-Truth, shape-Text, shape-Null, shape-This, shape-Name, shape-Member, shape-Neg}
use Rattle.jv_resolve.proofs.Shapes.{shape-Not, shape-Binary, shape-Call, shape-MethodCall, shape-New}

module _ (tables : Tables) (at : Standing) (locals : List Known) where
  abbrev meant : Source.Expr → Option Resolved
  meant = resolved tables at locals

  abbrev all_meant : Source.Exprs → Option (List Core.Expr)
  all_meant = resolved_all tables at locals

  module _ (x : KeptExpr) where
    module _ (r : Resolved) where
      pub is-Int : (z : ℤ) → x.kind ≡ E.Int z → r ≡ typed (Core.Int x.place z) types.Int → meant (expr_of x) ≡ Some r
      is-Int z is made = ap meant (shape-Int x z is) ∙ ap Some (sym made)

      pub is-Truth : (b : Bool) → x.kind ≡ E.Truth b → r ≡ typed (Core.Truth x.place b) types.Boolean → meant (expr_of x) ≡ Some r
      is-Truth b is made = ap meant (shape-Truth x b is) ∙ ap Some (sym made)

      pub is-Text : (t : List ℕ) → x.kind ≡ E.Text t → r ≡ typed (Core.Text x.place t) types.Text → meant (expr_of x) ≡ Some r
      is-Text t is made = ap meant (shape-Text x t is) ∙ ap Some (sym made)

      pub is-Null : x.kind ≡ E.Null → r ≡ record { expr = Core.Null x.place; given = OfNull } → meant (expr_of x) ≡ Some r
      is-Null is made = ap meant (shape-Null x is) ∙ ap Some (sym made)

      module _ (e : Box KeptExpr Global) (i : Resolved) (part : meant (expr_of e.value) ≡ Some i) where
        pub is-Neg : x.kind ≡ E.Neg e → r ≡ typed (Core.Neg x.place i.expr) types.Int → meant (expr_of x) ≡ Some r
        is-Neg is made = ap meant (shape-Neg x e is) ∙ ap (λ o. o >>= λ j. Some (typed (Core.Neg x.place j.expr) types.Int)) part ∙
            ap Some (sym made)

        pub is-Not : x.kind ≡ E.Not e → r ≡ typed (Core.Not x.place i.expr) types.Boolean → meant (expr_of x) ≡ Some r
        is-Not is made = ap meant (shape-Not x e is) ∙ ap (λ o. o >>= λ j. Some (typed (Core.Not x.place j.expr) types.Boolean)) part ∙
            ap Some (sym made)

        module _ (d : Box KeptExpr Global) (j : Resolved) (right : meant (expr_of d.value) ≡ Some j) where
          pub is-Binary : (o : Op) → x.kind ≡ E.Binary o e d → r ≡ typed (Core.Binary x.place o i.expr j.expr)
              (operator_gives o i.given j.given) → meant (expr_of x) ≡ Some r
          is-Binary o is made =
              ap meant (shape-Binary x o e d is)
              ∙ ap (λ a. a >>= λ k. meant (expr_of d.value)
              >>= λ l. Some (typed (Core.Binary x.place o k.expr l.expr) (operator_gives o k.given l.given))) part
              ∙ ap (λ a. a >>= λ l. Some (typed (Core.Binary x.place o i.expr l.expr) (operator_gives o i.given l.given))) right
              ∙ ap Some (sym made)

    pub no-This : x.kind ≡ E.This → meant (expr_of x) ≡ None
    no-This is = ap meant (shape-This x is)

    pub as-Name : (n : Name) → x.kind ≡ E.Name n → meant (expr_of x) ≡ variable_named tables at locals x.place n
    as-Name n is = ap meant (shape-Name x n is)

    pub as-Member : (e : Box KeptExpr Global) (n : Name) → x.kind ≡ E.Member e n → meant (expr_of x) ≡ member tables at locals x.place
        (expr_of e.value) n
    as-Member e n is = ap meant (shape-Member x e n is)

    pub as-New : (n : Name) → x.kind ≡ E.New n → meant (expr_of x) ≡ make tables at x.place n
    as-New n is = ap meant (shape-New x n is)

    pub as-Call : (n : Name) (args : Row KeptExpr) (es : List Core.Expr) → x.kind ≡ E.Call n args →
        all_meant (exprs_of (map expr_of args.items)) ≡ Some es →
        meant (expr_of x) ≡ call_own tables at x.place n es
    as-Call n args es is all = ap meant (shape-Call x n args is) ∙ ap (λ o. o >>= call_own tables at x.place n) all

    pub as-MethodCall : (e : Box KeptExpr Global) (n : Name) (args : Row KeptExpr) (w : Receiver) (es : List Core.Expr) →
        x.kind ≡ E.MethodCall e n args →
        receiver tables at locals (expr_of e.value) (meant (expr_of e.value)) ≡ Some w → all_meant (exprs_of (map expr_of args.items)) ≡
        Some es →
        meant (expr_of x) ≡ call_on tables at x.place w n es
    as-MethodCall e n args w es is on all =
        ap meant (shape-MethodCall x e n args is)
        ∙ ap (λ o. o >>= λ v. all_meant (exprs_of (map expr_of args.items)) >>= λ as'. call_on tables at x.place v n as') on
        ∙ ap (λ o. o >>= λ as'. call_on tables at x.place w n as') all

    module _ (err : Unresolved) where
      pub fails-Neg : (e : Box KeptExpr Global) → x.kind ≡ E.Neg e → Fails err (meant (expr_of e.value)) → Fails err (meant (expr_of x))
      fails-Neg e is h = fails_as err _ _ (ap meant (shape-Neg x e is))
          (fails_then err (meant (expr_of e.value)) (λ j. Some (typed (Core.Neg x.place j.expr) types.Int)) h)

      pub fails-Not : (e : Box KeptExpr Global) → x.kind ≡ E.Not e → Fails err (meant (expr_of e.value)) → Fails err (meant (expr_of x))
      fails-Not e is h = fails_as err _ _ (ap meant (shape-Not x e is))
          (fails_then err (meant (expr_of e.value)) (λ j. Some (typed (Core.Not x.place j.expr) types.Boolean)) h)

      pub fails-left : (o : Op) (e d : Box KeptExpr Global) → x.kind ≡ E.Binary o e d → Fails err (meant (expr_of e.value)) →
          Fails err (meant (expr_of x))
      fails-left o e d is h =
          fails_as err _ _ (ap meant (shape-Binary x o e d is))
          (fails_then err (meant (expr_of e.value))
          (λ k. meant (expr_of d.value) >>= λ l. Some (typed (Core.Binary x.place o k.expr l.expr) (operator_gives o k.given l.given)))
          h)

      pub fails-right : (o : Op) (e d : Box KeptExpr Global) (i : Resolved) → x.kind ≡ E.Binary o e d → meant (expr_of e.value) ≡ Some i →
          Fails err (meant (expr_of d.value)) →
          Fails err (meant (expr_of x))
      fails-right o e d i is left h =
          fails_as err _ _
          (ap meant (shape-Binary x o e d is)
          ∙ ap (λ a. a >>= λ k. meant (expr_of d.value)
          >>= λ l. Some (typed (Core.Binary x.place o k.expr l.expr) (operator_gives o k.given l.given))) left)
          (fails_then err (meant (expr_of d.value))
          (λ l. Some (typed (Core.Binary x.place o i.expr l.expr) (operator_gives o i.given l.given))) h)

      pub fails-Call : (n : Name) (args : Row KeptExpr) → x.kind ≡ E.Call n args → Fails err (all_meant (exprs_of (map expr_of args.items)))
          → Fails err (meant (expr_of x))
      fails-Call n args is h =
          fails_as err _ _ (ap meant (shape-Call x n args is)) (fails_then err (all_meant (exprs_of (map expr_of args.items)))
          (call_own tables at x.place n) h)

      pub fails-receiver : (e : Box KeptExpr Global) (n : Name) (args : Row KeptExpr) → x.kind ≡ E.MethodCall e n args →
          Fails err (receiver tables at locals (expr_of e.value) (meant (expr_of e.value))) → Fails err (meant (expr_of x))
      fails-receiver e n args is h =
          fails_as err _ _ (ap meant (shape-MethodCall x e n args is))
          (fails_then err (receiver tables at locals (expr_of e.value) (meant (expr_of e.value)))
          (λ v. all_meant (exprs_of (map expr_of args.items)) >>= λ as'. call_on tables at x.place v n as') h)

      pub fails-args : (e : Box KeptExpr Global) (n : Name) (args : Row KeptExpr) (w : Receiver) → x.kind ≡ E.MethodCall e n args →
          receiver tables at locals (expr_of e.value) (meant (expr_of e.value)) ≡ Some w →
          Fails err (all_meant (exprs_of (map expr_of args.items))) → Fails err (meant (expr_of x))
      fails-args e n args w is on h =
          fails_as err _ _
          (ap meant (shape-MethodCall x e n args is) ∙ ap (λ o. o >>= λ v. all_meant (exprs_of (map expr_of args.items)) >>= λ as'. call_on
          tables at x.place v n as') on)
          (fails_then err (all_meant (exprs_of (map expr_of args.items))) (λ as'. call_on tables at x.place w n as') h)

  -- ---- arguments, one after another

  abbrev behind : List Core.Expr → Option (List Core.Expr) → Option (List Core.Expr)
  behind done rest = option_map (λ es. done ++ es) rest

  behind_more : (done : List Core.Expr) (e : Core.Expr) (rest : Option (List Core.Expr)) → behind done (rest >>= λ es. Some (e ∷ es)) ≡
      behind (done ++ e ∷ []) rest
  behind_more done e None = refl
  behind_more done e (Some es) = ap Some (sym (append_assoc done (e ∷ []) es))

  module _ (args rest : List KeptExpr) (x : KeptExpr) (done : List Core.Expr) (total : Option (List Core.Expr))
      (so_far : total ≡ behind done (all_meant (exprs_of (map expr_of args)))) (next : args ≡ x ∷ rest) where
    opened : total ≡ behind done (meant (expr_of x) >>= λ r. all_meant (exprs_of (map expr_of rest)) >>= λ es. Some (r.expr ∷ es))
    opened = so_far ∙ ap (λ xs. behind done (all_meant (exprs_of (map expr_of xs)))) next

    pub args_more : (r : Resolved) → meant (expr_of x) ≡ Some r → total ≡ behind (done ++ r.expr ∷ [])
        (all_meant (exprs_of (map expr_of rest)))
    args_more r h =
        opened ∙ ap (λ o. behind done (o >>= λ s. all_meant (exprs_of (map expr_of rest)) >>= λ es. Some (s.expr ∷ es))) h
        ∙ behind_more done r.expr (all_meant (exprs_of (map expr_of rest)))

    pub args_fails : (err : Unresolved) → Fails err (meant (expr_of x)) → Fails err total
    args_fails err h =
        fails_as err _ _ opened
        (fails_map err (meant (expr_of x) >>= λ r. all_meant (exprs_of (map expr_of rest)) >>= λ es. Some (r.expr ∷ es)) (λ es. done ++ es)
        (fails_then err (meant (expr_of x)) (λ r. all_meant (exprs_of (map expr_of rest)) >>= λ es. Some (r.expr ∷ es)) h))
