-- Each form of expression is judged as it is read.
use Rattle.std.proofs.Common.{◌≡◌, ◌≤◌, ◌<◌, ◌+◌, ℕ, List, [], ◌∷◌, ◌++◌, map, length, drop, get_or, Some, None, false, ◌||◌, Result, refl}
use Rattle.std.proofs.Common.{sym, ap, subst, ◌∙◌, append_assoc}
use Rattle.std.specs.Option.{option_or}
use Rattle.std.proofs.Math.Bool.{or-false, or_assoc}
use Rattle.std.proofs.Math.ListN.{drop_of_length-le}
use Rattle.std.proofs.lemmas.List.{append-nil, map-append}
use Rattle.jv_tree.specs.declared.tree.Expr.{Expr as KeptExpr}
use Rattle.jv_tree.specs.declared.tree.ExprKind.{ExprKind as KeptExprKind}
use Rattle.jv_tree.specs.declared.tree.ExprKind.TheVariants as E
use Rattle.jv_tree.specs.Source.{Expr, Exprs, NoExpr, Argument}
use Rattle.jv_tree.specs.View.{expr_of, exprs_of, kind_of}
use Rattle.jv_tree.proofs.ViewLaws.{expr_of-is, kind-This}
use Rattle.mg_read.specs.Culprit.{culprit}
use Rattle.jv_rules.specs.declared.condition.Condition.TheVariants as conditions
use Rattle.jv_rules.specs.Scope.{Scope}
use Rattle.jv_rules.specs.Typing.{type_of}
use Rattle.jv_rules.specs.Spots.{nodes, nodes_in}
use Rattle.jv_rules.specs.inner.Deciding.{calls_helper, calls_helper_in}
use Rattle.jv_types.specs.declared.judged.Wrong.{Wrong}
use Rattle.jv_types.specs.declared.judged.Checked.{Checked}
use Rattle.jv_types.specs.declared.value_type.ValueType.{ValueType as KeptType}
use Rattle.jv_types.specs.inner.View.{type_seen}
use Rattle.jv_types.specs.inner.Judging.{expr_fault, args_fault, Tells, IsChecked, Judges}
use Rattle.jv_types.specs.declared.calls.Given.{Given}
use Rattle.jv_types.specs.inner.Calls.{types_in, AreChecked, AreLeft}
use Rattle.jv_types.proofs.Faulting.{nodes-append}
use Rattle.jv_types.proofs.Checking.{tells_first}
use Rattle.jv_types.proofs.AtIndex.{drop_at}

-- an expression is judged as what it says
pub judged_as : (s : Scope) (e : KeptExpr) (k : KeptExprKind) (f : Expr) (r : Result Checked Wrong) → e.kind ≡ k → kind_of k e.place ≡ f →
    Judges s f r → Judges s (expr_of e) r
judged_as s e k f r is says j = subst (λ z. Judges s z r) (sym (expr_of-is e ∙ ap (λ z. kind_of z e.place) is ∙ says)) j

-- one in which nothing is called and nothing is wrong
pub plain_fine : (s : Scope) (e : Expr) (c : Checked) (ty : KeptType) → c ≡ record { ty = ty; helper = false } → expr_fault s e ≡ None →
    type_of s e ≡ Some (type_seen ty) → calls_helper s e ≡ false → IsChecked s e c
plain_fine s e c ty is fine typed helper = subst (λ z. IsChecked s e z) (sym is)
    (record { fine = fine; typed = typed; helper = sym helper })

pub this_fault : (s : Scope) (e : KeptExpr) → e.kind ≡ E.This → expr_fault s (expr_of e) ≡ Some (conditions.ThisAsValue, culprit e.place [])
this_fault s e is = ap (expr_fault s) (expr_of-is e ∙ ap (λ z. kind_of z e.place) is ∙ kind-This e.place)

-- the fault of arguments, from those of the first and of the others
first_arg : (s : Scope) (e : Expr) (more : Exprs) → args_fault s (Argument e more) ≡ option_or (expr_fault s e) (args_fault s more)
first_arg s e more = nodes-append s (nodes e) (nodes_in more)

module _ (s : Scope) (all : Exprs) where
  pub left_start : (g : Given) → (g.types.items ≡ []) × (g.helper ≡ false) → AreLeft s all all g
  left_start g (t, h) = record {
    fault = refl;
    typed = ap (λ ts. map (λ t. Some (type_seen t)) ts ++ types_in s all) (sym t);
    helper = ap (λ b. b || calls_helper_in s all) (sym h);
  }

  pub left_done : (g : Given) → AreLeft s all NoExpr g → AreChecked s all g
  left_done g l = record {
    fine = l.fault;
    typed = l.typed ∙ append-nil (map (λ t. Some (type_seen t)) g.types.items);
    helper =
        sym (l.helper ∙ or-false g.helper);
  }

  module _ (e : Expr) (more : Exprs) (g : Given) (l : AreLeft s all (Argument e more) g) where
    pub left_wrong : (w : Wrong) → Tells w (expr_fault s e) → Tells w (args_fault s all)
    left_wrong w t = tells_first w (expr_fault s e) (args_fault s more) (args_fault s all) (l.fault ∙ first_arg s e more) t

    pub left_one_more : (c : Checked) (g' : Given) → IsChecked s e c → g'.types.items ≡ g.types.items ++ c.ty ∷ [] →
        g'.helper ≡ (g.helper || c.helper) → AreLeft s all more g'
    left_one_more c g' k t h = record {
      fault = l.fault ∙ first_arg s e more ∙ ap (λ z. option_or z (args_fault s more)) k.fine;
      typed = l.typed ∙ ap (λ z. map (λ t. Some (type_seen t)) g.types.items ++ (z ∷ types_in s more)) k.typed
          ∙ sym (append_assoc (map (λ t. Some (type_seen t)) g.types.items) (Some (type_seen c.ty) ∷ []) (types_in s more))
          ∙ ap (λ z. z ++ types_in s more) (sym (map-append (λ (t : KeptType). Some (type_seen t)) g.types.items (c.ty ∷ [])))
          ∙ ap (λ ts. map (λ t. Some (type_seen t)) ts ++ types_in s more) (sym t);
      helper = l.helper ∙ ap (λ b. g.helper || (b || calls_helper_in s more)) (sym k.helper) ∙
          sym (or_assoc g.helper c.helper (calls_helper_in s more)) ∙ ap (λ b. b || calls_helper_in s more) (sym h);
    }

  -- the same at an index
  module _ (args : List KeptExpr) (i : ℕ) (e : KeptExpr) (within : i < length args) (is : e ≡ get_or args i e) (g : Given)
      (l : AreLeft s all (exprs_of (map expr_of (drop i args))) g) where
    at_index : AreLeft s all (Argument (expr_of e) (exprs_of (map expr_of (drop (i + 1) args)))) g
    at_index = subst (λ (xs : List KeptExpr). AreLeft s all (exprs_of (map expr_of xs)) g) (drop_at args i e within is) l

    pub index_wrong : (w : Wrong) → Tells w (expr_fault s (expr_of e)) → Tells w (args_fault s all)
    index_wrong = left_wrong (expr_of e) (exprs_of (map expr_of (drop (i + 1) args))) g at_index

    pub index_more : (c : Checked) (g' : Given) → IsChecked s (expr_of e) c → g'.types.items ≡ g.types.items ++ c.ty ∷ [] →
        g'.helper ≡ (g.helper || c.helper) →
        AreLeft s all (exprs_of (map expr_of (drop (i + 1) args))) g'
    index_more = left_one_more (expr_of e) (exprs_of (map expr_of (drop (i + 1) args))) g at_index

  pub index_done : (args : List KeptExpr) (i : ℕ) (g : Given) → length args ≤ i → AreLeft s all (exprs_of (map expr_of (drop i args))) g →
      AreChecked s all g
  index_done args i g past l = left_done g (subst (λ (xs : List KeptExpr). AreLeft s all (exprs_of (map expr_of xs)) g)
      (drop_of_length-le args past) l)
