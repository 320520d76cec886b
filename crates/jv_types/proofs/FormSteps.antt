-- Each form of expression is judged as its parts are.
use Rattle.std.proofs.Common.{◌≡◌, List, [], ◌∷◌, ◌++◌, map, Option, Some, None, Bool, true, false, not, Result, refl, sym, ap, subst, ◌∙◌}
use Rattle.std.proofs.Common.{true≢false}
use Rattle.std.specs.declared.boxed.Box.{Box}
use Rattle.std.specs.declared.alloc.Global.{Global}
use Rattle.std.specs.Option.{option_or}
use Rattle.mg_text.specs.Call.{Name}
use Rattle.mg_text.specs.Row.{Row}
use Rattle.mg_text.specs.declared.place.Place.{Place}
use Rattle.mg_read.specs.Culprit.{Culprit, culprit}
use Rattle.jv_tree.specs.declared.tree.Op.{Op}
use Rattle.jv_tree.specs.declared.tree.Expr.{Expr as KeptExpr}
use Rattle.jv_tree.specs.declared.tree.ExprKind.TheVariants as E
use Rattle.jv_tree.specs.Source.{Expr, Int, Truth, Text, Null, This, Variable, Member, Neg, Not, Binary, Call, MethodCall, New, Exprs}
use Rattle.jv_tree.specs.Source.{place_of}
use Rattle.jv_tree.specs.View.{expr_of, exprs_of}
use Rattle.jv_tree.proofs.ViewLaws.{kind-Name, kind-Member, kind-Neg, kind-Not, kind-Binary, kind-Call, kind-MethodCall}
use Rattle.jv_rules.specs.declared.condition.Condition.{Condition}
use Rattle.jv_rules.specs.declared.condition.Condition.TheVariants as conditions
use Rattle.jv_rules.specs.Scope.{Scope}
use Rattle.jv_rules.specs.Spots.{Value, AtNode, nodes, nodes_in, at_nodes}
use Rattle.jv_rules.specs.inner.Deciding.{when, told, is_receiver, fault_at, fault_in}
use Rattle.jv_types.specs.declared.judged.Wrong.{Wrong}
use Rattle.jv_types.specs.declared.judged.Checked.{Checked}
use Rattle.jv_types.specs.inner.Judging.{expr_fault, args_fault, Tells, Judges, is_this, variable_name}
use Rattle.jv_types.specs.declared.calls.Receiver.{Receiver}
use Rattle.jv_types.specs.declared.calls.Receiver.TheVariants as kept
use Rattle.jv_types.specs.inner.Calls.{ReceiverIs}
use Rattle.jv_types.proofs.Faulting.{last_node, nodes-append}
use Rattle.jv_types.proofs.Checking.{tells_first, tells_later}
use Rattle.jv_types.proofs.MemberSteps.{is_named, other_member}
use Rattle.jv_types.proofs.ExprSteps.{judged_as}

module _ (s : Scope) (e : KeptExpr) (r : Result Checked Wrong) where
  pub name_as : (n n' : Name) → e.kind ≡ E.Name n → n' ≡ n → Judges s (Variable e.place n') r → Judges s (expr_of e) r
  name_as n n' is en j = judged_as s e (E.Name n) (Variable e.place n) r is (kind-Name n e.place)
      (subst (λ z. Judges s (Variable e.place z) r) en j)

  pub member_as : (of : Box KeptExpr Global) (n : Name) (of' : KeptExpr) (n' : Name) → e.kind ≡ E.Member of n → of' ≡ of.value → n' ≡ n →
      Judges s (Member e.place (expr_of of') n') r → Judges s (expr_of e) r
  member_as of n of' n' is eo en j =
      judged_as s e (E.Member of n) (Member e.place (expr_of of.value) n) r is (kind-Member of n e.place)
      (subst (λ z. Judges s (Member e.place (expr_of of.value) z) r) en
      (subst (λ (z : KeptExpr). Judges s (Member e.place (expr_of z) n') r) eo j))

  pub neg_as : (of : Box KeptExpr Global) (of' : KeptExpr) → e.kind ≡ E.Neg of → of' ≡ of.value → Judges s (Neg e.place (expr_of of')) r →
      Judges s (expr_of e) r
  neg_as of of' is eo j = judged_as s e (E.Neg of) (Neg e.place (expr_of of.value)) r is (kind-Neg of e.place)
      (subst (λ (z : KeptExpr). Judges s (Neg e.place (expr_of z)) r) eo j)

  pub not_as : (of : Box KeptExpr Global) (of' : KeptExpr) → e.kind ≡ E.Not of → of' ≡ of.value → Judges s (Not e.place (expr_of of')) r →
      Judges s (expr_of e) r
  not_as of of' is eo j = judged_as s e (E.Not of) (Not e.place (expr_of of.value)) r is (kind-Not of e.place)
      (subst (λ (z : KeptExpr). Judges s (Not e.place (expr_of z)) r) eo j)

  pub binary_as : (o : Op) (left right : Box KeptExpr Global) (left' right' : KeptExpr) → e.kind ≡ E.Binary o left right →
      left' ≡ left.value → right' ≡ right.value →
      Judges s (Binary e.place o (expr_of left') (expr_of right')) r → Judges s (expr_of e) r
  binary_as o left right left' right' is el er j =
      judged_as s e (E.Binary o left right) (Binary e.place o (expr_of left.value) (expr_of right.value)) r is
      (kind-Binary o left right e.place)
      (subst (λ (z : KeptExpr). Judges s (Binary e.place o (expr_of left.value) (expr_of z)) r) er
      (subst (λ (z : KeptExpr). Judges s (Binary e.place o (expr_of z) (expr_of right')) r) el j))

  pub call_as : (n : Name) (args : Row KeptExpr) (n' : Name) (args' : List KeptExpr) → e.kind ≡ E.Call n args → n' ≡ n → args' ≡ args.items
      →
      Judges s (Call e.place n' (exprs_of (map expr_of args'))) r → Judges s (expr_of e) r
  call_as n args n' args' is en ea j =
      judged_as s e (E.Call n args) (Call e.place n (exprs_of (map expr_of args.items))) r is (kind-Call n args e.place)
      (subst (λ z. Judges s (Call e.place z (exprs_of (map expr_of args.items))) r) en
      (subst (λ (z : List KeptExpr). Judges s (Call e.place n' (exprs_of (map expr_of z))) r) ea j))

  pub method_call_as : (of : Box KeptExpr Global) (n : Name) (args : Row KeptExpr) (of' : KeptExpr) (n' : Name) (args' : List KeptExpr) →
      e.kind ≡ E.MethodCall of n args → of' ≡ of.value → n' ≡ n → args' ≡ args.items →
      Judges s (MethodCall e.place (expr_of of') n' (exprs_of (map expr_of args'))) r → Judges s (expr_of e) r
  method_call_as of n args of' n' args' is eo en ea j =
      judged_as s e (E.MethodCall of n args) (MethodCall e.place (expr_of of.value) n (exprs_of (map expr_of args.items))) r is
      (kind-MethodCall of n args e.place)
      (subst (λ z. Judges s (MethodCall e.place (expr_of of.value) z (exprs_of (map expr_of args.items))) r) en
      (subst (λ (z : List KeptExpr). Judges s (MethodCall e.place (expr_of of.value) n' (exprs_of (map expr_of z))) r) ea
      (subst (λ (z : KeptExpr). Judges s (MethodCall e.place (expr_of z) n' (exprs_of (map expr_of args'))) r) eo j)))

-- an expression that is `this`
this_is : (e : Expr) → is_this e ≡ true → e ≡ This (place_of e)
this_is (This q) t = refl
this_is (Int q z) t = absurd (true≢false (sym t))
this_is (Truth q b) t = absurd (true≢false (sym t))
this_is (Text q t') t = absurd (true≢false (sym t))
this_is (Null q) t = absurd (true≢false (sym t))
this_is (Variable q x) t = absurd (true≢false (sym t))
this_is (Member q r m) t = absurd (true≢false (sym t))
this_is (Neg q r) t = absurd (true≢false (sym t))
this_is (Not q r) t = absurd (true≢false (sym t))
this_is (Binary q o l r) t = absurd (true≢false (sym t))
this_is (Call q m args) t = absurd (true≢false (sym t))
this_is (MethodCall q r m args) t = absurd (true≢false (sym t))
this_is (New q m) t = absurd (true≢false (sym t))

module _ (s : Scope) (p : Place) (n : Name) where
  pub member_tells : (e : Expr) → is_this e ≡ false → None ≡ variable_name e → (w : Wrong) → Tells w (expr_fault s e) →
      Tells w (expr_fault s (Member p e n))
  member_tells e t v w = tells_first w (expr_fault s e) (Some (conditions.UnknownName, culprit p n)) (expr_fault s (Member p e n))
      (other_member s p n e t v)

  pub member_unknown : (e : Expr) → is_this e ≡ false → None ≡ variable_name e → expr_fault s e ≡ None →
      expr_fault s (Member p e n) ≡ Some (conditions.UnknownName, culprit p n)
  member_unknown e t v f = other_member s p n e t v ∙ ap (λ z. option_or z (Some (conditions.UnknownName, culprit p n))) f

  module _ (args : Exprs) where
    pub call_tells : (w : Wrong) → Tells w (args_fault s args) → Tells w (expr_fault s (Call p n args))
    call_tells w = tells_first w (args_fault s args) (fault_at (AtNode s (Value (Call p n args)))) (expr_fault s (Call p n args))
        (last_node s (nodes_in args) (Value (Call p n args)))

    pub own_tells : (e : Expr) → is_this e ≡ true → (w : Wrong) → Tells w (args_fault s args) →
        Tells w (expr_fault s (MethodCall p e n args))
    own_tells e t w h =
        subst (λ z. Tells w (expr_fault s (MethodCall p z n args))) (sym (this_is e t))
        (tells_first w (args_fault s args) (fault_at (AtNode s (Value (MethodCall p (This (place_of e)) n args))))
        (expr_fault s (MethodCall p (This (place_of e)) n args))
        (last_node s (nodes_in args) (Value (MethodCall p (This (place_of e)) n args))) h)

    module _ (e : Expr) (x : Name) (is : variable_name e ≡ Some x) where
      abbrev q : Place
      q = place_of e

      abbrev rest : Option (Condition × Culprit)
      rest = fault_in (at_nodes s (nodes_in args ++ Value (MethodCall p (Variable q x) n args) ∷ []))

      named_as : (b : Bool) → is_receiver s x ≡ b → expr_fault s (MethodCall p e n args) ≡ option_or
          (told conditions.UnknownName (when (not b) (culprit q x)) None) rest
      named_as b h =
          ap (λ z. expr_fault s (MethodCall p z n args)) (is_named s p n e x is)
          ∙ ap (λ c. option_or (told conditions.UnknownName (when (not c) (culprit q x)) None) rest) h

      pub named_unknown : is_receiver s x ≡ false → expr_fault s (MethodCall p e n args) ≡ Some (conditions.UnknownName, culprit q x)
      named_unknown h = named_as false h

      pub named_tells : is_receiver s x ≡ true → (w : Wrong) → Tells w (args_fault s args) → Tells w (expr_fault s (MethodCall p e n args))
      named_tells h w =
          tells_first w (args_fault s args) (fault_at (AtNode s (Value (MethodCall p (Variable q x) n args))))
          (expr_fault s (MethodCall p e n args))
          (named_as true h ∙ last_node s (nodes_in args) (Value (MethodCall p (Variable q x) n args)))

    other_laid : (e : Expr) → is_this e ≡ false → None ≡ variable_name e → nodes (MethodCall p e n args) ≡ nodes e
        ++ (nodes_in args ++ Value (MethodCall p e n args) ∷ [])
    other_laid (This q) i v = absurd (true≢false i)
    other_laid (Variable q x) i v = let no : ⊥ = cc in absurd no
    other_laid (Int q z) i v = refl
    other_laid (Truth q b) i v = refl
    other_laid (Text q t') i v = refl
    other_laid (Null q) i v = refl
    other_laid (Member q e m) i v = refl
    other_laid (Neg q e) i v = refl
    other_laid (Not q e) i v = refl
    other_laid (Binary q o l r) i v = refl
    other_laid (Call q m more) i v = refl
    other_laid (MethodCall q e m more) i v = refl
    other_laid (New q m) i v = refl

    module _ (e : Expr) (i : is_this e ≡ false) (v : None ≡ variable_name e) where
      abbrev behind : Option (Condition × Culprit)
      behind = fault_in (at_nodes s (nodes_in args ++ Value (MethodCall p e n args) ∷ []))

      other_whole : expr_fault s (MethodCall p e n args) ≡ option_or (expr_fault s e) behind
      other_whole = ap (λ ns. fault_in (at_nodes s ns)) (other_laid e i v) ∙ nodes-append s (nodes e)
          (nodes_in args ++ Value (MethodCall p e n args) ∷ [])

      pub receiver_tells : (w : Wrong) → Tells w (expr_fault s e) → Tells w (expr_fault s (MethodCall p e n args))
      receiver_tells w = tells_first w (expr_fault s e) behind (expr_fault s (MethodCall p e n args)) other_whole

      pub given_tells : expr_fault s e ≡ None → (w : Wrong) → Tells w (args_fault s args) → Tells w (expr_fault s (MethodCall p e n args))
      given_tells f w h =
          tells_later w (expr_fault s e) behind (expr_fault s (MethodCall p e n args)) other_whole f
          (tells_first w (args_fault s args) (fault_at (AtNode s (Value (MethodCall p e n args)))) behind
          (last_node s (nodes_in args) (Value (MethodCall p e n args))) h)

    -- what is wrong with an argument, whatever the call is on
    pub args_tell : (e : Expr) (r : Receiver) → ReceiverIs s e r → (w : Wrong) → Tells w (args_fault s args) →
        Tells w (expr_fault s (MethodCall p e n args))
    args_tell e kept.Own h w = own_tells e h w
    args_tell e (kept.Named x) h w = named_tells e x.now h.0 h.1 w
    args_tell e (kept.Value c) h w = given_tells e h.0 (sym h.1.0) h.1.1.fine w
