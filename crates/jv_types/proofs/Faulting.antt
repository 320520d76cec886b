-- The fault of an expression, from those of its operands and that of the node.
use Rattle.std.proofs.Common.{◌≡◌, List, [], ◌∷◌, ◌++◌, Option, Some, None, Bool, true, false, not, if◌then◌else◌, refl, ap, ◌∙◌}
use Rattle.std.specs.Option.{option_or, option_map}
use Rattle.mg_text.specs.declared.place.Place.{Place}
use Rattle.mg_read.specs.Culprit.{Culprit, culprit}
use Rattle.jv_tree.specs.declared.tree.Op.{Op}
use Rattle.jv_tree.specs.declared.tree.Op.TheVariants as ops
use Rattle.jv_tree.specs.Source.{Expr, Neg, Not, Binary, place_of}
use Rattle.jv_rules.specs.declared.condition.Condition.{Condition}
use Rattle.jv_rules.specs.declared.condition.Condition.TheVariants as conditions
use Rattle.jv_rules.specs.Types.{ValueType, NoValue, IntType, BooleanType, TextType, EnumType, ClassType, NullType}
use Rattle.jv_rules.specs.Scope.{Scope, is_variable}
use Rattle.jv_rules.specs.Typing.{type_of, is_text}
use Rattle.jv_rules.specs.Spots.{Node, Value, AtNode, nodes, at_nodes}
use Rattle.jv_rules.specs.Taking.{Wanted, Fitting, Writable, ClassVariable, Nothing, Taken, taken, all_taken, both, operands, added}
use Rattle.jv_rules.specs.Taking.{compared, takes}
use Rattle.jv_rules.specs.inner.Deciding.{when, first_by, told, suits_some, type_mismatch, fault_at, fault_in}
use Rattle.jv_types.specs.inner.Judging.{expr_fault, misfit, misfits, added_misfit, compared_misfit, operand_misfit}

pub first_by-append : {X C : Type 0} (f : X → Option C) (xs ys : List X) → first_by f (xs ++ ys) ≡ option_or (first_by f xs) (first_by f ys)
first_by-append f [] ys = refl
first_by-append {C = C} f (x ∷ xs) ys = go (f x) (first_by-append f xs ys)
  where
    go : (o : Option C) → first_by f (xs ++ ys) ≡ option_or (first_by f xs) (first_by f ys) → option_or o (first_by f (xs ++ ys)) ≡
        option_or (option_or o (first_by f xs)) (first_by f ys)
    go None e = e
    go (Some c) e = refl

pub at_nodes-append : (scope : Scope) (xs ys : List Node) → at_nodes scope (xs ++ ys) ≡ at_nodes scope xs ++ at_nodes scope ys
at_nodes-append scope [] ys = refl
at_nodes-append scope (x ∷ xs) ys = ap (λ zs. AtNode scope x ∷ zs) (at_nodes-append scope xs ys)

pub or-none : {C : Type 0} (o : Option C) → option_or o None ≡ o
or-none None = refl
or-none (Some c) = refl

-- a type that differs is the only fault that may be there
abbrev pub mismatched : Option Culprit → Option (Condition × Culprit)
mismatched o = option_map (λ c. (conditions.TypeMismatch, c)) o

told_alone : (o : Option Culprit) → told conditions.TypeMismatch o None ≡ mismatched o
told_alone None = refl
told_alone (Some c) = refl

module _ (scope : Scope) where
  pub nodes-append : (xs ys : List Node) → fault_in (at_nodes scope (xs ++ ys)) ≡ option_or (fault_in (at_nodes scope xs))
      (fault_in (at_nodes scope ys))
  nodes-append xs ys = ap fault_in (at_nodes-append scope xs ys) ∙ first_by-append fault_at (at_nodes scope xs) (at_nodes scope ys)

  -- the node behind its operands
  pub last_node : (xs : List Node) (n : Node) → fault_in (at_nodes scope (xs ++ n ∷ [])) ≡ option_or (fault_in (at_nodes scope xs))
      (fault_at (AtNode scope n))
  last_node xs n = nodes-append xs (n ∷ []) ∙ ap (option_or (fault_in (at_nodes scope xs))) (or-none (fault_at (AtNode scope n)))

  pub neg-fault : (p : Place) (e : Expr) → expr_fault scope (Neg p e) ≡ option_or (expr_fault scope e)
      (mismatched (first_by type_mismatch (all_taken scope (takes scope (Neg p e)))))
  neg-fault p e = last_node (nodes e) (Value (Neg p e)) ∙ ap (option_or (expr_fault scope e))
      (told_alone (first_by type_mismatch (all_taken scope (takes scope (Neg p e)))))

  pub not-fault : (p : Place) (e : Expr) → expr_fault scope (Not p e) ≡ option_or (expr_fault scope e)
      (mismatched (first_by type_mismatch (all_taken scope (takes scope (Not p e)))))
  not-fault p e = last_node (nodes e) (Value (Not p e)) ∙ ap (option_or (expr_fault scope e))
      (told_alone (first_by type_mismatch (all_taken scope (takes scope (Not p e)))))

  pub binary-fault : (p : Place) (op : Op) (l r : Expr) →
      expr_fault scope (Binary p op l r) ≡ option_or (expr_fault scope l)
      (option_or (expr_fault scope r) (mismatched (first_by type_mismatch (all_taken scope (takes scope (Binary p op l r))))))
  binary-fault p op l r =
      nodes-append (nodes l) (nodes r ++ Value (Binary p op l r) ∷ [])
      ∙ ap (option_or (expr_fault scope l)) (last_node (nodes r) (Value (Binary p op l r))
      ∙ ap (option_or (expr_fault scope r)) (told_alone (first_by type_mismatch (all_taken scope (takes scope (Binary p op l r))))))

  -- one value of a known type
  module _ (e : Expr) (t : ValueType) (typed : type_of scope e ≡ Some t) where
    pub one_taken : (w : Wanted) (more : List Taken) → first_by type_mismatch (all_taken scope (taken e w ∷ more)) ≡ option_or
        (misfit w e t) (first_by type_mismatch (all_taken scope more))
    one_taken w more = ap (λ o. option_or (when (not (suits_some w e o)) (culprit (place_of e) []))
        (first_by type_mismatch (all_taken scope more))) typed

    pub alone_taken : (w : Wanted) → first_by type_mismatch (all_taken scope (taken e w ∷ [])) ≡ misfit w e t
    alone_taken w = one_taken w [] ∙ or-none (misfit w e t)

  nothing_right : (e : Expr) (o : Option ValueType) → when (not (suits_some Nothing e o)) (culprit (place_of e) []) ≡ Some
      (culprit (place_of e) [])
  nothing_right e None = refl
  nothing_right e (Some t) = refl

  nothing_taken : (e : Expr) → first_by type_mismatch (all_taken scope (taken e Nothing ∷ [])) ≡ Some (culprit (place_of e) [])
  nothing_taken e = ap (λ o. option_or o None) (nothing_right e (type_of scope e))

  module _ (l r : Expr) (s t : ValueType) (left : type_of scope l ≡ Some s) (right : type_of scope r ≡ Some t) where
    both_taken : (type : ValueType) → first_by type_mismatch (all_taken scope (both type l r)) ≡ misfits type l s r t
    both_taken type = one_taken l s left (Fitting type) (taken r (Fitting type) ∷ []) ∙ ap (option_or (misfit (Fitting type) l s))
        (alone_taken r t right (Fitting type))

    added_taken : first_by type_mismatch (all_taken scope (added (Some s) (Some t) l r)) ≡ added_misfit l s r t
    added_taken = go (is_text (Some s)) (is_text (Some t))
      where
        go : (a b : Bool) → first_by type_mismatch
            (all_taken scope (if a then taken r Writable ∷ [] else if b then taken l Writable ∷ [] else both IntType l r))
            ≡ (if a then misfit Writable r t else if b then misfit Writable l s else misfits IntType l s r t)
        go true b = alone_taken r t right Writable
        go false true = alone_taken l s left Writable
        go false false = both_taken IntType

    compared_taken : (s' : ValueType) → first_by type_mismatch (all_taken scope (compared (Some s') l r)) ≡ compared_misfit l s' r t
    compared_taken NoValue = nothing_taken l
    compared_taken IntType = alone_taken r t right (Fitting IntType)
    compared_taken BooleanType = alone_taken r t right (Fitting BooleanType)
    compared_taken TextType = nothing_taken l
    compared_taken (EnumType n) = alone_taken r t right (Fitting (EnumType n))
    compared_taken (ClassType n) = go (is_variable l)
      where
        go : (b : Bool) → first_by type_mismatch (all_taken scope (if b then taken r (Fitting NullType) ∷ [] else taken l Nothing ∷ [])) ≡
            (if b then misfit (Fitting NullType) r t else Some (culprit (place_of l) []))
        go true = alone_taken r t right (Fitting NullType)
        go false = nothing_taken l
    compared_taken NullType = alone_taken r t right ClassVariable

    known_taken : (op : Op) → first_by type_mismatch (all_taken scope (operands op (Some s) (Some t) l r)) ≡ operand_misfit op l s r t
    known_taken ops.Or = both_taken BooleanType
    known_taken ops.And = both_taken BooleanType
    known_taken ops.Eq = compared_taken s
    known_taken ops.Ne = compared_taken s
    known_taken ops.Lt = both_taken IntType
    known_taken ops.Le = both_taken IntType
    known_taken ops.Gt = both_taken IntType
    known_taken ops.Ge = both_taken IntType
    known_taken ops.Add = added_taken
    known_taken ops.Sub = both_taken IntType
    known_taken ops.Mul = both_taken IntType
    known_taken ops.Div = both_taken IntType
    known_taken ops.Rem = both_taken IntType

    -- what the operands of an operator are taken for
    pub operands_taken : (p : Place) (op : Op) → first_by type_mismatch (all_taken scope (takes scope (Binary p op l r))) ≡ operand_misfit
        op l s r t
    operands_taken p op =
        ap (λ o. first_by type_mismatch (all_taken scope (operands op o (type_of scope r) l r))) left
        ∙ ap (λ o. first_by type_mismatch (all_taken scope (operands op (Some s) o l r))) right ∙ known_taken op
