-- Each form of expression is judged as its operands are.
use Rattle.std.proofs.Common.{◌≡◌, [], Option, Some, None, Bool, false, not, ◌||◌, refl, sym, ap, ◌∙◌}
use Rattle.std.specs.Option.{option_or, is_some}
use Rattle.mg_text.specs.Call.{Name}
use Rattle.mg_text.specs.declared.place.Place.{Place}
use Rattle.mg_read.specs.Culprit.{Culprit, culprit}
use Rattle.jv_tree.specs.declared.tree.Op.{Op}
use Rattle.jv_tree.specs.Source.{Expr, Variable, Neg, Not, Binary}
use Rattle.jv_rules.specs.declared.condition.Condition.{Condition}
use Rattle.jv_rules.specs.declared.condition.Condition.TheVariants as conditions
use Rattle.jv_rules.specs.Types.{ValueType, IntType, BooleanType}
use Rattle.jv_rules.specs.Scope.{Scope, variable_type}
use Rattle.jv_rules.specs.Typing.{type_of, operator_type}
use Rattle.jv_rules.specs.Taking.{Fitting}
use Rattle.jv_rules.specs.inner.Deciding.{calls_helper, told, when}
use Rattle.jv_types.specs.declared.judged.Wrong.{Wrong}
use Rattle.jv_types.specs.declared.judged.Wrong.TheVariants as wrongs
use Rattle.jv_types.specs.declared.judged.Checked.{Checked}
use Rattle.jv_types.specs.declared.value_type.ValueType.{ValueType as KeptType}
use Rattle.jv_types.specs.declared.value_type.ValueType.TheVariants as kept
use Rattle.jv_types.specs.inner.View.{type_seen}
use Rattle.jv_types.specs.inner.Judging.{expr_fault, Tells, IsChecked, misfit, operand_misfit, at_place}
use Rattle.jv_types.proofs.Faulting.{mismatched, neg-fault, not-fault, binary-fault, alone_taken, operands_taken}

-- what an operand tells, the whole tells
pub tells_first : (w : Wrong) (o r whole : Option (Condition × Culprit)) → whole ≡ option_or o r → Tells w o → Tells w whole
tells_first wrongs.Memory o r whole e t = tt
tells_first (wrongs.Fault k p n) o r whole e t = e ∙ ap (λ z. option_or z r) t

pub tells_later : (w : Wrong) (o r whole : Option (Condition × Culprit)) → whole ≡ option_or o r → o ≡ None → Tells w r → Tells w whole
tells_later wrongs.Memory o r whole e n t = tt
tells_later (wrongs.Fault k p m) o r whole e n t = e ∙ ap (λ z. option_or z r) n ∙ t

-- behind operands that are fine the node decides
node_decides : (o r whole : Option (Condition × Culprit)) → whole ≡ option_or o r → o ≡ None → whole ≡ r
node_decides o r whole e n = e ∙ ap (λ z. option_or z r) n

name_fault : Place → Name → Option ValueType → Option (Condition × Culprit)
name_fault p x o = option_or (told conditions.UnknownName (when (not (is_some o)) (culprit p x)) None) None

module _ (s : Scope) where
  -- a variable
  pub known_name : (p : Place) (x : Name) (ty : KeptType) → Some (type_seen ty) ≡ variable_type s x →
      IsChecked s (Variable p x) (record { ty = ty; helper = false })
  unfolding name_fault
  known_name p x ty e = record { fine = ap (name_fault p x) (sym e); typed = sym e; helper = refl }

  pub unknown_name : (p : Place) (x : Name) → None ≡ variable_type s x →
      expr_fault s (Variable p x) ≡ Some (conditions.UnknownName, culprit p x)
  unfolding name_fault
  unknown_name p x e = ap (name_fault p x) (sym e)

  -- `-e`
  module _ (p : Place) (e : Expr) (c : Checked) (h : IsChecked s e c) where
    neg_decides : expr_fault s (Neg p e) ≡ mismatched (misfit (Fitting IntType) e (type_seen c.ty))
    neg_decides = node_decides _ _ _ (neg-fault s p e) h.fine ∙ ap mismatched (alone_taken s e (type_seen c.ty) h.typed (Fitting IntType))

    pub neg_wrong : (q : Place) → Some (at_place q) ≡ misfit (Fitting IntType) e (type_seen c.ty) →
        expr_fault s (Neg p e) ≡ Some (conditions.TypeMismatch, culprit q [])
    neg_wrong q m = neg_decides ∙ ap mismatched (sym m)

    pub neg_fine : None ≡ misfit (Fitting IntType) e (type_seen c.ty) → IsChecked s (Neg p e) (record { ty = kept.Int; helper = c.helper })
    neg_fine m = record { fine = neg_decides ∙ ap mismatched (sym m); typed = refl; helper = h.helper }

    not_decides : expr_fault s (Not p e) ≡ mismatched (misfit (Fitting BooleanType) e (type_seen c.ty))
    not_decides = node_decides _ _ _ (not-fault s p e) h.fine ∙
        ap mismatched (alone_taken s e (type_seen c.ty) h.typed (Fitting BooleanType))

    pub not_wrong : (q : Place) → Some (at_place q) ≡ misfit (Fitting BooleanType) e (type_seen c.ty) →
        expr_fault s (Not p e) ≡ Some (conditions.TypeMismatch, culprit q [])
    not_wrong q m = not_decides ∙ ap mismatched (sym m)

    pub not_fine : None ≡ misfit (Fitting BooleanType) e (type_seen c.ty) →
        IsChecked s (Not p e) (record { ty = kept.Boolean; helper = c.helper })
    not_fine m = record { fine = not_decides ∙ ap mismatched (sym m); typed = refl; helper = h.helper }

  -- a binary operator
  module _ (p : Place) (op : Op) (l r : Expr) (c d : Checked) (h : IsChecked s l c) (k : IsChecked s r d) where
    binary_decides : expr_fault s (Binary p op l r) ≡ mismatched (operand_misfit op l (type_seen c.ty) r (type_seen d.ty))
    binary_decides =
        node_decides _ _ _ (binary-fault s p op l r) h.fine ∙ node_decides _ _ _ refl k.fine
        ∙ ap mismatched (operands_taken s l r (type_seen c.ty) (type_seen d.ty) h.typed k.typed p op)

    pub binary_wrong : (q : Place) → Some (at_place q) ≡ operand_misfit op l (type_seen c.ty) r (type_seen d.ty) →
        expr_fault s (Binary p op l r) ≡ Some (conditions.TypeMismatch, culprit q [])
    binary_wrong q m = binary_decides ∙ ap mismatched (sym m)

    pub binary_fine : None ≡ operand_misfit op l (type_seen c.ty) r (type_seen d.ty) → (ty : KeptType) (helper : Bool) →
        type_seen ty ≡ operator_type op (Some (type_seen c.ty)) (Some (type_seen d.ty)) → helper ≡ (c.helper || d.helper) →
        IsChecked s (Binary p op l r) (record { ty = ty; helper = helper })
    binary_fine m ty helper t u = record {
      fine = binary_decides ∙ ap mismatched (sym m);
      typed = ap (λ o. Some (operator_type op o (type_of s r))) h.typed ∙ ap (λ o. Some (operator_type op (Some (type_seen c.ty)) o))
          k.typed ∙ ap Some (sym t);
      helper = u ∙ ap (λ b. b || d.helper) h.helper ∙ ap (λ b. calls_helper s l || b) k.helper;
    }

  -- what an operand tells, the whole tells
  pub neg_tells : (p : Place) (e : Expr) (w : Wrong) → Tells w (expr_fault s e) → Tells w (expr_fault s (Neg p e))
  neg_tells p e w = tells_first w _ _ _ (neg-fault s p e)

  pub not_tells : (p : Place) (e : Expr) (w : Wrong) → Tells w (expr_fault s e) → Tells w (expr_fault s (Not p e))
  not_tells p e w = tells_first w _ _ _ (not-fault s p e)

  pub left_tells : (p : Place) (op : Op) (l r : Expr) (w : Wrong) → Tells w (expr_fault s l) → Tells w (expr_fault s (Binary p op l r))
  left_tells p op l r w = tells_first w _ _ _ (binary-fault s p op l r)

  pub right_tells : (p : Place) (op : Op) (l r : Expr) (w : Wrong) (c : Checked) → IsChecked s l c → Tells w (expr_fault s r) →
      Tells w (expr_fault s (Binary p op l r))
  right_tells p op l r w c h t = tells_later w _ _ _ (binary-fault s p op l r) h.fine (tells_first w _ _ _ refl t)

pub ruleset variables = (known_name, unknown_name)

pub ruleset negs = (neg_wrong, neg_fine)

pub ruleset nots = (not_wrong, not_fine)

pub ruleset binaries = (binary_wrong, binary_fine)
