-- The faults of statements that have statements inside, from those of their parts.
use Rattle.std.proofs.Common.{◌≡◌, List, [], ◌∷◌, ◌++◌, Option, Some, None, map, refl, sym, ap, ◌∙◌}
use Rattle.std.specs.Option.{option_or}
use Rattle.mg_text.specs.Call.{Name}
use Rattle.mg_text.specs.declared.place.Place.{Place}
use Rattle.jv_tree.specs.Source.{Expr, Stmt, If, IfElse, While, Do, Switch, Stmts, Then, Groups, Group}
use Rattle.mg_read.specs.Culprit.{Culprit}
use Rattle.mg_read.specs.First.{with_earlier}
use Rattle.jv_rules.specs.declared.condition.Condition.TheVariants as conditions
use Rattle.jv_rules.specs.Types.{BooleanType}
use Rattle.jv_rules.specs.Scope.{Scope, Loop, within, behind}
use Rattle.jv_rules.specs.Scope as targets
use Rattle.jv_rules.specs.Spots.{Spot, AtStatement, expr_spots, stmt_spots, stmts_spots, group_spots}
use Rattle.jv_rules.specs.Taking.{Fitting, AnyEnum, taken, all_taken}
use Rattle.jv_rules.specs.Conditions.{LoopAt, CaseAt, cases}
use Rattle.jv_rules.specs.inner.Deciding.{told, first_by, bad_label, type_mismatch, fault_at, fault_in}
use Rattle.jv_types.specs.inner.Judging.{expr_fault}
use Rattle.jv_types.specs.inner.Stating.{stmt_fault, stmts_fault, groups_fault, value_told, label_told, loop_told, choice_told, cases_told}
use Rattle.jv_types.proofs.Faulting.{or-none, first_by-append}

or_assoc : {C : Type 0} (a b c : Option C) → option_or (option_or a b) c ≡ option_or a (option_or b c)
or_assoc None b c = refl
or_assoc (Some x) b c = refl

module _ (s : Scope) where
  -- statements one after another
  pub then_told : (x : Stmt) (more : Stmts) → stmts_fault s (Then x more) ≡ option_or (stmt_fault s x) (stmts_fault (behind x s) more)
  then_told x more = first_by-append fault_at (stmt_spots s x) (stmts_spots (behind x s) more)

  pub group_told : (labels : List (Option Name)) (body : Stmts) (end : Place) (more : Groups) → groups_fault s (Group labels body end more)
      ≡ option_or (stmts_fault s body) (groups_fault s more)
  group_told labels body end more = first_by-append fault_at (stmts_spots s body) (group_spots s more)

  -- an expression, the statement that takes it, and what stands inside
  headed : (e : Expr) (x : Stmt) (inside : List Spot) → fault_in (expr_spots s e ++ AtStatement s x ∷ inside) ≡ option_or
      (option_or (expr_fault s e) (fault_at (AtStatement s x))) (fault_in inside)
  headed e x inside = first_by-append fault_at (expr_spots s e) (AtStatement s x ∷ inside) ∙
      sym (or_assoc (expr_fault s e) (fault_at (AtStatement s x)) (fault_in inside))

  pub if_told : (p : Place) (c : Expr) (x : Stmt) → stmt_fault s (If p c x) ≡ option_or (value_told s c (Fitting BooleanType))
      (stmt_fault s x)
  if_told p c x = headed c (If p c x) (stmt_spots s x)

  pub if_else_told : (p : Place) (c : Expr) (x y : Stmt) →
      stmt_fault s (IfElse p c x y) ≡ option_or (value_told s c (Fitting BooleanType)) (option_or (stmt_fault s x) (stmt_fault s y))
  if_else_told p c x y =
      headed c (IfElse p c x y) (stmt_spots s x ++ stmt_spots s y)
      ∙ ap (option_or (value_told s c (Fitting BooleanType))) (first_by-append fault_at (stmt_spots s x) (stmt_spots s y))

  -- a loop: its condition, and then its label
  module _ (p : Place) (label : Option Name) (c : Expr) (x : Stmt) where
    at_loop : (m : Option Culprit) (b : Option Culprit) → told conditions.TypeMismatch m (told conditions.BadLabel (option_or b None) None)
        ≡ option_or (told conditions.TypeMismatch m None) (told conditions.BadLabel b None)
    at_loop (Some z) b = refl
    at_loop None (Some z) = refl
    at_loop None None = refl

    abbrev mismatch : Option Culprit
    mismatch = first_by type_mismatch (all_taken s (taken c (Fitting BooleanType) ∷ []))

    head_told : option_or (expr_fault s c)
        (told conditions.TypeMismatch mismatch (told conditions.BadLabel (option_or (bad_label (LoopAt s p label)) None) None)) ≡ loop_told
        s p label c
    head_told =
        ap (option_or (expr_fault s c)) (at_loop mismatch (bad_label (LoopAt s p label)))
        ∙ sym (or_assoc (expr_fault s c) (told conditions.TypeMismatch mismatch None) (label_told s p label))

    pub while_told : stmt_fault s (While p label c x) ≡ option_or (loop_told s p label c) (stmt_fault (within (Loop label) s) x)
    while_told = headed c (While p label c x) (stmt_spots (within (Loop label) s) x) ∙
        ap (λ z. option_or z (stmt_fault (within (Loop label) s) x)) head_told

    pub do_told : stmt_fault s (Do p label x c) ≡ option_or (stmt_fault (within (Loop label) s) x) (loop_told s p label c)
    do_told =
        first_by-append fault_at (stmt_spots (within (Loop label) s) x) (expr_spots s c ++ AtStatement s (Do p label x c) ∷ [])
        ∙ ap (option_or (stmt_fault (within (Loop label) s) x))
        (headed c (Do p label x c) [] ∙ or-none (option_or (expr_fault s c) (fault_at (AtStatement s (Do p label x c)))) ∙ head_told)

  -- a switch: its value, its cases, and then its groups
  module _ (p : Place) (e : Expr) (groups : Groups) (end : Place) where
    at_switch : (m b : Option Culprit) → told conditions.TypeMismatch m (told conditions.BadLabel b None) ≡ option_or
        (told conditions.TypeMismatch m None) (told conditions.BadLabel b None)
    at_switch (Some z) b = refl
    at_switch None b = refl

    abbrev other_type : Option Culprit
    other_type = first_by type_mismatch (all_taken s (taken e AnyEnum ∷ []))

    abbrev bad : Option Culprit
    bad = first_by bad_label (map (CaseAt s p e) (with_earlier (cases groups)))

    choice_is : option_or (expr_fault s e) (told conditions.TypeMismatch other_type (told conditions.BadLabel bad None)) ≡ choice_told s p e
        groups
    choice_is = ap (option_or (expr_fault s e)) (at_switch other_type bad) ∙
        sym (or_assoc (expr_fault s e) (told conditions.TypeMismatch other_type None) (cases_told s p e groups))

    pub switch_told : stmt_fault s (Switch p e groups end) ≡ option_or (choice_told s p e groups)
        (groups_fault (within targets.Switch s) groups)
    switch_told = headed e (Switch p e groups end) (group_spots (within targets.Switch s) groups) ∙
        ap (λ z. option_or z (groups_fault (within targets.Switch s) groups)) choice_is
