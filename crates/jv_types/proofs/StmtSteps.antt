-- The faults of statements, from those of their parts.
use Rattle.std.proofs.Common.{◌≡◌, List, [], ◌∷◌, ◌++◌, Option, Some, None, Bool, true, false, not, refl, sym, ap, ◌∙◌}
use Rattle.std.specs.Option.{option_or, is_some}
use Rattle.std.specs.List.{list_any}
use Rattle.mg_text.specs.Call.{Name}
use Rattle.mg_text.specs.declared.place.Place.{Place}
use Rattle.mg_read.specs.Culprit.{Culprit, culprit}
use Rattle.ts_tree.specs.declared.parts.TypeName.{TypeName}
use Rattle.jv_tree.specs.Source.{Expr, Stmt, Local, Assign, Print, Break, Continue, Return}
use Rattle.jv_tree.specs.Source as S
use Rattle.jv_rules.specs.declared.condition.Condition.{Condition}
use Rattle.jv_rules.specs.declared.condition.Condition.TheVariants as conditions
use Rattle.jv_rules.specs.Types.{ValueType, NoValue, IntType, BooleanType, TextType, EnumType, ClassType, NullType, meant}
use Rattle.jv_rules.specs.Scope.{Scope, Declared, local_named, declared_named, declare, behind}
use Rattle.jv_rules.specs.Typing.{type_of}
use Rattle.jv_rules.specs.Conditions.{label_name}
use Rattle.jv_rules.specs.Spots.{Spot, AtStatement, expr_spots}
use Rattle.jv_rules.specs.Taking.{Wanted, Fitting, Writable, AnyEnum, Nothing, taken, all_taken, assigned, returned, returned_nothing}
use Rattle.jv_rules.specs.Taking.{result_of}
use Rattle.jv_rules.specs.inner.Deciding.{when, told, first_by, type_mismatch, can_break, can_continue, has_label, fault_at, fault_in}
use Rattle.jv_types.specs.declared.judged.Wrong.{Wrong}
use Rattle.jv_types.specs.declared.judged.Checked.{Checked}
use Rattle.jv_types.specs.inner.View.{type_seen}
use Rattle.jv_types.specs.inner.Judging.{Tells, IsChecked, expr_fault, misfit, at_place}
use Rattle.jv_types.specs.inner.Stating.{stmt_fault, value_told, label_told, returned_wanted, nothing_told, Written, written}
use Rattle.jv_types.specs.inner.Stating.{written_in}
use Rattle.jv_types.proofs.Faulting.{or-none, first_by-append, alone_taken}
use Rattle.jv_types.proofs.Checking.{tells_first}

module _ (s : Scope) (p : Place) (label : Option Name) where
  -- what a jump to such a target answers
  abbrev jump : Bool → Option (Condition × Culprit)
  jump can = option_or (told conditions.BadLabel (option_or (when (not can) (culprit p (label_name label))) None) None) None

  pub break_fine : true ≡ can_break s.around label → stmt_fault s (Break p label) ≡ None
  break_fine e = ap jump (sym e)

  pub break_wrong : false ≡ can_break s.around label →
      stmt_fault s (Break p label) ≡ Some (conditions.BadLabel, culprit p (label_name label))
  break_wrong e = ap jump (sym e)

  pub continue_fine : true ≡ can_continue s.around label → stmt_fault s (Continue p label) ≡ None
  continue_fine e = ap jump (sym e)

  pub continue_wrong : false ≡ can_continue s.around label → stmt_fault s (Continue p label) ≡ Some
      (conditions.BadLabel, culprit p (label_name label))
  continue_wrong e = ap jump (sym e)

module _ (s : Scope) (p : Place) (label : Option Name) (name : Name) (is : label ≡ Some name) where
  label_as : (b : Bool) → b ≡ list_any (has_label name) s.around → label_told s p label ≡ told conditions.BadLabel (when b (culprit p name))
      None
  label_as b e = ap (label_told s p) is ∙ ap (λ z. told conditions.BadLabel (when z (culprit p name)) None) (sym e)

  pub label_fine : false ≡ list_any (has_label name) s.around → label_told s p label ≡ None
  label_fine e = label_as false e

  pub label_wrong : true ≡ list_any (has_label name) s.around → label_told s p label ≡ Some (conditions.BadLabel, culprit p name)
  label_wrong e = label_as true e

pub ruleset jumps = (break_fine, break_wrong, continue_fine, continue_wrong)

-- a value that is taken
module _ (s : Scope) (e : Expr) (w : Wanted) where
  abbrev node : Option (Condition × Culprit)
  node = told conditions.TypeMismatch (first_by type_mismatch (all_taken s (taken e w ∷ []))) None

  pub value_tells : (u : Wrong) → Tells u (expr_fault s e) → Tells u (value_told s e w)
  value_tells u = tells_first u (expr_fault s e) node (value_told s e w) refl

  module _ (c : Checked) (h : IsChecked s e c) where
    value_decides : value_told s e w ≡ told conditions.TypeMismatch (misfit w e (type_seen c.ty)) None
    value_decides = ap (λ z. option_or z node) h.fine ∙ ap (λ m. told conditions.TypeMismatch m None)
        (alone_taken s e (type_seen c.ty) h.typed w)

    pub value_wrong : (at : Place) → Some (at_place at) ≡ misfit w e (type_seen c.ty) →
        value_told s e w ≡ Some (conditions.TypeMismatch, culprit at [])
    value_wrong at m = value_decides ∙ ap (λ z. told conditions.TypeMismatch z None) (sym m)

    pub value_fine : None ≡ misfit w e (type_seen c.ty) → value_told s e w ≡ None
    value_fine m = value_decides ∙ ap (λ z. told conditions.TypeMismatch z None) (sym m)

last_spot : (xs : List Spot) (x : Spot) → fault_in (xs ++ x ∷ []) ≡ option_or (fault_in xs) (fault_at x)
last_spot xs x = first_by-append fault_at xs (x ∷ []) ∙ ap (option_or (fault_in xs)) (or-none (fault_at x))

-- printing
pub print_told : (s : Scope) (p : Place) (e : Expr) → stmt_fault s (Print p e) ≡ value_told s e Writable
print_told s p e = last_spot (expr_spots s e) (AtStatement s (Print p e))

-- `return`
pub return_told : (s : Scope) (p : Place) (e : Expr) → stmt_fault s (Return p (Some e)) ≡ value_told s e (returned_wanted (result_of s))
return_told s p e = last_spot (expr_spots s e) (AtStatement s (Return p (Some e))) ∙
    ap (λ ts. option_or (expr_fault s e) (told conditions.TypeMismatch (first_by type_mismatch (all_taken s ts)) None)) (same (result_of s))
  where
    same : (t : ValueType) → returned t e ≡ taken e (returned_wanted t) ∷ []
    same NoValue = refl
    same IntType = refl
    same BooleanType = refl
    same TextType = refl
    same (EnumType n) = refl
    same (ClassType n) = refl
    same NullType = refl

-- an assignment
module _ (s : Scope) (p : Place) (target value : Expr) where
  abbrev after : Option ValueType → Option (Condition × Culprit)
  after o = option_or (expr_fault s value) (told conditions.TypeMismatch (first_by type_mismatch (all_taken s (assigned o value))) None)

  assign_told : stmt_fault s (Assign p target value) ≡ option_or (expr_fault s target) (after (type_of s target))
  assign_told =
      first_by-append fault_at (expr_spots s target) (expr_spots s value ++ AtStatement s (Assign p target value) ∷ [])
      ∙ ap (option_or (expr_fault s target)) (last_spot (expr_spots s value) (AtStatement s (Assign p target value)))

  pub target_tells : (w : Wrong) → Tells w (expr_fault s target) → Tells w (stmt_fault s (Assign p target value))
  target_tells w = tells_first w (expr_fault s target) (after (type_of s target)) (stmt_fault s (Assign p target value)) assign_told

  module _ (c : Checked) (h : IsChecked s target c) where
    pub assigned_told : stmt_fault s (Assign p target value) ≡ value_told s value (Fitting (type_seen c.ty))
    assigned_told = assign_told ∙ ap (λ z. option_or z (after (type_of s target))) h.fine ∙ ap after h.typed

-- the declaration of a local
module _ (s : Scope) (p : Place) (ty : TypeName) (name : Name) (e : Expr) where
  abbrev declared_by : Bool → Option Culprit → Option (Condition × Culprit)
  declared_by b m = told conditions.DuplicateLocal (when b (culprit p name)) (told conditions.TypeMismatch m None)

  abbrev mismatch : Option Culprit
  mismatch = first_by type_mismatch (all_taken s (taken e (Fitting (meant s.program ty)) ∷ []))

  local_told : stmt_fault s (Local p ty name e) ≡ option_or (expr_fault s e) (declared_by (is_some (local_named s name)) mismatch)
  local_told = last_spot (expr_spots s e) (AtStatement s (Local p ty name e))

  pub local_tells : (w : Wrong) → Tells w (expr_fault s e) → Tells w (stmt_fault s (Local p ty name e))
  local_tells w = tells_first w (expr_fault s e) (declared_by (is_some (local_named s name)) mismatch) (stmt_fault s (Local p ty name e))
      local_told

  module _ (c : Checked) (h : IsChecked s e c) where
    local_decides : (b : Bool) → is_some (local_named s name) ≡ b → stmt_fault s (Local p ty name e) ≡ declared_by b
        (misfit (Fitting (meant s.program ty)) e (type_seen c.ty))
    local_decides b k =
        local_told ∙ ap (λ z. option_or z (declared_by (is_some (local_named s name)) mismatch)) h.fine ∙ ap (λ z. declared_by z mismatch) k
        ∙ ap (declared_by b) (alone_taken s e (type_seen c.ty) h.typed (Fitting (meant s.program ty)))

    pub local_twice : is_some (local_named s name) ≡ true → stmt_fault s (Local p ty name e) ≡ Some
        (conditions.DuplicateLocal, culprit p name)
    local_twice k = local_decides true k

    pub local_wrong : is_some (local_named s name) ≡ false → (at : Place) → Some (at_place at) ≡ misfit (Fitting (meant s.program ty)) e
        (type_seen c.ty) →
        stmt_fault s (Local p ty name e) ≡ Some (conditions.TypeMismatch, culprit at [])
    local_wrong k at m = local_decides false k ∙ ap (declared_by false) (sym m)

    pub local_fine : is_some (local_named s name) ≡ false → None ≡ misfit (Fitting (meant s.program ty)) e (type_seen c.ty) →
        stmt_fault s (Local p ty name e) ≡ None
    local_fine k m = local_decides false k ∙ ap (declared_by false) (sym m)

-- a name that no local has
pub unnamed : (l : List Declared) (name : Name) → is_some (declared_named l name) ≡ false → declared_named l name ≡ None
unnamed l name e = go (declared_named l name) e
  where
    go : (d : Option Declared) → is_some d ≡ false → d ≡ None
    go None h = refl
    go (Some d) h = let no : ⊥ = cc in absurd no

-- `return` without a value
pub empty_return_told : (s : Scope) (p : Place) → stmt_fault s (Return p None) ≡ nothing_told p (returned_wanted (result_of s))
empty_return_told s p = go (result_of s)
  where
    go : (t : ValueType) → option_or (told conditions.TypeMismatch (first_by type_mismatch (returned_nothing t p)) None) None ≡ nothing_told
        p (returned_wanted t)
    go NoValue = refl
    go IntType = refl
    go BooleanType = refl
    go TextType = refl
    go (EnumType n) = refl
    go (ClassType n) = refl
    go NullType = refl

pub return_fine : (s : Scope) (p : Place) → Nothing ≡ returned_wanted (result_of s) → stmt_fault s (Return p None) ≡ None
return_fine s p e = empty_return_told s p ∙ ap (nothing_told p) (sym e)

pub return_lacks : (s : Scope) (p : Place) (t : ValueType) → Fitting t ≡ returned_wanted (result_of s) →
    stmt_fault s (Return p None) ≡ Some (conditions.TypeMismatch, culprit p [])
return_lacks s p t e = empty_return_told s p ∙ ap (nothing_told p) (sym e)

pub return_writable : (s : Scope) (p : Place) → Writable ≡ returned_wanted (result_of s) →
    stmt_fault s (Return p None) ≡ Some (conditions.TypeMismatch, culprit p [])
return_writable s p e = empty_return_told s p ∙ ap (nothing_told p) (sym e)

pub return_enum : (s : Scope) (p : Place) → AnyEnum ≡ returned_wanted (result_of s) →
    stmt_fault s (Return p None) ≡ Some (conditions.TypeMismatch, culprit p [])
return_enum s p e = empty_return_told s p ∙ ap (nothing_told p) (sym e)

pub ruleset returning = (return_fine, return_lacks, return_writable, return_enum)

-- what is in scope behind a statement
abbrev pub behind_written : Option Written → Scope → Scope
behind_written None s = s
behind_written (Some w) s = declare w.name w.ty s

pub behind-written : (x : Stmt) (s : Scope) → behind x s ≡ behind_written (written_in x) s
behind-written (S.Block p b end) s = refl
behind-written (S.Empty p) s = refl
behind-written (Local p ty n e) s = refl
behind-written (Assign p t v) s = refl
behind-written (S.If p c x) s = refl
behind-written (S.IfElse p c x y) s = refl
behind-written (S.While p l c x) s = refl
behind-written (S.Do p l x c) s = refl
behind-written (S.Switch p e gs end) s = refl
behind-written (Break p l) s = refl
behind-written (Continue p l) s = refl
behind-written (Return p v) s = refl
behind-written (Print p e) s = refl
behind-written (S.Eval p e) s = refl

-- where nothing is wrong with a declaration, its name is new
local_new : (s : Scope) (p : Place) (ty : TypeName) (name : Name) (e : Expr) → stmt_fault s (Local p ty name e) ≡ None →
    declared_named s.locals name ≡ None
local_new s p ty name e fine = go (expr_fault s e) (declared_named s.locals name) (mismatch s p ty name e) (sym (local_told s p ty name e) ∙
    fine)
  where
    go : (o : Option (Condition × Culprit)) (d : Option Declared) (m : Option Culprit) →
        option_or o (declared_by s p ty name e (is_some d) m) ≡ None → d ≡ None
    go o None m h = refl
    go None (Some d) m h = let no : ⊥ = cc in absurd no
    go (Some x) (Some d) m h = let no : ⊥ = cc in absurd no

pub written_new : (s : Scope) (x : Stmt) (w : Written) → Some w ≡ written_in x → stmt_fault s x ≡ None →
    declared_named s.locals w.name ≡ None
written_new s (Local p ty n e) w is fine = let same : w ≡ written ty n = cc in ap (λ z. declared_named s.locals z.name) same ∙
    local_new s p ty n e fine
written_new s (S.Block p b end) w is fine = let no : ⊥ = cc in absurd no
written_new s (S.Empty p) w is fine = let no : ⊥ = cc in absurd no
written_new s (Assign p t v) w is fine = let no : ⊥ = cc in absurd no
written_new s (S.If p c x) w is fine = let no : ⊥ = cc in absurd no
written_new s (S.IfElse p c x y) w is fine = let no : ⊥ = cc in absurd no
written_new s (S.While p l c x) w is fine = let no : ⊥ = cc in absurd no
written_new s (S.Do p l x c) w is fine = let no : ⊥ = cc in absurd no
written_new s (S.Switch p e gs end) w is fine = let no : ⊥ = cc in absurd no
written_new s (Break p l) w is fine = let no : ⊥ = cc in absurd no
written_new s (Continue p l) w is fine = let no : ⊥ = cc in absurd no
written_new s (Return p v) w is fine = let no : ⊥ = cc in absurd no
written_new s (Print p e) w is fine = let no : ⊥ = cc in absurd no
written_new s (S.Eval p e) w is fine = let no : ⊥ = cc in absurd no

pub behind_some : (x : Stmt) (s : Scope) (w : Written) → Some w ≡ written_in x → behind x s ≡ declare w.name w.ty s
behind_some x s w e = behind-written x s ∙ ap (λ o. behind_written o s) (sym e)

pub behind_none : (x : Stmt) (s : Scope) → None ≡ written_in x → behind x s ≡ s
behind_none x s e = behind-written x s ∙ ap (λ o. behind_written o s) (sym e)
