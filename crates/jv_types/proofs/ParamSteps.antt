-- Parameters one after another: what is left to be judged, and what is in scope there.
use Rattle.std.proofs.Common.{◌≡◌, ℕ, ◌+◌, ◌<◌, ◌≤◌, List, [], ◌∷◌, Result, Ok, Err, length, drop, get_or, Option, Some, None, Bool, true}
use Rattle.std.proofs.Common.{false, sym, ap, ◌∙◌}
use Rattle.std.specs.Prelude.{OnOk}
use Rattle.std.specs.Option.{option_or, is_some}
use Rattle.std.proofs.Math.ListN.{drop_of_length-le}
use Rattle.mg_read.specs.Culprit.{Culprit, culprit}
use Rattle.jv_tree.specs.declared.tree.Param.{Param}
use Rattle.jv_rules.specs.declared.condition.Condition.{Condition}
use Rattle.jv_rules.specs.declared.condition.Condition.TheVariants as conditions
use Rattle.mg_text.specs.Call.{Name}
use Rattle.ts_tree.specs.declared.parts.TypeName.{TypeName}
use Rattle.jv_rules.specs.Types.{meant}
use Rattle.jv_types.specs.declared.scope.Scope.{Scope as KeptScope}
use Rattle.jv_scope.specs.Named.{Named, under}
use Rattle.jv_types.specs.declared.value_type.ValueType.{ValueType as KeptType}
use Rattle.jv_types.specs.inner.View.{type_seen}
use Rattle.jv_types.specs.inner.Locals.{declared, locals_seen}
use Rattle.jv_types.specs.inner.Scopes.{program_seen, scope_seen}
use Rattle.jv_rules.specs.Scope.{Scope, declare, with_params, local_named}
use Rattle.jv_rules.specs.inner.Deciding.{when, told}
use Rattle.jv_types.specs.inner.Stating.{Extends, params_fault}
use Rattle.jv_types.proofs.AtIndex.{drop_at}

module _ (now : Scope) (xs : List Param) (i : ℕ) (x : Param) (within : i < length xs) (is : x ≡ get_or xs i x) where
  abbrev twice : Bool → Option (Condition × Culprit)
  twice b = option_or (told conditions.DuplicateLocal (when b (culprit x.place x.name)) None)
      (params_fault (declare x.name x.ty now) (drop (i + 1) xs))

  params_told : (b : Bool) → is_some (local_named now x.name) ≡ b → params_fault now (drop i xs) ≡ twice b
  params_told b e = ap (params_fault now) (drop_at xs i x within is) ∙ ap twice e

  pub param_twice : (whole : Option (Condition × Culprit)) → whole ≡ params_fault now (drop i xs) → is_some (local_named now x.name) ≡ true
      → whole ≡ Some (conditions.DuplicateLocal, culprit x.place x.name)
  param_twice whole left e = left ∙ params_told true e

  pub param_more : (whole : Option (Condition × Culprit)) (new : Scope) → whole ≡ params_fault now (drop i xs) →
      is_some (local_named now x.name) ≡ false → new ≡ declare x.name x.ty now →
      whole ≡ params_fault new (drop (i + 1) xs)
  param_more whole new left e k = left ∙ params_told false e ∙ ap (λ s. params_fault s (drop (i + 1) xs)) (sym k)

  pub param_scope : (whole new : Scope) → whole ≡ with_params (drop i xs) now → new ≡ declare x.name x.ty now →
      whole ≡ with_params (drop (i + 1) xs) new
  param_scope whole new scope k = scope ∙ ap (λ ys. with_params ys now) (drop_at xs i x within is) ∙
      ap (λ s. with_params (drop (i + 1) xs) s) (sym k)

module _ (now : Scope) (xs : List Param) (i : ℕ) (past : length xs ≤ i) where
  pub params_done : (whole : Option (Condition × Culprit)) → whole ≡ params_fault now (drop i xs) → whole ≡ None
  params_done whole left = left ∙ ap (params_fault now) (drop_of_length-le xs past)

  pub params_scope : (whole : Scope) → whole ≡ with_params (drop i xs) now → now ≡ whole
  params_scope whole scope = sym (scope ∙ ap (λ ys. with_params ys now) (drop_of_length-le xs past))

-- one more local in scope
pub declared_scope : (s : KeptScope) (old new : List (Named KeptType)) (name n : Name) (t : KeptType) (ty : TypeName) →
    new ≡ under n t ∷ old → n ≡ name → type_seen t ≡ meant (program_seen s) ty →
    scope_seen s new ≡ declare name ty (scope_seen s old)
declared_scope s old new name n t ty e k h =
    ap (scope_seen s) (e ∙ ap (λ z. under z t ∷ old) k)
    ∙ ap (λ z. record (scope_seen s old) { locals = declared name z ∷ locals_seen old }) h

pub declared_extends : {A : Type 0} (old new : List A) (d : A) → new ≡ d ∷ old → Extends old new
declared_extends old new d e = record { more = d ∷ []; is = e }

-- what follows where a call succeeds
pub on_ok : {A E : Type 0} (P Q : Type 0) (r : Result A E) → (P → Q) → OnOk r P → OnOk r Q
on_ok P Q (Ok x) f h = f h
on_ok P Q (Err e) f h = h
