-- Parameters and arguments at an index.
use Rattle.std.proofs.Common.{◌≡◌, ℕ, zero, suc, ◌+◌, ◌<◌, List, [], ◌∷◌, map, length, get_or, drop, Option, Some, None, refl, sym, ap, ◌∙◌}
use Rattle.std.proofs.Common.{arith}
use Rattle.std.specs.Prelude.{slice_get}
use Rattle.std.specs.Option.{option_map, option_or}
use Rattle.std.proofs.lemmas.List.{at_drop_more}
use Rattle.mg_read.specs.Culprit.{Culprit}
use Rattle.jv_tree.specs.declared.tree.Expr.{Expr as KeptExpr}
use Rattle.jv_tree.specs.Source.{Argument}
use Rattle.jv_tree.specs.View.{expr_of, exprs_of}
use Rattle.jv_rules.specs.Types.{ValueType}
use Rattle.jv_rules.specs.Taking.{Fitting}
use Rattle.jv_types.specs.declared.value_type.ValueType.{ValueType as KeptType}
use Rattle.jv_types.specs.inner.View.{type_seen}
use Rattle.jv_types.specs.inner.Judging.{misfit, args_misfit}

-- an image at an index
pub get-image : {X Y : Type 0} (f : X → Y) (xs : List X) (i : ℕ) → slice_get (map f xs) i ≡ option_map f (slice_get xs i)
get-image f [] i = refl
get-image f (x ∷ xs) zero = refl
get-image f (x ∷ xs) (suc i) = get-image f xs i

pub ruleset params = (get-image)

-- what is left from an index on
pub drop_at : {X : Type 0} (xs : List X) (i : ℕ) (x : X) → i < length xs → x ≡ get_or xs i x → drop i xs ≡ x ∷ drop (i + 1) xs
drop_at xs i x within is = at_drop_more (λ ys. ys) xs i x within ∙ ap (λ y. y ∷ drop (i + 1) xs) (sym is)

pub drop_some : {X : Type 0} (xs : List X) (i : ℕ) (x : X) → Some x ≡ slice_get xs i → drop i xs ≡ x ∷ drop (i + 1) xs
drop_some [] i x e = let no : ⊥ = cc in absurd no
drop_some (y ∷ xs) zero x e = let same : x ≡ y = cc in ap (λ z. z ∷ xs) (sym same)
drop_some (y ∷ xs) (suc i) x e = drop_some xs i x e ∙ (let k : suc (i + 1) ≡ suc i + 1 = omega arith in ap (λ n. x ∷ drop n (y ∷ xs)) k)

pub drop_none : {X : Type 0} (xs : List X) (i : ℕ) → None ≡ slice_get xs i → drop i xs ≡ []
drop_none [] zero e = refl
drop_none [] (suc i) e = refl
drop_none (y ∷ xs) zero e = let no : ⊥ = cc in absurd no
drop_none (y ∷ xs) (suc i) e = drop_none xs i e

-- within a list the value for what is missing doesn't matter
pub same_within : {X : Type 0} (xs : List X) (i : ℕ) (d d' : X) → i < length xs → get_or xs i d ≡ get_or xs i d'
same_within [] i d d' h = let no : ⊥ = omega arith in absurd no
same_within (x ∷ xs) zero d d' h = refl
same_within (x ∷ xs) (suc i) d d' h = same_within xs i d d' (omega arith)

abbrev pub left_misfit : List KeptExpr → List ValueType → List KeptType → ℕ → Option Culprit
left_misfit args params types i = args_misfit (exprs_of (map expr_of (drop i args))) (drop i params) (map type_seen (drop i types))

module _ (args : List KeptExpr) (params : List ValueType) (types : List KeptType) (i : ℕ) (e : KeptExpr) (within : i < length args)
    (is : e ≡ get_or args i e) where
  pub left_none : None ≡ slice_get params i → left_misfit args params types i ≡ None
  left_none h =
      ap (λ xs. args_misfit (exprs_of (map expr_of xs)) (drop i params) (map type_seen (drop i types))) (drop_at args i e within is)
      ∙ ap (λ ps. args_misfit (Argument (expr_of e) (exprs_of (map expr_of (drop (i + 1) args)))) ps (map type_seen (drop i types)))
      (drop_none params i h)

  module _ (p : ValueType) (t : KeptType) (param : Some p ≡ slice_get params i) (inside : i < length types) (at : t ≡ get_or types i t)
    where
      pub left_more : left_misfit args params types i ≡ option_or (misfit (Fitting p) (expr_of e) (type_seen t))
          (left_misfit args params types (i + 1))
      left_more =
          ap (λ xs. args_misfit (exprs_of (map expr_of xs)) (drop i params) (map type_seen (drop i types))) (drop_at args i e within is)
          ∙ ap (λ ps. args_misfit (Argument (expr_of e) (exprs_of (map expr_of (drop (i + 1) args)))) ps (map type_seen (drop i types)))
          (drop_some params i p param)
          ∙ ap (λ ts. args_misfit (Argument (expr_of e) (exprs_of (map expr_of (drop (i + 1) args)))) (p ∷ drop (i + 1) params)
          (map type_seen ts)) (drop_at types i t inside at)
