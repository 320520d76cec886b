-- A pool keeps its entries at its front while others are added.
use Rattle.std.proofs.Common.{◌≡◌, ℕ, List, [], ◌∷◌, ◌++◌, Option, Some, None, position, refl, sym, ap, ◌∙◌, subst, append_assoc}
use Rattle.std.proofs.Common.{append-nil}
use Rattle.cls_tree.specs.declared.class.Const.{Const}
use Rattle.cls_tree.specs.Emitted.{same_const, found_or_added, number_of}
use Rattle.gen_pool.specs.Made.{IsMade, IsFrontOf}

pub front_none : (pool : List Const) → IsFrontOf pool pool
front_none pool = record { more = []; is = sym (append-nil pool) }

pub front_same : {pool same : List Const} → same ≡ pool → IsFrontOf pool same
front_same {pool} {same} e = record { more = []; is = e ∙ sym (append-nil pool) }

pub front_twice : {a b c : List Const} → IsFrontOf a b → IsFrontOf b c → IsFrontOf a c
front_twice {a} {b} {c} f g = record {
  more = f.more ++ g.more;
  is = g.is ∙ ap (λ x. x ++ g.more) f.is ∙ append_assoc a f.more g.more;
}

found : (const : Const) (pool : List Const) (at : Option ℕ) → IsFrontOf pool (found_or_added const pool at).1
found const pool (Some k) = front_none pool
found const pool None = record { more = const ∷ []; is = refl }

-- what a constant leaves
pub front_made : (const : Const) (pool left : List Const) (n : ℕ) → IsMade n left (number_of const pool) → IsFrontOf pool left
unfolding number_of
front_made const pool left n made =
    subst (IsFrontOf pool) (sym made.left) (found const pool (position (same_const const) pool))

pub ruleset fronts = (front_none, front_same, front_twice, front_made)
