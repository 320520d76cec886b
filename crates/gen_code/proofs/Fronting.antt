-- Lists of constants that hold others first.
use Rattle.std.proofs.Common.{◌≡◌, ℕ, List, [], ◌∷◌, ◌++◌, length, map, take, drop, sym, ap, ◌∙◌}
use Rattle.std.proofs.Math.Seq.{take-append_seam, drop-append_seam}
use Rattle.std.proofs.lemmas.List.{drop-map}
use Rattle.cls_tree.specs.declared.class.Const.{Const}
use Rattle.gen_pool.specs.declared.key.Key.{Key}
use Rattle.gen_pool.specs.Keys.{const_of}
use Rattle.gen_pool.specs.Made.{IsFrontOf}
use Rattle.gen_pool.proofs.Fronts.{front_none, front_same, front_twice}

-- one more behind them
pub front_more : {a b c : List Const} (x : Const) → IsFrontOf a b → c ≡ b ++ x ∷ [] → IsFrontOf a c
front_more {a} {b} {c} x f e = front_twice f (record { more = x ∷ []; is = e })

-- those first, and no more
pub taken : {a b : List Const} → IsFrontOf a b → take (length a) b ≡ a
taken {a} {b} f = ap (take (length a)) f.is ∙ take-append_seam a f.more

-- those first, and what stands behind them
rejoined : {a b : List Const} → IsFrontOf a b → a ++ drop (length a) b ≡ b
rejoined {a} {b} f = ap (λ x. a ++ drop (length a) x) f.is ∙ ap (λ x. a ++ x) (drop-append_seam a f.more) ∙ sym f.is

-- the constants of the keys behind those
pub kept_up : (a b new : List Const) (keys : List Key) (n : ℕ) → IsFrontOf a b → map const_of keys ≡ b → n ≡ length a
    → new ≡ a ++ map const_of (drop n keys) → new ≡ b
kept_up a b new keys n f are len made =
    made ∙ ap (λ x. a ++ x) (sym (drop-map const_of n keys) ∙ ap (drop n) are ∙ ap (λ x. drop x b) len) ∙ rejoined f

pub ruleset fronting = (front_none, front_same, front_more, taken)
