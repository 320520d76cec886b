-- The groups of a switch: what is left of them, and what was passed.
use Rattle.std.proofs.Common.{◌≡◌, ◌<◌, ◌≤◌, ℕ, suc, ◌+◌, ◌-◌, List, [], ◌∷◌, ◌++◌, length, map, drop, get_or, Bool, true, false}
use Rattle.std.proofs.Common.{Option, Some, None, sym, ap, ◌∙◌, arith, if◌then◌else◌, ◌||◌, add-one}
use Rattle.std.specs.declared.boxed.Box.{Box}
use Rattle.std.specs.declared.alloc.Global.{Global}
use Rattle.std.proofs.lemmas.List.{map-append}
use Rattle.std.proofs.lemmas.Grind.{common_steps}
use Rattle.jv_values.specs.Statements.{any_label}
use Rattle.jv_core.specs.declared.tree.CoreExpr.{CoreExpr}
use Rattle.jv_core.specs.declared.tree.CoreStmt.{CoreStmt}
use Rattle.jv_core.specs.declared.tree.CoreStmtKind.TheVariants as S
use Rattle.jv_core.specs.declared.tree.CoreGroup.{CoreGroup, out-CoreGroup, fold_out-CoreGroup}
use Rattle.mg_text.specs.declared.place.Place.{Place}
use Rattle.jv_core.specs.Tree.{Stmt}
use Rattle.jv_core.specs.View.{stmt_of, stmt_kind_of, stmts_of, group_of, groups_of, OneGroup, stmt_layer, group_layer}
use Rattle.jv_core.specs.View.{placed_stmt_layer}
use Rattle.jv_core.proofs.ViewLaws.{views, stmt-If-None, stmt-If-Some}
use Rattle.jv_core.specs.Numbering.{numbers_from}
use Rattle.gen_rules.specs.Cases.{group_at}
use Rattle.gen_symbolic.specs.inner.Held.{declared}
use Rattle.gen_expressions.proofs.Loops.{drop_at, drop_done, numbers_last}

-- labels of a group
module _ (w : Option ℕ → Bool) (ls : List (Option ℕ)) (i : ℕ) (total : Bool) (h : any_label w (drop i ls) ≡ total) where
  module _ (x : Option ℕ) (within : i < length ls) (is : x ≡ get_or ls i x) where
    here : (w x || any_label w (drop (i + 1) ls)) ≡ total
    here = sym (ap (any_label w) (drop_at ls i x within is)) ∙ h

    pub label_found : w x ≡ true → true ≡ total
    label_found e = ap (λ b. b || any_label w (drop (i + 1) ls)) (sym e) ∙ here

    pub label_passed : w x ≡ false → any_label w (drop (i + 1) ls) ≡ total
    label_passed e = ap (λ b. b || any_label w (drop (i + 1) ls)) (sym e) ∙ here

  pub labels_done : length ls ≤ i → false ≡ total
  labels_done le = sym (ap (any_label w) (drop_done ls i le)) ∙ h

-- groups
abbrev one_group : List (Option ℕ) → List Stmt → Place → OneGroup
one_group labels body end = record { labels = labels; body = stmts_of body; end = end }

pub group_of-is : (g : CoreGroup) → group_of g ≡ one_group (out-CoreGroup g).labels.items (map stmt_of (out-CoreGroup g).body.items)
    (out-CoreGroup g).end
unfolding stmt_of group_of
group_of-is g = fold_out-CoreGroup (Place → Stmt) OneGroup Stmt stmt_layer group_layer placed_stmt_layer g

pub groups_at : (gs : List CoreGroup) (i : ℕ) (g : CoreGroup) → i < length gs → g ≡ get_or gs i g →
    groups_of (map group_of (drop i gs)) ≡ groups_of (group_of g ∷ map group_of (drop (i + 1) gs))
groups_at gs i g within is = ap (λ (ys : List CoreGroup). groups_of (map group_of ys)) (drop_at gs i g within is)

numbers_more : (k n i : ℕ) → i < n → numbers_from k (n - i) ≡ k ∷ numbers_from (suc k) (n - (i + 1))
numbers_more k n i lt = (let e : n - i ≡ suc (n - (i + 1)) = omega (arith, lt) in ap (numbers_from k) e)

module _ (w : Option ℕ → Bool) (gs : List CoreGroup) (i k : ℕ) (total : Option ℕ)
    (h : group_at w (groups_of (map group_of (drop i gs))) (numbers_from k (length gs - i)) ≡ total) where
  module _ (g : CoreGroup) (within : i < length gs) (is : g ≡ get_or gs i g) where
    abbrev after : Option ℕ
    after = group_at w (groups_of (map group_of (drop (i + 1) gs))) (numbers_from (suc k) (length gs - (i + 1)))

    at_here : (if any_label w (out-CoreGroup g).labels.items then Some k else after) ≡ total
    at_here =
        sym (ap (λ x. group_at w x (numbers_from k (length gs - i))) (groups_at gs i g within is)
        ∙ ap (λ x. group_at w (groups_of (x ∷ map group_of (drop (i + 1) gs))) (numbers_from k (length gs - i))) (group_of-is g)
        ∙ ap (group_at w (groups_of (one_group (out-CoreGroup g).labels.items (map stmt_of (out-CoreGroup g).body.items)
        (out-CoreGroup g).end ∷ map group_of (drop (i + 1) gs))))
        (numbers_more k (length gs) i within)) ∙ h

    pub group_found : (labels : List (Option ℕ)) → labels ≡ (out-CoreGroup g).labels.items → any_label w labels ≡ true → Some k ≡ total
    group_found labels e t =
        ap (λ b. if b then Some k else after) (sym (sym (ap (any_label w) e) ∙ t)) ∙ at_here

    pub group_passed : (labels : List (Option ℕ)) (k' : ℕ) → labels ≡ (out-CoreGroup g).labels.items → any_label w labels ≡ false →
        k' ≡ k + 1 →
        group_at w (groups_of (map group_of (drop (i + 1) gs))) (numbers_from k' (length gs - (i + 1))) ≡ total
    group_passed labels k' e t ek =
        ap (λ j. group_at w (groups_of (map group_of (drop (i + 1) gs))) (numbers_from j (length gs - (i + 1)))) (ek ∙ add-one k)
        ∙ ap (λ b. if b then Some k else after) (sym (sym (ap (any_label w) e) ∙ t)) ∙ at_here

  pub groups_done : length gs ≤ i → None ≡ total
  groups_done le =
      sym (ap (λ (ys : List CoreGroup). group_at w (groups_of (map group_of ys)) (numbers_from k (length gs - i))) (drop_done gs i le)) ∙ h

-- where each constant leads
pub mapped_more : (F : ℕ → ℕ) (k x : ℕ) (xs ys : List ℕ) → xs ≡ map F (numbers_from 0 k) → ys ≡ xs ++ x ∷ [] → x ≡ F k →
    ys ≡ map F (numbers_from 0 (k + 1))
mapped_more F k x xs ys h e is =
    e ∙ ap (λ zs. zs ++ x ∷ []) h ∙ ap (λ z. map F (numbers_from 0 k) ++ z ∷ []) is
    ∙ sym (ap (map F) (numbers_last k) ∙ map-append F (numbers_from 0 k) (k ∷ []))

-- an `if` declares nothing, with `else` or without
pub declared-If : (c : CoreExpr) (s : Box CoreStmt Global) (r : Option (Box CoreStmt Global)) (p : Place) →
    declared (stmt_kind_of (S.If c s r) p) ≡ None
declared-If c s None p = ap declared (stmt-If-None c s p)
declared-If c s (Some r) p = ap declared (stmt-If-Some c s r p)

pub ruleset declares = (common_steps, views, declared-If)

pub ruleset labels = (label_found, label_passed, labels_done)

pub ruleset starts = (group_found, group_passed, groups_done)
