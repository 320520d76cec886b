-- Whether code returns, part by part.
use Rattle.std.proofs.Common.{◌≡◌, ℕ, Bool, true, false, ◌+◌, ◌<◌, ◌≤◌, List, [], ◌∷◌, length, get_or, drop, map, refl, sym, ap, ◌∙◌}
use Rattle.std.specs.Prelude.{◌||◌}
use Rattle.std.proofs.lemmas.Grind.{common_steps}
use Rattle.std.proofs.lemmas.List.{at_drop_more, at_drop_all}
use Rattle.jv_core.specs.declared.tree.CoreStmt.{CoreStmt}
use Rattle.jv_core.specs.declared.tree.CoreGroup.{CoreGroup, out-CoreGroup}
use Rattle.jv_core.specs.Tree.{Stmt, Block, Empty, Local, Assign, If, IfElse, While, Do, Switch, Break, Continue, Return, Print, Eval}
use Rattle.jv_core.specs.Tree.{Stmts}
use Rattle.jv_core.specs.View.{stmt_of, stmts_of, group_of, groups_of, before}
use Rattle.jv_core.proofs.ViewLaws.{views}
use Rattle.fit_uses.specs.Uses.{returns, returns_in, returns_in_groups}
use Rattle.fit_uses.proofs.Using.{group_of-is}

or_true : (a b : Bool) → a ≡ true → (a || b) ≡ true
or_true a b e = ap (λ z. z || b) e

or_false : (a b : Bool) → a ≡ false → (a || b) ≡ b
or_false a b e = ap (λ z. z || b) e

-- a turn looks at the first of what is left, and the last turn leaves nothing
module _ {A : Type 0} (rest : List A → Bool) (xs : List A) (i : ℕ) (total : Bool) (h : rest (drop i xs) ≡ total) where
  cut : (x : A) → i < length xs → x ≡ get_or xs i x → rest (x ∷ drop (i + 1) xs) ≡ total
  cut x within is = sym (at_drop_more rest xs i x within ∙ ap (λ y. rest (y ∷ drop (i + 1) xs)) (sym is)) ∙ h

  goes_on : (x : A) (first : Bool) → i < length xs → x ≡ get_or xs i x → rest (x ∷ drop (i + 1) xs) ≡ (first || rest (drop (i + 1) xs)) →
      first ≡ false → rest (drop (i + 1) xs) ≡ total
  goes_on x first within is splits not_so = sym (or_false first (rest (drop (i + 1) xs)) not_so) ∙ sym splits ∙ cut x within is

  stops : (x : A) (first : Bool) → i < length xs → x ≡ get_or xs i x → rest (x ∷ drop (i + 1) xs) ≡ (first || rest (drop (i + 1) xs)) →
      first ≡ true → true ≡ total
  stops x first within is splits is_so = sym (or_true first (rest (drop (i + 1) xs)) is_so) ∙ sym splits ∙ cut x within is

  ends : length xs ≤ i → rest [] ≡ false → false ≡ total
  ends le none = sym (at_drop_all rest xs i le ∙ none) ∙ h

pub returns_before : (s : Stmt) (more : Stmts) → returns_in (before s more) ≡ (returns s || returns_in more)
returns_before (Block q body end) more = refl
returns_before (Empty q) more = refl
returns_before (Local q k e) more = refl
returns_before (Assign q x e) more = refl
returns_before (If q c s) more = refl
returns_before (IfElse q c s r) more = refl
returns_before (While q n c s) more = refl
returns_before (Do q n s c) more = refl
returns_before (Switch q e gs end) more = refl
returns_before (Break q n) more = refl
returns_before (Continue q n) more = refl
returns_before (Return q e) more = refl
returns_before (Print q e) more = refl
returns_before (Eval q e) more = refl

abbrev in_body : List CoreStmt → Bool
in_body ss = returns_in (stmts_of (map stmt_of ss))

module _ (ss : List CoreStmt) (i : ℕ) (total : Bool) (h : returns_in (stmts_of (map stmt_of (drop i ss))) ≡ total) where
  pub statement_goes : (s : CoreStmt) → i < length ss → s ≡ get_or ss i s → returns (stmt_of s) ≡ false →
      returns_in (stmts_of (map stmt_of (drop (i + 1) ss))) ≡ total
  statement_goes s within is =
      goes_on in_body ss i total h s (returns (stmt_of s)) within is (returns_before (stmt_of s) (stmts_of (map stmt_of (drop (i + 1) ss))))

  pub statement_returns : (s : CoreStmt) → i < length ss → s ≡ get_or ss i s → returns (stmt_of s) ≡ true → true ≡ total
  statement_returns s within is =
      stops in_body ss i total h s (returns (stmt_of s)) within is (returns_before (stmt_of s) (stmts_of (map stmt_of (drop (i + 1) ss))))

  pub statements_end : length ss ≤ i → false ≡ total
  statements_end le = ends in_body ss i total h le refl

pub ruleset statements = (statement_goes, statement_returns, statements_end)

abbrev in_groups : List CoreGroup → Bool
in_groups gs = returns_in_groups (groups_of (map group_of gs))

module _ (gs : List CoreGroup) (i : ℕ) (total : Bool) (h : returns_in_groups (groups_of (map group_of (drop i gs))) ≡ total) where
  splits_group : (g : CoreGroup) → in_groups (g ∷ drop (i + 1) gs) ≡ (in_body (out-CoreGroup g).body.items || in_groups (drop (i + 1) gs))
  splits_group g = ap (λ o. returns_in_groups (groups_of (o ∷ map group_of (drop (i + 1) gs)))) (group_of-is g)

  pub group_goes : (g : CoreGroup) (body : List CoreStmt) (here : Bool) → i < length gs → g ≡ get_or gs i g →
      body ≡ (out-CoreGroup g).body.items → here ≡ returns_in (stmts_of (map stmt_of body)) → here ≡ false →
      returns_in_groups (groups_of (map group_of (drop (i + 1) gs))) ≡ total
  group_goes g body here within is eb e not_so =
      goes_on in_groups gs i total h g (in_body (out-CoreGroup g).body.items) within is (splits_group g) (sym (e ∙ ap in_body eb) ∙ not_so)

  pub group_returns : (g : CoreGroup) (body : List CoreStmt) (here : Bool) → i < length gs → g ≡ get_or gs i g →
      body ≡ (out-CoreGroup g).body.items → here ≡ returns_in (stmts_of (map stmt_of body)) → here ≡ true → true ≡ total
  group_returns g body here within is eb e is_so =
      stops in_groups gs i total h g (in_body (out-CoreGroup g).body.items) within is (splits_group g) (sym (e ∙ ap in_body eb) ∙ is_so)

  pub groups_end : length gs ≤ i → false ≡ total
  groups_end le = ends in_groups gs i total h le refl

pub ruleset groups = (group_goes, group_returns, groups_end)

pub ruleset returning = (common_steps, views)
