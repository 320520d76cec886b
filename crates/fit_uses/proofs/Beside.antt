-- The making in the body of a method, statement by statement.
use Rattle.std.proofs.Common.{◌≡◌, ℕ, Bool, true, false, ◌+◌, ◌<◌, ◌≤◌, List, ◌∷◌, ◌++◌, length, get_or, drop, map, refl, sym, ap, ◌∙◌}
use Rattle.std.proofs.Common.{Option, Some, None, append_assoc}
use Rattle.std.specs.Prelude.{option_map, unwrap_or, if◌then◌else◌}
use Rattle.std.specs.Option.{is_some}
use Rattle.std.proofs.lemmas.List.{at_drop_more, at_drop_all, append-nil}
use Rattle.std.proofs.lemmas.Grind.{common_steps}
use Rattle.jv_core.specs.declared.tree.CoreStmt.{CoreStmt}
use Rattle.jv_core.specs.Tree.{Stmt, Block, Empty, Local, Assign, If, IfElse, While, Do, Switch, Break, Continue, Return, Print, Eval}
use Rattle.jv_core.specs.Tree.{Stmts}
use Rattle.jv_core.specs.View.{stmt_of, stmts_of, before}
use Rattle.jv_core.proofs.ViewLaws.{views}
use Rattle.fit_uses.specs.declared.usage.Use.{Use}
use Rattle.fit_uses.specs.Uses.{uses_in, uses_in_all, returns, uses_beside_making, is_new_of}
use Rattle.fit_uses.specs.inner.Making.{makes}
use Rattle.fit_uses.proofs.Using.{used_before}

-- the uses in front, and those that are found behind
abbrev pub behind : List Use → Option (List Use) → Option (List Use)
behind uses found = option_map (λ more. uses ++ more) found

module _ (class : ℕ) (more : Stmts) where
  abbrev Beside : Stmt → Option (List Use)
  Beside s = uses_beside_making class (before s more)

  made_or : (b : Bool) (x y : Option (List Use)) → b ≡ true → (if b then x else y) ≡ x
  made_or b x y e = ap (λ z. if z then x else y) e

  unmade_or : (b : Bool) (x y : Option (List Use)) → b ≡ false → (if b then x else y) ≡ y
  unmade_or b x y e = ap (λ z. if z then x else y) e

  beside_making : (s : Stmt) → makes class s ≡ true → Beside s ≡ Some (uses_in_all more)
  beside_making (Block q body end) e = absurd cc
  beside_making (Empty q) e = absurd cc
  beside_making (Local q k x) e = made_or (is_new_of class x) _ _ e
  beside_making (Assign q x v) e = absurd cc
  beside_making (If q c s) e = absurd cc
  beside_making (IfElse q c s r) e = absurd cc
  beside_making (While q n c s) e = absurd cc
  beside_making (Do q n s c) e = absurd cc
  beside_making (Switch q x gs end) e = absurd cc
  beside_making (Break q n) e = absurd cc
  beside_making (Continue q n) e = absurd cc
  beside_making (Return q x) e = absurd cc
  beside_making (Print q x) e = absurd cc
  beside_making (Eval q x) e = absurd cc

  -- of a statement that is no making
  beside_other : (s : Stmt) → makes class s ≡ false →
      Beside s ≡ (if returns s then None else behind (uses_in s) (uses_beside_making class more))
  beside_other (Block q body end) e = refl
  beside_other (Empty q) e = refl
  beside_other (Local q k x) e = unmade_or (is_new_of class x) _ _ e
  beside_other (Assign q x v) e = refl
  beside_other (If q c s) e = refl
  beside_other (IfElse q c s r) e = refl
  beside_other (While q n c s) e = refl
  beside_other (Do q n s c) e = refl
  beside_other (Switch q x gs end) e = refl
  beside_other (Break q n) e = refl
  beside_other (Continue q n) e = refl
  beside_other (Return q x) e = refl
  beside_other (Print q x) e = refl
  beside_other (Eval q x) e = refl

abbrev pub beside_in : (class : ℕ) → List CoreStmt → Option (List Use)
beside_in class ss = uses_beside_making class (stmts_of (map stmt_of ss))

abbrev pub all_in : List CoreStmt → List Use
all_in ss = uses_in_all (stmts_of (map stmt_of ss))

-- the uses beside the making, or all where there is none
abbrev pub others : Option (List Use) → List Use → List Use
others found all = unwrap_or found all

others_behind : (us all : List Use) (found : Option (List Use)) → others (behind us found) (us ++ all) ≡ us ++ others found all
others_behind us all None = refl
others_behind us all (Some uses) = refl

some_behind : (us : List Use) (found : Option (List Use)) → is_some (behind us found) ≡ is_some found
some_behind us None = refl
some_behind us (Some uses) = refl

-- the statement at an index, in front of those behind it
module _ (class : ℕ) (ss : List CoreStmt) (i : ℕ) (s : CoreStmt) (within : i < length ss) (is : s ≡ get_or ss i s) where
  abbrev more : Stmts
  more = stmts_of (map stmt_of (drop (i + 1) ss))

  cut : beside_in class (drop i ss) ≡ uses_beside_making class (before (stmt_of s) more)
  cut = at_drop_more (beside_in class) ss i s within ∙ ap (λ y. beside_in class (y ∷ drop (i + 1) ss)) (sym is)

  cut_all : all_in (drop i ss) ≡ uses_in (stmt_of s) ++ all_in (drop (i + 1) ss)
  cut_all =
      at_drop_more all_in ss i s within ∙ ap (λ y. all_in (y ∷ drop (i + 1) ss)) (sym is) ∙ used_before (stmt_of s) more

  here : makes class (stmt_of s) ≡ true → beside_in class (drop i ss) ≡ Some (all_in (drop (i + 1) ss))
  here made = cut ∙ beside_making class more (stmt_of s) made

  left : makes class (stmt_of s) ≡ false → returns (stmt_of s) ≡ true → beside_in class (drop i ss) ≡ None
  left unmade jumps = cut ∙ beside_other class more (stmt_of s) unmade ∙ made_or class more (returns (stmt_of s)) None _ jumps

  onward : makes class (stmt_of s) ≡ false → returns (stmt_of s) ≡ false →
      beside_in class (drop i ss) ≡ behind (uses_in (stmt_of s)) (beside_in class (drop (i + 1) ss))
  onward unmade stays =
      cut ∙ beside_other class more (stmt_of s) unmade ∙ unmade_or class more (returns (stmt_of s)) None _ stays

-- ---- the uses that are appended

module _ (class : ℕ) (ss : List CoreStmt) (i : ℕ) (us total : List Use)
    (h : us ++ unwrap_or (beside_in class (drop i ss)) (all_in (drop i ss)) ≡ total) where
  pub adding_ends : length ss ≤ i → us ≡ total
  adding_ends le =
      sym (append-nil us)
      ∙ ap (λ z. us ++ z)
      (sym (at_drop_all (λ (z : List CoreStmt). unwrap_or (beside_in class z) (all_in z)) ss i le)) ∙ h

  module _ (s : CoreStmt) (within : i < length ss) (is : s ≡ get_or ss i s) where
    pub adding_made : makes class (stmt_of s) ≡ true → (new : List Use) (rest : List CoreStmt) → rest ≡ drop (i + 1) ss →
        new ≡ us ++ all_in rest → new ≡ total
    adding_made made new rest r e =
        e ∙ ap (λ z. us ++ all_in z) r
        ∙ ap (λ z. us ++ z) (sym (ap (λ z. unwrap_or z (all_in (drop i ss))) (here class ss i s within is made))) ∙ h

    pub adding_left : makes class (stmt_of s) ≡ false → returns (stmt_of s) ≡ true → (new : List Use) (rest : List CoreStmt) →
        rest ≡ drop i ss → new ≡ us ++ all_in rest → new ≡ total
    adding_left unmade jumps new rest r e =
        e ∙ ap (λ z. us ++ all_in z) r
        ∙ ap (λ z. us ++ z) (sym (ap (λ z. unwrap_or z (all_in (drop i ss))) (left class ss i s within is unmade jumps))) ∙ h

    pub adding_goes : makes class (stmt_of s) ≡ false → returns (stmt_of s) ≡ false → (new : List Use) →
        new ≡ us ++ uses_in (stmt_of s) →
        new ++ unwrap_or (beside_in class (drop (i + 1) ss)) (all_in (drop (i + 1) ss)) ≡ total
    adding_goes unmade stays new e =
        let found = beside_in class (drop (i + 1) ss) in let all = all_in (drop (i + 1) ss) in
        ap (λ z. z ++ unwrap_or found all) e ∙ append_assoc us (uses_in (stmt_of s)) (unwrap_or found all)
        ∙ ap (λ z. us ++ z) (sym (ap (λ z. unwrap_or z (all_in (drop i ss))) (onward class ss i s within is unmade stays)
        ∙ ap (λ z. unwrap_or (behind (uses_in (stmt_of s)) found) z) (cut_all class ss i s within is)
        ∙ others_behind (uses_in (stmt_of s)) all found))
        ∙ h

pub ruleset adding = (adding_ends, adding_made, adding_left, adding_goes)

-- ---- whether there is a making

module _ (class : ℕ) (ss : List CoreStmt) (i : ℕ) (total : Bool) (h : is_some (beside_in class (drop i ss)) ≡ total) where
  pub finding_ends : length ss ≤ i → false ≡ total
  finding_ends le = sym (at_drop_all (λ (z : List CoreStmt). is_some (beside_in class z)) ss i le) ∙ h

  module _ (s : CoreStmt) (within : i < length ss) (is : s ≡ get_or ss i s) where
    pub finding_made : makes class (stmt_of s) ≡ true → true ≡ total
    finding_made made = sym (ap is_some (here class ss i s within is made)) ∙ h

    pub finding_left : makes class (stmt_of s) ≡ false → returns (stmt_of s) ≡ true → false ≡ total
    finding_left unmade jumps = sym (ap is_some (left class ss i s within is unmade jumps)) ∙ h

    pub finding_goes : makes class (stmt_of s) ≡ false → returns (stmt_of s) ≡ false → is_some (beside_in class (drop (i + 1) ss)) ≡ total
    finding_goes unmade stays =
        sym (some_behind (uses_in (stmt_of s)) (beside_in class (drop (i + 1) ss)))
        ∙ sym (ap is_some (onward class ss i s within is unmade stays)) ∙ h

pub ruleset finding = (finding_ends, finding_made, finding_left, finding_goes)

pub ruleset forms = (common_steps, views)
