-- What is made of the parts of an expression.
use Rattle.std.proofs.Common.{◌≡◌, ◌≢◌, ℕ, zero, suc, ◌+◌, ◌<◌, ◌≤◌, List, [], ◌∷◌, ◌++◌, length, get_or, drop, map, Option, Some, None}
use Rattle.std.proofs.Common.{slice_get, refl, sym, ap, ◌∙◌, arith, add-one, append_assoc}
use Rattle.std.proofs.lemmas.List.{at_drop_more, at_drop_all}
use Rattle.mg_text.specs.declared.place.Place.{Place}
use Rattle.jv_tree.specs.declared.tree.Op.{Op}
use Rattle.jv_tree.specs.declared.tree.Op.TheVariants as ops
use Rattle.jv_core.specs.declared.program.CoreSlot.{CoreSlot}
use Rattle.jv_core.specs.declared.program.CoreType.{CoreType}
use Rattle.jv_core.specs.declared.tree.CoreExpr.{CoreExpr}
use Rattle.jv_core.specs.Tree.{Expr, Binary, Exprs, NoExpr, Method}
use Rattle.jv_core.specs.View.{expr_of, exprs_of}
use Rattle.jv_core.specs.Lookup.{param_types}
use Rattle.jv_core.proofs.ViewLaws.{views}
use Rattle.use_flow.specs.declared.evaluated.Ways.TheVariants as ways
use Rattle.use_flow.specs.declared.evaluated.Value.{Value}
use Rattle.use_flow.specs.declared.evaluated.Arguments.{Arguments}
use Rattle.use_flow.specs.declared.evaluated.CallForm.{CallForm}
use Rattle.use_flow.specs.declared.evaluated.CallForm.TheVariants as forms
use Rattle.use_rules.specs.Elements.{Set, targets}
use Rattle.use_rules.specs.State.{Now, Log, Argued, joined}
use Rattle.use_rules.specs.Flow.{Evaluated, NullTest, null_test, alike}
use Rattle.use_flow.specs.inner.Followed.{Followed, eval, eval_all, width_of}
use Rattle.use_elements.proofs.Rests.{append_nil}
use Rattle.use_flow.specs.inner.Values.{yes_of, no_of, evaluated_of, argued_of, settled, parted, both_ways, both_with, either_with, turned}
use Rattle.use_flow.specs.inner.Values.{behind, null_tested, operands, conjunction, disjunction, called, widths_of}
use Rattle.use_flow.specs.inner.Values.{protocol_call, helper_call, static_call}
use Rattle.use_flow.specs.inner.CallForms.{called_as}

-- what is left from an index on
drop_some : {X : Type 0} (xs : List X) (i : ℕ) (x : X) → Some x ≡ slice_get xs i → drop i xs ≡ x ∷ drop (i + 1) xs
drop_some [] i x e = let no : ⊥ = cc in absurd no
drop_some (y ∷ xs) zero x e = let same : x ≡ y = cc in ap (λ z. z ∷ xs) (sym same)
drop_some (y ∷ xs) (suc i) x e = drop_some xs i x e ∙ (let k : suc (i + 1) ≡ suc i + 1 = omega arith in ap (λ n. x ∷ drop n (y ∷ xs)) k)

drop_none : {X : Type 0} (xs : List X) (i : ℕ) → None ≡ slice_get xs i → drop i xs ≡ []
drop_none [] zero e = refl
drop_none [] (suc i) e = refl
drop_none (y ∷ xs) zero e = let no : ⊥ = cc in absurd no
drop_none (y ∷ xs) (suc i) e = drop_none xs i e

drop_none-next : {X : Type 0} (xs : List X) (i : ℕ) → None ≡ slice_get xs i → drop (i + 1) xs ≡ []
drop_none-next xs i e = rw add-one (go xs i e)
  where
    go : {X : Type 0} (xs : List X) (i : ℕ) → None ≡ slice_get xs i → drop (suc i) xs ≡ []
    go [] i e = refl
    go (y ∷ xs) zero e = let no : ⊥ = cc in absurd no
    go (y ∷ xs) (suc i) e = go xs i e

-- how operands end, where they may be a null test
abbrev ending : Followed → Expr → Expr → List Set → Log → Option NullTest → Evaluated
ending s l r sets log o = elim o as (λ _. Evaluated) [ None ↦ operands s l r sets log | Some n ↦ null_tested s n sets log ]

-- Behind an expression, what the code has is what the rules have.
module _ (t : Evaluated) (la : Log) where
  pub past_is : (a : Value) (n : Now) → evaluated_of a la ≡ t → n ≡ joined (yes_of a.ways) (no_of a.ways) → alike [] n la ≡ settled t
  past_is a n ea en = ap (λ x. alike [] x la) en ∙ ap settled ea

  pub last_is : (v : Value) (n : Now) → v ≡ record { set = []; ways = ways.Alike n } → alike [] n la ≡ settled t →
      evaluated_of v la ≡ settled t
  last_is v n ev e = ap (λ (x : Value). evaluated_of x la) ev ∙ e

  pub ways_are : (a : Value) (y n : Now) → evaluated_of a la ≡ t → y ≡ yes_of a.ways → n ≡ no_of a.ways → parted y n la ≡ both_ways t
  ways_are a y n ea ey en = ap (λ x. parted x n la) ey ∙ ap (λ x. parted (yes_of a.ways) x la) en ∙ ap both_ways ea

  pub opposite_is : (v : Value) (y n : Now) → parted y n la ≡ both_ways t → v ≡ record { set = []; ways = ways.Apart n y } →
      evaluated_of v la ≡ turned t
  opposite_is v y n e ev = ap (λ (x : Value). evaluated_of x la) ev ∙ ap turned e

  pub both_are : (v : Value) (y n f g : Now) → parted y n la ≡ both_ways t → g ≡ joined f n → v ≡ record { set = []; ways = ways.Apart y g }
      →
      evaluated_of v la ≡ both_with f t
  both_are v y n f g e eg ev = ap (λ (x : Value). evaluated_of x la) ev ∙ ap (λ x. parted y x la) eg ∙ ap (both_with f) e

  pub either_is : (v : Value) (y n h g : Now) → parted y n la ≡ both_ways t → g ≡ joined h y →
      v ≡ record { set = []; ways = ways.Apart g n } →
      evaluated_of v la ≡ either_with h t
  either_is v y n h g e eg ev = ap (λ (x : Value). evaluated_of x la) ev ∙ ap (λ x. parted x n la) eg ∙ ap (either_with h) e

module _ (s : Followed) (sets : List Set) (log : Log) where
  pub operands_from : (l r : Expr) (la lv : Log) (v : Value) (n : Now) → alike [] n la ≡ settled (eval s 0 l (Some sets) log) →
      evaluated_of v lv ≡ settled (eval s 0 r n la) → evaluated_of v lv ≡ operands s l r sets log
  operands_from l r la lv v n e ev = ev ∙ ap (λ (x : Evaluated). settled (eval s 0 r x.yes x.log)) e

  pub conjunction_from : (l r : Expr) (la lv : Log) (v : Value) (h f : Now) → parted h f la ≡ both_ways (eval s 0 l (Some sets) log) →
      evaluated_of v lv ≡ both_with f (eval s 0 r h la) → evaluated_of v lv ≡ conjunction s l r sets log
  conjunction_from l r la lv v h f e ev = ev ∙ ap (λ (x : Evaluated). both_with x.no (eval s 0 r x.yes x.log)) e

  pub disjunction_from : (l r : Expr) (la lv : Log) (v : Value) (h f : Now) → parted h f la ≡ both_ways (eval s 0 l (Some sets) log) →
      evaluated_of v lv ≡ either_with h (eval s 0 r f la) → evaluated_of v lv ≡ disjunction s l r sets log
  disjunction_from l r la lv v h f e ev = ev ∙ ap (λ (x : Evaluated). either_with x.yes (eval s 0 r x.no x.log)) e

  -- a comparison that is a null test
  pub binary_tests : (w : ℕ) (q : Place) (op : Op) (l r : Expr) (n : NullTest) → Some n ≡ null_test op l r →
      null_tested s n sets log ≡ eval s w (Binary q op l r) (Some sets) log
  binary_tests w q ops.And l r n e = let no' : ⊥ = cc in absurd no'
  binary_tests w q ops.Or l r n e = let no' : ⊥ = cc in absurd no'
  binary_tests w q ops.Eq l r n e = ap (ending s l r sets log) e
  binary_tests w q ops.Ne l r n e = ap (ending s l r sets log) e
  binary_tests w q ops.Add l r n e = ap (ending s l r sets log) e
  binary_tests w q ops.Sub l r n e = ap (ending s l r sets log) e
  binary_tests w q ops.Mul l r n e = ap (ending s l r sets log) e
  binary_tests w q ops.Div l r n e = ap (ending s l r sets log) e
  binary_tests w q ops.Rem l r n e = ap (ending s l r sets log) e
  binary_tests w q ops.Lt l r n e = ap (ending s l r sets log) e
  binary_tests w q ops.Le l r n e = ap (ending s l r sets log) e
  binary_tests w q ops.Gt l r n e = ap (ending s l r sets log) e
  binary_tests w q ops.Ge l r n e = ap (ending s l r sets log) e

  -- one that isn't
  pub binary_other : (w : ℕ) (q : Place) (op : Op) (l r : Expr) → None ≡ null_test op l r → op ≢ ops.And → op ≢ ops.Or →
      operands s l r sets log ≡ eval s w (Binary q op l r) (Some sets) log
  binary_other w q ops.And l r e a o = absurd (a refl)
  binary_other w q ops.Or l r e a o = absurd (o refl)
  binary_other w q ops.Eq l r e a o = ap (ending s l r sets log) e
  binary_other w q ops.Ne l r e a o = ap (ending s l r sets log) e
  binary_other w q ops.Add l r e a o = refl
  binary_other w q ops.Sub l r e a o = refl
  binary_other w q ops.Mul l r e a o = refl
  binary_other w q ops.Div l r e a o = refl
  binary_other w q ops.Rem l r e a o = refl
  binary_other w q ops.Lt l r e a o = refl
  binary_other w q ops.Le l r e a o = refl
  binary_other w q ops.Gt l r e a o = refl
  binary_other w q ops.Ge l r e a o = refl

  pub behind_is : (args : Exprs) (la : Log) (a : Arguments) (v : Value) → argued_of a la ≡ eval_all s [] args (Some sets) log →
      v ≡ record { set = []; ways = ways.Alike a.now } → evaluated_of v la ≡ behind (eval_all s [] args (Some sets) log)
  behind_is args la a v ea ev = ap (λ (x : Value). evaluated_of x la) ev ∙ ap behind ea

  module _ (n : ℕ) (call : Method → List Set → Now → Log → Evaluated) (args : Exprs) where
    abbrev by : Option Method → Evaluated
    by o =
        let a = eval_all s (elim o as (λ _. List ℕ) [ None ↦ [] | Some k ↦ map (width_of s) (param_types k) ]) args (Some sets) log in
        elim o as (λ _. Evaluated) [ None ↦ alike [] a.now a.log | Some k ↦ call k a.sets a.now a.log ]

    -- there is no such method
    pub uncalled : (lv : Log) (v : Value) → slice_get s.program.methods n ≡ None →
        evaluated_of v lv ≡ behind (eval_all s [] args (Some sets) log) →
        evaluated_of v lv ≡ called s n call (eval_all s (widths_of s n) args (Some sets) log)
    uncalled lv v e ev = ev ∙ ap by (sym e)

    pub called_is : (k : Method) (types : List CoreType) (la lv : Log) (a : Arguments) (v : Value) → slice_get s.program.methods n ≡ Some k
        →
        types ≡ param_types k → argued_of a la ≡ eval_all s (map (width_of s) types) args (Some sets) log →
        evaluated_of v lv ≡ call k a.sets a.now la →
        evaluated_of v lv ≡ called s n call (eval_all s (widths_of s n) args (Some sets) log)
    called_is k types la lv a v e et ea ev =
        ev
        ∙ ap (λ (x : Argued). call k x.sets x.now x.log) (ea ∙ ap (λ tys. eval_all s (map (width_of s) tys) args (Some sets) log) et)
        ∙ ap by (sym e)

-- Arguments, one after another.

abbrev pub rest_argued : Followed → List CoreSlot → List CoreExpr → (i : ℕ) → List Set → Now → Log → Argued
rest_argued s ps es i done now log =
    let a = eval_all s (map (width_of s) (map (λ p. p.ty) (drop i ps))) (exprs_of (map expr_of (drop i es))) now log in
    record { sets = done ++ a.sets; now = a.now; log = a.log }

abbrev next : Evaluated → Argued → Argued
next v a = record { sets = v.set ∷ a.sets; now = a.now; log = a.log }

abbrev before : List Set → Argued → Argued
before done a = record { sets = done ++ a.sets; now = a.now; log = a.log }

-- one more argument, with the width of its parameter
module _ (s : Followed) (ps : List CoreSlot) (es : List CoreExpr) (i : ℕ) (e : CoreExpr) (lt : i < length es) (at : e ≡ get_or es i e)
    (now : Now) (log : Log) where
  rest_here : (w : ℕ) (ws : List ℕ) → map (width_of s) (map (λ p. p.ty) (drop i ps)) ≡ w ∷ ws →
      eval_all s (map (width_of s) (map (λ p. p.ty) (drop i ps))) (exprs_of (map expr_of (drop i es))) now log
      ≡ (let v = eval s w (expr_of e) now log in next v (eval_all s ws (exprs_of (map expr_of (drop (i + 1) es))) (joined v.yes v.no)
      v.log))
  rest_here w ws h =
      ap (λ us. eval_all s us (exprs_of (map expr_of (drop i es))) now log) h
      ∙ at_drop_more (λ (xs : List CoreExpr). eval_all s (w ∷ ws) (exprs_of (map expr_of xs)) now log) es i e lt
      ∙ ap (λ (x : CoreExpr). eval_all s (w ∷ ws) (exprs_of (map expr_of (x ∷ drop (i + 1) es))) now log) (sym at)

  rest_past : map (width_of s) (map (λ p. p.ty) (drop i ps)) ≡ [] →
      eval_all s (map (width_of s) (map (λ p. p.ty) (drop i ps))) (exprs_of (map expr_of (drop i es))) now log
      ≡ (let v = eval s 0 (expr_of e) now log in next v (eval_all s [] (exprs_of (map expr_of (drop (i + 1) es))) (joined v.yes v.no)
      v.log))
  rest_past h =
      ap (λ us. eval_all s us (exprs_of (map expr_of (drop i es))) now log) h
      ∙ at_drop_more (λ (xs : List CoreExpr). eval_all s [] (exprs_of (map expr_of xs)) now log) es i e lt
      ∙ ap (λ (x : CoreExpr). eval_all s [] (exprs_of (map expr_of (x ∷ drop (i + 1) es))) now log) (sym at)

  -- what the code has behind an argument is what the rules have
  step_from : (w : ℕ) (ws : List ℕ) (done done' : List Set) (la : Log) (v : Value) (n : Now) (total : Argued) →
      eval_all s (map (width_of s) (map (λ p. p.ty) (drop i ps))) (exprs_of (map expr_of (drop i es))) now log
      ≡ (let v = eval s w (expr_of e) now log in next v (eval_all s ws (exprs_of (map expr_of (drop (i + 1) es))) (joined v.yes v.no)
      v.log)) →
      map (width_of s) (map (λ p. p.ty) (drop (i + 1) ps)) ≡ ws →
      evaluated_of v la ≡ eval s w (expr_of e) now log → n ≡ joined (yes_of v.ways) (no_of v.ways) → done' ≡ done ++ v.set ∷ [] →
      rest_argued s ps es i done now log ≡ total → rest_argued s ps es (i + 1) done' n la ≡ total
  step_from w ws done done' la v n total here more ev en ed h =
      ap (λ us. before done' (eval_all s us (exprs_of (map expr_of (drop (i + 1) es))) n la)) more
      ∙ ap (λ x. before x (eval_all s ws (exprs_of (map expr_of (drop (i + 1) es))) n la)) ed
      ∙ ap (λ x. before (done ++ v.set ∷ []) (eval_all s ws (exprs_of (map expr_of (drop (i + 1) es))) x la)) en
      ∙ (let a = eval_all s ws (exprs_of (map expr_of (drop (i + 1) es))) (joined (yes_of v.ways) (no_of v.ways)) la in
      ap (λ (x : List Set). record { sets = x; now = a.now; log = a.log }) (append_assoc done (v.set ∷ []) a.sets))
      ∙ ap (λ (x : Evaluated). before done (next x (eval_all s ws (exprs_of (map expr_of (drop (i + 1) es))) (joined x.yes x.no) x.log))) ev
      ∙ ap (before done) (sym here) ∙ h

  pub argument_with : (p : CoreSlot) (done done' : List Set) (la : Log) (v : Value) (n : Now) (total : Argued) → Some p ≡ slice_get ps i →
      evaluated_of v la ≡ eval s (width_of s p.ty) (expr_of e) now log → n ≡ joined (yes_of v.ways) (no_of v.ways) →
      done' ≡ done ++ v.set ∷ [] →
      rest_argued s ps es i done now log ≡ total → rest_argued s ps es (i + 1) done' n la ≡ total
  argument_with p done done' la v n total there ev en ed h =
      step_from (width_of s p.ty) (map (width_of s) (map (λ p. p.ty) (drop (i + 1) ps))) done done' la v n total
      (rest_here (width_of s p.ty) (map (width_of s) (map (λ p. p.ty) (drop (i + 1) ps)))
      (ap (λ (xs : List CoreSlot). map (width_of s) (map (λ p. p.ty) xs)) (drop_some ps i p there)))
      refl ev en ed h

  pub argument_without : (done done' : List Set) (la : Log) (v : Value) (n : Now) (total : Argued) → None ≡ slice_get ps i →
      evaluated_of v la ≡ eval s 0 (expr_of e) now log → n ≡ joined (yes_of v.ways) (no_of v.ways) → done' ≡ done ++ v.set ∷ [] →
      rest_argued s ps es i done now log ≡ total → rest_argued s ps es (i + 1) done' n la ≡ total
  argument_without done done' la v n total none ev en ed h =
      step_from 0 [] done done' la v n total
      (rest_past (ap (λ (xs : List CoreSlot). map (width_of s) (map (λ p. p.ty) xs)) (drop_none ps i none)))
      (ap (λ (xs : List CoreSlot). map (width_of s) (map (λ p. p.ty) xs)) (drop_none-next ps i none)) ev en ed h

no_exprs : (s : Followed) (ws : List ℕ) (now : Now) (log : Log) → eval_all s ws NoExpr now log ≡ record { sets = []; now = now; log = log }
no_exprs s [] now log = refl
no_exprs s (w ∷ ws) now log = refl

pub argued_end : (s : Followed) (ps : List CoreSlot) (es : List CoreExpr) (i : ℕ) (done : List Set) (now : Now) (log : Log) (total : Argued)
    → length es ≤ i →
    rest_argued s ps es i done now log ≡ total → record { sets = done; now = now; log = log } ≡ total
argued_end s ps es i done now log total le h =
    sym (ap (before done) (at_drop_all (λ (xs : List CoreExpr). eval_all s (map (width_of s) (map (λ p. p.ty) (drop i ps)))
    (exprs_of (map expr_of xs)) now log) es i le
    ∙ no_exprs s (map (width_of s) (map (λ p. p.ty) (drop i ps))) now log)
    ∙ ap (λ (x : List Set). record { sets = x; now = now; log = log }) (append_nil done)) ∙ h

-- where there is no such method
pub uncalled_as : (s : Followed) (f : CallForm) (n : ℕ) (args : Exprs) (sets : List Set) (log lv : Log) (v : Value) →
    slice_get s.program.methods n ≡ None → evaluated_of v lv ≡ behind (eval_all s [] args (Some sets) log) →
    evaluated_of v lv ≡ called_as s f n args sets log
uncalled_as s (forms.Protocol x) n args sets log lv v e ev = uncalled s sets log n (protocol_call s targets x n) args lv v e ev
uncalled_as s forms.Helper n args sets log lv v e ev = uncalled s sets log n (helper_call s n) args lv v e ev
uncalled_as s forms.Static n args sets log lv v e ev = uncalled s sets log n (static_call s n) args lv v e ev

pub ruleset following = (views, binary_tests, binary_other, operands_from, conjunction_from, disjunction_from)

pub ruleset calls = (behind_is, uncalled_as)

pub ruleset arguments = (argument_with, argument_without, argued_end)
