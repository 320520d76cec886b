-- The first demand that fails: found context by context, and none where some tables solve the program.
use Rattle.std.proofs.Common.{◌≡◌, ℕ, ◌+◌, ◌<◌, ◌≤◌, List, [], ◌∷◌, ◌++◌, length, get_or, drop, Some, None, slice_get, flat_map, Contains}
use Rattle.std.proofs.Common.{refl, sym, ap, subst, ◌∙◌}
use Rattle.std.proofs.lemmas.List.{at_drop_more, at_drop_all, get_or_default}
use Rattle.jv_core.specs.Tree.{Program}
use Rattle.use_rules.specs.declared.demand.Demand.{Demand}
use Rattle.use_rules.specs.declared.demand.DemandKind.{DemandKind}
use Rattle.use_rules.specs.declared.demand.DemandKind.TheVariants as demands
use Rattle.use_flow.specs.declared.held.Tables as held
use Rattle.use_flow.specs.declared.out.Flow as kept_flow
use Rattle.use_rules.specs.declared.key.Context.{Context}
use Rattle.use_rules.specs.declared.key.Context.TheVariants.{Plain}
use Rattle.use_rules.specs.State.{Log}
use Rattle.use_rules.specs.Tables.{flow_of, all_failed, Solves, Least}
use Rattle.use_flow.specs.View.{tables_of, reached_of, contexts_of, log_of, AreFor}
use Rattle.use_rules.proofs.Laws.{least_solve}
use Rattle.use_flow.proofs.Reached.{reached_same}
use Rattle.use_verdict.specs.declared.verdict.CheckFault.TheVariants as faults
use Rattle.use_verdict.specs.Verdict.{AreAnswer, IsAccepted, FailsFirst}
use Rattle.use_verdict.specs.Faults.{IsFault, fault_of}

none_some : {A : Type 0} (x : A) → None ≡ Some x → ⊥
none_some x h = cc

pub none_first : {A : Type 0} (xs : List A) → None ≡ slice_get xs 0 → xs ≡ []
none_first [] h = refl
none_first (x ∷ xs) h = absurd (none_some x h)

first_of : {A : Type 0} (xs ys : List A) (x : A) → Some x ≡ slice_get xs 0 → Some x ≡ slice_get (xs ++ ys) 0
first_of [] ys x h = absurd (none_some x (sym h))
first_of (y ∷ xs) ys x h = h

module _ {X A : Type 0} (f : X → List A) (all : List A) (cs : List X) (d : X) where
  -- an item gives nothing: the first of all is that of the rest
  pub rest_none : (i : ℕ) → i < length cs → f (get_or cs i d) ≡ [] → all ≡ flat_map f (drop i cs) → all ≡ flat_map f (drop (i + 1) cs)
  rest_none i lt e h = h ∙ at_drop_more (flat_map f) cs i d lt ∙ ap (λ xs. xs ++ flat_map f (drop (i + 1) cs)) e

  pub rest_first : (i : ℕ) (x : A) → i < length cs → Some x ≡ slice_get (f (get_or cs i d)) 0 → all ≡ flat_map f (drop i cs) →
      Some x ≡ slice_get all 0
  rest_first i x lt e h =
      first_of (f (get_or cs i d)) (flat_map f (drop (i + 1) cs)) x e ∙ ap (λ xs. slice_get xs 0)
      (sym (h ∙ at_drop_more (flat_map f) cs i d lt))

  pub rest_end : (i : ℕ) → length cs ≤ i → all ≡ flat_map f (drop i cs) → None ≡ slice_get all 0
  rest_end i past h = ap (λ xs. slice_get xs 0) (sym (h ∙ at_drop_all (flat_map f) cs i past))

module _ (p : Program) where
  pub is_answer : (t : held.Tables) → AreFor p t → Least p (reached_of t) (tables_of t) →
      None ≡ slice_get (all_failed p (reached_of t) (tables_of t)) 0 → AreAnswer p t
  is_answer t made least h = record {
    made = made;
    least = least;
    solves = record { closed = least.closed; none_fails = none_first (all_failed p (reached_of t) (tables_of t)) h };
  }

  fails_first : (t : held.Tables) (d : Demand) → AreFor p t → Least p (reached_of t) (tables_of t) →
      Some d ≡ slice_get (all_failed p (reached_of t) (tables_of t)) 0 → FailsFirst p d
  fails_first t d made least h = record { reached = reached_of t; are = made.reached; tables = tables_of t; least = least; first = sym h }

  kind_fault : (d : Demand) (k : DemandKind) → d.kind ≡ k → FailsFirst p d → IsFault p (elim k [
    | demands.UseMoved ↦ faults.UseMoved d
    | demands.MaybeNull ↦ faults.MaybeNull d
    | demands.NotOffered ↦ faults.NotOffered d
    | demands.LeftOpen ↦ faults.LeftOpen d
    | demands.Overwritten ↦ faults.Overwritten d
    | demands.FieldOpenAtEnd ↦ faults.FieldOpenAtEnd d
  ])
  kind_fault d demands.UseMoved e f = record { first = f; kind_is = e }
  kind_fault d demands.MaybeNull e f = record { first = f; kind_is = e }
  kind_fault d demands.NotOffered e f = record { first = f; kind_is = e }
  kind_fault d demands.LeftOpen e f = record { first = f; kind_is = e }
  kind_fault d demands.Overwritten e f = record { first = f; kind_is = e }
  kind_fault d demands.FieldOpenAtEnd e f = record { first = f; kind_is = e }

  pub is_fault : (t : held.Tables) (d : Demand) → AreFor p t → Least p (reached_of t) (tables_of t) →
      Some d ≡ slice_get (all_failed p (reached_of t) (tables_of t)) 0 → IsFault p (fault_of d)
  is_fault t d made least h = kind_fault d d.kind refl (fails_first t d made least h)

  -- where some tables solve the program, no demand fails under the least ones
  pub none_fails : (t : held.Tables) (d : Demand) → AreFor p t → Least p (reached_of t) (tables_of t) →
      Some d ≡ slice_get (all_failed p (reached_of t) (tables_of t)) 0 → IsAccepted p → ⊥
  none_fails t d made least h a =
      let same : a.reached ≡ reached_of t = reached_same p a.reached (reached_of t) a.are made.reached in
      let s : Solves p (reached_of t) a.tables = subst (λ r. Solves p r a.tables) same a.solves in
      none_some d (sym (h ∙ ap (λ xs. slice_get xs 0) (least_solve p (reached_of t) (tables_of t) a.tables least s).none_fails))

  -- Context by context.

  module _ (t : held.Tables) (cs : List Context) where
    abbrev failed_in : Context → List Demand
    failed_in c = (flow_of p (reached_of t) (tables_of t) c).failed

    abbrev all : List Demand
    all = all_failed p (reached_of t) (tables_of t)

    pub all_rest : AreFor p t → cs ≡ contexts_of t → all ≡ flat_map failed_in (drop 0 cs)
    all_rest made known = ap (flat_map failed_in) (sym (known ∙ made.contexts))

    pub passed_over : (i : ℕ) (f : kept_flow.Flow) → i < length cs → log_of f ≡ flow_of p (reached_of t) (tables_of t)
        (get_or cs i (Plain 0)) → None ≡ slice_get f.failed.items 0 →
        all ≡ flat_map failed_in (drop i cs) → all ≡ flat_map failed_in (drop (i + 1) cs)
    passed_over i f lt e none h = rest_none failed_in all cs (Plain 0) i lt (ap (λ (l : Log). l.failed) (sym e) ∙ none_first f.failed.items
        none) h

    pub first_here : (i : ℕ) (f : kept_flow.Flow) (d : Demand) → i < length cs → log_of f ≡ flow_of p (reached_of t) (tables_of t)
        (get_or cs i (Plain 0)) → Some d ≡ slice_get f.failed.items 0 →
        all ≡ flat_map failed_in (drop i cs) → Some d ≡ slice_get all 0
    first_here i f d lt e first h = rest_first failed_in all cs (Plain 0) i d lt (first ∙ ap (λ (l : Log). slice_get l.failed 0) e) h

    pub none_left : (i : ℕ) → length cs ≤ i → all ≡ flat_map failed_in (drop i cs) → None ≡ slice_get all 0
    none_left i past h = rest_end failed_in all cs (Plain 0) i past h

pub is_there : (t : held.Tables) (cs : List Context) (i : ℕ) → cs ≡ contexts_of t → i < length cs →
    Contains (contexts_of t) (get_or cs i (Plain 0))
is_there t cs i e lt = subst (λ xs. Contains xs (get_or cs i (Plain 0))) e (i, lt, get_or_default cs i (get_or cs i (Plain 0)) (Plain 0) lt)
