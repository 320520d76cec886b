-- What a turn of a loop over typestates, states and methods adds.
use Rattle.std.proofs.Common.{◌≡◌, ℕ, zero, suc, ◌+◌, ◌<◌, ◌≤◌, Bool, true, false, cond, List, [], ◌∷◌, ◌++◌, length, get_or, drop, map}
use Rattle.std.proofs.Common.{Some, slice_get, is_some, refl, sym, ap, ◌∙◌, subst, arith, add-one, append_assoc, length-append, ◌⊎◌, inl}
use Rattle.std.proofs.Common.{inr, ⊎_elim}
use Rattle.std.proofs.lemmas.List.{at_drop_more, at_drop_all}
use Rattle.std.proofs.lemmas.Option.{slice_get_within}
use Rattle.mg_text.specs.Call.{Name}
use Rattle.mg_sets.specs.Sets.{has, members_from}
use Rattle.ts_tree.specs.Typestate.{Typestate}
use Rattle.ts_tree.specs.Calls.{offered}
use Rattle.ts_tree.specs.Proper.{IsProper}
use Rattle.ts_tree.specs.Reachable.{MarksReachable}
use Rattle.jv_core.specs.declared.program.CoreMethod.{CoreMethod}
use Rattle.jv_core.specs.Tree.{Program}
use Rattle.jv_core.specs.View.{method_of}
use Rattle.use_rules.specs.declared.key.Context.{Context}
use Rattle.use_rules.specs.declared.key.Context.TheVariants as contexts
use Rattle.use_rules.specs.Keys.{AreReached, contexts_of, contexts_from, in_states, offering_states}
use Rattle.use_rules.specs.Keys.{AreProper}
use Rattle.use_elements.proofs.Rests.{append_nil}

-- the states of the first typestates
pub record ReachedSoFar (ts : List Typestate) (reached : List (List Bool)) (i : ℕ) : Type 0 where
  pub as_many : length reached ≡ i
  pub within : i ≤ length ts
  pub each : (n : ℕ) (t : Typestate) (s : List Bool) → slice_get ts n ≡ Some t → slice_get reached n ≡ Some s → MarksReachable t s
  pub proper : (n : ℕ) (t : Typestate) → n < i → slice_get ts n ≡ Some t → IsProper t.states

pub reached_none : (ts : List Typestate) → ReachedSoFar ts [] 0
reached_none ts = record {
  as_many = refl;
  within = omega arith;
  each = λ n t s e h. absurd (none n s h);
  proper =
      λ n t lt e. (let no : ⊥ = omega (arith, lt) in absurd no);
}
  where
    none : (n : ℕ) (s : List Bool) → slice_get [] n ≡ Some s → ⊥
    none n s h = cc

pushed : (xs : List (List Bool)) (x : List Bool) (n : ℕ) (s : List Bool) → slice_get (xs ++ x ∷ []) n ≡ Some s → (slice_get xs n ≡ Some s)
    ⊎ ((n ≡ length xs) × (x ≡ s))
pushed [] x zero s h = inr (refl, (let e : x ≡ s = cc in e))
pushed [] x (suc n) s h = let no : ⊥ = cc in absurd no
pushed (y ∷ xs) x zero s h = inl h
pushed (y ∷ xs) x (suc n) s h = ⊎_elim inl (λ r. inr (ap suc r.0, r.1)) (pushed xs x n s h)

same_item : (ts : List Typestate) (i : ℕ) (t u : Typestate) → t ≡ get_or ts i t → slice_get ts i ≡ Some u → t ≡ u
same_item [] i t u e h = let no : ⊥ = cc in absurd no
same_item (x ∷ ts) zero t u e h = let k : x ≡ u = cc in e ∙ k
same_item (x ∷ ts) (suc i) t u e h = same_item ts i t u e h

pub last_or_before : (n i : ℕ) → n < i + 1 → (n < i) ⊎ (n ≡ i)
last_or_before zero zero h = inr refl
last_or_before zero (suc i) h = inl (omega arith)
last_or_before (suc n) zero h = let no : ⊥ = omega (arith, h) in absurd no
last_or_before (suc n) (suc i) h = ⊎_elim (λ l. inl (let lt : n < i = l in omega (arith, lt))) (λ e. inr (ap suc e))
    (last_or_before n i (omega (arith, h)))

pub reached_more : (ts : List Typestate) (reached reached' : List (List Bool)) (i : ℕ) (t : Typestate) (s : List Bool) →
    ReachedSoFar ts reached i → i < length ts →
    t ≡ get_or ts i t → IsProper t.states → MarksReachable t s → reached' ≡ reached ++ s ∷ [] → ReachedSoFar ts reached' (i + 1)
reached_more ts reached reached' i t s r lt at ok m e = record {
  as_many = ap length e ∙ length-append reached (s ∷ []) ∙ ap (λ n. n + 1) r.as_many;
  within = omega (arith, lt);
  each = λ n u v h g. ⊎_elim (r.each n u v h) (λ w.
      subst (λ x. MarksReachable u x) w.1
      (subst (λ x. MarksReachable x s) (same_item ts i t u at (sym (ap (slice_get ts) (w.0 ∙ r.as_many)) ∙ h)) m))
      (pushed reached s n v (sym (ap (λ x. slice_get x n) e) ∙ g));
  proper = λ n u below h. ⊎_elim (λ l. r.proper n u l h) (λ w.
      subst (λ x. IsProper x.states) (same_item ts i t u at (sym (ap (slice_get ts) w) ∙ h)) ok) (last_or_before n i below);
}

pub reached_all : (p : Program) (ts : List Typestate) (reached : List (List Bool)) (i : ℕ) → ReachedSoFar ts reached i → length ts ≤ i →
    ts ≡ p.typestates → AreReached p reached
reached_all p ts reached i r e h = record {
  as_many = r.as_many ∙ (let k : i ≡ length ts = omega (arith, r.within) in k) ∙ ap length h;
  each = λ n t s g. r.each n t s (ap (λ x. slice_get x n) h ∙ g);
}

pub all_proper : (p : Program) (ts : List Typestate) (reached : List (List Bool)) (i : ℕ) → ReachedSoFar ts reached i → length ts ≤ i →
    ts ≡ p.typestates → AreProper p
all_proper p ts reached i r e h = record {
  each = λ n t g. let at = ap (λ x. slice_get x n) h ∙ g in r.proper n t (let lt = slice_get_within ts n t at in omega (arith, lt, e)) at;
}

pub ruleset reached = (reached_none, reached_more, reached_all)

-- Method by method.

pub method_next : (p : Program) (reached : List (List Bool)) (ms : List CoreMethod) (i : ℕ) (m : CoreMethod) (cs cs' total : List Context) →
    i < length ms → m ≡ get_or ms i m →
    cs' ≡ cs ++ contexts_of p reached i (method_of m) →
    cs ++ contexts_from p reached i (map method_of (drop i ms)) ≡ total → cs' ++ contexts_from p reached (i + 1)
    (map method_of (drop (i + 1) ms)) ≡ total
method_next p reached ms i m cs cs' total lt at e h =
    ap (λ n. cs' ++ contexts_from p reached n (map method_of (drop (i + 1) ms))) (add-one i)
    ∙ ap (λ x. x ++ contexts_from p reached (suc i) (map method_of (drop (i + 1) ms))) e
    ∙ append_assoc cs (contexts_of p reached i (method_of m)) (contexts_from p reached (suc i) (map method_of (drop (i + 1) ms)))
    ∙ ap (λ x. cs ++ x) (sym (at_drop_more (λ (xs : List CoreMethod). contexts_from p reached i (map method_of xs)) ms i m lt
    ∙ ap (λ (x : CoreMethod). contexts_from p reached i (map method_of (x ∷ drop (i + 1) ms))) (sym at))) ∙ h

pub methods_end : (p : Program) (reached : List (List Bool)) (ms : List CoreMethod) (i : ℕ) (cs total : List Context) → length ms ≤ i →
    cs ++ contexts_from p reached i (map method_of (drop i ms)) ≡ total → cs ≡ total
methods_end p reached ms i cs total le h =
    sym (ap (λ x. cs ++ x) (at_drop_all (λ (xs : List CoreMethod). contexts_from p reached i (map method_of xs)) ms i le) ∙ append_nil cs) ∙
    h

pub ruleset methods = (method_next, methods_end)
