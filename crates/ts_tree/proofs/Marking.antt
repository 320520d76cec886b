-- A walk from the initial state marks the states that calls lead to, and no others.
use Rattle.std.proofs.Common.{◌≡◌, ℕ, ◌<◌, Bool, true, false, List, [], ◌∷◌, ◌++◌, length, fold, Some, option_and_then, slice_get, refl}
use Rattle.std.proofs.Common.{sym, ap, subst, ◌∙◌, arith, inl, inr, ◌⊎◌, length-append, replicate, zero, suc}
use Rattle.std.specs.Prelude.{Contains}
use Rattle.std.specs.List.{AllByRecursion}
use Rattle.std.proofs.lemmas.Bool.{both_ways}
use Rattle.std.proofs.lemmas.List.{length-replicate}
use Rattle.std.proofs.lemmas.Option.{none-some, option_and_then_some}
use Rattle.std.proofs.lemmas.List.Elements.{Contains-append_left, Contains-push, Contains-push_cases}
use Rattle.mg_sets.specs.Sets.{has}
use Rattle.mg_text.specs.Call.{Call}
use Rattle.ts_tree.specs.declared.parts.To.{To}
use Rattle.ts_tree.specs.declared.parts.To.TheVariants as tos
use Rattle.ts_tree.specs.Typestate.{State, Typestate}
use Rattle.ts_tree.specs.Calls.{initial, next_from, led, Fits}
use Rattle.ts_tree.specs.Proper.{IsProper, IsWithin}
use Rattle.ts_tree.specs.Reachable.{IsReachable, MarksReachable}
use Rattle.ts_tree.specs.inner.Visiting.{Walked, visited, targets_in}
use Rattle.ts_tree.proofs.Leading.{here, first_or_behind, LeadsTo, leads-sound, leads-complete, targets_within}
use Rattle.ts_tree.proofs.Visiting.{Visits, visits_one, visits_all, left}

-- ---- paths
some_is : (x y : To) → Some x ≡ Some y → x ≡ y
some_is x y h = cc

led-push : (t : Typestate) (from : To) (calls : List Call) (call : Call) (mid to : To) → led t from calls ≡ Some mid →
    next_from t mid call ≡ Some to → led t from (calls ++ call ∷ []) ≡ Some to
led-push t from [] call mid to h goes = ap (λ x. option_and_then (λ y. Some y) (next_from t x call)) (some_is from mid h) ∙
    ap (option_and_then (λ y. Some y)) goes
led-push t from (c ∷ calls) call mid to h goes =
    option_and_then_some (λ x. led t x calls) (next_from t from c) mid h
    (λ x is rest. ap (option_and_then (λ y. led t y (calls ++ call ∷ []))) is ∙ led-push t x calls call mid to rest goes)

all-push : (t : Typestate) (calls : List Call) (call : Call) → AllByRecursion (Fits t) calls → Fits t call →
    AllByRecursion (Fits t) (calls ++ call ∷ [])
all-push t [] call all fits = (fits, tt)
all-push t (c ∷ calls) call all fits = (all.0, all-push t calls call all.1 fits)

-- one call more
pub reachable_more : (t : Typestate) (p q : ℕ) → IsReachable t p → LeadsTo t p (tos.State q) → IsReachable t q
reachable_more t p q r l = record {
  calls = r.calls ++ l.call ∷ [];
  path = record {
    fit = all-push t r.calls l.call r.path.fit l.fits;
    to = tos.State q;
    leads = led-push t (initial t) r.calls l.call (tos.State p) (tos.State q) (r.path.leads ∙ ap Some r.there) l.goes;
    offers = tt;
  };
  there = refl;
}

-- ---- the walk
visits_turn : (t : Typestate) → IsProper t.states → (marked : List Bool) (waiting : List ℕ) (p : ℕ) (s : State) →
    slice_get t.states p ≡ Some s → length marked ≡ length t.states →
    Visits (targets_in s.methods) (record { marked = marked; waiting = waiting })
    (fold visited (record { marked = marked; waiting = waiting }) (targets_in s.methods))
visits_turn t proper marked waiting p s at wide =
    visits_all (targets_in s.methods) (record { marked = marked; waiting = waiting })
    (λ to h. subst (λ n. IsWithin n to) (sym wide) (targets_within t proper p s at to h))

-- what holds of a walk at each moment
pub record Marking (t : Typestate) (w : Walked) : Type 0 where
  pub wide : length w.marked ≡ length t.states
  pub only : (q : ℕ) → has w.marked q ≡ true → IsReachable t q
  pub marks : (q : ℕ) → Contains w.waiting q → has w.marked q ≡ true
  pub starts : (q : ℕ) → initial t ≡ tos.State q → has w.marked q ≡ true
  -- a marked state waits, or each state that one call leads to is marked
  pub passed : (p q : ℕ) → has w.marked p ≡ true → LeadsTo t p (tos.State q) → Contains w.waiting p ⊎ (has w.marked q ≡ true)

no_end : (t : Typestate) (q : ℕ) (calls : List Call) → led t tos.End calls ≡ Some (tos.State q) → ⊥
no_end t q [] e = cc
no_end t q (c ∷ calls) e = none-some (tos.State q) e

-- with nothing waiting, what calls lead to is marked
goes_on : (t : Typestate) (marked : List Bool) → Marking t (record { marked = marked; waiting = [] }) → (calls : List Call) (p q : ℕ) →
    has marked p ≡ true → AllByRecursion (Fits t) calls → led t (tos.State p) calls ≡ Some (tos.State q) → has marked q ≡ true
goes_on t marked m [] p q h fit leads = subst (λ k. has marked k ≡ true) (same_state leads) h where
  same_state : Some (tos.State p) ≡ Some (tos.State q) → p ≡ q
  same_state e = cc
goes_on t marked m (call ∷ calls) p q h fit leads =
    option_and_then_some (λ x. led t x calls) (next_from t (tos.State p) call) (tos.State q) leads
    (λ to. from_there (λ k there rest. goes_on t marked m calls k q there fit.1 rest) to) where
      from_there : ((k : ℕ) → has marked k ≡ true → led t (tos.State k) calls ≡ Some (tos.State q) → has marked q ≡ true) → (to : To) →
          next_from t (tos.State p) call ≡ Some to → led t to calls ≡ Some (tos.State q) → has marked q ≡ true
      from_there more (tos.State k) goes rest =
          elim (m.passed p k h (record { call = call; fits = fit.0; goes = goes })) [
            | inl none ↦ absurd (omega (arith, none.1))
            | inr there ↦ more k there rest
          ]
      from_there more tos.End goes rest = absurd (no_end t q calls rest)

pub marking_all : (t : Typestate) (marked : List Bool) → Marking t (record { marked = marked; waiting = [] }) → MarksReachable t marked
marking_all t marked m = record {
  wide = m.wide;
  only = m.only;
  all = λ q r. from_start (initial t) refl q r;
} where
  from_start : (to : To) → initial t ≡ to → (q : ℕ) → IsReachable t q → has marked q ≡ true
  from_start (tos.State p) is q r = goes_on t marked m r.calls p q (m.starts p is) r.path.fit (ap (λ x. led t x r.calls) (sym is) ∙
      r.path.leads ∙ ap Some r.there)
  from_start tos.End is q r = absurd (no_end t q r.calls (ap (λ x. led t x r.calls) (sym is) ∙ r.path.leads ∙ ap Some r.there))

-- one state's turn is over
pub marking_turn : (t : Typestate) → IsProper t.states → (marked : List Bool) (waiting : List ℕ) (p : ℕ) (s : State) →
    slice_get t.states p ≡ Some s → Marking t (record { marked = marked; waiting = waiting ++ p ∷ [] }) →
    Marking t (fold visited (record { marked = marked; waiting = waiting }) (targets_in s.methods))
marking_turn t proper marked waiting p s at m =
    let v = visits_turn t proper marked waiting p s at m.wide in
    record {
      wide = v.wide ∙ m.wide;
      only = λ q h. elim (v.only q h) [
        | inl old ↦ m.only q old
        | inr target ↦ reachable_more t p q
            (m.only p (m.marks p (Contains-push waiting p))) (leads-complete t proper p s at (tos.State q) target)
      ];
      marks = λ q h. elim (v.marks q h) [
        | inl old ↦ v.keeps q (m.marks q (Contains-append_left waiting (p ∷ []) q old))
        | inr marked ↦ marked
      ];
      starts = λ q e. v.keeps q (m.starts q e);
      passed = λ k q h l. elim (v.waits k h) [
        | inr waits ↦ inl waits
        | inl old ↦ elim (m.passed k q old l) [
          | inr marked ↦ inr (v.keeps q marked)
          | inl waits ↦ elim (Contains-push_cases waiting p k waits) [
            | inl older ↦ inl (v.stays k older)
            | inr is ↦ inr (v.all q (leads-sound t proper p s at (tos.State q) (subst (λ x. LeadsTo t x (tos.State q)) (sym is) l)))
          ]
        ]
      ];
    }

-- each turn leaves less to do
pub left_turn : (t : Typestate) → IsProper t.states → (marked : List Bool) (waiting : List ℕ) (p : ℕ) (s : State) →
    slice_get t.states p ≡ Some s → length marked ≡ length t.states →
    left (fold visited (record { marked = marked; waiting = waiting }) (targets_in s.methods)) < left
    (record { marked = marked; waiting = waiting ++ p ∷ [] })
left_turn t proper marked waiting p s at wide =
    let v = visits_turn t proper marked waiting p s at wide in
    omega (arith, v.same_left, length-append waiting (p ∷ []))

-- ---- the beginning
has-none : (n q : ℕ) → has (replicate n false) q ≡ false
has-none zero q = refl
has-none (suc n) zero = refl
has-none (suc n) (suc q) = has-none n q

pub initial_within : (t : Typestate) → IsWithin (length t.states) (initial t)
initial_within t = go t.states where
  go : (states : List State) → IsWithin (length states) (elim states [ [] ↦ tos.End | s ∷ ss ↦ tos.State 0 ])
  go [] = tt
  go (s ∷ ss) = omega arith

-- the initial state is marked and waits
pub marking_first : (t : Typestate) → Marking t (visited (record { marked = replicate (length t.states) false; waiting = [] }) (initial t))
marking_first t =
    let v = visits_one (initial t) (record { marked = replicate (length t.states) false; waiting = [] })
    (subst (λ n. IsWithin n (initial t)) (sym (length-replicate (length t.states) false)) (initial_within t)) in
    record {
      wide = v.wide ∙ length-replicate (length t.states) false;
      only = λ q h. elim (v.only q h) [ inl old ↦ absurd (both_ways _ (has-none (length t.states) q) old) | inr at ↦ at_start q at ];
      marks = λ q h. elim (v.marks q h) [ inl none ↦ absurd (omega (arith, none.1)) | inr marked ↦ marked ];
      starts = λ q e. v.all q (subst (Contains (initial t ∷ [])) e (here (initial t) []));
      passed = λ p q h l. elim (v.waits p h) [ inl old ↦ absurd (both_ways _ (has-none (length t.states) p) old) | inr waits ↦ inl waits ];
    } where
      at_start : (q : ℕ) → Contains (initial t ∷ []) (tos.State q) → IsReachable t q
      at_start q h =
          elim (first_or_behind (initial t) [] (tos.State q) h) [
            | inl e ↦ record { calls = []; path = record { fit = tt; to = initial t; leads = refl; offers = tt }; there = e }
            | inr none ↦ absurd (omega (arith, none.1))
          ]
