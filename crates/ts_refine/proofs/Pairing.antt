-- The pairs that were met: the first, and those of the visits.
use Rattle.std.proofs.Common.{◌≡◌, ℕ, zero, suc, ◌+◌, ◌-◌, ◌^◌, ◌<◌, ◌≤◌, Bool, true, false, List, [], ◌∷◌, ◌++◌, length, get_or, drop, map}
use Rattle.std.proofs.Common.{take, Option, Some, None, if◌then◌else◌, slice_get, refl, sym, ap, subst, ◌∙◌, arith}
use Rattle.std.specs.Prelude.{IfSome}
use Rattle.std.proofs.lemmas.List.{at_drop_more, at_drop_all, take_more, take_all}
use Rattle.std.proofs.lemmas.Option.{slice_get-get_or}
use Rattle.ts_refine.specs.declared.verdict.Pair.{Pair}
use Rattle.ts_refine.specs.declared.search.Visit.{Visit}
use Rattle.ts_refine.specs.inner.Judging.{same_pair, holds}
use Rattle.ts_refine.specs.inner.Keeping.{Met, call_by, met_first, met_of, mets, IsStepAt}
use Rattle.ts_refine.specs.inner.Marking.{number, marked, IsSearch}
use Rattle.ts_refine.proofs.Relating.{some_none}
use Rattle.ts_refine.proofs.Marking.{search-blank, search-kept, marked-is}

pairs-later : (vs : List Visit) → map (λ (m : Met). m.pair) (map met_of vs) ≡ map (λ (v : Visit). v.pair) vs
pairs-later [] = refl
pairs-later (v ∷ vs) = ap (λ (ps : List Pair). v.pair ∷ ps) (pairs-later vs)

pub mets-pairs : (p : Pair) (vs : List Visit) → map (λ (m : Met). m.pair) (mets p vs) ≡ p ∷ map (λ (v : Visit). v.pair) vs
mets-pairs p vs = ap (λ (ps : List Pair). p ∷ ps) (pairs-later vs)

length-later : (vs : List Visit) → length (map met_of vs) ≡ length vs
length-later [] = refl
length-later (v ∷ vs) = ap suc (length-later vs)

push-later : (vs : List Visit) (v : Visit) → map met_of (vs ++ v ∷ []) ≡ map met_of vs ++ met_of v ∷ []
push-later [] v = refl
push-later (w ∷ vs) v = ap (λ (ms : List Met). met_of w ∷ ms) (push-later vs v)

step-later : (vs : List Visit) (i : ℕ) (v : Visit) → i < length vs → v ≡ get_or vs i v → IsStepAt (map met_of vs) i v.step
step-later [] i v lt is = absurd (omega (arith, lt))
step-later (w ∷ vs) zero v lt is = (ap (λ (v : Visit). v.step.parent) (sym is), ap (λ (v : Visit). call_by v.step) (sym is))
step-later (w ∷ vs) (suc i) v lt is = step-later vs i v (omega (arith, lt)) is

pair-later : (vs : List Visit) (i : ℕ) (d : Visit) → i < length vs → slice_get (map (λ (v : Visit). v.pair) vs) i ≡ Some
    (get_or vs i d).pair
pair-later [] i d lt = absurd (omega (arith, lt))
pair-later (v ∷ vs) zero d lt = refl
pair-later (v ∷ vs) (suc i) d lt = pair-later vs i d (omega (arith, lt))

-- ---- with what the program knows
pub begun : (a b : ℕ) (before after : ℕ → Bool) (p : Pair) (vs : List Visit) (o : Option ℕ) → a < 2 ^ 32 → b < 2 ^ 32
    → ((n : ℕ) → before n ≡ false) → o ≡ number a b p → ((k : ℕ) → after k ≡ marked before o k) → vs ≡ [] → IsSearch a b after (mets p vs)
begun a b before after p vs o h k blank of step none =
    search-kept a b before after [] (mets p vs) (met_first p) o (search-blank a b before [] h k blank refl)
    (λ lt. absurd (omega (arith, lt)))
    (ap (λ (vs : List Visit). mets p vs) none) of step

pub kept-view : (p : Pair) (vs news : List Visit) (v : Visit) → news ≡ vs ++ v ∷ [] → mets p news ≡ mets p vs ++ met_of v ∷ []
kept-view p vs news v e = ap (λ (ws : List Visit). mets p ws) e ∙ ap (λ (ms : List Met). met_first p ∷ ms) (push-later vs v)

pub kept-more : (a b : ℕ) (before after : ℕ → Bool) (p : Pair) (vs news : List Visit) (v : Visit) (o : Option ℕ)
    → IsSearch a b before (mets p vs) → v.step.parent < length (mets p vs) → news ≡ vs ++ v ∷ []
    → o ≡ number a b v.pair → ((k : ℕ) → after k ≡ marked before o k) → IsSearch a b after (mets p news)
kept-more a b before after p vs news v o s fine e of step =
    search-kept a b before after (mets p vs) (mets p news) (met_of v) o s (λ some. fine) (kept-view p vs news v e) of step

pub kept-length : (p : Pair) (vs : List Visit) (n : ℕ) → n ≡ length vs → n + 1 ≡ length (mets p vs)
kept-length p vs n is = omega (arith, is, length-later vs)

pub first-pair : (p : Pair) (vs : List Visit) (i : ℕ) → i ≡ 0 → slice_get (map (λ (m : Met). m.pair) (mets p vs)) i ≡ Some p
first-pair p vs i is = ap (λ k. slice_get (map (λ (m : Met). m.pair) (mets p vs)) k) is

pub later-pair : (p : Pair) (vs : List Visit) (i : ℕ) (d : Visit) → 0 < i → i < length (mets p vs)
    → slice_get (map (λ (m : Met). m.pair) (mets p vs)) i ≡ Some (get_or vs (i - 1) d).pair
later-pair p vs zero d some h = absurd (omega (arith, some))
later-pair p vs (suc i) d some h =
    let k : suc i - 1 ≡ i = omega arith in
    ap (λ (ps : List Pair). slice_get ps i) (pairs-later vs)
    ∙ pair-later vs i d (omega (arith, h, length-later vs))
    ∙ ap (λ j. Some (get_or vs j d).pair) (sym k)

pub later-within : (p : Pair) (vs : List Visit) (i : ℕ) → 0 < i → i < length (mets p vs) → i - 1 < length vs
later-within p vs i some h = omega (arith, some, h, length-later vs)

pub kept-step : (p : Pair) (vs : List Visit) (i : ℕ) (v : Visit) → 0 < i → i < length (mets p vs) → v ≡ get_or vs (i - 1) v
    → IsStepAt (mets p vs) i v.step
kept-step p vs zero v some h is = absurd (omega (arith, some))
kept-step p vs (suc i) v some h is =
    let k : suc i - 1 ≡ i = omega arith in
    step-later vs i v (omega (arith, h, length-later vs)) (is ∙ ap (λ j. get_or vs j v) k)

pub kept-earlier : (a b : ℕ) (marks : ℕ → Bool) (p : Pair) (vs : List Visit) (i : ℕ) (v : Visit) → IsSearch a b marks (mets p vs)
    → 0 < i → i < length (mets p vs) → v ≡ get_or vs (i - 1) v → v.step.parent < i
kept-earlier a b marks p vs i v s some h is = go (slice_get (mets p vs) i) refl (kept-step p vs i v some h is) where
  go : (o : Option Met) → slice_get (mets p vs) i ≡ o → IfSome o (λ m. (m.parent ≡ v.step.parent) × (m.call ≡ call_by v.step)) →
      v.step.parent < i
  go None e step = absurd (some_none (get_or (mets p vs) i (met_first p)) (sym (slice_get-get_or (mets p vs) i (met_first p) h) ∙ e))
  go (Some m) e step = subst (λ p. p < i) step.0 (s.rooted.each i m e some)

pub kept-marked : (a b : ℕ) (marks : ℕ → Bool) (p : Pair) (vs : List Visit) (pair : Pair) (o : Option ℕ) (i : ℕ)
    → IsSearch a b marks (mets p vs) → o ≡ number a b pair → o ≡ Some i → marks i ≡ holds (map (λ (m : Met). m.pair) (mets p vs)) pair
kept-marked a b marks p vs pair o i s of some = marked-is a b marks (mets p vs) pair o i s of some

pub held-first : (p : Pair) (vs : List Visit) (pair : Pair) (r : Bool) → r ≡ same_pair p pair → r ≡ true
    → true ≡ holds (map (λ (m : Met). m.pair) (mets p vs)) pair
held-first p vs pair r is e = sym (ap (λ (t : Bool). if t then true else holds (map (λ (m : Met). m.pair) (map met_of vs)) pair)
    (sym is ∙ e))

pub held-later : (p : Pair) (vs : List Visit) (pair : Pair) (r s : Bool) → r ≡ same_pair p pair → r ≡ false
    → s ≡ holds (map (λ (v : Visit). v.pair) vs) pair → s ≡ holds (map (λ (m : Met). m.pair) (mets p vs)) pair
held-later p vs pair r s is e of =
    of ∙ ap (λ (ps : List Pair). holds ps pair) (sym (pairs-later vs))
    ∙ sym (ap (λ (t : Bool). if t then true else holds (map (λ (m : Met). m.pair) (map met_of vs)) pair) (sym is ∙ e))

-- ---- along the visits
pub visits-drop : (vs : List Visit) (i : ℕ) (v : Visit) (wanted : Pair) → i < length vs → v ≡ get_or vs i v
    → holds (map (λ (v : Visit). v.pair) (drop i vs)) wanted ≡
    (if same_pair v.pair wanted then true else holds (map (λ (v : Visit). v.pair) (drop (i + 1) vs)) wanted)
visits-drop vs i v wanted h e =
    at_drop_more (λ ws. holds (map (λ (v : Visit). v.pair) ws) wanted) vs i v h
    ∙ ap (λ (x : Visit). if same_pair x.pair wanted then true else holds (map (λ (v : Visit). v.pair) (drop (i + 1) vs)) wanted) (sym e)

pub visits-past : (vs : List Visit) (i : ℕ) (wanted : Pair) → length vs ≤ i → holds (map (λ (v : Visit). v.pair) (drop i vs)) wanted ≡ false
visits-past vs i wanted h = at_drop_all (λ ws. holds (map (λ (v : Visit). v.pair) ws) wanted) vs i h

push-pairs : (vs : List Visit) (v : Visit) → map (λ (v : Visit). v.pair) (vs ++ v ∷ []) ≡ map (λ (v : Visit). v.pair) vs ++ v.pair ∷ []
push-pairs [] v = refl
push-pairs (w ∷ vs) v = ap (λ (ps : List Pair). w.pair ∷ ps) (push-pairs vs v)

pub taken-more : (p : Pair) (vs : List Visit) (i : ℕ) (v : Visit) (ps : List Pair) → i < length vs → v ≡ get_or vs i v
    → ps ≡ p ∷ map (λ (v : Visit). v.pair) (take i vs) → ps ++ v.pair ∷ [] ≡ p ∷ map (λ (v : Visit). v.pair) (take (i + 1) vs)
taken-more p vs i v ps h is e =
    ap (λ (qs : List Pair). qs ++ v.pair ∷ []) e
    ∙ ap (λ (qs : List Pair). p ∷ qs)
    (sym (ap (map (λ (v : Visit). v.pair)) (take_more vs i v h ∙ ap (λ (w : Visit). take i vs ++ w ∷ []) (sym is)) ∙
    push-pairs (take i vs) v))

pub taken-all : (p : Pair) (vs : List Visit) (i : ℕ) (ps : List Pair) → length vs ≤ i
    → ps ≡ p ∷ map (λ (v : Visit). v.pair) (take i vs) → ps ≡ p ∷ map (λ (v : Visit). v.pair) vs
taken-all p vs i ps h e = e ∙ ap (λ (ws : List Visit). p ∷ map (λ (v : Visit). v.pair) ws) (take_all i vs h)

pub ruleset pairs = (
  taken-more,
  taken-all,
  kept-length,
  first-pair,
  later-pair,
  later-within,
  kept-step,
  kept-earlier,
  kept-marked,
  held-first,
  held-later,
  visits-drop,
  visits-past,
)
