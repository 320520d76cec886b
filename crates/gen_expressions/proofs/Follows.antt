-- What is written stands in the final code, where each label has its last place: one lemma for each way to put steps together.
use Rattle.std.proofs.Common.{◌≡◌, ◌<◌, ◌≤◌, ℕ, zero, suc, List, [], ◌∷◌, ◌++◌, length, Some}
use Rattle.std.proofs.Common.{refl, sym, ap, ◌∙◌, subst, arith, length-append, slice_get, option_map}
use Rattle.std.proofs.lemmas.List.{get_or_append_left, get_or_push, get_or-set_same, get_or-set_other, length-set}
use Rattle.gen_rules.specs.Symbolic.{Instr}
use Rattle.gen_rules.specs.Spans.{Span, nothing, ◌then◌ as ◌before◌, one}
use Rattle.gen_expressions.specs.Aimed.{place_of, aimed}
use Rattle.gen_expressions.specs.Drafting.{Draft, Step, skip, ◌then◌, emit, next_label, with_label, with_label_here, placed, ahead}
use Rattle.gen_expressions.specs.Drafting.{behind}

-- what was written stays, and labels keep their places
pub record Grows (d e : Draft) : Type 0 where
  pub code : length d.code ≤ length e.code
  pub same : (i : ℕ) → i < length d.code → slice_get e.code i ≡ slice_get d.code i
  pub labels : length d.labels ≤ length e.labels
  pub kept : (l : ℕ) → l < length d.labels → place_of e.labels l ≡ place_of d.labels l

pub grows_none : (d : Draft) → Grows d d
grows_none d = record { code = omega arith; same = λ i h. refl; labels = omega arith; kept = λ l h. refl }

pub grows_more : (d e f : Draft) → Grows d e → Grows e f → Grows d f
grows_more d e f g h = record {
  code = omega (arith, g.code, h.code);
  same = λ i lt. h.same i (omega (arith, lt, g.code)) ∙ g.same i lt;
  labels = omega (arith, g.labels, h.labels);
  kept = λ l lt. h.kept l (omega (arith, lt, g.labels)) ∙ g.kept l lt;
}

slice_get-front : {X : Type 0} (xs ys : List X) (i : ℕ) → i < length xs → slice_get (xs ++ ys) i ≡ slice_get xs i
slice_get-front [] ys i h = absurd (no-less i h)
  where
    no-less : (i : ℕ) → i < 0 → ⊥
    no-less i h = omega (arith, h)
slice_get-front (x ∷ xs) ys zero h = refl
slice_get-front (x ∷ xs) ys (suc i) h = slice_get-front xs ys i (omega (arith, h))

slice_get-last : {X : Type 0} (xs : List X) (y : X) → slice_get (xs ++ y ∷ []) (length xs) ≡ Some y
slice_get-last [] y = refl
slice_get-last (x ∷ xs) y = slice_get-last xs y

-- one more label
pub grows_label : (d : Draft) (place : ℕ) → Grows d (with_label place d)
unfolding with_label
grows_label d place = record {
  code = omega arith;
  same = λ i h. refl;
  labels = (let n = length-append d.labels (place ∷ []) in omega (arith, n));
  kept = λ l h. get_or_append_left d.labels (place ∷ []) 0 l h;
}

pub grows_here : (d : Draft) → Grows d (with_label_here d)
unfolding with_label_here
grows_here d = record {
  code = omega arith;
  same = λ i h. refl;
  labels = (let n = length-append d.labels (length d.code ∷ []) in omega (arith, n));
  kept = λ l h. get_or_append_left d.labels (length d.code ∷ []) 0 l h;
}

-- a label that is new gets its place
pub grows_placed : (d e : Draft) (l : ℕ) → length d.labels ≤ l → Grows d e → Grows d (placed l e)
unfolding placed
grows_placed d e l new g = record {
  code = g.code;
  same = g.same;
  labels = (let n = length-set e.labels l (length e.code) in omega (arith, n, g.labels));
  kept = λ k lt. get_or-set_other e.labels l k (length e.code) 0 (λ same. absurd (apart k lt same)) ∙ g.kept k lt;
}
  where
    apart : (k : ℕ) → k < length d.labels → k ≡ l → ⊥
    apart k lt same = omega (arith, lt, same, new)

-- the code from one draft on to another is final, where the labels have these places
pub record Final (final : List Instr) (ls : List ℕ) (d e : Draft) : Type 0 where
  pub code : (i : ℕ) → length d.code ≤ i → i < length e.code → slice_get final i ≡ option_map (aimed ls) (slice_get e.code i)
  pub labels : (l : ℕ) → length d.labels ≤ l → l < length e.labels → place_of ls l ≡ place_of e.labels l

module _ (final : List Instr) (ls : List ℕ) where
  pub final_first : (d e f : Draft) → Grows e f → Final final ls d f → Final final ls d e
  final_first d e f g h = record {
    code = λ i low high. h.code i low (omega (arith, high, g.code)) ∙ ap (option_map (aimed ls)) (g.same i high);
    labels = λ l low high. h.labels l low (omega (arith, high, g.labels)) ∙ g.kept l high;
  }

  pub final_rest : (d e f : Draft) → Grows d e → Final final ls d f → Final final ls e f
  final_rest d e f g h = record {
    code = λ i low high. h.code i (omega (arith, low, g.code)) high;
    labels = λ l low high. h.labels l (omega (arith, low, g.labels)) high;
  }

  -- A step writes what stands for a relation between the place at which it begins and the one behind it.
  pub record Follows (f : Step) (R : Span) : Type 0 where
    pub grows : (d : Draft) → Grows d (f d)
    pub holds : (d : Draft) → Final final ls d (f d) → R (length d.code) (length (f d).code)

  pub follows_as : (f : Step) (R S : Span) → ((from to : ℕ) → R from to → S from to) → Follows f R → Follows f S
  follows_as f R S h s = record { grows = s.grows; holds = λ d e. h _ _ (s.holds d e) }

  pub follows_skip : Follows skip nothing
  follows_skip = record { grows = grows_none; holds = λ d h. refl }

  pub follows_emit : (i j : Instr) → aimed ls i ≡ j → Follows (emit i) (one final j)
  unfolding emit
  follows_emit i j is = record {
    grows = λ d. record {
      code = (let n = length-append d.code (i ∷ []) in omega (arith, n));
      same = λ k h. slice_get-front d.code (i ∷ []) k h;
      labels = omega arith;
      kept = λ l h. refl;
    };
    holds = λ d h.
        let n = length-append d.code (i ∷ []) in (
          h.code (length d.code) (omega arith) (omega (arith, n)) ∙ ap (option_map (aimed ls)) (slice_get-last d.code i) ∙ ap Some is,
          omega (arith, n),
        );
  }

  pub follows_then : (f g : Step) (R S : Span) → Follows f R → Follows g S → Follows (f then g) (R before S)
  follows_then f g R S a b = record {
    grows = λ d. grows_more d (f d) (g (f d)) (a.grows d) (b.grows (f d));
    holds = λ d h. (
      length (f d).code,
      a.holds d (final_first d (f d) (g (f d)) (b.grows (f d)) h),
      b.holds (f d) (final_rest d (f d) (g (f d)) (a.grows d) h),
    );
  }

  -- the new label of a draft
  label_new : (d : Draft) (place : ℕ) → length (with_label place d).labels ≡ suc (next_label d)
  unfolding with_label next_label
  label_new d place = length-append d.labels (place ∷ []) ∙ omega arith

  module _ (d e : Draft) (grown : Grows (with_label 0 d) e) (h : Final final ls d (placed (next_label d) e)) where
    within : next_label d < length e.labels
    within = let n = label_new d 0 in omega (arith, n, grown.labels)

    label_there : place_of ls (next_label d) ≡ length (placed (next_label d) e).code
    unfolding placed next_label
    label_there =
        let n = length-set e.labels (length d.labels) (length e.code) in
        h.labels (length d.labels) (omega arith) (omega (arith, n, within)) ∙ get_or-set_same e.labels (length d.labels) (length e.code) 0
        within

    final_inside : Final final ls (with_label 0 d) e
    unfolding placed next_label with_label
    final_inside = record {
      code = h.code;
      labels = λ l low high.
          let n = length-set e.labels (length d.labels) (length e.code) in
          let m = length-append d.labels (0 ∷ []) in
          h.labels l (omega (arith, low, m)) (omega (arith, high, n))
          ∙ get_or-set_other e.labels (length d.labels) l (length e.code) 0 (λ same. absurd (apart l low same));
    }
      where
        apart : (l : ℕ) → length (d.labels ++ 0 ∷ []) ≤ l → l ≡ length d.labels → ⊥
        apart l low same = let m = length-append d.labels (0 ∷ []) in omega (arith, low, same, m)

  placed_code : (l : ℕ) (e : Draft) → length (placed l e).code ≡ length e.code
  unfolding placed
  placed_code l e = refl

  label_code : (place : ℕ) (d : Draft) → length (with_label place d).code ≡ length d.code
  unfolding with_label
  label_code place d = refl

  here_code : (d : Draft) → length (with_label_here d).code ≡ length d.code
  unfolding with_label_here
  here_code d = refl

  next_is : (d : Draft) → length d.labels ≤ next_label d
  unfolding next_label
  next_is d = omega arith

  -- with a label behind it
  pub follows_ahead : (f : (label : ℕ) → Step) (R : (target : ℕ) → Span) → ((l : ℕ) → Follows (f l) (R (place_of ls l))) →
      Follows (ahead f) (λ from to. R to from to)
  follows_ahead f R s = record {
    grows = λ d.
        let l = next_label d in
        grows_placed d (f l (with_label 0 d)) l (next_is d)
        (grows_more d (with_label 0 d) (f l (with_label 0 d)) (grows_label d 0) ((s l).grows (with_label 0 d)));
    holds = λ d h.
        let l = next_label d in
        let b = with_label 0 d in
        let e = f l b in
        let g = (s l).grows b in
        let r : R (place_of ls l) (length b.code) (length e.code) = (s l).holds b (final_inside d e g h) in
        subst (λ t. R t (length d.code) (length (placed l e).code)) (label_there d e g h)
        (subst (λ k. R (place_of ls l) (length d.code) k) (sym (placed_code l e)) (subst (λ k. R (place_of ls l) k (length e.code))
        (label_code 0 d) r));
  }

  here_label : (d : Draft) → place_of (with_label_here d).labels (next_label d) ≡ length d.code
  unfolding with_label_here next_label
  here_label d = get_or_push d.labels (length d.code) 0 (length d.labels) refl

  here_within : (d : Draft) → next_label d < length (with_label_here d).labels
  unfolding with_label_here next_label
  here_within d = let n = length-append d.labels (length d.code ∷ []) in omega (arith, n)

  -- with a label in front of it
  pub follows_behind : (f : (label : ℕ) → Step) (R : (target : ℕ) → Span) → ((l : ℕ) → Follows (f l) (R (place_of ls l))) →
      Follows (behind f) (λ from to. R from from to)
  follows_behind f R s = record {
    grows = λ d. grows_more d (with_label_here d) (f (next_label d) (with_label_here d)) (grows_here d)
        ((s (next_label d)).grows (with_label_here d));
    holds = λ d h.
        let l = next_label d in
        let b = with_label_here d in
        let e = f l b in
        let g = (s l).grows b in
        let r : R (place_of ls l) (length b.code) (length e.code) = (s l).holds b (final_rest d b e (grows_here d) h) in
        let inside = here_within d in
        let there : place_of ls l ≡ length d.code = h.labels l (next_is d) (omega (arith, inside, g.labels)) ∙ g.kept l inside ∙
        here_label d in
        subst (λ t. R t (length d.code) (length e.code)) there (subst (λ k. R (place_of ls l) k (length e.code)) (here_code d) r);
  }
