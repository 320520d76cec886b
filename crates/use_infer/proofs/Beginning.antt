-- Where the work begins, all contexts wait; where none waits, the tables are the least.
use Rattle.std.proofs.Common.{◌≡◌, ℕ, zero, suc, ◌+◌, ◌<◌, ◌≤◌, Bool, true, false, List, [], length, replicate, get_or, Option, Some, None}
use Rattle.std.proofs.Common.{slice_get, refl, sym, ap, subst, ◌∙◌, arith}
use Rattle.std.proofs.lemmas.Bool.{false≢true}
use Rattle.std.proofs.lemmas.Option.{slice_get-get_or, slice_get_within}
use Rattle.mg_sets.specs.Sets.{has, missing}
use Rattle.mg_sets.proofs.SetLaws.{member-below}
use Rattle.jv_core.specs.Tree.{Program}
use Rattle.use_rules.specs.declared.key.Context.{Context}
use Rattle.use_rules.specs.declared.key.Context.TheVariants as contexts
use Rattle.use_rules.specs.declared.key.TableKey.{TableKey}
use Rattle.use_rules.specs.Keys.{Tables, AreReached, contexts_in}
use Rattle.use_rules.specs.Tables.{Least}
use Rattle.use_rules.specs.Start.{start_in, start_of}
use Rattle.use_rules.specs.Shapes.{class_at, elements_in}
use Rattle.use_rules.proofs.Starting.{in_length}
use Rattle.use_flow.specs.declared.held.Tables as held
use Rattle.use_flow.specs.View.{tables_of, reached_of, contexts_of, AreFor}
use Rattle.use_flow.proofs.Reached.{reached_same}
use Rattle.use_infer.specs.Bound.{width_at, costs, once, keys_read, most_follows}
use Rattle.use_infer.specs.inner.Widths.{widths_read}
use Rattle.use_infer.specs.inner.Waiting.{left, Waiting}
use Rattle.use_infer.proofs.Taking.{start_below, least_of}
use Rattle.use_infer.proofs.Counting.{widths_most}
use Rattle.use_infer.proofs.Waiting.{potential_most, missing_most}

all_length : (n : ℕ) → length (replicate n true) ≡ n
all_length zero = refl
all_length (suc n) = ap suc (all_length n)

all_set : (n i : ℕ) → i < n → has (replicate n true) i ≡ true
all_set zero i lt = absurd (omega (arith, lt))
all_set (suc n) zero lt = refl
all_set (suc n) (suc i) lt = all_set n i (omega (arith, lt))

module _ (p : Program) where
  -- all contexts wait
  pub all_wait : (t : held.Tables) (due : List Bool) (n : ℕ) (cs : List Context) → AreFor p t →
      ((key : TableKey) → tables_of t key ≡ start_of p (reached_of t) key) → cs ≡ contexts_of t → n ≡ length cs → due ≡ replicate n true →
      Waiting p t due
  all_wait t due n cs made start known many e = record {
    below = start_below p t made start;
    wide = ap length e ∙ all_length n ∙ many ∙ ap length known;
    settled = λ i c at low. absurd (false≢true (sym low ∙ ap (λ s. has s i) e ∙ all_set n i
        (let a : i < length (contexts_of t) = slice_get_within (contexts_of t) i c at in
        let b : length cs ≡ length (contexts_of t) = ap length known in omega (arith, a, b, many))));
  }

  start_width : (reached : List (List Bool)) (key : TableKey) → length (start_of p reached key) ≡ width_at p reached key
  start_width reached key = go (class_at p reached key)
    where
      go : (v : Option ℕ) → length (elim v as (λ _. List Bool) [ None ↦ [] | Some d ↦ start_in p key d ]) ≡ elim v as (λ _. ℕ)
          [ None ↦ 0 | Some d ↦ elements_in p d ]
      go None = refl
      go (Some d) = in_length p reached key d

  -- how many times contexts are followed at most
  pub left_most : (t : held.Tables) (due : List Bool) → AreFor p t → ((key : TableKey) → tables_of t key ≡ start_of p (reached_of t) key) →
      (reached : List (List Bool)) → AreReached p reached → left p t due ≤ most_follows p reached
  left_most t due made start reached are =
      subst (λ r. left p t due ≤ most_follows p r) (reached_same p (reached_of t) reached made.reached are)
      (let a : left p t due ≤ length (contexts_in p (reached_of t)) + widths_read p (reached_of t) (contexts_in p (reached_of t)) =
      subst (λ cs. left p t due ≤ length cs + widths_read p (reached_of t) cs) made.contexts
      (potential_most p (reached_of t) (tables_of t) due 0 (contexts_of t) narrow) in
      let b : widths_read p (reached_of t) (contexts_in p (reached_of t)) ≤ costs p (reached_of t) (contexts_in p (reached_of t))
      (once (keys_read p (reached_of t) (contexts_in p (reached_of t)))) =
      widths_most p (reached_of t) (contexts_in p (reached_of t)) in omega (arith, a, b))
    where
      narrow : (key : TableKey) → missing (tables_of t key) ≤ width_at p (reached_of t) key
      narrow key =
          let a : missing (tables_of t key) ≤ length (tables_of t key) = missing_most (tables_of t key) in
          let b : length (tables_of t key) ≡ width_at p (reached_of t) key = ap length (start key) ∙ start_width (reached_of t) key in omega
          (arith, a, b)

  pub bound_at : (a b : ℕ) (t : held.Tables) (due : List Bool) → AreFor p t →
      ((key : TableKey) → tables_of t key ≡ start_of p (reached_of t) key) → b ≤ a + left p t due → (reached : List (List Bool)) →
      AreReached p reached → b ≤ a + most_follows p reached
  bound_at a b t due made start h reached are = let m : left p t due ≤ most_follows p reached = left_most t due made start reached are in
      omega (arith, h, m)

  -- none waits
  pub none_waits : (t : held.Tables) (due : List Bool) → Waiting p t due → ((i : ℕ) → has due i ≡ false) →
      Least p (reached_of t) (tables_of t)
  none_waits t due w none = least_of p t (contexts_of t) w.below refl
      (record { each = λ c h. w.settled h.0 c (slice_get-get_or (contexts_of t) h.0 c h.1 ∙ ap Some h.2) (none h.0) })

  -- one that waits is there
  pub due_within : (t : held.Tables) (due : List Bool) (cs : List Context) (n : ℕ) → Waiting p t due → cs ≡ contexts_of t → has due n ≡ true
      → n < length cs
  due_within t due cs n w known is =
      let a : n < length due = member-below due n is in
      let b : length due ≡ length (contexts_of t) = w.wide in
      let d : length cs ≡ length (contexts_of t) = ap length known in omega (arith, a, b, d)

  pub due_at : (t : held.Tables) (due : List Bool) (cs : List Context) (n : ℕ) → Waiting p t due → cs ≡ contexts_of t → has due n ≡ true →
      slice_get (contexts_of t) n ≡ Some (get_or cs n (contexts.Plain 0))
  due_at t due cs n w known is = ap (λ xs. slice_get xs n) (sym known) ∙ slice_get-get_or cs n (contexts.Plain 0)
      (due_within t due cs n w known is)
