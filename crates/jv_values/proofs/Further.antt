-- More budget changes nothing of what has ended, and only adds events to what has not: the relation goes on through every combinator.
use Rattle.std.proofs.Common.{◌≡◌, ◌≢◌, ℕ, zero, suc, Bool, true, false, List, [], ◌∷◌, ◌++◌, drop, Option, Some, None, refl, sym, ap, ◌∙◌}
use Rattle.std.proofs.Common.{subst, ⊎_elim, inl, inr, append_assoc}
use Rattle.mg_text.specs.declared.event.Event.{Event}
use Rattle.jv_values.specs.Values.{Value, Row, Shared, Lives, Here, Method, Finish, Done, More, Wrong, bound}
use Rattle.jv_values.specs.Doing.{Outcome, Gives, Ends, Run, and_then, ◌>>=◌, give, stop, found, within, kept, declared, uncovered}
use Rattle.jv_values.specs.Statements.{Completion, Normal, Breaks, Continues, Returns, Does, assigned}
use Rattle.jv_values.specs.Calls.{returned, result, body_from, suits, called}
use Rattle.jv_values.specs.Budget.{Language, below, ended, ran}
use Rattle.jv_values.specs.Alike.{Closed, Shares, Alike, Meet, Completes, FurtherEnd, seen, Prefix}
use Rattle.jv_values.specs.Further.{Onward, Further, FurtherShared, FurtherLives, FurtherCall, FurtherDoes, FurtherBelow, IsMonotone}
use Rattle.jv_values.specs.Further.{BudgetLaw}
use Rattle.jv_values.proofs.Combine.{if_alike}
use Rattle.jv_values.proofs.Expressions.{Tells, tells, found_same, then_same}

same_events : (a : List Event) → Prefix a a
same_events a = record { later = []; is = sym (append_nil a) }
  where
    append_nil : (a : List Event) → a ++ [] ≡ a
    append_nil [] = refl
    append_nil (x ∷ a) = ap (λ b. x ∷ b) (append_nil a)

then_events : {a b c : List Event} → Prefix a b → Prefix b c → Prefix a c
then_events {a} p q = record { later = p.later ++ q.later; is = q.is ∙ ap (λ b. b ++ q.later) p.is ∙ append_assoc a p.later q.later }

module _ {S : Type 0} (of : S → List Event) where
  onward_seen : {A A' : Type 0} (V : A → A' → Type 0) (from : List Event) (o : Outcome S A') → Onward of V from o → Prefix from
      (seen of o)
  onward_seen V from (Gives b t) w = w.0
  onward_seen V from (Ends f es) w = w

  onward_then : {A A' B B' : Type 0} (V : A → A' → Type 0) (W : B → B' → Type 0) (from : List Event) (o : Outcome S A') (f : A → Run S B)
      (g : A' → Run S B') →
      Onward of V from o → ((a : A) (b : A') → V a b → Further of B B' W (f a) (g b)) → Onward of W from (and_then o g)
  onward_then {B} {B'} V W from (Gives b t) f g w k = go (g b t) ((k w.1.0 b w.1.1).on t)
    where
      go : (o : Outcome S B') → Onward of W (of t) o → Onward of W from o
      go (Gives x u) v = (then_events w.0 v.0, v.1)
      go (Ends e es) v = then_events w.0 v
  onward_then V W from (Ends e es) f g w k = w

  further_give : {A A' : Type 0} {V : A → A' → Type 0} {a : A} {b : A'} → V a b → Further of A A' V (give a) (give b)
  further_give {a} v = record { by = λ s. (v, refl); on = λ s. (same_events (of s), (a, v)) }

  further_then : {A A' B B' : Type 0} (V : A → A' → Type 0) (W : B → B' → Type 0) (from : List Event) (o : Outcome S A) (p : Outcome S A')
      (f : A → Run S B) (g : A' → Run S B') →
      Alike ◌≡◌ V (FurtherEnd of) o p → Onward of V from p → ((a : A) (b : A') → V a b → Further of B B' W (f a) (g b)) →
      Alike ◌≡◌ W (FurtherEnd of) (and_then o f) (and_then p g)
  further_then V W from (Gives a s) (Gives b t) f g r w k = subst (λ u. Alike ◌≡◌ W (FurtherEnd of) (f a s) (g b u)) r.1
      ((k a b r.0).by s)
  further_then V W from (Gives a s) (Ends e es) f g r w k = absurd r
  further_then {A' = A'} V W from (Ends e es) p f g r w k =
      ⊎_elim (λ same. inl (ap (λ o. and_then o g) same)) (λ m. inr (m.0, then_events m.1 (after p w))) r
    where
      after : (p : Outcome S A') → Onward of V from p → Prefix (seen of p) (seen of (and_then p g))
      after (Gives b t) w = onward_seen W (of t) (g b t) ((k w.1.0 b w.1.1).on t)
      after (Ends e' es') w = same_events es'

  further_bind : {A A' B B' : Type 0} {V : A → A' → Type 0} {W : B → B' → Type 0} {m : Run S A} {n : Run S A'} {f : A → Run S B} {g : A' →
      Run S B'} →
      Further of A A' V m n → ((a : A) (b : A') → V a b → Further of B B' W (f a) (g b)) → Further of B B' W (m >>= f) (n >>= g)
  further_bind {V} {W} {m} {n} {f} {g} h k = record {
    by = λ s. further_then V W (of s) (m s) (n s) f g (h.by s) (h.on s) k;
    on = λ s. onward_then V W (of s) (n s) f g (h.on s) k;
  }

  pub further_closed : Closed (Further of)
  further_closed = record { give = further_give; bind = further_bind }

  -- where the budget is spent, all further events are allowed
  spent : {A A' : Type 0} {V : A → A' → Type 0} {m : Run S A} {n : Run S A'} → Further of A A' V m n → Further of A A' V
      (λ s. Ends More (of s)) n
  spent {V} {n} h = record { by = λ s. inr (refl, onward_seen V (of s) (n s) (h.on s)); on = h.on }

-- Expressions.

halted : {A A' : Type 0} {V : A → A' → Type 0} (f : Finish) → FurtherShared A A' V (stop f) (stop f)
halted f = record { by = λ s. inl refl; on = λ s. same_events s.events }

pub further_shares : Shares FurtherShared
further_shares = record {
  closed = further_closed (λ s. s.events);
  stop = halted;
  note = λ e. record { by = λ s. (refl, refl); on = λ s. (record { later = e ∷ []; is = refl }, (tt, refl)) };
  happened = record { by = λ s. (refl, refl); on = λ s. (same_events s.events, (s.events, refl)) };
  objects = record { by = λ s. (refl, refl); on = λ s. (same_events s.events, (s.heap, refl)) };
  with_objects = λ heap. record { by = λ s. (refl, refl); on = λ s. (same_events s.events, (tt, refl)) };
}

pub further_tells : Tells FurtherShared
further_tells = tells further_shares

-- Statements.

module _ {K : Type 0} where
  abbrev of : Lives K → List Event
  of s = s.shared.events

  pub lives_closed : Closed (FurtherLives K)
  lives_closed = further_closed of

  pub within_further : {A A' : Type 0} {V : A → A' → Type 0} {e : Row K → Run Shared A} {e' : Row K → Run Shared A'} →
      ((r : Row K) → FurtherShared A A' V (e r) (e' r)) → FurtherLives K A A' V (within e) (within e')
  within_further {A} {A'} {V} {e} {e'} h = record {
    by = λ s. go s.locals (e s.locals s.shared) (e' s.locals s.shared) ((h s.locals).by s.shared);
    on = λ s. onward s.locals s.shared.events (e' s.locals s.shared) ((h s.locals).on s.shared);
  }
    where
      same_seen : (r : Row K) (p : Outcome Shared A') → seen of (kept r p) ≡ seen (λ s. s.events) p
      same_seen r (Gives b t) = refl
      same_seen r (Ends f es) = refl

      go : (r : Row K) (o : Outcome Shared A) (p : Outcome Shared A') → Alike ◌≡◌ V (FurtherEnd (λ s. s.events)) o p →
          Alike ◌≡◌ V (FurtherEnd of) (kept r o) (kept r p)
      go r (Gives a s) (Gives b t) w = (w.0, ap (λ u. record { locals = r; shared = u }) w.1)
      go r (Gives a s) (Ends f es) w = absurd w
      go r (Ends f es) p w = ⊎_elim (λ same. inl (ap (kept r) same)) (λ m. inr (m.0, subst (Prefix es) (sym (same_seen r p)) m.1)) w

      onward : (r : Row K) (from : List Event) (p : Outcome Shared A') → Onward (λ s. s.events) V from p → Onward of V from (kept r p)
      onward r from (Gives b t) w = w
      onward r from (Ends f es) w = w

  pub declared_further : {A A' : Type 0} {V : A → A' → Type 0} (x : K) (v : Value) {m : Run (Lives K) A} {n : Run (Lives K) A'} →
      FurtherLives K A A' V m n → FurtherLives K A A' V (declared x v m) (declared x v n)
  declared_further {A} {A'} {V} x v {m} {n} h = record {
    by = λ s. go _ _ (h.by (record s { locals = (x, v) ∷ s.locals }));
    on = λ s. onward s.shared.events _ (h.on (record s { locals = (x, v) ∷ s.locals }));
  }
    where
      same_seen : (p : Outcome (Lives K) A') → seen of (uncovered p) ≡ seen of p
      same_seen (Gives b t) = refl
      same_seen (Ends f es) = refl

      go : (o : Outcome (Lives K) A) (p : Outcome (Lives K) A') → Alike ◌≡◌ V (FurtherEnd of) o p → Alike ◌≡◌ V (FurtherEnd of)
          (uncovered o) (uncovered p)
      go (Gives a s) (Gives b t) w = (w.0, ap (λ (u : Lives K). record u { locals = drop 1 u.locals }) w.1)
      go (Gives a s) (Ends f es) w = absurd w
      go (Ends f es) p w = ⊎_elim (λ same. inl (ap uncovered same)) (λ m. inr (m.0, subst (Prefix es) (sym (same_seen p)) m.1)) w

      onward : (from : List Event) (p : Outcome (Lives K) A') → Onward of V from p → Onward of V from (uncovered p)
      onward from (Gives b t) w = w
      onward from (Ends f es) w = w

  -- a local's new value, or what is done where there is no such local
  pub assigned_further : (row : Lives K → Option (Row K)) {m n : Does K} → FurtherDoes m n → FurtherDoes (λ s. assigned (row s) m s)
      (λ s. assigned (row s) n s)
  assigned_further row {m} {n} h = record { by = λ s. (assigning (row s)).by s; on = λ s. (assigning (row s)).on s }
    where
      assigning : (o : Option (Row K)) → FurtherDoes (assigned o m) (assigned o n)
      assigning None = h
      assigning (Some row) = record { by = λ s. (tt, refl); on = λ s. (same_events s.shared.events, (Normal, tt)) }

  -- exits that are the same meet the same tests
  pub same_exits : (b : Option K → Bool) (l k : Option K) → l ≡ k → Meet (b l) (b k) (l ≡ k)
  same_exits b l k e = subst (λ k. Meet (b l) (b k) (l ≡ k)) e (go (b l))
    where
      go : (t : Bool) → Meet t t (l ≡ l)
      go true = tt
      go false = refl

  -- Calls.

  -- what a call gives of a completion is decided by the completion
  completed : (has : Bool) (c d : Completion K) → Completes ◌≡◌ ◌≡◌ c d → returned has c ≡ returned has d
  completed has Normal Normal w = refl
  completed has (Breaks l) (Breaks k) w = ap (λ l. returned {K = K} has (Breaks l)) w
  completed has (Continues l) (Continues k) w = ap (λ l. returned {K = K} has (Continues l)) w
  completed has (Returns v) (Returns u) w = ap (λ v. returned {K = K} has (Returns v)) w
  completed has _ _ w = absurd w

  pub body_further : (has : Bool) (r : Row K) {m n : Does K} → FurtherDoes m n → FurtherCall (body_from has r m) (body_from has r n)
  body_further has r {m} {n} h = record {
    by = λ s. go _ _ (h.by (record { locals = r; shared = s }));
    on = λ s. onward s.events _ (h.on (record { locals = r; shared = s }));
  }
    where
      same_seen : (p : Outcome (Lives K) (Completion K)) → seen (λ s. s.events) (result has p) ≡ seen of p
      same_seen (Gives c t) = go (returned has c)
        where
          go : (o : Option (Option Value)) → seen (λ s. s.events) (found o t.shared) ≡ t.shared.events
          go None = refl
          go (Some v) = refl
      same_seen (Ends f es) = refl

      finished : (o : Option (Option Value)) (s t : Shared) → s ≡ t → Alike ◌≡◌ ◌≡◌ (FurtherEnd (λ s. s.events)) (found o s) (found o t)
      finished None s t e = inl (ap (λ u. Ends Wrong u.events) (sym e))
      finished (Some v) s t e = (refl, e)

      go : (o p : Outcome (Lives K) (Completion K)) → Alike ◌≡◌ (Completes ◌≡◌ ◌≡◌) (FurtherEnd of) o p →
          Alike ◌≡◌ ◌≡◌ (FurtherEnd (λ s. s.events)) (result has o) (result has p)
      go (Gives c s) (Gives d t) a =
          subst (λ o. Alike ◌≡◌ ◌≡◌ (FurtherEnd (λ s. s.events)) (found (returned has c) s.shared) (found o t.shared))
          (completed has c d a.0)
          (finished (returned has c) s.shared t.shared (ap (λ u. u.shared) a.1))
      go (Gives _ s) (Ends f es) a = absurd a
      go (Ends f es) p a = ⊎_elim (λ same. inl (ap (result has) same)) (λ m. inr (m.0, subst (Prefix es) (sym (same_seen p)) m.1)) a

      onward : (from : List Event) (p : Outcome (Lives K) (Completion K)) → Onward of (Completes ◌≡◌ ◌≡◌) from p →
          Onward (λ s. s.events) (◌≡◌ {A = Option Value}) from (result has p)
      onward from (Gives c t) w = go (returned has c)
        where
          go : (o : Option (Option Value)) → Onward (λ s. s.events) (◌≡◌ {A = Option Value}) from (found o t.shared)
          go None = w.0
          go (Some v) = (w.0, (v, refl))
      onward from (Ends f es) w = w

  pub called_further : {T : Type 0} (f g : Here K → T → Does K) → ((here : Here K) (t : T) → FurtherDoes (f here t) (g here t)) →
      (m : Option (Method K T)) (this : Option ℕ) (vs : List Value) → FurtherCall (called f m this vs) (called g m this vs)
  called_further f g h m this vs =
      then_same FurtherShared further_tells (found_same FurtherShared further_tells m) (λ k.
      then_same FurtherShared further_tells (found_same FurtherShared further_tells (bound k.params vs [])) (λ r.
      if_alike FurtherShared further_shares.closed (suits k.on_object this)
      (body_further k.has_result r (h (record { class = k.class; object = this }) k.body)) (halted Wrong)))

-- The law.

module _ {K M T : Type 0} (l : Language K M T) (monotone : IsMonotone l) where
  one_more : (n : ℕ) → FurtherBelow (below l n) (below l (suc n))
  one_more zero = record {
    call = λ m this vs. spent (λ s. s.events) (called_further _ _ (monotone _ _ none) (l.method m) this vs);
    turn = λ here t. spent of (monotone _ _ none here t);
  }
    where
      none : FurtherBelow (below l 0) (below l 0)
      none = record { call = λ m this vs. halted More; turn = λ here t. within_further (λ r. halted More) }
  one_more (suc n) = record {
    call = λ m this vs. called_further _ _ (monotone _ _ (one_more n)) (l.method m) this vs;
    turn = monotone _ _ (one_more n);
  }

goes_on : (o q : Outcome Shared (Option Value)) → Alike ◌≡◌ ◌≡◌ (FurtherEnd (λ s. s.events)) o q →
    ((ended o).finish ≢ More → ended q ≡ ended o) × ((ended o).finish ≡ More → Prefix (ended o).events (ended q).events)
goes_on (Gives v s) (Gives w t) a = (λ h. ap (λ u. record { events = u.events; finish = Done }) (sym a.1), λ e. absurd (cc))
goes_on (Gives v s) (Ends f es) a = absurd a
goes_on (Ends f es) q a = (
  λ h. ⊎_elim (λ same. ap ended same) (λ m. absurd (h m.0)) a,
  λ e. ⊎_elim (λ same. subst (λ o. Prefix es (ended o).events) (sym same) (same_events es)) (λ m. subst (Prefix es) (same_seen q) m.1) a,
)
  where
    same_seen : (q : Outcome Shared (Option Value)) → seen (λ s. s.events) q ≡ (ended q).events
    same_seen (Gives v s) = refl
    same_seen (Ends f es) = refl

pub budget_law : (K M T : Type 0) → BudgetLaw K M T
budget_law K M T l monotone main n = record { ended = law.0; more = law.1 }
  where
    law : ((ran l main n).finish ≢ More → ran l main (suc n) ≡ ran l main n) × ((ran l main n).finish ≡ More → Prefix
        (ran l main n).events (ran l main (suc n)).events)
    law = goes_on _ _ ((called_further _ _ (monotone _ _ (one_more l monotone n)) main None []).by (record { heap = []; events = [] }))
