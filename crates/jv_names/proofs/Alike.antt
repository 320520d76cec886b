-- From states alike, outcomes alike, where the core isn't Wrong: what goes on through this relation.
use Rattle.std.proofs.Common.{◌≡◌, ℕ, List, ◌∷◌, Option, Some, None, refl, sym, ap, subst, ⊎_elim, inl, inr}
use Rattle.mg_text.specs.Call.{Name}
use Rattle.jv_values.specs.Values.{Value, Row, Shared, Lives, Finish, Wrong}
use Rattle.jv_values.specs.Doing.{Outcome, Gives, Ends, Run, and_then, ◌>>=◌, give, stop, found, valued, valuing, within, kept, declared}
use Rattle.jv_values.specs.Doing.{uncovered}
use Rattle.jv_values.specs.Alike.{Relation, Closed, Shares, Alike, SameEnd}
use Rattle.jv_values.proofs.Expressions.{Tells, tells}
use Rattle.jv_rules.specs.Scope.{Declared}
use Rattle.jv_names.proofs.Rows.{Beside, more, below_top, Opt}

pub record Like {S S' : Type 0} (State : S → S' → Type 0) (A A' : Type 0) (V : A → A' → Type 0) (m : Run S A)
    (n : Run S' A') : Type 0 where
  pub by : (s : S) (t : S') → State s t → Alike State V SameEnd (m s) (n t)

module _ {S S' : Type 0} (State : S → S' → Type 0) where
  like_then : {A A' B B' : Type 0} {V : A → A' → Type 0} {W : B → B' → Type 0} (o : Outcome S A) (p : Outcome S' A') (f : A → Run S B)
      (g : A' → Run S' B') →
      Alike State V SameEnd o p → ((a : A) (b : A') → V a b → Like State B B' W (f a) (g b)) → Alike State W SameEnd (and_then o f)
      (and_then p g)
  like_then (Gives a s) (Gives b t) f g r k = (k a b r.0).by s t r.1
  like_then (Gives a s) (Ends e es) f g r k = absurd r
  like_then (Ends e es) p f g r k = ⊎_elim (λ w. inl w) (λ same. inr (ap (λ o. and_then o g) same)) r

  pub like_give : {A A' : Type 0} {V : A → A' → Type 0} {a : A} {b : A'} → V a b → Like State A A' V (give a) (give b)
  like_give v = record { by = λ s t st. (v, st) }

  pub like_bind : {A A' B B' : Type 0} {V : A → A' → Type 0} {W : B → B' → Type 0} {m : Run S A} {n : Run S' A'} {f : A →
      Run S B} {g : A' → Run S' B'} →
      Like State A A' V m n → ((a : A) (b : A') → V a b → Like State B B' W (f a) (g b)) → Like State B B' W (m >>= f) (n >>= g)
  like_bind {m} {n} {f} {g} h k = record { by = λ s t st. like_then (m s) (n t) f g (h.by s t st) k }

  pub like_closed : Closed (Like State)
  like_closed = record { give = like_give; bind = like_bind }

-- Expressions: the same objects and events.

abbrev pub E : Relation Shared Shared
E = Like ◌≡◌

-- what goes by no names is the same
pub same_run : {A : Type 0} (m : Run Shared A) → E A A ◌≡◌ m m
same_run {A} m = record { by = λ s t e. subst (λ t. Alike ◌≡◌ ◌≡◌ SameEnd (m s) (m t)) e (go (m s)) }
  where
    go : (o : Outcome Shared A) → Alike ◌≡◌ ◌≡◌ SameEnd o o
    go (Gives a s) = (refl, refl)
    go (Ends f es) = inr refl

pub halt : {A A' : Type 0} {V : A → A' → Type 0} (f : Finish) → E A A' V (stop f) (stop f)
halt f = record { by = λ s t e. inr (ap (λ u. Ends f u.events) (sym e)) }

pub shares : Shares E
shares = record {
  closed = like_closed ◌≡◌;
  stop = halt;
  note = λ e. same_run _;
  happened = same_run _;
  objects = same_run _;
  with_objects = λ heap. same_run _;
}

pub tells_e : Tells E
tells_e = tells shares

-- where the core is Wrong, all goes
pub wrong : {A A' : Type 0} {V : A → A' → Type 0} {n : Run Shared A'} → E A A' V (stop Wrong) n
wrong = record { by = λ s t st. inl refl }

pub found_like : {A A' : Type 0} {V : A → A' → Type 0} (o : Option A) (p : Option A') → Opt V o p → E A A' V (found o) (found p)
found_like None p w = wrong
found_like (Some a) (Some b) w = like_give ◌≡◌ w
found_like (Some a) None w = absurd w

-- a value that is made one and taken again
pub unvalued : {m n : Run Shared Value} → E Value Value ◌≡◌ m n → E Value Value ◌≡◌ m (valued (valuing n))
unvalued {m} {n} h = record { by = λ s t st. subst (λ o. Alike ◌≡◌ ◌≡◌ SameEnd (m s) o) (sym (go (n t))) (h.by s t st) }
  where
    go : (o : Outcome Shared Value) → and_then (and_then o (λ v. give (Some v))) found ≡ o
    go (Gives v s) = refl
    go (Ends f es) = refl

-- Statements.

-- the same locals in scope, and all else
pub record Living (ds : List Declared) (ks : List ℕ) (s : Lives ℕ) (t : Lives Name) : Type 0 where
  pub locals : Beside ds ks s.locals t.locals
  pub shared : s.shared ≡ t.shared

module _ (ds : List Declared) (ks : List ℕ) where
  abbrev pub Q : Relation (Lives ℕ) (Lives Name)
  Q = Like (Living ds ks)

  pub within_like : {A A' : Type 0} {V : A → A' → Type 0} {e : Row ℕ → Run Shared A} {e' : Row Name → Run Shared A'} →
      ((r : Row ℕ) (r' : Row Name) → Beside ds ks r r' → E A A' V (e r) (e' r')) → Q A A' V (within e) (within e')
  within_like {A} {A'} {V} {e} {e'} h = record {
    by = λ s t st. go s.locals t.locals st.locals (e s.locals s.shared) (e' t.locals t.shared)
        ((h s.locals t.locals st.locals).by s.shared t.shared st.shared);
  }
    where
      go : (r : Row ℕ) (r' : Row Name) → Beside ds ks r r' → (o : Outcome Shared A) (p : Outcome Shared A') →
          Alike ◌≡◌ V SameEnd o p → Alike (Living ds ks) V SameEnd (kept r o) (kept r' p)
      go r r' b (Gives a s) (Gives a' t) w = (w.0, record { locals = b; shared = w.1 })
      go r r' b (Gives a s) (Ends f es) w = absurd w
      go r r' b (Ends f es) p w = ⊎_elim (λ x. inl x) (λ same. inr (ap (kept r') same)) w

  pub declared_like : {A A' : Type 0} {V : A → A' → Type 0} (d : Declared) (k : ℕ)
      (v : Value) {m : Run (Lives ℕ) A} {n : Run (Lives Name) A'} →
      Like (Living (d ∷ ds) (k ∷ ks)) A A' V m n → Q A A' V (declared k v m) (declared d.name v n)
  declared_like {A} {A'} {V} d k v {m} {n} h = record {
    by = λ s t st.
        go _ _ (h.by (record s { locals = (k, v) ∷ s.locals }) (record t { locals = (d.name, v) ∷ t.locals })
        (record { locals = more st.locals; shared = st.shared }));
  }
    where
      go : (o : Outcome (Lives ℕ) A) (p : Outcome (Lives Name) A') → Alike (Living (d ∷ ds) (k ∷ ks)) V SameEnd o p → Alike
          (Living ds ks) V SameEnd (uncovered o) (uncovered p)
      go (Gives a s) (Gives b t) w = (w.0, record { locals = below_top w.1.locals; shared = w.1.shared })
      go (Gives a s) (Ends f es) w = absurd w
      go (Ends f es) p w = ⊎_elim (λ q. inl q) (λ same. inr (ap uncovered same)) w
