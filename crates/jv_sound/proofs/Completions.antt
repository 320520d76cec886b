-- How statements that end well may complete.
use Rattle.std.proofs.Common.{◌≡◌, ◌≢◌, ◌⊎◌, inl, inr, ℕ, Bool, true, false, List, [], ◌∷◌, drop, Option, Some, None, refl, sym, ◌∙◌, subst}
use Rattle.std.proofs.Common.{true≢false}
use Rattle.std.specs.Prelude.{if◌then◌else◌, ◌||◌, Contains, nat_eq}
use Rattle.std.proofs.lemmas.Bool.{eqb-true, eq-eqb}
use Rattle.jv_values.specs.Values.{Value, Row, Shared, Lives}
use Rattle.jv_values.specs.Doing.{Outcome, Gives, Ends, Run, give, kept, within, uncovered, declared}
use Rattle.jv_values.specs.Statements.{Completion, Normal, Breaks, Continues, Returns, Does, next_do, after_body, after_switch, is_default}
use Rattle.jv_values.specs.Statements.{any_label}
use Rattle.jv_core.specs.declared.program.CoreType.{CoreType}
use Rattle.jv_core.specs.declared.program.CoreType.TheVariants as types
use Rattle.jv_core.specs.Tree.{Program, Method, Stmts, Groups, NoGroup, Group, Switch, Expr}
use Rattle.mg_text.specs.declared.place.Place.{Place}
use Rattle.jv_core.specs.Lookup.{slot_type}
use Rattle.jv_core.specs.Statements.{Target, LoopOf, ASwitch, MayBreak}
use Rattle.jv_core.specs.Completes.{Exit, Through, HasDefault, Passes, Leaves, LeavesAll, LeavesSome, LeavesLast}
use Rattle.jv_core.specs.Completes as exits
use Rattle.jv_core.specs.Conditions.{IsCore}
use Rattle.jv_core.specs.Meaning.{mine, has_group}
use Rattle.jv_sound.proofs.Lists.{in_tail, none_in}
use Rattle.jv_sound.proofs.Worlds.{World, Extends, same_world, further, Got, Good, Runs, runs_give, runs_as, Fits, fits_more, RowFits}
use Rattle.jv_sound.proofs.Worlds.{row_more}
use Rattle.jv_sound.proofs.Worlds as worlds
use Rattle.jv_sound.proofs.Objects.{Heap}

module _ (p : Program) (ok : IsCore p) (m : Method) where
  -- the locals of the slots in scope, and the objects
  pub record Living (sc : List ℕ) (w : World) (s : Lives ℕ) : Type 0 where
    pub locals : RowFits p m w sc s.locals
    pub shared : Heap p ok w s.shared

  kept_good : {A : Type 0} (P : World → A → Type 0) (sc : List ℕ) (x : World) (row : Row ℕ) (o : Outcome Shared A) →
      RowFits p m x sc row → Good (Heap p ok) P x o → Good (Living sc) P x (kept row o)
  kept_good P sc x row (Gives a s) r g = record {
    world = g.world;
    grown = g.grown;
    state =
        record { locals = row_more p m g.grown r; shared = g.state };
    is = g.is;
  }
  kept_good P sc x row (Ends f es) r g = g

  pub within_runs : {A : Type 0} (P : World → A → Type 0) (sc : List ℕ) (w : World) (e : Row ℕ → Run Shared A) →
      ((x : World) (row : Row ℕ) → Extends w x → RowFits p m x sc row → Runs (Heap p ok) P x (e row)) →
      Runs (Living sc) P w (within e)
  within_runs P sc w e k = record {
    run = λ x q s h. kept_good P sc x s.locals (e s.locals s.shared) h.locals
        ((k x s.locals q h.locals).run x (same_world x) s.shared h.shared);
  }

  uncovered_good : {A : Type 0} (P : World → A → Type 0) (sc : List ℕ) (k : ℕ) (w : World) (o : Outcome (Lives ℕ) A) →
      Good (Living (k ∷ sc)) P w o → Good (Living sc) P w (uncovered o)
  uncovered_good P sc k w (Gives a s) g = record {
    world = g.world;
    grown = g.grown;
    state =
        record { locals = under sc k g.state.locals; shared = g.state.shared };
    is = g.is;
  }
    where
      under : {x : World} {row : Row ℕ} (sc : List ℕ) (k : ℕ) → RowFits p m x (k ∷ sc) row → RowFits p m x sc (drop 1 row)
      under sc k (worlds.more e f r) = r
  uncovered_good P sc k w (Ends f es) g = g

  pub declared_runs : {A : Type 0} (P : World → A → Type 0) (sc : List ℕ) (w : World) (k : ℕ) (t : CoreType) (v : Value)
      (rest : Run (Lives ℕ) A) → slot_type m k ≡ Some t → Fits p w v t → Runs (Living (k ∷ sc)) P w rest →
      Runs (Living sc) P w (declared k v rest)
  declared_runs P sc w k t v rest e f r = record {
    run = λ x q s h. uncovered_good P sc k x (rest (record s { locals = (k, v) ∷ s.locals }))
        (r.run x q (record s { locals = (k, v) ∷ s.locals })
        (record { locals = worlds.more e (fits_more p q f) h.locals; shared = h.shared }));
  }

  -- a completion that the statement may come to, inside these loops and switches
  abbrev pub Comes : List Target → (Exit → Type 0) → World → Completion ℕ → Type 0
  Comes ts Can w Normal = Can Through
  Comes ts Can w (Breaks l) = Can (exits.Breaks l) × MayBreak ts l
  Comes ts Can w (Continues None) = ⊥
  Comes ts Can w (Continues (Some l)) = Can (exits.Continues l) × Contains ts (LoopOf l)
  Comes ts Can w (Returns None) = m.result ≡ types.Void
  Comes ts Can w (Returns (Some v)) = Fits p w v m.result × (m.result ≢ types.Void)

  comes_more : (ts : List Target) (Can : Exit → Type 0) {w x : World} (c : Completion ℕ) → Extends w x → Comes ts Can w c →
      Comes ts Can x c
  comes_more ts Can Normal q h = h
  comes_more ts Can (Breaks l) q h = h
  comes_more ts Can (Continues None) q h = h
  comes_more ts Can (Continues (Some l)) q h = h
  comes_more ts Can (Returns None) q h = h
  comes_more ts Can (Returns (Some v)) q h = (fits_more p q h.0, h.1)

  pub comes_as : (ts : List Target) (Can Can' : Exit → Type 0) (w : World) (c : Completion ℕ) → ((e : Exit) → Can e → Can' e) →
      Comes ts Can w c → Comes ts Can' w c
  comes_as ts Can Can' w Normal k h = k Through h
  comes_as ts Can Can' w (Breaks l) k h = (k (exits.Breaks l) h.0, h.1)
  comes_as ts Can Can' w (Continues None) k h = h
  comes_as ts Can Can' w (Continues (Some l)) k h = (k (exits.Continues l) h.0, h.1)
  comes_as ts Can Can' w (Returns None) k h = h
  comes_as ts Can Can' w (Returns (Some v)) k h = h

  pub completes_so : (sc : List ℕ) (ts : List Target) (Can : Exit → Type 0) (w : World) (c : Completion ℕ) → Comes ts Can w c →
      Runs (Living sc) (Comes ts Can) w (give c)
  completes_so sc ts Can w c h = runs_give (Living sc) (Comes ts Can) w c (λ x q. comes_more ts Can c q h)

  -- the next statement of a list
  pub next_runs : (sc : List ℕ) (ts : List Target) (First Can : Exit → Type 0) (w : World) (c : Completion ℕ) (next : Does ℕ) →
      Comes ts First w c → (First Through → Runs (Living sc) (Comes ts Can) w next) →
      ((e : Exit) → e ≢ Through → First e → Can e) → Runs (Living sc) (Comes ts Can) w (next_do next c)
  next_runs sc ts First Can w Normal next h k pass = k h
  next_runs sc ts First Can w (Breaks l) next h k pass = completes_so sc ts Can w (Breaks l) (pass (exits.Breaks l) (λ e. cc) h.0, h.1)
  next_runs sc ts First Can w (Continues None) next h k pass = absurd h
  next_runs sc ts First Can w (Continues (Some l)) next h k pass =
      completes_so sc ts Can w (Continues (Some l)) (pass (exits.Continues l) (λ e. cc) h.0, h.1)
  next_runs sc ts First Can w (Returns None) next h k pass = completes_so sc ts Can w (Returns None) h
  next_runs sc ts First Can w (Returns (Some v)) next h k pass = completes_so sc ts Can w (Returns (Some v)) h

  -- behind the body of a loop
  pub after_runs : (sc : List ℕ) (ts : List Target) (Body Can : Exit → Type 0) (w : World) (l : ℕ) (c : Completion ℕ) (again : Does ℕ) →
      Comes (LoopOf l ∷ ts) Body w c →
      (Body Through ⊎ Body (exits.Continues l) → Runs (Living sc) (Comes ts Can) w again) →
      (Body (exits.Breaks (Some l)) → Can Through) → ((e : Exit) → Passes l e → Body e → Can e) →
      Runs (Living sc) (Comes ts Can) w (after_body (mine l) (mine l) again c)
  after_runs sc ts Body Can w l Normal again h k through pass = k (inl h)
  after_runs sc ts Body Can w l (Breaks None) again h k through pass = absurd h.1
  after_runs sc ts Body Can w l (Breaks (Some j)) again h k through pass = go (nat_eq j l) refl
    where
      go : (b : Bool) → nat_eq j l ≡ b → Runs (Living sc) (Comes ts Can) w (if b then give Normal else give (Breaks (Some j)))
      go true is = completes_so sc ts Can w Normal (through (subst (λ j. Body (exits.Breaks (Some j))) (eqb-true j l is) h.0))
      go false is =
          let other : j ≢ l = λ e. true≢false (sym (eq-eqb j l e) ∙ is) in
          completes_so sc ts Can w (Breaks (Some j)) (
            pass (exits.Breaks (Some j)) ((λ e. cc), (λ e. other (cc)), (λ e. cc)) h.0,
            in_tail (LoopOf l) (LoopOf j) ts h.1
                (λ e. other (cc)),
          )
  after_runs sc ts Body Can w l (Continues None) again h k through pass = absurd h
  after_runs sc ts Body Can w l (Continues (Some j)) again h k through pass = go (nat_eq j l) refl
    where
      go : (b : Bool) → nat_eq j l ≡ b → Runs (Living sc) (Comes ts Can) w (if b then again else give (Continues (Some j)))
      go true is = k (inr (subst (λ j. Body (exits.Continues j)) (eqb-true j l is) h.0))
      go false is =
          let other : j ≢ l = λ e. true≢false (sym (eq-eqb j l e) ∙ is) in
          completes_so sc ts Can w (Continues (Some j)) (
            pass (exits.Continues j) ((λ e. cc), (λ e. cc), (λ e. other (cc))) h.0,
            in_tail (LoopOf l) (LoopOf j) ts h.1
                (λ e. other (cc)),
          )
  after_runs sc ts Body Can w l (Returns None) again h k through pass = completes_so sc ts Can w (Returns None) h
  after_runs sc ts Body Can w l (Returns (Some v)) again h k through pass = completes_so sc ts Can w (Returns (Some v)) h

  -- Groups of a switch.

  -- what groups come to that are entered at the first
  abbrev pub GroupsCan : Groups → Exit → Type 0
  GroupsCan gs Through = (gs ≡ NoGroup) ⊎ LeavesLast gs
  GroupsCan gs e = LeavesSome gs e

  -- what groups come to that are entered at a label
  abbrev pub FromCan : (Option ℕ → Bool) → Groups → Exit → Type 0
  FromCan test gs Through = (has_group test gs ≡ false) ⊎ LeavesLast gs
  FromCan test gs e = LeavesSome gs e

  -- what the chosen groups of a switch come to
  abbrev pub SwitchCan : Groups → Exit → Type 0
  SwitchCan gs Through = (HasDefault gs → ⊥) ⊎ LeavesLast gs
  SwitchCan gs e = LeavesSome gs e

  pub last_of : (labels : List (Option ℕ)) (body : Stmts) (end : Place) (gs : Groups) → LeavesAll body Through → GroupsCan gs Through →
      LeavesLast (Group labels body end gs)
  last_of labels body end NoGroup b h = b
  last_of labels body end (Group ls c f gs) b (inl e) = absurd (cc)
  last_of labels body end (Group ls c f gs) b (inr h) = h

  pub last_more : (labels : List (Option ℕ)) (body : Stmts) (end : Place) (gs : Groups) → LeavesLast gs →
      LeavesLast (Group labels body end gs)
  last_more labels body end NoGroup h = absurd h
  last_more labels body end (Group ls c f gs) h = h

  any_default : (ls : List (Option ℕ)) → Contains ls None → any_label is_default ls ≡ true
  any_default [] c = absurd (none_in None c)
  any_default (None ∷ ls) c = refl
  any_default (Some l ∷ ls) c = any_default ls (in_tail (Some l) None ls c (λ e. cc))

  first_true : (a b : Bool) → a ≡ true → (a || b) ≡ true
  first_true true b e = refl
  first_true false b e = absurd (cc)

  second_true : (a b : Bool) → b ≡ true → (a || b) ≡ true
  second_true true b e = refl
  second_true false b e = e

  pub has_default : (gs : Groups) → HasDefault gs → has_group is_default gs ≡ true
  has_default NoGroup h = absurd h
  has_default (Group labels body end gs) (inl c) =
      first_true (any_label is_default labels) (has_group is_default gs) (any_default labels c)
  has_default (Group labels body end gs) (inr h) = second_true (any_label is_default labels) (has_group is_default gs) (has_default gs h)

  pub switch_runs : (sc : List ℕ) (ts : List Target) (q end : Place) (e : Expr) (gs : Groups) (w : World) (c : Completion ℕ) →
      Comes (ASwitch ∷ ts) (SwitchCan gs) w c → Runs (Living sc) (Comes ts (Leaves (Switch q e gs end))) w (after_switch c)
  switch_runs sc ts q end e gs w Normal (inl h) = completes_so sc ts (Leaves (Switch q e gs end)) w Normal (inl (refl, inl h))
  switch_runs sc ts q end e gs w Normal (inr h) = completes_so sc ts (Leaves (Switch q e gs end)) w Normal (inl (refl, inr (inl h)))
  switch_runs sc ts q end e gs w (Breaks None) h = completes_so sc ts (Leaves (Switch q e gs end)) w Normal (inl (refl, inr (inr h.0)))
  switch_runs sc ts q end e gs w (Breaks (Some l)) h =
      completes_so sc ts (Leaves (Switch q e gs end)) w (Breaks (Some l))
      (inr ((λ e. cc), (λ e. cc), h.0), in_tail ASwitch (LoopOf l) ts h.1 (λ e. cc))
  switch_runs sc ts q end e gs w (Continues None) h = absurd h
  switch_runs sc ts q end e gs w (Continues (Some l)) h =
      completes_so sc ts (Leaves (Switch q e gs end)) w (Continues (Some l))
      (inr ((λ e. cc), (λ e. cc), h.0), in_tail ASwitch (LoopOf l) ts h.1 (λ e. cc))
  switch_runs sc ts q end e gs w (Returns None) h = completes_so sc ts (Leaves (Switch q e gs end)) w (Returns None) h
  switch_runs sc ts q end e gs w (Returns (Some v)) h = completes_so sc ts (Leaves (Switch q e gs end)) w (Returns (Some v)) h
