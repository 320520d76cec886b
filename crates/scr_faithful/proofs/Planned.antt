-- A planned run of a guarded global protocol is a run of it, as far as recs turn.
use Rattle.std.proofs.Common.{◌≡◌, ℕ, zero, suc, ◌<◌, ◌≤◌, List, [], ◌∷◌, length, Option, Some, refl, sym, ap, ◌∙◌, subst, ⊎_elim}
use Rattle.std.proofs.Common.{Bool, true, false, arith}
use Rattle.std.specs.Prelude.{Contains}
use Rattle.std.specs.Str.{bytes_eq}
use Rattle.mg_text.specs.Call.{Name}
use Rattle.scr_global.specs.Global.{Passing, Global, Nothing, Says, Choice, Rec, Continue, Branches, NoBranch, Branch}
use Rattle.scr_global.specs.Points.{Extent, Once, TurnOf, Layer, Rest, Point, start, turned, Quiet, Begins, Next, Goes, Over}
use Rattle.scr_global.specs.Points as points
use Rattle.scr_global.specs.Validity.{HasSome, BeginAt, AreBegun, AreBegunIn, IsClosed, AreClosed}
use Rattle.scr_global.specs.Systems.{if_same}
use Rattle.scr_global.proofs.Names.{is_same, is_other, first_or_later, none_contained, first_in, later_in}
use Rattle.scr_global.proofs.Plans.{Plans, behind_choice, Future, turns, known, run, run_each, run_or, outside, whole_run}
use Rattle.scr_faithful.specs.Guarded.{but_first, Guards, GuardsEach, IsGuarded}

-- From this point these messages go: all of them to the end, or the first n at least.
pub data Plays : ℕ → Point → List Passing → Type 0 where
  enough : {at : Point} {ms : List Passing} → Plays zero at ms
  over : {n : ℕ} {at : Point} → Over at → Plays n at []
  quietly : {n : ℕ} {from to : Point} {ms : List Passing} → Quiet from to → Plays n to ms → Plays n from ms
  says : {n : ℕ} {m : Passing} {rest : Global} {extent : Extent} {around : Point} {ms : List Passing} →
      Plays n (Rest rest extent ∷ around) ms → Plays (suc n) (Rest (Says m rest) extent ∷ around) (m ∷ ms)
  chooses : {n : ℕ} {at : Name} {branches : Branches} {m : Passing} {branch rest : Global} {extent : Extent} {around : Point}
      {ms : List Passing} → Begins branches m branch → Plays n (Rest (Says m branch) Once ∷ Rest rest extent ∷ around) ms →
      Plays n (Rest (Choice at branches rest) extent ∷ around) ms

pub less : {m : ℕ} {at : Point} {ms : List Passing} → Plays m at ms → (n : ℕ) → n ≤ m → Plays n at ms
less enough zero h = enough
less enough (suc n) h = absurd (omega arith)
less (over e) n h = over e
less (quietly s f) n h = quietly s (less f n h)
less (says f) zero h = enough
less (says f) (suc n) h = says (less f n (omega arith))
less (chooses b f) n h = chooses b (less f n h)

-- ---- what is played is a run

-- these messages, and then nothing
abbrev pub Ends : Point → List Passing → Type 0
Ends at ms = (end : Point) × Goes at ms end × Over end

pub quiet_ends : {from to : Point} → Quiet from to → (ms : List Passing) → Ends to ms → Ends from ms
quiet_ends {from} q [] (end, points.stays, o) = (from, points.stays, points.after_quiet q o)
quiet_ends q (m ∷ ms) (end, points.next n r, o) = (end, points.next (points.quietly q n) r, o)

chosen_ends : {at : Name} {branches : Branches} {m : Passing} {branch rest : Global} {extent : Extent} {around : Point} →
    Begins branches m branch → (ms : List Passing) → Ends (Rest (Says m branch) Once ∷ Rest rest extent ∷ around) ms →
    Ends (Rest (Choice at branches rest) extent ∷ around) ms
chosen_ends b [] (end, points.stays, points.after_quiet q o) = elim q [ ]
chosen_ends b (m ∷ ms) (end, points.next points.says r, o) = (end, points.next (points.chooses b) r, o)
chosen_ends b (m ∷ ms) (end, points.next (points.quietly q n) r, o) = elim q [ ]

pub all_played : {n : ℕ} {at : Point} {ms : List Passing} → Plays n at ms → length ms < n → Ends at ms
all_played enough h = absurd (omega arith)
all_played {at = at} (over o) h = (at, points.stays, o)
all_played {ms = ms} (quietly q p) h = quiet_ends q ms (all_played p h)
all_played (says p) h = let r = all_played p (omega arith) in (r.0, points.next points.says r.1, r.2)
all_played {ms = ms} (chooses b p) h = chosen_ends b ms (all_played p h)

-- ---- a planned run is played

pub turned_same : (name : Name) (x y : Global) (extent : Extent) (around : Point) → turned name (Rest x extent ∷ around) ≡ turned name
    (Rest y extent ∷ around)
turned_same name x y Once around = refl
turned_same name x y (TurnOf other body) around = refl

-- whatever the plans are, the messages of this future go from the point
abbrev pub Good : ℕ → Point → Future → Type 0
Good n at future = (plans : Plans) → Plays n at (future plans)

fewer : (m n : ℕ) (at : Point) (future : Future) → n ≤ m → Good m at future → Good n at future
fewer m n at future h good plans = less (good plans) n h

none_asked : (n : ℕ) (at : Point) (future : Future) → n ≤ 0 → Good n at future
none_asked zero at future h plans = enough
none_asked (suc n) at future h plans = absurd (omega arith)

said : (m : Passing) (n : ℕ) (rest : Global) (extent : Extent) (around : Point) (future : Future) →
    ((k : ℕ) → k < n → Good k (Rest rest extent ∷ around) future) → Good n (Rest (Says m rest) extent ∷ around) (λ plans. m ∷ future plans)
said m zero rest extent around future ih plans = enough
said m (suc n) rest extent around future ih plans = says (ih n (omega arith) plans)

-- where a `continue` leads
record Back (n : ℕ) (quiet : List Name) (env : Name → Future) (extent : Extent) (around : Point) (name : Name) : Type 0 where
  to : Point
  leads : turned name (Rest Nothing extent ∷ around) ≡ Some to
  sooner : (k : ℕ) → k < n → Good k to (env name)
  now : (Contains quiet name → ⊥) → Good n to (env name)

abbrev AllBack : ℕ → List Name → List Name → (Name → Future) → Extent → Point → Type 0
AllBack n quiet names env extent around = (name : Name) → Contains names name → Back n quiet env extent around name

-- what is asked of the future behind statements, where they were met without a message, and where with one
record Arrives (n : ℕ) (quiet : List Name) (behind : Global) (Behind : List Name → Type 0) (extent : Extent) (around : Point)
    (future : Future) : Type 0 where
  now : Guards quiet behind Behind → Good n (Rest behind extent ∷ around) future
  sooner : Guards [] behind Behind → (k : ℕ) → k < n → Good k (Rest behind extent ∷ around) future

fresh : (n k : ℕ) (quiet names : List Name) (env : Name → Future) (extent : Extent) (around : Point) → k < n →
    AllBack n quiet names env extent around → AllBack k [] names env extent around
fresh n k quiet names env extent around h backs name c =
    let b = backs name c in record { to = b.to; leads = b.leads; sooner = λ j l. b.sooner j (omega arith); now = λ q. b.sooner k h }

still : (n k : ℕ) (quiet names : List Name) (env : Name → Future) (extent : Extent) (around : Point) → k ≤ n →
    AllBack n quiet names env extent around → AllBack k quiet names env extent around
still n k quiet names env extent around h backs name c =
    let b = backs name c in record {
      to = b.to;
      leads = b.leads;
      sooner = λ j l. b.sooner j (omega arith);
      now = λ q. fewer n k b.to (env name) h (b.now q);
    }

inside : (n : ℕ) (quiet names : List Name) (env : Name → Future) (extent : Extent) (around : Point) (rest : Global) →
    AllBack n quiet names env extent around → AllBack n quiet names env Once (Rest rest extent ∷ around)
inside n quiet names env extent around rest backs name c =
    let b = backs name c in record {
      to = b.to;
      leads = turned_same name rest Nothing extent around ∙ b.leads;
      sooner = b.sooner;
      now = b.now;
    }

arrives_fresh : (n k : ℕ) (quiet : List Name) (behind : Global) (Behind : List Name → Type 0) (extent : Extent) (around : Point)
    (future : Future) → k < n →
    Arrives n quiet behind Behind extent around future → Arrives k [] behind Behind extent around future
arrives_fresh n k quiet behind Behind extent around future h a =
    record { now = λ g. a.sooner g k h; sooner = λ g j l. a.sooner g j (omega arith) }

arrives_still : (n k : ℕ) (quiet : List Name) (behind : Global) (Behind : List Name → Type 0) (extent : Extent) (around : Point)
    (future : Future) → k ≤ n →
    Arrives n quiet behind Behind extent around future → Arrives k quiet behind Behind extent around future
arrives_still n k quiet behind Behind extent around future h a =
    record { now = λ g. fewer n k (Rest behind extent ∷ around) future h (a.now g); sooner = λ g j l. a.sooner g j (omega arith) }

-- behind an inner layer comes what is around it
arrives_out : (n : ℕ) (quiet : List Name) (rest : Global) (Behind : List Name → Type 0) (extent : Extent) (around : Point)
    (future : Future) →
    Arrives n quiet rest Behind extent around future → Arrives n quiet Nothing (λ names. Guards names rest Behind) Once
    (Rest rest extent ∷ around) future
arrives_out n quiet rest Behind extent around future a =
    record { now = λ g plans. quietly points.ends (a.now g plans); sooner = λ g j l plans. quietly points.ends (a.sooner g j l plans) }

arrives_turn : (n : ℕ) (quiet : List Name) (name : Name) (body rest : Global) (Behind : List Name → Type 0) (extent : Extent)
    (around : Point) (future : Future) →
    Arrives n quiet rest Behind extent around future → Arrives n (name ∷ quiet) Nothing (λ names. Guards (but_first names) rest Behind)
    (TurnOf name body) (Rest rest extent ∷ around) future
arrives_turn n quiet name body rest Behind extent around future a =
    record { now = λ g plans. quietly points.ends (a.now g plans); sooner = λ g j l plans. quietly points.ends (a.sooner g j l plans) }

opened : (n : ℕ) (quiet names : List Name) (env : Name → Future) (extent : Extent) (around : Point) (name : Name) (body rest : Global)
    (again' : Future) →
    ((k : ℕ) → k < n → Good k (Rest body (TurnOf name body) ∷ Rest rest extent ∷ around) again') →
    AllBack n quiet names env extent around → AllBack n (name ∷ quiet) (name ∷ names) (known name again' env) (TurnOf name body)
    (Rest rest extent ∷ around)
opened n quiet names env extent around name body rest again' prior backs other c = go (bytes_eq other name) refl
  where
    inner : Point
    inner = Rest body (TurnOf name body) ∷ Rest rest extent ∷ around

    go : (b : Bool) → bytes_eq other name ≡ b → Back n (name ∷ quiet) (known name again' env) (TurnOf name body) (Rest rest extent ∷ around)
        other
    go true e = record {
      to = inner;
      leads = ap (λ b. elim b as (λ (v : Bool). Option Point) [ true ↦ Some inner | false ↦ turned other (Rest rest extent ∷ around) ]) e;
      sooner = λ k l. subst (λ b. Good k inner (if_same b again' (env other))) (sym e) (prior k l);
      now = λ q. absurd (q (first_in name quiet other (sym (is_same e))));
    }
    go false e =
        let b = backs other (⊎_elim (λ f. absurd (is_other e (sym f))) (λ d. d) (first_or_later name names other c)) in record {
          to = b.to;
          leads = ap (λ b. elim b as (λ (v : Bool). Option Point) [
            | true ↦ Some inner
            | false ↦ turned other (Rest rest extent ∷ around)
          ]) e ∙ turned_same other rest Nothing extent around ∙ b.leads;
          sooner = λ k l. subst (λ v. Good k b.to (if_same v again' (env other))) (sym e) (b.sooner k l);
          now = λ q. subst (λ v. Good n b.to (if_same v again' (env other))) (sym e) (b.now (λ d. q (later_in name quiet other d)));
        }

-- a rec that turns some times is played for as many messages, since each turn has one
looping : (at : Point) (turn : Future → Future) (behind : Future) (n : ℕ) →
    ((future : Future) (k : ℕ) → k ≤ n → ((j : ℕ) → j < k → Good j at future) → Good k at (turn future)) →
    (i k : ℕ) → k ≤ i → k ≤ n → Good k at (turns i turn behind)
looping at turn behind n step zero k h l = none_asked k at behind h
looping at turn behind n step (suc i) k h l = step (turns i turn behind) k l (λ j m. looping at turn behind n step i j (omega arith)
    (omega arith))

-- a branch is entered
record Entered (n : ℕ) (branches : Branches) (behind : Point) (future : Future) : Type 0 where
  m : Passing
  branch : Global
  begins : Begins branches m branch
  good : Good n (Rest (Says m branch) Once ∷ behind) future

pub begin_later : (at : Name) (first : Global) (more : Branches) → BeginAt at (Branch first more) → BeginAt at more
begin_later at (Says m rest) more b = b.1
begin_later at Nothing more b = absurd b
begin_later at (Choice other branches rest) more b = absurd b
begin_later at (Rec name body rest) more b = absurd b
begin_later at (Continue name rest) more b = absurd b

enters : (at : Name) (first : Global) (more : Branches) → BeginAt at (Branch first more) → (n : ℕ) (behind : Point) (future : Future) →
    Good n (Rest first Once ∷ behind) future → Entered n (Branch first more) behind future
enters at (Says m rest) more b n behind future good = record { m = m; branch = rest; begins = points.this; good = good }
enters at Nothing more b n behind future good = absurd b
enters at (Choice other branches rest) more b n behind future good = absurd b
enters at (Rec name body rest) more b n behind future good = absurd b
enters at (Continue name rest) more b n behind future good = absurd b

module _ (most : ℕ) where
  -- what is shown of statements, with `future` behind them
  abbrev Shown : Global → List Name → (Name → Future) → Extent → Point → (List Name → Type 0) → Future → Type 0
  Shown g names env extent around Behind future =
      (n : ℕ) (quiet : List Name) → n ≤ most → AllBack n quiet names env extent around →
      Arrives n quiet Nothing Behind extent around future → Guards quiet g Behind → Good n (Rest g extent ∷ around) (run most env g future)

  arriving : (g : Global) (names : List Name) (env : Name → Future) (extent : Extent) (around : Point) (Behind : List Name → Type 0)
      (future : Future) → Shown g names env extent around Behind future → (n : ℕ) (quiet : List Name) → n ≤ most →
      AllBack n quiet names env extent around → Arrives n quiet Nothing Behind extent around future →
      Arrives n quiet g Behind extent around (run most env g future)
  arriving g names env extent around Behind future shown n quiet h backs a = record {
    now = λ guards. shown n quiet h backs a guards;
    sooner = λ guards k l. shown k [] (omega arith) (fresh n k quiet names env extent around l backs)
        (arrives_fresh n k quiet Nothing Behind extent around future l a) guards;
  }

  mutual
    played : (g : Global) (names : List Name) → IsClosed names g → AreBegun g →
        (env : Name → Future) (extent : Extent) (around : Point) (Behind : List Name → Type 0) (future : Future) →
        Shown g names env extent around Behind future
    played Nothing names c b env extent around Behind future n quiet h backs a guards = a.now guards
    played (Says m rest) names c b env extent around Behind future n quiet h backs a guards =
        said m n rest extent around (run most env rest future)
        (λ k l. played rest names c b env extent around Behind future k [] (omega arith) (fresh n k quiet names env extent around l backs)
        (arrives_fresh n k quiet Nothing Behind extent around future l a) guards)
    played (Choice at branches rest) names c b env extent around Behind future n quiet h backs a guards =
        let k : Future = run most env rest future in
        let k_arrives : Arrives n quiet rest Behind extent around k = arriving rest names env extent around Behind future
        (played rest names c.1 b.3 env extent around Behind future) n quiet h backs a in
        λ plans.
        let e = each at branches b.0 b.1 names c.0 b.2 env (Rest rest extent ∷ around) (λ names. Guards names rest Behind) k n
        quiet h (inside n quiet names env extent around rest backs) (arrives_out n quiet rest Behind extent around k k_arrives) guards
        (plans at 0) in
        chooses e.begins (e.good (behind_choice at plans))
    played (Rec name body rest) names c b env extent around Behind future n quiet h backs a guards =
        let k : Future = run most env rest future in
        let k_arrives : Arrives n quiet rest Behind extent around k = arriving rest names env extent around Behind future
        (played rest names c.1 b.1 env extent around Behind future) n quiet h backs a in
        let good : Good n (Rest body (TurnOf name body) ∷ Rest rest extent ∷ around)
        (turns most (λ again. run most (known name again env) body k) k) =
        looping (Rest body (TurnOf name body) ∷ Rest rest extent ∷ around) (λ again. run most (known name again env) body k) k n
        (λ again m l prior. played body (name ∷ names) c.0 b.0 (known name again env) (TurnOf name body) (Rest rest extent ∷ around)
        (λ names. Guards (but_first names) rest Behind) k m (name ∷ quiet) (omega arith)
        (opened m quiet names env extent around name body rest again prior (still n m quiet names env extent around l backs))
        (arrives_turn m quiet name body rest Behind extent around k (arrives_still n m quiet rest Behind extent around k l k_arrives))
        guards)
        most n h (omega arith) in
        λ plans. quietly points.begins (good plans)
    played (Continue name rest) names c b env extent around Behind future n quiet h backs a guards =
        let back = backs name c.0 in
        λ plans. quietly (points.continues (turned_same name rest Nothing extent around ∙ back.leads)) (back.now guards plans)

    each : (at : Name) (branches : Branches) → HasSome branches → BeginAt at branches → (names : List Name) → AreClosed names branches →
        AreBegunIn branches →
        (env : Name → Future) (behind : Point) (Behind : List Name → Type 0) (future : Future) (n : ℕ)
        (quiet : List Name) → n ≤ most → AllBack n quiet names env Once behind →
        Arrives n quiet Nothing Behind Once behind future → GuardsEach quiet branches Behind →
        (j : ℕ) → Entered n branches behind (run_each most env branches future j)
    each at NoBranch some s names c b env behind Behind future n quiet h backs a guards j = absurd some
    each at (Branch g more) some s names c b env behind Behind future n quiet h backs a guards j =
        each_or at more names c.1 b.1 env behind Behind future n quiet h backs a guards.1 g s
        (played g names c.0 b.0 env Once behind Behind future n quiet h backs a guards.0) j

    each_or : (at : Name) (more : Branches) (names : List Name) → AreClosed names more → AreBegunIn more →
        (env : Name → Future) (behind : Point) (Behind : List Name → Type 0) (future : Future) (n : ℕ)
        (quiet : List Name) → n ≤ most → AllBack n quiet names env Once behind →
        Arrives n quiet Nothing Behind Once behind future → GuardsEach quiet more Behind →
        (first : Global) → BeginAt at (Branch first more) → Good n (Rest first Once ∷ behind) (run most env first future) →
        (j : ℕ) → Entered n (Branch first more) behind (run_or most env (run most env first future) more future j)
    each_or at NoBranch names c b env behind Behind future n quiet h backs a guards first s good j =
        enters at first NoBranch s n behind (run most env first future) good
    each_or at (Branch g more) names c b env behind Behind future n quiet h backs a guards first s good zero =
        enters at first (Branch g more) s n behind (run most env first future) good
    each_or at (Branch g more) names c b env behind Behind future n quiet h backs a guards first s good (suc j) =
        let e = each_or at more names c.1 b.1 env behind Behind future n quiet h backs a guards.1 g (begin_later at first (Branch g more) s)
        (played g names c.0 b.0 env Once behind Behind future n quiet h backs a guards.0) j in
        record { m = e.m; branch = e.branch; begins = points.later e.begins; good = e.good }

  -- the whole run
  pub planned_run : (g : Global) → IsClosed [] g → AreBegun g → IsGuarded g → Good most (start g) (whole_run most g)
  planned_run g c b guards =
      played g [] c b (outside most) Once [] (λ names. Unit {0}) (λ plans. []) most [] (omega arith)
      (λ name e. absurd (none_contained name e))
      (record {
        now = λ g plans. over (points.after_quiet points.ends points.nothing_left);
        sooner = λ g k l plans. over (points.after_quiet points.ends points.nothing_left);
      })
      guards
