-- Runs of a global protocol to its end that go on from choices made so far.
use Rattle.std.proofs.Common.{◌≡◌, ℕ, zero, suc, ◌<◌, ◌≤◌, List, [], ◌∷◌, ◌++◌, length, Option, Some, refl, sym, ap, ◌∙◌, subst, Bool}
use Rattle.std.proofs.Common.{true, false, arith}
use Rattle.std.proofs.Math.Path.{fun_ext}
use Rattle.std.specs.Prelude.{Contains}
use Rattle.std.specs.Str.{bytes_eq}
use Rattle.mg_text.specs.Call.{Name}
use Rattle.scr_global.specs.Global.{Passing, Global, Nothing, Says, Choice, Rec, Continue, Branches, NoBranch, Branch}
use Rattle.scr_global.specs.Points.{Extent, Once, TurnOf, Layer, Rest, Point, start, turned, Quiet, Begins, Next, Goes, Over}
use Rattle.scr_global.specs.Points as points
use Rattle.scr_global.specs.Validity.{IsBetween, AreBetween, AreBetweenIn, HasSome, BeginAt, AreBegun, AreBegunIn}
use Rattle.scr_global.specs.Systems.{if_same, put}
use Rattle.scr_global.proofs.Names.{same, is_same}
use Rattle.scr_global.proofs.Plans.{Picks, later, Plans, behind_choice, Future, run, run_each, run_or, outside, whole_run}
use Rattle.scr_global.proofs.Stepping.{Extends, picks_of, extends_itself}
use Rattle.scr_global.proofs.Followed.{moves_over, Stands, once, parts, quiet_on, over_on, at_start}
use Rattle.scr_faithful.specs.Faithful.{CanEnd}
use Rattle.scr_faithful.proofs.Planned.{Ends, quiet_ends, begin_later}
use Rattle.scr_faithful.proofs.Counting.{sum, sum_lt}

-- ---- branches by their numbers

-- the branch of this number, or the last one, is this message and then these statements
abbrev pub IsAt : Branches → ℕ → Passing → Global → Type 0
IsAt branches j m branch = (most : ℕ) (env : Name → Future) (behind : Future) (plans : Plans) →
    run_each most env branches behind j plans ≡ m ∷ run most env branch behind plans

pub record Numbered (branches : Branches) (j : ℕ) : Type 0 where
  pub m : Passing
  pub branch : Global
  pub begins : Begins branches m branch
  pub is : IsAt branches j m branch

numbered_first : (at : Name) (first : Global) (more : Branches) (j : ℕ) → BeginAt at (Branch first more) →
    ((most : ℕ) (env : Name → Future) (behind : Future) (plans : Plans) → run_each most env (Branch first more) behind j plans ≡
    run most env first behind plans) → Numbered (Branch first more) j
numbered_first at (Says m rest) more j s is = record { m = m; branch = rest; begins = points.this; is = is }
numbered_first at Nothing more j s is = absurd s
numbered_first at (Choice other branches rest) more j s is = absurd s
numbered_first at (Rec name body rest) more j s is = absurd s
numbered_first at (Continue name rest) more j s is = absurd s

numbered_or : (at : Name) (first : Global) (more : Branches) → BeginAt at (Branch first more) → (j : ℕ) → Numbered (Branch first more) j
numbered_or at first NoBranch s j = numbered_first at first NoBranch j s (λ most env behind plans. refl)
numbered_or at first (Branch g more) s zero = numbered_first at first (Branch g more) 0 s (λ most env behind plans. refl)
numbered_or at first (Branch g more) s (suc j) =
    let r = numbered_or at g more (begin_later at first (Branch g more) s) j in
    record { m = r.m; branch = r.branch; begins = points.later r.begins; is = λ most env behind plans. r.is most env behind plans }

pub numbered : (at : Name) (branches : Branches) → HasSome branches → BeginAt at branches → (j : ℕ) → Numbered branches j
numbered at NoBranch some s j = absurd some
numbered at (Branch g more) some s j = numbered_or at g more s j

pub has_number : {branches : Branches} {m : Passing} {g : Global} → Begins branches m g → (j : ℕ) × IsAt branches j m g
has_number {m = m} {g = g} (points.this {more = more}) = (0, λ most env behind plans. go more most env behind plans)
  where
    go : (more : Branches) (most : ℕ) (env : Name → Future) (behind : Future) (plans : Plans) →
        run_or most env (run most env (Says m g) behind) more behind 0 plans ≡ m ∷ run most env g behind plans
    go NoBranch most env behind plans = refl
    go (Branch c more) most env behind plans = refl
has_number {m = m} {g = g} (points.later {other = other} {more = more} b) = let r = has_number b in (suc r.0, go more b r.0 r.1)
  where
    go : (more : Branches) → Begins more m g → (j : ℕ) → IsAt more j m g → (most : ℕ) (env : Name → Future) (behind : Future)
        (plans : Plans) → run_or most env (run most env other behind) more behind (suc j) plans ≡ m ∷ run most env g behind plans
    go NoBranch b j f most env behind plans = elim b [ ]
    go (Branch c more) b j f most env behind plans = f most env behind plans

-- ---- walks

-- a run to the end in which each role first makes these choices
pub data Walk : (Name → List ℕ) → Point → List Passing → Type 0 where
  over : {made : Name → List ℕ} {at : Point} → Over at → Walk made at []
  quietly : {made : Name → List ℕ} {from to : Point} {ms : List Passing} → Quiet from to → Walk made to ms → Walk made from ms
  says : {made : Name → List ℕ} {m : Passing} {rest : Global} {extent : Extent} {around : Point} {ms : List Passing} →
      Walk made (Rest rest extent ∷ around) ms → Walk made (Rest (Says m rest) extent ∷ around) (m ∷ ms)
  obeys : {made : Name → List ℕ} {at : Name} {branches : Branches} {m : Passing} {branch rest : Global} {extent : Extent} {around : Point}
      {ms : List Passing} (j : ℕ) (js : List ℕ) → made at ≡ j ∷ js → Begins branches m branch → IsAt branches j m branch →
      Walk (put at js made) (Rest branch Once ∷ Rest rest extent ∷ around) ms →
      Walk made (Rest (Choice at branches rest) extent ∷ around) (m ∷ ms)
  free : {made : Name → List ℕ} {at : Name} {branches : Branches} {m : Passing} {branch rest : Global} {extent : Extent} {around : Point}
      {ms : List Passing} (j : ℕ) → made at ≡ [] → Begins branches m branch → IsAt branches j m branch →
      Walk made (Rest branch Once ∷ Rest rest extent ∷ around) ms → Walk made (Rest (Choice at branches rest) extent ∷ around) (m ∷ ms)

pub walk_ends : {made : Name → List ℕ} {at : Point} {ms : List Passing} → Walk made at ms → Ends at ms
walk_ends {at = at} (over o) = (at, points.stays, o)
walk_ends {ms = ms} (quietly q w) = quiet_ends q ms (walk_ends w)
walk_ends (says w) = let r = walk_ends w in (r.0, points.next points.says r.1, r.2)
walk_ends (obeys j js e b i w) = let r = walk_ends w in (r.0, points.next (points.chooses b) r.1, r.2)
walk_ends (free j e b i w) = let r = walk_ends w in (r.0, points.next (points.chooses b) r.1, r.2)

-- how many moves without a message are made
abbrev pub moves : {made : Name → List ℕ} {at : Point} {ms : List Passing} → Walk made at ms → ℕ
moves (over o) = moves_over o
moves (quietly q w) = suc (moves w)
moves (says w) = moves w
moves (obeys j js e b i w) = moves w
moves (free j e b i w) = moves w

-- plans in front of which stands one more choice of a role
one_more : ℕ → Picks → Picks
one_more j picks zero = j
one_more j picks (suc n) = picks n

pub in_front : Name → ℕ → Plans → Plans
in_front at j plans me = if_same (bytes_eq me at) (one_more j (plans me)) (plans me)

front_pick : (at : Name) (j : ℕ) (plans : Plans) → in_front at j plans at 0 ≡ j
unfolding in_front one_more
front_pick at j plans = ap (λ b. if_same b (one_more j (plans at)) (plans at) 0) (same {x = at} {y = at} refl)

front_behind : (at : Name) (j : ℕ) (plans : Plans) → behind_choice at (in_front at j plans) ≡ plans
unfolding in_front one_more
front_behind at j plans = fun_ext (λ me. go (bytes_eq me at) (plans me))
  where
    go : (b : Bool) (picks : Picks) → if_same b (later (if_same b (one_more j picks) picks)) (if_same b (one_more j picks) picks) ≡ picks
    go true picks = refl
    go false picks = refl

pub picked : (at : Name) (j : ℕ) (each : ℕ → Future) (plans : Plans) → each (in_front at j plans at 0) (behind_choice at (in_front at j plans))
    ≡ each j plans
picked at j each plans = λ i. each (front_pick at j plans i) (front_behind at j plans i)

-- all choices made come first in the plans
abbrev pub AllMade : (Name → List ℕ) → Plans → Type 0
AllMade made plans = (q : Name) → Extends (made q) (plans q)

pub obeyed : (made : Name → List ℕ) (at : Name) (j : ℕ) (js : List ℕ) (plans : Plans) → made at ≡ j ∷ js → AllMade (put at js made) plans →
    AllMade made (in_front at j plans)
unfolding in_front one_more
obeyed made at j js plans e x q = go (bytes_eq q at) refl (x q)
  where
    go : (b : Bool) → bytes_eq q at ≡ b → Extends (if_same b js (made q)) (plans q) → Extends (made q)
        (if_same b (one_more j (plans q)) (plans q))
    go true f y = subst (λ xs. Extends xs (one_more j (plans q))) (sym (ap made (is_same f) ∙ e)) (refl, y)
    go false f y = y

pub freed : (made : Name → List ℕ) (at : Name) (j : ℕ) (plans : Plans) → made at ≡ [] → AllMade made plans → AllMade made (in_front at j plans)
unfolding in_front one_more
freed made at j plans e x q = go (bytes_eq q at) refl (x q)
  where
    go : (b : Bool) → bytes_eq q at ≡ b → Extends (made q) (plans q) → Extends (made q) (if_same b (one_more j (plans q)) (plans q))
    go true f y = subst (λ xs. Extends xs (one_more j (plans q))) (sym (ap made (is_same f) ∙ e)) tt
    go false f y = y

-- a walk is a planned run, where recs turn often enough
module _ (most : ℕ) where
  walked : {made : Name → List ℕ} {at : Point} {ms : List Passing} (w : Walk made at ms) (env : Name → Future) (future : Future) →
      Stands most (moves w) at env future → moves w ≤ most → (plans : Plans) × AllMade made plans × (future plans ≡ ms)
  walked {made = made} (over o) env future st h =
      let plans : Plans = λ q. picks_of (made q) in
      (plans, (λ q. extends_itself (made q)), over_on most o env future st h plans)
  walked (quietly q w) env future st h =
      let o = quiet_on most q (moves w) env future st h in
      let r = walked w o.env o.next o.stands (omega arith) in
      (r.0, r.1, o.is r.0 ∙ r.2)
  walked (says {m = m} {rest = rest} w) env future st h =
      let p = parts most st in
      let r = walked w env (run most env rest p.behind) (p.others rest) h in
      (r.0, r.1, ap (λ f. f r.0) p.is ∙ ap (λ xs. m ∷ xs) r.2)
  walked {made = made} (obeys {at = at} {branches = branches} {m = m} {branch = branch} {rest = rest} j js e b i w) env future st h =
      let p = parts most st in
      let behind : Future = run most env rest p.behind in
      let r = walked w env (run most env branch behind) (once branch (p.others rest)) h in (
        in_front at j r.0,
        obeyed made at j js r.0 e r.1,
        ap (λ f. f (in_front at j r.0)) p.is ∙ (picked at j (run_each most env branches behind) r.0 ∙ (i most env behind r.0 ∙
            ap (λ xs. m ∷ xs) r.2)),
      )
  walked {made = made} (free {at = at} {branches = branches} {m = m} {branch = branch} {rest = rest} j e b i w) env future st h =
      let p = parts most st in
      let behind : Future = run most env rest p.behind in
      let r = walked w env (run most env branch behind) (once branch (p.others rest)) h in (
        in_front at j r.0,
        freed made at j r.0 e r.1,
        ap (λ f. f (in_front at j r.0)) p.is ∙ (picked at j (run_each most env branches behind) r.0 ∙ (i most env behind r.0 ∙
            ap (λ xs. m ∷ xs) r.2)),
      )

  pub walk_planned : (g : Global) {made : Name → List ℕ} {ms : List Passing} (w : Walk made (start g) ms) → moves w ≤ most →
      (plans : Plans) × AllMade made plans × (whole_run most g plans ≡ ms)
  walk_planned g w h = walked w (outside most) (whole_run most g) (at_start most (moves w) g) h

-- ---- points of a valid protocol

module _ (roles : List Name) where
  abbrev FineIn : Extent → Type 0
  FineIn Once = Unit {0}
  FineIn (TurnOf name body) = AreBegun body × AreBetween roles body

  abbrev pub Fine : Point → Type 0
  Fine [] = Unit {0}
  Fine (Rest left extent ∷ around) = AreBegun left × AreBetween roles left × FineIn extent × Fine around

  turned_fine : (name : Name) (at to : Point) → turned name at ≡ Some to → Fine at → Fine to
  turned_fine name [] to e f = cc
  turned_fine name (Rest left Once ∷ around) to e f = turned_fine name around to e f.3
  turned_fine name (Rest left (TurnOf other body) ∷ around) to e f = go (bytes_eq name other) e (λ i. turned_fine name around to i f.3)
    where
      go : (b : Bool) → elim b as (λ (v : Bool). Option Point) [
        | true ↦ Some (Rest body (TurnOf other body) ∷ around)
        | false ↦ turned name around
      ] ≡ Some to → (turned name around ≡ Some to → Fine to) → Fine to
      go true i ih =
          let s : (Rest body (TurnOf other body) ∷ around) ≡ to = cc in
          subst Fine s (f.2.0, f.2.1, f.2, f.3)
      go false i ih = ih i

  pub quiet_fine : {from to : Point} → Quiet from to → Fine from → Fine to
  quiet_fine points.ends f = f.3
  quiet_fine points.begins f = (f.0.0, f.1.0, (f.0.0, f.1.0), (f.0.1, f.1.1, f.2, f.3))
  quiet_fine (points.continues {name = name} {rest = rest} {extent = extent} {around = around} {to = to} e) f =
      turned_fine name (Rest rest extent ∷ around) to e f

  pub branch_fine : {branches : Branches} {m : Passing} {branch : Global} → Begins branches m branch → AreBegunIn branches →
      AreBetweenIn roles branches → AreBegun branch × IsBetween roles m × AreBetween roles branch
  branch_fine points.this a c = (a.0, c.0.0, c.0.1)
  branch_fine (points.later b) a c = branch_fine b a.1 c.1

  pub begins_by : (at : Name) {branches : Branches} {m : Passing} {branch : Global} → Begins branches m branch → BeginAt at branches →
      m.from ≡ at
  begins_by at points.this s = s.0
  begins_by at (points.later {other = other} {more = more} b) s = begins_by at b (begin_later at other more s)

  -- ---- a run to the end that goes on from choices made

  abbrev pub left_of : (Name → List ℕ) → ℕ
  left_of made = sum (λ q. length (made q)) roles

  pub fewer_left : (made : Name → List ℕ) (at : Name) (j : ℕ) (js : List ℕ) → made at ≡ j ∷ js → Contains roles at →
      left_of (put at js made) < left_of made
  fewer_left made at j js e l = sum_lt (λ q. length (put at js made q)) (λ q. length (made q)) roles each at l strict
    where
      each : (q : Name) → length (put at js made q) ≤ length (made q)
      each q = go (bytes_eq q at) refl
        where
          go : (b : Bool) → bytes_eq q at ≡ b → length (if_same b js (made q)) ≤ length (made q)
          go true f = let i : length (made q) ≡ suc (length js) = ap length (ap made (is_same f) ∙ e) in omega arith
          go false f = omega arith

      strict : length (put at js made at) < length (made at)
      strict =
          let i : length (made at) ≡ suc (length js) = ap length e in
          let k : length (put at js made at) ≡ length js = ap (λ b. length (if_same b js (made at))) (same {x = at} {y = at} refl) in
          omega arith

  abbrev Found : (Name → List ℕ) → Point → Type 0
  Found made at = (ms : List Passing) × Walk made at ms

  module _ (g : Global) where
    -- what the message that comes next leads to is reached from the start
    abbrev Leads : Point → Type 0
    Leads at = (m : Passing) (to : Point) → Next at m to → (before : List Passing) × Goes (start g) before to

    -- with fewer choices left, it is found
    abbrev Lower : (Name → List ℕ) → Type 0
    Lower made = (made' : Name → List ℕ) → left_of made' < left_of made → (to : Point) (before : List Passing) → Goes (start g) before to →
        Fine to → Found made' to

    pub goes_both : {a b c : Point} {ms ns : List Passing} → Goes a ms b → Goes b ns c → Goes a (ms ++ ns) c
    goes_both points.stays s = s
    goes_both (points.next n r) s = points.next n (goes_both r s)

    next_found : {at to : Point} {m : Passing} → Next at m to → Leads at → Fine at → (made : Name → List ℕ) → (Fine to → Found made to) →
        Lower made → Found made at
    next_found (points.quietly q n) leads f made on lower =
        let r = next_found n (λ m to k. leads m to (points.quietly q k)) (quiet_fine q f) made on lower in
        (r.0, quietly q r.1)
    next_found (points.says {m = m}) leads f made on lower = let r = on (f.0, f.1.1, f.2, f.3) in (m ∷ r.0, says r.1)
    next_found (points.chooses {at = at} {branches = branches} {m = m} {branch = branch} {rest = rest} {extent = extent} {around = around}
        b) leads f made on lower = go (made at) refl
      where
        inner : (m : Passing) (branch : Global) → Begins branches m branch → Fine (Rest branch Once ∷ Rest rest extent ∷ around)
        inner m branch b = let x = branch_fine b f.0.2 f.1.0 in (x.0, x.2, tt, (f.0.3, f.1.1, f.2, f.3))

        go : (xs : List ℕ) → made at ≡ xs → Found made (Rest (Choice at branches rest) extent ∷ around)
        go [] e = let r = on (inner m branch b) in let i = has_number b in (m ∷ r.0, free i.0 e b i.1 r.1)
        go (j ∷ js) e =
            let t = numbered at branches f.0.0 f.0.1 j in
            let to : Point = Rest t.branch Once ∷ Rest rest extent ∷ around in
            let l : Contains roles at = subst (Contains roles) (begins_by at t.begins f.0.1) (branch_fine t.begins f.0.2 f.1.0).1.0 in
            let k = leads t.m to (points.chooses t.begins) in
            let r = lower (put at js made) (fewer_left made at j js e l) to k.0 k.1 (inner t.m t.branch t.begins) in
            (t.m ∷ r.0, obeys j js e t.begins t.is r.1)

    goes_found : {at end : Point} {more : List Passing} → Goes at more end → Over end → (before : List Passing) → Goes (start g) before at →
        Fine at → (made : Name → List ℕ) → Lower made → Found made at
    goes_found points.stays o before r f made lower = ([], over o)
    goes_found (points.next {m = m} n rs) o before r f made lower =
        next_found n (λ k to i. (before ++ k ∷ [], goes_both r (points.next i points.stays))) f made
        (λ f'. goes_found rs o (before ++ m ∷ []) (goes_both r (points.next n points.stays)) f' made lower) lower

    found : CanEnd g → (k : ℕ) (made : Name → List ℕ) → left_of made ≤ k → (to : Point) (before : List Passing) →
        Goes (start g) before to → Fine to → Found made to
    found can zero made h to before r f =
        let e = can before to r in
        goes_found e.2 e.3 before r f made (λ made' l. absurd (omega arith))
    found can (suc k) made h to before r f =
        let e = can before to r in
        goes_found e.2 e.3 before r f made (λ made' l. found can k made' (omega arith))

    pub walk_found : CanEnd g → AreBegun g → AreBetween roles g → (made : Name → List ℕ) → (ms : List Passing) × Walk made (start g) ms
    walk_found can b a made = found can (left_of made) made (omega arith) (start g) [] points.stays (b, a, tt, tt)
