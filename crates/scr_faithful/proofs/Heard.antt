-- What roles have done so far is part of a conversation, which needn't come to an end.
use Rattle.std.proofs.Common.{◌≡◌, ◌≢◌, ℕ, zero, suc, ◌+◌, ◌<◌, ◌≤◌, List, [], ◌∷◌, ◌++◌, length, refl, sym, ap, ap₂, ◌∙◌, subst, inl, inr, ◌⊎◌}
use Rattle.std.proofs.Common.{⊎_elim, Bool, true, false, arith, append_assoc}
use Rattle.std.proofs.lemmas.List.{append-nil, length-append}
use Rattle.std.specs.Prelude.{Contains}
use Rattle.std.specs.Str.{bytes_eq}
use Rattle.mg_text.specs.Call.{Name}
use Rattle.scr_tree.specs.Tree.{LocalTree}
use Rattle.scr_tree.specs.Protocol.{Message}
use Rattle.scr_tree.specs.Steps.{Act, Moves, Looks, Position, whole}
use Rattle.scr_tree.specs.Steps as steps
use Rattle.scr_global.specs.Alone.{Silent, Step, Run, Finished}
use Rattle.scr_global.specs.Global.{Passing, Global, Says, Choice, Branches}
use Rattle.scr_global.specs.Points.{Extent, Once, Layer, Rest, Point, start, Quiet, Begins, Next, Goes}
use Rattle.scr_global.specs.Points as points
use Rattle.scr_global.specs.Systems.{System, Moved, sends, takes, looks, Reaches, here, after, if_same, put}
use Rattle.scr_global.specs.Laws.{named, messages_of, AreProjections, IsReached}
use Rattle.scr_global.proofs.Premises.{Projections, protocols_of, premises}
use Rattle.scr_global.proofs.Names.{is_same, first_or_later, none_contained, first_in, later_in}
use Rattle.scr_global.proofs.Plans.{Plans, Future, run, run_each, outside, whole_run}
use Rattle.scr_global.proofs.Following.{one_silent}
use Rattle.scr_global.proofs.Stepping.{Extends, picks_of, extends_itself}
use Rattle.scr_global.proofs.Between.{named_both}
use Rattle.scr_global.proofs.Holding.{Ahead, Holds}
use Rattle.scr_global.proofs.Followed.{Stands, once, parts, quiet_on, at_start, did}
use Rattle.scr_faithful.specs.Faithful.{acts_on}
use Rattle.scr_faithful.specs.Heard.{NoneIsForgotten, CanDoMore, EachHasDoneAPart}
use Rattle.scr_faithful.proofs.Counting.{named_short}
use Rattle.scr_faithful.proofs.Doing.{Kept, kept, picks_on}
use Rattle.scr_faithful.proofs.Walks.{IsAt, numbered, has_number, AllMade, in_front, picked, obeyed, freed, Fine, quiet_fine, branch_fine}
use Rattle.scr_faithful.proofs.Walks.{begins_by, left_of, fewer_left, goes_both}

-- ---- trips

-- A run in which each role first makes these choices, as far as they are met; those that are left are told.
data Trip : (Name → List ℕ) → Point → List Passing → Point → (Name → List ℕ) → Type 0 where
  stops : {made : Name → List ℕ} {at : Point} → Trip made at [] at made
  quietly : {made left : Name → List ℕ} {from to end : Point} {ms : List Passing} → Quiet from to → Trip made to ms end left →
      Trip made from ms end left
  says : {made left : Name → List ℕ} {m : Passing} {rest : Global} {extent : Extent} {around end : Point} {ms : List Passing} →
      Trip made (Rest rest extent ∷ around) ms end left → Trip made (Rest (Says m rest) extent ∷ around) (m ∷ ms) end left
  obeys : {made left : Name → List ℕ} {at : Name} {branches : Branches} {m : Passing} {branch rest : Global} {extent : Extent}
      {around end : Point} {ms : List Passing} (j : ℕ) (js : List ℕ) → made at ≡ j ∷ js → Begins branches m branch →
      IsAt branches j m branch → Trip (put at js made) (Rest branch Once ∷ Rest rest extent ∷ around) ms end left →
      Trip made (Rest (Choice at branches rest) extent ∷ around) (m ∷ ms) end left
  free : {made left : Name → List ℕ} {at : Name} {branches : Branches} {m : Passing} {branch rest : Global} {extent : Extent}
      {around end : Point} {ms : List Passing} (j : ℕ) → made at ≡ [] → Begins branches m branch → IsAt branches j m branch →
      Trip made (Rest branch Once ∷ Rest rest extent ∷ around) ms end left →
      Trip made (Rest (Choice at branches rest) extent ∷ around) (m ∷ ms) end left

trip_both : {made mid left : Name → List ℕ} {a b c : Point} {ms ns : List Passing} → Trip made a ms b mid → Trip mid b ns c left →
    Trip made a (ms ++ ns) c left
trip_both stops t = t
trip_both (quietly q s) t = quietly q (trip_both s t)
trip_both (says s) t = says (trip_both s t)
trip_both (obeys j js e b i s) t = obeys j js e b i (trip_both s t)
trip_both (free j e b i s) t = free j e b i (trip_both s t)

abbrev moves : {made left : Name → List ℕ} {at end : Point} {ms : List Passing} → Trip made at ms end left → ℕ
moves stops = 0
moves (quietly q w) = suc (moves w)
moves (says w) = moves w
moves (obeys j js e b i w) = moves w
moves (free j e b i w) = moves w

-- a trip is the first part of a planned run, where recs turn often enough
module _ (most : ℕ) where
  tripped : {made left : Name → List ℕ} {at end : Point} {ms : List Passing} (w : Trip made at ms end left) (env : Name → Future)
      (future : Future) → Stands most (moves w) at env future → moves w ≤ most →
      (plans : Plans) × AllMade made plans × (more : List Passing) × (future plans ≡ ms ++ more)
  tripped {made = made} stops env future st h =
      let plans : Plans = λ q. picks_of (made q) in
      (plans, (λ q. extends_itself (made q)), future plans, refl)
  tripped (quietly q w) env future st h =
      let o = quiet_on most q (moves w) env future st h in
      let r = tripped w o.env o.next o.stands (omega arith) in
      (r.0, r.1, r.2, o.is r.0 ∙ r.3)
  tripped (says {m = m} {rest = rest} w) env future st h =
      let p = parts most st in
      let r = tripped w env (run most env rest p.behind) (p.others rest) h in
      (r.0, r.1, r.2, ap (λ f. f r.0) p.is ∙ ap (λ xs. m ∷ xs) r.3)
  tripped {made = made} (obeys {at = at} {branches = branches} {m = m} {branch = branch} {rest = rest} j js e b i w) env future st h =
      let p = parts most st in
      let behind : Future = run most env rest p.behind in
      let r = tripped w env (run most env branch behind) (once branch (p.others rest)) h in (
        in_front at j r.0,
        obeyed made at j js r.0 e r.1,
        r.2,
        ap (λ f. f (in_front at j r.0)) p.is ∙ (picked at j (run_each most env branches behind) r.0 ∙ (i most env behind r.0 ∙
            ap (λ xs. m ∷ xs) r.3)),
      )
  tripped {made = made} (free {at = at} {branches = branches} {m = m} {branch = branch} {rest = rest} j e b i w) env future st h =
      let p = parts most st in
      let behind : Future = run most env rest p.behind in
      let r = tripped w env (run most env branch behind) (once branch (p.others rest)) h in (
        in_front at j r.0,
        freed made at j r.0 e r.1,
        r.2,
        ap (λ f. f (in_front at j r.0)) p.is ∙ (picked at j (run_each most env branches behind) r.0 ∙ (i most env behind r.0 ∙
            ap (λ xs. m ∷ xs) r.3)),
      )

-- ---- one message more

module _ (roles : List Name) where
  data One (left : Name → List ℕ) (at to : Point) (m : Passing) : Type 0 where
    followed : Trip left at (m ∷ []) to left → Fine roles to → One left at to m
    turned : (m' : Passing) (to' : Point) (left' : Name → List ℕ) → Next at m' to' → left_of roles left' < left_of roles left →
        Trip left at (m' ∷ []) to' left' → Fine roles to' → One left at to m

  behind_quiet : {from mid to : Point} {m : Passing} {left : Name → List ℕ} → Quiet from mid → One left mid to m → One left from to m
  behind_quiet q (followed t fine) = followed (quietly q t) fine
  behind_quiet q (turned m' to' left' n' lt t fine) = turned m' to' left' (points.quietly q n') lt (quietly q t) fine

  one_on : {at to : Point} {m : Passing} → Next at m to → Fine roles at → (left : Name → List ℕ) → One left at to m
  one_on (points.quietly q n) f left = behind_quiet q (one_on n (quiet_fine roles q f) left)
  one_on points.says f left = followed (says stops) (f.0, f.1.1, f.2, f.3)
  one_on (points.chooses {at = at} {branches = branches} {m = m} {branch = branch} {rest = rest} {extent = extent} {around = around} b) f
      left = go (left at) refl
    where
      inner : (m : Passing) (branch : Global) → Begins branches m branch → Fine roles (Rest branch Once ∷ Rest rest extent ∷ around)
      inner m branch b = let x = branch_fine roles b f.0.2 f.1.0 in (x.0, x.2, tt, (f.0.3, f.1.1, f.2, f.3))

      go : (xs : List ℕ) → left at ≡ xs → One left (Rest (Choice at branches rest) extent ∷ around)
          (Rest branch Once ∷ Rest rest extent ∷ around) m
      go [] e = let i = has_number b in followed (free i.0 e b i.1 stops) (inner m branch b)
      go (j ∷ js) e =
          let t = numbered at branches f.0.0 f.0.1 j in
          let l : Contains roles at = subst (Contains roles) (begins_by roles at t.begins f.0.1)
          (branch_fine roles t.begins f.0.2 f.1.0).1.0 in
          turned t.m (Rest t.branch Once ∷ Rest rest extent ∷ around) (put at js left) (points.chooses t.begins)
          (fewer_left roles left at j js e l) (obeys j js e t.begins t.is stops) (inner t.m t.branch t.begins)

  -- ---- as far as it has come

  module _ (g : Global) (made : Name → List ℕ) where
    record State : Type 0 where
      ms : List Passing
      at : Point
      left : Name → List ℕ
      trip : Trip made (start g) ms at left
      goes : Goes (start g) ms at
      fine : Fine roles at

    -- no role is named less often
    abbrev Grown : State → State → Type 0
    Grown s t = (q : Name) → length (named q s.ms) ≤ length (named q t.ms)

    named_more : (q : Name) (xs ys : List Passing) → length (named q (xs ++ ys)) ≡ length (named q xs) + length (named q ys)
    named_more q xs ys = ap length (named_both q xs ys) ∙ length-append (named q xs) (named q ys)

    many_on : (s : State) {to : Point} {more : List Passing} → Goes s.at more to →
        (t : State) × ((left_of roles t.left < left_of roles s.left) ⊎ ((t.left ≡ s.left) × (t.ms ≡ s.ms ++ more)))
    many_on s points.stays = (s, inr (refl, sym (append-nil s.ms)))
    many_on s (points.next {to = to} {m = m} {ms = more} n r) = go (one_on n s.fine s.left) (λ t fine. many_on (record {
      ms = s.ms ++ m ∷ [];
      at = to;
      left = s.left;
      trip = trip_both s.trip t;
      goes = goes_both roles g s.goes (points.next n points.stays);
      fine = fine;
    }) r)
      where
        go : One s.left s.at to m → (Trip s.left s.at (m ∷ []) to s.left → Fine roles to → (t : State)
            × ((left_of roles t.left < left_of roles s.left) ⊎ ((t.left ≡ s.left) × (t.ms ≡ (s.ms ++ m ∷ []) ++ more)))) →
            (t : State) × ((left_of roles t.left < left_of roles s.left) ⊎ ((t.left ≡ s.left) × (t.ms ≡ s.ms ++ m ∷ more)))
        go (followed t fine) on =
            let x = on t fine in
            (x.0, ⊎_elim (λ l. inl l) (λ h. inr (h.0, h.1 ∙ append_assoc s.ms (m ∷ []) more)) x.1)
        go (turned m' to' left' n' lt t fine) on = (
          record {
            ms = s.ms ++ m' ∷ [];
            at = to';
            left = left';
            trip = trip_both s.trip t;
            goes = goes_both roles g s.goes (points.next n' points.stays);
            fine = fine;
          },
          inl lt,
        )

    -- what each role has done is told by a number
    module _ (many : Name → ℕ) (hear : (s : State) (q : Name) → Contains roles q →
        ((more : List Passing) × (to : Point) × Goes s.at more to × (named q more ≢ [])) ⊎ (many q ≤ length (named q s.ms))) where
      abbrev Covered : State → Name → Type 0
      Covered s q = many q ≤ length (named q s.ms)

      -- fewer choices are left, or this is so
      abbrev Or : State → (State → Type 0) → Type 0
      Or s P = (t : State) × ((left_of roles t.left < left_of roles s.left) ⊎ ((t.left ≡ s.left) × Grown s t × P t))

      some_named : (ms : List Message) → ms ≢ [] → 1 ≤ length ms
      some_named [] h = absurd (h refl)
      some_named (m ∷ ms) h = omega arith

      join : (s t : State) (P : State → Type 0) → t.left ≡ s.left → Grown s t → Or t P → Or s P
      join s t P e gr (u, inl lt) = (u, inl (subst (λ x. left_of roles u.left < left_of roles x) e lt))
      join s t P e gr (u, inr (e', gr', p)) = (u, inr (e' ∙ e, (λ q. let a = gr q in let b = gr' q in omega arith), p))

      after_many : (s : State) (q : Name) (k : ℕ) (more : List Passing) → named q more ≢ [] → many q ≤ length (named q s.ms) + suc k →
          ((t : State) → many q ≤ length (named q t.ms) + k → Or t (λ u. Covered u q)) →
          (t : State) × ((left_of roles t.left < left_of roles s.left) ⊎ ((t.left ≡ s.left) × (t.ms ≡ s.ms ++ more))) →
          Or s (λ u. Covered u q)
      after_many s q k more ne h ih (t, inl lt) = (t, inl lt)
      after_many s q k more ne h ih (t, inr (e, f)) =
          join s t (λ u. Covered u q) e (λ p. let a = grown p in omega arith)
          (ih t (let a = grown q in let b = some_named (named q more) ne in omega arith))
        where
          grown : (p : Name) → length (named p t.ms) ≡ length (named p s.ms) + length (named p more)
          grown p = ap (λ x. length (named p x)) f ∙ named_more p s.ms more

      cover_role : (k : ℕ) (s : State) (q : Name) → Contains roles q → many q ≤ length (named q s.ms) + k → Or s (λ t. Covered t q)
      cover_role zero s q l h = (s, inr (refl, (λ p. omega arith), omega arith))
      cover_role (suc k) s q l h =
          ⊎_elim (λ x. after_many s q k x.0 x.3 h (λ t i. cover_role k t q l i) (many_on s x.2))
          (λ c. (s, inr (refl, (λ p. omega arith), c))) (hear s q l)

      and_first : (s : State) (q : Name) (qs : List Name) → Covered s q → Or s (λ t. (p : Name) → Contains qs p → Covered t p) →
          Or s (λ t. (p : Name) → Contains (q ∷ qs) p → Covered t p)
      and_first s q qs c (t, inl lt) = (t, inl lt)
      and_first s q qs c (t, inr (e, gr, all)) = (
        t,
        inr (
          e,
          gr,
          λ p i. ⊎_elim (λ (x : q ≡ p). subst (Covered t) x (let a = gr q in omega arith)) (λ d. all p d)
              (first_or_later q qs p i),
        ),
      )

      cover_all : (qs : List Name) → ((q : Name) → Contains qs q → Contains roles q) → (s : State) →
          Or s (λ t. (q : Name) → Contains qs q → Covered t q)
      cover_all [] within s = (s, inr (refl, (λ p. omega arith), λ q c. absurd (none_contained q c)))
      cover_all (q ∷ qs) within s = go (cover_role (many q) s q (within q (first_in q qs q refl)) (omega arith))
          (λ t. cover_all qs (λ p c. within p (later_in q qs p c)) t)
        where
          go : Or s (λ t. Covered t q) → ((t : State) → Or t (λ u. (p : Name) → Contains qs p → Covered u p)) →
              Or s (λ t. (p : Name) → Contains (q ∷ qs) p → Covered t p)
          go (t, inl lt) all = (t, inl lt)
          go (t, inr (e, gr, c)) all = join s t (λ u. (p : Name) → Contains (q ∷ qs) p → Covered u p) e gr (and_first t q qs c (all t))

      cover : (k : ℕ) (s : State) → left_of roles s.left ≤ k → (t : State) × ((q : Name) → Contains roles q → Covered t q)
      cover zero s h = go (cover_all roles (λ q c. c) s)
        where
          go : Or s (λ t. (q : Name) → Contains roles q → Covered t q) → (t : State) × ((q : Name) → Contains roles q → Covered t q)
          go (t, inl lt) = absurd (omega arith)
          go (t, inr (e, gr, all)) = (t, all)
      cover (suc k) s h = go (cover_all roles (λ q c. c) s) (λ t i. cover k t i)
        where
          go : Or s (λ t. (q : Name) → Contains roles q → Covered t q) → ((t : State) → left_of roles t.left ≤ k → (u : State)
              × ((q : Name) → Contains roles q → Covered u q)) → (t : State) × ((q : Name) → Contains roles q → Covered t q)
          go (t, inl lt) lower = lower t (omega arith)
          go (t, inr (e, gr, all)) lower = (t, all)

-- ---- runs of a role

run_more : {p q r : Position} {acts : List Act} {act : Act} → Run p acts q → Step q act r → Run p (acts ++ act ∷ []) r
run_more steps.stays step = steps.goes step steps.stays
run_more (steps.goes s r) step = steps.goes s (run_more r step)

stepped : {me : Name} {c d : System} {act : Act} → Moved me c act d → (to : Position) × Step (c.at me) act to × (d.at ≡ put me to c.at)
stepped (sends {to = to} step) = (to, step, refl)
stepped (takes {to = to} step found) = (to, step, refl)
stepped (looks {to = to} step found) = (to, step, refl)

-- what a role does on a path is a run
run_on : {roles : List Name} {b c : System} (path : Reaches roles b c) (q : Name) → Run (b.at q) (acts_on path q) (c.at q)
run_on here q = steps.stays
run_on {b = b} {c = c} (after {d = d} {me = me} {act = act} path l m) q =
    let s = stepped m in
    subst (λ at. Run (b.at q) (put me (acts_on path me ++ act ∷ []) (acts_on path) q) (at q)) (sym s.2)
    (go (bytes_eq q me) refl s.0 (run_more (run_on path me) s.1) (run_on path q))
  where
    go : (v : Bool) → bytes_eq q me ≡ v → (to : Position) → Run (b.at me) (acts_on path me ++ act ∷ []) to →
        Run (b.at q) (acts_on path q) (d.at q) →
        Run (b.at q) (if_same v (acts_on path me ++ act ∷ []) (acts_on path q)) (if_same v to (d.at q))
    go true e to mine theirs = subst (λ z. Run (b.at z) (acts_on path me ++ act ∷ []) to) (sym (is_same e)) mine
    go false e to mine theirs = theirs

record Split (acts : List Act) (xs ys : List Message) : Type 0 where
  front : List Act
  back : List Act
  is : acts ≡ front ++ back
  first : messages_of front ≡ xs
  second : messages_of back ≡ ys

heads : {A : Type 0} {x y : A} {xs ys : List A} → x ∷ xs ≡ y ∷ ys → x ≡ y
heads e = cc

tails : {A : Type 0} {x y : A} {xs ys : List A} → x ∷ xs ≡ y ∷ ys → xs ≡ ys
tails e = cc

split : (acts : List Act) (xs ys : List Message) → messages_of acts ≡ xs ++ ys → Split acts xs ys
split acts [] ys e = record { front = []; back = acts; is = refl; first = refl; second = e }
split [] (x ∷ xs) ys e = absurd (cc e)
split (Moves m ∷ acts) (x ∷ xs) ys e =
    let s = split acts xs ys (tails e) in record {
      front = Moves m ∷ s.front;
      back = s.back;
      is = ap (λ rest. Moves m ∷ rest) s.is;
      first = ap₂ (λ (y : Message) (l : List Message). y ∷ l) (heads e) s.first;
      second = s.second;
    }
split (Looks n p l ∷ acts) (x ∷ xs) ys e =
    let s = split acts (x ∷ xs) ys e in record {
      front = Looks n p l ∷ s.front;
      back = s.back;
      is = ap (λ rest. Looks n p l ∷ rest) s.is;
      first = s.first;
      second = s.second;
    }

run_split : {p q : Position} (front back : List Act) → Run p (front ++ back) q → (at : Position) × Run p front at × Run at back q
run_split {p} [] back r = (p, steps.stays, r)
run_split (a ∷ front) back (steps.goes s r) = let x = run_split front back r in (x.0, steps.goes s x.1, x.2)

step_after : {at to end : Position} {act : Act} → Silent at to → Step at act end → Step to act end
step_after {end = end} {act = act} s (steps.silently t step) = subst (λ p. Step p act end) (one_silent t s) step
step_after s steps.moves = elim s [ ]
step_after s (steps.chooses h) = elim s [ ]
step_after s (steps.looks h) = elim s [ ]

finished_stops : {at end : Position} {act : Act} → Finished at → Step at act end → ⊥
finished_stops steps.nothing_left (steps.silently s step) = elim s [ ]
finished_stops (steps.after_silent s f) step = finished_stops f (step_after s step)

nothing_after : {at end : Position} {acts : List Act} → Finished at → Run at acts end → acts ≡ []
nothing_after f steps.stays = refl
nothing_after f (steps.goes s r) = absurd (finished_stops f s)

-- one of two beginnings of a list is the first part of the other
record Shorter (xs ys us vs : List Message) : Type 0 where
  mid : List Message
  is : xs ≡ us ++ mid
  behind : vs ≡ mid ++ ys

record Longer (xs us : List Message) : Type 0 where
  x : Message
  mid : List Message
  is : us ≡ xs ++ x ∷ mid

compare : (xs ys us vs : List Message) → xs ++ ys ≡ us ++ vs → Shorter xs ys us vs ⊎ Longer xs us
compare xs ys [] vs e = inl (record { mid = xs; is = refl; behind = sym e })
compare [] ys (u ∷ us) vs e = inr (record { x = u; mid = us; is = refl })
compare (x ∷ xs) ys (u ∷ us) vs e =
    ⊎_elim
    (λ s. inl (record {
      mid = s.mid;
      is = ap₂ (λ (y : Message) (l : List Message). y ∷ l) (heads e) s.is;
      behind = s.behind;
    }))
    (λ l. inr (record { x = l.x; mid = l.mid; is = ap₂ (λ (y : Message) (k : List Message). y ∷ k) (sym (heads e)) l.is }))
    (compare xs ys us vs (tails e))

-- ---- the law

module _ (roles : List Name) (g : Global) (locals : Name → LocalTree) (given : AreProjections roles g locals)
    (heard : NoneIsForgotten roles g locals) (c : System) (path : IsReached roles locals c) where
  abbrev are : Projections roles g (protocols_of locals)
  are = premises given

  steps_done : ℕ
  steps_done = (kept roles g (protocols_of locals) are path refl).0

  now : (n : ℕ) → Kept roles g (protocols_of locals) are (steps_done + n) n c (acts_on path) (picks_on path)
  unfolding steps_done
  now n = (kept roles g (protocols_of locals) are path refl).1 (steps_done + n) n refl

  abbrev Reached_so : Type 0
  Reached_so = State roles g (picks_on path)

  abbrev did_of : Name → List Message
  did_of q = messages_of (acts_on path q)

  -- a state, and what each role has done
  module _ (s : Reached_so) where
    abbrev later : ℕ
    later = suc (length s.ms) + moves s.trip

    abbrev most : ℕ
    most = steps_done + later

    planned : (plans : Plans) × AllMade (picks_on path) plans × (more : List Passing) × (whole_run most g plans ≡ s.ms ++ more)
    planned = tripped most s.trip (outside most) (whole_run most g) (at_start most (moves s.trip) g) (omega arith)

    abbrev kept_now : Holds roles g (protocols_of locals) are most later c
    kept_now = (now later).0

    ahead : (q : Name) (l : Contains roles q) →
        Ahead (named q (whole_run most g planned.0)) (kept_now.done q) later (Rattle.scr_global.proofs.Stepping.beyond (kept_now.made q) (planned.0 q)) (c.at q)
    ahead q l = kept_now.agree planned.0 (λ p m. subst (λ js. Extends js (planned.0 p)) (sym ((now later).2 p)) (planned.1 p)) q l

    both : (q : Name) (l : Contains roles q) → named q s.ms ++ named q planned.2 ≡ did_of q ++ (ahead q l).rest
    both q l =
        sym (named_both q s.ms planned.2) ∙ ap (named q) (sym planned.3) ∙ (ahead q l).is
        ∙ ap (λ ms. ms ++ (ahead q l).rest) ((now later).1 q)

    compared : (q : Name) (l : Contains roles q) → Shorter (named q s.ms) (named q planned.2) (did_of q) (ahead q l).rest
        ⊎ Longer (named q s.ms) (did_of q)
    compared q l = compare (named q s.ms) (named q planned.2) (did_of q) (ahead q l).rest (both q l)

    -- a role that has nothing more to do has done no more
    covers : (q : Name) → Contains roles q → ((acts : List Act) (end : Position) → Run (whole (protocols_of locals q)) acts end →
        messages_of acts ≡ named q s.ms → Finished end) → length (did_of q) ≤ length (named q s.ms)
    covers q l over = ⊎_elim
        (λ x. let e : length (named q s.ms) ≡ length (did_of q) + length x.mid = ap length x.is ∙ length-append (did_of q) x.mid in
        omega arith)
        (λ x. absurd (go x)) (compared q l)
      where
        nothing : {x : Message} {xs : List Message} → [] ≡ x ∷ xs → ⊥
        nothing e = cc

        go : Longer (named q s.ms) (did_of q) → ⊥
        go x =
            let p = split (acts_on path q) (named q s.ms) (x.x ∷ x.mid) x.is in
            let r = run_split p.front p.back (subst (λ done. Run (whole (protocols_of locals q)) done (c.at q)) p.is (run_on path q)) in
            nothing (sym (ap messages_of (nothing_after (over p.front r.0 r.1 p.first) r.2)) ∙ p.second)

    can_do : (q : Name) (l : Contains roles q) → length (did_of q) ≤ length (named q s.ms) → CanDoMore (c.at q) (did_of q) (named q s.ms)
    can_do q l h = ⊎_elim does
        (λ x. absurd (let e : length (did_of q) ≡ length (named q s.ms) + suc (length x.mid) =
        ap length x.is ∙ length-append (named q s.ms) (x.x ∷ x.mid) in omega arith)) (compared q l)
      where
        does : Shorter (named q s.ms) (named q planned.2) (did_of q) (ahead q l).rest → CanDoMore (c.at q) (did_of q) (named q s.ms)
        does x =
            let e : length (named q s.ms) ≡ length (did_of q) + length x.mid = ap length x.is ∙ length-append (did_of q) x.mid in
            let short = named_short q s.ms in
            let d = did (ahead q l).follows x.mid (named q planned.2) x.behind (omega arith) in
            record { acts = d.acts; end = d.end; run = d.ran; are = x.is ∙ ap (λ ms. did_of q ++ ms) (sym d.are) }

  hear : (s : Reached_so) (q : Name) → Contains roles q →
      ((more : List Passing) × (to : Point) × Goes s.at more to × (named q more ≢ [])) ⊎ (length (did_of q) ≤ length (named q s.ms))
  hear s q l = ⊎_elim (λ x. inl x) (λ over. inr (covers s q l over)) (heard s.ms s.at s.goes q l)

  start_state : Reached_so
  start_state = record {
    ms = [];
    at = start g;
    left = picks_on path;
    trip = stops;
    goes = points.stays;
    fine = (are.valid.begun, are.valid.between, tt, tt);
  }

  all_covered : (t : Reached_so) × ((q : Name) → Contains roles q → length (did_of q) ≤ length (named q t.ms))
  all_covered = cover roles g (picks_on path) (λ q. length (did_of q)) hear (left_of roles start_state.left) start_state (omega arith)

  part : (messages : List Passing) × (point : Point) × Goes (start g) messages point
      × ((me : Name) → Contains roles me → CanDoMore (c.at me) (messages_of (acts_on path me)) (named me messages))
  part =
      let t = all_covered.0 in
      (t.ms, t.at, t.goes, λ q l. can_do t q l (all_covered.1 q l))

pub each_has_done_a_part : EachHasDoneAPart
each_has_done_a_part roles g locals given heard c path = part roles g locals given heard c path
