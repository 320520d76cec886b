-- Branches, loops and lists of statements: code of their parts makes the code of the whole.
use Rattle.std.proofs.Common.{◌≡◌, ℕ, suc, Bool, true, false, List, [], ◌∷◌, Option, Some, None, subst}
use Rattle.std.specs.Prelude.{slice_get, nat_eq, if◌then◌else◌}
use Rattle.jv_values.specs.Values.{Inputs, Lives}
use Rattle.jv_values.specs.Doing.{Run, Outcome, Gives, Ends, and_then, ◌>>=◌, give}
use Rattle.jv_values.specs.Statements.{Completion, Normal, Breaks, Continues, Returns, Does, next_do, after_body, while_turn, do_turn}
use Rattle.jv_core.specs.Tree.{Method, Program}
use Rattle.jv_core.specs.Conditions.{IsCore}
use Rattle.jv_core.specs.Meaning.{mine}
use Rattle.vm_model.specs.Program as linked
use Rattle.vm_model.specs.Links.{Outline}
use Rattle.vm_model.specs.Step.{step}
use Rattle.gen_rules.specs.Symbolic.{Instr, goto}
use Rattle.gen_rules.specs.Around.{Around, Loop, break_to, continue_to}
use Rattle.jv_sound.proofs.Worlds.{World, same_world, Runs}
use Rattle.jv_sound.proofs.Completions.{Living}
use Rattle.jv_sound.proofs.Executions.{On, on_more}
use Rattle.gen_sound.specs.Following.{Moment, Follows}
use Rattle.gen_sound.specs.Related.{Running, moment, RunsCode}
use Rattle.gen_sound.proofs.Slots.{turned}
use Rattle.gen_sound.proofs.Completing.{Stand, Leap, Complete, DoesHere, goes_on, goes_paid, good_then, leap_stands, goto_leaps}
use Rattle.gen_sound.proofs.Completing.{completes_closed}

module _ (p : Program) (ok : IsCore p) (os : List Outline) (program : linked.Program) (inputs : Inputs) (me : ℕ) (r : Running) (m : Method)
    (code : List Instr) (runs : RunsCode p os program me r m code) (this : Option ℕ) (n : ℕ) (sc : List ℕ) where
  abbrev S : (place : ℕ) → Moment → Lives ℕ → Type 0
  S = Stand p ok os program inputs me r m code runs this

  abbrev L : (place : ℕ) → Moment → Lives ℕ → Type 0
  L = Leap p ok os program inputs me r m code runs this

  abbrev C : List Around → (to : ℕ) → Moment → Completion ℕ → Lives ℕ → Type 0
  C = Complete p ok os program inputs me r m code runs this

  abbrev F : {A : Type 0} → (Moment → A → Lives ℕ → Type 0) → Moment → Outcome (Lives ℕ) A → Type 0
  F R c o = Follows (step program me) (suc n) R c o

  -- with the whole budget, and with one less
  abbrev pub Does_here : {A : Type 0} → (Moment → A → Lives ℕ → Type 0) → (from : ℕ) → Run (Lives ℕ) A → Type 0
  Does_here R from run = DoesHere p ok os program inputs me r m code runs this (suc n) sc R from run

  abbrev pub Does_below : {A : Type 0} → (Moment → A → Lives ℕ → Type 0) → (from : ℕ) → Run (Lives ℕ) A → Type 0
  Does_below R from run = DoesHere p ok os program inputs me r m code runs this n sc R from run

  abbrev pub Well : {A : Type 0} → (World → A → Type 0) → Run (Lives ℕ) A → Type 0
  Well P run = (w : World) → On p ok m this w → Runs (Living p ok m sc) P w run

  -- behind a test: here where it is true, there where it is false; and the other way round
  abbrev pub UnlessStand : (target to : ℕ) → Moment → Bool → Lives ℕ → Type 0
  UnlessStand target to c true s = S to c s
  UnlessStand target to c false s = L target c s

  abbrev pub WhenStand : (target to : ℕ) → Moment → Bool → Lives ℕ → Type 0
  WhenStand target to c true s = L target c s
  WhenStand target to c false s = S to c s

  abbrev Any : World → Bool → Type 0
  Any w b = Unit {0}

  on : (from : ℕ) (ts : List Around) (to : ℕ) (run : Does ℕ) → Does_here (C ts to) from run → (c : Moment) (w : World) (s : Lives ℕ) →
      On p ok m this w → Living p ok m sc w s → S from c s → F (C ts to) c (run s)
  on from ts to run d = goes_on p ok os program inputs me r m code runs this (suc n) sc (C ts to)
      (completes_closed p ok os program inputs me r m code runs this ts to) from run d

  paid : (from : ℕ) (ts : List Around) (to : ℕ) (run : Does ℕ) → Does_below (C ts to) from run → (c : Moment) (w : World) (s : Lives ℕ) →
      On p ok m this w → Living p ok m sc w s → L from c s → F (C ts to) c (run s)
  paid from ts to run d = goes_paid p ok os program inputs me r m code runs this n sc (C ts to)
      (completes_closed p ok os program inputs me r m code runs this ts to) from run d

  stands : (place : ℕ) (c : Moment) (s : Lives ℕ) → L place c s → S place c s
  stands = leap_stands p ok os program inputs me r m code runs this

  jumps : (place target : ℕ) (c : Moment) (s : Lives ℕ) → slice_get code place ≡ Some (goto target) → S place c s → L target c s
  jumps = goto_leaps p ok os program inputs me r m code runs this

  first : {A B : Type 0} (R : Moment → A → Lives ℕ → Type 0) (R' : Moment → B → Lives ℕ → Type 0) (P : World → A → Type 0) (w : World)
      (c : Moment) (s : Lives ℕ) (run : Run (Lives ℕ) A) (f : A → Run (Lives ℕ) B) → On p ok m this w → Living p ok m sc w s → Well P run →
      F R c (run s) →
      ((x : World) (a : A) (u : Lives ℕ) → On p ok m this x → Living p ok m sc x u → R c a u → F R' c (f a u)) →
      F R' c (and_then (run s) f)
  first R R' P w c s run f mine living well h k = good_then p ok os program inputs me r m code runs this (suc n) R R' (Living p ok m sc) P w
      c
      (run s) f ((well w mine).run w (same_world w) s living) h
      (λ x a u q l is got. k x a u (on_more p ok m this q mine) l got)

  -- a branch that may be left out
  pub if_does : (ts : List Around) (from mid to : ℕ) (test : Run (Lives ℕ) Bool) (x : Does ℕ) → Well Any test →
      Does_here (UnlessStand to mid) from test → Does_here (C ts to) mid x →
      Does_here (C ts to) from (test >>= λ t. if t then x else give Normal)
  if_does ts from mid to test x well dt dx = record {
    does = λ w s ls q h. first (UnlessStand to mid) (C ts to) Any w (moment p r from [] ls s.shared q) s test
        (λ t. if t then x else give Normal) h.mine h.living well (dt.does w s ls q h) (branch (moment p r from [] ls s.shared q));
  }
    where
      branch : (c : Moment) (y : World) (b : Bool) (u : Lives ℕ) → On p ok m this y → Living p ok m sc y u → UnlessStand to mid c b u →
          F (C ts to) c ((if b then x else give Normal) u)
      branch c y true u o l h = on mid ts to x dx c y u o l h
      branch c y false u o l h = stands to c u h

  over : (ts : List Around) (mid to : ℕ) → slice_get code mid ≡ Some (goto to) → (c : Moment) (o : Outcome (Lives ℕ) (Completion ℕ)) →
      F (C ts mid) c o → F (C ts to) c o
  over ts mid to at c (Ends f es) h = h
  over ts mid to at c (Gives Normal s) h = stands to c s (jumps mid to c s at h)
  over ts mid to at c (Gives (Breaks l) s) h = h
  over ts mid to at c (Gives (Continues None) s) h = h
  over ts mid to at c (Gives (Continues (Some l)) s) h = h
  over ts mid to at c (Gives (Returns v) s) h = h

  -- two branches, the first of which jumps over the second
  pub if_else_does : (ts : List Around) (from mid end other to : ℕ) (test : Run (Lives ℕ) Bool) (x y : Does ℕ) → Well Any test →
      Does_here (UnlessStand other mid) from test → Does_here (C ts end) mid x → slice_get code end ≡ Some (goto to) →
      Does_here (C ts to) other y → Does_here (C ts to) from (test >>= λ t. if t then x else y)
  if_else_does ts from mid end other to test x y well dt dx at dy = record {
    does = λ w s ls q h. first (UnlessStand other mid) (C ts to) Any w (moment p r from [] ls s.shared q) s test
        (λ t. if t then x else y) h.mine h.living well (dt.does w s ls q h) (branch (moment p r from [] ls s.shared q));
  }
    where
      branch : (c : Moment) (z : World) (b : Bool) (u : Lives ℕ) → On p ok m this z → Living p ok m sc z u → UnlessStand other mid c b u →
          F (C ts to) c ((if b then x else y) u)
      branch c z true u o l h = over ts end to at c (x u) (on mid ts end x dx c z u o l h)
      branch c z false u o l h = on other ts to y dy c z u o l (stands other c u h)

  -- how a loop goes on behind its body: an exit of its own leads out of it, or to where it goes on
  pub after_does : (l out back end : ℕ) (ts : List Around) (again : Does ℕ) (c : Moment) (u : Lives ℕ) →
      (S end c u → F (C ts out) c (again u)) → (L back c u → F (C ts out) c (again u)) →
      (d : Completion ℕ) → C (Loop l out back ∷ ts) end c d u → F (C ts out) c (after_body (mine l) (mine l) again d u)
  after_does l out back end ts again c u normal continued Normal h = normal h
  after_does l out back end ts again c u normal continued (Returns v) h = h
  after_does l out back end ts again c u normal continued (Breaks None) h = h
  after_does l out back end ts again c u normal continued (Breaks (Some k)) h =
      go (nat_eq k l) (subst (λ b. L (if b then out else break_to ts (Some k)) c u) (turned p m l k) h)
    where
      go : (b : Bool) → L (if b then out else break_to ts (Some k)) c u →
          F (C ts out) c ((if b then give Normal else give (Breaks (Some k))) u)
      go true g = stands out c u g
      go false g = g
  after_does l out back end ts again c u normal continued (Continues None) h = absurd h
  after_does l out back end ts again c u normal continued (Continues (Some k)) h =
      go (nat_eq k l) (subst (λ b. L (if b then back else continue_to ts k) c u) (turned p m l k) h)
    where
      go : (b : Bool) → L (if b then back else continue_to ts k) c u →
          F (C ts out) c ((if b then again else give (Continues (Some k))) u)
      go true g = continued g
      go false g = g

  -- a loop that tests first: behind its body it jumps back to the test
  pub while_does : {P : World → Completion ℕ → Type 0} (l : ℕ) (ts : List Around) (from mid end to : ℕ) (test : Run (Lives ℕ) Bool)
      (body again : Does ℕ) → Well Any test → Well P body → Does_here (UnlessStand to mid) from test →
      Does_here (C (Loop l to from ∷ ts) end) mid body → slice_get code end ≡ Some (goto from) → Does_below (C ts to) from again →
      Does_here (C ts to) from (while_turn (mine l) (mine l) test body again)
  while_does {P} l ts from mid end to test body again well_test well dt db at da = record {
    does = λ w s ls q h. first (UnlessStand to mid) (C ts to) Any w (moment p r from [] ls s.shared q) s test
        (λ t. if t then body >>= after_body (mine l) (mine l) again else give Normal) h.mine h.living well_test (dt.does w s ls q h)
        (branch (moment p r from [] ls s.shared q));
  }
    where
      branch : (c : Moment) (z : World) (b : Bool) (u : Lives ℕ) → On p ok m this z → Living p ok m sc z u → UnlessStand to mid c b u →
          F (C ts to) c ((if b then body >>= after_body (mine l) (mine l) again else give Normal) u)
      branch c z true u o living h = first (C (Loop l to from ∷ ts) end) (C ts to) P z c u body (after_body (mine l) (mine l) again)
          o living well (on mid (Loop l to from ∷ ts) end body db c z u o living h)
          (λ y d v oy ly got. after_does l to from end ts again c v
          (λ g. paid from ts to again da c y v oy ly (jumps end from c v at g)) (λ g. paid from ts to again da c y v oy ly g) d got)
      branch c z false u o living h = stands to c u h

  -- a loop that tests behind its body
  pub do_does : {P : World → Completion ℕ → Type 0} (l : ℕ) (ts : List Around) (from mid to : ℕ) (test : Run (Lives ℕ) Bool)
      (body again : Does ℕ) → Well Any test → Well P body → Does_here (WhenStand from to) mid test →
      Does_here (C (Loop l to mid ∷ ts) mid) from body → Does_below (C ts to) from again →
      Does_here (C ts to) from (do_turn (mine l) (mine l) body test again)
  do_does {P} l ts from mid to test body again well_test well dt db da = record {
    does = λ w s ls q h. first (C (Loop l to mid ∷ ts) mid) (C ts to) P w (moment p r from [] ls s.shared q) s body
        (after_body (mine l) (mine l) (test >>= λ t. if t then again else give Normal)) h.mine h.living well (db.does w s ls q h)
        (λ y d v oy ly got. after_does l to mid mid ts (test >>= λ t. if t then again else give Normal) (moment p r from [] ls s.shared q) v
        (λ g. on mid ts to (test >>= λ t. if t then again else give Normal) tested (moment p r from [] ls s.shared q) y v oy ly g)
        (λ g. on mid ts to (test >>= λ t. if t then again else give Normal) tested (moment p r from [] ls s.shared q) y v oy ly
        (stands mid (moment p r from [] ls s.shared q) v g)) d got);
  }
    where
      branch : (c : Moment) (z : World) (b : Bool) (u : Lives ℕ) → On p ok m this z → Living p ok m sc z u → WhenStand from to c b u →
          F (C ts to) c ((if b then again else give Normal) u)
      branch c z true u o living h = paid from ts to again da c z u o living h
      branch c z false u o living h = h

      tested : Does_here (C ts to) mid (test >>= λ t. if t then again else give Normal)
      tested = record {
        does = λ w s ls q h. first (WhenStand from to) (C ts to) Any w (moment p r mid [] ls s.shared q) s test
            (λ t. if t then again else give Normal) h.mine h.living well_test (dt.does w s ls q h)
            (branch (moment p r mid [] ls s.shared q));
      }

  -- a statement, and what follows it where it completes normally
  pub next_does : {P : World → Completion ℕ → Type 0} (ts : List Around) (from mid to : ℕ) (x rest : Does ℕ) → Well P x →
      Does_here (C ts mid) from x → Does_here (C ts to) mid rest → Does_here (C ts to) from (x >>= next_do rest)
  next_does {P} ts from mid to x rest well dx dr = record {
    does = λ w s ls q h. first (C ts mid) (C ts to) P w (moment p r from [] ls s.shared q) s x (next_do rest) h.mine h.living well
        (dx.does w s ls q h) (go (moment p r from [] ls s.shared q));
  }
    where
      go : (c : Moment) (y : World) (d : Completion ℕ) (u : Lives ℕ) → On p ok m this y → Living p ok m sc y u → C ts mid c d u →
          F (C ts to) c (next_do rest d u)
      go c y Normal u o l h = on mid ts to rest dr c y u o l h
      go c y (Breaks k) u o l h = h
      go c y (Continues None) u o l h = h
      go c y (Continues (Some k)) u o l h = h
      go c y (Returns v) u o l h = h
