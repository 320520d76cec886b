-- Two values, one after the other, and the instruction that takes both.
use Rattle.std.proofs.Common.{◌≡◌, ℕ, suc, ◌+◌, ◌≤◌, Bool, List, [], ◌∷◌, ◌++◌, length, Option, Some, None, refl, sym, ◌∙◌, subst, arith}
use Rattle.std.specs.Prelude.{slice_get}
use Rattle.std.proofs.lemmas.List.{length-append}
use Rattle.jv_values.specs.Values.{Value, Shared, Inputs}
use Rattle.jv_values.specs.Doing.{Run, Outcome, Gives, Ends, and_then, ◌>>=◌, give, found, valued, valuing, truth}
use Rattle.jv_values.specs.Operators.{both}
use Rattle.jv_core.specs.declared.program.CoreType.{CoreType}
use Rattle.jv_core.specs.declared.program.CoreType.TheVariants as types
use Rattle.jv_core.specs.Tree.{Method, Program}
use Rattle.jv_core.specs.Conditions.{IsCore}
use Rattle.vm_model.specs.declared.value.Value.{Value as Held}
use Rattle.vm_model.specs.Program as linked
use Rattle.vm_model.specs.Links.{Outline}
use Rattle.vm_model.specs.Messages.{Messages}
use Rattle.vm_model.specs.Step.{step}
use Rattle.gen_rules.specs.Symbolic.{Instr}
use Rattle.gen_rules.specs.Spans.{Forms, by_value, by_jumps}
use Rattle.gen_rules.specs.Templates.{two_values}
use Rattle.gen_rules.specs.Frames.{max_stack, Depths, two_depths, depths_by_value, depths_by_jumps}
use Rattle.jv_sound.proofs.Worlds.{World, Extends, same_world, further, Runs, Good, Fits, fits_more, GivesA}
use Rattle.jv_sound.proofs.Worlds as worlds
use Rattle.jv_sound.proofs.Objects.{Heap}
use Rattle.gen_sound.specs.Following.{Moment, Follows}
use Rattle.gen_sound.specs.Related.{Running, flat, RunsCode}
use Rattle.vm_world_law.specs.Meant.{Holds}
use Rattle.gen_sound.proofs.Steps.{follows_later, ClosedBefore}
use Rattle.gen_sound.proofs.Forms.{tested, Does, does_value, does_jumps, At, Value_at, Unless_at, When_at, value_closed, unless_closed}
use Rattle.gen_sound.proofs.Forms.{when_closed}

-- two values and what is made of them
abbrev pub pair : {B : Type 0} → (a b : Run Shared (Option Value)) → (Value → Value → Run Shared B) → Run Shared B
pair a b k s = and_then (and_then (a s) found) (λ v t. and_then (and_then (b t) found) (λ w u. k v w u))

assoc : {S A B C : Type 0} (o : Outcome S A) (f : A → Run S B) (g : B → Run S C) →
    and_then (and_then o f) g ≡ and_then o (λ a s. and_then (f a s) g)
assoc (Gives a s) f g = refl
assoc (Ends f es) g h = refl

pair_is : {X Y : Type 0} (o : Outcome Shared Value) (b : Run Shared Value) (f : Value → Value → Run Shared X) (k : X → Run Shared Y) →
    and_then (and_then o (λ v. b >>= λ w. f v w)) k ≡ and_then o (λ v s. and_then (b s) (λ w u. and_then (f v w u) k))
pair_is (Gives v s) b f k = assoc (b s) (λ w. f v w) k
pair_is (Ends f es) b g k = refl

tested_valuing : (o : Outcome Shared Value) → and_then (and_then (and_then o (λ v. give (Some v))) found) truth ≡ and_then o truth
tested_valuing (Gives v s) = refl
tested_valuing (Ends f es) = refl

abbrev pub of_both : (Value → Value → Run Shared Value) → (a b : Run Shared (Option Value)) → Run Shared (Option Value)
of_both f a b = valuing (both f (valued a) (valued b))

pub value_is : (f : Value → Value → Run Shared Value) (a b : Run Shared (Option Value)) (s : Shared) →
    of_both f a b s ≡ pair a b (λ v w. valuing (f v w)) s
value_is f a b s = pair_is (and_then (a s) found) (valued b) f (λ v. give (Some v))

pub test_is : (f : Value → Value → Run Shared Value) (a b : Run Shared (Option Value)) (s : Shared) →
    tested (of_both f a b) s ≡ pair a b (λ v w. f v w >>= truth) s
test_is f a b s = tested_valuing (both f (valued a) (valued b) s) ∙ pair_is (and_then (a s) found) (valued b) f truth

module _ (p : Program) (ok : IsCore p) (os : List Outline) (program : linked.Program) (inputs : Inputs) (me : ℕ) (r : Running) (m : Method)
    (code : List Instr) (runs : RunsCode p os program me r m code) (n : ℕ) where
  abbrev D : (w : World) (ls : List (Option Held)) → Forms → Run Shared (Option Value) → Depths → Type 0
  D = Does p ok os program inputs me r m code runs n

  abbrev A : (place : ℕ) → List Held → (ls : List (Option Held)) → Shared → Messages → Moment
  A = At p ok os program inputs me r m code runs n

  abbrev V : (ls : List (Option Held)) (to : ℕ) (st : List Held) → Moment → Option Value → Shared → Type 0
  V = Value_at p ok os program inputs me r m code runs n

  abbrev U : (ls : List (Option Held)) (target to : ℕ) (st : List Held) → Moment → Bool → Shared → Type 0
  U = Unless_at p ok os program inputs me r m code runs n

  abbrev W : (ls : List (Option Held)) (target to : ℕ) (st : List Held) → Moment → Bool → Shared → Type 0
  W = When_at p ok os program inputs me r m code runs n

  abbrev F : {B : Type 0} → (Moment → B → Shared → Type 0) → Moment → Outcome Shared B → Type 0
  F R c o = Follows (step program me) n R c o

  abbrev H : World → Shared → Type 0
  H = Heap p ok

  abbrev GivesOf : CoreType → World → Option Value → Type 0
  GivesOf t w v = GivesA p w v t

  fits_of : (x : World) (v : Value) (t : CoreType) → GivesA p x (Some v) t → Fits p x v t
  fits_of x v t (worlds.value f) = f

  -- the operands with two more values
  abbrev pub with_two : List Held → Value → Value → List Held
  with_two st v w = (st ++ flat v ∷ []) ++ flat w ∷ []

  pub second : {B : Type 0} (R : Moment → B → Shared → Type 0) → ClosedBefore (step program me) R →
      (c : Moment) (x : World) (u : CoreType) (to : ℕ)
      (ls : List (Option Held)) (st : List Held) (o : Outcome Shared (Option Value)) (k : Value → Run Shared B) →
      Good H (GivesOf u) x o → F (V ls to st) c o →
      ((y : World) (w : Value) (s : Shared) (q : Messages) → Extends x y → Fits p y w u → H y s → Holds inputs q me s.events →
      F R (A to (st ++ flat w ∷ []) ls s q) (k w s)) → F R c (and_then (and_then o found) k)
  second R closed c x u to ls st (Ends f es) k good h go = h
  second R closed c x u to ls st (Gives None s) k good h go = tt
  second R closed c x u to ls st (Gives (Some w) s) k good h go =
      follows_later (step program me) n R closed c (A to (st ++ flat w ∷ []) ls s h.messages) (k w s) h.comes
      (go good.world w s h.messages good.grown (fits_of good.world w u good.is) good.state h.holds)

  more_room : (st : List Held) (v : Held) (k most : ℕ) → length st + suc k ≤ most → length (st ++ v ∷ []) + k ≤ most
  more_room st v k most h = let l : length (st ++ v ∷ []) ≡ length st + 1 = length-append st (v ∷ []) in omega (arith, l, h)

  pub pair_follows : {B : Type 0} (R : Moment → B → Shared → Type 0) → ClosedBefore (step program me) R →
      (w : World) (ls : List (Option Held))
      (G I : Forms) (a b : Run Shared (Option Value)) (d e : Depths) (t u : CoreType) →
      Runs H (GivesOf t) w a → Runs H (GivesOf u) w b → D w ls G a d → D w ls I b e →
      (from mid to : ℕ) (st : List Held) (x : World) (s : Shared) (q : Messages) → G.value from mid → I.value mid to →
      length st + two_depths d e ≤ max_stack p m → Extends w x → H x s → Holds inputs q me s.events →
      (k : Value → Value → Run Shared B) →
      ((y : World) (v z : Value) (s : Shared) (q : Messages) → Fits p y v t → Fits p y z u → H y s → Holds inputs q me s.events →
      F R (A to (with_two st v z) ls s q) (k v z s)) → F R (A from st ls s q) (pair a b k s)
  pair_follows R closed w ls G I a b d e t u ra rb da db from mid to st x s q g i room grown heap holds k go =
      second R closed (A from st ls s q) x t mid ls st (a s) (λ v s. and_then (and_then (b s) found) (λ z s. k v z s)) (ra.run x grown s
      heap)
      (da.value from mid st x s q g (omega (arith, room)) grown heap holds)
      (λ y v s1 q1 more fv heap1 holds1. second R closed (A mid (st ++ flat v ∷ []) ls s1 q1) y u to ls (st ++ flat v ∷ []) (b s1) (λ z
      s. k v z s)
      (rb.run y (further grown more) s1 heap1)
      (db.value mid to (st ++ flat v ∷ []) y s1 q1 i (more_room st (flat v) e.value (max_stack p m) (omega (arith, room))) (further grown
      more) heap1 holds1)
      (λ z v' s2 q2 more2 fz heap2 holds2. go z v v' s2 q2 (fits_more p more2 fv) fz heap2 holds2))

  -- an instruction that makes a value of two
  pub value_of_two : (w : World) (ls : List (Option Held)) (G I : Forms) (a b : Run Shared (Option Value)) (d e : Depths) (t u : CoreType)
      (f : Value → Value → Run Shared Value) (i : Instr) →
      Runs H (GivesOf t) w a → Runs H (GivesOf u) w b → D w ls G a d → D w ls I b e →
      ((place : ℕ) (st : List Held) (y : World) (v z : Value) (s : Shared) (q : Messages) → slice_get code place ≡ Some i →
      Fits p y v t → Fits p y z u →
      length st + 1 ≤ max_stack p m → Holds inputs q me s.events →
      F (V ls (place + 1) st) (A place (with_two st v z) ls s q) (valuing (f v z) s)) →
      D w ls (by_value code (two_values p m code G I i)) (of_both f a b) (depths_by_value (two_depths d e))
  value_of_two w ls G I a b d e t u f i ra rb da db last = does_value p ok os program inputs me r m code runs n w ls (two_values p m code
      G I i)
      (of_both f a b) (two_depths d e)
      (λ from to st x s q h room grown heap holds.
      let at : to ≡ h.0 + 1 = let next = h.2.1 in omega (arith, next) in
      subst (F (V ls to st) (A from st ls s q)) (sym (value_is f a b s))
      (pair_follows (V ls to st) (value_closed p ok os program inputs me r m code runs n ls to st) w ls G I a b d e t u ra rb da db
      from h.1.0 h.0 st x s q h.1.1 h.1.2 room grown heap holds (λ v z. valuing (f v z))
      (λ y v z s1 q1 fv fz heap1 holds1. subst (λ k. F (V ls k st) (A h.0 (with_two st v z) ls s1 q1) (valuing (f v z) s1)) (sym at)
      (last h.0 st y v z s1 q1 h.2.0 fv fz (omega (arith, room)) holds1))))

  -- a jump where two values compare so, and one where they don't
  pub jump_of_two : (w : World) (ls : List (Option Held)) (G I : Forms) (a b : Run Shared (Option Value)) (d e : Depths) (t u : CoreType)
      (f : Value → Value → Run Shared Value) (no_jump jump : (target : ℕ) → Instr) →
      Runs H (GivesOf types.Boolean) w (of_both f a b) →
      Runs H (GivesOf t) w a → Runs H (GivesOf u) w b → D w ls G a d → D w ls I b e →
      ((target place : ℕ) (st : List Held) (y : World) (v z : Value) (s : Shared) (q : Messages) →
      slice_get code place ≡ Some (no_jump target) →
      Fits p y v t → Fits p y z u → length st + 1 ≤ max_stack p m → Holds inputs q me s.events →
      F (U ls target (place + 1) st) (A place (with_two st v z) ls s q) ((f v z >>= truth) s)) →
      ((target place : ℕ) (st : List Held) (y : World) (v z : Value) (s : Shared) (q : Messages) →
      slice_get code place ≡ Some (jump target) →
      Fits p y v t → Fits p y z u → length st + 1 ≤ max_stack p m → Holds inputs q me s.events →
      F (W ls target (place + 1) st) (A place (with_two st v z) ls s q) ((f v z >>= truth) s)) →
      D w ls (by_jumps code (λ l. two_values p m code G I (no_jump l)) (λ l. two_values p m code G I (jump l))) (of_both f a b)
      (depths_by_jumps (two_depths d e))
  jump_of_two w ls G I a b d e t u f no_jump jump good ra rb da db un wh = does_jumps p ok os program inputs me r m code runs n w ls
      (λ l. two_values p m code G I (no_jump l)) (λ l. two_values p m code G I (jump l)) (of_both f a b) (two_depths d e) good
      (λ target from to st x s q h room grown heap holds.
      let at : to ≡ h.0 + 1 = let next = h.2.1 in omega (arith, next) in
      subst (F (U ls target to st) (A from st ls s q)) (sym (test_is f a b s))
      (pair_follows (U ls target to st) (unless_closed p ok os program inputs me r m code runs n ls target to st) w ls G I a b d e t u ra
      rb da db
      from h.1.0 h.0 st x s q h.1.1 h.1.2 room grown heap holds (λ v z. f v z >>= truth)
      (λ y v z s1 q1 fv fz heap1 holds1. subst (λ k. F (U ls target k st) (A h.0 (with_two st v z) ls s1 q1) ((f v z >>= truth) s1)) (sym
      at)
      (un target h.0 st y v z s1 q1 h.2.0 fv fz (omega (arith, room)) holds1))))
      (λ target from to st x s q h room grown heap holds.
      let at : to ≡ h.0 + 1 = let next = h.2.1 in omega (arith, next) in
      subst (F (W ls target to st) (A from st ls s q)) (sym (test_is f a b s))
      (pair_follows (W ls target to st) (when_closed p ok os program inputs me r m code runs n ls target to st) w ls G I a b d e t u ra
      rb da db
      from h.1.0 h.0 st x s q h.1.1 h.1.2 room grown heap holds (λ v z. f v z >>= truth)
      (λ y v z s1 q1 fv fz heap1 holds1. subst (λ k. F (W ls target k st) (A h.0 (with_two st v z) ls s1 q1) ((f v z >>= truth) s1)) (sym
      at)
      (wh target h.0 st y v z s1 q1 h.2.0 fv fz (omega (arith, room)) holds1))))
