-- Code of statements: from a place on it does what a run means.
use Rattle.std.proofs.Common.{◌≡◌, ℕ, suc, ◌+◌, ◌≤◌, ◌<◌, Bool, List, [], ◌∷◌, ◌++◌, length, drop, Option, Some, None, ◌∙◌, arith}
use Rattle.std.specs.Prelude.{slice_get, slice_set}
use Rattle.std.proofs.lemmas.List.{length-set}
use Rattle.jv_values.specs.Values.{Value, Row, Shared, Inputs, Lives}
use Rattle.jv_values.specs.Values as values
use Rattle.jv_values.specs.Doing.{Run, Outcome, Gives, Ends, and_then, found, truth, kept, uncovered}
use Rattle.jv_values.specs.Statements.{Completion, Normal, Breaks, Continues, Returns}
use Rattle.jv_core.specs.declared.program.CoreType.{CoreType}
use Rattle.jv_core.specs.declared.program.MethodKind.{MethodKind}
use Rattle.jv_core.specs.declared.program.MethodKind.TheVariants as kinds
use Rattle.jv_core.specs.Tree.{Method, Program}
use Rattle.jv_core.specs.Lookup.{IsInstance}
use Rattle.jv_core.specs.Conditions.{IsCore}
use Rattle.vm_model.specs.declared.value.Value.{Value as Held}
use Rattle.vm_model.specs.Program as linked
use Rattle.vm_model.specs.Links.{Outline}
use Rattle.vm_model.specs.Messages.{Messages}
use Rattle.vm_model.specs.Tests.{misfit_sort}
use Rattle.vm_model.specs.Step.{step}
use Rattle.gen_rules.specs.Symbolic.{Instr, goto, store}
use Rattle.gen_rules.specs.Around.{Around}
use Rattle.gen_rules.specs.Locals.{first_local}
use Rattle.jv_sound.proofs.Worlds.{World, Extends, Good, Fits, GivesA}
use Rattle.jv_sound.proofs.Worlds as worlds
use Rattle.jv_sound.proofs.Objects.{Heap}
use Rattle.jv_sound.proofs.Completions.{Living}
use Rattle.jv_sound.proofs.Executions.{On}
use Rattle.gen_sound.specs.Following.{Moment, Comes, Follows}
use Rattle.gen_sound.specs.Related.{Running, moment, flat, Laid, LaidObject, RunsCode}
use Rattle.vm_world_law.specs.Meant.{Holds}
use Rattle.gen_sound.specs.Arriving.{Arrives}
use Rattle.gen_sound.specs.Standing.{HoldsRow, Stands, Leaps, CompletesAt}
use Rattle.gen_sound.proofs.Steps.{comes_on, comes_lead, ClosedBefore, follows_later, follows_paid}
use Rattle.gen_sound.proofs.Forms.{arrives_later, jumps_later, jump_arrives, goto_goes, next_place, Value_at}
use Rattle.gen_sound.proofs.Instructions.{sort_of}
use Rattle.vm_world_law.proofs.Lists.{set_there}
use Rattle.gen_sound.proofs.Rows.{laid_less}
use Rattle.gen_sound.proofs.LocalSteps.{store_goes}

-- the object stays in local 0 where another local is set
object_there : (this : Option ℕ) (ls : List (Option Held)) (k : ℕ) (x : Option Held) → 1 ≤ k → LaidObject this ls →
    LaidObject this (slice_set ls k x)
object_there None ls k x h l = tt
object_there (Some o) ls k x h l = set_there ls k 0 x (λ e. absurd (omega (arith, h, e))) ∙ l

object_kept : (kind : MethodKind) (this : Option ℕ) (ls : List (Option Held)) (k : ℕ) (x : Option Held) → first_local kind ≤ k →
    (IsInstance kind → LaidObject this ls) → IsInstance kind → LaidObject this (slice_set ls k x)
object_kept kinds.Main this ls k x h l i = absurd i
object_kept kinds.Static this ls k x h l i = absurd i
object_kept kinds.Helper this ls k x h l i = object_there this ls k x h (l i)
object_kept kinds.Protocol this ls k x h l i = object_there this ls k x h (l i)

-- the locals hold a row once a local of a variable is set
pub row_set : (m : Method) (this : Option ℕ) (row set : Row ℕ) (ls : List (Option Held)) (k : ℕ) (x : Option Held) →
    HoldsRow m this row ls → first_local m.kind ≤ k → Laid (first_local m.kind) set (slice_set ls k x) →
    HoldsRow m this set (slice_set ls k x)
row_set m this row set ls k x h above laid = record {
  many = length-set ls k x ∙ h.many;
  laid = laid;
  object = object_kept m.kind this ls k x above h.object;
}

-- the locals hold a row without its innermost variable
row_less : (m : Method) (this : Option ℕ) (row : Row ℕ) (ls : List (Option Held)) → HoldsRow m this row ls →
    HoldsRow m this (drop 1 row) ls
row_less m this row ls h =
    record { many = h.many; laid = laid_less (first_local m.kind) row ls h.laid; object = h.object }

fits_of : (p : Program) (x : World) (v : Value) (t : CoreType) → GivesA p x (Some v) t → Fits p x v t
fits_of p x v t (worlds.value f) = f

module _ (p : Program) (ok : IsCore p) (os : List Outline) (program : linked.Program) (inputs : Inputs) (me : ℕ) (r : Running) (m : Method)
    (code : List Instr) (runs : RunsCode p os program me r m code) (this : Option ℕ) where
  abbrev pub Stand : (place : ℕ) → Moment → Lives ℕ → Type 0
  Stand = Stands p program inputs me r m code this

  abbrev pub Leap : (place : ℕ) → Moment → Lives ℕ → Type 0
  Leap = Leaps p program inputs me r m code this

  abbrev pub Complete : List Around → (to : ℕ) → Moment → Completion ℕ → Lives ℕ → Type 0
  Complete = CompletesAt p program inputs me r m code this

  stands_later : (place : ℕ) (c d : Moment) (s : Lives ℕ) → Comes (step program me) c d → Stand place d s → Stand place c s
  stands_later place c d s a b = record {
    locals = b.locals;
    row = b.row;
    arrives = arrives_later p ok os program inputs me r m code runs 0 place [] b.locals c d s.shared a b.arrives;
  }

  leaps_later : (place : ℕ) (c d : Moment) (s : Lives ℕ) → Comes (step program me) c d → Leap place d s → Leap place c s
  leaps_later place c d s a b = record {
    locals = b.locals;
    row = b.row;
    jumps = jumps_later p ok os program inputs me r m code runs 0 place [] b.locals c d s.shared a b.jumps;
  }

  pub leap_stands : (place : ℕ) (c : Moment) (s : Lives ℕ) → Leap place c s → Stand place c s
  leap_stands place c s b = record {
    locals = b.locals;
    row = b.row;
    arrives = jump_arrives p ok os program inputs me r m code runs 0 place [] b.locals c s.shared b.jumps;
  }

  pub completes_closed : (ts : List Around) (to : ℕ) → ClosedBefore (step program me) (Complete ts to)
  completes_closed ts to c d Normal s a h = stands_later to c d s a h
  completes_closed ts to c d (Breaks l) s a h = leaps_later _ c d s a h
  completes_closed ts to c d (Continues None) s a h = h
  completes_closed ts to c d (Continues (Some l)) s a h = leaps_later _ c d s a h
  completes_closed ts to c d (Returns v) s a h = record {
    place = h.place;
    locals = h.locals;
    at = h.at;
    arrives = arrives_later p ok os program inputs me r m code runs 0 h.place _ h.locals c d s.shared a h.arrives;
  }

  -- a jump from where the machine stands
  pub goto_leaps : (place target : ℕ) (c : Moment) (s : Lives ℕ) → slice_get code place ≡ Some (goto target) → Stand place c s →
      Leap target c s
  goto_leaps place target c s at b = record {
    locals = b.locals;
    row = b.row;
    jumps = record {
      messages = b.arrives.messages;
      leads = comes_lead (step program me) c (moment p r place [] b.locals s.shared b.arrives.messages)
          (moment p r target [] b.locals s.shared b.arrives.messages) b.arrives.comes
          (goto_goes p ok os program inputs me r m code runs 0 place target [] b.locals s.shared b.arrives.messages at (omega arith));
      holds = b.arrives.holds;
    };
  }

  -- the machine at a place lies as the state of the meaning says
  pub record Placed (sc : List ℕ) (w : World) (s : Lives ℕ) (ls : List (Option Held)) (q : Messages) : Type 0 where
    pub mine : On p ok m this w
    pub living : Living p ok m sc w s
    pub row : HoldsRow m this s.locals ls
    pub holds : Holds inputs q me s.shared.events

  -- from a place on, with these slots in scope, the code does what this means
  pub record DoesHere {A : Type 0} (level : ℕ) (sc : List ℕ) (R : Moment → A → Lives ℕ → Type 0) (from : ℕ) (run : Run (Lives ℕ) A)
      : Type 0 where
    pub does : (w : World) (s : Lives ℕ) (ls : List (Option Held)) (q : Messages) → Placed sc w s ls q →
        Follows (step program me) level R (moment p r from [] ls s.shared q) (run s)

  pub goes_on : {A : Type 0} (level : ℕ) (sc : List ℕ) (R : Moment → A → Lives ℕ → Type 0) → ClosedBefore (step program me) R →
      (from : ℕ) (run : Run (Lives ℕ) A) → DoesHere level sc R from run → (c : Moment) (w : World) (s : Lives ℕ) → On p ok m this w →
      Living p ok m sc w s → Stand from c s → Follows (step program me) level R c (run s)
  goes_on level sc R closed from run d c w s mine living b =
      follows_later (step program me) level R closed c (moment p r from [] b.locals s.shared b.arrives.messages) (run s) b.arrives.comes
      (d.does w s b.locals b.arrives.messages (record { mine = mine; living = living; row = b.row; holds = b.arrives.holds }))

  -- a step pays for a greater budget
  pub goes_paid : {A : Type 0} (level : ℕ) (sc : List ℕ) (R : Moment → A → Lives ℕ → Type 0) → ClosedBefore (step program me) R →
      (from : ℕ) (run : Run (Lives ℕ) A) → DoesHere level sc R from run → (c : Moment) (w : World) (s : Lives ℕ) → On p ok m this w →
      Living p ok m sc w s → Leap from c s → Follows (step program me) (suc level) R c (run s)
  goes_paid level sc R closed from run d c w s mine living b =
      follows_paid (step program me) level R closed c (moment p r from [] b.locals s.shared b.jumps.messages) (run s) b.jumps.leads
      (d.does w s b.locals b.jumps.messages (record { mine = mine; living = living; row = b.row; holds = b.jumps.holds }))

  -- a part that ends well, and what follows it
  pub good_then : {S A B : Type 0} (level : ℕ) (R : Moment → A → S → Type 0) (R' : Moment → B → S → Type 0) (St : World → S → Type 0)
      (P : World → A → Type 0) (w : World) (c : Moment) (o : Outcome S A) (f : A → Run S B) → Good St P w o →
      Follows (step program me) level R c o →
      ((x : World) (a : A) (s : S) → Extends w x → St x s → P x a → R c a s → Follows (step program me) level R' c (f a s)) →
      Follows (step program me) level R' c (and_then o f)
  good_then level R R' St P w c (Gives a s) f g h k = k g.world a s g.grown g.state g.is h
  good_then level R R' St P w c (Ends e es) f g h k = h

  -- the value of an expression in a statement
  pub value_then : {A : Type 0} (level : ℕ) (R : Moment → A → Lives ℕ → Type 0) (ls : List (Option Held)) (to : ℕ) (st : List Held)
      (c : Moment) (w : World) (t : CoreType) (row : Row ℕ) (o : Outcome Shared (Option Value)) (f : Value → Run (Lives ℕ) A) →
      Good (Heap p ok) (λ w v. GivesA p w v t) w o →
      Follows (step program me) level (Value_at p ok os program inputs me r m code runs level ls to st) c o →
      ((x : World) (v : Value) (s : Shared) → Extends w x → Fits p x v t → Heap p ok x s →
      Arrives p program inputs me r to (st ++ flat v ∷ []) ls c s →
      Follows (step program me) level R c (f v (record { locals = row; shared = s }))) →
      Follows (step program me) level R c (and_then (kept row (and_then o found)) f)
  value_then level R ls to st c w t row (Ends e es) f g h k = h
  value_then level R ls to st c w t row (Gives None s) f g h k = tt
  value_then level R ls to st c w t row (Gives (Some v) s) f g h k =
      k g.world v s g.grown (fits_of p g.world v t g.is) g.state h

  -- the test of an expression in a statement
  pub test_then : {A : Type 0} (level : ℕ) (R : Moment → A → Lives ℕ → Type 0) (B : Moment → Bool → Shared → Type 0) (c : Moment)
      (w : World) (t : CoreType) (row : Row ℕ) (o : Outcome Shared (Option Value)) (f : Bool → Run (Lives ℕ) A) →
      Good (Heap p ok) (λ w v. GivesA p w v t) w o →
      Follows (step program me) level B c (and_then (and_then o found) truth) →
      ((x : World) (b : Bool) (s : Shared) → Extends w x → Heap p ok x s → B c b s →
      Follows (step program me) level R c (f b (record { locals = row; shared = s }))) →
      Follows (step program me) level R c (and_then (kept row (and_then (and_then o found) truth)) f)
  test_then level R B c w t row (Ends e es) f g h k = h
  test_then level R B c w t row (Gives None s) f g h k = tt
  test_then level R B c w t row (Gives (Some (values.Truth b)) s) f g h k = k g.world b s g.grown g.state h
  test_then level R B c w t row (Gives (Some (values.Int z)) s) f g h k = tt
  test_then level R B c w t row (Gives (Some (values.Text z)) s) f g h k = tt
  test_then level R B c w t row (Gives (Some values.Null) s) f g h k = tt
  test_then level R B c w t row (Gives (Some (values.Object z)) s) f g h k = tt
  test_then level R B c w t row (Gives (Some (values.Constant z y)) s) f g h k = tt

  -- a local ends with its scope
  less : (ts : List Around) (to : ℕ) (c : Moment) (d : Completion ℕ) (s : Lives ℕ) → Complete ts to c d s →
      Complete ts to c d (record s { locals = drop 1 s.locals })
  less ts to c Normal s h =
      record { locals = h.locals; row = row_less m this s.locals h.locals h.row; arrives = h.arrives }
  less ts to c (Breaks l) s h = record { locals = h.locals; row = row_less m this s.locals h.locals h.row; jumps = h.jumps }
  less ts to c (Continues None) s h = h
  less ts to c (Continues (Some l)) s h = record { locals = h.locals; row = row_less m this s.locals h.locals h.row; jumps = h.jumps }
  less ts to c (Returns v) s h = record { place = h.place; locals = h.locals; at = h.at; arrives = h.arrives }

  pub uncovers : (level : ℕ) (ts : List Around) (to : ℕ) (c : Moment) (o : Outcome (Lives ℕ) (Completion ℕ)) →
      Follows (step program me) level (Complete ts to) c o → Follows (step program me) level (Complete ts to) c (uncovered o)
  uncovers level ts to c (Gives d s) h = less ts to c d s h
  uncovers level ts to c (Ends f es) h = h

  -- the value on top goes into a local
  pub stored : (place to k : ℕ) (t : CoreType) (ls : List (Option Held)) (v : Value) (c : Moment) (set : Row ℕ) (s : Shared) →
      slice_get code place ≡ Some (store t k) → to ≡ suc place → k < length ls → misfit_sort (sort_of t) (flat v) ≡ None →
      HoldsRow m this set (slice_set ls k (Some (flat v))) → Arrives p program inputs me r place (flat v ∷ []) ls c s →
      Stand to c (record { locals = set; shared = s })
  stored place to k t ls v c set s at e inside fits row a =
      next_place p ok os program inputs me r m code runs 0 (λ x. Stand x c (record { locals = set; shared = s })) place to e
      (record {
        locals = slice_set ls k (Some (flat v));
        row = row;
        arrives = record {
          messages = a.messages;
          comes = comes_on (step program me) c (moment p r place (flat v ∷ []) ls s a.messages)
              (moment p r (place + 1) [] (slice_set ls k (Some (flat v))) s a.messages) a.comes
              (store_goes p ok os program inputs me r m code runs 0 place [] ls s a.messages t k v at inside fits (omega arith)).comes;
          holds = a.holds;
        };
      })
