-- `!`, `&&` and `||`: jumps of jumps.
use Rattle.std.proofs.Common.{◌≡◌, ℕ, Bool, true, false, not, List, Option, Some, None, refl, sym, subst, arith, max}
use Rattle.std.specs.Prelude.{if◌then◌else◌}
use Rattle.jv_values.specs.Values.{Value, Shared, Inputs}
use Rattle.jv_values.specs.Values as values
use Rattle.jv_values.specs.Doing.{Run, Outcome, Gives, Ends, and_then, ◌>>=◌, give, found, valued, valuing, truth}
use Rattle.jv_values.specs.Operators.{opposite, unless_decided}
use Rattle.jv_core.specs.declared.program.CoreType.TheVariants as types
use Rattle.jv_core.specs.Tree.{Method, Program}
use Rattle.jv_core.specs.Conditions.{IsCore}
use Rattle.vm_model.specs.declared.value.Value.{Value as Held}
use Rattle.vm_model.specs.Program as linked
use Rattle.vm_model.specs.Links.{Outline}
use Rattle.vm_model.specs.Messages.{Messages}
use Rattle.vm_model.specs.Step.{step}
use Rattle.gen_rules.specs.Symbolic.{Instr}
use Rattle.gen_rules.specs.Spans.{Forms, by_jumps}
use Rattle.gen_rules.specs.Templates.{conjunction, disjunction}
use Rattle.gen_rules.specs.Frames.{Depths, depths_by_jumps}
use Rattle.jv_sound.proofs.Worlds.{World, Extends, further, Runs, Good, GivesA}
use Rattle.jv_sound.proofs.Objects.{Heap}
use Rattle.gen_sound.specs.Following.{Moment, Follows}
use Rattle.gen_sound.specs.Related.{Running, RunsCode}
use Rattle.gen_sound.proofs.Steps.{follows_later}
use Rattle.gen_sound.proofs.Forms.{tested, Does, does_jumps, At, Unless_at, When_at, unless_closed, when_closed, jump_arrives}

again_tested : (o : Outcome Shared (Option Value)) →
    and_then (and_then (and_then (and_then o found) (λ v. give (Some v))) found) truth ≡ and_then (and_then o found) truth
again_tested (Gives None s) = refl
again_tested (Gives (Some v) s) = refl
again_tested (Ends f es) = refl

-- an operator that leaves its second operand out where the first decides
abbrev decided : Bool → (a b : Run Shared (Option Value)) → Run Shared (Option Value)
decided g a b = valuing (unless_decided g (valued a) (valued b))

-- its test, from what the first operand gave
abbrev after_first : Bool → Run Shared (Option Value) → Outcome Shared (Option Value) → Outcome Shared Bool
after_first g b o = and_then (and_then (and_then
    (and_then (and_then o found) (λ v. truth v >>= λ x. if (if g then x else not x) then valued b else give (values.Truth x)))
    (λ v. give (Some v))) found) truth

module _ (p : Program) (ok : IsCore p) (os : List Outline) (program : linked.Program) (inputs : Inputs) (me : ℕ) (r : Running) (m : Method)
    (code : List Instr) (runs : RunsCode p os program me r m code) (n : ℕ) where
  abbrev D : (w : World) (ls : List (Option Held)) → Forms → Run Shared (Option Value) → Depths → Type 0
  D = Does p ok os program inputs me r m code runs n

  abbrev A : (place : ℕ) → List Held → (ls : List (Option Held)) → Shared → Messages → Moment
  A = At p ok os program inputs me r m code runs n

  abbrev U : (ls : List (Option Held)) (target to : ℕ) (st : List Held) → Moment → Bool → Shared → Type 0
  U = Unless_at p ok os program inputs me r m code runs n

  abbrev W : (ls : List (Option Held)) (target to : ℕ) (st : List Held) → Moment → Bool → Shared → Type 0
  W = When_at p ok os program inputs me r m code runs n

  abbrev F : {B : Type 0} → (Moment → B → Shared → Type 0) → Moment → Outcome Shared B → Type 0
  F R c o = Follows (step program me) n R c o

  -- `!`: the two jumps change places
  not_unless : (ls : List (Option Held)) (target to : ℕ) (st : List Held) (c : Moment) (o : Outcome Shared (Option Value)) →
      F (W ls target to st) c (and_then (and_then o found) truth) →
      F (U ls target to st) c (and_then (and_then (and_then (and_then (and_then o found) opposite) (λ v. give (Some v))) found) truth)
  not_unless ls target to st c (Ends f es) h = h
  not_unless ls target to st c (Gives None s) h = tt
  not_unless ls target to st c (Gives (Some (values.Truth true)) s) h = h
  not_unless ls target to st c (Gives (Some (values.Truth false)) s) h = h
  not_unless ls target to st c (Gives (Some (values.Int z)) s) h = tt
  not_unless ls target to st c (Gives (Some (values.Text t)) s) h = tt
  not_unless ls target to st c (Gives (Some values.Null) s) h = tt
  not_unless ls target to st c (Gives (Some (values.Object o)) s) h = tt
  not_unless ls target to st c (Gives (Some (values.Constant x k)) s) h = tt

  not_when : (ls : List (Option Held)) (target to : ℕ) (st : List Held) (c : Moment) (o : Outcome Shared (Option Value)) →
      F (U ls target to st) c (and_then (and_then o found) truth) →
      F (W ls target to st) c (and_then (and_then (and_then (and_then (and_then o found) opposite) (λ v. give (Some v))) found) truth)
  not_when ls target to st c (Ends f es) h = h
  not_when ls target to st c (Gives None s) h = tt
  not_when ls target to st c (Gives (Some (values.Truth true)) s) h = h
  not_when ls target to st c (Gives (Some (values.Truth false)) s) h = h
  not_when ls target to st c (Gives (Some (values.Int z)) s) h = tt
  not_when ls target to st c (Gives (Some (values.Text t)) s) h = tt
  not_when ls target to st c (Gives (Some values.Null) s) h = tt
  not_when ls target to st c (Gives (Some (values.Object o)) s) h = tt
  not_when ls target to st c (Gives (Some (values.Constant x k)) s) h = tt

  pub not_does : (w : World) (ls : List (Option Held)) (G : Forms) (e : Run Shared (Option Value)) (d : Depths) →
      Runs (Heap p ok) (λ w v. GivesA p w v types.Boolean) w (valuing (valued e >>= opposite)) → D w ls G e d →
      D w ls (by_jumps code G.when G.unless) (valuing (valued e >>= opposite)) (depths_by_jumps d.jump)
  not_does w ls G e d good does = does_jumps p ok os program inputs me r m code runs n w ls G.when G.unless (valuing (valued e >>=
      opposite)) d.jump good
      (λ target from to st x s q h room g heap holds. not_unless ls target to st (A from st ls s q) (e s)
      (does.when target from to st x s q h room g heap holds))
      (λ target from to st x s q h room g heap holds. not_when ls target to st (A from st ls s q) (e s)
      (does.unless target from to st x s q h room g heap holds))

  -- where the first operand doesn't decide, the second one does
  decides : (g : Bool) (R R' : Moment → Bool → Shared → Type 0) (c : Moment) (b : Run Shared (Option Value)) (x : World)
      (o : Outcome Shared (Option Value)) → Good (Heap p ok) (λ w v. GivesA p w v types.Boolean) x o →
      F R c (and_then (and_then o found) truth) →
      ((y : World) (s : Shared) → Extends x y → Heap p ok y s → R c g s → F R' c (tested b s)) →
      ((s : Shared) → R c (not g) s → R' c (not g) s) → F R' c (after_first g b o)
  decides g R R' c b x (Ends f es) good h go decide = h
  decides g R R' c b x (Gives None s) good h go decide = tt
  decides true R R' c b x (Gives (Some (values.Truth true)) s) good h go decide =
      subst (F R' c) (sym (again_tested (b s))) (go good.world s good.grown good.state h)
  decides true R R' c b x (Gives (Some (values.Truth false)) s) good h go decide = decide s h
  decides false R R' c b x (Gives (Some (values.Truth true)) s) good h go decide = decide s h
  decides false R R' c b x (Gives (Some (values.Truth false)) s) good h go decide =
      subst (F R' c) (sym (again_tested (b s))) (go good.world s good.grown good.state h)
  decides g R R' c b x (Gives (Some (values.Int z)) s) good h go decide = tt
  decides g R R' c b x (Gives (Some (values.Text t)) s) good h go decide = tt
  decides g R R' c b x (Gives (Some values.Null) s) good h go decide = tt
  decides g R R' c b x (Gives (Some (values.Object o)) s) good h go decide = tt
  decides g R R' c b x (Gives (Some (values.Constant e k)) s) good h go decide = tt

  abbrev IsTruth : World → Run Shared (Option Value) → Type 0
  IsTruth w e = Runs (Heap p ok) (λ w v. GivesA p w v types.Boolean) w e

  -- `&&`
  pub and_does : (w : World) (ls : List (Option Held)) (G H : Forms) (a b : Run Shared (Option Value)) (d e : Depths) →
      IsTruth w a → IsTruth w (decided true a b) → D w ls G a d → D w ls H b e →
      D w ls (conjunction p m code G H) (decided true a b) (depths_by_jumps (max d.jump e.jump))
  and_does w ls G H a b d e first good da db = does_jumps p ok os program inputs me r m code runs n w ls
      (conjunction p m code G H).unless (conjunction p m code G H).when (decided true a b) (max d.jump e.jump) good
      (λ target from to st x s q h room g heap holds.
      decides true (U ls target h.0 st) (U ls target to st) (A from st ls s q) b x (a s) (first.run x g s heap)
      (da.unless target from h.0 st x s q h.1 (omega (arith, room)) g heap holds)
      (λ y t grown heap' got. follows_later (step program me) n (U ls target to st) (unless_closed p ok os program inputs me r m code
      runs n ls target to st)
      (A from st ls s q) (A h.0 st ls t got.messages) (tested b t) got.comes
      (db.unless target h.0 to st y t got.messages h.2 (omega (arith, room)) (further g grown) heap' got.holds))
      (λ t got. got))
      (λ target from to st x s q h room g heap holds.
      decides true (U ls to h.0 st) (W ls target to st) (A from st ls s q) b x (a s) (first.run x g s heap)
      (da.unless to from h.0 st x s q h.1 (omega (arith, room)) g heap holds)
      (λ y t grown heap' got. follows_later (step program me) n (W ls target to st) (when_closed p ok os program inputs me r m code runs
      n ls target to st)
      (A from st ls s q) (A h.0 st ls t got.messages) (tested b t) got.comes
      (db.when target h.0 to st y t got.messages h.2 (omega (arith, room)) (further g grown) heap' got.holds))
      (λ t got. jump_arrives p ok os program inputs me r m code runs n to st ls (A from st ls s q) t got))

  -- `||`
  pub or_does : (w : World) (ls : List (Option Held)) (G H : Forms) (a b : Run Shared (Option Value)) (d e : Depths) →
      IsTruth w a → IsTruth w (decided false a b) → D w ls G a d → D w ls H b e →
      D w ls (disjunction p m code G H) (decided false a b) (depths_by_jumps (max d.jump e.jump))
  or_does w ls G H a b d e first good da db = does_jumps p ok os program inputs me r m code runs n w ls
      (disjunction p m code G H).unless (disjunction p m code G H).when (decided false a b) (max d.jump e.jump) good
      (λ target from to st x s q h room g heap holds.
      decides false (W ls to h.0 st) (U ls target to st) (A from st ls s q) b x (a s) (first.run x g s heap)
      (da.when to from h.0 st x s q h.1 (omega (arith, room)) g heap holds)
      (λ y t grown heap' got. follows_later (step program me) n (U ls target to st) (unless_closed p ok os program inputs me r m code
      runs n ls target to st)
      (A from st ls s q) (A h.0 st ls t got.messages) (tested b t) got.comes
      (db.unless target h.0 to st y t got.messages h.2 (omega (arith, room)) (further g grown) heap' got.holds))
      (λ t got. jump_arrives p ok os program inputs me r m code runs n to st ls (A from st ls s q) t got))
      (λ target from to st x s q h room g heap holds.
      decides false (W ls target h.0 st) (W ls target to st) (A from st ls s q) b x (a s) (first.run x g s heap)
      (da.when target from h.0 st x s q h.1 (omega (arith, room)) g heap holds)
      (λ y t grown heap' got. follows_later (step program me) n (W ls target to st) (when_closed p ok os program inputs me r m code runs
      n ls target to st)
      (A from st ls s q) (A h.0 st ls t got.messages) (tested b t) got.comes
      (db.when target h.0 to st y t got.messages h.2 (omega (arith, room)) (further g grown) heap' got.holds))
      (λ t got. got))
