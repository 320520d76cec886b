-- Texts of values, `println`, and values that are dropped.
use Rattle.std.proofs.Common.{◌≡◌, ◌⊎◌, inl, inr, ℕ, ◌+◌, ◌≤◌, true, false, List, [], ◌∷◌, ◌++◌, length, Option, Some, None, refl, sym}
use Rattle.std.proofs.Common.{subst, arith}
use Rattle.std.specs.Prelude.{slice_get, unwrap_or}
use Rattle.mg_text.specs.declared.event.Event.TheVariants as seen
use Rattle.jv_values.specs.Values.{Value, Row, Shared, Inputs, Here, Lives}
use Rattle.jv_values.specs.Values as values
use Rattle.jv_values.specs.Doing.{Run, Outcome, Gives, Ends, and_then, found, kept}
use Rattle.jv_values.specs.Operators.{shown}
use Rattle.jv_core.specs.declared.program.CoreType.{CoreType}
use Rattle.jv_core.specs.declared.program.CoreType.TheVariants as types
use Rattle.jv_core.specs.Tree.{Expr, Int, Truth, Text, Null, Variable, Constant, Neg, Not, Binary, Protocol, Helper, Static, Equals}
use Rattle.jv_core.specs.Tree.{Concat, Session, New}
use Rattle.jv_core.specs.Tree.{Method, Program}
use Rattle.jv_core.specs.Types.{IsShown, Has}
use Rattle.jv_core.specs.Types
use Rattle.jv_core.specs.Conditions.{IsCore}
use Rattle.vm_model.specs.declared.value.Value.{Value as Held}
use Rattle.vm_model.specs.declared.value.Value.TheVariants as held
use Rattle.vm_model.specs.declared.linked.Built.TheVariants as built
use Rattle.vm_model.specs.Program as linked
use Rattle.vm_model.specs.Links.{Outline}
use Rattle.vm_model.specs.Messages.{Messages}
use Rattle.vm_model.specs.Actions.{Pop, Use}
use Rattle.vm_model.specs.Tests.{Any, number}
use Rattle.vm_model.specs.Step.{step}
use Rattle.gen_rules.specs.Symbolic.{Instr, pop, getstatic, invokestatic, invokevirtual}
use Rattle.gen_rules.specs.Members.{out_reference, println_reference, value_of_int, value_of_truth}
use Rattle.gen_rules.specs.Spans.{one}
use Rattle.gen_rules.specs.Templates as templates
use Rattle.gen_rules.specs.Typed.{type_of}
use Rattle.gen_rules.specs.Laws.{IsWritten}
use Rattle.gen_rules.specs.Frames.{max_stack}
use Rattle.gen_rules.proofs.Types.{types_agree}
use Rattle.jv_sound.proofs.Worlds.{World, Extends, Good, Fits, GivesA}
use Rattle.jv_sound.proofs.Worlds as worlds
use Rattle.jv_sound.proofs.Objects.{Heap}
use Rattle.gen_sound.specs.Following.{Moment, Comes, Leads, Follows}
use Rattle.gen_sound.specs.Related.{Running, moment, flat, flat_given, RunsCode}
use Rattle.gen_sound.specs.Arriving.{Arrives}
use Rattle.gen_sound.proofs.Steps.{stays, lead_of}
use Rattle.gen_sound.proofs.Taking.{step_takes}
use Rattle.gen_sound.proofs.Forms.{goes, next_place, Value_at}

-- Types.

-- `null` alone has no type by its form
is_written : (p : Program) (m : Method) (e : Expr) → IsWritten e ⊎ (type_of p m e ≡ None)
is_written p m (Int q z) = inl tt
is_written p m (Truth q b) = inl tt
is_written p m (Text q t) = inl tt
is_written p m (Null q) = inr refl
is_written p m (Variable q x) = inl tt
is_written p m (Constant q e k) = inl tt
is_written p m (Neg q a) = inl tt
is_written p m (Not q a) = inl tt
is_written p m (Binary q o a b) = inl tt
is_written p m (Protocol q x k args) = inl tt
is_written p m (Helper q k args) = inl tt
is_written p m (Static q k args) = inl tt
is_written p m (Equals q a b) = inl tt
is_written p m (Concat q a b) = inl tt
is_written p m (Session q c args) = inl tt
is_written p m (New q c) = inl tt

shown_written : (p : Program) (m : Method) (sc : List ℕ) (e : Expr) (t : CoreType) → IsShown t → Has p m sc e t → IsWritten e
shown_written p m sc (Int q z) t i h = tt
shown_written p m sc (Truth q b) t i h = tt
shown_written p m sc (Text q s) t i h = tt
shown_written p m sc (Null q) t i Types.null = i
shown_written p m sc (Variable q x) t i h = tt
shown_written p m sc (Constant q e k) t i h = tt
shown_written p m sc (Neg q a) t i h = tt
shown_written p m sc (Not q a) t i h = tt
shown_written p m sc (Binary q o a b) t i h = tt
shown_written p m sc (Protocol q x k args) t i h = tt
shown_written p m sc (Helper q k args) t i h = tt
shown_written p m sc (Static q k args) t i h = tt
shown_written p m sc (Equals q a b) t i h = tt
shown_written p m sc (Concat q a b) t i h = tt
shown_written p m sc (Session q c args) t i h = tt
shown_written p m sc (New q c) t i h = tt

-- what is shown has the type that its form tells
pub shown_type : (p : Program) (m : Method) (sc : List ℕ) (e : Expr) (t : CoreType) → IsShown t → Has p m sc e t → type_of p m e ≡ Some t
shown_type p m sc e t i h = types_agree.agree p m sc e t (shown_written p m sc e t i h) h

-- so has a call without a result
pub void_type : (p : Program) (m : Method) (sc : List ℕ) (e : Expr) → Has p m sc e types.Void → type_of p m e ≡ Some types.Void
void_type p m sc e h = go (is_written p m e)
  where
    no_null : (e : Expr) → Has p m sc e types.Void → type_of p m e ≡ None → type_of p m e ≡ Some types.Void
    no_null (Null q) h none = absurd (nothing_null q types.Void h refl)
      where
        nothing_null : (q : _) (t : CoreType) → Has p m sc (Null q) t → t ≡ types.Void → ⊥
        nothing_null q t Types.null g = cc
    no_null (Int q z) h none = absurd (cc)
    no_null (Truth q z) h none = absurd (cc)
    no_null (Text q z) h none = absurd (cc)
    no_null (Variable q x) h none = types_agree.agree p m sc (Variable q x) types.Void tt h
    no_null (Constant q x k) h none = absurd (cc)
    no_null (Neg q a) h none = absurd (cc)
    no_null (Not q a) h none = absurd (cc)
    no_null (Binary q o a b) h none = absurd (cc)
    no_null (Protocol q x k args) h none = types_agree.agree p m sc (Protocol q x k args) types.Void tt h
    no_null (Helper q k args) h none = types_agree.agree p m sc (Helper q k args) types.Void tt h
    no_null (Static q k args) h none = types_agree.agree p m sc (Static q k args) types.Void tt h
    no_null (Equals q a b) h none = absurd (cc)
    no_null (Concat q a b) h none = absurd (cc)
    no_null (Session q x args) h none = absurd (cc)
    no_null (New q x) h none = absurd (cc)

    go : IsWritten e ⊎ (type_of p m e ≡ None) → type_of p m e ≡ Some types.Void
    go (inl w) = types_agree.agree p m sc e types.Void w h
    go (inr none) = no_null e h none

-- a value is dropped by `pop`
pops_value : (p : Program) (m : Method) (code : List Instr) (x : World) (v : Value) (t : CoreType) → Fits p x v t → (from to : ℕ) →
    templates.discard p m code (Some t) from to → one code pop from to
pops_value p m code x v t worlds.int from to h = h
pops_value p m code x v t worlds.truth from to h = h
pops_value p m code x v t worlds.text from to h = h
pops_value p m code x v t worlds.null from to h = h
pops_value p m code x v t (worlds.object e) from to h = h
pops_value p m code x v t (worlds.constant e) from to h = h

pub pops : (p : Program) (m : Method) (code : List Instr) (sc : List ℕ) (e : Expr) (x : World) (v : Value) (t : CoreType) →
    Has p m sc e t → Fits p x v t → (from to : ℕ) → templates.discard p m code (type_of p m e) from to → one code pop from to
pops p m code sc e x v t h f from to d = go (is_written p m e)
  where
    go : IsWritten e ⊎ (type_of p m e ≡ None) → one code pop from to
    go (inl w) = pops_value p m code x v t f from to
        (subst (λ o. templates.discard p m code o from to) (types_agree.agree p m sc e t w h) d)
    go (inr none) = subst (λ o. templates.discard p m code o from to) none d

module _ (p : Program) (ok : IsCore p) (os : List Outline) (program : linked.Program) (inputs : Inputs) (me : ℕ) (r : Running) (m : Method)
    (code : List Instr) (runs : RunsCode p os program me r m code) where
  abbrev Come : Moment → Moment → Type 0
  Come = Comes (step program me)

  -- the text of a value takes its place
  pub text_comes : (t : CoreType) → IsShown t → (x : World) (v : Value) → Fits p x v t → (from to : ℕ) →
      templates.text p m code (Some t) from to → (st : List Held) (ls : List (Option Held)) (s : Shared) (q : Messages) →
      length st + 1 ≤ max_stack p m →
      Come (moment p r from (st ++ flat v ∷ []) ls s q) (moment p r to (st ++ held.Text (unwrap_or (shown v) []) ∷ []) ls s q)
  text_comes types.Int i x v (worlds.int {z = z}) from to stands st ls s q room =
      next_place p ok os program inputs me r m code runs 0
      (λ k. Come (moment p r from (st ++ held.Int z ∷ []) ls s q) (moment p r k (st ++ held.Text (unwrap_or (shown (values.Int z)) []) ∷ [])
      ls s q)) from to stands.1
      (goes p ok os program inputs me r m code runs 0 from (st ++ held.Int z ∷ []) ls s q (from + 1)
      (st ++ held.Text (unwrap_or (shown (values.Int z)) []) ∷ [])
      (step_takes p os program me r m code runs from (st ++ held.Int z ∷ []) ls s q (invokestatic value_of_int) (Use built.ValueOfInt)
      stands.0 refl st (held.Int z ∷ []) (number ∷ []) 1 refl refl (refl, tt) room)).comes
  text_comes types.Boolean i x v (worlds.truth {b = true}) from to stands st ls s q room =
      next_place p ok os program inputs me r m code runs 0
      (λ k. Come (moment p r from (st ++ flat (values.Truth true) ∷ []) ls s q)
      (moment p r k (st ++ held.Text (unwrap_or (shown (values.Truth true)) []) ∷ []) ls s q)) from to
      stands.1
      (goes p ok os program inputs me r m code runs 0 from (st ++ flat (values.Truth true) ∷ []) ls s q (from + 1)
      (st ++ held.Text (unwrap_or (shown (values.Truth true)) []) ∷ [])
      (step_takes p os program me r m code runs from (st ++ flat (values.Truth true) ∷ []) ls s q (invokestatic value_of_truth)
      (Use built.ValueOfTruth) stands.0 refl st (flat (values.Truth true) ∷ []) (number ∷ []) 1 refl refl (refl, tt) room)).comes
  text_comes types.Boolean i x v (worlds.truth {b = false}) from to stands st ls s q room =
      next_place p ok os program inputs me r m code runs 0
      (λ k. Come (moment p r from (st ++ flat (values.Truth false) ∷ []) ls s q)
      (moment p r k (st ++ held.Text (unwrap_or (shown (values.Truth false)) []) ∷ []) ls s q)) from to
      stands.1
      (goes p ok os program inputs me r m code runs 0 from (st ++ flat (values.Truth false) ∷ []) ls s q (from + 1)
      (st ++ held.Text (unwrap_or (shown (values.Truth false)) []) ∷ [])
      (step_takes p os program me r m code runs from (st ++ flat (values.Truth false) ∷ []) ls s q (invokestatic value_of_truth)
      (Use built.ValueOfTruth) stands.0 refl st (flat (values.Truth false) ∷ []) (number ∷ []) 1 refl refl (refl, tt) room)).comes
  text_comes types.Text i x v (worlds.text {t = t}) from to stands st ls s q room =
      subst (λ k. Come (moment p r from (st ++ held.Text t ∷ []) ls s q) (moment p r k (st ++ held.Text t ∷ []) ls s q)) (sym stands)
      (stays (step program me) (moment p r from (st ++ held.Text t ∷ []) ls s q))
  text_comes types.Void i x v f from to stands st ls s q room = absurd i
  text_comes (types.Object c) i x v f from to stands st ls s q room = absurd i
  text_comes (types.Enum e) i x v f from to stands st ls s q room = absurd i

  -- the print stream
  pub out_goes : (place : ℕ) (ls : List (Option Held)) (s : Shared) (q : Messages) → slice_get code place ≡ Some (getstatic out_reference) →
      1 ≤ max_stack p m →
      Leads (step program me) (moment p r place [] ls s q) (moment p r (place + 1) (held.Out ∷ []) ls s q)
  out_goes place ls s q at room = goes p ok os program inputs me r m code runs 0 place [] ls s q (place + 1) (held.Out ∷ [])
      (step_takes p os program me r m code runs place [] ls s q (getstatic out_reference) (Use built.Out) at refl [] [] [] 1 refl refl tt
      (omega (arith, room)))

  -- a text is printed
  pub println_goes : (place : ℕ) (t : List ℕ) (ls : List (Option Held)) (s : Shared) (q : Messages) →
      slice_get code place ≡ Some (invokevirtual println_reference) →
      Leads (step program me) (moment p r place (held.Out ∷ held.Text t ∷ []) ls s q)
      (moment p r (place + 1) [] ls (record s { events = s.events ++ seen.Print t ∷ [] }) q)
  println_goes place t ls s q at =
      lead_of (step program me) (moment p r place (held.Out ∷ held.Text t ∷ []) ls s q)
      (moment p r (place + 1) [] ls (record s { events = s.events ++ seen.Print t ∷ [] }) q) (Some (seen.Print t))
      (step_takes p os program me r m code runs place (held.Out ∷ held.Text t ∷ []) ls s q (invokevirtual println_reference)
      (Use built.Println) at refl [] (held.Out ∷ held.Text t ∷ []) _ 0 refl refl (refl, (refl, tt)) (omega arith)) refl

  -- a value is dropped
  pub pop_goes : (place : ℕ) (v : Held) (ls : List (Option Held)) (s : Shared) (q : Messages) → slice_get code place ≡ Some pop →
      Leads (step program me) (moment p r place (v ∷ []) ls s q) (moment p r (place + 1) [] ls s q)
  pop_goes place v ls s q at = goes p ok os program inputs me r m code runs 0 place (v ∷ []) ls s q (place + 1) []
      (step_takes p os program me r m code runs place (v ∷ []) ls s q pop Pop at refl [] (v ∷ []) (Any ∷ []) 0 refl refl (refl, tt)
      (omega arith))

  -- what is done with the value of an expression in a statement
  pub work_then : {A B : Type 0} (level : ℕ) (R : Moment → A → Lives ℕ → Type 0) (ls : List (Option Held)) (to : ℕ) (st : List Held)
      (c : Moment) (w : World) (t : CoreType) (row : Row ℕ) (o : Outcome Shared (Option Value)) (g : Value → Run Shared B)
      (f : B → Run (Lives ℕ) A) → Good (Heap p ok) (λ w v. GivesA p w v t) w o →
      Follows (step program me) level (Value_at p ok os program inputs me r m code runs level ls to st) c o →
      ((x : World) (v : Value) (s : Shared) → Extends w x → Fits p x v t → Heap p ok x s →
      Arrives p program inputs me r to (st ++ flat v ∷ []) ls c s → Follows (step program me) level R c (and_then (kept row (g v s)) f)) →
      Follows (step program me) level R c (and_then (kept row (and_then (and_then o found) g)) f)
  work_then level R ls to st c w t row (Ends e es) g f good h k = h
  work_then level R ls to st c w t row (Gives None s) g f good h k = tt
  work_then level R ls to st c w t row (Gives (Some v) s) g f good h k =
      k good.world v s good.grown (fits_of good.world v t good.is) good.state h
    where
      fits_of : (x : World) (v : Value) (t : CoreType) → GivesA p x (Some v) t → Fits p x v t
      fits_of x v t (worlds.value f) = f

  -- the same for what an expression may give, where it is dropped
  pub given_then : {A : Type 0} (level : ℕ) (R : Moment → A → Lives ℕ → Type 0) (ls : List (Option Held)) (to : ℕ) (st : List Held)
      (c : Moment) (w : World) (t : CoreType) (row : Row ℕ) (o : Outcome Shared (Option Value)) (f : Option Value → Run (Lives ℕ) A) →
      Good (Heap p ok) (λ w v. GivesA p w v t) w o →
      Follows (step program me) level (Value_at p ok os program inputs me r m code runs level ls to st) c o →
      ((x : World) (v : Option Value) (s : Shared) → Extends w x → GivesA p x v t → Heap p ok x s →
      Arrives p program inputs me r to (st ++ flat_given v) ls c s →
      Follows (step program me) level R c (f v (record { locals = row; shared = s }))) →
      Follows (step program me) level R c (and_then (kept row o) f)
  given_then level R ls to st c w t row (Ends e es) f good h k = h
  given_then level R ls to st c w t row (Gives v s) f good h k = k good.world v s good.grown good.is good.state h
