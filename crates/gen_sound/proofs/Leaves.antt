-- Constants and locals.
use Rattle.std.proofs.Common.{◌≡◌, ℕ, suc, ◌+◌, ◌≤◌, Bool, true, false, List, [], ◌∷◌, ◌++◌, length, Option, Some, None, refl}
use Rattle.std.proofs.Common.{sym, subst, arith}
use Rattle.std.specs.Prelude.{slice_get, neg_ℤ}
use Rattle.jv_values.specs.Values.{Value, Shared, Inputs}
use Rattle.jv_values.specs.Values as values
use Rattle.jv_values.specs.Doing.{Run, Outcome, Gives, Ends, and_then, ◌>>=◌, give, found, valued, valuing}
use Rattle.jv_values.specs.Operators.{negative, wrap}
use Rattle.jv_core.specs.Tree.{Method, Program}
use Rattle.jv_core.specs.Conditions.{IsCore}
use Rattle.vm_model.specs.declared.value.Value.{Value as Held}
use Rattle.vm_model.specs.declared.value.Value.TheVariants as held
use Rattle.vm_model.specs.Program as linked
use Rattle.vm_model.specs.Links.{Outline}
use Rattle.vm_model.specs.Messages.{Messages}
use Rattle.vm_model.specs.Actions.{Push, Negate}
use Rattle.vm_model.specs.Tests.{number}
use Rattle.vm_model.specs.Step.{step}
use Rattle.cls_tree.specs.Pool.{Int}
use Rattle.gen_rules.specs.Symbolic.{Instr, Constant, push_truth, ineg, goto}
use Rattle.gen_rules.specs.Spans.{◌then◌, Forms, one, by_value}
use Rattle.gen_rules.specs.Templates.{literal}
use Rattle.gen_rules.specs.Frames.{max_stack, Depths, depths_by_value}
use Rattle.jv_sound.proofs.Worlds.{World}
use Rattle.gen_sound.specs.Following.{Moment, Leads, Follows}
use Rattle.gen_sound.specs.Related.{Running, flat, RunsCode, action_of}
use Rattle.vm_world_law.specs.Meant.{Holds}
use Rattle.gen_sound.specs.Arriving.{Arrives, Jumps}
use Rattle.gen_sound.proofs.Steps.{stays}
use Rattle.gen_sound.proofs.Taking.{step_takes}
use Rattle.gen_sound.proofs.Forms.{Does, does_value, At, Value_at, value_closed, goes, push_goes, goto_goes}

module _ (p : Program) (ok : IsCore p) (os : List Outline) (program : linked.Program) (inputs : Inputs) (me : ℕ) (r : Running) (m : Method)
    (code : List Instr) (runs : RunsCode p os program me r m code) (n : ℕ) where
  abbrev D : (w : World) (ls : List (Option Held)) → Forms → Run Shared (Option Value) → Depths → Type 0
  D = Does p ok os program inputs me r m code runs n

  abbrev A : (place : ℕ) → List Held → (ls : List (Option Held)) → Shared → Messages → Moment
  A = At p ok os program inputs me r m code runs n

  -- one instruction that gives a value
  pub gives_value : (place to : ℕ) (st : List Held) (ls : List (Option Held)) (s : Shared) (q : Messages) (v : Value) → to ≡ suc place →
      Leads (step program me) (A place st ls s q) (A (place + 1) (st ++ flat v ∷ []) ls s q) → Holds inputs q me s.events →
      Arrives p program inputs me r to (st ++ flat v ∷ []) ls (A place st ls s q) s
  gives_value place to st ls s q v e lead holds =
      let same : place + 1 ≡ to = omega (arith, e) in
      subst (λ t. Arrives p program inputs me r t (st ++ flat v ∷ []) ls (A place st ls s q) s) same
      (record { messages = q; comes = lead.comes; holds = holds })

  -- a constant
  pub constant_does : (w : World) (ls : List (Option Held)) (i : Instr) (v : Value) → action_of os i ≡ Some (Push (flat v)) →
      D w ls (by_value code (one code i)) (give (Some v)) (depths_by_value 1)
  constant_does w ls i v is = does_value p ok os program inputs me r m code runs n w ls (one code i) (give (Some v)) 1
      (λ from to st x s q h room g heap holds. gives_value from to st ls s q v h.1
      (push_goes p ok os program inputs me r m code runs n from st ls s q i (flat v) h.0 is room) holds)

  stands : (from to : ℕ) (st : List Held) (ls : List (Option Held)) (s : Shared) (q : Messages) → to ≡ from → Holds inputs q me s.events →
      Arrives p program inputs me r to st ls (A from st ls s q) s
  stands from to st ls s q e holds = subst (λ t. Arrives p program inputs me r t st ls (A from st ls s q) s) (sym e)
      (record { messages = q; comes = stays (step program me) (A from st ls s q); holds = holds })

  jumps_off : (from target : ℕ) (st : List Held) (ls : List (Option Held)) (s : Shared) (q : Messages) →
      slice_get code from ≡ Some (goto target) → length st + 0 ≤ max_stack p m → Holds inputs q me s.events →
      Jumps p program inputs me r target st ls (A from st ls s q) s
  jumps_off from target st ls s q at room holds = record {
    messages = q;
    leads = goto_goes p ok os program inputs me r m code runs n from target st ls s q at (omega (arith, room));
    holds = holds;
  }

  -- a truth value that is written, whose jumps are known
  pub literal_does : (w : World) (ls : List (Option Held)) (b : Bool) →
      D w ls (literal p m code b) (give (Some (values.Truth b))) (record { value = 1; jump = 0 })
  literal_does w ls true = record {
    value = λ from to st x s q h room g heap holds. gives_value from to st ls s q (values.Truth true) h.1
        (push_goes p ok os program inputs me r m code runs n from st ls s q (push_truth true) (flat (values.Truth true)) h.0 refl room)
        holds;
    unless = λ target from to st x s q h room g heap holds. stands from to st ls s q h holds;
    when = λ target from to st x s q h room g heap holds. jumps_off from target st ls s q h.0 room holds;
  }
  literal_does w ls false = record {
    value = λ from to st x s q h room g heap holds. gives_value from to st ls s q (values.Truth false) h.1
        (push_goes p ok os program inputs me r m code runs n from st ls s q (push_truth false) (flat (values.Truth false)) h.0 refl room)
        holds;
    unless = λ target from to st x s q h room g heap holds. jumps_off from target st ls s q h.0 room holds;
    when = λ target from to st x s q h room g heap holds. stands from to st ls s q h holds;
  }

  -- `-`
  negated : (mid to : ℕ) (st : List Held) (ls : List (Option Held)) (c : Moment) (o : Outcome Shared (Option Value)) →
      slice_get code mid ≡ Some ineg → to ≡ suc mid → length st + 1 ≤ max_stack p m →
      Follows (step program me) n (Value_at p ok os program inputs me r m code runs n ls mid st) c o →
      Follows (step program me) n (Value_at p ok os program inputs me r m code runs n ls to st) c
      (and_then (and_then (and_then o found) negative) (λ v. give (Some v)))
  negated mid to st ls c (Ends f es) at e room h = h
  negated mid to st ls c (Gives None s) at e room h = tt
  negated mid to st ls c (Gives (Some (values.Int z)) s) at e room h =
      value_closed p ok os program inputs me r m code runs n ls to st c (A mid (st ++ held.Int z ∷ []) ls s h.messages)
      (Some (values.Int (wrap (neg_ℤ z)))) s h.comes
      (let same : mid + 1 ≡ to = omega (arith, e) in
      subst (λ t. Arrives p program inputs me r t (st ++ held.Int (wrap (neg_ℤ z)) ∷ []) ls (A mid (st ++ held.Int z ∷ []) ls s
      h.messages) s) same
      (record {
        messages = h.messages;
        comes = (goes p ok os program inputs me r m code runs n mid (st ++ held.Int z ∷ []) ls s h.messages (mid + 1) (st ++ held.Int
            (wrap (neg_ℤ z)) ∷ [])
            (step_takes p os program me r m code runs mid (st ++ held.Int z ∷ []) ls s h.messages ineg Negate at refl
            st (held.Int z ∷ []) (number ∷ []) 1 refl refl (refl, tt) room)).comes;
        holds = h.holds;
      }))
  negated mid to st ls c (Gives (Some (values.Truth b)) s) at e room h = tt
  negated mid to st ls c (Gives (Some (values.Text t)) s) at e room h = tt
  negated mid to st ls c (Gives (Some values.Null) s) at e room h = tt
  negated mid to st ls c (Gives (Some (values.Object o)) s) at e room h = tt
  negated mid to st ls c (Gives (Some (values.Constant x k)) s) at e room h = tt

  pub neg_does : (w : World) (ls : List (Option Held)) (G : Forms) (e : Run Shared (Option Value)) (d : Depths) → 1 ≤ d.value →
      D w ls G e d →
      D w ls (by_value code (G.value then one code ineg)) (valuing (valued e >>= negative)) (depths_by_value d.value)
  neg_does w ls G e d some does = does_value p ok os program inputs me r m code runs n w ls (G.value then one code ineg)
      (valuing (valued e >>= negative)) d.value
      (λ from to st x s q h room g heap holds. negated h.0 to st ls (A from st ls s q) (e s) h.2.0 h.2.1 (omega (arith, room, some))
      (does.value from h.0 st x s q h.1 room g heap holds))
