-- The three forms of an expression: from its value to its jumps, and from its jumps to its value.
use Rattle.std.proofs.Common.{◌≡◌, ℕ, suc, ◌+◌, ◌≤◌, Bool, true, false, List, [], ◌∷◌, ◌++◌, length, Option, Some, None, refl, sym}
use Rattle.std.proofs.Common.{subst, append-nil, arith, pos}
use Rattle.std.specs.Prelude.{slice_get, if◌then◌else◌}
use Rattle.std.proofs.lemmas.List.{length-append}
use Rattle.jv_values.specs.Values.{Value, Shared, Inputs, Finish}
use Rattle.jv_values.specs.Values as values
use Rattle.jv_values.specs.Doing.{Run, Outcome, Gives, Ends, and_then, ◌>>=◌, found, valued, truth}
use Rattle.jv_core.specs.declared.program.CoreType.TheVariants as types
use Rattle.jv_core.specs.Tree.{Method, Program}
use Rattle.jv_core.specs.Conditions.{IsCore}
use Rattle.vm_model.specs.declared.value.Value.{Value as Held}
use Rattle.vm_model.specs.Program as linked
use Rattle.vm_model.specs.Links.{Outline}
use Rattle.vm_model.specs.Messages.{Messages}
use Rattle.vm_model.specs.Machine.{Went}
use Rattle.vm_model.specs.Actions.{Push, Go, IfZero, Equal, Unequal}
use Rattle.vm_model.specs.Tests.{number}
use Rattle.vm_model.specs.Step.{step}
use Rattle.gen_rules.specs.Symbolic.{Instr, push, goto, ifeq, ifne}
use Rattle.gen_rules.specs.Spans.{Span, Forms, by_value, by_jumps}
use Rattle.gen_rules.specs.Frames.{max_stack, Depths, depths_by_value, depths_by_jumps}
use Rattle.jv_sound.proofs.Worlds.{World, Extends, same_world, Runs, Good, Fits, GivesA}
use Rattle.jv_sound.proofs.Worlds as worlds
use Rattle.jv_sound.proofs.Objects.{Heap}
use Rattle.gen_sound.specs.Following.{Moment, Comes, Leads, Follows}
use Rattle.gen_sound.specs.Related.{Running, moment, flat, flat_given, action_of, RunsCode}
use Rattle.vm_world_law.specs.Meant.{Holds}
use Rattle.gen_sound.specs.Arriving.{Arrives, Jumps, ValueAt, UnlessAt, WhenAt}
use Rattle.gen_sound.proofs.Steps.{comes_on, comes_lead, lead_of, ClosedBefore}
use Rattle.gen_sound.proofs.Taking.{step_takes}

-- a value that is made of a jump
abbrev pub tested : Run Shared (Option Value) → Run Shared Bool
tested m = valued m >>= truth

module _ (p : Program) (ok : IsCore p) (os : List Outline) (program : linked.Program) (inputs : Inputs) (me : ℕ) (r : Running) (m : Method)
    (code : List Instr) (runs : RunsCode p os program me r m code) (n : ℕ) where
  abbrev pub At : (place : ℕ) → List Held → List (Option Held) → Shared → Messages → Moment
  At place st ls s q = moment p r place st ls s q

  abbrev pub Come : Moment → Moment → Type 0
  Come = Comes (step program me)

  abbrev pub Value_at : (ls : List (Option Held)) (to : ℕ) (st : List Held) → Moment → Option Value → Shared → Type 0
  Value_at = ValueAt p program inputs me r

  abbrev pub Unless_at : (ls : List (Option Held)) (target to : ℕ) (st : List Held) → Moment → Bool → Shared → Type 0
  Unless_at = UnlessAt p program inputs me r

  abbrev pub When_at : (ls : List (Option Held)) (target to : ℕ) (st : List Held) → Moment → Bool → Shared → Type 0
  When_at = WhenAt p program inputs me r

  pub arrives_later : (place : ℕ) (st : List Held) (ls : List (Option Held)) (c d : Moment) (s : Shared) → Come c d →
      Arrives p program inputs me r place st ls d s → Arrives p program inputs me r place st ls c s
  arrives_later place st ls c d s a b =
      record { messages = b.messages; comes = comes_on (step program me) c d (At place st ls s b.messages) a b.comes; holds = b.holds }

  pub jumps_later : (place : ℕ) (st : List Held) (ls : List (Option Held)) (c d : Moment) (s : Shared) → Come c d →
      Jumps p program inputs me r place st ls d s → Jumps p program inputs me r place st ls c s
  jumps_later place st ls c d s a b =
      record { messages = b.messages; leads = comes_lead (step program me) c d (At place st ls s b.messages) a b.leads; holds = b.holds }

  pub jump_arrives : (place : ℕ) (st : List Held) (ls : List (Option Held)) (c : Moment) (s : Shared) →
      Jumps p program inputs me r place st ls c s → Arrives p program inputs me r place st ls c s
  jump_arrives place st ls c s b = record { messages = b.messages; comes = b.leads.comes; holds = b.holds }

  pub value_closed : (ls : List (Option Held)) (to : ℕ) (st : List Held) → ClosedBefore (step program me) (Value_at ls to st)
  value_closed ls to st c d v s a b = arrives_later to (st ++ flat_given v) ls c d s a b

  pub unless_closed : (ls : List (Option Held)) (target to : ℕ) (st : List Held) →
      ClosedBefore (step program me) (Unless_at ls target to st)
  unless_closed ls target to st c d true s a b = arrives_later to st ls c d s a b
  unless_closed ls target to st c d false s a b = jumps_later target st ls c d s a b

  pub when_closed : (ls : List (Option Held)) (target to : ℕ) (st : List Held) → ClosedBefore (step program me) (When_at ls target to st)
  when_closed ls target to st c d true s a b = jumps_later target st ls c d s a b
  when_closed ls target to st c d false s a b = arrives_later to st ls c d s a b

  -- What the code of an expression does, at each place where it stands and over any operands for which there is room.
  pub record Does (w : World) (ls : List (Option Held)) (F : Forms) (e : Run Shared (Option Value)) (d : Depths) : Type 0 where
    pub value : (from to : ℕ) (st : List Held) (x : World) (s : Shared) (q : Messages) → F.value from to →
        length st + d.value ≤ max_stack p m → Extends w x → Heap p ok x s → Holds inputs q me s.events →
        Follows (step program me) n (Value_at ls to st) (At from st ls s q) (e s)
    pub unless : (target from to : ℕ) (st : List Held) (x : World) (s : Shared) (q : Messages) → F.unless target from to →
        length st + d.jump ≤ max_stack p m → Extends w x → Heap p ok x s → Holds inputs q me s.events →
        Follows (step program me) n (Unless_at ls target to st) (At from st ls s q) (tested e s)
    pub when : (target from to : ℕ) (st : List Held) (x : World) (s : Shared) (q : Messages) → F.when target from to →
        length st + d.jump ≤ max_stack p m → Extends w x → Heap p ok x s → Holds inputs q me s.events →
        Follows (step program me) n (When_at ls target to st) (At from st ls s q) (tested e s)

  -- one instruction that goes on at a place
  pub goes : (place : ℕ) (st : List Held) (ls : List (Option Held)) (s : Shared) (q : Messages) (to : ℕ) (st' : List Held) →
      step program me (At place st ls s q).machine q ≡ Went (At to st' ls s q).machine q None →
      Leads (step program me) (At place st ls s q) (At to st' ls s q)
  goes place st ls s q to st' e = lead_of (step program me) (At place st ls s q) (At to st' ls s q) None e (sym (append-nil s.events))

  -- a truth value on top is tested: ifeq
  ifeq_goes : (place target : ℕ) (st : List Held) (ls : List (Option Held)) (s : Shared) (q : Messages) (b : Bool) →
      slice_get code place ≡ Some (ifeq target) → length st ≤ max_stack p m →
      Leads (step program me) (At place (st ++ flat (values.Truth b) ∷ []) ls s q) (At (if b then place + 1 else target) st ls s q)
  ifeq_goes place target st ls s q true at room = goes place (st ++ flat (values.Truth true) ∷ []) ls s q (place + 1) st
      (step_takes p os program me r m code runs place (st ++ flat (values.Truth true) ∷ []) ls s q (ifeq target) (IfZero Equal target) at
      refl
      st (flat (values.Truth true) ∷ []) (number ∷ []) 0 refl refl (refl, tt) (omega (arith, room)))
  ifeq_goes place target st ls s q false at room = goes place (st ++ flat (values.Truth false) ∷ []) ls s q target st
      (step_takes p os program me r m code runs place (st ++ flat (values.Truth false) ∷ []) ls s q (ifeq target) (IfZero Equal target)
      at refl
      st (flat (values.Truth false) ∷ []) (number ∷ []) 0 refl refl (refl, tt) (omega (arith, room)))

  ifne_goes : (place target : ℕ) (st : List Held) (ls : List (Option Held)) (s : Shared) (q : Messages) (b : Bool) →
      slice_get code place ≡ Some (ifne target) → length st ≤ max_stack p m →
      Leads (step program me) (At place (st ++ flat (values.Truth b) ∷ []) ls s q) (At (if b then target else place + 1) st ls s q)
  ifne_goes place target st ls s q true at room = goes place (st ++ flat (values.Truth true) ∷ []) ls s q target st
      (step_takes p os program me r m code runs place (st ++ flat (values.Truth true) ∷ []) ls s q (ifne target) (IfZero Unequal target)
      at refl
      st (flat (values.Truth true) ∷ []) (number ∷ []) 0 refl refl (refl, tt) (omega (arith, room)))
  ifne_goes place target st ls s q false at room = goes place (st ++ flat (values.Truth false) ∷ []) ls s q (place + 1) st
      (step_takes p os program me r m code runs place (st ++ flat (values.Truth false) ∷ []) ls s q (ifne target) (IfZero Unequal target)
      at refl
      st (flat (values.Truth false) ∷ []) (number ∷ []) 0 refl refl (refl, tt) (omega (arith, room)))

  pub next_place : (P : ℕ → Type 0) (place to : ℕ) → to ≡ suc place → P (place + 1) → P to
  next_place P place to e h = let same : place + 1 ≡ to = omega (arith, e) in subst P same h

  -- a test behind a value
  unless_of : (target mid to : ℕ) (st : List Held) (ls : List (Option Held)) (c : Moment) (o : Outcome Shared (Option Value)) →
      slice_get code mid ≡ Some (ifeq target) → to ≡ suc mid → length st ≤ max_stack p m →
      Follows (step program me) n (Value_at ls mid st) c o → Follows (step program me) n (Unless_at ls target to st) c (and_then
      (and_then o found) truth)
  unless_of target mid to st ls c (Ends f es) at e room h = h
  unless_of target mid to st ls c (Gives None s) at e room h = tt
  unless_of target mid to st ls c (Gives (Some (values.Truth true)) s) at e room h =
      next_place (λ t. Arrives p program inputs me r t st ls c s) mid to e (record {
        messages = h.messages;
        comes = comes_on (step program me) c (At mid (st ++ flat (values.Truth true) ∷ []) ls s h.messages) (At (mid + 1) st ls s
            h.messages)
            h.comes (ifeq_goes mid target st ls s h.messages true at room).comes;
        holds = h.holds;
      })
  unless_of target mid to st ls c (Gives (Some (values.Truth false)) s) at e room h = record {
    messages = h.messages;
    leads = comes_lead (step program me) c (At mid (st ++ flat (values.Truth false) ∷ []) ls s h.messages) (At target st ls s h.messages)
        h.comes (ifeq_goes mid target st ls s h.messages false at room);
    holds = h.holds;
  }
  unless_of target mid to st ls c (Gives (Some (values.Int z)) s) at e room h = tt
  unless_of target mid to st ls c (Gives (Some (values.Text t)) s) at e room h = tt
  unless_of target mid to st ls c (Gives (Some values.Null) s) at e room h = tt
  unless_of target mid to st ls c (Gives (Some (values.Object o)) s) at e room h = tt
  unless_of target mid to st ls c (Gives (Some (values.Constant x k)) s) at e room h = tt

  when_of : (target mid to : ℕ) (st : List Held) (ls : List (Option Held)) (c : Moment) (o : Outcome Shared (Option Value)) →
      slice_get code mid ≡ Some (ifne target) → to ≡ suc mid → length st ≤ max_stack p m →
      Follows (step program me) n (Value_at ls mid st) c o → Follows (step program me) n (When_at ls target to st) c (and_then (and_then
      o found) truth)
  when_of target mid to st ls c (Ends f es) at e room h = h
  when_of target mid to st ls c (Gives None s) at e room h = tt
  when_of target mid to st ls c (Gives (Some (values.Truth false)) s) at e room h =
      next_place (λ t. Arrives p program inputs me r t st ls c s) mid to e (record {
        messages = h.messages;
        comes = comes_on (step program me) c (At mid (st ++ flat (values.Truth false) ∷ []) ls s h.messages) (At (mid + 1) st ls s
            h.messages)
            h.comes (ifne_goes mid target st ls s h.messages false at room).comes;
        holds = h.holds;
      })
  when_of target mid to st ls c (Gives (Some (values.Truth true)) s) at e room h = record {
    messages = h.messages;
    leads = comes_lead (step program me) c (At mid (st ++ flat (values.Truth true) ∷ []) ls s h.messages) (At target st ls s h.messages)
        h.comes (ifne_goes mid target st ls s h.messages true at room);
    holds = h.holds;
  }
  when_of target mid to st ls c (Gives (Some (values.Int z)) s) at e room h = tt
  when_of target mid to st ls c (Gives (Some (values.Text t)) s) at e room h = tt
  when_of target mid to st ls c (Gives (Some values.Null) s) at e room h = tt
  when_of target mid to st ls c (Gives (Some (values.Object o)) s) at e room h = tt
  when_of target mid to st ls c (Gives (Some (values.Constant x k)) s) at e room h = tt

  room_left : (st : List Held) (k : ℕ) → length st + k ≤ max_stack p m → length st ≤ max_stack p m
  room_left st k h = omega (arith, h)

  -- a value, and its jumps by a test
  pub does_value : (w : World) (ls : List (Option Held)) (v : Span) (e : Run Shared (Option Value)) (k : ℕ) →
      ((from to : ℕ) (st : List Held) (x : World) (s : Shared) (q : Messages) → v from to →
      length st + k ≤ max_stack p m → Extends w x → Heap p ok x s → Holds inputs q me s.events →
      Follows (step program me) n (Value_at ls to st) (At from st ls s q) (e s)) → Does w ls (by_value code v) e (depths_by_value k)
  does_value w ls v e k val = record {
    value = val;
    unless = λ target from to st x s q h room g heap holds. unless_of target h.0 to st ls (At from st ls s q) (e s) h.2.0 h.2.1
        (room_left st k room) (val from h.0 st x s q h.1 room g heap holds);
    when = λ target from to st x s q h room g heap holds. when_of target h.0 to st ls (At from st ls s q) (e s) h.2.0 h.2.1
        (room_left st k room) (val from h.0 st x s q h.1 room g heap holds);
  }

  -- a constant is pushed
  pub push_goes : (place : ℕ) (st : List Held) (ls : List (Option Held)) (s : Shared) (q : Messages) (i : Instr) (v : Held) →
      slice_get code place ≡ Some i → action_of os i ≡ Some (Push v) → length st + 1 ≤ max_stack p m →
      Leads (step program me) (At place st ls s q) (At (place + 1) (st ++ v ∷ []) ls s q)
  push_goes place st ls s q i v at is room = goes place st ls s q (place + 1) (st ++ v ∷ [])
      (step_takes p os program me r m code runs place st ls s q i (Push v) at is st [] [] 1 (sym (append-nil st)) refl tt room)

  pub goto_goes : (place target : ℕ) (st : List Held) (ls : List (Option Held)) (s : Shared) (q : Messages) →
      slice_get code place ≡ Some (goto target) → length st ≤ max_stack p m →
      Leads (step program me) (At place st ls s q) (At target st ls s q)
  goto_goes place target st ls s q at room = goes place st ls s q target st
      (step_takes p os program me r m code runs place st ls s q (goto target) (Go target) at refl st [] [] 0 (sym (append-nil st)) refl tt
      (omega (arith, room)))

  record IsTruth (v : Option Value) : Type 0 where
    truth : Bool
    is : v ≡ Some (values.Truth truth)

  is_truth : (x : World) (v : Option Value) → GivesA p x v types.Boolean → IsTruth v
  is_truth x v (worlds.value worlds.truth) = record { truth = _; is = refl }

  -- the value that jumps make
  made : (f k1 k2 to : ℕ) (st : List Held) (ls : List (Option Held)) (c : Moment) → slice_get code k1 ≡ Some (push (pos 1)) → k2 ≡ suc k1 →
      slice_get code k2 ≡ Some (goto to) → slice_get code f ≡ Some (push (pos 0)) → to ≡ suc f → length st + 1 ≤ max_stack p m →
      (b : Bool) (s : Shared) → Unless_at ls f k1 st c b s → Value_at ls to st c (Some (values.Truth b)) s
  made f k1 k2 to st ls c at1 e1 at2 at3 e3 room true s h =
      let first : Leads (step program me) (At k1 st ls s h.messages) (At k2 (st ++ flat (values.Truth true) ∷ []) ls s h.messages) =
      next_place (λ t. Leads (step program me) (At k1 st ls s h.messages) (At t (st ++ flat (values.Truth true) ∷ []) ls s h.messages))
      k1 k2 e1
      (push_goes k1 st ls s h.messages (push (pos 1)) (flat (values.Truth true)) at1 refl room) in
      let enough : length (st ++ flat (values.Truth true) ∷ []) ≤ max_stack p m =
      subst (λ k. k ≤ max_stack p m) (sym (length-append st (flat (values.Truth true) ∷ []))) room in
      let second : Leads (step program me) (At k2 (st ++ flat (values.Truth true) ∷ []) ls s h.messages)
      (At to (st ++ flat (values.Truth true) ∷ []) ls s h.messages) =
      goto_goes k2 to (st ++ flat (values.Truth true) ∷ []) ls s h.messages at2 enough in
      record {
        messages = h.messages;
        comes = comes_on (step program me) c (At k1 st ls s h.messages) (At to (st ++ flat (values.Truth true) ∷ []) ls s h.messages)
            h.comes
            (comes_on (step program me) (At k1 st ls s h.messages) (At k2 (st ++ flat (values.Truth true) ∷ []) ls s h.messages)
            (At to (st ++ flat (values.Truth true) ∷ []) ls s h.messages) first.comes second.comes);
        holds = h.holds;
      }
  made f k1 k2 to st ls c at1 e1 at2 at3 e3 room false s h = record {
    messages = h.messages;
    comes = comes_on (step program me) c (At f st ls s h.messages) (At to (st ++ flat (values.Truth false) ∷ []) ls s h.messages)
        h.leads.comes
        (next_place (λ t. Come (At f st ls s h.messages) (At t (st ++ flat (values.Truth false) ∷ []) ls s h.messages)) f to e3
        (push_goes f st ls s h.messages (push (pos 0)) (flat (values.Truth false)) at3 refl room).comes);
    holds = h.holds;
  }

  value_of : (x : World) (f k1 k2 to : ℕ) (st : List Held) (ls : List (Option Held)) (c : Moment) →
      slice_get code k1 ≡ Some (push (pos 1)) → k2 ≡ suc k1 →
      slice_get code k2 ≡ Some (goto to) → slice_get code f ≡ Some (push (pos 0)) → to ≡ suc f → length st + 1 ≤ max_stack p m →
      (o : Outcome Shared (Option Value)) → Good (Heap p ok) (λ w v. GivesA p w v types.Boolean) x o →
      Follows (step program me) n (Unless_at ls f k1 st) c (and_then (and_then o found) truth) →
      Follows (step program me) n (Value_at ls to st) c o
  value_of x f k1 k2 to st ls c at1 e1 at2 at3 e3 room (Ends e es) g h = h
  value_of x f k1 k2 to st ls c at1 e1 at2 at3 e3 room (Gives v s) g h =
      let t = is_truth g.world v g.is in
      subst (λ v. Value_at ls to st c v s) (sym t.is) (made f k1 k2 to st ls c at1 e1 at2 at3 e3 room t.truth s
      (subst (λ v. Follows (step program me) n (Unless_at ls f k1 st) c (and_then (and_then (Gives v s) found) truth)) t.is h))

  -- jumps, and the value that they make
  pub does_jumps : (w : World) (ls : List (Option Held)) (U W : (target : ℕ) → Span) (e : Run Shared (Option Value)) (k : ℕ) →
      Runs (Heap p ok) (λ w v. GivesA p w v types.Boolean) w e →
      ((target from to : ℕ) (st : List Held) (x : World) (s : Shared) (q : Messages) → U target from to →
      length st + k ≤ max_stack p m → Extends w x → Heap p ok x s → Holds inputs q me s.events →
      Follows (step program me) n (Unless_at ls target to st) (At from st ls s q) (tested e s)) →
      ((target from to : ℕ) (st : List Held) (x : World) (s : Shared) (q : Messages) → W target from to →
      length st + k ≤ max_stack p m → Extends w x → Heap p ok x s → Holds inputs q me s.events →
      Follows (step program me) n (When_at ls target to st) (At from st ls s q) (tested e s)) →
      Does w ls (by_jumps code U W) e (depths_by_jumps k)
  does_jumps w ls U W e k good un wh = record {
    value = λ from to st x s q h room g heap holds. value_of x h.0 h.1.1.0 h.1.0 to st ls (At from st ls s q) h.1.1.2.0 h.1.1.2.1 h.1.2.0
        h.2.0 h.2.1 (omega (arith, room)) (e s) (good.run x g s heap)
        (un h.0 from h.1.1.0 st x s q h.1.1.1 (omega (arith, room)) g heap holds);
    unless = un;
    when = wh;
  }
