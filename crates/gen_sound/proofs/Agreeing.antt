-- A machine has one run: so what ends, waits or goes on as a meaning says is all that it does.
use Rattle.std.proofs.Common.{◌≡◌, ◌≢◌, ◌⊎◌, inl, inr, ℕ, zero, suc, ◌+◌, ◌≤◌, ◌<◌, List, [], ◌++◌, Option, Some, None, refl, sym, ap, ap₂}
use Rattle.std.proofs.Common.{◌∙◌, subst, append_assoc, append-nil, arith}
use Rattle.mg_text.specs.Call.{Name}
use Rattle.mg_text.specs.declared.event.Event.{Event}
use Rattle.mg_text.specs.declared.event.Ending.{Ending}
use Rattle.mg_text.specs.declared.event.Ending.TheVariants as endings
use Rattle.jv_values.specs.Values.{Finish, Done, Zero, Null, Mismatch, NoPeer, Wait, More, Wrong}
use Rattle.jv_values.specs.Alike.{Prefix}
use Rattle.vm_model.specs.Messages.{Messages, role_named}
use Rattle.vm_model.specs.Machine.{Machine, Stepped, Went, Waits, Stops, Steps, none, more, noted}
use Rattle.vm_model.specs.Runs.{Runs}
use Rattle.gen_sound.specs.Following.{Moment, Comes, Stopped, EndsAlike}
use Rattle.vm_world_law.specs.Meant.{finish_of}

abbrev machine_of : Machine → Stepped → Machine
machine_of m (Went n q e) = n
machine_of m (Waits peer) = m
machine_of m (Stops e) = m

abbrev messages_of : Messages → Stepped → Messages
messages_of q (Went n r e) = r
messages_of q (Waits peer) = q
messages_of q (Stops e) = q

abbrev event_of : Stepped → Option Event
event_of (Went n q e) = e
event_of (Waits peer) = None
event_of (Stops e) = None

module _ (step : Machine → Messages → Stepped) where
  -- from the end of some steps to the end of more steps
  record Onward (n : Machine) (r : Messages) (o : Machine) (t : Messages) (j k : ℕ) (es fs : List Event) : Type 0 where
    rest : List Event
    count : ℕ
    steps : Steps step n r count rest o t
    events : fs ≡ es ++ rest
    counts : k ≡ j + count

  onward : {m n o : Machine} {q r t : Messages} {j k : ℕ} {es fs : List Event} → Steps step m q j es n r → Steps step m q k fs o t → j ≤ k →
      Onward n r o t j k es fs
  onward {k = k} {fs = fs} none b le = record { rest = fs; count = k; steps = b; events = refl; counts = omega arith }
  onward (more {k = j} s a) none le = absurd (omega (arith, le))
  onward {o = o} {t = t} (more {m' = m1} {q' = q1} {e = e} {k = j} {events = es} s a)
      (more {m' = m2} {q' = q2} {e = f} {k = k} {events = fs} u b)
      le =
      let same : Went m2 q2 f ≡ Went m1 q1 e = sym u ∙ s in
      let there = subst (λ m. Steps step m q1 k fs o t) (ap (machine_of m2) same)
      (subst (λ q. Steps step m2 q k fs o t) (ap (messages_of q2)
      same) b) in
      let h = onward a there (omega (arith, le)) in
      let c = h.counts in
      record {
        rest = h.rest;
        count = h.count;
        steps = h.steps;
        events = ap₂ (λ x y. noted x ++ y) (ap event_of same) h.events ∙ sym (append_assoc (noted e) es h.rest);
        counts = omega (arith, c);
      }

  -- where no step goes on
  data Halts (s : Stepped) : Type 0 where
    waits : (peer : ℕ) → s ≡ Waits peer → Halts s
    stops : (e : Ending) → s ≡ Stops e → Halts s

  record Stays (n : Machine) (r : Messages) (o : Machine) (t : Messages) (count : ℕ) (rest : List Event) : Type 0 where
    machine : n ≡ o
    messages : r ≡ t
    no_count : count ≡ 0
    no_event : rest ≡ []

  halted : {n o : Machine} {r t : Messages} {count : ℕ} {rest : List Event} → Halts (step n r) → Steps step n r count rest o t →
      Stays n r o t count rest
  halted h none = record { machine = refl; messages = refl; no_count = refl; no_event = refl }
  halted (waits peer is) (more s a) = absurd (let same = sym is ∙ s in cc)
  halted (stops e is) (more s a) = absurd (let same = sym is ∙ s in cc)

  record Same (n : Machine) (r : Messages) (o : Machine) (t : Messages) (es fs : List Event) : Type 0 where
    machine : n ≡ o
    messages : r ≡ t
    events : fs ≡ es

  -- two runs that come to a halt come to the same
  same_halt : {m n o : Machine} {q r t : Messages} {j k : ℕ} {es fs : List Event} → Steps step m q j es n r → Steps step m q k fs o t →
      Halts (step n r) → Halts (step o t) → Same n r o t es fs
  same_halt {n = n} {o = o} {r = r} {t = t} {j = j} {k = k} {es = es} {fs = fs} a b h g = go (either j k)
    where
      either : (j k : ℕ) → (j ≤ k) ⊎ (k ≤ j)
      either zero k = inl (omega arith)
      either (suc j) zero = inr (omega arith)
      either (suc j) (suc k) = elim (either j k) [ inl x ↦ inl (omega (arith, x)) | inr x ↦ inr (omega (arith, x)) ]

      go : (j ≤ k) ⊎ (k ≤ j) → Same n r o t es fs
      go (inl le) =
          let w = onward a b le in
          let s = halted h w.steps in
          record { machine = s.machine; messages = s.messages; events = w.events ∙ ap (λ x. es ++ x) s.no_event ∙ append-nil es }
      go (inr le) =
          let w = onward b a le in
          let s = halted g w.steps in
          record {
            machine = sym s.machine;
            messages = sym s.messages;
            events = sym (w.events ∙ ap (λ x. fs ++ x) s.no_event ∙ append-nil fs);
          }

  -- a run that halts goes no further
  no_further : {m n o : Machine} {q r t : Messages} {j k : ℕ} {es fs : List Event} → Steps step m q j es n r → Halts (step n r) →
      Steps step m q k fs o t → k ≤ j
  no_further {n = n} {o = o} {r = r} {t = t} {j = j} {k = k} {es = es} {fs = fs} a h b = go (either j k)
    where
      either : (j k : ℕ) → (j < k) ⊎ (k ≤ j)
      either zero zero = inr (omega arith)
      either zero (suc k) = inl (omega arith)
      either (suc j) zero = inr (omega arith)
      either (suc j) (suc k) = elim (either j k) [ inl x ↦ inl (omega (arith, x)) | inr x ↦ inr (omega (arith, x)) ]

      go : (j < k) ⊎ (k ≤ j) → k ≤ j
      go (inr le) = le
      go (inl lt) =
          let w = onward a b (omega (arith, lt)) in
          let s = halted h w.steps in
          let c = w.counts in let z = s.no_count in omega (arith, c, z)

  pub further_is : (c d : Moment) (a : Comes step c d) → c.events ≡ [] → a.further ≡ d.events
  further_is c d a e = sym (a.events_are ∙ ap (λ es. es ++ a.further) e)

  stop_is : (a b : Ending) → Stops a ≡ Stops b → a ≡ b
  stop_is a b e = cc

  wait_is : (a b : ℕ) → Waits a ≡ Waits b → a ≡ b
  wait_is a b e = cc

  module _ (start : Machine) (q : Messages) where
    abbrev c : Moment
    c = record { machine = start; messages = q; events = [] }

    record StopsSo (events es : List Event) (a b : Ending) : Type 0 where
      ending : a ≡ b
      events_are : es ≡ events

    stopped_same : (es events : List Event) (a b : Ending) (k : ℕ) → Stopped step c es (Stops a) → Runs step start q k events b →
        StopsSo events es a b
    stopped_same es events a b k h g =
        let s = same_halt h.comes.steps g.leads (stops a h.stops) (stops b g.stops) in
        record {
          ending = stop_is a b (sym h.stops ∙ ap₂ step s.machine s.messages ∙ g.stops);
          events_are = sym h.events_are ∙ sym (further_is c h.moment h.comes refl) ∙ sym s.events;
        }

    pub record MeansSo (f : Finish) (es events : List Event) (ending : Ending) : Type 0 where
      pub is : finish_of ending ≡ Some f
      pub events_are : es ≡ events

    stops_so : (f : Finish) (es events : List Event) (a b : Ending) (k : ℕ) → finish_of a ≡ Some f → Stopped step c es (Stops a) →
        Runs step start q k events b → MeansSo f es events b
    stops_so f es events a b k e h g =
        let s = stopped_same es events a b k h g in record { is = ap finish_of (sym s.ending) ∙ e; events_are = s.events_are }

    -- a run that ends is what is meant
    pub ended_so : (n : ℕ) (f : Finish) (es events : List Event) (ending : Ending) (k : ℕ) → k ≤ n → EndsAlike step n c f es → f ≢ Wrong →
        Runs step start q k events ending → MeansSo f es events ending
    ended_so n Done es events ending k le h fine g = stops_so Done es events endings.Done ending k refl h g
    ended_so n Zero es events ending k le h fine g = stops_so Zero es events endings.Zero ending k refl h g
    ended_so n Null es events ending k le h fine g = stops_so Null es events endings.Null ending k refl h g
    ended_so n (Mismatch p l) es events ending k le h fine g =
        stops_so (Mismatch p l) es events (endings.Mismatch p l) ending k refl h g
    ended_so n (NoPeer p) es events ending k le h fine g = stops_so (NoPeer p) es events (endings.NoPeer p) ending k refl h g
    ended_so n (Wait p) es events ending k le h fine g =
        let s = same_halt h.comes.steps g.leads (waits h.from h.waits) (stops ending g.stops) in
        absurd (let e = sym h.waits ∙ ap₂ step s.machine s.messages ∙ g.stops in cc)
    ended_so n More es events ending k le h fine g =
        let far : h.comes.count ≤ g.steps = no_further g.leads (stops ending g.stops) h.comes.steps in
        absurd (let e = h.enough in let i = g.counted in omega (arith, le, far, e, i))
    ended_so n Wrong es events ending k le h fine g = absurd (fine refl)

    pub record WaitsSo (f : Finish) (es events : List Event) (messages : Messages) (from : ℕ) : Type 0 where
      pub peer : Name
      pub named : role_named messages peer ≡ Some from
      pub finish : f ≡ Wait peer
      pub events_are : es ≡ events

    not_stopped : (es events : List Event) (a : Ending) (k from : ℕ) (m : Machine) (r : Messages) → Stopped step c es (Stops a) →
        Steps step start q k events m r → step m r ≡ Waits from → ⊥
    not_stopped es events a k from m r h g w =
        let s = same_halt h.comes.steps g (stops a h.stops) (waits from w) in
        absurd (let e = sym h.stops ∙ ap₂ step s.machine s.messages ∙ w in cc)

    -- so is a run that waits
    pub waits_so : (n : ℕ) (f : Finish) (es events : List Event) (k from : ℕ) (m : Machine) (r : Messages) → k < n →
        EndsAlike step n c f es → f ≢ Wrong → Steps step start q k events m r → step m r ≡ Waits from → WaitsSo f es events r from
    waits_so n Done es events k from m r lt h fine g w = absurd (not_stopped es events endings.Done k from m r h g w)
    waits_so n Zero es events k from m r lt h fine g w = absurd (not_stopped es events endings.Zero k from m r h g w)
    waits_so n Null es events k from m r lt h fine g w = absurd (not_stopped es events endings.Null k from m r h g w)
    waits_so n (Mismatch p l) es events k from m r lt h fine g w =
        absurd (not_stopped es events (endings.Mismatch p l) k from m r h g w)
    waits_so n (NoPeer p) es events k from m r lt h fine g w = absurd (not_stopped es events (endings.NoPeer p) k from m r h g w)
    waits_so n (Wait p) es events k from m r lt h fine g w =
        let s = same_halt h.comes.steps g (waits h.from h.waits) (waits from w) in
        record {
          peer = p;
          named = ap (λ x. role_named x p) (sym s.messages) ∙ h.named
              ∙ ap (λ x. Some x) (wait_is h.from from (sym h.waits ∙ ap₂ step s.machine s.messages ∙ w));
          finish = refl;
          events_are = sym h.events_are ∙ sym (further_is c h.moment h.comes refl) ∙ sym s.events;
        }
    waits_so n More es events k from m r lt h fine g w =
        let far : h.comes.count ≤ k = no_further g (waits from w) h.comes.steps in
        absurd (let e = h.enough in omega (arith, lt, far, e))
    waits_so n Wrong es events k from m r lt h fine g w = absurd (fine refl)

    before : (es events : List Event) (k : ℕ) (m : Machine) (r : Messages) (d : Moment) (a : Comes step c d) → d.events ≡ es →
        Steps step start q k events m r → k ≤ a.count → Prefix events es
    before es events k m r d a e g le =
        let w = onward g a.steps le in record { later = w.rest; is = sym e ∙ sym (further_is c d a refl) ∙ w.events }

    before_stop : (es events : List Event) (a : Ending) (k : ℕ) (m : Machine) (r : Messages) → Stopped step c es (Stops a) →
        Steps step start q k events m r → Prefix events es
    before_stop es events a k m r h g =
        before es events k m r h.moment h.comes h.events_are g (no_further h.comes.steps (stops a h.stops) g)

    -- what was seen so far is meant
    pub goes_so : (n : ℕ) (f : Finish) (es events : List Event) (k : ℕ) (m : Machine) (r : Messages) → k ≤ n → EndsAlike step n c f es →
        f ≢ Wrong → Steps step start q k events m r → Prefix events es
    goes_so n Done es events k m r le h fine g = before_stop es events endings.Done k m r h g
    goes_so n Zero es events k m r le h fine g = before_stop es events endings.Zero k m r h g
    goes_so n Null es events k m r le h fine g = before_stop es events endings.Null k m r h g
    goes_so n (Mismatch p l) es events k m r le h fine g = before_stop es events (endings.Mismatch p l) k m r h g
    goes_so n (NoPeer p) es events k m r le h fine g = before_stop es events (endings.NoPeer p) k m r h g
    goes_so n (Wait p) es events k m r le h fine g =
        before es events k m r h.moment h.comes h.events_are g (no_further h.comes.steps (waits h.from h.waits) g)
    goes_so n More es events k m r le h fine g =
        before es events k m r h.moment h.comes h.events_are g (let e = h.enough in omega (arith, le, e))
    goes_so n Wrong es events k m r le h fine g = absurd (fine refl)
