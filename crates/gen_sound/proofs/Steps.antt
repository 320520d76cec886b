-- Steps one after another, and ends that are reached by them.
use Rattle.std.proofs.Common.{◌≡◌, ℕ, suc, ◌+◌, ◌≤◌, List, [], ◌++◌, Option, sym, ap, ◌∙◌, subst, append_assoc, append-nil, arith}
use Rattle.mg_text.specs.Call.{Name}
use Rattle.mg_text.specs.declared.event.Event.{Event}
use Rattle.jv_values.specs.Values.{Finish, Done, Zero, Null, Mismatch, NoPeer, Wait, More, Wrong}
use Rattle.jv_values.specs.Doing.{Outcome, Gives, Ends, and_then}
use Rattle.vm_model.specs.Messages.{Messages}
use Rattle.vm_model.specs.Machine.{Machine, Stepped, Went, Steps, none, more, noted}
use Rattle.gen_sound.specs.Following.{Moment, Comes, Leads, Stopped, Waiting, Spent, EndsAlike, Follows}

at_least : (k n x y : ℕ) → k ≤ x + n → n ≤ y → k ≤ x + y
at_least k n x y h i = omega arith

module _ (step : Machine → Messages → Stepped) where
  pub steps_on : {m n o : Machine} {q r t : Messages} {j k : ℕ} {es fs : List Event} → Steps step m q j es n r → Steps step n r k fs o t →
      Steps step m q (j + k) (es ++ fs) o t
  steps_on {o = o} {q = q} {t = t} {k = k} {fs = fs} (none {m = m}) b =
      let same : k ≡ 0 + k = omega arith in subst (λ i. Steps step m q i fs o t) same b
  steps_on {o = o} {q = q} {t = t} {k = k} {fs = fs} (more {m = m} {e = e} {k = j} {events = events} s a) b =
      let same : suc (j + k) ≡ suc j + k = omega arith in
      subst (λ es. Steps step m q (suc j + k) es o t) (sym (append_assoc (noted e) events fs))
      (subst (λ i. Steps step m q i (noted e ++ (events ++ fs)) o t) same (more {e = e} s (steps_on a b)))

  abbrev pub Come : Moment → Moment → Type 0
  Come = Comes step

  pub stays : (c : Moment) → Come c c
  stays c = record { count = 0; further = []; steps = none; events_are = sym (append-nil c.events) }

  pub comes_on : (c d e : Moment) → Come c d → Come d e → Come c e
  comes_on c d e a b = record {
    count = a.count + b.count;
    further = a.further ++ b.further;
    steps = steps_on a.steps b.steps;
    events_are = b.events_are ∙ ap (λ es. es ++ b.further) a.events_are ∙ append_assoc c.events a.further b.further;
  }

  -- one step, with at most one event
  pub goes_to : (c d : Moment) (e : Option Event) → step c.machine c.messages ≡ Went d.machine d.messages e →
      d.events ≡ c.events ++ noted e → Come c d
  goes_to c d e s is = record {
    count = 1;
    further = noted e ++ [];
    steps = more {e = e} s none;
    events_are = is ∙ ap (λ es. c.events ++ es)
        (sym (append-nil (noted e)));
  }

  -- one step, which moves
  pub lead_of : (c d : Moment) (e : Option Event) → step c.machine c.messages ≡ Went d.machine d.messages e →
      d.events ≡ c.events ++ noted e → Leads step c d
  unfolding goes_to
  lead_of c d e s is = record { comes = goes_to c d e s is; moves = omega arith }

  pub comes_lead : (c d e : Moment) → Come c d → Leads step d e → Leads step c e
  unfolding comes_on
  comes_lead c d e a b = let h = b.moves in record { comes = comes_on c d e a b.comes; moves = omega (arith, h) }

  pub leads_on : (c d e : Moment) → Leads step c d → Come d e → Leads step c e
  unfolding comes_on
  leads_on c d e a b = let h = a.moves in record { comes = comes_on c d e a.comes b; moves = omega (arith, h) }

  stopped_later : (c d : Moment) (es : List Event) (s : Stepped) → Come c d → Stopped step d es s → Stopped step c es s
  stopped_later c d es s a b =
      record { moment = b.moment; comes = comes_on c d b.moment a b.comes; events_are = b.events_are; stops = b.stops }

  waiting_later : (c d : Moment) (es : List Event) (peer : Name) → Come c d → Waiting step d es peer → Waiting step c es peer
  waiting_later c d es peer a b = record {
    moment = b.moment;
    comes = comes_on c d b.moment a b.comes;
    events_are = b.events_are;
    from = b.from;
    named = b.named;
    waits = b.waits;
  }

  spent_later : (k n : ℕ) (c d : Moment) (es : List Event) (a : Come c d) → k ≤ a.count + n → Spent step n d es → Spent step k c es
  unfolding comes_on
  spent_later k n c d es a le b = record {
    moment = b.moment;
    comes = comes_on c d b.moment a b.comes;
    events_are = b.events_are;
    enough = at_least k n a.count b.comes.count le b.enough;
  }

  -- an end that is reached later; steps before it pay for a greater budget
  pub ends_later : (k n : ℕ) (c d : Moment) (f : Finish) (es : List Event) (a : Come c d) → k ≤ a.count + n → EndsAlike step n d f es →
      EndsAlike step k c f es
  ends_later k n c d Done es a le b = stopped_later c d es _ a b
  ends_later k n c d Zero es a le b = stopped_later c d es _ a b
  ends_later k n c d Null es a le b = stopped_later c d es _ a b
  ends_later k n c d (Mismatch p l) es a le b = stopped_later c d es _ a b
  ends_later k n c d (NoPeer p) es a le b = stopped_later c d es _ a b
  ends_later k n c d (Wait p) es a le b = waiting_later c d es p a b
  ends_later k n c d More es a le b = spent_later k n c d es a le b
  ends_later k n c d Wrong es a le b = tt

  -- what is given is closed under steps before it
  abbrev pub ClosedBefore : {S A : Type 0} → (Moment → A → S → Type 0) → Type 0
  ClosedBefore {S} {A} R = (c d : Moment) (a : A) (s : S) → Come c d → R d a s → R c a s

  pub follows_later : {S A : Type 0} (n : ℕ) (R : Moment → A → S → Type 0) → ClosedBefore R → (c d : Moment) (o : Outcome S A) → Come c d →
      Follows step n R d o → Follows step n R c o
  follows_later n R closed c d (Gives a s) come f = closed c d a s come f
  follows_later n R closed c d (Ends e es) come f = ends_later n n c d e es come (omega arith) f

  -- a later turn or a called body has one less, and a step pays for it
  pub follows_paid : {S A : Type 0} (n : ℕ) (R : Moment → A → S → Type 0) → ClosedBefore R → (c d : Moment) (o : Outcome S A) →
      Leads step c d → Follows step n R d o → Follows step (suc n) R c o
  follows_paid n R closed c d (Gives a s) lead f = closed c d a s lead.comes f
  follows_paid n R closed c d (Ends e es) lead f =
      let h = lead.moves in ends_later (suc n) n c d e es lead.comes (omega (arith, h)) f

  pub follows_then : {S A B : Type 0} (n : ℕ) (R : Moment → A → S → Type 0) (R' : Moment → B → S → Type 0) (c : Moment)
      (o : Outcome S A) (f : A → S → Outcome S B) → Follows step n R c o → ((a : A) (s : S) → R c a s → Follows step n R' c (f a s)) →
      Follows step n R' c (and_then o f)
  follows_then n R R' c (Gives a s) f r k = k a s r
  follows_then n R R' c (Ends e es) f r k = r
