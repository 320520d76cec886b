-- Two runs of one machine over the same messages: one is the beginning of the other.
use Rattle.std.proofs.Common.{◌≡◌, ◌⊎◌, inl, inr, ℕ, suc, ◌+◌, List, [], ◌∷◌, ◌++◌, length, drop, Option, refl, sym, ap, ◌∙◌, subst}
use Rattle.std.proofs.Common.{append_assoc, append-nil, arith}
use Rattle.std.proofs.lemmas.List.{length-append}
use Rattle.mg_text.specs.declared.event.Event.{Event}
use Rattle.vm_model.specs.Messages.{Messages}
use Rattle.vm_model.specs.Machine.{Machine, Stepped, Went, Stops, Steps, none, more, noted}
use Rattle.vm_world_law.specs.World.{Runs, Over, Role}
use Rattle.jv_values.specs.Alike.{Prefix}

-- Prefixes.

drop_front : {A : Type 0} (xs ys : List A) → drop (length xs) (xs ++ ys) ≡ ys
drop_front [] ys = refl
drop_front (x ∷ xs) ys = drop_front xs ys

-- what is behind a prefix
pub behind_front : {A : Type 0} (xs ys : List A) → Prefix xs ys → ys ≡ xs ++ drop (length xs) ys
behind_front xs ys h = h.is ∙ ap (λ l. xs ++ l) (sym (ap (drop (length xs)) h.is ∙ drop_front xs h.later))

nothing_more : {A : Type 0} (xs ys : List A) → length (xs ++ ys) ≡ length xs → ys ≡ []
nothing_more xs [] e = refl
nothing_more xs (y ∷ ys) e = absurd (omega (arith, e, length-append xs (y ∷ ys)))

-- two lists that are prefixes of each other are the same
pub each_front : {A : Type 0} (xs ys : List A) → Prefix xs ys → Prefix ys xs → xs ≡ ys
each_front xs ys h g =
    let longer : length ys ≡ length xs + length h.later = ap length h.is ∙ length-append xs h.later in
    let shorter : length xs ≡ length ys + length g.later = ap length g.is ∙ length-append ys g.later in
    let same : length (xs ++ h.later) ≡ length xs = sym (ap length h.is) ∙ (omega (arith, longer, shorter)) in
    sym (h.is ∙ ap (λ l. xs ++ l) (nothing_more xs h.later same) ∙ append-nil xs)

-- Runs.

-- what a step leads to
record Led (m n : Machine) (q r : Messages) (a b : Option Event) : Type 0 where
  machine : n ≡ m
  messages : r ≡ q
  event : a ≡ b

led_same : (m n : Machine) (q r : Messages) (a b : Option Event) → ◌≡◌ {A = Stepped} (Went m q a) (Went n r b) → Led m n q r a b
led_same m n q r a b h = record { machine = cc; messages = cc; event = cc }

module _ (next : Machine → Messages → Stepped) where
  -- a run goes on behind another
  pub record GoesOn (n : Machine) (r : Messages) (k : ℕ) (es : List Event) (n' : Machine) (r' : Messages) (l : ℕ) (fs : List Event) : Type 0
    where
      pub left : ℕ
      pub events : List Event
      pub leads : Steps next n r left events n' r'
      pub count : l ≡ k + left
      pub all : fs ≡ es ++ events

  one_more : (n : Machine) (r : Messages) (k : ℕ) (es : List Event) (n' : Machine) (r' : Messages) (l : ℕ) (fs : List Event)
      (e : Option Event) →
      GoesOn n r k es n' r' l fs → GoesOn n r (suc k) (noted e ++ es) n' r' (suc l) (noted e ++ fs)
  one_more n r k es n' r' l fs e h = record {
    left = h.left;
    events = h.events;
    leads = h.leads;
    count = omega (arith, h.count);
    all = ap (λ xs. noted e ++ xs) h.all ∙ sym (append_assoc (noted e) es h.events);
  }

  pub compare : (m : Machine) (q : Messages) (k : ℕ) (es : List Event) (n : Machine) (r : Messages) (l : ℕ) (fs : List Event) (n' : Machine)
      (r' : Messages) →
      Steps next m q k es n r → Steps next m q l fs n' r' → GoesOn n r k es n' r' l fs ⊎ GoesOn n' r' l fs n r k es
  compare m q _ _ _ _ l fs n' r' none run = inl (record { left = l; events = fs; leads = run; count = omega arith; all = refl })
  compare m q k es n r _ _ _ _ (more first rest) none =
      inr (record { left = k; events = es; leads = more first rest; count = omega arith; all = refl })
  compare m q _ _ n r _ _ n' r' (more {m' = a} {q' = b} {e = x} {k = k} {events = es} first rest)
      (more {m' = c} {q' = d} {e = y} {k = l} {events = fs} first' rest') =
      let led = led_same a c b d x y (sym first ∙ first') in
      let run : Steps next a b l fs n' r' = subst (λ z. Steps next z b l fs n' r') led.machine
      (subst (λ z. Steps next c z l fs n' r') led.messages rest') in
      go (compare a b k es n r l fs n' r' rest run) led.event
    where
      go : GoesOn n r k es n' r' l fs ⊎ GoesOn n' r' l fs n r k es → x ≡ y →
          GoesOn n r (suc k) (noted x ++ es) n' r' (suc l) (noted y ++ fs) ⊎ GoesOn n' r' (suc l) (noted y ++ fs) n r (suc k)
          (noted x ++ es)
      go (inl h) e = inl (subst (λ o. GoesOn n r (suc k) (noted x ++ es) n' r' (suc l) (noted o ++ fs)) e
          (one_more n r k es n' r' l fs x h))
      go (inr h) e = inr (subst (λ o. GoesOn n' r' (suc l) (noted o ++ fs) n r (suc k) (noted x ++ es)) e
          (one_more n' r' l fs n r k es x h))

  -- the step doesn't go on
  abbrev pub Halts : Stepped → Type 0
  Halts (Went m q e) = ⊥
  Halts _ = Unit {0}

  halts_there : (n : Machine) (r : Messages) (out : Stepped) → next n r ≡ out → Halts out → (n' : Machine) (r' : Messages) (k : ℕ)
      (es : List Event) →
      Steps next n r k es n' r' → (es ≡ []) × (k ≡ 0) × (n' ≡ n) × (r' ≡ r)
  halts_there n r out is h _ _ _ _ none = (refl, refl, refl, refl)
  halts_there n r out is h n' r' _ _ (more {m' = a} {q' = b} {e = e} first rest) = absurd (subst Halts (sym is ∙ first) h)

-- where a role stands whose machine halts so
abbrev pub standing : (steps : ℕ) → Machine → Stepped → Role
standing steps last (Stops ending) = record { state = Over ending; count = suc steps }
standing steps last _ = record { state = Runs last; count = steps }

module _ (next : Machine → Messages → Stepped) (start : Machine) (q : Messages) where
  -- some run shows these events
  pub record Shows (es : List Event) : Type 0 where
    pub steps : ℕ
    pub last : Machine
    pub left : Messages
    pub leads : Steps next start q steps es last left

  -- A run halts, and the role stands there.
  pub record Final (es : List Event) (role : Role) : Type 0 where
    pub shows : Shows es
    pub out : Stepped
    pub is : next shows.last shows.left ≡ out
    pub halts : Halts next out
    pub stands : role ≡ standing shows.steps shows.last out

  -- no run shows more than one that halts
  pub final_most : (es fs : List Event) (role : Role) → Final es role → Shows fs → Prefix fs es
  final_most es fs role f s =
      go (compare next start q f.shows.steps es f.shows.last f.shows.left s.steps fs s.last s.left f.shows.leads s.leads)
    where
      go : GoesOn next f.shows.last f.shows.left f.shows.steps es s.last s.left s.steps fs
          ⊎ GoesOn next s.last s.left s.steps fs f.shows.last f.shows.left f.shows.steps es → Prefix fs es
      go (inl h) =
          let no_more = halts_there next f.shows.last f.shows.left f.out f.is f.halts s.last s.left h.left h.events h.leads in
          record { later = []; is = sym (h.all ∙ ap (λ l. es ++ l) no_more.0 ∙ append-nil es) ∙ sym (append-nil fs) }
      go (inr h) = record { later = h.events; is = h.all }

  -- two that halt stand at the same place
  pub final_same : (es fs : List Event) (role other : Role) → Final es role → Final fs other → role ≡ other
  final_same es fs role other f g =
      go (compare next start q f.shows.steps es f.shows.last f.shows.left g.shows.steps fs g.shows.last g.shows.left f.shows.leads
      g.shows.leads)
    where
      at_same : (k l : ℕ) (m n : Machine) (a b : Messages) (x y : Stepped) → l ≡ k → n ≡ m → b ≡ a → next m a ≡ x → next n b ≡ y →
          standing k m x ≡ standing l n y
      at_same k l m n a b x y count machine messages is other_is =
          let out : x ≡ y = sym is ∙ sym (ap (λ z. next z a) machine) ∙ sym (ap (λ z. next n z) messages) ∙ other_is in
          ap (λ z. standing k m z) out ∙ ap (λ z. standing k z y) (sym machine) ∙ ap (λ z. standing z n y) (sym count)

      go : GoesOn next f.shows.last f.shows.left f.shows.steps es g.shows.last g.shows.left g.shows.steps fs
          ⊎ GoesOn next g.shows.last g.shows.left g.shows.steps fs f.shows.last f.shows.left f.shows.steps es → role ≡ other
      go (inl h) =
          let no_more = halts_there next f.shows.last f.shows.left f.out f.is f.halts g.shows.last g.shows.left h.left h.events h.leads in
          f.stands
          ∙ at_same f.shows.steps g.shows.steps f.shows.last g.shows.last f.shows.left g.shows.left f.out g.out
          (omega (arith, h.count, no_more.1)) no_more.2 no_more.3 f.is g.is
          ∙ sym g.stands
      go (inr h) =
          let no_more = halts_there next g.shows.last g.shows.left g.out g.is g.halts f.shows.last f.shows.left h.left h.events h.leads in
          f.stands
          ∙ sym (at_same g.shows.steps f.shows.steps g.shows.last f.shows.last g.shows.left f.shows.left g.out f.out
          (omega (arith, h.count, no_more.1)) no_more.2 no_more.3 g.is f.is)
          ∙ sym g.stands
