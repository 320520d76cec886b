-- A method gives back its result to the frame that waited for it.
use Rattle.std.proofs.Common.{◌≡◌, ◌≢◌, ◌⊎◌, inl, inr, ℕ, zero, suc, ◌<◌, ◌≤◌, true, false, true≢false, List, ◌∷◌, Option, Some, None}
use Rattle.std.proofs.Common.{refl, sym, ap, ◌∙◌, subst, arith}
use Rattle.mg_text.specs.Call.{Name}
use Rattle.insp_rules.specs.Program.{Itself, Ordinal, Mapped, Bare as BareOf, Other, CallIn, Return}
use Rattle.insp_rules.specs.Program.{Program, Shape, nth, first, rest, filled, shape, popped}
use Rattle.insp_rules.specs.Skeleton.{Value, Plain, Thing, Frame, frame, state, values, result, returned, put, instruction_at}
use Rattle.insp_rules.specs.Frames.{Known, Bare, unknown, knowns, Object, Answer, Group, Sight, sight, known_among, forget_all}
use Rattle.insp_rules.specs.Frames.{given_back, seen_at}
use Rattle.insp_rules.specs.Reached.{Both, none, more, Stands, Context, Numbering, Takes, Renames, Outcome, Plainly, Held, Told, New, Exit}
use Rattle.insp_rules.specs.Reached.{kept_plain}
use Rattle.insp_rules.specs.Reached.{Outcomes, is_itself, back, by_exit, groups_behind, handed_over, resumed, Found}
use Rattle.insp_rules.specs.Reached as reached
use Rattle.insp_law.specs.Laws.{Bears}
use Rattle.insp_law.specs.Laws as laws
use Rattle.insp_rules.proofs.Lists.{some_is, none_some, both_filled, both_rest, put_other}
use Rattle.insp_law.proofs.Seeing.{one_done}
use Rattle.insp_law.proofs.Fitting.{Says, bare, others, object, answer, Accords, Fits, Fit, fresh, or_none}
use Rattle.insp_law.proofs.Fitting.{operand}
use Rattle.insp_law.proofs.Carrying.{Carries, forgetting_all, add_fit}
use Rattle.insp_law.proofs.Steps.{AllRight, regroup}
use Rattle.insp_rules.proofs.Backs.{Back, found, missing, backs}
use Rattle.insp_law.proofs.Among.{argument_held}
use Rattle.insp_law.proofs.Standing.{Below, waits, interrupted, Inv, runs_tidy}

-- the frame that waited, and what it handed over
module _ (h : ℕ → Thing) (n : ℕ) (held : ℕ) (hold : ℕ → ℕ) (mark mark' : ℕ) (obj : ℕ → ℕ) (f : Sight) (s : Shape Value) (method k : ℕ)
    (d : Context) (fit : Fit h obj (handed_over (first k f.shape.operands)) held hold mark mark' f s)
    (takes : Takes method (first k f.shape.operands) f d) (hold' : ℕ → ℕ) (is_held : (i : ℕ) → i < d.held → hold' i ≡ obj (takes.old i))
    (le : mark ≤ mark') (low : mark' ≤ n)
    (g : Sight) (objs : ℕ → ℕ) (u : Shape Value) (inner : Fit h objs fresh d.held hold' mark' n g u) where
  abbrev exit : Outcome → Exit
  exit o = record { groups = g.groups; outcome = o }

  abbrev groups : ℕ → Option Group
  groups = groups_behind takes.old d.held (record { groups = g.groups; outcome = Plainly Other }) f

  is_back : (a : ℕ) (o : Option ℕ) → back takes.old d.held a ≡ o → groups a ≡ by_exit g.groups (f.groups a) o
  is_back a o e = ap (by_exit g.groups (f.groups a)) e

  was : (a : ℕ) (y : Group) → groups a ≡ Some y → (z : Group) × (f.groups a ≡ Some z)
  was a y e = go (backs takes.old d.held a)
    where
      go : Back takes.old d.held a → (z : Group) × (f.groups a ≡ Some z)
      go (found i b less q) = let x = takes.all i less in (x.0, ap f.groups (sym q) ∙ takes.live i x.0 x.1)
      go (missing b nowhere) = (y, sym (is_back a None b) ∙ e)

  goes : (a : ℕ) (z : Group) → f.groups a ≡ Some z → (y : Group) × (groups a ≡ Some y)
  goes a z e = go (backs takes.old d.held a)
    where
      go : Back takes.old d.held a → (y : Group) × (groups a ≡ Some y)
      go (found i b less q) = let x = inner.sits.holds i less in (x.0, is_back a (Some i) b ∙ x.1)
      go (missing b nowhere) = (z, is_back a None b ∙ e)

  -- the held objects of the method are those that were handed over
  held_is : (i : ℕ) (x : Group) → i < d.held → g.groups i ≡ Some x → objs i ≡ obj (takes.old i)
  held_is i x less e = go (inner.sits.sits i x e)
    where
      go : (i < d.held) × (objs i ≡ hold' i) ⊎ (d.held ≤ i) × (mark' ≤ objs i) → objs i ≡ obj (takes.old i)
      go (inl q) = q.1 ∙ is_held i less
      go (inr q) = let w = q.0 in absurd (omega (arith, w, less))

  not_stale : (a : ℕ) {A : Type 0} → ((i : ℕ) → i < d.held → takes.old i ≢ a) → (known_among a (first k f.shape.operands) ≡ true) ⊎ A → A
  not_stale a nowhere (inl e) =
      let z = argument_held takes.old d.groups a takes.arguments e in
      absurd (nowhere z.0 (takes.within z.0 z.1 z.2) z.3)
  not_stale a nowhere (inr x) = x

  accords : (a : ℕ) (y : Group) → groups a ≡ Some y → Accords y (h (obj a))
  accords a y e = go (backs takes.old d.held a)
    where
      go : Back takes.old d.held a → Accords y (h (obj a))
      go (found i b less q) =
          let l : g.groups i ≡ Some y = sym (is_back a (Some i) b) ∙ e in
          subst (λ c. Accords y (h c)) (held_is i y less l ∙ ap obj q) (or_none i (inner.agrees i y l))
      go (missing b nowhere) = not_stale a nowhere (fit.agrees a y (sym (is_back a None b) ∙ e))

  carries : Carries h obj f.groups (handed_over (first k f.shape.operands)) h obj groups fresh (handed_over (first k f.shape.operands))
  carries = record {
    live = goes;
    same = λ a x e. refl;
    heard = λ a x label e d q. heard a label d q;
  }
    where
      heard : (a : ℕ) (label : Name) → known_among a (first k f.shape.operands) ≡ false →
          (known_among a (first k f.shape.operands) ≡ true) ⊎ ((h (obj a)).answer ≡ Some label) →
          (fresh a ≡ true) ⊎ ((h (obj a)).answer ≡ Some label)
      heard a label d (inl e) = absurd (true≢false (sym e ∙ d))
      heard a label d (inr e) = inr e

  abbrev base : Sight
  base = sight (shape (forget_all (handed_over (first k f.shape.operands)) f.shape.locals)
      (forget_all (handed_over (first k f.shape.operands)) (rest k f.shape.operands))) groups f.count

  base_fit : Fit h obj fresh held hold mark n base (popped k s)
  base_fit = record {
    fits = record {
      locals = forgetting_all h obj f.groups (handed_over (first k f.shape.operands)) h obj groups fresh
          (handed_over (first k f.shape.operands)) carries fit.fits.locals;
      operands = forgetting_all h obj f.groups (handed_over (first k f.shape.operands)) h obj groups fresh
          (handed_over (first k f.shape.operands)) carries
          (both_rest (Says h obj f.groups (handed_over (first k f.shape.operands))) k fit.fits.operands);
    };
    sits = regroup obj held hold mark n f.groups groups f.count was goes (record {
      within = fit.sits.within;
      sits = fit.sits.sits;
      bounded = λ a x e. let b = fit.sits.bounded a x e in omega (arith, b, low);
      apart = fit.sits.apart;
      holds = fit.sits.holds;
    });
    agrees = λ a y e. inr (accords a y e);
    kinds = λ a y e. (accords a y e).kind;
  }

  -- the frame behind the call: each of its groups goes on
  pub record Comes (words : ℕ) (o : Outcome) (v : Value) : Type 0 where
    pub after_objs : ℕ → ℕ
    pub after_fit : Fit h after_objs fresh held hold mark n (resumed takes.old d.held k words (exit o) f)
        (shape s.locals (returned values words v (rest k s.operands)))
    pub kept : (a : ℕ) (x : Group) → f.groups a ≡ Some x →
        (y : Group) × ((resumed takes.old d.held k words (exit o) f).groups a ≡ Some y) × (after_objs a ≡ obj a)

  shows : (xs : List Known) (vs : List Value) → Both (Says h obj groups fresh) xs vs →
      Fit h obj fresh held hold mark n (sight (shape base.shape.locals xs) base.groups base.count) (shape s.locals vs)
  shows xs vs both = record {
    fits = record { locals = base_fit.fits.locals; operands = both };
    sits = base_fit.sits;
    agrees = base_fit.agrees;
    kinds = base_fit.kinds;
  }

  plainly : (a : ℕ) (x : Group) → f.groups a ≡ Some x → (y : Group) × (groups a ≡ Some y) × (obj a ≡ obj a)
  plainly a x e = ((goes a x e).0, (goes a x e).1, refl)

  high : (i : ℕ) (x : Group) → d.held ≤ i → (i < d.held) × (objs i ≡ hold' i) ⊎ (d.held ≤ i) × (mark' ≤ objs i) → mark' ≤ objs i
  high i x over (inl r) = let w = r.0 in absurd (omega (arith, w, over))
  high i x over (inr r) = r.1

  -- what is on the operands: the result in one word, or words that aren't followed
  pushed_both : (w : ℕ) (a : Known) (v : Value) → Says h obj groups fresh a v →
      Both (Says h obj groups fresh) (returned knowns w a base.shape.operands) (returned values w v (rest k s.operands))
  pushed_both zero a v r = base_fit.fits.operands
  pushed_both (suc zero) a v r = more r base_fit.fits.operands
  pushed_both (suc (suc w)) a v r =
      both_filled (Says h obj groups fresh) unknown Plain (others h obj groups fresh) (suc (suc w)) base_fit.fits.operands

  no_new : (w : ℕ) → Both (Says h obj groups fresh) (filled unknown w base.shape.operands) (filled Plain w (rest k s.operands))
  no_new w = both_filled (Says h obj groups fresh) unknown Plain (others h obj groups fresh) w base_fit.fits.operands

  -- what is known of a result that has nothing to do with an object
  kept_bears : {b : BareOf} {v : Value} → Bears b v → Bears (kept_plain b) v
  kept_bears (laws.other l) = laws.other l
  kept_bears (laws.lost l) = laws.lost l
  kept_bears laws.bit = laws.bit
  kept_bears laws.null = laws.null
  kept_bears laws.again = laws.again
  kept_bears laws.another = laws.another
  kept_bears laws.map = laws.other refl
  kept_bears laws.constant = laws.other refl

  -- a result that isn't followed, or is, in one word
  with_bare : (w : ℕ) (b : BareOf) (v : Value) → Bears b v → Comes w (Plainly b) v
  with_bare w b v r = record {
    after_objs = obj;
    after_fit = shows (returned knowns w (Bare b) base.shape.operands) (returned values w v (rest k s.operands))
        (pushed_both w (Bare b) v (bare r));
    kept = plainly;
  }

  pub comes : (w : ℕ) (a : Known) (v : Value) (o : Outcome) → Outcomes d.held g.groups a o → Says h objs g.groups fresh a v → Comes w o v
  comes w a v o (reached.bare {b = b}) (bare r) = with_bare w (kept_plain b) v (kept_bears r)
  comes w a v o (reached.answer_form e) (answer x live i) = with_bare w Other v (laws.other refl)
  comes w a v o (reached.answer_own e) (answer x live i) = with_bare w Other v (laws.other refl)
  comes w a v o (reached.answer_held {g = i} {kind = kind} less) (answer {label = l} x e j) =
      let z = takes.all i less in
      let y = goes (takes.old i) z.0 (takes.live i z.0 z.1) in
      record {
        after_objs = obj;
        after_fit = shows (returned knowns w (Answer (takes.old i) (Itself kind)) base.shape.operands)
            (returned values w v (rest k s.operands))
            (pushed_both w (Answer (takes.old i) (Itself kind)) v
            (answer y.0 y.1 (inr (ap (λ c. (h c).answer) (sym (held_is i x less e)) ∙ or_none i j))));
        kept = plainly;
      }
  comes w a v o (reached.held_one {g = i} less) (object {o = q} x e j) =
      let z = takes.all i less in
      let y = goes (takes.old i) z.0 (takes.live i z.0 z.1) in
      record {
        after_objs = obj;
        after_fit = shows (returned knowns w (Object (takes.old i)) base.shape.operands) (returned values w v (rest k s.operands))
            (pushed_both w (Object (takes.old i)) v (object y.0 y.1 (j ∙ held_is i x less e)));
        kept = plainly;
      }
  comes zero a v o (reached.new {g = i} x over e) (object {o = q} y l j) =
      record { after_objs = obj; after_fit = shows base.shape.operands (rest k s.operands) (no_new zero); kept = plainly }
  comes (suc (suc w)) a v o (reached.new {g = i} x over e) (object {o = q} y l j) =
      record {
        after_objs = obj;
        after_fit = shows (filled unknown (suc (suc w)) base.shape.operands) (filled Plain (suc (suc w)) (rest k s.operands))
            (no_new (suc (suc w)));
        kept = plainly;
      }
  comes (suc zero) a v o (reached.new {g = i} x over e) (object {o = q} y l j) =
      record {
        after_objs = put f.count q obj;
        after_fit = add_fit h obj held hold mark n base (popped k s) x q
            (let m = high i x over (inner.sits.sits i x e) in omega (arith, m, le, j))
            (let b = inner.sits.bounded i x e in omega (arith, b, j))
            (λ b z w r.
            let m = high i x over (inner.sits.sits i x e) in
            let c = fit.sits.bounded b (was b z w).0 (was b z w).1 in
            omega (arith, m, c, j, r))
            (subst (λ c. Accords x (h c)) (sym j) (or_none i (inner.agrees i x e))) base_fit;
        kept = λ b z w.
            let c = fit.sits.within b z w in (
              (goes b z w).0,
              put_other f.count (Some x) groups b (λ r. omega (arith, c, r)) ∙ (goes b z w).1,
              put_other f.count q obj b (λ r. omega (arith, c, r)),
            );
      }

  pub gives : (words : ℕ) (o : Outcome) → Outcomes d.held g.groups (given_back words g.shape) o → Comes words o (result words u)
  gives zero o outcomes = comes zero unknown Plain o outcomes (others h objs g.groups fresh)
  gives (suc zero) o outcomes =
      comes (suc zero) (nth unknown g.shape.operands 0) (nth Plain u.operands 0) o outcomes
      (operand h objs g.groups fresh g.shape u inner.fits 0)
  gives (suc (suc w)) o outcomes = comes (suc (suc w)) unknown Plain o outcomes (others h objs g.groups fresh)

-- what a method gives back is one of these
pub data SomeOutcome (held : ℕ) (groups : ℕ → Option Group) (a : Known) : Type 0 where
  some_outcome : (o : Outcome) → Outcomes held groups a o → SomeOutcome held groups a

pub outcome_of : (held : ℕ) (h : ℕ → Thing) (obj : ℕ → ℕ) (gs : ℕ → Option Group) (a : Known) (v : Value) → Says h obj gs fresh a v →
    SomeOutcome held gs a
outcome_of held h obj gs a v (bare {b = b} r) = some_outcome (Plainly (kept_plain b)) reached.bare
outcome_of held h obj gs a v (answer {form = Ordinal c} x e i) = some_outcome (Plainly Other) (reached.answer_form refl)
outcome_of held h obj gs a v (answer {form = Mapped m} x e i) = some_outcome (Plainly Other) (reached.answer_form refl)
outcome_of held h obj gs a v (answer {g = g} {form = Itself kind} x e i) = go (Rattle.insp_rules.proofs.Lists.below_or_not g held)
  where
    go : (g < held) ⊎ (held ≤ g) → SomeOutcome held gs (Answer g (Itself kind))
    go (inl less) = some_outcome (Told g kind) (reached.answer_held less)
    go (inr over) = some_outcome (Plainly Other) (reached.answer_own over)
outcome_of held h obj gs a v (object {g = g} x e i) = go (Rattle.insp_rules.proofs.Lists.below_or_not g held)
  where
    go : (g < held) ⊎ (held ≤ g) → SomeOutcome held gs (Object g)
    go (inl less) = some_outcome (Held g) (reached.held_one less)
    go (inr over) = some_outcome (New x) (reached.new x over e)

pub given_outcome : (held : ℕ) (h : ℕ → Thing) (obj : ℕ → ℕ) (f : Sight) (t : Shape Value) → Fits h obj f.groups fresh f.shape t →
    (words : ℕ) → SomeOutcome held f.groups (given_back words f.shape)
given_outcome held h obj f t fits zero = some_outcome (Plainly Other) reached.bare
given_outcome held h obj f t fits (suc zero) =
    outcome_of held h obj f.groups (nth unknown f.shape.operands 0) (nth Plain t.operands 0) (operand h obj f.groups fresh f.shape t fits 0)
given_outcome held h obj f t fits (suc (suc w)) = some_outcome (Plainly Other) reached.bare

module _ (p : Program) (numbering : Numbering) (roots : List Context) where
  pub come_back : (h : ℕ → Thing) (n : ℕ) (c : Context) (at : ℕ) (f : Sight) (hold : ℕ → ℕ) (mark : ℕ) (obj : ℕ → ℕ)
      (u : Shape Value) (top : Frame) (fs : List Frame) (callee k words : ℕ) → Found p numbering roots (reached.Reached c at f) →
      seen_at p c.method at f ≡ Some (Return words) → Fit h obj fresh c.held hold mark n f u → mark ≤ n → AllRight h n →
      instruction_at p h top.method top.at top.shape ≡ Some (CallIn callee k words) → Below p numbering roots h c hold mark (top ∷ fs) →
      Inv p numbering roots
      (state (frame top.method (suc top.at) (shape top.shape.locals (returned values words (result words u)
      (rest k top.shape.operands))) ∷ fs) h n)
  come_back h n c at g hold' mark' objs u top fs callee k words r e inner low right e0
      (interrupted {c = c0} j outer none_held r0 m l no_call fit had le below) =
      absurd (no_call callee k words (one_done fit p top.method c0.method top.at m l e0))
  come_back h n c at g hold' mark' objs u top fs callee k words r e inner low right e0
      (waits {c = c0} {f = f} {hold = hold} {mark = mark} {obj = obj} method k' words' r0 m l fit had takes held le below) =
      subst (λ j. Inv p numbering roots (state (frame top.method (suc top.at)
      (shape top.shape.locals (returned values words (result words u) (rest j top.shape.operands))) ∷ fs) h n)) same
      (go (given_outcome c.held h objs g u inner.fits words))
    where
      same_call : CallIn method k' words' ≡ CallIn callee k words
      same_call = one_done fit p top.method c0.method top.at m l e0

      same : k' ≡ k
      same = let q = same_call in cc

      same_words : words' ≡ words
      same_words = let q = same_call in cc

      d : Context
      d = numbering.context method (first k' f.shape.operands) f

      go : SomeOutcome (numbering.context method (first k' f.shape.operands) f).held g.groups (given_back words g.shape) →
          Inv p numbering roots (state (frame top.method (suc top.at)
          (shape top.shape.locals (returned values words (result words u) (rest k' top.shape.operands))) ∷ fs) h n)
      go (some_outcome o outcomes) =
          let comes = gives h n c0.held hold mark mark' obj f top.shape method k'
          (numbering.context method (first k' f.shape.operands) f) fit
          takes hold' held le low g objs u inner words o outcomes in
          runs_tidy p numbering roots h n c0 (resumed takes.old (numbering.context method (first k' f.shape.operands) f).held k' words
          (record { groups = g.groups; outcome = o }) f) hold mark comes.after_objs
          (frame top.method (suc top.at) (shape top.shape.locals (returned values words (result words u) (rest k' top.shape.operands)))) fs
          (Found.returns method k' words r0 (subst (λ w. seen_at p c0.method top.at f ≡ Some (CallIn method k' w)) same_words l)
          (Found.leaves words r e outcomes) takes) m comes.after_fit below (omega (arith, le, low)) right
