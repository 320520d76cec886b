-- A throw that is caught, in the frame that runs or in one that waits.
use Rattle.std.proofs.Common.{◌≡◌, ◌≢◌, ◌⊎◌, inl, inr, ℕ, ◌<◌, ◌≤◌, Bool, true, false, true≢false, List, [], ◌∷◌, Contains, Option, Some}
use Rattle.std.proofs.Common.{None}
use Rattle.std.proofs.Common.{refl, sym, ap, ◌∙◌, subst, arith}
use Rattle.std.specs.Prelude.{◌==◌, if◌then◌else◌}
use Rattle.std.proofs.lemmas.Bool.Decides.{eqb_tells}
use Rattle.mg_text.specs.Call.{Name}
use Rattle.insp_rules.specs.Program.{Result, Instruction, Call, CallIn, Program, handlers_at, Shape, nth, first, caught}
use Rattle.insp_rules.specs.Skeleton.{instruction_at, Value, Plain, Ref, LeavesAll, Thing, Frame, State, frame, state, values, put, upset}
use Rattle.insp_rules.specs.Skeleton.{upset_all, among, Unwinds, out}
use Rattle.insp_rules.specs.Skeleton.{caught_in, passes, stops}
use Rattle.insp_rules.specs.Frames.{Known, unknown, Object, Group, Sight, known_among, upset_group}
use Rattle.insp_rules.specs.Reached.{Both, none, more, Context, Numbering, Takes, Renames, handed_over, upset_if, caught_before}
use Rattle.insp_rules.specs.Reached.{MayLeaveAll}
use Rattle.insp_rules.specs.Reached.{caught_upon, Found}
use Rattle.insp_rules.specs.Reached as reached
use Rattle.insp_rules.proofs.Lists.{some_is, none_some, both_first, Put, is, isnt, putting, put_same, put_other}
use Rattle.insp_law.proofs.Seeing.{seen, one_done}
use Rattle.insp_law.proofs.Fitting.{Says, bare, object, answer, operand, others, Accords, Kin, kin, Fit, fresh}
use Rattle.insp_law.proofs.Carrying.{forgetting_all, renamed}
use Rattle.insp_law.proofs.Calls.{upset_is, IsGood, upset_good}
use Rattle.insp_law.proofs.Steps.{AllRight, regroup}
use Rattle.insp_law.proofs.Among.{fit_whole, among_same, among_known}
use Rattle.insp_law.proofs.Standing.{Below, bottom, waits, interrupted, Inv, over, runs, below_keeps, goes_on}

-- ---- a throw that came upon the objects among these

module _ (h h' : ℕ → Thing) (obj : ℕ → ℕ) (stale : ℕ → Bool) (held : ℕ) (hold : ℕ → ℕ) (mark n n' : ℕ) (f : Sight) (t : Shape Value)
    (args : List Known) (fit : Fit h obj stale held hold mark n f t) (le : n ≤ n')
    (hits : (g : ℕ) (x : Group) → f.groups g ≡ Some x → known_among g args ≡ true → h' (obj g) ≡ upset (h (obj g)))
    (misses : (g : ℕ) (x : Group) → f.groups g ≡ Some x → known_among g args ≡ false → h' (obj g) ≡ h (obj g))
    (stales : (g : ℕ) → stale g ≡ true → known_among g args ≡ true) where
  abbrev now : ℕ → Option Group
  now = λ g. upset_if (known_among g args) (f.groups g)

  -- which of the two it is
  data Now (a : ℕ) (y : Group) : Type 0 where
    hit : (z : Group) → f.groups a ≡ Some z → known_among a args ≡ true → y ≡ upset_group z → Now a y
    missed : f.groups a ≡ Some y → known_among a args ≡ false → Now a y

  nows : (a : ℕ) (y : Group) → now a ≡ Some y → Now a y
  nows a y e = go (known_among a args) refl (f.groups a) refl e
    where
      go : (b : Bool) → known_among a args ≡ b → (o : Option Group) → f.groups a ≡ o → upset_if b o ≡ Some y → Now a y
      go true k None d e = none_some e
      go true k (Some z) d e = hit z d k (sym (some_is e))
      go false k o d e = missed (d ∙ e) k

  was : (a : ℕ) (y : Group) → now a ≡ Some y → (z : Group) × (f.groups a ≡ Some z)
  was a y e = go (nows a y e)
    where
      go : Now a y → (z : Group) × (f.groups a ≡ Some z)
      go (hit z d k q) = (z, d)
      go (missed d k) = (y, d)

  goes : (a : ℕ) (z : Group) → f.groups a ≡ Some z → (y : Group) × (now a ≡ Some y)
  goes a z e = go (known_among a args) refl
    where
      go : (b : Bool) → known_among a args ≡ b → (y : Group) × (now a ≡ Some y)
      go true k = (upset_group z, ap (λ (c : Bool). upset_if c (f.groups a)) k ∙ ap (upset_if true) e)
      go false k = (z, ap (λ (c : Bool). upset_if c (f.groups a)) k ∙ e)

  not_stale : (g : ℕ) {A : Type 0} → known_among g args ≡ false → (stale g ≡ true) ⊎ A → A
  not_stale g k (inl s) = absurd (true≢false (sym (stales g s) ∙ k))
  not_stale g k (inr a) = a

  accords : (a : ℕ) (y : Group) → now a ≡ Some y → Accords y (h' (obj a))
  accords a y e = go (nows a y e)
    where
      go : Now a y → Accords y (h' (obj a))
      go (hit z d k q) =
          subst (λ w. Accords w (h' (obj a))) (sym q)
          (subst (Accords (upset_group z)) (sym (hits a z d k)) (upset_is z (h (obj a)) (fit.kinds a z d)))
      go (missed d k) = subst (Accords y) (sym (misses a y d k)) (not_stale a k (fit.agrees a y d))

  pub caught_fit : Fit h' obj fresh held hold mark n' (caught_upon args f) (caught values t)
  caught_fit = record {
    fits = record {
      locals = forgetting_all h obj f.groups stale h' obj now fresh (handed_over args) (record {
        live = goes;
        same = λ a x e. refl;
        heard = λ a x label e k q. inr (ap (λ (z : Thing). z.answer) (misses a x e k) ∙ not_stale a k q);
      }) fit.fits.locals;
      operands = more (others h' obj now fresh) none;
    };
    sits = regroup obj held hold mark n' f.groups now f.count was goes (record {
      within = fit.sits.within;
      sits = fit.sits.sits;
      bounded = λ a x e. let b = fit.sits.bounded a x e in omega (arith, b, le);
      apart = fit.sits.apart;
      holds = fit.sits.holds;
    });
    agrees = λ a y e. inr (accords a y e);
    kinds = λ a y e. (accords a y e).kind;
  }

-- ---- objects that were come upon

pub upset_kind : (vs : List Value) (h : ℕ → Thing) (o : ℕ) → Kin (upset_all vs h o) (h o)
upset_kind vs h o = go (among o vs)
  where
    go : (b : Bool) → Kin (if b then upset (h o) else h o) (h o)
    go true = record { of = refl; null = refl }
    go false = kin refl

pub upset_rights : (vs : List Value) (h : ℕ → Thing) (n : ℕ) → AllRight h n → AllRight (upset_all vs h) n
upset_rights vs h n right o less = go (among o vs)
  where
    go : (b : Bool) → IsGood (if b then upset (h o) else h o)
    go true = upset_good (h o)
    go false = right o less

pub upset_hit : (vs : List Value) (h : ℕ → Thing) (o : ℕ) → among o vs ≡ true → upset_all vs h o ≡ upset (h o)
upset_hit vs h o e = ap (λ (b : Bool). if b then upset (h o) else h o) e

pub upset_missed : (vs : List Value) (h : ℕ → Thing) (o : ℕ) → among o vs ≡ false → upset_all vs h o ≡ h o
upset_missed vs h o e = ap (λ (b : Bool). if b then upset (h o) else h o) e

module _ (p : Program) (numbering : Numbering) (roots : List Context) where
  abbrev Inv_of : State → Type 0
  Inv_of = Inv p numbering roots

  -- the frame that goes on where a throw came upon the objects that its call hands over
  come_upon : (h : ℕ → Thing) (n : ℕ) → AllRight h n → (c : Context) (f : Sight) (hold : ℕ → ℕ) (mark mark' : ℕ) (obj : ℕ → ℕ)
      (stale : ℕ → Bool)
      (m to : ℕ) (t : Shape Value) (fs : List Frame) (k : ℕ) →
      Found p numbering roots (reached.Reached c to (numbering.tidy c.held (caught_upon (first k f.shape.operands) f))) → m ≡ c.method →
      Fit h obj stale c.held hold mark mark' f t → ((g : ℕ) → stale g ≡ true → known_among g (first k f.shape.operands) ≡ true) →
      mark' ≤ n → mark ≤ n → Below p numbering roots h c hold mark fs →
      Inv p numbering roots (state (frame m to (caught values t) ∷ fs) (upset_all (first k t.operands) h) n)
  come_upon h n right c f hold mark mark' obj stale m to t fs k r same fit stales low low' below =
      runs r same
      (renamed h' obj c.held hold mark n (caught_upon args f) (numbering.tidy c.held (caught_upon args f)) (caught values t) tidies fits)
      (λ a x d above. tidies.had a x d above)
      (below_keeps p numbering roots h h' below (λ o less. touched o less) (λ o less. upset_kind (first k t.operands) h o))
      low' (upset_rights (first k t.operands) h n right)
    where
      args : List Known
      args = first k f.shape.operands

      h' : ℕ → Thing
      h' = upset_all (first k t.operands) h

      handed : Both (Says h obj f.groups stale) (first k f.shape.operands) (first k t.operands)
      handed = both_first (Says h obj f.groups stale) k fit.fits.operands

      is_among : (g : ℕ) (x : Group) → f.groups g ≡ Some x → among (obj g) (first k t.operands) ≡ known_among g (first k f.shape.operands)
      is_among g x e = among_same h obj f.groups stale fit.sits.apart g x e handed

      fits : Fit (upset_all (first k t.operands) h) obj fresh c.held hold mark n (caught_upon (first k f.shape.operands) f)
          (caught values t)
      fits = caught_fit h (upset_all (first k t.operands) h) obj stale c.held hold mark mark' n f t (first k f.shape.operands) fit low
          (λ g x e q. upset_hit (first k t.operands) h (obj g) (is_among g x e ∙ q))
          (λ g x e q. upset_missed (first k t.operands) h (obj g) (is_among g x e ∙ q))
          stales

      tidies : Renames c.held (caught_upon (first k f.shape.operands) f) (numbering.tidy c.held (caught_upon (first k f.shape.operands) f))
      tidies = numbering.renames c.held (caught_upon (first k f.shape.operands) f)
          (fit_whole (upset_all (first k t.operands) h) obj fresh c.held hold
          mark n (caught_upon (first k f.shape.operands) f) (caught values t) fits)

      touched : (o : ℕ) → o < mark →
          (upset_all (first k t.operands) h o ≡ h o) ⊎ ((i : ℕ) × (i < c.held) × (o ≡ hold i))
      touched o less = go (among o (first k t.operands)) refl
        where
          pick : (g : ℕ) → o ≡ obj g → (g < c.held) × (obj g ≡ hold g) ⊎ (c.held ≤ g) × (mark ≤ obj g) →
              (upset_all (first k t.operands) h o ≡ h o) ⊎ ((i : ℕ) × (i < c.held) × (o ≡ hold i))
          pick g q (inl z) = inr (g, z.0, q ∙ z.1)
          pick g q (inr z) = let w = z.1 in absurd (omega (arith, w, less, q))

          go : (b : Bool) → among o (first k t.operands) ≡ b →
              (upset_all (first k t.operands) h o ≡ h o) ⊎ ((i : ℕ) × (i < c.held) × (o ≡ hold i))
          go false e = inl (upset_missed (first k t.operands) h o e)
          go true e =
              let z = among_known h obj f.groups stale o handed e in
              pick z.0 z.3 (fit.sits.sits z.0 z.1 z.2)

  -- out of a method, to the first frame that catches it
  pub unwinds : (h : ℕ → Thing) (n : ℕ) → AllRight h n → {c : Context} {hold : ℕ → ℕ} {mark : ℕ} {fs : List Frame} {s : State} →
      Below p numbering roots h c hold mark fs → mark ≤ n → Unwinds p h n fs s → Inv p numbering roots s
  unwinds h n right (bottom outer e) low out = over right
  unwinds h n right (interrupted i outer none_held r m l no_call fit had le below) low (passes u) =
      unwinds h n right below (omega (arith, le, low)) u
  unwinds h n right {hold = hold'} (interrupted i outer none_held r m l no_call fit had le below) low (stops j e no_call') =
      goes_on p numbering roots h n {hold = hold'} (interrupted i outer none_held r m l no_call fit had le below) j e no_call' low right
  unwinds h n right (interrupted {c = c} i outer none_held r m l no_call fit had le below) low
      (caught_in {m = m0} {at = at0} callee k' words' to l0 catches) =
      absurd (no_call callee k' words' (one_done fit p m0 c.method at0 m l l0))
  unwinds h n right (waits method k words r m l fit had takes held le below) low (stops j e no_call') =
      goes_on p numbering roots h n (waits method k words r m l fit had takes held le below) j e no_call' low right
  unwinds h n right (waits method k words r m l fit had takes held le below) low (passes u) =
      unwinds h n right below (omega (arith, le, low)) u
  unwinds h n right (waits {c = c} {f = f} {hold = hold} {mark = mark} {mark' = mark'} {obj = obj} method k words r m l fit had takes held
      le below) low
      (caught_in {m = m0} {at = at0} {s = t} {fs = fs} callee k' words' to l0 catches) =
      subst (λ j. Inv p numbering roots (state (frame m0 to (caught values t) ∷ fs) (upset_all (first j t.operands) h) n)) same
      (come_upon h n right c f hold mark mark' obj (handed_over (first k f.shape.operands)) m0 to t fs k
      (Found.throws_through to method k words r (subst (λ j. Contains (handlers_at p j at0) to) m catches) l) m fit (λ g q. q) low
      (omega (arith, le, low)) below)
    where
      same : k ≡ k'
      same =
          let q : CallIn method k words ≡ CallIn callee k' words' = one_done fit p m0 c.method at0 m l l0 in
          cc

  -- in the frame that runs
  module _ (h : ℕ → Thing) (n : ℕ) (c : Context) (f : Sight) (hold : ℕ → ℕ) (mark : ℕ) (obj : ℕ → ℕ) (m at : ℕ) (t : Shape Value)
      (fs : List Frame) (r : Found p numbering roots (reached.Reached c at f)) (same : m ≡ c.method)
      (fit : Fit h obj fresh c.held hold mark n f t) (below : Below p numbering roots h c hold mark fs) (low : mark ≤ n)
      (right : AllRight h n)
      (to : ℕ) (catches : Contains (handlers_at p m at) to) where
    here : Contains (handlers_at p c.method at) to
    here = subst (λ j. Contains (handlers_at p j at) to) same catches

    -- a call that hasn't begun
    pub unbegun_here : (callee k words : ℕ) → instruction_at p h m at t ≡ Some (CallIn callee k words) →
        Inv p numbering roots (state (frame m to (caught values t) ∷ fs) (upset_all (first k t.operands) h) n)
    unbegun_here callee k words e =
        come_upon h n right c f hold mark n obj fresh m to t fs k
        (Found.throws_through to callee k words r here (seen fit p m c.method at same e)) same fit
        (λ g q. absurd (true≢false (sym q))) (omega arith) low below

    -- what is known of an object there
    known_there : (g : ℕ) (a : Known) (v : Value) → Says h obj f.groups fresh a v → a ≡ Object g → (o : ℕ) × (v ≡ Ref o) × (o ≡ obj g)
    known_there g a v (bare s) q = absurd (cc)
    known_there g a v (answer x e k) q = absurd (cc)
    known_there g a v (object {g = g'} {o = o} x e k) q =
        let w : g' ≡ g = cc in
        (o, refl, k ∙ ap obj w)

    may_leave : (i : Instruction) → LeavesAll h i t → MayLeaveAll i f
    may_leave i leaves = record {
      no_call = leaves.no_call;
      on_null = λ name k has g x e q l.
          let z = known_there g (nth unknown f.shape.operands k) (nth Plain t.operands k)
          (operand h obj f.groups fresh f.shape t fit.fits k) q in
          (fit.kinds g x l).null (ap (λ a. (h a).null) (sym z.2) ∙ leaves.on_null name k has z.0 e z.1);
    }

    pub caught_here : (i : Instruction) → instruction_at p h m at t ≡ Some i → LeavesAll h i t →
        Inv p numbering roots (state (frame m to (caught values t) ∷ fs) h n)
    caught_here i e leaves =
        runs (Found.throws to i r here (seen fit p m c.method at same e) (may_leave i leaves)) same
        (renamed h obj c.held hold mark n (caught_before f) (numbering.tidy c.held (caught_before f)) (caught values t) tidies fits)
        (λ a x d above. tidies.had a x d above) below low right
      where
        fits : Fit h obj fresh c.held hold mark n (caught_before f) (caught values t)
        fits = record {
          fits = record { locals = fit.fits.locals; operands = more (others h obj f.groups fresh) none };
          sits = fit.sits;
          agrees = fit.agrees;
          kinds = fit.kinds;
        }

        tidies : Renames c.held (caught_before f) (numbering.tidy c.held (caught_before f))
        tidies = numbering.renames c.held (caught_before f) (fit_whole h obj fresh c.held hold mark n (caught_before f)
            (caught values t) fits)

    pub caught_amid : (name : Name) (k : ℕ) (has : Result) (o g : ℕ) (x : Group) → instruction_at p h m at t ≡ Some (Call name k has) →
        nth unknown f.shape.operands k ≡ Object g → f.groups g ≡ Some x → o ≡ obj g →
        Inv p numbering roots (state (frame m to (caught values t) ∷ fs) (put o (upset (h o)) h) n)
    caught_amid name k has o g x e receiver live at_o =
        runs (Found.throws_amid to name k has g r here (seen fit p m c.method at same e) receiver) same
        (renamed h' obj c.held hold mark n (caught_upon (Object g ∷ []) f) (numbering.tidy c.held (caught_upon (Object g ∷ []) f))
        (caught values t) tidies fits)
        (λ a x d above. tidies.had a x d above)
        (below_keeps p numbering roots h h' below (λ q less. touched q less (putting o (upset (h o)) h q))
        (λ q less. kind q (putting o (upset (h o)) h q)))
        low (λ q less. rights q less (putting o (upset (h o)) h q))
      where
        h' : ℕ → Thing
        h' = put o (upset (h o)) h

        is_it : (a : ℕ) → known_among a (Object g ∷ []) ≡ true → a ≡ g
        is_it a e = go (eqb_tells g a) e
          where
            go : ((g == a) ≡ true) × (g ≡ a) ⊎ ((g == a) ≡ false) × (g ≢ a) → (if g == a then true else false) ≡ true → a ≡ g
            go (inl s) e = sym s.1
            go (inr s) e = absurd (true≢false (sym e ∙ ap (λ (b : Bool). if b then true else false) s.0))

        isnt_it : (a : ℕ) → known_among a (Object g ∷ []) ≡ false → a ≢ g
        isnt_it a e q =
            true≢false (sym (ap (λ (b : Bool). if b then true else false) (ap (λ c. g == c) q ∙ Rattle.insp_rules.proofs.Lists.is_same g))
            ∙ e)

        fits : Fit (put o (upset (h o)) h) obj fresh c.held hold mark n (caught_upon (Object g ∷ []) f) (caught values t)
        fits = caught_fit h (put o (upset (h o)) h) obj fresh c.held hold mark n n f t (Object g ∷ []) fit (omega arith)
            (λ a y l k.
            let q : obj a ≡ o = ap obj (is_it a k) ∙ sym at_o in
            ap (put o (upset (h o)) h) q ∙ put_same o (upset (h o)) h ∙ ap (λ b. upset (h b)) (sym q))
            (λ a y l k. put_other o (upset (h o)) h (obj a) (λ q. isnt_it a k (fit.sits.apart a g y x l live (q ∙ at_o))))
            (λ a s. absurd (true≢false (sym s)))

        tidies : Renames c.held (caught_upon (Object g ∷ []) f) (numbering.tidy c.held (caught_upon (Object g ∷ []) f))
        tidies = numbering.renames c.held (caught_upon (Object g ∷ []) f) (fit_whole (put o (upset (h o)) h) obj fresh c.held hold mark n
            (caught_upon (Object g ∷ []) f) (caught values t) fits)

        touched : (q : ℕ) → q < mark → Put o (upset (h o)) h q →
            (put o (upset (h o)) h q ≡ h q) ⊎ ((i : ℕ) × (i < c.held) × (q ≡ hold i))
        touched q less (isnt l b z) = inl z
        touched q less (is l b z) = pick (fit.sits.sits g x live)
          where
            pick : (g < c.held) × (obj g ≡ hold g) ⊎ (c.held ≤ g) × (mark ≤ obj g) →
                (put o (upset (h o)) h q ≡ h q) ⊎ ((i : ℕ) × (i < c.held) × (q ≡ hold i))
            pick (inl w) = inr (g, w.0, l ∙ at_o ∙ w.1)
            pick (inr w) = let v = w.1 in absurd (omega (arith, v, less, l, at_o))

        kind : (q : ℕ) → Put o (upset (h o)) h q → Kin (put o (upset (h o)) h q) (h q)
        kind q (is l b z) = subst (λ c. Kin (put o (upset (h o)) h q) (h c)) (sym l) (subst (λ w. Kin w (h o)) (sym z)
            (record { of = refl; null = refl }))
        kind q (isnt l b z) = kin z

        rights : (q : ℕ) → q < n → Put o (upset (h o)) h q → IsGood (put o (upset (h o)) h q)
        rights q less (is l b z) = subst IsGood (sym z) (upset_good (h o))
        rights q less (isnt l b z) = subst IsGood (sym z) (right q less)
