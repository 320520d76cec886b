-- An object that no frame has behind a step may be left.
use Rattle.std.proofs.Common.{◌≡◌, ◌⊎◌, inl, inr, ℕ, zero, suc, ◌<◌, ◌≤◌, Bool, true, false, true≢false, List, [], ◌∷◌}
use Rattle.std.proofs.Common.{Some, None}
use Rattle.std.proofs.Common.{refl, sym, ap, ◌∙◌, subst, arith}
use Rattle.std.specs.Prelude.{◌==◌, if◌then◌else◌}
use Rattle.std.proofs.lemmas.Bool.Decides.{eqb_tells}
use Rattle.insp_rules.specs.Program.{Instruction, Call, CallIn, CallOut, Keep, Make, Return, Program, locals_at, taken, plainly}
use Rattle.insp_rules.specs.Program.{Shape, nth, first, rest, shape}
use Rattle.insp_rules.specs.Program.{popped, pushed, begun}
use Rattle.insp_rules.specs.Skeleton.{Value, Plain, Nil, Bit, Map, Constant, Ref, Again, Another, Said, returned, Thing, Frame, State}
use Rattle.insp_rules.specs.Skeleton.{frame, state}
use Rattle.insp_rules.specs.Skeleton.{values, result, Step, among, has_it}
use Rattle.insp_rules.specs.Skeleton.{someone_has}
use Rattle.insp_rules.specs.Skeleton.{instruction_at}
use Rattle.insp_rules.specs.Skeleton as skeleton
use Rattle.insp_rules.specs.Frames.{Group, Sight, known_among, has_group, Holds}
use Rattle.insp_rules.specs.Frames.{given_back, finished}
use Rattle.insp_rules.specs.Reached.{Both, none, more, Context, Numbering, Inspected, Found, Reached, Left, Outcomes, New, Takes}
use Rattle.insp_rules.specs.Reached.{handed_over, resumed, Outside}
use Rattle.insp_rules.specs.Frames.{seen_at}
use Rattle.insp_rules.specs.Reached as reached
use Rattle.insp_law.specs.Laws.{Begins, MayBeLeft, IsSafe, RunsAreSafe, Moves, Interrupts, GivesBack}
use Rattle.insp_law.specs.Laws as laws
use Rattle.insp_rules.proofs.Lists.{both_first}
use Rattle.insp_law.proofs.Seeing.{seen, one_done}
use Rattle.insp_law.proofs.Fitting.{Says, others, Fit, fresh, or_none, operand, Accords}
use Rattle.insp_law.proofs.Calls.{may_be_left}
use Rattle.insp_law.proofs.Steps.{Goes, moved, makes, makes_outside, goes_outside, keeps}
use Rattle.insp_law.proofs.Jumping.{jumped}
use Rattle.insp_law.proofs.Calling.{tells, calls, calls_made}
use Rattle.insp_rules.proofs.Backs.{Tells}
use Rattle.insp_law.proofs.Among.{among_same, has_same, has_known}
use Rattle.insp_law.proofs.Standing.{Below, bottom, waits, interrupted, Inv, over, runs}
use Rattle.insp_law.proofs.Returning.{Comes, gives, SomeOutcome, some_outcome, given_outcome}

-- ---- tests that are one or the other

either_has : (a b : Bool) → (if a then true else b) ≡ true → (a ≡ true) ⊎ (b ≡ true)
either_has true b e = inl refl
either_has false b e = inr e

none_has : (a b : Bool) → (if a then true else b) ≡ false → (a ≡ false) × (b ≡ false)
none_has true b e = absurd (true≢false e)
none_has false b e = (refl, e)

or_has : (a b : Bool) → b ≡ true → (if a then true else b) ≡ true
or_has true b e = refl
or_has false b e = e

one_of : {P : Type 0} (a : Bool) → a ≡ true → a ≡ false → P
one_of a e d = absurd (true≢false (sym e ∙ d))

-- where it isn't null it may be left
abbrev pub LeftIf : Thing → Type 0
LeftIf x = x.null ≡ false → MayBeLeft x

may_leave : (x : Group) (thing : Thing) → Accords x thing → finished x ≡ true → LeftIf thing
may_leave x thing a f there = may_be_left x thing a there f

-- it alone
among_it : (o : ℕ) (v : Value) → among o (v ∷ []) ≡ true → v ≡ Ref o
among_it o Plain e = absurd (true≢false (sym e))
among_it o Nil e = absurd (true≢false (sym e))
among_it o (Bit b) e = absurd (true≢false (sym e))
among_it o (Map m class) e = absurd (true≢false (sym e))
among_it o (Constant c l) e = absurd (true≢false (sym e))
among_it o (Again t a) e = absurd (true≢false (sym e))
among_it o (Another t) e = absurd (true≢false (sym e))
among_it o (Said form l) e = absurd (true≢false (sym e))
among_it o (Ref a) e = go (eqb_tells a o)
  where
    go : Tells a o → Ref a ≡ Ref o
    go (inl t) = ap (λ b. Ref b) t.1
    go (inr t) = absurd (true≢false (sym e ∙ ap (λ (b : Bool). if b then true else false) t.0))

-- what is among the first is among all
among_first : (o k : ℕ) (vs : List Value) → among o (first k vs) ≡ true → among o vs ≡ true
among_first o zero vs e = absurd (true≢false (sym e))
among_first o (suc k) [] e = absurd (true≢false (sym e))
among_first o (suc k) (Plain ∷ vs) e = among_first o k vs e
among_first o (suc k) (Nil ∷ vs) e = among_first o k vs e
among_first o (suc k) (Bit b ∷ vs) e = among_first o k vs e
among_first o (suc k) (Map m class ∷ vs) e = among_first o k vs e
among_first o (suc k) (Constant c l ∷ vs) e = among_first o k vs e
among_first o (suc k) (Again t a ∷ vs) e = among_first o k vs e
among_first o (suc k) (Another t ∷ vs) e = among_first o k vs e
among_first o (suc k) (Said form l ∷ vs) e = among_first o k vs e
among_first o (suc k) (Ref a ∷ vs) e = go (a == o) e (among_first o k vs)
  where
    go : (b : Bool) → (if b then true else among o (first k vs)) ≡ true → (among o (first k vs) ≡ true → among o vs ≡ true) →
        (if b then true else among o vs) ≡ true
    go true e f = refl
    go false e f = f e

module _ (p : Program) (numbering : Numbering) (roots : List Context) (inspected : Inspected p numbering roots) where
  -- the held objects of a frame are among the arguments of the call that waits for it
  below_has : {h : ℕ → Thing} {c : Context} {hold : ℕ → ℕ} {mark : ℕ} {fs : List Frame} → Below p numbering roots h c hold mark fs →
      (i : ℕ) →
      i < c.held → someone_has (hold i) fs ≡ true
  below_has (bottom outer e) i less = absurd (omega (arith, less, e))
  below_has (interrupted j outer none_held r m l no_call fit had le below) i less = absurd (omega (arith, less, none_held))
  below_has {h} (waits {f = f} {hold' = hold'} {obj = obj} {top = top} {fs = fs} method k words r m e fit had takes held le below) i less =
      let x = takes.all i less in
      let l = takes.live i x.0 x.1 in
      let a : among (obj (takes.old i)) (first k top.shape.operands) ≡ true =
      among_same h obj f.groups (handed_over (first k f.shape.operands)) fit.sits.apart (takes.old i) x.0 l
      (both_first (Says h obj f.groups (handed_over (first k f.shape.operands))) k fit.fits.operands)
      ∙ takes.handed i less in
      let b : has_it (hold' i) top.shape ≡ true =
      or_has (among (hold' i) top.shape.locals) (among (hold' i) top.shape.operands)
      (ap (λ o. among o top.shape.operands) (held i less) ∙ among_first (obj (takes.old i)) k top.shape.operands a) in
      ap (λ (t : Bool). if t then true else someone_has (hold' i) fs) b

  module _ (h : ℕ → Thing) (n : ℕ) (c : Context) (f : Sight) (hold : ℕ → ℕ) (mark : ℕ) (obj : ℕ → ℕ) (m at : ℕ) (t : Shape Value)
      (fs : List Frame) (r : Found p numbering roots (reached.Reached c at f)) (same : m ≡ c.method)
      (fit : Fit h obj fresh c.held hold mark n f t) (below : Below p numbering roots h c hold mark fs) where
    -- one instruction of the frame that runs
    leaves_one : (i : Instruction) → instruction_at p h m at t ≡ Some i → (to : ℕ) (u : Shape Value) (h' : ℕ → Thing) (n' : ℕ) →
        Goes h obj c.held hold mark n p i at f to u h' n' → (o : ℕ) → someone_has o (frame m at t ∷ fs) ≡ true →
        someone_has o (frame m to u ∷ fs) ≡ false → LeftIf (h' o)
    leaves_one i e to u h' n' g o had gone = go (either_has (has_it o t) (someone_has o fs) had)
      where
        gone_both : (has_it o u ≡ false) × (someone_has o fs ≡ false)
        gone_both = none_has (has_it o u) (someone_has o fs) gone

        holds : Holds p c.held at i f
        holds = inspected.holds c at f i r (seen fit p m c.method at same e)

        own : (a : ℕ) (x : Group) → f.groups a ≡ Some x → o ≡ obj a → (a < c.held) × (obj a ≡ hold a) ⊎ (c.held ≤ a) × (mark ≤ obj a) →
            LeftIf (h' o)
        own a x l q (inl s) = one_of (someone_has o fs) (ap (λ b. someone_has b fs) (q ∙ s.1) ∙ below_has below a s.0) gone_both.1
        own a x l q (inr s) = keeps (g.kept a x l)
          where
            kept_left : (y : Group) × (g.after.groups a ≡ Some y) × (g.objs a ≡ obj a) → LeftIf (h' o)
            kept_left k =
                let at_o : o ≡ g.objs a = q ∙ sym k.2 in
                let none : has_group a g.after.shape ≡ false =
                sym (has_same h' g.objs g.after.groups fresh g.fit.sits.apart a k.0 k.1 g.after.shape u g.fit.fits)
                ∙ ap (λ b. has_it b u) (sym at_o) ∙ gone_both.0 in
                subst (λ b. LeftIf (h' b)) (sym at_o)
                (may_leave k.0 (h' (g.objs a)) (or_none a (g.fit.agrees a k.0 k.1))
                (holds.open_behind to g.after g.way a k.0 k.1 s.0 none))

            keeps : ((y : Group) × (g.after.groups a ≡ Some y) × (g.objs a ≡ obj a)) ⊎ ((h' (obj a)).null ≡ true) → LeftIf (h' o)
            keeps (inr d) = λ there. absurd (true≢false (sym d ∙ ap (λ b. (h' b).null) (sym q) ∙ there))
            keeps (inl k) = kept_left k

        go : (has_it o t ≡ true) ⊎ (someone_has o fs ≡ true) → LeftIf (h' o)
        go (inr e) = one_of (someone_has o fs) e gone_both.1
        go (inl e) =
            let z = has_known h obj f.groups fresh o f.shape t fit.fits e in
            own z.0 z.1 z.2 z.3 (fit.sits.sits z.0 z.1 z.2)

    -- what a method gives back is known
    result_is : (words : ℕ) → Says h obj f.groups fresh (given_back words f.shape) (result words t)
    result_is zero = others h obj f.groups fresh
    result_is (suc zero) = operand h obj f.groups fresh f.shape t fit.fits 0
    result_is (suc (suc w)) = others h obj f.groups fresh

    -- a frame that nobody of the program waits for
    leaves_last : (has : ℕ) → instruction_at p h m at t ≡ Some (Return has) → c.held ≡ 0 → (o : ℕ) → has_it o t ≡ true →
        LeftIf (h o) ⊎ (result has t ≡ Ref o)
    leaves_last has e held o had =
        let z = has_known h obj f.groups fresh o f.shape t fit.fits had in
        go z.0 z.1 z.2 z.3 (known_among z.0 (given_back has f.shape ∷ [])) refl
      where
        here : seen_at p c.method at f ≡ Some (Return has)
        here = seen fit p m c.method at same e

        go : (a : ℕ) (x : Group) → f.groups a ≡ Some x → o ≡ obj a → (b : Bool) → known_among a (given_back has f.shape ∷ []) ≡ b →
            LeftIf (h o) ⊎ (result has t ≡ Ref o)
        go a x l q true k =
            inr (among_it (obj a) (result has t)
            (among_same h obj f.groups fresh fit.sits.apart a x l (more (result_is has) none) ∙ k) ∙ ap (λ b. Ref b) (sym q))
        go a x l q false k =
            inl (subst (λ b. LeftIf (h b)) (sym q)
            (may_leave x (h (obj a)) (or_none a (fit.agrees a x l))
            ((inspected.holds c at f (Return has) r here).returns has refl a x l (omega (arith, held)) k)))

    -- a frame that goes back to one that waited for it
    leaves_back : (has : ℕ) → instruction_at p h m at t ≡ Some (Return has) → (o : ℕ) → has_it o t ≡ true →
        has_it o (pushed (result has t) (shape [] [])) ≡ false →
        ((g : ℕ) → g < c.held → o ≡ hold g → LeftIf (h o)) → LeftIf (h o)
    leaves_back has e o had gone theirs =
        let z = has_known h obj f.groups fresh o f.shape t fit.fits had in
        go z.0 z.1 z.2 z.3 (fit.sits.sits z.0 z.1 z.2)
      where
        here : seen_at p c.method at f ≡ Some (Return has)
        here = seen fit p m c.method at same e

        go : (a : ℕ) (x : Group) → f.groups a ≡ Some x → o ≡ obj a → (a < c.held) × (obj a ≡ hold a) ⊎ (c.held ≤ a) × (mark ≤ obj a) →
            LeftIf (h o)
        go a x l q (inl s) = theirs a s.0 (q ∙ s.1)
        go a x l q (inr s) =
            let none : known_among a (given_back has f.shape ∷ []) ≡ false =
            sym (among_same h obj f.groups fresh fit.sits.apart a x l (more (result_is has) none))
            ∙ ap (λ b. among b (result has t ∷ [])) (sym q) ∙ gone in
            subst (λ b. LeftIf (h b)) (sym q)
            (may_leave x (h (obj a)) (or_none a (fit.agrees a x l))
            ((inspected.holds c at f (Return has) r here).returns has refl a x l s.0 none))

  among_one : (o : ℕ) (v : Value) (vs : List Value) → among o (v ∷ vs) ≡ false → among o (v ∷ []) ≡ false
  among_one o Plain vs e = refl
  among_one o Nil vs e = refl
  among_one o (Bit b) vs e = refl
  among_one o (Map m class) vs e = refl
  among_one o (Constant c l) vs e = refl
  among_one o (Again t a) vs e = refl
  among_one o (Another t) vs e = refl
  among_one o (Said form l) vs e = refl
  among_one o (Ref a) vs e = go (a == o) e
    where
      go : (b : Bool) → (if b then true else among o vs) ≡ false → (if b then true else false) ≡ false
      go true e = e
      go false e = refl

  given_alone : (o w : ℕ) (u : Shape Value) (vs : List Value) → among o (returned values w (result w u) vs) ≡ false →
      has_it o (pushed (result w u) (shape [] [])) ≡ false
  given_alone o zero u vs e = refl
  given_alone o (suc zero) u vs e = among_one o (nth Plain u.operands 0) vs e
  given_alone o (suc (suc w)) u vs e = refl

  -- a return to a frame that waited
  leaves_returning : (h : ℕ → Thing) (n : ℕ) (has : ℕ) (c : Context) (m at : ℕ) (f : Sight) (hold : ℕ → ℕ) (mark : ℕ) (obj : ℕ → ℕ)
      (u : Shape Value) (top : Frame) (fs : List Frame) (callee k : ℕ) → Found p numbering roots (reached.Reached c at f) → m ≡ c.method →
      instruction_at p h m at u ≡ Some (Return has) → Fit h obj fresh c.held hold mark n f u → mark ≤ n →
      instruction_at p h top.method top.at top.shape ≡ Some (CallIn callee k has) → Below p numbering roots h c hold mark (top ∷ fs) →
      (o : ℕ) →
      someone_has o (frame m at u ∷ top ∷ fs) ≡ true →
      someone_has o (frame top.method (suc top.at) (shape top.shape.locals
      (returned values has (result has u) (rest k top.shape.operands))) ∷ fs) ≡ false → LeftIf (h o)
  leaves_returning h n has c m at g hold' mark' objs u top fs callee k r is_c e inner low e0
      (interrupted {c = c0} j outer none_held r0 is_c0 l no_call fit had le below) o had_it gone =
      absurd (no_call callee k has (one_done fit p top.method c0.method top.at is_c0 l e0))
  leaves_returning h n has c m at g hold' mark' objs u top fs callee k r is_c e inner low e0
      (waits {c = c0} {f = f} {hold = hold} {mark = mark} {obj = obj} method k' words' r0 is_c0 l fit had takes held le below) o had_it
      gone =
      go (given_outcome c.held h objs g u inner.fits has) (either_has (has_it o u) (someone_has o (top ∷ fs)) had_it)
    where
      d : Context
      d = numbering.context method (first k' f.shape.operands) f

      same : k ≡ k'
      same =
          let q : CallIn method k' words' ≡ CallIn callee k has = one_done fit p top.method c0.method top.at is_c0 l e0 in
          cc

      here_call : seen_at p c0.method top.at f ≡ Some (CallIn method k' has)
      here_call =
          let q : CallIn method k' words' ≡ CallIn callee k has = one_done fit p top.method c0.method top.at is_c0 l e0 in
          let w : words' ≡ has = cc in
          subst (λ w. seen_at p c0.method top.at f ≡ Some (CallIn method k' w)) w l

      gone_both : (has_it o (shape top.shape.locals (returned values has (result has u) (rest k' top.shape.operands))) ≡ false) ×
          (someone_has o fs ≡ false)
      gone_both = none_has (has_it o (shape top.shape.locals (returned values has (result has u) (rest k' top.shape.operands))))
          (someone_has o fs)
          (subst (λ j. someone_has o (frame top.method (suc top.at) (shape top.shape.locals
          (returned values has (result has u) (rest j top.shape.operands))) ∷ fs) ≡ false) same gone)

      not_given : has_it o (pushed (result has u) (shape [] [])) ≡ false
      not_given =
          given_alone o has u (rest k' top.shape.operands)
          (none_has (among o top.shape.locals) (among o (returned values has (result has u) (rest k' top.shape.operands))) gone_both.0).1

      here : seen_at p c.method at g ≡ Some (Return has)
      here = seen inner p m c.method at is_c e

      go : SomeOutcome (numbering.context method (first k' f.shape.operands) f).held g.groups (given_back has g.shape) →
          (has_it o u ≡ true) ⊎ (someone_has o (top ∷ fs) ≡ true) → LeftIf (h o)
      go (some_outcome out outcomes) which = whose which
        where
          comes : Comes h n c0.held hold mark mark' obj f top.shape method k'
              (numbering.context method (first k' f.shape.operands) f) fit takes
              hold' held le low g objs u inner has out (result has u)
          comes = gives h n c0.held hold mark mark' obj f top.shape method k'
              (numbering.context method (first k' f.shape.operands) f) fit takes
              hold' held le low g objs u inner has out outcomes

          after : Sight
          after = resumed takes.old (numbering.context method (first k' f.shape.operands) f).held k' has
              (record { groups = g.groups; outcome = out }) f

          of_caller : (a : ℕ) (x : Group) → f.groups a ≡ Some x → o ≡ obj a →
              (a < c0.held) × (obj a ≡ hold a) ⊎ (c0.held ≤ a) × (mark ≤ obj a) →
              LeftIf (h o)
          of_caller a x live q (inl s) = one_of (someone_has o fs) (ap (λ b. someone_has b fs) (q ∙ s.1)
              ∙ below_has below a s.0) gone_both.1
          of_caller a x live q (inr s) =
              let y = comes.kept a x live in
              let at_o : o ≡ comes.after_objs a = q ∙ sym y.2 in
              let none : has_group a (resumed takes.old (numbering.context method (first k' f.shape.operands) f).held k' has
              (record { groups = g.groups; outcome = out }) f).shape ≡ false =
              sym (has_same h comes.after_objs (resumed takes.old (numbering.context method (first k' f.shape.operands) f).held k' has
              (record { groups = g.groups; outcome = out }) f).groups fresh comes.after_fit.sits.apart a y.0 y.1
              (resumed takes.old (numbering.context method (first k' f.shape.operands) f).held k' has
              (record { groups = g.groups; outcome = out }) f).shape (shape top.shape.locals
              (returned values has (result has u) (rest k' top.shape.operands))) comes.after_fit.fits)
              ∙ ap (λ b. has_it b (shape top.shape.locals (returned values has (result has u) (rest k' top.shape.operands)))) (sym at_o)
              ∙ gone_both.0 in
              subst (λ b. LeftIf (h b)) (sym at_o)
              (may_leave y.0 (h (comes.after_objs a)) (or_none a (comes.after_fit.agrees a y.0 y.1))
              (inspected.returned c0 top.at f (record { groups = g.groups; outcome = out }) method k' has r0 here_call
              (Found.leaves has r here outcomes) takes
              a y.0 y.1 s.0 none))

          theirs : (i : ℕ) → i < (numbering.context method (first k' f.shape.operands) f).held → o ≡ hold' i → LeftIf (h o)
          theirs i less q =
              let x = takes.all i less in
              let live = takes.live i x.0 x.1 in
              of_caller (takes.old i) x.0 live (q ∙ held i less) (fit.sits.sits (takes.old i) x.0 live)

          whose : (has_it o u ≡ true) ⊎ (someone_has o (top ∷ fs) ≡ true) → LeftIf (h o)
          whose (inl w) =
              leaves_back h n (numbering.context method (first k' f.shape.operands) f) g hold' mark' objs m at u (top ∷ fs) r is_c inner
              (waits method k' words' r0 is_c0 l fit had takes held le below) has e o w not_given theirs
          whose (inr w) = pick (either_has (has_it o top.shape) (someone_has o fs) w)
            where
              pick : (has_it o top.shape ≡ true) ⊎ (someone_has o fs ≡ true) → LeftIf (h o)
              pick (inr w) = one_of (someone_has o fs) w gone_both.1
              pick (inl w) =
                  let z = has_known h obj f.groups (handed_over (first k' f.shape.operands)) o f.shape top.shape fit.fits w in
                  of_caller z.0 z.1 z.2 z.3 (fit.sits.sits z.0 z.1 z.2)

  bottom_is : {h : ℕ → Thing} {c : Context} {hold : ℕ → ℕ} {mark : ℕ} {fs : List Frame} → Below p numbering roots h c hold mark fs →
      fs ≡ [] →
      Found p numbering roots (Outside c) × (c.held ≡ 0)
  bottom_is (bottom outer e) q = (outer, e)
  bottom_is (waits method k words r m e fit had takes held le below) q = absurd (cc)
  bottom_is (interrupted j outer none_held r m l no_call fit had le below) q = absurd (cc)

  -- a frame above one that was interrupted is of a context that was entered from outside
  above_is : {h : ℕ → Thing} {c : Context} {hold : ℕ → ℕ} {mark : ℕ} {top : Frame} {fs : List Frame} →
      Below p numbering roots h c hold mark (top ∷ fs) → (i : Instruction) → instruction_at p h top.method top.at top.shape ≡ Some i →
      skeleton.IsNoCallIn i → Found p numbering roots (Outside c) × (c.held ≡ 0)
  above_is (waits {c = c} {top = top} method k words r m e fit had takes held le below) i d no_call =
      absurd (no_call method k words (sym (one_done fit p top.method c.method top.at m e d)))
  above_is (interrupted j outer none_held r m l no_call' fit had le below) i d no_call = (outer, none_held)

  pub leaves : {s t : State} → Inv p numbering roots s → Step p s t → (o : ℕ) → someone_has o s.stack ≡ true →
      someone_has o t.stack ≡ false →
      LeftIf (t.things o) ⊎ GivesBack p s o
  leaves (over right) step o had gone = elim step [ ]
  leaves (runs {c = c} {f = f} {hold = hold} {mark = mark} {obj = obj} r same fit h0 below low right)
      (skeleton.moves {m = m} {at = at} {s = s} {t = t} {fs = fs} {h = h} {n = n} i e q) o had gone =
      inl (leaves_one h n c f hold mark obj m at s fs r same fit below i e (suc at) t h n
      (moved h obj c.held hold mark n p i at f s fit right low t q) o had gone)
  leaves (runs {c = c} {f = f} {hold = hold} {mark = mark} {obj = obj} r same fit h0 below low right)
      (skeleton.jumps {m = m} {at = at} {to = to} {s = s} {t = t} {fs = fs} {h = h} {n = n} i e q) o had gone =
      inl (leaves_one h n c f hold mark obj m at s fs r same fit below i e to t h n
      (jumped h obj c.held hold mark n p i at f s fit right low to t q) o had gone)
  leaves (runs {c = c} {f = f} {hold = hold} {mark = mark} {obj = obj} r same fit h0 below low right)
      (skeleton.makes {m = m} {at = at} {s = s} {fs = fs} {h = h} {n = n} t e) o had gone =
      inl (leaves_one h n c f hold mark obj m at s fs r same fit below (Make t) e (suc at) (pushed (Ref n) s)
      (skeleton.put n (skeleton.made t) h) (suc n) (makes h obj c.held hold mark n p (Make t) at f s fit right low t refl) o had gone)
  leaves (runs {c = c} {f = f} {hold = hold} {mark = mark} {obj = obj} r same fit h0 below low right)
      (skeleton.tells {m = m} {at = at} {s = s} {fs = fs} {h = h} {n = n} name k has q label e v there may) o had gone =
      inl (leaves_one h n c f hold mark obj m at s fs r same fit below (Call name k has) e (suc at)
      (shape s.locals (skeleton.told has label (rest (suc k) s.operands))) (skeleton.put q (skeleton.called (h q) name (Some label)) h) n
      (tells h obj c.held hold mark n p (Call name k has) at f s fit right low name k has q label refl v there may
      ((inspected.holds c at f (Call name k has) r (seen fit p m c.method at same e)).calls name k has refl)) o had gone)
  leaves (runs {c = c} {f = f} {hold = hold} {mark = mark} {obj = obj} r same fit h0 below low right)
      (skeleton.calls {m = m} {at = at} {s = s} {fs = fs} {h = h} {n = n} name k has q vs e v there may lefts) o had gone =
      inl (leaves_one h n c f hold mark obj m at s fs r same fit below (Call name k has) e (suc at)
      (shape s.locals vs) (skeleton.put q (skeleton.called (h q) name None) h) n
      (calls h obj c.held hold mark n p (Call name k has) at f s fit right low name k has q vs refl v there may lefts
      ((inspected.holds c at f (Call name k has) r (seen fit p m c.method at same e)).calls name k has refl)) o had gone)
  leaves (runs {c = c} {f = f} {hold = hold} {mark = mark} {obj = obj} r same fit h0 below low right)
      (skeleton.calls_made {m = m} {at = at} {s = s} {fs = fs} {h = h} {n = n} name k has q d null e v there may new) o had gone =
      inl (leaves_one h n c f hold mark obj m at s fs r same fit below (Call name k has) e (suc at)
      (shape s.locals (Ref n ∷ rest (suc k) s.operands)) (skeleton.put n (skeleton.handed null d)
      (skeleton.put q (skeleton.called (h q) name None) h))
      (suc n)
      (calls_made h obj c.held hold mark n p (Call name k has) at f s fit right low name k has d null q refl v there may new
      ((inspected.holds c at f (Call name k has) r (seen fit p m c.method at same e)).calls name k has refl)) o had gone)
  leaves (runs {c = c} {f = f} {hold = hold} {mark = mark} {obj = obj} r same fit h0 below low right)
      (skeleton.outside {m = m} {at = at} {s = s} {fs = fs} {h = h} {n = n} v e q) o had gone =
      inl (leaves_one h n c f hold mark obj m at s fs r same fit below (CallOut v) e (suc at)
      (shape s.locals (plainly Plain v.result (rest (taken v) s.operands))) h n
      (goes_outside h obj c.held hold mark n p (CallOut v) at f s fit right low v refl q) o had gone)
  leaves (runs {c = c} {f = f} {hold = hold} {mark = mark} {obj = obj} r same fit h0 below low right)
      (skeleton.outside_made {m = m} {at = at} {s = s} {fs = fs} {h = h} {n = n} v d null e q) o had gone =
      inl (leaves_one h n c f hold mark obj m at s fs r same fit below (CallOut v) e (suc at)
      (pushed (Ref n) (popped (taken v) s)) (skeleton.put n (skeleton.handed null d) h) (suc n)
      (makes_outside h obj c.held hold mark n p (CallOut v) at f s fit right low v d null refl q) o had gone)
  leaves (runs {c = c} {f = f} {hold = hold} {mark = mark} {obj = obj} r same fit h0 below low right)
      (skeleton.keeps {m = m} {at = at} {s = s} {fs = fs} {h = h} {n = n} k e) o had gone =
      inl (leaves_one h n c f hold mark obj m at s fs r same fit below (Keep k) e (suc at) (popped k s) h n
      (keeps h obj c.held hold mark n p (Keep k) at f s fit right low k refl) o had gone)
  leaves (runs r same fit h0 below low right) (skeleton.enters {m = m} {at = at} {s = s} {fs = fs} callee k words e) o had gone =
      one_of (someone_has o (frame m at s ∷ fs)) had
      (none_has (has_it o (begun values (locals_at p callee) (first k s.operands))) (someone_has o (frame m at s ∷ fs)) gone).1
  leaves (runs {c = c} {f = f} {hold = hold} {mark = mark} {obj = obj} r same fit h0 below low right)
      (skeleton.returns {m = m} {at = at} {m0 = m0} {at0 = at0} {s = s} {s0 = s0} {fs = fs} {h = h} {n = n} callee k words e e0) o had gone
      =
      inl (leaves_returning h n words c m at f hold mark obj s (frame m0 at0 s0) fs callee k r same e fit low e0 below o had gone)
  leaves (runs {c = c} {f = f} {hold = hold} {mark = mark} {obj = obj} r same fit h0 below low right)
      (skeleton.ends {m = m} {at = at} {s = s} {h = h} {n = n} has e) o had gone =
      let b = bottom_is below refl in
      back (leaves_last h n c f hold mark obj m at s [] r same fit below has e b.1 o (pick (either_has (has_it o s) false had)))
    where
      back : LeftIf (h o) ⊎ (result has s ≡ Ref o) → LeftIf (h o) ⊎ GivesBack p (state (frame m at s ∷ []) h n) o
      back (inl w) = inl w
      back (inr w) = inr (record { method = m; at = at; shape = s; others = []; words = has; is = refl; returns = e; gives = w })

      pick : (has_it o s ≡ true) ⊎ (false ≡ true) → has_it o s ≡ true
      pick (inl w) = w
      pick (inr w) = absurd (true≢false (sym w))

  pub leaves_interrupting : {s t : State} → Inv p numbering roots s → Interrupts p roots s t → (o : ℕ) → someone_has o s.stack ≡ true →
      someone_has o t.stack ≡ false → LeftIf (t.things o) ⊎ GivesBack p s o
  leaves_interrupting (over right) step o had gone = elim step [ ]
  leaves_interrupting (runs r same fit h0 below low right)
      (laws.calls_back {m = m} {at = at} {s = s} {fs = fs} i e no_call d root is_root args bs) o had gone =
      one_of (someone_has o (frame m at s ∷ fs)) had
      (none_has (has_it o (begun values (locals_at p d.method) args)) (someone_has o (frame m at s ∷ fs)) gone).1
  leaves_interrupting (runs r same fit h0 below low right)
      (laws.calls_meant {m = m} {at = at} {s = s} {fs = fs} v method e meant) o had gone =
      one_of (someone_has o (frame m at s ∷ fs)) had
      (none_has (has_it o (begun values (locals_at p method) (skeleton.let_go_all (first (taken v) s.operands))))
      (someone_has o (frame m at s ∷ fs))
      gone).1
  leaves_interrupting (runs {c = c} {f = f} {hold = hold} {mark = mark} {obj = obj} r same fit h0 below low right)
      (laws.goes_back {m = m} {at = at} {m0 = m0} {at0 = at0} {s = s} {s0 = s0} {fs = fs} {h = h} {n = n} has i e e0 no_call) o had gone =
      pick (either_has (has_it o s) (someone_has o (frame m0 at0 s0 ∷ fs)) had) (above_is below i e0 no_call).1
    where
      back : LeftIf (h o) ⊎ (result has s ≡ Ref o) →
          LeftIf (h o) ⊎ GivesBack p (state (frame m at s ∷ frame m0 at0 s0 ∷ fs) h n) o
      back (inl w) = inl w
      back (inr w) = inr (record {
        method = m;
        at = at;
        shape = s;
        others = frame m0 at0 s0 ∷ fs;
        words = has;
        is = refl;
        returns = e;
        gives = w;
      })

      pick : (has_it o s ≡ true) ⊎ (someone_has o (frame m0 at0 s0 ∷ fs) ≡ true) → c.held ≡ 0 →
          LeftIf (h o) ⊎ GivesBack p (state (frame m at s ∷ frame m0 at0 s0 ∷ fs) h n) o
      pick (inr w) held = one_of (someone_has o (frame m0 at0 s0 ∷ fs)) w gone
      pick (inl w) held = back (leaves_last h n c f hold mark obj m at s (frame m0 at0 s0 ∷ fs) r same fit below has e held o w)

  pub leaves_moving : {s t : State} → Inv p numbering roots s → Moves p roots s t → (o : ℕ) → someone_has o s.stack ≡ true →
      someone_has o t.stack ≡ false → LeftIf (t.things o) ⊎ GivesBack p s o
  leaves_moving i (inl step) = leaves i step
  leaves_moving i (inr step) = leaves_interrupting i step
