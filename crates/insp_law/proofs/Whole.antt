-- What holds at each moment of a run.
use Rattle.std.proofs.Common.{[], ◌∷◌, ◌≡◌, inl, inr, ℕ, suc, ◌<◌, Bool, true, true≢false, List, Option, Some, None}
use Rattle.std.proofs.Common.{refl, sym, ap, ◌∙◌, subst, arith}
use Rattle.insp_rules.specs.Program.{Bare as BareOf, Call, CallOut, Keep, Make, Program, taken, plainly, nth, rest, shape}
use Rattle.insp_rules.specs.Program.{popped, pushed, begun, locals_at}
use Rattle.insp_rules.specs.Skeleton.{Value, Plain, Nil, Ref, Said, Thing, Frame, State, frame, state, values, result, Step, Throws, among}
use Rattle.insp_rules.specs.Skeleton.{has_it}
use Rattle.insp_rules.specs.Skeleton.{someone_has}
use Rattle.insp_rules.specs.Skeleton as skeleton
use Rattle.insp_rules.specs.Frames.{Known, unknown, Object, Group}
use Rattle.insp_rules.specs.Reached.{Context, Numbering, Inspected, Found, entry}
use Rattle.insp_law.specs.Laws.{Begins, IsRight, MayBeLeft, IsSafe, RunsAreSafe, Runs}
use Rattle.insp_law.specs.Laws as laws
use Rattle.insp_law.proofs.Seeing.{seen}
use Rattle.insp_law.proofs.Fitting.{Says, bare, object, answer, fresh, operand}
use Rattle.insp_law.proofs.Steps.{moved, makes, makes_outside, goes_outside, keeps}
use Rattle.insp_law.proofs.Jumping.{jumped}
use Rattle.insp_law.proofs.Calling.{tells, calls, calls_made}
use Rattle.insp_law.proofs.Standing.{bottom, Inv, over, runs, runs_tidy, goes, enters, root_fit, interrupts_keep}
use Rattle.insp_law.proofs.Returning.{come_back}
use Rattle.insp_law.proofs.Throwing.{unwinds, caught_here, unbegun_here, caught_amid}

loose_ref : {P : Type 0} (v : Value) (o : ℕ) → skeleton.is_loose v ≡ true → v ≡ Ref o → P
loose_ref v o l e = absurd (true≢false (sym l ∙ ap skeleton.is_loose e))

pub no_ref : {P : Type 0} {b : BareOf} {v : Value} {o : ℕ} → laws.Bears b v → v ≡ Ref o → P
no_ref {v = v} {o = o} (laws.other l) e = loose_ref v o l e
no_ref {v = v} {o = o} (laws.lost l) e = loose_ref v o l e
no_ref laws.bit e = absurd (cc)
no_ref laws.null e = absurd (cc)
no_ref laws.again e = absurd (cc)
no_ref laws.another e = absurd (cc)
no_ref laws.map e = absurd (cc)
no_ref laws.constant e = absurd (cc)

-- where there is an object, a group is known
pub ref_known : (h : ℕ → Thing) (obj : ℕ → ℕ) (groups : ℕ → Option Group) (stale : ℕ → Bool) (a : Known) (v : Value) (o : ℕ) →
    Says h obj groups stale a v → v ≡ Ref o → (g : ℕ) × (x : Group) × (a ≡ Object g) × (groups g ≡ Some x) × (o ≡ obj g)
ref_known h obj groups stale a v o (bare r) e = no_ref r e
ref_known h obj groups stale a v o (answer x l i) e = absurd (cc)
ref_known h obj groups stale a v o (object {g = g} {o = q} x l i) e =
    let r : q ≡ o = cc in
    (g, x, refl, l, sym r ∙ i)

module _ (p : Program) (numbering : Numbering) (roots : List Context) (inspected : Inspected p numbering roots) where
  abbrev I : State → Type 0
  I = Inv p numbering roots

  pub steps_keep : {s t : State} → Inv p numbering roots s → Step p s t → Inv p numbering roots t
  steps_keep (over right) step = elim step [ ]
  steps_keep (runs {c = c} {f = f} {hold = hold} {mark = mark} {obj = obj} r same fit had below low right)
      (skeleton.moves {m = m} {at = at} {s = s} {t = t} {fs = fs} {h = h} {n = n} i e q) =
      goes p numbering roots h n c f hold mark obj m at s fs r same fit had below low right i e (suc at) t h n
      (moved h obj c.held hold mark n p i at f s fit right low t q)
  steps_keep (runs {c = c} {f = f} {hold = hold} {mark = mark} {obj = obj} r same fit had below low right)
      (skeleton.jumps {m = m} {at = at} {to = to} {s = s} {t = t} {fs = fs} {h = h} {n = n} i e q) =
      goes p numbering roots h n c f hold mark obj m at s fs r same fit had below low right i e to t h n
      (jumped h obj c.held hold mark n p i at f s fit right low to t q)
  steps_keep (runs {c = c} {f = f} {hold = hold} {mark = mark} {obj = obj} r same fit had below low right)
      (skeleton.makes {m = m} {at = at} {s = s} {fs = fs} {h = h} {n = n} t e) =
      goes p numbering roots h n c f hold mark obj m at s fs r same fit had below low right (Make t) e (suc at) (pushed (Ref n) s)
      (skeleton.put n (skeleton.made t) h) (suc n) (makes h obj c.held hold mark n p (Make t) at f s fit right low t refl)
  steps_keep (runs {c = c} {f = f} {hold = hold} {mark = mark} {obj = obj} r same fit had below low right)
      (skeleton.tells {m = m} {at = at} {s = s} {fs = fs} {h = h} {n = n} name k has o label e q there may) =
      goes p numbering roots h n c f hold mark obj m at s fs r same fit had below low right (Call name k has) e (suc at)
      (shape s.locals (skeleton.told has label (rest (suc k) s.operands))) (skeleton.put o (skeleton.called (h o) name (Some label)) h) n
      (tells h obj c.held hold mark n p (Call name k has) at f s fit right low name k has o label refl q there may
      ((inspected.holds c at f (Call name k has) r (seen fit p m c.method at same e)).calls name k has refl))
  steps_keep (runs {c = c} {f = f} {hold = hold} {mark = mark} {obj = obj} r same fit had below low right)
      (skeleton.calls {m = m} {at = at} {s = s} {fs = fs} {h = h} {n = n} name k has o vs e q there may lefts) =
      goes p numbering roots h n c f hold mark obj m at s fs r same fit had below low right (Call name k has) e (suc at)
      (shape s.locals vs) (skeleton.put o (skeleton.called (h o) name None) h) n
      (calls h obj c.held hold mark n p (Call name k has) at f s fit right low name k has o vs refl q there may lefts
      ((inspected.holds c at f (Call name k has) r (seen fit p m c.method at same e)).calls name k has refl))
  steps_keep (runs {c = c} {f = f} {hold = hold} {mark = mark} {obj = obj} r same fit had below low right)
      (skeleton.calls_made {m = m} {at = at} {s = s} {fs = fs} {h = h} {n = n} name k has o d null e q there may new) =
      goes p numbering roots h n c f hold mark obj m at s fs r same fit had below low right (Call name k has) e (suc at)
      (shape s.locals (Ref n ∷ rest (suc k) s.operands)) (skeleton.put n (skeleton.handed null d)
      (skeleton.put o (skeleton.called (h o) name None) h))
      (suc n)
      (calls_made h obj c.held hold mark n p (Call name k has) at f s fit right low name k has d null o refl q there may new
      ((inspected.holds c at f (Call name k has) r (seen fit p m c.method at same e)).calls name k has refl))
  steps_keep (runs {c = c} {f = f} {hold = hold} {mark = mark} {obj = obj} r same fit had below low right)
      (skeleton.outside {m = m} {at = at} {s = s} {fs = fs} {h = h} {n = n} v e q) =
      goes p numbering roots h n c f hold mark obj m at s fs r same fit had below low right (CallOut v) e (suc at)
      (shape s.locals (plainly Plain v.result (rest (taken v) s.operands))) h n
      (goes_outside h obj c.held hold mark n p (CallOut v) at f s fit right low v refl q)
  steps_keep (runs {c = c} {f = f} {hold = hold} {mark = mark} {obj = obj} r same fit had below low right)
      (skeleton.outside_made {m = m} {at = at} {s = s} {fs = fs} {h = h} {n = n} v d null e q) =
      goes p numbering roots h n c f hold mark obj m at s fs r same fit had below low right (CallOut v) e (suc at)
      (pushed (Ref n) (popped (taken v) s)) (skeleton.put n (skeleton.handed null d) h) (suc n)
      (makes_outside h obj c.held hold mark n p (CallOut v) at f s fit right low v d null refl q)
  steps_keep (runs {c = c} {f = f} {hold = hold} {mark = mark} {obj = obj} r same fit had below low right)
      (skeleton.keeps {m = m} {at = at} {s = s} {fs = fs} {h = h} {n = n} k e) =
      goes p numbering roots h n c f hold mark obj m at s fs r same fit had below low right (Keep k) e (suc at) (popped k s) h n
      (keeps h obj c.held hold mark n p (Keep k) at f s fit right low k refl)
  steps_keep (runs {c = c} {f = f} {hold = hold} {mark = mark} {obj = obj} r same fit had below low right)
      (skeleton.enters {m = m} {at = at} {s = s} {fs = fs} {h = h} {n = n} callee k words e) =
      enters p numbering roots h n c f hold mark obj m at s fs r same fit had below low right callee k words e
  steps_keep (runs {c = c} {f = f} {hold = hold} {mark = mark} {obj = obj} r same fit had below low right)
      (skeleton.returns {m = m} {at = at} {m0 = m0} {at0 = at0} {s = s} {s0 = s0} {fs = fs} {h = h} {n = n} callee k words e e0) =
      come_back p numbering roots h n c at f hold mark obj s (frame m0 at0 s0) fs callee k words r
      (seen fit p m c.method at same e) fit low right e0 below
  steps_keep (runs r same fit had below low right) (skeleton.ends words e) = over right

  pub throws_keep : {s t : State} → Inv p numbering roots s → Throws p s t → Inv p numbering roots t
  throws_keep (over right) throw = elim throw [ ]
  throws_keep (runs {c = c} {f = f} {hold = hold} {mark = mark} {obj = obj} r same fit had below low right)
      (skeleton.before {m = m} {at = at} {s = s} {fs = fs} {h = h} {n = n} to i catches e leaves) =
      caught_here p numbering roots h n c f hold mark obj m at s fs r same fit below low right to catches i e leaves
  throws_keep (runs {c = c} {f = f} {hold = hold} {mark = mark} {obj = obj} r same fit had below low right)
      (skeleton.unbegun {m = m} {at = at} {s = s} {fs = fs} {h = h} {n = n} to callee k words catches e) =
      unbegun_here p numbering roots h n c f hold mark obj m at s fs r same fit below low right to catches callee k words e
  throws_keep (runs {c = c} {f = f} {hold = hold} {mark = mark} {obj = obj} r same fit had below low right)
      (skeleton.amid {m = m} {at = at} {s = s} {fs = fs} {h = h} {n = n} to name k has o catches e q) =
      let z = ref_known h obj f.groups fresh (nth unknown f.shape.operands k) (nth Plain s.operands k) o
      (operand h obj f.groups fresh f.shape s fit.fits k) q in
      caught_amid p numbering roots h n c f hold mark obj m at s fs r same fit below low right to catches name k has o z.0 z.1 e z.2 z.3 z.4
  throws_keep (runs {h = h} {n = n} r same fit had below low right) (skeleton.through u) = unwinds p numbering roots h n right below low u

  pub begins_right : (s : State) → Begins p roots s → Inv p numbering roots s
  begins_right s b =
      subst (Inv p numbering roots) (sym b.is)
      (runs_tidy p numbering roots b.things 0 b.context (entry p b.context) (λ i. i) 0 (λ i. i)
      (frame b.context.method 0 (begun values (locals_at p b.context.method) b.args)) []
      (Found.begins (Found.called (Found.root b.root b.is_root))) refl
      (root_fit p numbering roots b.things 0 b.context b.is_root b.args b.unheld) (bottom (Found.root b.root b.is_root) b.is_root.held)
      (omega arith)
      (λ o less. absurd (omega (arith, less))))

  pub runs_keep : (s : State) → Begins p roots s → {t : State} → Runs p roots s t → Inv p numbering roots t
  runs_keep s b laws.here = begins_right s b
  runs_keep s b (laws.stepped r (inl step)) = steps_keep (runs_keep s b r) step
  runs_keep s b (laws.stepped r (inr step)) = interrupts_keep p numbering roots (runs_keep s b r) step
  runs_keep s b (laws.threw r throw) = throws_keep (runs_keep s b r) throw

  pub all_right : {s : State} → Inv p numbering roots s → (o : ℕ) → o < s.next → IsRight (s.things o)
  all_right (over right) o less = (right o less).right
  all_right (runs r same fit had below low right) o less = (right o less).right
