-- What an instruction of the frame that runs comes to; moves, and objects that are made.
use Rattle.std.proofs.Common.{◌≡◌, ◌⊎◌, inl, inr, ℕ, suc, ◌<◌, ◌≤◌, Bool, true, false, List, Option, Some, None}
use Rattle.std.proofs.Common.{refl, sym, ap, ◌∙◌, subst, arith}
use Rattle.insp_rules.specs.Program.{Class, Result, Void, Words, Boolean, Of}
use Rattle.insp_rules.specs.Program.{Invocation, taken, class_of, plainly, Instruction, Make, CallOut, Keep, Program}
use Rattle.insp_rules.specs.Program.{Shape, shape, nth, rest, popped}
use Rattle.insp_rules.specs.Program.{pushed, straight}
use Rattle.insp_rules.specs.Skeleton.{Value, Plain, Ref, Thing, values, put, made}
use Rattle.insp_rules.specs.Skeleton.{handed}
use Rattle.insp_rules.specs.Frames.{Known, Bare, unknown, Group, Sight, group}
use Rattle.insp_rules.specs.Frames.{with_shape, added, Way}
use Rattle.insp_rules.specs.Frames.{new_group}
use Rattle.insp_rules.specs.Frames as frames
use Rattle.insp_rules.specs.Reached.{Both, more}
use Rattle.insp_rules.proofs.Lists.{both_filled, Put, is, isnt, putting, put_same, put_other}
use Rattle.insp_law.proofs.Fitting.{Says, Accords, Kin, kin, Fits, Sits, Fit, fresh, pops}
use Rattle.insp_law.proofs.Fitting.{operand, others, straights, alike_some}
use Rattle.insp_law.proofs.Carrying.{heap_fit, add_fit}
use Rattle.insp_law.proofs.Calls.{handed_is, IsGood, handed_good}

abbrev pub AllRight : (ℕ → Thing) → ℕ → Type 0
AllRight h n = (o : ℕ) → o < n → IsGood (h o)

-- the same groups, with other elements
pub regroup : (obj : ℕ → ℕ) (held : ℕ) (hold : ℕ → ℕ) (mark n : ℕ) (groups groups' : ℕ → Option Group) (count : ℕ) →
    ((a : ℕ) (y : Group) → groups' a ≡ Some y → (z : Group) × (groups a ≡ Some z)) →
    ((a : ℕ) (z : Group) → groups a ≡ Some z → (y : Group) × (groups' a ≡ Some y)) →
    Sits obj held hold mark n groups count → Sits obj held hold mark n groups' count
regroup obj held hold mark n groups groups' count was goes s = record {
  within = λ g x e. s.within g (was g x e).0 (was g x e).1;
  sits = λ g x e. s.sits g (was g x e).0 (was g x e).1;
  bounded = λ g x e. s.bounded g (was g x e).0 (was g x e).1;
  apart = λ a b x y d e i. s.apart a b (was a x d).0 (was b y e).0 (was a x d).1 (was b y e).1 i;
  holds = λ g less. goes g (s.holds g less).0 (s.holds g less).1;
}

-- one group with another element
pub put_was : (groups : ℕ → Option Group) (g : ℕ) (x x' : Group) → groups g ≡ Some x → (a : ℕ) (y : Group) →
    put g (Some x') groups a ≡ Some y → (z : Group) × (groups a ≡ Some z)
put_was groups g x x' e a y d = go (putting g (Some x') groups a)
  where
    go : Put g (Some x') groups a → (z : Group) × (groups a ≡ Some z)
    go (is i b p) = (x, ap groups i ∙ e)
    go (isnt i b p) = (y, sym p ∙ d)

pub put_goes : (groups : ℕ → Option Group) (g : ℕ) (x' : Group) → (a : ℕ) (z : Group) → groups a ≡ Some z →
    (y : Group) × (put g (Some x') groups a ≡ Some y)
put_goes groups g x' a z e = go (putting g (Some x') groups a)
  where
    go : Put g (Some x') groups a → (y : Group) × (put g (Some x') groups a ≡ Some y)
    go (is i b p) = (x', p)
    go (isnt i b p) = (z, p ∙ e)

module _ (h : ℕ → Thing) (obj : ℕ → ℕ) (held : ℕ) (hold : ℕ → ℕ) (mark n : ℕ) (p : Program) (i : Instruction) (at : ℕ) (f : Sight) where
  -- an abstract frame that fits, in which each group goes on but for null
  pub record Comes_to (after : Sight) (objs : ℕ → ℕ) (t : Shape Value) (h' : ℕ → Thing) (n' : ℕ) : Type 0 where
    pub fit : Fit h' objs fresh held hold mark n' after t
    pub kept : (g : ℕ) (x : Group) → f.groups g ≡ Some x →
        ((y : Group) × (after.groups g ≡ Some y) × (objs g ≡ obj g)) ⊎ ((h' (obj g)).null ≡ true)
    pub touches : (o : ℕ) → o < n → (h' o ≡ h o) ⊎ ((g : ℕ) × (x : Group) × (f.groups g ≡ Some x) × (o ≡ obj g))
    pub kinds : (o : ℕ) → o < n → Kin (h' o) (h o)
    pub more : n ≤ n'
    pub right : AllRight h' n'

  -- what is come to
  pub record Goes (to : ℕ) (t : Shape Value) (h' : ℕ → Thing) (n' : ℕ) : Type 0 where
    pub after : Sight
    pub way : Way p held i at f to after
    pub objs : ℕ → ℕ
    pub comes : Comes_to after objs t h' n'
    pub open comes use *

  pub goes_by : (to : ℕ) (t : Shape Value) (h' : ℕ → Thing) (n' : ℕ) (after : Sight) (objs : ℕ → ℕ) → Way p held i at f to after →
      Comes_to after objs t h' n' → Goes to t h' n'
  goes_by to t h' n' after objs way comes = record { after = after; way = way; objs = objs; comes = comes }

  module _ (t : Shape Value) (fit : Fit h obj fresh held hold mark n f t) (right : AllRight h n) (low : mark ≤ n) where
    -- other places with the same objects
    pub plain : (to : ℕ) (s : Shape Known) (u : Shape Value) → Way p held i at f to (with_shape f s) → Fits h obj f.groups fresh s u →
        Goes to u h n
    plain to s u way fits = goes_by to u h n (with_shape f s) obj way (record {
      fit = record { fits = fits; sits = fit.sits; agrees = fit.agrees; kinds = fit.kinds };
      kept = λ g x e. inl (x, e, refl);
      touches = λ o less. inl refl;
      kinds = λ o less. kin refl;
      more = omega arith;
      right = right;
    })

    pub moved : (u : Shape Value) → straight values i t ≡ Some u → Goes (suc at) u h n
    moved u e =
        let a = alike_some h obj f.groups fresh (straights h obj f.groups fresh i f.shape t fit.fits) u e in
        plain (suc at) a.0 u (frames.moves a.0 a.1) a.2

    operand_of : (k : ℕ) → Says h obj f.groups fresh (nth unknown f.shape.operands k) (nth Plain t.operands k)
    operand_of k = operand h obj f.groups fresh f.shape t fit.fits k

    pops_of : (k : ℕ) → Fits h obj f.groups fresh (popped k f.shape) (popped k t)
    pops_of k = pops h obj f.groups fresh f.shape t k fit.fits

    -- ---- objects that are made

    -- one object more
    pub then_made : (a : Sight) (objs : ℕ → ℕ) (u : Shape Value) (h1 : ℕ → Thing) (maybe null : Bool) (c : Class) →
        (null ≡ true → maybe ≡ true) →
        Comes_to a objs u h1 n →
        Comes_to (added (new_group maybe c) a.shape a) (put a.count n objs) (pushed (Ref n) u) (put n (handed null c) h1) (suc n)
    then_made a objs u h1 maybe null c may_be now = record {
      fit = add_fit (put n (handed null c) h1) objs held hold mark (suc n) a u (new_group maybe c) n low (omega arith)
          (λ g y e q. let b = now.fit.sits.bounded g y e in omega (arith, b, q))
          (subst (Accords (new_group maybe c)) (sym (put_same n (handed null c) h1)) (handed_is maybe null c may_be))
          (heap_fit h1 (put n (handed null c) h1) objs fresh held hold mark n (suc n) a u (omega arith)
          (λ g x e. inr (put_other n (handed null c) h1 (objs g) (λ q. let b = now.fit.sits.bounded g x e in omega (arith, b, q))))
          (λ g x e. kin (put_other n (handed null c) h1 (objs g) (λ q. let b = now.fit.sits.bounded g x e in omega (arith, b, q))))
          now.fit);
      kept = λ g x e. keep g x e (now.kept g x e);
      touches = λ o less. touched o less (now.touches o less);
      kinds = λ o less. subst (λ z. Kin z (h o)) (sym (put_other n (handed null c) h1 o (λ q. omega (arith, less, q)))) (now.kinds o less);
      more = omega arith;
      right = λ o less. rights o less (putting n (handed null c) h1 o);
    }
      where
        keep : (g : ℕ) (x : Group) → f.groups g ≡ Some x →
            ((y : Group) × (a.groups g ≡ Some y) × (objs g ≡ obj g)) ⊎ ((h1 (obj g)).null ≡ true) →
            ((y : Group) × ((added (new_group maybe c) a.shape a).groups g ≡ Some y) × (put a.count n objs g ≡ obj g))
            ⊎ ((put n (handed null c) h1 (obj g)).null ≡ true)
        keep g x e (inl k) =
            let w = now.fit.sits.within g k.0 k.1 in
            inl (
              k.0,
              put_other a.count (Some (new_group maybe c)) a.groups g (λ q. omega (arith, w, q)) ∙ k.1,
              put_other a.count n objs g (λ q. omega (arith, w, q)) ∙ k.2,
            )
        keep g x e (inr k) =
            let b = fit.sits.bounded g x e in
            inr (ap (λ (z : Thing). z.null) (put_other n (handed null c) h1 (obj g) (λ q. omega (arith, b, q))) ∙ k)

        touched : (o : ℕ) → o < n → (h1 o ≡ h o) ⊎ ((g : ℕ) × (x : Group) × (f.groups g ≡ Some x) × (o ≡ obj g)) →
            (put n (handed null c) h1 o ≡ h o) ⊎ ((g : ℕ) × (x : Group) × (f.groups g ≡ Some x) × (o ≡ obj g))
        touched o less (inl e) = inl (put_other n (handed null c) h1 o (λ q. omega (arith, less, q)) ∙ e)
        touched o less (inr z) = inr z

        rights : (o : ℕ) → o < suc n → Put n (handed null c) h1 o → IsGood (put n (handed null c) h1 o)
        rights o less (is k b p) = subst IsGood (sym p) (handed_good null c)
        rights o less (isnt k b p) = subst IsGood (sym p) (now.right o (omega (arith, less, k)))

    adds : (s : Shape Known) (u : Shape Value) (maybe null : Bool) (c : Class) → (null ≡ true → maybe ≡ true) →
        Fits h obj f.groups fresh s u → Way p held i at f (suc at) (added (new_group maybe c) s f) →
        Goes (suc at) (pushed (Ref n) u) (put n (handed null c) h) (suc n)
    adds s u maybe null c may_be fits way =
        goes_by (suc at) (pushed (Ref n) u) (put n (handed null c) h) (suc n) (added (new_group maybe c) s f) (put f.count n obj) way
        (then_made (with_shape f s) obj u h maybe null c may_be (record {
          fit = record { fits = fits; sits = fit.sits; agrees = fit.agrees; kinds = fit.kinds };
          kept = λ g x e. inl (x, e, refl);
          touches = λ o less. inl refl;
          kinds = λ o less. kin refl;
          more = omega arith;
          right = right;
        }))

    pub makes : (c : Class) → i ≡ Make c → Goes (suc at) (pushed (Ref n) t) (put n (made c) h) (suc n)
    makes c e = adds f.shape t false false c (λ e. e) fit.fits (frames.makes c e)

    pub makes_outside : (v : Invocation) (c : Class) (null : Bool) → i ≡ CallOut v → class_of v.result ≡ Some c →
        Goes (suc at) (pushed (Ref n) (popped (taken v) t)) (put n (handed null c) h) (suc n)
    makes_outside v c null e q =
        adds (popped (taken v) f.shape) (popped (taken v) t) true null c (λ e. refl) (pops_of (taken v)) (frames.outside_made v c e q)

    plain_both : (has : Result) {xs : List Known} {vs : List Value} → Both (Says h obj f.groups fresh) xs vs →
        Both (Says h obj f.groups fresh) (plainly unknown has xs) (plainly Plain has vs)
    plain_both Void b = b
    plain_both (Words m) b = both_filled (Says h obj f.groups fresh) unknown Plain (others h obj f.groups fresh) m b
    plain_both Boolean b = more (others h obj f.groups fresh) b
    plain_both (Of name class) b = more (others h obj f.groups fresh) b

    pub goes_outside : (v : Invocation) → i ≡ CallOut v → class_of v.result ≡ None →
        Goes (suc at) (shape t.locals (plainly Plain v.result (rest (taken v) t.operands))) h n
    goes_outside v e q =
        plain (suc at) (shape f.shape.locals (plainly unknown v.result (rest (taken v) f.shape.operands)))
        (shape t.locals (plainly Plain v.result (rest (taken v) t.operands))) (frames.outside v e q)
        (record { locals = fit.fits.locals; operands = plain_both v.result (pops_of (taken v)).operands })

    pub keeps : (k : ℕ) → i ≡ Keep k → Goes (suc at) (popped k t) h n
    keeps k e = plain (suc at) (popped k f.shape) (popped k t) (frames.keeps k e) (pops_of k)
