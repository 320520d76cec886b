-- Which places have an object, and which group had which number.
use Rattle.std.proofs.Common.{◌≡◌, inl, inr, ℕ, Bool, true, false, true≢false, List, ◌∷◌, Option}
use Rattle.std.proofs.Common.{Some}
use Rattle.std.proofs.Common.{refl, sym, ap, ◌∙◌}
use Rattle.std.specs.Prelude.{◌==◌, if◌then◌else◌}
use Rattle.std.proofs.lemmas.Bool.Decides.{eqb_tells}
use Rattle.insp_rules.specs.Program.{Bare as BareOf, Shape}
use Rattle.insp_rules.specs.Skeleton.{Value, Plain, Nil, Bit, Map, Constant, Ref, Again, Another, Said, is_loose, Thing, among, has_it}
use Rattle.insp_rules.specs.Frames.{Known, Group, Sight, known_among, has_group}
use Rattle.insp_rules.specs.Reached.{Both, none, more, Stands, IsWhole}
use Rattle.insp_rules.specs.Reached as reached
use Rattle.insp_law.specs.Laws.{Bears}
use Rattle.insp_law.specs.Laws as laws
use Rattle.insp_rules.proofs.Backs.{Tells}
use Rattle.insp_law.proofs.Fitting.{Says, bare, object, answer, Fits, Fit}

-- a value that has nothing to do with an object is none
pub loose_none : (o : ℕ) (v : Value) (vs : List Value) → is_loose v ≡ true → among o (v ∷ vs) ≡ among o vs
loose_none o Plain vs l = refl
loose_none o Nil vs l = refl
loose_none o (Bit b) vs l = refl
loose_none o (Map m class) vs l = refl
loose_none o (Constant class label) vs l = refl
loose_none o (Ref a) vs l = absurd (true≢false (sym l))
loose_none o (Again t a) vs l = refl
loose_none o (Another t) vs l = refl
loose_none o (Said form label) vs l = refl

pub bears_none : (o : ℕ) {b : BareOf} {v : Value} (vs : List Value) → Bears b v → among o (v ∷ vs) ≡ among o vs
bears_none o {v = v} vs (laws.other l) = loose_none o v vs l
bears_none o {v = v} vs (laws.lost l) = loose_none o v vs l
bears_none o vs laws.bit = refl
bears_none o vs laws.null = refl
bears_none o vs laws.again = refl
bears_none o vs laws.another = refl
bears_none o vs laws.map = refl
bears_none o vs laws.constant = refl

module _ (h : ℕ → Thing) (obj : ℕ → ℕ) (groups : ℕ → Option Group) (stale : ℕ → Bool) where
  -- an object that a place knows is a group
  pub known_live : (g : ℕ) → {xs : List Known} {vs : List Value} → Both (Says h obj groups stale) xs vs → known_among g xs ≡ true →
      (x : Group) × (groups g ≡ Some x)
  known_live g none e = absurd (true≢false (sym e))
  known_live g (more (bare r) rs) e = known_live g rs e
  known_live g (more (answer x d i) rs) e = known_live g rs e
  known_live g (more {xs = xs} (object {g = a} x d i) rs) e = go (eqb_tells a g) (a == g) refl e (known_live g rs)
    where
      go : Tells a g → (b : Bool) → (a == g) ≡ b → (if b then true else known_among g xs) ≡ true →
          (known_among g xs ≡ true → (x : Group) × (groups g ≡ Some x)) → (x : Group) × (groups g ≡ Some x)
      go (inl t) b q e f = (x, ap groups (sym t.1) ∙ d)
      go (inr t) true q e f = absurd (true≢false (sym q ∙ t.0))
      go (inr t) false q e f = f e

  -- where it is known the object is, and nowhere else
  pub among_same : ((a b : ℕ) (x y : Group) → groups a ≡ Some x → groups b ≡ Some y → obj a ≡ obj b → a ≡ b) →
      (g : ℕ) (x : Group) → groups g ≡ Some x → {xs : List Known} {vs : List Value} → Both (Says h obj groups stale) xs vs →
      among (obj g) vs ≡ known_among g xs
  among_same apart g x e none = refl
  among_same apart g x e (more {ys = vs} (bare r) rs) = bears_none (obj g) vs r ∙ among_same apart g x e rs
  among_same apart g x e (more (answer y d i) rs) = among_same apart g x e rs
  among_same apart g x e (more {xs = xs} {ys = vs} (object {g = a} {o = o} y d i) rs) =
      go (eqb_tells a g) (eqb_tells o (obj g)) (among_same apart g x e rs)
    where
      go : Tells a g → Tells o (obj g) → among (obj g) vs ≡ known_among g xs →
          (if o == obj g then true else among (obj g) vs) ≡ (if a == g then true else known_among g xs)
      go (inl s) (inl t) ih =
          ap (λ (b : Bool). if b then true else among (obj g) vs) t.0 ∙ sym (ap (λ (b : Bool). if b then true else known_among g xs) s.0)
      go (inr s) (inr t) ih =
          ap (λ (b : Bool). if b then true else among (obj g) vs) t.0 ∙ ih
          ∙ sym (ap (λ (b : Bool). if b then true else known_among g xs) s.0)
      go (inl s) (inr t) ih = absurd (t.1 (i ∙ ap obj s.1))
      go (inr s) (inl t) ih = absurd (s.1 (apart a g y x d e (sym i ∙ t.1)))

  -- an object that a place has is that of a group which is known there
  pub among_known : (o : ℕ) → {xs : List Known} {vs : List Value} → Both (Says h obj groups stale) xs vs → among o vs ≡ true →
      (g : ℕ) × (x : Group) × (groups g ≡ Some x) × (o ≡ obj g)
  among_known o none e = absurd (true≢false (sym e))
  among_known o (more {ys = vs} (bare r) rs) e = among_known o rs (sym (bears_none o vs r) ∙ e)
  among_known o (more (answer x d i) rs) e = among_known o rs e
  among_known o (more {ys = vs} (object {g = a} {o = q} x d i) rs) e = go (eqb_tells q o) (q == o) refl e (among_known o rs)
    where
      go : Tells q o → (b : Bool) → (q == o) ≡ b → (if b then true else among o vs) ≡ true →
          (among o vs ≡ true → (g : ℕ) × (x : Group) × (groups g ≡ Some x) × (o ≡ obj g)) →
          (g : ℕ) × (x : Group) × (groups g ≡ Some x) × (o ≡ obj g)
      go (inl t) b r e f = (a, x, d, sym t.1 ∙ i)
      go (inr t) true r e f = absurd (true≢false (sym r ∙ t.0))
      go (inr t) false r e f = f e

  pub has_same : ((a b : ℕ) (x y : Group) → groups a ≡ Some x → groups b ≡ Some y → obj a ≡ obj b → a ≡ b) →
      (g : ℕ) (x : Group) → groups g ≡ Some x → (s : Shape Known) (t : Shape Value) → Fits h obj groups stale s t →
      has_it (obj g) t ≡ has_group g s
  has_same apart g x e s t f =
      ap (λ (b : Bool). if b then true else among (obj g) t.operands) (among_same apart g x e f.locals)
      ∙ ap (λ (b : Bool). if known_among g s.locals then true else b) (among_same apart g x e f.operands)

  pub has_known : (o : ℕ) (s : Shape Known) (t : Shape Value) → Fits h obj groups stale s t → has_it o t ≡ true →
      (g : ℕ) × (x : Group) × (groups g ≡ Some x) × (o ≡ obj g)
  has_known o s t f e = go (among o t.locals) refl e
    where
      go : (b : Bool) → among o t.locals ≡ b → (if b then true else among o t.operands) ≡ true →
          (g : ℕ) × (x : Group) × (groups g ≡ Some x) × (o ≡ obj g)
      go true d e = among_known o f.locals d
      go false d e = among_known o f.operands e

-- an object among the arguments has a number in the context
pub argument_held : (old : ℕ → ℕ) (groups : ℕ → Option Group) (g : ℕ) → {xs ys : List Known} → Both (Stands old groups) xs ys →
    known_among g ys ≡ true → (i : ℕ) × (x : Group) × (groups i ≡ Some x) × (old i ≡ g)
argument_held old groups g none e = absurd (true≢false (sym e))
argument_held old groups g (more reached.bare rs) e = argument_held old groups g rs e
argument_held old groups g (more (reached.coarser p) rs) e = argument_held old groups g rs e
argument_held old groups g (more (reached.answer x d) rs) e = argument_held old groups g rs e
argument_held old groups g (more reached.forgotten rs) e = argument_held old groups g rs e
argument_held old groups g (more {ys = ys} (reached.object {g = i} x d) rs) e =
    go (eqb_tells (old i) g) (old i == g) refl e (argument_held old groups g rs)
  where
    go : Tells (old i) g → (b : Bool) → (old i == g) ≡ b → (if b then true else known_among g ys) ≡ true →
        (known_among g ys ≡ true → (i : ℕ) × (x : Group) × (groups i ≡ Some x) × (old i ≡ g)) →
        (i : ℕ) × (x : Group) × (groups i ≡ Some x) × (old i ≡ g)
    go (inl t) b q e f = (i, x, d, t.1)
    go (inr t) true q e f = absurd (true≢false (sym q ∙ t.0))
    go (inr t) false q e f = f e

-- an abstract frame that fits is whole
pub fit_whole : (h : ℕ → Thing) (obj : ℕ → ℕ) (stale : ℕ → Bool) (held : ℕ) (hold : ℕ → ℕ) (mark n : ℕ) (f : Sight) (t : Shape Value) →
    Fit h obj stale held hold mark n f t → IsWhole f
fit_whole h obj stale held hold mark n f t fit = record { within = fit.sits.within; live = live }
  where
    live : (g : ℕ) → has_group g f.shape ≡ true → (x : Group) × (f.groups g ≡ Some x)
    live g e = go (known_among g f.shape.locals) refl e
      where
        go : (b : Bool) → known_among g f.shape.locals ≡ b → (if b then true else known_among g f.shape.operands) ≡ true →
            (x : Group) × (f.groups g ≡ Some x)
        go true k e = known_live h obj f.groups stale g fit.fits.locals k
        go false k e = known_live h obj f.groups stale g fit.fits.operands e
