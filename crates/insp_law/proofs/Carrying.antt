-- What still fits when objects, groups or their numbers change.
use Rattle.std.proofs.Common.{◌≡◌, ◌≢◌, ◌⊎◌, inl, inr, ℕ, zero, suc, ◌<◌, ◌≤◌, Bool, true, false, true≢false, List, Option, Some}
use Rattle.std.proofs.Common.{refl, sym, ap, ◌∙◌, subst, arith}
use Rattle.std.specs.Prelude.{if◌then◌else◌}
use Rattle.mg_text.specs.Call.{Name}
use Rattle.insp_rules.specs.Program.{Bare as BareOf, Other, Shape, pushed}
use Rattle.insp_rules.specs.Skeleton.{Value, Ref, Said, Thing, put}
use Rattle.insp_rules.specs.Frames.{Known, Bare, Answer, Group, Sight, forgets, forget_all, added}
use Rattle.insp_rules.specs.Reached.{Both, none, more, Stands, Renames}
use Rattle.insp_rules.specs.Reached as reached
use Rattle.insp_law.specs.Laws.{Bears}
use Rattle.insp_law.specs.Laws as laws
use Rattle.insp_rules.proofs.Lists.{some_is, none_some, both_map, Put, is, isnt, putting, put_same, put_other}
use Rattle.insp_law.proofs.Fitting.{Says, bare, object, answer, Accords, Kin, kin_kind, Fits, Sits, Fit, fresh, or_none}

pub both_over : {A B C : Type 0} (R : A → B → Type 0) (S : B → C → Type 0) (T : A → C → Type 0) →
    ((a : A) (b : B) (c : C) → R a b → S b c → T a c) → {xs : List A} {ys : List B} {zs : List C} → Both R xs ys → Both S ys zs →
    Both T xs zs
both_over R S T f none none = none
both_over R S T f (more {a = a} {b = b} h hs) (more {b = c} k ks) = more (f a b c h k) (both_over R S T f hs ks)

-- ---- the same places, with other objects or groups

module _ (h : ℕ → Thing) (obj : ℕ → ℕ) (groups : ℕ → Option Group) (stale : ℕ → Bool)
    (h' : ℕ → Thing) (obj' : ℕ → ℕ) (groups' : ℕ → Option Group) (stale' : ℕ → Bool) where
  -- each group goes on; so does the answer of those that aren't forgotten
  pub record Carries (forgotten : ℕ → Bool) : Type 0 where
    pub live : (g : ℕ) (x : Group) → groups g ≡ Some x → (y : Group) × (groups' g ≡ Some y)
    pub same : (g : ℕ) (x : Group) → groups g ≡ Some x → obj' g ≡ obj g
    pub heard : (g : ℕ) (x : Group) (label : Name) → groups g ≡ Some x → forgotten g ≡ false →
        (stale g ≡ true) ⊎ ((h (obj g)).answer ≡ Some label) → (stale' g ≡ true) ⊎ ((h' (obj' g)).answer ≡ Some label)

  pub carried : Carries (λ g. false) → (a : Known) (b : Value) → Says h obj groups stale a b → Says h' obj' groups' stale' a b
  carried c a b (bare r) = bare r
  carried c a b (object {g = g} x e i) = object (c.live g x e).0 (c.live g x e).1 (i ∙ sym (c.same g x e))
  carried c a b (answer {g = g} {label = label} x e i) = answer (c.live g x e).0 (c.live g x e).1 (c.heard g x label e refl i)

  pub carried_fits : Carries (λ g. false) → (s : Shape Known) (t : Shape Value) → Fits h obj groups stale s t →
      Fits h' obj' groups' stale' s t
  carried_fits c s t f = record {
    locals = both_map (Says h obj groups stale) (Says h' obj' groups' stale') (carried c) f.locals;
    operands = both_map (Says h obj groups stale) (Says h' obj' groups' stale') (carried c) f.operands;
  }

  pub forgetting : (these : ℕ → Bool) → Carries these → (a : Known) (b : Value) → Says h obj groups stale a b →
      Says h' obj' groups' stale' (forgets these a) b
  forgetting these c a b (bare r) = bare r
  forgetting these c a b (object {g = g} x e i) = object (c.live g x e).0 (c.live g x e).1 (i ∙ sym (c.same g x e))
  forgetting these c a b (answer {g = g} {form = form} {label = label} x e i) = go (these g) refl
    where
      go : (t : Bool) → these g ≡ t → Says h' obj' groups' stale' (if t then Bare Other else Answer g form) (Said form label)
      go true d = bare (laws.other refl)
      go false d = answer (c.live g x e).0 (c.live g x e).1 (c.heard g x label e d i)

  pub forgetting_all : (these : ℕ → Bool) → Carries these → {xs : List Known} {ys : List Value} → Both (Says h obj groups stale) xs ys →
      Both (Says h' obj' groups' stale') (forget_all these xs) ys
  forgetting_all these c none = none
  forgetting_all these c (more {a = a} {b = b} r rs) = more (forgetting these c a b r) (forgetting_all these c rs)

-- ---- other objects changed

pub heap_fit : (h h' : ℕ → Thing) (obj : ℕ → ℕ) (stale : ℕ → Bool) (held : ℕ) (hold : ℕ → ℕ) (mark n n' : ℕ) (f : Sight) (t : Shape Value) →
    n ≤ n' → ((g : ℕ) (x : Group) → f.groups g ≡ Some x → (stale g ≡ true) ⊎ (h' (obj g) ≡ h (obj g))) →
    ((g : ℕ) (x : Group) → f.groups g ≡ Some x → Kin (h' (obj g)) (h (obj g))) → Fit h obj stale held hold mark n f t →
    Fit h' obj stale held hold mark n' f t
heap_fit h h' obj stale held hold mark n n' f t le same kind fit = record {
  fits = carried_fits h obj f.groups stale h' obj f.groups stale carries f.shape t fit.fits;
  sits = record {
    within = fit.sits.within;
    sits = fit.sits.sits;
    bounded = λ g x e. let b = fit.sits.bounded g x e in omega (arith, b, le);
    apart = fit.sits.apart;
    holds = fit.sits.holds;
  };
  agrees = λ g x e. agree g x (same g x e) (fit.agrees g x e);
  kinds = λ g x e. kin_kind (kind g x e) (fit.kinds g x e);
}
  where
    hear : (g : ℕ) (label : Name) → (stale g ≡ true) ⊎ (h' (obj g) ≡ h (obj g)) → (stale g ≡ true) ⊎ ((h (obj g)).answer ≡ Some label) →
        (stale g ≡ true) ⊎ ((h' (obj g)).answer ≡ Some label)
    hear g label (inl s) a = inl s
    hear g label (inr e) (inl s) = inl s
    hear g label (inr e) (inr a) = inr (ap (λ (x : Thing). x.answer) e ∙ a)

    carries : Carries h obj f.groups stale h' obj f.groups stale (λ g. false)
    carries = record {
      live = λ g x e. (x, e);
      same = λ g x e. refl;
      heard = λ g x label e d a. hear g label (same g x e) a;
    }

    agree : (g : ℕ) (x : Group) → (stale g ≡ true) ⊎ (h' (obj g) ≡ h (obj g)) → (stale g ≡ true) ⊎ Accords x (h (obj g)) →
        (stale g ≡ true) ⊎ Accords x (h' (obj g))
    agree g x (inl s) a = inl s
    agree g x (inr e) (inl s) = inl s
    agree g x (inr e) (inr a) = inr (subst (Accords x) (sym e) a)

-- ---- one group more

held_within : (obj : ℕ → ℕ) (held : ℕ) (hold : ℕ → ℕ) (mark n : ℕ) (groups : ℕ → Option Group) (count : ℕ) →
    Sits obj held hold mark n groups count → held ≤ count
held_within obj zero hold mark n groups count s = omega arith
held_within obj (suc k) hold mark n groups count s =
    let w = s.within k (s.holds k (omega arith)).0 (s.holds k (omega arith)).1 in omega (arith, w)

pub add_fit : (h : ℕ → Thing) (obj : ℕ → ℕ) (held : ℕ) (hold : ℕ → ℕ) (mark n : ℕ) (f : Sight) (t : Shape Value) (x : Group) (o : ℕ) →
    mark ≤ o → o < n → ((g : ℕ) (y : Group) → f.groups g ≡ Some y → obj g ≢ o) → Accords x (h o) →
    Fit h obj fresh held hold mark n f t →
    Fit h (put f.count o obj) fresh held hold mark n (added x f.shape f) (pushed (Ref o) t)
add_fit h obj held hold mark n f t x o above below new accords fit = record {
  fits = record {
    locals = m.locals;
    operands = more (object x (put_same f.count (Some x) f.groups) (sym (put_same f.count o obj))) m.operands;
  };
  sits = record {
    within = λ g y e. within g y e (putting f.count (Some x) f.groups g);
    sits = λ g y e. sits g y e (putting f.count (Some x) f.groups g);
    bounded = λ g y e. bounded g y e (putting f.count (Some x) f.groups g);
    apart = λ a b y z d e i. apart a b y z d e i (putting f.count (Some x) f.groups a) (putting f.count (Some x) f.groups b);
    holds = λ g less. let k = fit.sits.holds g less in (k.0, live g k.0 k.1);
  };
  agrees = λ g y e. inr (agree g y e (putting f.count (Some x) f.groups g));
  kinds = λ g y e. (agree g y e (putting f.count (Some x) f.groups g)).kind;
}
  where
    now : ℕ → Option Group
    now = put f.count (Some x) f.groups

    objs : ℕ → ℕ
    objs = put f.count o obj

    isnt_count : (g : ℕ) (y : Group) → f.groups g ≡ Some y → g ≢ f.count
    isnt_count g y e i = let w = fit.sits.within g y e in omega (arith, w, i)

    live : (g : ℕ) (y : Group) → f.groups g ≡ Some y → put f.count (Some x) f.groups g ≡ Some y
    live g y e = put_other f.count (Some x) f.groups g (isnt_count g y e) ∙ e

    carries : Carries h obj f.groups fresh h (put f.count o obj) (put f.count (Some x) f.groups) fresh (λ g. false)
    carries = record {
      live = λ g y e. (y, live g y e);
      same = λ g y e. put_other f.count o obj g (isnt_count g y e);
      heard = λ g y label e d a. ⊎_map g y label e a;
    }
      where
        ⊎_map : (g : ℕ) (y : Group) (label : Name) → f.groups g ≡ Some y → (fresh g ≡ true) ⊎ ((h (obj g)).answer ≡ Some label) →
            (fresh g ≡ true) ⊎ ((h (put f.count o obj g)).answer ≡ Some label)
        ⊎_map g y label e (inl s) = inl s
        ⊎_map g y label e (inr a) = inr (ap (λ (k : ℕ). (h k).answer) (put_other f.count o obj g (isnt_count g y e)) ∙ a)

    m : Fits h (put f.count o obj) (put f.count (Some x) f.groups) fresh f.shape t
    m = carried_fits h obj f.groups fresh h (put f.count o obj) (put f.count (Some x) f.groups) fresh carries f.shape t fit.fits

    within : (g : ℕ) (y : Group) → put f.count (Some x) f.groups g ≡ Some y → Put f.count (Some x) f.groups g → g < suc f.count
    within g y e (is i b p) = omega (arith, i)
    within g y e (isnt i b p) = let w = fit.sits.within g y (sym p ∙ e) in omega (arith, w)

    at_count : (g : ℕ) → g ≡ f.count → put f.count o obj g ≡ o
    at_count g i = ap (put f.count o obj) i ∙ put_same f.count o obj

    elsewhere : (g : ℕ) → g ≢ f.count → put f.count o obj g ≡ obj g
    elsewhere g i = put_other f.count o obj g i

    sits : (g : ℕ) (y : Group) → put f.count (Some x) f.groups g ≡ Some y → Put f.count (Some x) f.groups g →
        (g < held) × (put f.count o obj g ≡ hold g) ⊎ (held ≤ g) × (mark ≤ put f.count o obj g)
    sits g y e (is i b p) =
        let w = held_within obj held hold mark n f.groups f.count fit.sits in
        inr (omega (arith, w, i), subst (λ k. mark ≤ k) (sym (at_count g i)) above)
    sits g y e (isnt i b p) =
        subst (λ k. (g < held) × (k ≡ hold g) ⊎ (held ≤ g) × (mark ≤ k)) (sym (elsewhere g i)) (fit.sits.sits g y (sym p ∙ e))

    bounded : (g : ℕ) (y : Group) → put f.count (Some x) f.groups g ≡ Some y → Put f.count (Some x) f.groups g → put f.count o obj g < n
    bounded g y e (is i b p) = subst (λ k. k < n) (sym (at_count g i)) below
    bounded g y e (isnt i b p) = subst (λ k. k < n) (sym (elsewhere g i)) (fit.sits.bounded g y (sym p ∙ e))

    apart : (a b : ℕ) (y z : Group) → put f.count (Some x) f.groups a ≡ Some y → put f.count (Some x) f.groups b ≡ Some z →
        put f.count o obj a ≡ put f.count o obj b → Put f.count (Some x) f.groups a → Put f.count (Some x) f.groups b → a ≡ b
    apart a b y z d e i (is j bj p) (is k bk q) = j ∙ sym k
    apart a b y z d e i (is j bj p) (isnt k bk q) = absurd (new b z (sym q ∙ e) (sym (elsewhere b k) ∙ sym i ∙ at_count a j))
    apart a b y z d e i (isnt j bj p) (is k bk q) = absurd (new a y (sym p ∙ d) (sym (elsewhere a j) ∙ i ∙ at_count b k))
    apart a b y z d e i (isnt j bj p) (isnt k bk q) =
        fit.sits.apart a b y z (sym p ∙ d) (sym q ∙ e) (sym (elsewhere a j) ∙ i ∙ elsewhere b k)

    agree : (g : ℕ) (y : Group) → put f.count (Some x) f.groups g ≡ Some y → Put f.count (Some x) f.groups g →
        Accords y (h (put f.count o obj g))
    agree g y e (is i b p) =
        subst (λ k. Accords y (h k)) (sym (at_count g i)) (subst (λ z. Accords z (h o)) (some_is (sym p ∙ e)) accords)
    agree g y e (isnt i b p) = subst (λ k. Accords y (h k)) (sym (elsewhere g i)) (or_none g (fit.agrees g y (sym p ∙ e)))

-- ---- groups numbered anew

pub plainly : {b : BareOf} {v : Value} → reached.is_plain b ≡ true → Bears b v → Bears Other v
plainly p (laws.other l) = laws.other l
plainly p (laws.lost l) = laws.other l
plainly p laws.bit = laws.other refl
plainly p laws.null = absurd (true≢false (sym p))
plainly p laws.again = absurd (true≢false (sym p))
plainly p laws.another = absurd (true≢false (sym p))
plainly p laws.map = laws.other refl
plainly p laws.constant = laws.other refl

pub stood : (h : ℕ → Thing) (obj : ℕ → ℕ) (groups groups' : ℕ → Option Group) (old : ℕ → ℕ) (a b : Known) (c : Value) →
    Stands old groups' a b → Says h obj groups fresh b c → Says h (λ k. obj (old k)) groups' fresh a c
stood h obj groups groups' old a b c reached.bare (bare r) = bare r
stood h obj groups groups' old a b c (reached.coarser p) (bare r) = bare (plainly p r)
stood h obj groups groups' old a b c (reached.object x e) (object y d i) = object x e i
stood h obj groups groups' old a b c (reached.answer x e) (answer y d i) = answer x e i
stood h obj groups groups' old a b c reached.forgotten (answer y d i) = bare (laws.other refl)

pub renamed : (h : ℕ → Thing) (obj : ℕ → ℕ) (held : ℕ) (hold : ℕ → ℕ) (mark n : ℕ) (f g : Sight) (t : Shape Value) →
    (r : Renames held f g) →
    Fit h obj fresh held hold mark n f t → Fit h (λ a. obj (r.old a)) fresh held hold mark n g t
renamed h obj held hold mark n f g t r fit = record {
  fits = record {
    locals = both_over (Stands r.old g.groups) (Says h obj f.groups fresh) (Says h objs g.groups fresh)
        (stood h obj f.groups g.groups r.old) r.locals fit.fits.locals;
    operands = both_over (Stands r.old g.groups) (Says h obj f.groups fresh) (Says h objs g.groups fresh)
        (stood h obj f.groups g.groups r.old) r.operands fit.fits.operands;
  };
  sits = record {
    within = r.within;
    sits = λ a x e. sits a x e (fit.sits.sits (r.old a) x (r.live a x e)) (or_more held a);
    bounded = λ a x e. fit.sits.bounded (r.old a) x (r.live a x e);
    apart = λ a b x y d e i. r.apart a b x y d e (fit.sits.apart (r.old a) (r.old b) x y (r.live a x d) (r.live b y e) i);
    holds = λ a less. let k = fit.sits.holds a less in (k.0, r.all a k.0 less k.1);
  };
  agrees = λ a x e. fit.agrees (r.old a) x (r.live a x e);
  kinds = λ a x e. fit.kinds (r.old a) x (r.live a x e);
}
  where
    objs : ℕ → ℕ
    objs = λ a. obj (r.old a)

    or_more : (m a : ℕ) → (a < m) ⊎ (m ≤ a)
    or_more m a = Rattle.insp_rules.proofs.Lists.below_or_not a m

    sits : (a : ℕ) (x : Group) → g.groups a ≡ Some x →
        (r.old a < held) × (obj (r.old a) ≡ hold (r.old a)) ⊎ (held ≤ r.old a) × (mark ≤ obj (r.old a)) → (a < held) ⊎ (held ≤ a) →
        (a < held) × (obj (r.old a) ≡ hold a) ⊎ (held ≤ a) × (mark ≤ obj (r.old a))
    sits a x e (inl s) (inl less) = inl (less, s.1 ∙ ap hold (r.stay a less))
    sits a x e (inl s) (inr over) = let w = r.above a x e over in let l = s.0 in absurd (omega (arith, w, l))
    sits a x e (inr s) (inl less) = let i = r.stay a less in let l = s.0 in absurd (omega (arith, i, l, less))
    sits a x e (inr s) (inr over) = inr (over, s.1)
