-- Numbering groups by the first place that has them is a way to number them.
use Rattle.std.proofs.Common.{◌≡◌, ◌⊎◌, inl, inr, ℕ, zero, suc, ◌<◌, ◌≤◌, Bool, true, false, true≢false, List, [], ◌∷◌, Option, Some, None}
use Rattle.std.proofs.Common.{refl, sym, ap, ◌∙◌, subst, arith, is_some}
use Rattle.std.specs.Prelude.{◌==◌, if◌then◌else◌}
use Rattle.std.proofs.lemmas.Bool.Decides.{eqb_tells}
use Rattle.insp_rules.specs.Program.{Form, Bare as BareOf, Other, Bit, Null, Lost, Alias, Map, Constant, nth}
use Rattle.insp_rules.specs.Frames.{Known, Bare, Object, Answer, Group, Sight, known_among, has_group}
use Rattle.insp_rules.specs.Reached.{Both, none, more, Stands, Context, Renames, Takes, Numbering, IsWhole, back}
use Rattle.insp_rules.specs.Reached as reached
use Rattle.insp_rules.specs.Skeleton.{listed}
use Rattle.insp_rules.specs.Frames.{is_below}
use Rattle.insp_rules.specs.Numbers.{size, snoc, put_in, gather, up_to, spot, only_if, numbered_groups, number_all, coarse, order, is_bit}
use Rattle.insp_rules.specs.Numbers.{is_local, has_object, drops_in}
use Rattle.insp_rules.specs.Numbers.{tells, canonical, context_of, CanonicalNumbers}
use Rattle.insp_rules.proofs.Lists.{none_some, is_same, below_or_not, below_is, is_below_is}
use Rattle.insp_rules.proofs.Backs.{Tells}

either : (a b : Bool) → (if a then true else b) ≡ true → (a ≡ true) ⊎ (b ≡ true)
either true b e = inl refl
either false b e = inr e

or_right : (a b : Bool) → b ≡ true → (if a then true else b) ≡ true
or_right true b e = refl
or_right false b e = e

or_left : (a b : Bool) → a ≡ true → (if a then true else b) ≡ true
or_left true b e = refl
or_left false b e = absurd (true≢false (sym e))

-- ---- lists of groups, each once

abbrev Once : List ℕ → Type 0
Once xs = (i j : ℕ) → i < size xs → j < size xs → nth 0 xs i ≡ nth 0 xs j → i ≡ j

spot_within : (g : ℕ) (xs : List ℕ) → listed g xs ≡ true → (spot g xs < size xs) × (nth 0 xs (spot g xs) ≡ g)
spot_within g [] e = absurd (true≢false (sym e))
spot_within g (a ∷ xs) e = go (eqb_tells a g) (a == g) refl e (spot_within g xs)
  where
    go : Tells a g → (b : Bool) → (a == g) ≡ b → (if b then true else listed g xs) ≡ true →
        (listed g xs ≡ true → (spot g xs < size xs) × (nth 0 xs (spot g xs) ≡ g)) →
        ((if a == g then zero else suc (spot g xs)) < suc (size xs)) × (nth 0 (a ∷ xs) (if a == g then zero else suc (spot g xs)) ≡ g)
    go (inl t) b q e f =
        subst (λ (c : Bool). ((if c then zero else suc (spot g xs)) < suc (size xs)) ×
        (nth 0 (a ∷ xs) (if c then zero else suc (spot g xs)) ≡ g))
        (sym t.0) (omega arith, t.1)
    go (inr t) true q e f = absurd (true≢false (sym q ∙ t.0))
    go (inr t) false q e f =
        let z = f e in
        let less = z.0 in
        subst (λ (c : Bool). ((if c then zero else suc (spot g xs)) < suc (size xs)) ×
        (nth 0 (a ∷ xs) (if c then zero else suc (spot g xs)) ≡ g))
        (sym t.0) (omega (arith, less), z.1)

nth_listed : (i : ℕ) (xs : List ℕ) → i < size xs → listed (nth 0 xs i) xs ≡ true
nth_listed i [] less = absurd (omega (arith, less))
nth_listed zero (a ∷ xs) less = or_left (a == a) (listed a xs) (is_same a)
nth_listed (suc i) (a ∷ xs) less = or_right (a == nth 0 xs i) (listed (nth 0 xs i) xs) (nth_listed i xs (omega (arith, less)))

snoc_size : (xs : List ℕ) (g : ℕ) → size (snoc xs g) ≡ suc (size xs)
snoc_size [] g = refl
snoc_size (a ∷ xs) g = ap suc (snoc_size xs g)

snoc_before : (xs : List ℕ) (g i : ℕ) → i < size xs → nth 0 (snoc xs g) i ≡ nth 0 xs i
snoc_before [] g i less = absurd (omega (arith, less))
snoc_before (a ∷ xs) g zero less = refl
snoc_before (a ∷ xs) g (suc i) less = snoc_before xs g i (omega (arith, less))

snoc_last : (xs : List ℕ) (g : ℕ) → nth 0 (snoc xs g) (size xs) ≡ g
snoc_last [] g = refl
snoc_last (a ∷ xs) g = snoc_last xs g

snoc_listed : (xs : List ℕ) (a g : ℕ) → listed g (snoc xs a) ≡ (if listed g xs then true else (if a == g then true else false))
snoc_listed [] a g = refl
snoc_listed (b ∷ xs) a g = go (b == g) (snoc_listed xs a g)
  where
    go : (t : Bool) → listed g (snoc xs a) ≡ (if listed g xs then true else (if a == g then true else false)) →
        (if t then true else listed g (snoc xs a)) ≡ (if (if t then true else listed g xs) then true else (if a == g then true else false))
    go true e = refl
    go false e = e

snoc_once : (xs : List ℕ) (g : ℕ) → listed g xs ≡ false → Once xs → Once (snoc xs g)
snoc_once xs g e once i j l k q = go (below_or_not i (size xs)) (below_or_not j (size xs))
  where
    at_end : (i : ℕ) → i < size (snoc xs g) → size xs ≤ i → i ≡ size xs
    at_end i l over = let s = snoc_size xs g in omega (arith, l, over, s)

    ends : (i : ℕ) → i ≡ size xs → nth 0 (snoc xs g) i ≡ g
    ends i s = ap (nth 0 (snoc xs g)) s ∙ snoc_last xs g

    not_both : (i : ℕ) → i < size xs → nth 0 xs i ≡ g → ⊥
    not_both i l q = true≢false (sym (ap (λ a. listed a xs) (sym q) ∙ nth_listed i xs l) ∙ e)

    go : (i < size xs) ⊎ (size xs ≤ i) → (j < size xs) ⊎ (size xs ≤ j) → i ≡ j
    go (inl a) (inl b) = once i j a b (sym (snoc_before xs g i a) ∙ q ∙ snoc_before xs g j b)
    go (inl a) (inr b) = absurd (not_both i a (sym (snoc_before xs g i a) ∙ q ∙ ends j (at_end j k b)))
    go (inr a) (inl b) = absurd (not_both j b (sym (snoc_before xs g j b) ∙ sym q ∙ ends i (at_end i l a)))
    go (inr a) (inr b) = at_end i l a ∙ sym (at_end j k b)

-- one more, where it isn't there
module _ (os : List ℕ) (g : ℕ) where
  put_once : (b : Bool) → listed g os ≡ b → Once os → Once (put_in b os g)
  put_once true e once = once
  put_once false e once = snoc_once os g e once

  put_listed : (b : Bool) → listed g os ≡ b → (a : ℕ) → listed a (put_in b os g) ≡
      (if listed a os then true else (if g == a then true else false))
  put_listed false e a = snoc_listed os g a
  put_listed true e a = go (eqb_tells g a) (listed a os) refl
    where
      go : Tells g a → (b : Bool) → listed a os ≡ b → listed a os ≡ (if listed a os then true else (if g == a then true else false))
      go (inl t) b q =
          let l : listed a os ≡ true = ap (λ c. listed c os) (sym t.1) ∙ e in
          l ∙ sym (ap (λ (c : Bool). if c then true else (if g == a then true else false)) l)
      go (inr t) true q = q ∙ sym (ap (λ (c : Bool). if c then true else (if g == a then true else false)) q)
      go (inr t) false q =
          q ∙ sym (ap (λ (c : Bool). if c then true else (if g == a then true else false)) q
          ∙ ap (λ (c : Bool). if c then true else false) t.0)

  put_size : (b : Bool) → size os ≤ size (put_in b os g)
  put_size true = omega arith
  put_size false = let s = snoc_size os g in omega (arith, s)

  put_before : (b : Bool) (i : ℕ) → i < size os → nth 0 (put_in b os g) i ≡ nth 0 os i
  put_before true i less = refl
  put_before false i less = snoc_before os g i less

gather_once : (os : List ℕ) (xs : List Known) → Once os → Once (gather os xs)
gather_once os [] once = once
gather_once os (Bare b ∷ xs) once = gather_once os xs once
gather_once os (Answer g form ∷ xs) once = gather_once os xs once
gather_once os (Object g ∷ xs) once = gather_once (put_in (listed g os) os g) xs (put_once os g (listed g os) refl once)

or_assoc : (a b c : Bool) → (if (if a then true else (if b then true else false)) then true else c) ≡
    (if a then true else (if b then true else c))
or_assoc true b c = refl
or_assoc false true c = refl
or_assoc false false c = refl

gather_listed : (os : List ℕ) (xs : List Known) (a : ℕ) → listed a (gather os xs) ≡ (if listed a os then true else known_among a xs)
gather_listed os [] a = go (listed a os)
  where
    go : (b : Bool) → b ≡ (if b then true else false)
    go true = refl
    go false = refl
gather_listed os (Bare b ∷ xs) a = gather_listed os xs a
gather_listed os (Answer g form ∷ xs) a = gather_listed os xs a
gather_listed os (Object g ∷ xs) a =
    gather_listed (put_in (listed g os) os g) xs a
    ∙ ap (λ (b : Bool). if b then true else known_among a xs) (put_listed os g (listed g os) refl a)
    ∙ or_assoc (listed a os) (g == a) (known_among a xs)

gather_before : (os : List ℕ) (xs : List Known) (i : ℕ) → i < size os → (nth 0 (gather os xs) i ≡ nth 0 os i) × (i < size (gather os xs))
gather_before os [] i less = (refl, less)
gather_before os (Bare b ∷ xs) i less = gather_before os xs i less
gather_before os (Answer g form ∷ xs) i less = gather_before os xs i less
gather_before os (Object g ∷ xs) i less =
    let s = put_size os g (listed g os) in
    let z = gather_before (put_in (listed g os) os g) xs i (omega (arith, less, s)) in
    (z.0 ∙ put_before os g (listed g os) i less, z.1)

up_to_size : (n : ℕ) → size (up_to n) ≡ n
up_to_size zero = refl
up_to_size (suc n) = snoc_size (up_to n) n ∙ ap suc (up_to_size n)

up_to_is : (n i : ℕ) → i < n → nth 0 (up_to n) i ≡ i
up_to_is zero i less = absurd (omega (arith, less))
up_to_is (suc n) i less = go (below_or_not i n) (up_to_is n i)
  where
    go : (i < n) ⊎ (n ≤ i) → (i < n → nth 0 (up_to n) i ≡ i) → nth 0 (snoc (up_to n) n) i ≡ i
    go (inl l) f = snoc_before (up_to n) n i (let s = up_to_size n in omega (arith, l, s)) ∙ f l
    go (inr l) f =
        let s = up_to_size n in
        let e : i ≡ size (up_to n) = omega (arith, less, l, s) in
        ap (nth 0 (snoc (up_to n) n)) e ∙ snoc_last (up_to n) n ∙ sym s ∙ sym e

up_to_once : (n : ℕ) → Once (up_to n)
up_to_once n i j l k q =
    let s = up_to_size n in
    sym (up_to_is n i (omega (arith, l, s))) ∙ q ∙ up_to_is n j (omega (arith, k, s))

-- ---- groups with new numbers

module _ (os : List ℕ) (once : Once os) (groups : ℕ → Option Group) where
  now_is : (i : ℕ) (x : Group) → i < size os → groups (nth 0 os i) ≡ Some x → numbered_groups os groups i ≡ Some x
  now_is i x less e = ap (λ (b : Bool). only_if b (groups (nth 0 os i))) (is_below_is (size os) i less) ∙ e

  now_was : (i : ℕ) (x : Group) → numbered_groups os groups i ≡ Some x → (i < size os) × (groups (nth 0 os i) ≡ Some x)
  now_was i x e = go (is_below (size os) i) refl e
    where
      go : (b : Bool) → is_below (size os) i ≡ b → only_if b (groups (nth 0 os i)) ≡ Some x → (i < size os) × (groups (nth 0 os i) ≡ Some x)
      go true s e = (below_is (size os) i s, e)
      go false s e = none_some e

  spot_is : (i : ℕ) → i < size os → spot (nth 0 os i) os ≡ i
  spot_is i less = let z = spot_within (nth 0 os i) os (nth_listed i os less) in once (spot (nth 0 os i) os) i z.0 less z.1

  -- an object at a place
  object_stands : (a : ℕ) (x : Group) → listed a os ≡ true → groups a ≡ Some x →
      Stands (nth 0 os) (numbered_groups os groups) (Object (spot a os)) (Object a)
  object_stands a x l e =
      let z = spot_within a os l in
      subst (λ b. Stands (nth 0 os) (numbered_groups os groups) (Object (spot a os)) (Object b)) z.1
      (reached.object x (now_is (spot a os) x z.0 (ap groups z.1 ∙ e)))

  answer_stands : (these : ℕ → Bool) → ((g : ℕ) → these g ≡ true → (listed g os ≡ true) × ((x : Group) × (groups g ≡ Some x))) →
      (a : ℕ) (form : Form) →
      Stands (nth 0 os) (numbered_groups os groups) (if these a then Answer (spot a os) form else Bare Other) (Answer a form)
  answer_stands these f a form = go (these a) refl
    where
      go : (b : Bool) → these a ≡ b → Stands (nth 0 os) (numbered_groups os groups) (if b then Answer (spot a os) form else Bare Other)
          (Answer a form)
      go false e = reached.forgotten
      go true e =
          let l = f a e in
          let z = spot_within a os l.0 in
          subst (λ b. Stands (nth 0 os) (numbered_groups os groups) (Answer (spot a os) form) (Answer b form)) z.1
          (reached.answer l.1.0 (now_is (spot a os) l.1.0 z.0 (ap groups z.1 ∙ l.1.1)))

  bare_stands : (drops : BareOf → Bool) → ((b : BareOf) → drops b ≡ true → reached.is_plain b ≡ true) → (b : BareOf) →
      Stands (nth 0 os) (numbered_groups os groups) (Bare (coarse drops b)) (Bare b)
  bare_stands drops p b = go (drops b) refl
    where
      go : (t : Bool) → drops b ≡ t → Stands (nth 0 os) (numbered_groups os groups) (Bare (if t then Other else b)) (Bare b)
      go true e = reached.coarser (p b e)
      go false e = reached.bare

  all_stand : (these : ℕ → Bool) → (drops : BareOf → Bool) → ((b : BareOf) → drops b ≡ true → reached.is_plain b ≡ true) →
      ((g : ℕ) → these g ≡ true → (listed g os ≡ true) × ((x : Group) × (groups g ≡ Some x))) →
      (xs : List Known) → ((g : ℕ) → known_among g xs ≡ true → (listed g os ≡ true) × ((x : Group) × (groups g ≡ Some x))) →
      Both (Stands (nth 0 os) (numbered_groups os groups)) (number_all these drops os xs) xs
  all_stand these drops p f [] k = none
  all_stand these drops p f (Bare b ∷ xs) k = more (bare_stands drops p b) (all_stand these drops p f xs k)
  all_stand these drops p f (Answer a form ∷ xs) k = more (answer_stands these f a form) (all_stand these drops p f xs k)
  all_stand these drops p f (Object a ∷ xs) k =
      let z = k a (or_left (a == a) (known_among a xs) (is_same a)) in
      more (object_stands a z.1.0 z.0 z.1.1) (all_stand these drops p f xs (λ g e. k g (or_right (a == g) (known_among g xs) e)))

  -- what was known is known by the new number
  known_now : (these : ℕ → Bool) (drops : BareOf → Bool) (i : ℕ) → i < size os → (xs : List Known) → known_among (nth 0 os i) xs ≡ true →
      known_among i (number_all these drops os xs) ≡ true
  known_now these drops i less [] e = absurd (true≢false (sym e))
  known_now these drops i less (Bare b ∷ xs) e = known_now these drops i less xs e
  known_now these drops i less (Answer a form ∷ xs) e = go (these a) (known_now these drops i less xs e)
    where
      go : (b : Bool) → known_among i (number_all these drops os xs) ≡ true →
          known_among i ((if b then Answer (spot a os) form else Bare Other) ∷ number_all these drops os xs) ≡ true
      go true e = e
      go false e = e
  known_now these drops i less (Object a ∷ xs) e = go (eqb_tells a (nth 0 os i)) (a == nth 0 os i) refl e (known_now these drops i less xs)
    where
      go : Tells a (nth 0 os i) → (b : Bool) → (a == nth 0 os i) ≡ b → (if b then true else known_among (nth 0 os i) xs) ≡ true →
          (known_among (nth 0 os i) xs ≡ true → known_among i (number_all these drops os xs) ≡ true) →
          (if spot a os == i then true else known_among i (number_all these drops os xs)) ≡ true
      go (inl t) b q e f =
          let s : spot a os ≡ i = ap (λ c. spot c os) t.1 ∙ spot_is i less in
          or_left (spot a os == i) (known_among i (number_all these drops os xs)) (ap (λ c. c == i) s ∙ is_same i)
      go (inr t) true q e f = absurd (true≢false (sym q ∙ t.0))
      go (inr t) false q e f = or_right (spot a os == i) (known_among i (number_all these drops os xs)) (f e)

-- ---- what becomes Other

bit_plain : (b : BareOf) → is_bit b ≡ true → reached.is_plain b ≡ true
bit_plain (Bit c) e = refl
bit_plain Other e = refl
bit_plain (Map m class) e = refl
bit_plain (Constant class label) e = refl
bit_plain Null e = absurd (true≢false (sym e))
bit_plain Lost e = absurd (true≢false (sym e))
bit_plain (Alias t) e = absurd (true≢false (sym e))

drop_bits : (f : Sight) (b : BareOf) → drops_in f b ≡ true → reached.is_plain b ≡ true
drop_bits f b e = go (has_object f.shape.locals) (has_object f.shape.operands) e
  where
    go : (s t : Bool) → (if s then false else (if t then false else is_bit b)) ≡ true → reached.is_plain b ≡ true
    go true t e = absurd (true≢false (sym e))
    go false true e = absurd (true≢false (sym e))
    go false false e = bit_plain b e

drop_local : (b : BareOf) → is_local b ≡ true → reached.is_plain b ≡ true
drop_local (Bit c) e = refl
drop_local Other e = refl
drop_local (Map m class) e = refl
drop_local (Constant class label) e = refl
drop_local Null e = absurd (true≢false (sym e))
drop_local Lost e = absurd (true≢false (sym e))
drop_local (Alias t) e = absurd (true≢false (sym e))

-- ---- frames

module _ (held : ℕ) (f : Sight) (whole : IsWhole f) where
  all_once : Once (order held f)
  all_once = gather_once (gather (up_to held) f.shape.locals) f.shape.operands (gather_once (up_to held) f.shape.locals (up_to_once held))

  order_listed : (a : ℕ) → listed a (order held f) ≡
      (if (if listed a (up_to held) then true else known_among a f.shape.locals) then true else known_among a f.shape.operands)
  order_listed a =
      gather_listed (gather (up_to held) f.shape.locals) f.shape.operands a
      ∙ ap (λ (b : Bool). if b then true else known_among a f.shape.operands) (gather_listed (up_to held) f.shape.locals a)

  held_first : (i : ℕ) → i < held → (nth 0 (order held f) i ≡ i) × (i < size (order held f))
  held_first i less =
      let s = up_to_size held in
      let y = gather_before (up_to held) f.shape.locals i (omega (arith, less, s)) in
      let z = gather_before (gather (up_to held) f.shape.locals) f.shape.operands i y.1 in
      (z.0 ∙ y.0 ∙ up_to_is held i less, z.1)

  above : (a : ℕ) → a < size (order held f) → held ≤ a → held ≤ nth 0 (order held f) a
  above a less over = go (below_or_not (nth 0 (order held f) a) held)
    where
      go : (nth 0 (order held f) a < held) ⊎ (held ≤ nth 0 (order held f) a) → held ≤ nth 0 (order held f) a
      go (inr l) = l
      go (inl l) =
          let z = held_first (nth 0 (order held f) a) l in
          let e = all_once (nth 0 (order held f) a) a z.1 less z.0 in
          absurd (omega (arith, e, l, over))

  not_up_to : (n g : ℕ) → n ≤ g → listed g (up_to n) ≡ false
  not_up_to n g over = go (listed g (up_to n)) refl
    where
      go : (b : Bool) → listed g (up_to n) ≡ b → listed g (up_to n) ≡ false
      go false e = e
      go true e =
          let z = spot_within g (up_to n) e in
          let l = z.0 in
          let s = up_to_size n in
          let q = up_to_is n (spot g (up_to n)) (omega (arith, l, s)) in
          let r = z.1 in
          absurd (omega (arith, q, r, l, s, over))

  at_places : (g : ℕ) → has_group g f.shape ≡ true → (listed g (order held f) ≡ true) × ((x : Group) × (f.groups g ≡ Some x))
  at_places g e = (order_listed g ∙ go (listed g (up_to held)) (known_among g f.shape.locals) e, whole.live g e)
    where
      go : (a b : Bool) → (if b then true else known_among g f.shape.operands) ≡ true →
          (if (if a then true else b) then true else known_among g f.shape.operands) ≡ true
      go true b e = refl
      go false b e = e

  told : (g : ℕ) → tells (order held f) f.groups g ≡ true → (listed g (order held f) ≡ true) × ((x : Group) × (f.groups g ≡ Some x))
  told g e = go (listed g (order held f)) refl (f.groups g) refl e
    where
      go : (b : Bool) → listed g (order held f) ≡ b → (o : Option Group) → f.groups g ≡ o → (if b then is_some o else false) ≡ true →
          (listed g (order held f) ≡ true) × ((x : Group) × (f.groups g ≡ Some x))
      go false l o d e = absurd (true≢false (sym e))
      go true l None d e = absurd (true≢false (sym e))
      go true l (Some x) d e = (l, (x, d))

  pub canonical_renames : Renames held f (canonical held f)
  canonical_renames = record {
    old = nth 0 (order held f);
    locals = all_stand (order held f) all_once f.groups (tells (order held f) f.groups) (drops_in f) (drop_bits f) told f.shape.locals
        (λ g e. at_places g (or_left (known_among g f.shape.locals) (known_among g f.shape.operands) e));
    operands = all_stand (order held f) all_once f.groups (tells (order held f) f.groups) (drops_in f) (drop_bits f) told f.shape.operands
        (λ g e. at_places g (or_right (known_among g f.shape.locals) (known_among g f.shape.operands) e));
    live = λ a x e. (now_was (order held f) all_once f.groups a x e).1;
    within = λ a x e. (now_was (order held f) all_once f.groups a x e).0;
    apart = λ a b x y d e q.
        all_once a b (now_was (order held f) all_once f.groups a x d).0 (now_was (order held f) all_once f.groups b y e).0 q;
    stay = λ a less. (held_first a less).0;
    all = λ a x less e. let z = held_first a less in now_is (order held f) all_once f.groups a x z.1 (ap f.groups z.0 ∙ e);
    above = λ a x e over. above a (now_was (order held f) all_once f.groups a x e).0 over;
    had = λ a x e over. named a (now_was (order held f) all_once f.groups a x e).0 over;
  }
    where
      named : (a : ℕ) → a < size (order held f) → held ≤ a → has_group a (canonical held f).shape ≡ true
      named a less over =
          go (known_among (nth 0 (order held f) a) f.shape.locals) refl (sym listed_there ∙ nth_listed a (order held f) less)
        where
          listed_there : listed (nth 0 (order held f) a) (order held f) ≡
              (if known_among (nth 0 (order held f) a) f.shape.locals then true else known_among (nth 0 (order held f) a) f.shape.operands)
          listed_there =
              order_listed (nth 0 (order held f) a)
              ∙ ap (λ (b : Bool). if (if b then true else known_among (nth 0 (order held f) a) f.shape.locals) then true else
              known_among (nth 0 (order held f) a) f.shape.operands) (not_up_to held (nth 0 (order held f) a) (above a less over))

          go : (b : Bool) → known_among (nth 0 (order held f) a) f.shape.locals ≡ b →
              (if known_among (nth 0 (order held f) a) f.shape.locals then true else known_among
              (nth 0 (order held f) a) f.shape.operands) ≡ true →
              has_group a (canonical held f).shape ≡ true
          go true k e =
              or_left (known_among a (number_all (tells (order held f) f.groups) (drops_in f) (order held f) f.shape.locals))
              (known_among a (number_all (tells (order held f) f.groups) (drops_in f) (order held f) f.shape.operands))
              (known_now (order held f) all_once f.groups (tells (order held f) f.groups) (drops_in f) a less f.shape.locals k)
          go false k e =
              or_right (known_among a (number_all (tells (order held f) f.groups) (drops_in f) (order held f) f.shape.locals))
              (known_among a (number_all (tells (order held f) f.groups) (drops_in f) (order held f) f.shape.operands))
              (known_now (order held f) all_once f.groups (tells (order held f) f.groups) (drops_in f) a less f.shape.operands
              (sym (ap (λ (b : Bool). if b then true else known_among (nth 0 (order held f) a) f.shape.operands) k) ∙ e))

-- ---- contexts

none_once : Once []
none_once i j l k q = absurd (omega (arith, l))

pub context_takes : (method : ℕ) (args : List Known) (f : Sight) → ((g : ℕ) → known_among g args ≡ true →
    (x : Group) × (f.groups g ≡ Some x)) →
    Takes method args f (context_of method args f)
context_takes method args f live = record {
  is = refl;
  old = nth 0 (gather [] args);
  arguments = all_stand (gather [] args) once f.groups (λ g. false) is_local drop_local (λ g e. absurd (true≢false (sym e))) args
      (λ g e. (gather_listed [] args g ∙ e, live g e));
  live = λ a x e. (now_was (gather [] args) once f.groups a x e).1;
  within = λ a x e. (now_was (gather [] args) once f.groups a x e).0;
  all = λ a less. let x = live (nth 0 (gather [] args) a) (handed a less) in (x.0, now_is (gather [] args) once f.groups a x.0 less x.1);
  apart = λ a b l k q. once a b l k q;
  handed = handed;
}
  where
    once : Once (gather [] args)
    once = gather_once [] args none_once

    handed : (a : ℕ) → a < size (gather [] args) → known_among (nth 0 (gather [] args) a) args ≡ true
    handed a less = sym (gather_listed [] args (nth 0 (gather [] args) a)) ∙ nth_listed a (gather [] args) less

abbrev pub numbering : Numbering
numbering = record { tidy = canonical; renames = canonical_renames; context = context_of; takes = context_takes }

pub canonical_numbers : CanonicalNumbers
canonical_numbers = record { numbering = numbering; frames = λ held f. refl; contexts = λ method args f. refl }
