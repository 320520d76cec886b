-- Classes are counted by their names: one that is counted once is alone with its name.
use Rattle.std.proofs.Common.{◌≡◌, ℕ, zero, suc, ◌+◌, ◌<◌, ◌≤◌, ◌⊎◌, inl, inr, Bool, true, false, not, ◌&&◌, List, [], ◌∷◌, ◌++◌, length}
use Rattle.std.proofs.Common.{take, drop, get_or, position, Option, Some, refl, sym, ap, ap₂, subst, ◌∙◌, arith}
use Rattle.std.specs.Prelude.{if◌then◌else◌, slice_get, ◌==◌, replicate}
use Rattle.std.specs.Str.{bytes_eq}
use Rattle.std.specs.List.{list_any}
use Rattle.std.proofs.lemmas.Bool.{and_parts, or_left, or_right, cases_lt, true≢false}
use Rattle.std.proofs.lemmas.Bool.Decides.{nat_tests}
use Rattle.std.proofs.lemmas.List.{append-nil, drop_all, take_all}
use Rattle.std.proofs.lemmas.Slice.Eq.{bytes_eq-Decides}
use Rattle.mg_text.specs.Call.{Name}
use Rattle.vm_model.specs.Program.{Program, ClassOf, class_name, name_in}
use Rattle.vm_model.specs.Linked.{is_built_in, is_class, class_names}
use Rattle.cls_verify.specs.Rows.{IsOwn}
use Rattle.cls_table.specs.declared.classes.ClassKinds.{ClassKinds}
use Rattle.cls_table.specs.declared.classes.ProgramKinds.{ProgramKinds}
use Rattle.cls_table.specs.Known.{IsKnown, KnowsNames}
use Rattle.cls_table.specs.Counted.{times, IsCount, AreCounted}
use Rattle.cls_table.specs.Tables.{IsClass, IsCountedOne, AreClasses, AreKinds}
use Rattle.cls_table.proofs.Tabled.{found}

abbrev counted_as : Bool → ℕ
counted_as b = if b then 1 else 0

once : (name : Name) (c : ClassOf) → bytes_eq name c.name ≡ true → ◌≡◌ {A = ℕ} (if bytes_eq name c.name then 1 else 0) 1
once name c e = ap counted_as e

not_once : (name : Name) (c : ClassOf) → bytes_eq name c.name ≡ false → ◌≡◌ {A = ℕ} (if bytes_eq name c.name then 1 else 0) 0
not_once name c e = ap counted_as e

pub times_more : (p : Program) (c : ClassOf) (name : Name) → times (p ++ c ∷ []) name ≡ times p name +
    (if bytes_eq name c.name then 1 else 0)
times_more [] c name = go (bytes_eq name c.name)
  where
    go : (b : Bool) → counted_as b + 0 ≡ 0 + counted_as b
    go true = refl
    go false = refl
times_more (d ∷ p) c name =
    let h = times_more p c name in omega (arith, h)

-- What counting one more does to counts.
pub count_more : (names : List Name) (p : Program) (c : ClassOf) (old new : List ℕ) (number : ℕ) → AreCounted names p old →
    position (bytes_eq c.name) names ≡ Some number →
    ((t : ℕ) → IsCount t (get_or old number 0) → IsCount (t + 1) (get_or new number 0)) →
    ((other : ℕ) → (other ≡ number → ⊥) → get_or new other 0 ≡ get_or old other 0) →
    AreCounted names (p ++ c ∷ []) new
count_more names p c old new number h there more same name n e = go (bytes_eq name c.name) refl
  where
    go : (b : Bool) → bytes_eq name c.name ≡ b → IsCount (times (p ++ c ∷ []) name) (get_or new n 0)
    go true f =
        let is : name ≡ c.name = (bytes_eq-Decides name c.name).0 f in
        let at : n ≡ number = let s : Some n ≡ Some number = sym e ∙ ap (λ (x : Name). position (bytes_eq x) names) is ∙ there in cc s in
        let was : IsCount (times p name) (get_or old number 0) = h name number (e ∙ ap (λ (m : ℕ). Some m) at) in
        subst (λ t. IsCount t (get_or new n 0)) (sym (times_more p c name ∙ ap (λ (x : ℕ). times p name + x) (once name c f)))
        (subst (λ m. IsCount (times p name + 1) (get_or new m 0)) (sym at) (more (times p name) was))
    go false f =
        let apart : n ≡ number → ⊥ = λ s. true≢false (sym ((bytes_eq-Decides name c.name).1 (one_name n number e there s)) ∙ f) in
        subst (λ t. IsCount t (get_or new n 0)) (let m = times_more p c name in let z = not_once name c f in omega (arith, m, z))
        (subst (λ x. IsCount (times p name) x) (sym (same n apart)) (h name n e))
      where
        one_name : (i j : ℕ) → position (bytes_eq name) names ≡ Some i → position (bytes_eq c.name) names ≡ Some j → i ≡ j → name ≡ c.name
        one_name i j a b s =
            let both : Some name ≡ Some c.name = sym (found names name i a) ∙ ap (slice_get names) s ∙ found names c.name j b in cc both

-- zeros count no classes
pub none_counted : (names : List Name) (n : ℕ) → AreCounted names [] (replicate n 0)
none_counted names n name number e =
    let z : get_or (replicate n 0) number 0 ≡ 0 = zeros n number in
    record { few = λ h. sym z; many = λ h. absurd (omega (arith, z, h)) }
  where
    zeros : (k i : ℕ) → get_or (replicate {A = ℕ} k 0) i 0 ≡ 0
    zeros zero i = refl
    zeros (suc k) zero = refl
    zeros (suc k) (suc i) = zeros k i

-- a list that is written as a whole
pub written : (n : ℕ) (new old : List ℕ) → length new ≡ length old → n ≡ length old → take n (new ++ drop (length new) old) ≡ new
written n new old e f =
    ap (λ xs. take n (new ++ xs)) (drop_all (length new) old (omega (arith, e))) ∙ ap (take n) (append-nil new) ∙
    take_all n new (omega (arith, e, f))

-- Names that are counted.

none_times : (p : Program) (name : Name) → ((i : ℕ) (c : ClassOf) → slice_get p i ≡ Some c → bytes_eq name c.name ≡ true → ⊥) →
    times p name ≡ 0
none_times [] name h = refl
none_times (c ∷ p) name h = go (none_times p name (λ i d e g. h (suc i) d e g)) (bytes_eq name c.name) refl
  where
    go : times p name ≡ 0 → (b : Bool) → bytes_eq name c.name ≡ b → times (c ∷ p) name ≡ 0
    go r true f = absurd (h 0 c refl f)
    go r false f = let z = not_once name c f in omega (arith, z, r)

alone_times : (p : Program) (name : Name) (i : ℕ) (c : ClassOf) → slice_get p i ≡ Some c → bytes_eq name c.name ≡ true →
    ((j : ℕ) (d : ClassOf) → slice_get p j ≡ Some d → bytes_eq name d.name ≡ true → j ≡ i) → times p name ≡ 1
alone_times [] name i c e f h = absurd (cc e)
alone_times (d ∷ p) name zero c e f h =
    let is : d ≡ c = cc e in
    let one = once name d (ap (λ (x : ClassOf). bytes_eq name x.name) is ∙ f) in
    let rest = none_times p name (λ j b g k. let z = h (suc j) b g k in omega (arith, z)) in
    omega (arith, one, rest)
alone_times (d ∷ p) name (suc i) c e f h =
    go (alone_times p name i c e f (λ j b g l. let s = h (suc j) b g l in omega (arith, s))) (bytes_eq name d.name) refl
  where
    go : times p name ≡ 1 → (b : Bool) → bytes_eq name d.name ≡ b → times (d ∷ p) name ≡ 1
    go r true k = absurd (let z = h 0 d refl k in omega (arith, z))
    go r false k = let z = not_once name d k in omega (arith, z, r)

some_times : (p : Program) (name : Name) (i : ℕ) (c : ClassOf) → slice_get p i ≡ Some c → bytes_eq name c.name ≡ true → 1 ≤ times p name
some_times [] name i c e f = absurd (cc e)
some_times (d ∷ p) name zero c e f =
    let is : d ≡ c = cc e in
    let one = once name d (ap (λ (x : ClassOf). bytes_eq name x.name) is ∙ f) in omega (arith, one)
some_times (d ∷ p) name (suc i) c e f = let r = some_times p name i c e f in omega (arith, r)

two_times : (p : Program) (name : Name) (i j : ℕ) (c d : ClassOf) → slice_get p i ≡ Some c → bytes_eq name c.name ≡ true →
    slice_get p j ≡ Some d → bytes_eq name d.name ≡ true → i < j → 2 ≤ times p name
two_times [] name i j c d e f g h l = absurd (cc e)
two_times (x ∷ p) name i zero c d e f g h l = absurd (omega (arith, l))
two_times (x ∷ p) name zero (suc j) c d e f g h l =
    let is : x ≡ c = cc e in
    let one = once name x (ap (λ (y : ClassOf). bytes_eq name y.name) is ∙ f) in
    let r = some_times p name j d g h in omega (arith, one, r)
two_times (x ∷ p) name (suc i) (suc j) c d e f g h l = let r = two_times p name i j c d e f g h (omega (arith, l)) in omega (arith, r)

-- a class of a program, by its number
there : (p : Program) (i : ℕ) → i < length p → (c : ClassOf) × (slice_get p i ≡ Some c)
there [] i l = absurd (omega (arith, l))
there (c ∷ p) zero l = (c, refl)
there (c ∷ p) (suc i) l = there p i (omega (arith, l))

named : (p : Program) (i : ℕ) (c : ClassOf) → slice_get p i ≡ Some c → class_name p i ≡ c.name
named p i c e = ap (λ (o : Option ClassOf). name_in o) e

within : (p : Program) (i : ℕ) (c : ClassOf) → slice_get p i ≡ Some c → i < length p
within [] i c e = absurd (cc e)
within (d ∷ p) zero c e = omega arith
within (d ∷ p) (suc i) c e = let r = within p i c e in omega (arith, r)

-- one is counted exactly where a class is alone with its name
pub one_is_alone : (p : Program) (i : ℕ) (c : ClassOf) → slice_get p i ≡ Some c → is_built_in c.name ≡ false → times p c.name ≡ 1 →
    IsOwn p i
one_is_alone p i c e b one = record {
  within = within p i c e;
  own = ap is_built_in (named p i c e) ∙ b;
  alone = λ j l n. alone j l n;
}
  where
    alone : (j : ℕ) → j < length p → class_name p j ≡ class_name p i → j ≡ i
    alone j l n =
        let d = there p j l in
        let f : bytes_eq c.name d.0.name ≡ true = (bytes_eq-Decides c.name d.0.name).1 (sym (named p i c e) ∙ sym n ∙ named p j d.0 d.1) in
        let g : bytes_eq c.name c.name ≡ true = (bytes_eq-Decides c.name c.name).1 refl in
        by (cases_lt i j) (cases_lt j i) d.0 d.1 f g
      where
        by : (i < j) ⊎ (j ≤ i) → (j < i) ⊎ (i ≤ j) → (d : ClassOf) → slice_get p j ≡ Some d → bytes_eq c.name d.name ≡ true →
            bytes_eq c.name c.name ≡ true → j ≡ i
        by (inl h) x d a f g = absurd (let t = two_times p c.name i j c d e g a f h in omega (arith, t, one))
        by (inr h) (inl k) d a f g = absurd (let t = two_times p c.name j i d c a f e g k in omega (arith, t, one))
        by (inr h) (inr k) d a f g = omega (arith, h, k)

pub alone_is_one : (p : Program) (i : ℕ) (c : ClassOf) → slice_get p i ≡ Some c → IsOwn p i → times p c.name ≡ 1
alone_is_one p i c e o = alone_times p c.name i c e ((bytes_eq-Decides c.name c.name).1 refl)
    (λ j d g f. o.alone j (within p j d g) (named p j d g ∙ sym ((bytes_eq-Decides c.name d.name).0 f) ∙ sym (named p i c e)))

-- The classes of a table.

module _ (names : List Name) (counts : List ℕ) where
  pub classes_more : (cs : Program) (xs : List ClassKinds) (c : ClassOf) (x : ClassKinds) → AreClasses names counts cs xs →
      IsClass names c x →
      IsCountedOne names counts c x → AreClasses names counts (cs ++ c ∷ []) (xs ++ x ∷ [])
  classes_more [] [] c x a h o = (h, (o, tt))
  classes_more [] (y ∷ xs) c x a h o = absurd a
  classes_more (d ∷ cs) [] c x a h o = absurd a
  classes_more (d ∷ cs) (y ∷ xs) c x a h o = (a.0, (a.1.0, classes_more cs xs c x a.1.1 h o))

  many_classes : (cs : Program) (xs : List ClassKinds) → AreClasses names counts cs xs → length xs ≡ length cs
  many_classes [] [] a = refl
  many_classes [] (x ∷ xs) a = absurd a
  many_classes (c ∷ cs) [] a = absurd a
  many_classes (c ∷ cs) (x ∷ xs) a = ap (λ n. suc n) (many_classes cs xs a.1.1)

  class_there : (cs : Program) (xs : List ClassKinds) → AreClasses names counts cs xs → (i : ℕ) (c : ClassOf) (d : ClassKinds) →
      i < length cs →
      IsClass names (get_or cs i c) (get_or xs i d) × IsCountedOne names counts (get_or cs i c) (get_or xs i d)
  class_there [] xs a i c d l = absurd (omega (arith, l))
  class_there (y ∷ cs) [] a i c d l = absurd a
  class_there (y ∷ cs) (x ∷ xs) a zero c d l = (a.0, a.1.0)
  class_there (y ∷ cs) (x ∷ xs) a (suc i) c d l = class_there cs xs a.1.1 i c d (omega (arith, l))

is_one : (n : ℕ) → (n == 1) ≡ true → n ≡ 1
is_one n e = grind (arith, nat_tests)

one_is : (n : ℕ) → n ≡ 1 → (n == 1) ≡ true
one_is n e = grind (arith, nat_tests)

not_true : (b : Bool) → not b ≡ true → b ≡ false
not_true true e = absurd (true≢false (sym e))
not_true false e = refl

count_one : (t c : ℕ) → IsCount t c → t ≡ 1 → c ≡ 1
count_one t c h one = by (cases_lt c 2)
  where
    by : (c < 2) ⊎ (2 ≤ c) → c ≡ 1
    by (inl l) = sym (h.few l) ∙ one
    by (inr l) = absurd (let m = h.many l in omega (arith, m, one))

get_or_is : (p : Program) (i : ℕ) (c : ClassOf) → slice_get p i ≡ Some c → get_or p i c ≡ c
get_or_is [] i c e = refl
get_or_is (d ∷ p) zero c e = cc e
get_or_is (d ∷ p) (suc i) c e = get_or_is p i c e

named_class : (p : Program) (i : ℕ) (c : ClassOf) → slice_get p i ≡ Some c → is_class (class_names p) c.name ≡ true
named_class p i c e = or_right (is_built_in c.name) (list_any (bytes_eq c.name) (class_names p)) (any p i e)
  where
    any : (q : Program) (j : ℕ) → slice_get q j ≡ Some c → list_any (bytes_eq c.name) (class_names q) ≡ true
    any [] j f = absurd (cc f)
    any (d ∷ q) zero f = let is : d ≡ c = cc f in
        or_left (bytes_eq c.name d.name) (list_any (bytes_eq c.name) (class_names q))
        ((bytes_eq-Decides c.name d.name).1 (ap (λ (x : ClassOf). x.name) (sym is)))
    any (d ∷ q) (suc j) f = or_right (bytes_eq c.name d.name) (list_any (bytes_eq c.name) (class_names q)) (any q j f)

-- all that is known of a program's classes
pub are_kinds : (p : Program) (k : ProgramKinds) (counts : List ℕ) → KnowsNames k.names p → AreCounted k.names p counts →
    AreClasses k.names counts p k.classes.items → AreKinds p k
are_kinds p k counts n h a = record {
  names = n.are;
  classes = many_classes k.names counts p k.classes.items a;
  each_class = λ i c d l. (class_there k.names counts p k.classes.items a i c d l).0;
  own = λ i d l e. own i d l e;
  not_own = λ i d o. not_own i d o;
}
  where
    -- the class of this number, as it is counted
    counted : (i : ℕ) (d : ClassKinds) (c : ClassOf) → slice_get p i ≡ Some c → IsCountedOne k.names counts c (get_or k.classes.items i d)
    counted i d c e = subst (λ x. IsCountedOne k.names counts x (get_or k.classes.items i d)) (get_or_is p i c e)
        (class_there k.names counts p k.classes.items a i c d (within p i c e)).1

    number : (i : ℕ) (c : ClassOf) → slice_get p i ≡ Some c → IsKnown k.names c.name
    number i c e = n.known c.name (named_class p i c e)

    own : (i : ℕ) (d : ClassKinds) → i < length p → (get_or k.classes.items i d).is_own ≡ true → IsOwn p i
    own i d l e =
        let c = there p i l in
        let m = number i c.0 c.1 in
        let both = and_parts (get_or counts m.number 0 == 1) (not (is_built_in c.0.name)) (sym ((counted i d c.0 c.1).is m.number m.found) ∙
        e) in
        let one = is_one (get_or counts m.number 0) both.0 in
        let t = (h c.0.name m.number m.found).few (omega (arith, one)) in
        one_is_alone p i c.0 c.1 (not_true (is_built_in c.0.name) both.1) (t ∙ one)

    not_own : (i : ℕ) (d : ClassKinds) → IsOwn p i → (get_or k.classes.items i d).is_own ≡ true
    not_own i d o =
        let c = there p i o.within in
        let m = number i c.0 c.1 in
        let t = alone_is_one p i c.0 c.1 o in
        let count = h c.0.name m.number m.found in
        let one : get_or counts m.number 0 ≡ 1 = count_one (times p c.0.name) (get_or counts m.number 0) count t in
        let built : is_built_in c.0.name ≡ false = sym (ap is_built_in (named p i c.0 c.1)) ∙ o.own in
        (counted i d c.0 c.1).is m.number m.found ∙ ap₂ (λ x y. x && not y) (one_is (get_or counts m.number 0) one) built
