-- The methods of all classes: where each stands, and those of one class.
use Rattle.std.proofs.Common.{◌≡◌, ◌⊎◌, inl, inr, ⊎_elim, ℕ, zero, suc, ◌+◌, ◌≤◌, Bool, true, false, cond, List, [], ◌∷◌, ◌++◌, map, filter}
use Rattle.std.proofs.Common.{slice_get, Some, refl, sym, ap, ◌∙◌, subst, arith}
use Rattle.std.specs.Prelude.{nat_eq}
use Rattle.std.proofs.lemmas.Bool.Decides.{nat_tests}
use Rattle.std.proofs.lemmas.List.{append-nil}
use Rattle.jv_tree.specs.Source.{Class, Method}
use Rattle.jv_meaning.specs.Program.{classes_of}
use Rattle.jv_rules.specs.Program.{Program}
use Rattle.jv_core.specs.Tree as Core
use Rattle.jv_core.specs.Lookup.{text_at}
use Rattle.jv_names.specs.Resolves.{Aligned, none, more, Owned, methods_in, methods_of, numbered_from, Resolves}
use Rattle.jv_names.proofs.Tables.{some_is, text_is}
use Rattle.jv_names.proofs.Lookups.{owned_by}
use Rattle.jv_names.proofs.NamedApart.{aligned_map}

-- what stands for an item of the second list
pub record Behind {A B : Type 0} (Is : A → B → Type 0) (b : B) (as' : List A) (n : ℕ) : Type 0 where
  pub item : A
  pub at : slice_get as' n ≡ Some item
  pub is : Is item b

pub aligned_behind : {A B : Type 0} {Is : A → B → Type 0} {xs : List A} {ys : List B} → Aligned Is xs ys → (n : ℕ) (b : B) →
    slice_get ys n ≡ Some b → Behind Is b xs n
aligned_behind none n b e = absurd (cc)
aligned_behind {Is = Is} (more {a = a} i rest) zero b e = record { item = a; at = refl; is = subst (λ b. Is a b) (some_is e) i }
aligned_behind (more i rest) (suc n) b e =
    let w = aligned_behind rest n b e in
    record { item = w.item; at = w.at; is = w.is }

-- Where a method stands.

in_front : (g : Method → Owned) (ms : List Method) (rest : List Owned) (n : ℕ) (o : Owned) → slice_get (map g ms ++ rest) n ≡ Some o →
    ((j : ℕ) × (x : Method) × (slice_get ms j ≡ Some x) × (g x ≡ o)) ⊎ ((i : ℕ) × (slice_get rest i ≡ Some o))
in_front g [] rest n o e = inr (n, e)
in_front g (x ∷ ms) rest zero o e = inl (0, x, refl, some_is e)
in_front g (x ∷ ms) rest (suc n) o e =
    ⊎_elim (λ q. inl (suc q.0, q.1, q.2, q.3)) (λ q. inr q) (in_front g ms rest n o e)

-- the position of a method in its class
method_in : (n : ℕ) (cs : List Class) (m : ℕ) (o : Owned) → slice_get (methods_in (numbered_from n cs)) m ≡ Some o →
    (j : ℕ) × (slice_get o.owner.class.methods j ≡ Some o.method)
method_in n [] m o e = absurd (cc)
method_in n (c ∷ cs) m o e =
    ⊎_elim
    (λ q. (q.0, subst (λ (o : Owned). slice_get o.owner.class.methods q.0 ≡ Some o.method) q.3 q.2))
    (λ q. method_in (suc n) cs q.0 o q.1) (in_front (owned_by n c) c.methods (methods_in (numbered_from (suc n) cs)) m o e)

pub method_at : (program : Program) (m : ℕ) (o : Owned) → slice_get (methods_of program) m ≡ Some o →
    (j : ℕ) × (slice_get o.owner.class.methods j ≡ Some o.method)
method_at program m o e = method_in 0 (classes_of program.files) m o e

front_at : {A : Type 0} (g : Method → A) (ms : List Method) (rest : List A) (j : ℕ) (m : Method) → slice_get ms j ≡ Some m →
    slice_get (map g ms ++ rest) j ≡ Some (g m)
front_at g [] rest j m e = absurd (cc)
front_at g (x ∷ ms) rest zero m e = ap (λ (x : Method). Some (g x)) (some_is e)
front_at g (x ∷ ms) rest (suc j) m e = front_at g ms rest j m e

behind_at : {A : Type 0} (xs rest : List A) (n : ℕ) (x : A) → slice_get rest n ≡ Some x → (k : ℕ) × (slice_get (xs ++ rest) k ≡ Some x)
behind_at [] rest n x e = (n, e)
behind_at (y ∷ xs) rest n x e = let w = behind_at xs rest n x e in (suc w.0, w.1)

-- the number of a method of a class
number_from : (n : ℕ) (cs : List Class) (i j : ℕ) (c : Class) (m : Method) → slice_get cs i ≡ Some c → slice_get c.methods j ≡ Some m →
    (k : ℕ) × (slice_get (methods_in (numbered_from n cs)) k ≡ Some (owned_by (n + i) c m))
number_from n [] i j c m e f = absurd (cc)
number_from n (d ∷ cs) zero j c m e f =
    let number : n ≡ n + 0 = omega arith in (
      j,
      front_at (owned_by n d) d.methods (methods_in (numbered_from (suc n) cs)) j m
          (subst (λ (c : Class). slice_get c.methods j ≡ Some m) (sym (some_is e)) f)
          ∙ ap (λ (d : Class). Some (owned_by n d m)) (some_is e) ∙ ap (λ n. Some (owned_by n c m)) number,
    )
number_from n (d ∷ cs) (suc i) j c m e f =
    let w = number_from (suc n) cs i j c m e f in
    let number : suc n + i ≡ n + suc i = omega arith in
    let k = behind_at (map (owned_by n d) d.methods) (methods_in (numbered_from (suc n) cs)) w.0 (owned_by (suc n + i) c m) w.1 in
    (k.0, k.1 ∙ ap (λ n. Some (owned_by n c m)) number)

pub number_of : (program : Program) (i j : ℕ) (c : Class) (m : Method) → slice_get (classes_of program.files) i ≡ Some c →
    slice_get c.methods j ≡ Some m → (k : ℕ) × (slice_get (methods_of program) k ≡ Some (owned_by i c m))
number_of program i j c m e f =
    let w = number_from 0 (classes_of program.files) i j c m e f in
    let number : 0 + i ≡ i = omega arith in
    (w.0, w.1 ∙ ap (λ n. Some (owned_by n c m)) number)

-- The methods of one class.

pub aligned_filter : {A B : Type 0} {Is : A → B → Type 0} {xs : List A} {ys : List B} → Aligned Is xs ys → (t : A → Bool) (t' : B → Bool) →
    ((a : A) (b : B) → Is a b → t' b ≡ t a) → Aligned Is (filter t xs) (filter t' ys)
aligned_filter none t t' same = none
aligned_filter {Is = Is} (more {a = a} {b = b} {as' = xs} {bs = ys} i rest) t t' same =
    subst (λ u. Aligned Is (cond (t a) (a ∷ filter t xs) (filter t xs)) (cond u (b ∷ filter t' ys) (filter t' ys))) (sym (same a b i))
    (go (t a) (aligned_filter rest t t' same))
  where
    go : (u : Bool) → Aligned Is (filter t xs) (filter t' ys) →
        Aligned Is (cond u (a ∷ filter t xs) (filter t xs)) (cond u (b ∷ filter t' ys) (filter t' ys))
    go true ih = more i ih
    go false ih = ih

abbrev of_number : ℕ → Owned → Bool
of_number c o = nat_eq o.owner.number c

others_skipped : (c n : ℕ) (k : Class) (ms : List Method) (rest : List Owned) → nat_eq n c ≡ false →
    filter (of_number c) (map (owned_by n k) ms ++ rest) ≡ filter (of_number c) rest
others_skipped c n k [] rest e = refl
others_skipped c n k (m ∷ ms) rest e =
    ap (λ t. cond t (owned_by n k m ∷ filter (of_number c) (map (owned_by n k) ms ++ rest))
    (filter (of_number c) (map (owned_by n k) ms ++ rest))) e
    ∙ others_skipped c n k ms rest e

own_taken : (c n : ℕ) (k : Class) (ms : List Method) (rest : List Owned) → nat_eq n c ≡ true →
    filter (of_number c) (map (owned_by n k) ms ++ rest) ≡ map (owned_by n k) ms ++ filter (of_number c) rest
own_taken c n k [] rest e = refl
own_taken c n k (m ∷ ms) rest e =
    ap (λ t. cond t (owned_by n k m ∷ filter (of_number c) (map (owned_by n k) ms ++ rest))
    (filter (of_number c) (map (owned_by n k) ms ++ rest))) e
    ∙ ap (λ os. owned_by n k m ∷ os) (own_taken c n k ms rest e)

none_later : (c n : ℕ) (cs : List Class) → suc c ≤ n → filter (of_number c) (methods_in (numbered_from n cs)) ≡ []
none_later c n [] h = refl
none_later c n (k ∷ cs) h =
    others_skipped c n k k.methods (methods_in (numbered_from (suc n) cs)) differs ∙ none_later c (suc n) cs (omega (arith, h))
  where
    differs : nat_eq n c ≡ false
    differs = grind (arith, nat_tests, h)

of_class : (c n i : ℕ) (cs : List Class) (class : Class) → slice_get cs i ≡ Some class → c ≡ n + i →
    filter (of_number c) (methods_in (numbered_from n cs)) ≡ map (owned_by c class) class.methods
of_class c n i [] class at e = absurd (cc)
of_class c n zero (k ∷ cs) class at e =
    own_taken c n k k.methods (methods_in (numbered_from (suc n) cs)) same
    ∙ ap (λ os. map (owned_by n k) k.methods ++ os) (none_later c (suc n) cs (omega (arith, e)))
    ∙ append-nil (map (owned_by n k) k.methods)
    ∙ ap (λ n. map (owned_by n k) k.methods) number
    ∙ ap (λ (k : Class). map (owned_by c k) k.methods) (some_is at)
  where
    same : nat_eq n c ≡ true
    same = grind (arith, nat_tests, e)

    number : n ≡ c
    number = omega (arith, e)
of_class c n (suc i) (k ∷ cs) class at e =
    others_skipped c n k k.methods (methods_in (numbered_from (suc n) cs)) differs ∙ of_class c (suc n) i cs class at (e ∙ omega arith)
  where
    differs : nat_eq n c ≡ false
    differs = grind (arith, nat_tests, e)

names_alone : (c : ℕ) (class : Class) (ms : List Method) → map (λ (o : Owned). o.method.name) (map (owned_by c class) ms) ≡ map
    (λ (m : Method). m.name) ms
names_alone c class [] = refl
names_alone c class (m ∷ ms) = ap (λ ns. m.name ∷ ns) (names_alone c class ms)

-- the names of the methods of a class of the core are those of its source
pub names_of_methods : (program : Program) (core : Core.Program) → Resolves program core → (c : ℕ) (class : Class) →
    slice_get (classes_of program.files) c ≡ Some class →
    map (λ m. text_at core m.name) (filter (λ m. nat_eq m.class c) core.methods) ≡ map (λ (m : Method). m.name) class.methods
names_of_methods program core res c class at =
    let number : c ≡ 0 + c = omega arith in
    aligned_map
    (aligned_filter res.methods (of_number c) (λ m. nat_eq m.class c) (λ o k is. ap (λ n. nat_eq n c) is.class))
    (λ o. o.method.name) (λ k. text_at core k.name) (λ o k is. text_is program core res k.name o.method.name is.name)
    ∙ ap (map (λ (o : Owned). o.method.name)) (of_class c 0 c (classes_of program.files) class at number)
    ∙ names_alone c class class.methods
