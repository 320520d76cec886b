-- Constants stand where they were put while a pool grows.
use Rattle.std.proofs.Common.{◌≡◌, ℕ, zero, suc, Bool, true, false, ◌&&◌, List, [], ◌∷◌, ◌++◌, length}
use Rattle.std.proofs.Common.{Option, Some, None, slice_get, get_or, position, refl, sym, ap, ap₂, ◌∙◌, append_assoc, append-nil}
use Rattle.std.specs.Prelude.{◌==◌}
use Rattle.std.proofs.lemmas.Bool.{false≢true, eqb-true}
use Rattle.std.proofs.lemmas.Slice.Eq.{bytes_eq-Decides}
use Rattle.std.proofs.lemmas.List.Quantifiers.{position-Some}
use Rattle.std.proofs.lemmas.Option.{slice_get-get_or}
use Rattle.mg_text.specs.Call.{Name}
use Rattle.std.proofs.lemmas.Bool.Decides.{Decides-int_eq}
use Rattle.cls_tree.specs.declared.class.Const.{Const}
use Rattle.cls_tree.specs.declared.class.Const.TheVariants.{Utf8, Integer, Class as ClassConst, Text, Field, Method, NameAndType}
use Rattle.cls_tree.specs.Emitted.{same_const, Pooled, ◌>>=◌, give, found_or_added, number_of}
use Rattle.cls_tree.specs.Emitted.{utf8, class_const, text_const, name_and_type, field_const, method_const}

-- the constant of this number, which counts from 1
abbrev pub Is : List Const → ℕ → Const → Type 0
Is pool n const = (k : ℕ) × (n ≡ suc k) × (slice_get pool k ≡ Some const)

abbrev pub IsText : List Const → ℕ → Name → Type 0
IsText pool n text = Is pool n (Utf8 text)

abbrev pub IsClassNamed : List Const → ℕ → Name → Type 0
IsClassNamed pool n name = (k : ℕ) × Is pool n (ClassConst k) × IsText pool k name

abbrev pub IsNameAndType : List Const → ℕ → Name → Name → Type 0
IsNameAndType pool n name descriptor = (a b : ℕ) × Is pool n (NameAndType a b) × IsText pool a name × IsText pool b descriptor

abbrev pub IsField : List Const → ℕ → Name → Name → Name → Type 0
IsField pool n class name descriptor = (a b : ℕ) × Is pool n (Field a b) × IsClassNamed pool a class × IsNameAndType pool b name
    descriptor

abbrev pub IsMethod : List Const → ℕ → Name → Name → Name → Type 0
IsMethod pool n class name descriptor = (a b : ℕ) × Is pool n
    (Method a b) × IsClassNamed pool a class × IsNameAndType pool b name descriptor

-- an element of the front of a list
pub slice_get-front : {X : Type 0} (xs ys : List X) (k : ℕ) (x : X) → slice_get xs k ≡ Some x → slice_get (xs ++ ys) k ≡ Some x
slice_get-front [] ys k x h = absurd (cc)
slice_get-front (z ∷ xs) ys zero x h = h
slice_get-front (z ∷ xs) ys (suc k) x h = slice_get-front xs ys k x h

-- the element behind the front
pub slice_get-behind : {X : Type 0} (xs ys : List X) (x : X) → slice_get (xs ++ x ∷ ys) (length xs) ≡ Some x
slice_get-behind [] ys x = refl
slice_get-behind (z ∷ xs) ys x = slice_get-behind xs ys x

-- one pool is the front of the other
pub record Grows (pool larger : List Const) : Type 0 where
  pub more : List Const
  pub is : larger ≡ pool ++ more

pub grows_none : (pool : List Const) → Grows pool pool
grows_none pool = record { more = []; is = sym (append-nil pool) }

pub grows_twice : {a b c : List Const} → Grows a b → Grows b c → Grows a c
grows_twice {a} {b} {c} f g = record {
  more = f.more ++ g.more;
  is = g.is ∙ ap (λ x. x ++ g.more) f.is ∙ append_assoc a f.more g.more;
}

-- what stands in a pool stands in a larger one
pub is-grown : {pool larger : List Const} → Grows pool larger → (n : ℕ) (c : Const) → Is pool n c → Is larger n c
is-grown {pool} {larger} g n c h = (h.0, h.1, ap (λ x. slice_get x h.0) g.is ∙ slice_get-front pool g.more h.0 c h.2)

pub class-grown : {pool larger : List Const} → Grows pool larger → (n : ℕ) (name : Name) → IsClassNamed pool n name →
    IsClassNamed larger n name
class-grown g n name h = (h.0, is-grown g n (ClassConst h.0) h.1, is-grown g h.0 (Utf8 name) h.2)

pub name_and_type-grown : {pool larger : List Const} → Grows pool larger → (n : ℕ) (name descriptor : Name) →
    IsNameAndType pool n name descriptor → IsNameAndType larger n name descriptor
name_and_type-grown g n name descriptor h =
    (h.0, h.1, is-grown g n (NameAndType h.0 h.1) h.2, is-grown g h.0 (Utf8 name) h.3, is-grown g h.1 (Utf8 descriptor) h.4)

pub field-grown : {pool larger : List Const} → Grows pool larger → (n : ℕ) (class name descriptor : Name) →
    IsField pool n class name descriptor → IsField larger n class name descriptor
field-grown g n class name descriptor h =
    (h.0, h.1, is-grown g n (Field h.0 h.1) h.2, class-grown g h.0 class h.3, name_and_type-grown g h.1 name descriptor h.4)

pub method-grown : {pool larger : List Const} → Grows pool larger → (n : ℕ) (class name descriptor : Name) →
    IsMethod pool n class name descriptor → IsMethod larger n class name descriptor
method-grown g n class name descriptor h =
    (h.0, h.1, is-grown g n (Method h.0 h.1) h.2, class-grown g h.0 class h.3, name_and_type-grown g h.1 name descriptor h.4)

-- the number of a text that code may push
abbrev pub IsPushed : List Const → ℕ → List ℕ → Type 0
IsPushed pool n text = (k : ℕ) × Is pool n (Text k) × IsText pool k text

pub push-grown : {pool larger : List Const} → Grows pool larger → (n : ℕ) (text : List ℕ) → IsPushed pool n text → IsPushed larger n text
push-grown g n text h = (h.0, is-grown g n (Text h.0) h.1, is-grown g h.0 (Utf8 text) h.2)

-- What is made while constants are added: the pool grows, and this holds of the larger pool and of what is made.
pub record Gives {A : Type 0} (P : List Const → A → Type 0) (pool : List Const) (m : Pooled A) : Type 0 where
  pub grows : Grows pool (m pool).1
  pub holds : P (m pool).1 (m pool).0

pub gives_then : {A B : Type 0} {P : List Const → A → Type 0} {Q : List Const → B →
    Type 0} {pool : List Const} {m : Pooled A} {f : A → Pooled B} →
    Gives P pool m → ((a : A) (larger : List Const) → Grows pool larger → P larger a → Gives Q larger (f a)) → Gives Q pool (m >>= f)
gives_then {pool = pool} {m = m} {f = f} first go =
    let second = go (m pool).0 (m pool).1 first.grows first.holds in
    record { grows = grows_twice first.grows second.grows; holds = second.holds }

pub gives_as : {A : Type 0} {P Q : List Const → A → Type 0} {pool : List Const} {m : Pooled A} →
    Gives P pool m → ((a : A) (larger : List Const) → Grows pool larger → P larger a → Q larger a) → Gives Q pool m
gives_as {pool = pool} {m = m} made go = record { grows = made.grows; holds = go (m pool).0 (m pool).1 made.grows made.holds }

pub gives_now : {A : Type 0} {P : List Const → A → Type 0} {pool : List Const} (a : A) → P pool a → Gives P pool (give a)
gives_now {pool = pool} a h = record { grows = grows_none pool; holds = h }

both-true : (a b : Bool) → (a && b) ≡ true → (a ≡ true) × (b ≡ true)
both-true true b h = (refl, h)
both-true false b h = absurd (false≢true h)

same-numbers : (make : ℕ → ℕ → Const) (a b c d : ℕ) → (a == c && b == d) ≡ true → make a b ≡ make c d
same-numbers make a b c d h =
    let e = both-true (a == c) (b == d) h in
    ap₂ make (eqb-true a c e.0) (eqb-true b d e.1)

-- the test of constants tells that they are the same
pub same-is : (a b : Const) → same_const a b ≡ true → a ≡ b
same-is (Utf8 a) (Utf8 b) h = ap Utf8 ((bytes_eq-Decides a b).0 h)
same-is (Integer a) (Integer b) h = ap Integer ((Decides-int_eq a b).0 h)
same-is (ClassConst a) (ClassConst b) h = ap ClassConst (eqb-true a b h)
same-is (Text a) (Text b) h = ap Text (eqb-true a b h)
same-is (Field a b) (Field c d) h = same-numbers Field a b c d h
same-is (Method a b) (Method c d) h = same-numbers Method a b c d h
same-is (NameAndType a b) (NameAndType c d) h = same-numbers NameAndType a b c d h
same-is _ _ h = absurd (false≢true h)

-- a constant that was found
found : (c : Const) (pool : List Const) (k : ℕ) → position (same_const c) pool ≡ Some k → slice_get pool k ≡ Some c
found c pool k h =
    let at = position-Some (same_const c) pool k c h in
    slice_get-get_or pool k c at.0 ∙ ap Some (sym (same-is c (get_or pool k c) at.1))

abbrev Numbered : Const → List Const → ℕ × List Const → Type 0
Numbered c pool r = Grows pool r.1 × Is r.1 r.0 c

numbered : (c : Const) (pool : List Const) (at : Option ℕ) → position (same_const c) pool ≡ at →
    Numbered c pool (found_or_added c pool at)
numbered c pool (Some k) h = (grows_none pool, (k, refl, found c pool k h))
numbered c pool None h = (record { more = c ∷ []; is = refl }, (length pool, refl, slice_get-behind pool [] c))

-- a constant has its number
pub number_of-gives : (c : Const) (pool : List Const) → Gives (λ p n. Is p n c) pool (number_of c)
unfolding number_of
number_of-gives c pool =
    let h = numbered c pool (position (same_const c) pool) refl in
    record { grows = h.0; holds = h.1 }

pub utf8-gives : (text : List ℕ) (pool : List Const) → Gives (λ p n. IsText p n text) pool (utf8 text)
utf8-gives text pool = number_of-gives (Utf8 text) pool

pub class_const-gives : (name : Name) (pool : List Const) → Gives (λ p n. IsClassNamed p n name) pool (class_const name)
class_const-gives name pool = gives_then (utf8-gives name pool)
    (λ n p _ text. gives_as (number_of-gives (ClassConst n) p)
    (λ c q g is. (n, is, is-grown g n (Utf8 name) text)))

pub text_const-gives : (text : List ℕ) (pool : List Const) → Gives (λ p n. IsPushed p n text) pool (text_const text)
text_const-gives text pool = gives_then (utf8-gives text pool)
    (λ n p _ is_text. gives_as (number_of-gives (Text n) p)
    (λ c q g is. (n, is, is-grown g n (Utf8 text) is_text)))

pub name_and_type-gives : (name descriptor : Name) (pool : List Const) →
    Gives (λ p n. IsNameAndType p n name descriptor) pool (name_and_type name descriptor)
name_and_type-gives name descriptor pool = gives_then (utf8-gives name pool)
    (λ n p _ is_name. gives_then (utf8-gives descriptor p)
    (λ d q g is_type. gives_as (number_of-gives (NameAndType n d) q)
    (λ c r h is. (n, d, is, is-grown (grows_twice g h) n (Utf8 name) is_name, is-grown h d (Utf8 descriptor) is_type))))

pub field_const-gives : (class name descriptor : Name) (pool : List Const) →
    Gives (λ p n. IsField p n class name descriptor) pool (field_const class name descriptor)
field_const-gives class name descriptor pool = gives_then (class_const-gives class pool)
    (λ c p _ is_class. gives_then (name_and_type-gives name descriptor p)
    (λ n q g is_named. gives_as (number_of-gives (Field c n) q)
    (λ f r h is. (c, n, is, class-grown (grows_twice g h) c class is_class, name_and_type-grown h n name descriptor is_named))))

pub method_const-gives : (class name descriptor : Name) (pool : List Const) →
    Gives (λ p n. IsMethod p n class name descriptor) pool (method_const class name descriptor)
method_const-gives class name descriptor pool = gives_then (class_const-gives class pool)
    (λ c p _ is_class. gives_then (name_and_type-gives name descriptor p)
    (λ n q g is_named. gives_as (number_of-gives (Method c n) q)
    (λ m r h is. (c, n, is, class-grown (grows_twice g h) c class is_class, name_and_type-grown h n name descriptor is_named))))
