-- The roles of a run as they are kept, copied and numbered.
use Rattle.std.proofs.Common.{◌≡◌, ◌<◌, ◌≤◌, ◌+◌, ℕ, List, [], ◌∷◌, ◌++◌, map, take, length, get_or, slice_get, All, Contains, Some, refl}
use Rattle.std.proofs.Common.{sym, ap, ◌∙◌, subst}
use Rattle.std.proofs.lemmas.List.{length-map, map_more, take_all}
use Rattle.std.proofs.lemmas.List.Elements.{All-get_or}
use Rattle.std.proofs.lemmas.Option.{get_or_from_slice_get, slice_get_within}
use Rattle.std.specs.List.{IsDistinct}
use Rattle.std.specs.Str.{bytes_eq}
use Rattle.mg_words.specs.declared.asked.RoleClass.{RoleClass as KeptRole}
use Rattle.mg_words.specs.Words.{Word, RoleClass, Asked, mains_of, order_of, role_names}
use Rattle.mg_words.specs.inner.Judging.{role_classes_of}
use Rattle.vm_world_law.specs.declared.role.RoleMain.{RoleMain}
use Rattle.mg_top.specs.Commands.{role_main_of, role_mains_of, cast_mains_of}

-- a role, copied
abbrev pub copied : KeptRole → RoleMain
copied m = record { role = m.role; class = m.class }

pub copied_all : (items : List KeptRole) → map copied items ≡ map role_main_of (role_classes_of items)
copied_all [] = refl
copied_all (m ∷ ms) = ap (λ (z : List RoleMain). copied m ∷ z) (copied_all ms)

-- a role more is copied
pub copied_more : (items : List KeptRole) (i : ℕ) (m : KeptRole) (role class : Word) (before after : List RoleMain) → i < length items →
    m ≡ get_or items i m
    → role ≡ m.role → class ≡ m.class → before ≡ map copied (take i items) → after ≡ before ++ record { role = role; class = class } ∷ []
    → after ≡ map copied (take (i + 1) items)
copied_more items i m role class before after less is r c e added =
    added ∙ ap (λ (z : List RoleMain). z ++ record { role = role; class = class } ∷ []) e
    ∙ ap (λ (z : Word). map copied (take i items) ++ record { role = z; class = class } ∷ []) r
    ∙ ap (λ (z : Word). map copied (take i items) ++ record { role = m.role; class = z } ∷ []) c
    ∙ ap (λ (z : KeptRole). map copied (take i items) ++ copied z ∷ []) is ∙ sym (map_more copied items i m less)

-- all roles that were kept are copied
pub mains_copied : (mains : List RoleMain) (items : List KeptRole) (i : ℕ) → mains ≡ map copied (take i items) → length items ≤ i
    → mains ≡ cast_mains_of (role_classes_of items)
mains_copied mains items i e whole = e ∙ ap (map copied) (take_all i items whole) ∙ copied_all items

names_same : (classes : List RoleClass) → map (λ m. m.role) (map role_main_of classes) ≡ role_names classes
names_same [] = refl
names_same (c ∷ cs) = ap (λ (z : List Word). c.role ∷ z) (names_same cs)

-- no two roles of a run have one name
pub roles_distinct : (mains : List RoleMain) (asked : Asked) → mains ≡ role_mains_of asked →
    IsDistinct bytes_eq (role_names (mains_of asked))
    → IsDistinct bytes_eq (map (λ m. m.role) mains)
roles_distinct mains asked e d =
    subst (λ (z : List Word). IsDistinct bytes_eq z) (sym (ap (map (λ (m : RoleMain). m.role)) e ∙ names_same (mains_of asked))) d

as_many : (mains : List RoleMain) (asked : Asked) → mains ≡ role_mains_of asked → length mains ≡ length (mains_of asked)
as_many mains asked e = ap length e ∙ length-map (mains_of asked) role_main_of

all_at : (P : ℕ → Type 0) (xs : List ℕ) → All P xs → (i r : ℕ) → slice_get xs i ≡ Some r → P r
all_at P xs a i r is = subst P (get_or_from_slice_get xs i r r is) (All-get_or P xs i r (slice_get_within xs i r is) a)

-- the numbers of an order are those of roles
pub numbers_below : (mains : List RoleMain) (asked : Asked) (order : List ℕ) → mains ≡ role_mains_of asked → order ≡ order_of asked
    → All (λ n. n < length (mains_of asked)) (order_of asked) → (i r : ℕ) → slice_get order i ≡ Some r → r < length mains
numbers_below mains asked order e o a i r is =
    subst (λ (n : ℕ). r < n) (sym (as_many mains asked e))
    (all_at (λ (n : ℕ). n < length (mains_of asked)) (order_of asked) a i r (ap (λ (z : List ℕ). slice_get z i) (sym o) ∙ is))

-- each role has its turns
pub each_numbered : (mains : List RoleMain) (asked : Asked) (order : List ℕ) → mains ≡ role_mains_of asked → order ≡ order_of asked
    → ((n : ℕ) → n < length (mains_of asked) → Contains (order_of asked) n) → (r : ℕ) → r < length mains → Contains order r
each_numbered mains asked order e o each r less =
    subst (λ (z : List ℕ). Contains z r) (sym o) (each r (subst (λ (n : ℕ). r < n) (as_many mains asked e) less))
