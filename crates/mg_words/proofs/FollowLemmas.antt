-- Which option can follow others, and when options can be all: what the code tests says just that.
use Rattle.std.proofs.Common.{◌≡◌, ◌≢◌, ℕ, ◌<◌, ◌^◌, List, [], ◌∷◌, All, length, Option, Some, None, Bool, true, false, ◌&&◌, not, refl}
use Rattle.std.proofs.Common.{sym, ap, ◌∙◌, subst, arith}
use Rattle.std.specs.Prelude.{Contains, IfSome, is_some, option_to_list, filter_map, if◌then◌else◌}
use Rattle.std.specs.List.{list_all}
use Rattle.std.proofs.lemmas.List.{length-map}
use Rattle.std.proofs.lemmas.List.Elements.{All-contains, All-map}
use Rattle.scr_tree.specs.Words.{IsName}
use Rattle.mg_words.specs.declared.options.Named.{Named}
use Rattle.mg_words.specs.declared.options.Named.TheVariants as named
use Rattle.mg_words.specs.Words.{Word, RoleClass, Roles, Alone, Several, role_names, Asked, RunOption, Main, Role, Order, Steps, Trace, Out}
use Rattle.mg_words.specs.Words.{IsOption, role_in, order_in, IsOrder, AreRoles}
use Rattle.mg_words.specs.inner.Judging.{has_name, NamesEach, AreRolesSoFar, AreGiven, kind_of, IsNewRole, AreAllNamed, Fits, is_open}
use Rattle.mg_words.specs.inner.Judging.{has_none, is_empty, is_several, can_follow, are_whole}
use Rattle.mg_words.proofs.WordsLemmas.{filled, All-first, All-rest, All-cons, none_yet, some_class, classed, is_name}
use Rattle.mg_words.proofs.NameLemmas.{in_none, have_all, all_have, lacking, All-itself, All-there, free_name}
use Rattle.mg_words.proofs.OptionLemmas.{AreAll}

pub first_is : {A : Type 0} {x y : A} {xs ys : List A} → ◌≡◌ {A = List A} (x ∷ xs) (y ∷ ys) → x ≡ y
first_is e = cc

-- ---- what options that were read name

-- an order that was read has names
pub order_right : (o : List RunOption) (names : List Word) → All IsOption o → filter_map order_in o ≡ names ∷ []
    → (names ≢ []) × All IsName names
order_right [] names right e = absurd cc
order_right (Main v ∷ xs) names right e = order_right xs names (All-rest IsOption (Main v) xs right) e
order_right (Role r ∷ xs) names right e = order_right xs names (All-rest IsOption (Role r) xs right) e
order_right (Order n ∷ xs) names right e =
    subst (λ (z : List Word). (z ≢ []) × All IsName z) (first_is e) (All-first IsOption (Order n) xs right)
order_right (Steps n ∷ xs) names right e = order_right xs names (All-rest IsOption (Steps n) xs right) e
order_right (Trace ∷ xs) names right e = order_right xs names (All-rest IsOption Trace xs right) e
order_right (Out v ∷ xs) names right e = order_right xs names (All-rest IsOption (Out v) xs right) e

-- roles that were read have names
roles_right : (o : List RunOption) → All IsOption o → All (λ (r : RoleClass). IsName r.role) (filter_map role_in o)
roles_right [] right = none_yet (λ (r : RoleClass). IsName r.role)
roles_right (Main v ∷ xs) right = roles_right xs (All-rest IsOption (Main v) xs right)
roles_right (Role r ∷ xs) right =
    All-cons (λ (r : RoleClass). IsName r.role) r (filter_map role_in xs) (All-first IsOption (Role r) xs right).0
    (roles_right xs (All-rest IsOption (Role r) xs right))
roles_right (Order n ∷ xs) right = roles_right xs (All-rest IsOption (Order n) xs right)
roles_right (Steps n ∷ xs) right = roles_right xs (All-rest IsOption (Steps n) xs right)
roles_right (Trace ∷ xs) right = roles_right xs (All-rest IsOption Trace xs right)
roles_right (Out v ∷ xs) right = roles_right xs (All-rest IsOption (Out v) xs right)

names_right : (o : List RunOption) (rs : List RoleClass) → All IsOption o → filter_map role_in o ≡ rs → All IsName (role_names rs)
names_right o rs right e =
    subst (λ (z : List RoleClass). All IsName (role_names z)) e
    (All-map IsName (λ (r : RoleClass). r.role) (filter_map role_in o) (roles_right o right))

-- ---- options that are all

some_roles : (rs : List RoleClass) → not (has_none rs) ≡ true → rs ≢ []
some_roles [] h = absurd cc
some_roles (r ∷ rs) h = λ e. cc

roles_some : (rs : List RoleClass) → rs ≢ [] → not (has_none rs) ≡ true
roles_some [] h = absurd (h refl)
roles_some (r ∷ rs) h = refl

wanted_some : (rs : List RoleClass) (names : List Word) → names ≢ [] → All (Contains (role_names rs)) names → rs ≢ []
wanted_some [] [] some only = absurd (some refl)
wanted_some [] (n ∷ ns) some only = absurd (in_none n (All-first (Contains []) n ns only))
wanted_some (r ∷ rs) names some only = λ e. cc

whole_roles : (roles : Roles) (order : Option (List Word)) (o : List RunOption) → AreRolesSoFar roles order o
    → filter_map order_in o ≡ option_to_list order → All IsOption o → are_whole roles order ≡ true → AreRoles roles order o
whole_roles (Alone c) order o h was right is = h
whole_roles (Several rs) None o (classes, named, apart, each) was right is = (classes, named, some_roles rs is, apart, tt)
whole_roles (Several rs) (Some names) o (classes, named, apart, each) was right is =
    let only : All (Contains (role_names rs)) names = all_have (role_names rs) names is in
    (classes, named, wanted_some rs names (order_right o names right was).0 only, apart, record { only = only; each = each })

pub whole_all : (o : List RunOption) (a : Asked) → AreGiven o a → are_whole a.roles a.order ≡ true → AreAll o a
whole_all o a h is = record {
  right = h.right;
  roles = whole_roles a.roles a.order o h.roles h.order h.right is;
  order = h.order;
  steps = h.steps;
  traced = h.traced;
  folder = h.folder;
}

named_each : (order : Option (List Word)) (rs : List RoleClass) → IfSome order (IsOrder (role_names rs)) → NamesEach order rs
named_each None rs h = tt
named_each (Some names) rs h = h.each

roles_so_far : (roles : Roles) (order : Option (List Word)) (o : List RunOption) → AreRoles roles order o → AreRolesSoFar roles order o
roles_so_far (Alone c) order o h = h
roles_so_far (Several rs) order o (classes, named, some, apart, is) = (classes, named, apart, named_each order rs is)

pub all_given : (o : List RunOption) (a : Asked) → AreAll o a → AreGiven o a
all_given o a w = record {
  right = w.right;
  roles = roles_so_far a.roles a.order o w.roles;
  order = w.order;
  steps = w.steps;
  traced = w.traced;
  folder = w.folder;
}

pub all_whole : (o : List RunOption) (a : Asked) → AreAll o a → are_whole a.roles a.order ≡ true
all_whole o a w = go a.roles a.order w.roles where
  go : (roles : Roles) (order : Option (List Word)) → AreRoles roles order o → are_whole roles order ≡ true
  go (Alone c) order h = refl
  go (Several rs) None (classes, named, some, apart, is) = roles_some rs some
  go (Several rs) (Some names) (classes, named, some, apart, is) = have_all (role_names rs) names is.only

-- ---- options ask for one thing

pub same_value : {A : Type 0} (a b : Option A) → option_to_list a ≡ option_to_list b → a ≡ b
same_value None None e = refl
same_value None (Some y) e = absurd cc
same_value (Some x) None e = absurd cc
same_value (Some x) (Some y) e = cc

same_traced : (a b : Bool) → ◌≡◌ {A = List RunOption} (if a then Trace ∷ [] else []) (if b then Trace ∷ [] else []) → a ≡ b
same_traced true true e = refl
same_traced true false e = absurd cc
same_traced false true e = absurd cc
same_traced false false e = refl

roles_one : (o : List RunOption) (x y : Roles) (p q : Option (List Word)) → AreRolesSoFar x p o → AreRolesSoFar y q o → x ≡ y
roles_one o (Alone c) (Alone d) p q h k = ap Alone (first_is (sym h.0 ∙ k.0))
roles_one o (Alone c) (Several rs) p q h k = filled (sym k.0 ∙ h.0)
roles_one o (Several rs) (Alone d) p q h k = filled (sym h.0 ∙ k.0)
roles_one o (Several rs) (Several ss) p q h k = ap Several (sym h.1 ∙ k.1)

same_asked : (a b : Asked) → a.roles ≡ b.roles → a.order ≡ b.order → a.steps ≡ b.steps → a.traced ≡ b.traced → a.folder ≡ b.folder → a ≡ b
same_asked a b roles order steps traced folder =
    λ i. record { roles = roles i; order = order i; steps = steps i; traced = traced i; folder = folder i }

pub given_one : (o : List RunOption) (a b : Asked) → AreGiven o a → AreGiven o b → a ≡ b
given_one o a b h k =
    same_asked a b (roles_one o a.roles b.roles a.order b.order h.roles k.roles)
    (same_value a.order b.order (sym h.order ∙ k.order)) (same_value a.steps b.steps (sym h.steps ∙ k.steps))
    (same_traced a.traced b.traced (sym h.traced ∙ k.traced)) (same_value a.folder b.folder (sym h.folder ∙ k.folder))

-- ---- which option can follow

abbrev pub CanFollow : Asked → Named → Type 0
CanFollow a option = (x : RunOption) × (kind_of x ≡ option) × Fits x a

role_opens : (roles : Roles) (order : Option (List Word)) (name : Word) → IsNewRole roles name
    → IfSome order (λ names. Contains names name) → is_open roles order ≡ true
role_opens (Alone c) order name new wanted = absurd new
role_opens (Several rs) None name new wanted = refl
role_opens (Several rs) (Some names) name new wanted = go (list_all (has_name (role_names rs)) names) refl where
  go : (t : Bool) → list_all (has_name (role_names rs)) names ≡ t → not (list_all (has_name (role_names rs)) names) ≡ true
  go true e = absurd (new (All-contains (Contains (role_names rs)) names name (all_have (role_names rs) names e) wanted))
  go false e = ap not e

order_several : (roles : Roles) (names : List Word) → AreAllNamed roles names → is_several roles ≡ true
order_several (Alone c) names h = absurd h
order_several (Several rs) names h = refl

pub fits_follow : (x : RunOption) (a : Asked) → Fits x a → can_follow a (kind_of x) ≡ true
fits_follow (Main v) a (is, (none, free)) = λ i. is_empty (none i) && not (is_some (free i))
fits_follow (Role r) a (is, (new, wanted)) = role_opens a.roles a.order r.role new wanted
fits_follow (Order names) a (is, (all, free)) = λ i. order_several a.roles names all i && not (is_some (free i))
fits_follow (Steps n) a (is, free) = ap (λ (z : Option ℕ). not (is_some z)) free
fits_follow Trace a (is, new) = ap not new
fits_follow (Out v) a (is, free) = ap (λ (z : Option Word). not (is_some z)) free

pub both_true : (a b : Bool) → (a && b) ≡ true → (a ≡ true) × (b ≡ true)
both_true true b e = (refl, e)
both_true false b e = absurd cc

pub not_true : (t : Bool) → not t ≡ true → t ≡ false
not_true true e = absurd cc
not_true false e = refl

pub none_there : {A : Type 0} (a : Option A) → not (is_some a) ≡ true → a ≡ None
none_there None e = refl
none_there (Some x) e = absurd cc

pub no_roles : (roles : Roles) → is_empty roles ≡ true → roles ≡ Several []
no_roles (Alone c) e = absurd cc
no_roles (Several []) e = refl
no_roles (Several (r ∷ rs)) e = absurd cc

free_role : (o : List RunOption) (roles : Roles) (order : Option (List Word)) → AreRolesSoFar roles order o
    → filter_map order_in o ≡ option_to_list order → All IsOption o → length (filter_map role_in o) < 2 ^ 63 → is_open roles order ≡ true
    → (name : Word) × IsName name × IsNewRole roles name × IfSome order (λ names. Contains names name)
free_role o (Alone c) order h was right few e = absurd cc
free_role o (Several rs) None (classes, named, apart, each) was right few e =
    let short : length (role_names rs) < 2 ^ 63 = omega (arith, length-map rs (λ (r : RoleClass). r.role), ap length named) in
    let (name, is, new) = free_name (role_names rs) short in
    (name, is, new, tt)
free_role o (Several rs) (Some names) (classes, named, apart, each) was right few e =
    let (name, wanted, new) = lacking (role_names rs) names (not_true (list_all (has_name (role_names rs)) names) e) in
    (name, All-contains IsName names name (order_right o names right was).1 wanted, new, wanted)

free_order : (o : List RunOption) (roles : Roles) (order : Option (List Word)) → AreRolesSoFar roles order o → All IsOption o
    → is_several roles ≡ true → (names : List Word) × (names ≢ []) × All IsName names × AreAllNamed roles names
free_order o (Alone c) order h right e = absurd cc
free_order o (Several rs) order h right e = (
  some_class ∷ role_names rs,
  (λ e. cc),
  All-cons IsName some_class (role_names rs) classed (names_right o rs right h.1),
  All-there some_class (role_names rs) (role_names rs) (All-itself (role_names rs)),
)

pub follows : (o : List RunOption) (a : Asked) (option : Named) → AreGiven o a → length (filter_map role_in o) < 2 ^ 63
    → can_follow a option ≡ true → CanFollow a option
follows o a named.Main h few e =
    let both = both_true (is_empty a.roles) (not (is_some a.order)) e in
    (Main some_class, refl, (classed, (no_roles a.roles both.0, none_there a.order both.1)))
follows o a named.Role h few e =
    let (name, is, new, wanted) = free_role o a.roles a.order h.roles h.order h.right few e in
    (Role (record { role = name; class = some_class }), refl, ((is, classed), (new, wanted)))
follows o a named.Order h few e =
    let both = both_true (is_several a.roles) (not (is_some a.order)) e in
    let (names, some, each, all) = free_order o a.roles a.order h.roles h.right both.0 in
    (Order names, refl, ((some, each), (all, none_there a.order both.1)))
follows o a named.Steps h few e = (Steps 1, refl, ((omega arith, omega arith), none_there a.steps e))
follows o a named.Trace h few e = (Trace, refl, (tt, not_true a.traced e))
follows o a named.Out h few e = (Out some_class, refl, (is_name, none_there a.folder e))
