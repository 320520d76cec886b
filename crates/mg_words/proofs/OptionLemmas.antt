-- The options of a run: their words tell them apart, and each that can follow others is one that fits what is asked for.
use Rattle.std.proofs.Common.{◌≡◌, ℕ, ◌≤◌, List, [], ◌∷◌, ◌++◌, All, length, get_or, Option, Some, None, Bool, true, false, ◌==◌, refl, sym}
use Rattle.std.proofs.Common.{ap, ◌∙◌, subst, arith}
use Rattle.std.specs.Prelude.{Contains, IfSome, option_to_list, filter, filter_map, if◌then◌else◌}
use Rattle.std.specs.Fmt.{decimal}
use Rattle.std.specs.List.{IsDistinct, join_with_byte}
use Rattle.std.specs.Str.{bytes_eq}
use Rattle.std.proofs.lemmas.Fmt.{decimal_injective}
use Rattle.std.proofs.lemmas.List.Elements.{filter_map-append, filter-append}
use Rattle.std.proofs.lemmas.Map.Keys.{IsDistinct-from_apart}
use Rattle.scr_tree.specs.Words.{IsName}
use Rattle.mg_words.specs.declared.runs.Input.{Input}
use Rattle.mg_words.specs.declared.runs.Input.TheVariants as input
use Rattle.mg_words.specs.declared.options.Named.{Named}
use Rattle.mg_words.specs.declared.options.Named.TheVariants as named
use Rattle.mg_words.specs.Words.{Word, RoleClass, Roles, Alone, Several, role_names, Asked, RunOption, Main, Role, Order, Steps, Trace, Out}
use Rattle.mg_words.specs.Words.{option_words, IsOption, class_in, role_in, order_in, steps_in, is_trace, folder_in, IsOrder, AreRoles}
use Rattle.mg_words.specs.Words.{IsFileName}
use Rattle.mg_words.specs.inner.Judging.{role_read, names_in, NamesEach, AreRolesSoFar, AreGiven, word_of, kind_of, IsNewRole, AreAllNamed}
use Rattle.mg_words.specs.inner.Judging.{Fits, roles_more, with_more, unasked, IsFor, AreFor, Keeps, is_barred}
use Rattle.mg_words.proofs.WordsLemmas.{head_is, tail_is, filled, All-first, All-push, All-mid, none_yet}
use Rattle.mg_words.proofs.RoleLemmas.{role_in_word}
use Rattle.mg_words.proofs.NameLemmas.{names_joined, All-front, names_push, names_on, distinct_push, before_differs}

-- ---- an option is known by its word

-- the fifth byte tells
named_by : ℕ → Named
named_by n =
    if n == 105 then named.Main
    else (if n == 108 then named.Role
    else (if n == 100 then named.Order
    else (if n == 101 then named.Steps
    else (if n == 97 then named.Trace
    else named.Out))))

told : Word → Named
told word = named_by (get_or word 4 0)

told_word : (option : Named) → told (word_of option) ≡ option
unfolding told named_by
told_word named.Main = refl
told_word named.Role = refl
told_word named.Order = refl
told_word named.Steps = refl
told_word named.Trace = refl
told_word named.Out = refl

same_word : (a b : Named) → word_of a ≡ word_of b → a ≡ b
same_word a b e = sym (told_word a) ∙ ap told e ∙ told_word b

abbrev pub values_of : RunOption → List Word
values_of (Main v) = v ∷ []
values_of (Role r) = (r.role ++ 61 ∷ r.class) ∷ []
values_of (Order names) = join_with_byte 44 names ∷ []
values_of (Steps n) = decimal n ∷ []
values_of Trace = []
values_of (Out v) = v ∷ []

pub begins_with : (x : RunOption) → option_words x ≡ word_of (kind_of x) ∷ values_of x
begins_with (Main v) = refl
begins_with (Role r) = refl
begins_with (Order names) = refl
begins_with (Steps n) = refl
begins_with Trace = refl
begins_with (Out v) = refl

pub same_kind : (option : Named) (x : RunOption) (ws rest : List Word)
    → ◌≡◌ {A = List Word} (word_of option ∷ ws) (option_words x ++ rest) → option ≡ kind_of x
same_kind option x ws rest e = same_word option (kind_of x) (head_is (e ∙ ap (λ (z : List Word). z ++ rest) (begins_with x)))

same_role : (v w : RoleClass) → IsName v.role → IsName w.role → v.role ++ 61 ∷ v.class ≡ w.role ++ 61 ∷ w.class → v ≡ w
same_role v w h k e = sym (role_in_word v h) ∙ ap role_read e ∙ role_in_word w k

same_number : (n m : ℕ) → n ≤ 20000000 → m ≤ 20000000 → decimal n ≡ decimal m → n ≡ m
same_number n m h k e = decimal_injective n m (omega arith) (omega arith) e

-- options of one kind that are written alike are one
same_values : (x y : RunOption) (r r' : List Word) → IsOption x → IsOption y → kind_of x ≡ kind_of y
    → option_words x ++ r ≡ option_words y ++ r' → (x ≡ y) × (r ≡ r')
same_values (Main v) (Main w) r r' h k same e = (ap Main (head_is (tail_is e)), tail_is (tail_is e))
same_values (Role v) (Role w) r r' h k same e = (ap Role (same_role v w h.0 k.0 (head_is (tail_is e))), tail_is (tail_is e))
same_values (Order v) (Order w) r r' h k same e =
    (ap Order (sym (names_joined v h.0 h.1) ∙ ap names_in (head_is (tail_is e)) ∙ names_joined w k.0 k.1), tail_is (tail_is e))
same_values (Steps v) (Steps w) r r' h k same e = (ap Steps (same_number v w h.1 k.1 (head_is (tail_is e))), tail_is (tail_is e))
same_values Trace Trace r r' h k same e = (refl, tail_is e)
same_values (Out v) (Out w) r r' h k same e = (ap Out (head_is (tail_is e)), tail_is (tail_is e))
same_values x y r r' h k same e = absurd cc

-- options that are written alike are one
pub same_option : (x y : RunOption) (r r' : List Word) → IsOption x → IsOption y → option_words x ++ r ≡ option_words y ++ r'
    → (x ≡ y) × (r ≡ r')
same_option x y r r' h k e =
    let start : word_of (kind_of x) ∷ (values_of x ++ r) ≡ option_words y ++ r' =
    ap (λ (z : List Word). z ++ r) (sym (begins_with x)) ∙ e in
    same_values x y r r' h k (same_kind (kind_of x) y (values_of x ++ r) r' start) e

-- no file is named as an option
for_file : (k : Input) (word : Word) → IsFor k word → IsFileName word
for_file input.Sources word h = h.0
for_file input.Classes word h = h.0

pub no_word : (k : Input) (option : Named) (rest files : List Word) → word_of option ∷ rest ≡ files → AreFor k files → ⊥
no_word k option rest files e (_, each) =
    go option (for_file k (word_of option) (All-first (IsFor k) (word_of option) rest (subst (All (IsFor k)) (sym e) each))) where
      go : (o : Named) → IsFileName (word_of o) → ⊥
      go named.Main h = h refl
      go named.Role h = h refl
      go named.Order h = h refl
      go named.Steps h = h refl
      go named.Trace h = h refl
      go named.Out h = h refl

pub no_option : (k : Input) (x : RunOption) (rest files : List Word) → option_words x ++ rest ≡ files → AreFor k files → ⊥
no_option k x rest files e are =
    no_word k (kind_of x) (values_of x ++ rest) files (ap (λ (z : List Word). z ++ rest) (sym (begins_with x)) ∙ e) are

-- ---- what a list of options asks for

pub at_end : {A : Type 0} (xs : List A) → xs ++ [] ≡ xs
at_end [] = refl
at_end {A = A} (y ∷ ys) = ap (λ (z : List A). y ∷ z) (at_end ys)

-- options that are all ask for this
pub record AreAll (options : List RunOption) (asked : Asked) : Type 0 where
  pub right : All IsOption options
  pub roles : AreRoles asked.roles asked.order options
  pub order : filter_map order_in options ≡ option_to_list asked.order
  pub steps : filter_map steps_in options ≡ option_to_list asked.steps
  pub traced : filter is_trace options ≡ (if asked.traced then Trace ∷ [] else [])
  pub folder : filter_map folder_in options ≡ option_to_list asked.folder

kept : {A : Type 0} (f : RunOption → Option A) (o : List RunOption) (x : RunOption) (xs : List A) → filter_map f o ≡ xs
    → filter_map f (x ∷ []) ≡ [] → filter_map f (o ++ x ∷ []) ≡ xs
kept f o x xs was one = filter_map-append f o (x ∷ []) ∙ (λ i. was i ++ one i) ∙ at_end xs

added : {A : Type 0} (f : RunOption → Option A) (o : List RunOption) (x : RunOption) (xs : List A) (y : A) → filter_map f o ≡ xs
    → filter_map f (x ∷ []) ≡ y ∷ [] → filter_map f (o ++ x ∷ []) ≡ xs ++ y ∷ []
added f o x xs y was one = filter_map-append f o (x ∷ []) ∙ (λ i. was i ++ one i)

same_trace : (o : List RunOption) (x : RunOption) (t : Bool) → filter is_trace o ≡ (if t then Trace ∷ [] else [])
    → filter is_trace (x ∷ []) ≡ []
    → filter is_trace (o ++ x ∷ []) ≡ (if t then Trace ∷ [] else [])
same_trace o x t was one = filter-append is_trace o (x ∷ []) ∙ (λ i. was i ++ one i) ∙ at_end (if t then Trace ∷ [] else [])

one_trace : (o : List RunOption) (t : Bool) → filter is_trace o ≡ (if t then Trace ∷ [] else []) → t ≡ false
    → filter is_trace (o ++ Trace ∷ []) ≡ Trace ∷ []
one_trace o t was new =
    let none : filter is_trace o ≡ [] = was ∙ ap (λ (b : Bool). if b then Trace ∷ [] else []) new in
    filter-append is_trace o (Trace ∷ []) ∙ ap (λ (z : List RunOption). z ++ Trace ∷ []) none

same_roles : (roles : Roles) (order : Option (List Word)) (o : List RunOption) (x : RunOption) → AreRolesSoFar roles order o
    → filter_map class_in (x ∷ []) ≡ [] → filter_map role_in (x ∷ []) ≡ [] → AreRolesSoFar roles order (o ++ x ∷ [])
same_roles (Alone c) order o x (classes, none, free) no_class no_role =
    (kept class_in o x (c ∷ []) classes no_class, kept role_in o x [] none no_role, free)
same_roles (Several rs) order o x (classes, named, apart, each) no_class no_role =
    (kept class_in o x [] classes no_class, kept role_in o x rs named no_role, apart, each)

one_class : (o : List RunOption) (roles : Roles) (order : Option (List Word)) (class : Word) → AreRolesSoFar roles order o
    → roles ≡ Several [] → order ≡ None → AreRolesSoFar (Alone class) order (o ++ Main class ∷ [])
one_class o roles order class h none free =
    let before = subst (λ (z : Roles). AreRolesSoFar z order o) none h in
    (added class_in o (Main class) [] class before.0 refl, kept role_in o (Main class) [] before.1 refl, free)

named_more : (order : Option (List Word)) (rs : List RoleClass) (r : RoleClass) → NamesEach order rs
    → IfSome order (λ names. Contains names r.role) → NamesEach order (rs ++ r ∷ [])
named_more None rs r each wanted = tt
named_more (Some names) rs r each wanted =
    subst (All (Contains names)) (sym (names_push rs r)) (All-push (Contains names) (role_names rs) r.role each wanted)

one_role : (o : List RunOption) (roles : Roles) (order : Option (List Word)) (r : RoleClass) → AreRolesSoFar roles order o
    → IsNewRole roles r.role → IfSome order (λ names. Contains names r.role) → AreRolesSoFar (roles_more roles r) order (o ++ Role r ∷ [])
one_role o (Alone c) order r h new wanted = absurd new
one_role o (Several rs) order r (classes, named, apart, each) new wanted = (
  kept class_in o (Role r) [] classes refl,
  added role_in o (Role r) rs r named refl,
  distinct_push rs r apart new,
  named_more order rs r each wanted,
)

one_order : (o : List RunOption) (roles : Roles) (order : Option (List Word)) (names : List Word) → AreRolesSoFar roles order o
    → AreAllNamed roles names → AreRolesSoFar roles (Some names) (o ++ Order names ∷ [])
one_order o (Alone c) order names h all = absurd all
one_order o (Several rs) order names (classes, named, apart, each) all =
    (kept class_in o (Order names) [] classes refl, kept role_in o (Order names) rs named refl, apart, all)

-- where nothing was named, one option names it
first_named : {A : Type 0} (f : RunOption → Option A) (o : List RunOption) (x : RunOption) (a : Option A) (y : A)
    → filter_map f o ≡ option_to_list a → a ≡ None → filter_map f (x ∷ []) ≡ y ∷ [] → filter_map f (o ++ x ∷ []) ≡ y ∷ []
first_named f o x a y was none one = added f o x [] y (was ∙ ap option_to_list none) one

pub given_more : (o : List RunOption) (a : Asked) (x : RunOption) → AreGiven o a → Fits x a → AreGiven (o ++ x ∷ []) (with_more x a)
given_more o a (Main v) h (is, (none, free)) = record {
  right = All-push IsOption o (Main v) h.right is;
  roles = one_class o a.roles a.order v h.roles none free;
  order = kept order_in o (Main v) (option_to_list a.order) h.order refl;
  steps = kept steps_in o (Main v) (option_to_list a.steps) h.steps refl;
  traced = same_trace o (Main v) a.traced h.traced refl;
  folder = kept folder_in o (Main v) (option_to_list a.folder) h.folder refl;
}
given_more o a (Role r) h (is, (new, wanted)) = record {
  right = All-push IsOption o (Role r) h.right is;
  roles = one_role o a.roles a.order r h.roles new wanted;
  order = kept order_in o (Role r) (option_to_list a.order) h.order refl;
  steps = kept steps_in o (Role r) (option_to_list a.steps) h.steps refl;
  traced = same_trace o (Role r) a.traced h.traced refl;
  folder = kept folder_in o (Role r) (option_to_list a.folder) h.folder refl;
}
given_more o a (Order names) h (is, (all, free)) = record {
  right = All-push IsOption o (Order names) h.right is;
  roles = one_order o a.roles a.order names h.roles all;
  order = first_named order_in o (Order names) a.order names h.order free refl;
  steps = kept steps_in o (Order names) (option_to_list a.steps) h.steps refl;
  traced = same_trace o (Order names) a.traced h.traced refl;
  folder = kept folder_in o (Order names) (option_to_list a.folder) h.folder refl;
}
given_more o a (Steps n) h (is, free) = record {
  right = All-push IsOption o (Steps n) h.right is;
  roles = same_roles a.roles a.order o (Steps n) h.roles refl refl;
  order = kept order_in o (Steps n) (option_to_list a.order) h.order refl;
  steps = first_named steps_in o (Steps n) a.steps n h.steps free refl;
  traced = same_trace o (Steps n) a.traced h.traced refl;
  folder = kept folder_in o (Steps n) (option_to_list a.folder) h.folder refl;
}
given_more o a Trace h (is, new) = record {
  right = All-push IsOption o Trace h.right is;
  roles = same_roles a.roles a.order o Trace h.roles refl refl;
  order = kept order_in o Trace (option_to_list a.order) h.order refl;
  steps = kept steps_in o Trace (option_to_list a.steps) h.steps refl;
  traced = one_trace o a.traced h.traced new;
  folder = kept folder_in o Trace (option_to_list a.folder) h.folder refl;
}
given_more o a (Out v) h (is, free) = record {
  right = All-push IsOption o (Out v) h.right is;
  roles = same_roles a.roles a.order o (Out v) h.roles refl refl;
  order = kept order_in o (Out v) (option_to_list a.order) h.order refl;
  steps = kept steps_in o (Out v) (option_to_list a.steps) h.steps refl;
  traced = same_trace o (Out v) a.traced h.traced refl;
  folder = first_named folder_in o (Out v) a.folder v h.folder free refl;
}

pub none_given : AreGiven [] unasked
none_given = record {
  right = none_yet IsOption;
  roles = (refl, refl, none_distinct, tt);
  order = refl;
  steps = refl;
  traced = refl;
  folder = refl;
} where
  none_distinct : IsDistinct bytes_eq []
  none_distinct = IsDistinct-from_apart bytes_eq [] (λ i k d less within. absurd (omega arith))

-- ---- what stands among options that are all fits those before it

filled_mid : {A : Type 0} (xs : List A) (y : A) (ys : List A) → xs ++ y ∷ ys ≡ [] → ⊥
filled_mid [] y ys e = let never : ⊥ = cc in never
filled_mid (x ∷ xs) y ys e = let never : ⊥ = cc in never

-- what an option names stands in its place
at_place : {A : Type 0} (f : RunOption → Option A) (o : List RunOption) (x : RunOption) (more : List RunOption) (y : A) (all : List A)
    → filter_map f (x ∷ more) ≡ y ∷ filter_map f more → filter_map f (o ++ x ∷ more) ≡ all → filter_map f o ++ y ∷ filter_map f more ≡ all
at_place f o x more y all here_it total =
    ap (λ (z : List _). filter_map f o ++ z) (sym here_it) ∙ sym (filter_map-append f o (x ∷ more)) ∙ total

-- of at most one there is one, it is that one, and none stands before it
pub one_there : {A : Type 0} (a b : Option A) (c : A) (rest : List A) → option_to_list a ++ c ∷ rest ≡ option_to_list b
    → (a ≡ None) × (b ≡ Some c)
one_there None None c rest e = absurd cc
one_there None (Some y) c rest e = (refl, cc)
one_there (Some x) None c rest e = absurd cc
one_there (Some x) (Some y) c rest e = let k = ap length e in absurd (omega (arith, k))

only_one : {A : Type 0} (f : RunOption → Option A) (o : List RunOption) (x : RunOption) (more : List RunOption) (y : A) (a b : Option A)
    → filter_map f o ≡ option_to_list a → filter_map f (x ∷ more) ≡ y ∷ filter_map f more
    → filter_map f (o ++ x ∷ more) ≡ option_to_list b → (a ≡ None) × (b ≡ Some y)
only_one f o x more y a b was here_it total =
    one_there a b y (filter_map f more)
    (ap (λ (z : List _). z ++ y ∷ filter_map f more) (sym was) ∙ at_place f o x more y (option_to_list b) here_it total)

-- nothing stands before, where nothing stands in all
front_none : {A : Type 0} (f : RunOption → Option A) (o more : List RunOption) → filter_map f (o ++ more) ≡ [] → filter_map f o ≡ []
front_none f o more e = go (filter_map f o) (sym (filter_map-append f o more) ∙ e) where
  go : (xs : List _) → xs ++ filter_map f more ≡ [] → xs ≡ []
  go [] k = refl
  go (x ∷ xs) k = absurd cc

no_value : {A : Type 0} (a : Option A) → option_to_list a ≡ [] → a ≡ None
no_value None e = refl
no_value (Some x) e = absurd cc

-- a class before is one in all
alone_first : (o more : List RunOption) (c : Word) → filter_map class_in o ≡ c ∷ [] → filter_map class_in (o ++ more) ≡ [] → ⊥
alone_first o more c was none = filled (sym (front_none class_in o more none) ∙ was)

-- a class that is named is the first and alone
main_new : (o more : List RunOption) (v : Word) (roles all : Roles) (order total : Option (List Word)) → AreRolesSoFar roles order o
    → filter_map order_in o ≡ option_to_list order → AreRoles all total (o ++ Main v ∷ more)
    → filter_map order_in (o ++ Main v ∷ more) ≡ option_to_list total → (roles ≡ Several []) × (order ≡ None)
main_new o more v roles (Several rs) order total h was (classes, named, some, distinct, is) orders =
    absurd (filled_mid (filter_map class_in o) v (filter_map class_in more) (at_place class_in o (Main v) more v [] refl classes))
main_new o more v (Alone c) (Alone d) order total h was (classes, none, free) orders =
    let twice : filter_map class_in o ++ v ∷ filter_map class_in more ≡ d ∷ [] =
    at_place class_in o (Main v) more v (d ∷ []) refl classes in
    let k = ap length (ap (λ (z : List Word). z ++ v ∷ filter_map class_in more) (sym h.0) ∙ twice) in
    absurd (omega (arith, k))
main_new o more v (Several rs) (Alone d) order total h was (classes, none, free) orders = (
  ap Several (sym h.1 ∙ front_none role_in o (Main v ∷ more) none),
  no_value order (sym was ∙ front_none order_in o (Main v ∷ more) (orders ∙ ap option_to_list free)),
)

-- an order that is named first is the order of all
order_is : (o more : List RunOption) (order total : Option (List Word)) (names : List Word) → filter_map order_in o ≡ option_to_list order
    → order ≡ Some names → filter_map order_in (o ++ more) ≡ option_to_list total → total ≡ Some names
order_is o more order total names was is orders =
    go total (ap (λ (z : List (List Word)). z ++ filter_map order_in more) (sym (was ∙ ap option_to_list is))
    ∙ sym (filter_map-append order_in o more) ∙ orders) where
      go : (t : Option (List Word)) → names ∷ filter_map order_in more ≡ option_to_list t → t ≡ Some names
      go None e = absurd cc
      go (Some n) e = cc

each_of : (total : Option (List Word)) (names roles : List Word) → IfSome total (IsOrder roles) → total ≡ Some names
    → All (Contains names) roles
each_of total names roles h is = (subst (λ (z : Option (List Word)). IfSome z (IsOrder roles)) is h).each

-- a role that is named is new, and wanted by an order before it
role_new : (o more : List RunOption) (r : RoleClass) (roles all : Roles) (order total : Option (List Word)) → AreRolesSoFar roles order o
    → filter_map order_in o ≡ option_to_list order → AreRoles all total (o ++ Role r ∷ more)
    → filter_map order_in (o ++ Role r ∷ more) ≡ option_to_list total
    → IsNewRole roles r.role × IfSome order (λ names. Contains names r.role)
role_new o more r roles (Alone d) order total h was (classes, none, free) orders =
    absurd (filled_mid (filter_map role_in o) r (filter_map role_in more) (at_place role_in o (Role r) more r [] refl none))
role_new o more r (Alone c) (Several rs) order total h was (classes, named, some, distinct, is) orders =
    absurd (alone_first o (Role r ∷ more) c h.0 classes)
role_new o more r (Several before) (Several rs) order total h was (classes, named, some, distinct, is) orders = (
  before_differs (role_names before) r.role (role_names (filter_map role_in more)) (subst (IsDistinct bytes_eq) spelled distinct),
  wanted order refl,
) where
  spelled : role_names rs ≡ role_names before ++ r.role ∷ role_names (filter_map role_in more)
  spelled =
      ap role_names (sym named ∙ sym (at_place role_in o (Role r) more r (filter_map role_in (o ++ Role r ∷ more)) refl refl))
      ∙ names_on (filter_map role_in o) (r ∷ filter_map role_in more)
      ∙ ap (λ (z : List RoleClass). role_names z ++ r.role ∷ role_names (filter_map role_in more)) h.1

  wanted : (t : Option (List Word)) → order ≡ t → IfSome t (λ names. Contains names r.role)
  wanted None e = tt
  wanted (Some names) e =
      All-mid (Contains names) (role_names before) r.role (role_names (filter_map role_in more))
      (subst (All (Contains names)) spelled
      (each_of total names (role_names rs) is (order_is o (Role r ∷ more) order total names was e orders)))

-- an order that is named is the first, and names each role before it
order_new : (o more : List RunOption) (names : List Word) (roles all : Roles) (order total : Option (List Word))
    → AreRolesSoFar roles order o
    → filter_map order_in o ≡ option_to_list order → AreRoles all total (o ++ Order names ∷ more)
    → filter_map order_in (o ++ Order names ∷ more) ≡ option_to_list total
    → AreAllNamed roles names × (order ≡ None)
order_new o more names roles (Alone d) order total h was (classes, none, free) orders =
    let one = only_one order_in o (Order names) more names order total was refl orders in
    absurd (never (sym one.1 ∙ free)) where
      never : ◌≡◌ {A = Option (List Word)} (Some names) None → ⊥
      never e = cc
order_new o more names (Alone c) (Several rs) order total h was (classes, named, some, distinct, is) orders =
    absurd (alone_first o (Order names ∷ more) c h.0 classes)
order_new o more names (Several before) (Several rs) order total h was (classes, named, some, distinct, is) orders =
    let one = only_one order_in o (Order names) more names order total was refl orders in (
      All-front (Contains names) (role_names before) (role_names (filter_map role_in more))
          (subst (All (Contains names)) spelled (each_of total names (role_names rs) is one.1)),
      one.0,
    ) where
      spelled : role_names rs ≡ role_names before ++ role_names (filter_map role_in more)
      spelled =
          ap role_names (sym named ∙ filter_map-append role_in o (Order names ∷ more))
          ∙ names_on (filter_map role_in o) (filter_map role_in more)
          ∙ ap (λ (z : List RoleClass). role_names z ++ role_names (filter_map role_in more)) h.1

trace_new : (o more : List RunOption) (t all : Bool) → filter is_trace o ≡ (if t then Trace ∷ [] else [])
    → filter is_trace (o ++ Trace ∷ more) ≡ (if all then Trace ∷ [] else []) → t ≡ false
trace_new o more false all was total = refl
trace_new o more true all was total =
    absurd (too_many all (filter is_trace more)
    (ap (λ (z : List RunOption). z ++ Trace ∷ filter is_trace more) (sym was)
    ∙ sym (filter-append is_trace o (Trace ∷ more)) ∙ total)) where
      too_many : (s : Bool) (rest : List RunOption) → ◌≡◌ {A = List RunOption} (Trace ∷ Trace ∷ rest) (if s then Trace ∷ [] else []) → ⊥
      too_many true rest e = cc
      too_many false rest e = cc

pub must_fit : (o : List RunOption) (a : Asked) (x : RunOption) (more : List RunOption) (asked : Asked) → AreGiven o a
    → AreAll (o ++ x ∷ more) asked → Fits x a
must_fit o a (Main v) more asked h w =
    (All-mid IsOption o (Main v) more w.right, main_new o more v a.roles asked.roles a.order asked.order h.roles h.order w.roles w.order)
must_fit o a (Role r) more asked h w =
    (All-mid IsOption o (Role r) more w.right, role_new o more r a.roles asked.roles a.order asked.order h.roles h.order w.roles w.order)
must_fit o a (Order names) more asked h w = (
  All-mid IsOption o (Order names) more w.right,
  order_new o more names a.roles asked.roles a.order asked.order h.roles h.order w.roles w.order,
)
must_fit o a (Steps n) more asked h w =
    (All-mid IsOption o (Steps n) more w.right, (only_one steps_in o (Steps n) more n a.steps asked.steps h.steps refl w.steps).0)
must_fit o a Trace more asked h w =
    (All-mid IsOption o Trace more w.right, trace_new o more a.traced asked.traced h.traced w.traced)
must_fit o a (Out v) more asked h w =
    (All-mid IsOption o (Out v) more w.right, (only_one folder_in o (Out v) more v a.folder asked.folder h.folder refl w.folder).0)

-- ---- what may stand where this is run

-- an option that may stand leaves the folder
pub keeps_more : (k : Input) (x : RunOption) (a : Asked) → is_barred k (kind_of x) ≡ false → Keeps k a.folder →
    Keeps k (with_more x a).folder
keeps_more input.Sources x a free h = tt
keeps_more input.Classes (Main v) a free h = h
keeps_more input.Classes (Role r) a free h = h
keeps_more input.Classes (Order names) a free h = h
keeps_more input.Classes (Steps n) a free h = h
keeps_more input.Classes Trace a free h = h
keeps_more input.Classes (Out v) a free h = absurd (let e : true ≡ false = free in cc)

pub keeps_main : (k : Input) (v : Word) (a : Asked) → Keeps k a.folder → Keeps k (with_more (Main v) a).folder
keeps_main input.Sources v a h = tt
keeps_main input.Classes v a h = h

pub keeps_role : (k : Input) (r : RoleClass) (a : Asked) → Keeps k a.folder → Keeps k (with_more (Role r) a).folder
keeps_role input.Sources r a h = tt
keeps_role input.Classes r a h = h

-- and what may not stand isn't there
pub not_barred : (k : Input) (o : List RunOption) (a : Asked) (x : RunOption) (more : List RunOption) (asked : Asked) → AreGiven o a
    → AreAll (o ++ x ∷ more) asked → Keeps k asked.folder → is_barred k (kind_of x) ≡ true → ⊥
not_barred input.Sources o a x more asked h w keeps e = let no : false ≡ true = e in cc
not_barred input.Classes o a (Main v) more asked h w keeps e = let no : false ≡ true = e in cc
not_barred input.Classes o a (Role r) more asked h w keeps e = let no : false ≡ true = e in cc
not_barred input.Classes o a (Order names) more asked h w keeps e = let no : false ≡ true = e in cc
not_barred input.Classes o a (Steps n) more asked h w keeps e = let no : false ≡ true = e in cc
not_barred input.Classes o a Trace more asked h w keeps e = let no : false ≡ true = e in cc
not_barred input.Classes o a (Out v) more asked h w keeps e =
    let one = only_one folder_in o (Out v) more v a.folder asked.folder h.folder refl w.folder in
    let no : ◌≡◌ {A = Option Word} (Some v) None = sym one.1 ∙ keeps in cc
