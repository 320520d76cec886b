-- What holds of the roles and of the order of what a run is asked for, and what the code finds of them.
use Rattle.std.proofs.Common.{◌≡◌, ◌≢◌, ℕ, zero, suc, ◌<◌, ◌+◌, ◌^◌, ◌⊎◌, inl, inr, List, [], ◌∷◌, ◌++◌, All, length, get_or, Option, Some}
use Rattle.std.proofs.Common.{None, Bool, true, false, codes, refl, sym, ap, ◌∙◌, subst, arith, cond, ltb, lt-ltb, append_assoc}
use Rattle.std.proofs.Common.{length-append}
use Rattle.std.specs.Prelude.{Contains, is_some, if◌then◌else◌, position, filter_map}
use Rattle.std.specs.List.{IsDistinct, range_with_len, position_or_len, cons_option}
use Rattle.std.specs.Str.{bytes_eq}
use Rattle.std.proofs.lemmas.List.{length-map, map-append}
use Rattle.std.proofs.lemmas.List.Sums.{position_or_len_is}
use Rattle.std.proofs.lemmas.List.FromFn.{length-range_with_len, get_or-range_with_len}
use Rattle.std.proofs.lemmas.Map.Keys.{IsDistinct-from_apart, apart_from_distinct}
use Rattle.std.proofs.lemmas.List.Quantifiers.{position-Some}
use Rattle.mg_text.specs.Interned.{with_text}
use Rattle.mg_words.specs.Words.{Word, RoleClass, Roles, Alone, Several, Asked, Run, Exec, IsCommand, mains_in, mains_of, role_names}
use Rattle.mg_words.specs.Words.{order_among, order_of, RunOption, AreRoles}
use Rattle.mg_words.specs.declared.asked.RoleClass.{RoleClass as Kept}
use Rattle.mg_words.specs.inner.Judging.{IsAsked, role_class_of, role_classes_of}
use Rattle.mg_words.proofs.WordsLemmas.{All-cons, none_yet}
use Rattle.mg_words.proofs.NameLemmas.{in_none, one_of, same_name, name_same, never_both, before_differs}

pub asked_of_run : (words : List Word) (asked : Asked) (files : List Word) → IsCommand (Run asked files) words → IsAsked asked
asked_of_run words asked files (rest, e, (options, behind, how, are)) = (options, how)

pub asked_of_exec : (words : List Word) (asked : Asked) (files : List Word) → IsCommand (Exec asked files) words → IsAsked asked
asked_of_exec words asked files (rest, e, (options, behind, how, none, are)) = (options, how)

roles_apart : (roles : Roles) (order : Option (List Word)) (o : List RunOption) → AreRoles roles order o
    → IsDistinct bytes_eq (role_names (mains_in roles))
roles_apart (Alone c) order o h = IsDistinct-from_apart bytes_eq (codes "main" ∷ []) (λ i j d less within. absurd (omega arith))
roles_apart (Several rs) order o (classes, named, some, apart, is) = apart

pub distinct_mains : (asked : Asked) → IsAsked asked → IsDistinct bytes_eq (role_names (mains_of asked))
distinct_mains asked (words, how) = roles_apart asked.roles asked.order how.options how.roles

roles_some : (roles : Roles) (order : Option (List Word)) (o : List RunOption) → AreRoles roles order o → mains_in roles ≢ []
roles_some (Alone c) order o h = λ e. cc
roles_some (Several rs) order o (classes, named, some, apart, is) = some

pub some_mains : (asked : Asked) → IsAsked asked → mains_of asked ≢ []
some_mains asked (words, how) = roles_some asked.roles asked.order how.options how.roles

-- ---- numbers of names

names_length : (rs : List RoleClass) → length (role_names rs) ≡ length rs
names_length rs = length-map rs (λ (r : RoleClass). r.role)

below_length : (names : List Word) (roles : List Word) (n : ℕ) → n ≡ length roles
    → All (λ k. k < n) (filter_map (λ name. position (bytes_eq name) roles) names)
below_length [] roles n e = none_yet (λ (k : ℕ). k < n)
below_length (x ∷ xs) roles n e = go (below_length xs roles n e) (position (bytes_eq x) roles) refl where
  go : All (λ k. k < n) (filter_map (λ name. position (bytes_eq name) roles) xs) → (found : Option ℕ) → position (bytes_eq x) roles ≡ found
      → All (λ k. k < n) (cons_option (position (bytes_eq x) roles) (filter_map (λ name. position (bytes_eq name) roles) xs))
  go h None is =
      subst (λ (z : Option ℕ). All (λ k. k < n) (cons_option z (filter_map (λ name. position (bytes_eq name) roles) xs))) (sym is) h
  go h (Some k) is =
      let low : k < length roles = (position-Some (bytes_eq x) roles k x is).0 in
      let lower : k < n = omega arith in
      subst (λ (z : Option ℕ). All (λ k. k < n) (cons_option z (filter_map (λ name. position (bytes_eq name) roles) xs))) (sym is)
      (All-cons (λ (k : ℕ). k < n) k (filter_map (λ name. position (bytes_eq name) roles) xs) lower h)

range_below : (n m : ℕ) → n ≡ m → All (λ k. k < m) (range_with_len 0 n)
range_below n m e k d lt =
    let l : k < n = omega (arith, length-range_with_len 0 n) in
    let at : get_or (range_with_len 0 n) k d ≡ 0 + k = get_or-range_with_len 0 n k d l in
    omega (arith, at)

pub order_below : (asked : Asked) → All (λ n. n < length (mains_of asked)) (order_of asked)
order_below asked = go asked.order where
  go : (order : Option (List Word)) → All (λ n. n < length (mains_of asked)) (order_among (role_names (mains_of asked)) order)
  go None = range_below (length (role_names (mains_of asked))) (length (mains_of asked)) (names_length (mains_of asked))
  go (Some names) = below_length names (role_names (mains_of asked)) (length (mains_of asked)) (sym (names_length (mains_of asked)))

-- the number of the name at a place of names that differ is that place
place_is : (roles : List Word) (n : ℕ) (d : Word) → IsDistinct bytes_eq roles → n < length roles
    → position (bytes_eq (get_or roles n d)) roles ≡ Some n
place_is roles n d apart lt =
    let place : position_or_len (bytes_eq (get_or roles n d)) roles ≡ n =
    position_or_len_is (bytes_eq (get_or roles n d)) roles n d (omega arith)
    (λ k less. other (get_or roles k d) (get_or roles n d) (apart_from_distinct bytes_eq roles k n d apart less lt))
    (λ within. name_same (get_or roles n d) (get_or roles n d) refl) in
    (λ i. cond (ltb (place i) (length roles)) (Some (place i)) None)
    ∙ ap (λ (b : Bool). cond b (Some n) None) (lt-ltb n (length roles) lt) where
      other : (a b : Word) → bytes_eq a b ≡ false → bytes_eq b a ≡ false
      other a b h = go (bytes_eq b a) refl where
        go : (t : Bool) → bytes_eq b a ≡ t → bytes_eq b a ≡ false
        go true e = never_both (bytes_eq a b) (name_same a b (sym (same_name b a e))) h
        go false e = e

mapped : (f : Word → Option ℕ) (names : List Word) (name : Word) (n : ℕ) → Contains names name → f name ≡ Some n
    → Contains (filter_map f names) n
mapped f [] name n h is = absurd (in_none name h)
mapped f (x ∷ xs) name n h is = go (λ k. mapped f xs name n k is) (one_of x xs name h) where
  with_found : (found : Option ℕ) → Contains (filter_map f xs) n → Contains (cons_option found (filter_map f xs)) n
  with_found None k = k
  with_found (Some y) (k, lt, same) = (suc k, omega arith, same)

  go : (Contains xs name → Contains (filter_map f xs) n) → (x ≡ name) ⊎ Contains xs name → Contains (cons_option (f x) (filter_map f xs)) n
  go later (inl e) = subst (λ (z : Option ℕ). Contains (cons_option z (filter_map f xs)) n) (sym (ap f e ∙ is)) (zero, omega arith, refl)
  go later (inr k) = with_found (f x) (later k)

each_at : (roles : Roles) (order : Option (List Word)) (o : List RunOption) → AreRoles roles order o → (n : ℕ) → n < length (mains_in roles)
    → Contains (order_among (role_names (mains_in roles)) order) n
each_at roles None o h n lt =
    let e : length (role_names (mains_in roles)) ≡ length (mains_in roles) = names_length (mains_in roles) in
    let l : n < length (role_names (mains_in roles)) = omega arith in (
      n,
      omega (arith, length-range_with_len 0 (length (role_names (mains_in roles)))),
      get_or-range_with_len 0 (length (role_names (mains_in roles))) n n l ∙ zero_add n,
    ) where
      zero_add : (m : ℕ) → 0 + m ≡ m
      zero_add m = omega arith
each_at (Alone c) (Some names) o (classes, none, free) n lt = absurd (never free) where
  never : ◌≡◌ {A = Option (List Word)} (Some names) None → ⊥
  never e = cc
each_at (Several rs) (Some names) o (classes, named, some, apart, is) n lt =
    let l : n < length (role_names rs) = omega (arith, names_length rs) in
    mapped (λ name. position (bytes_eq name) (role_names rs)) names (get_or (role_names rs) n []) n
    (is.each n [] l) (place_is (role_names rs) n [] apart l)

pub order_each : (asked : Asked) → IsAsked asked → (n : ℕ) → n < length (mains_of asked) → Contains (order_of asked) n
order_each asked (words, how) = each_at asked.roles asked.order how.options how.roles

-- ---- what the code collects

-- a text that the table hasn't is added at its end
pub new_text : (names : List Word) (name : Word) → (Contains names name → ⊥) → position (bytes_eq name) names ≡ None
new_text names name new = go (position (bytes_eq name) names) refl where
  go : (found : Option ℕ) → position (bytes_eq name) names ≡ found → position (bytes_eq name) names ≡ None
  go None is = is
  go (Some k) is =
      let (within, same, first) = position-Some (bytes_eq name) names k name is in
      absurd (new (k, within, sym (same_name name (get_or names k name) same)))

pub names_pushed : (names new all : List Word) (roles rest : List RoleClass) (r : RoleClass) (name : Word) → IsDistinct bytes_eq all
    → names ++ role_names roles ≡ all → roles ≡ r ∷ rest → name ≡ r.role → new ≡ with_text names name → length names + 1 < 2 ^ 32
    → (new ++ role_names rest ≡ all) × (length new < 2 ^ 32)
names_pushed names new all roles rest r name apart so is same added few =
    let spelled : names ++ r.role ∷ role_names rest ≡ all = ap (λ (z : List RoleClass). names ++ role_names z) (sym is) ∙ so in
    let fresh : position (bytes_eq name) names ≡ None = new_text names name (λ k.
    before_differs names r.role (role_names rest) (subst (IsDistinct bytes_eq) (sym spelled) apart) (subst (Contains names) same k)) in
    let now : new ≡ names ++ name ∷ [] = added ∙ ap (λ (z : Option ℕ). if is_some z then names else names ++ name ∷ []) fresh in (
      ap (λ (z : List Word). z ++ role_names rest) now ∙ append_assoc names (name ∷ []) (role_names rest)
          ∙ ap (λ (w : Word). names ++ w ∷ role_names rest) same ∙ spelled,
      omega (arith, ap length now, length-append names (name ∷ [])),
    )

pub roles_pushed : (items new : List Kept) (item : Kept) (left rest all : List RoleClass) (r : RoleClass)
    → role_classes_of items ++ left ≡ all → left ≡ r ∷ rest → new ≡ items ++ item ∷ [] → role_class_of item ≡ r
    → role_classes_of new ++ rest ≡ all
roles_pushed items new item left rest all r so is added same =
    ap (λ (z : List Kept). role_classes_of z ++ rest) added
    ∙ ap (λ (z : List RoleClass). z ++ rest) (map-append role_class_of items (item ∷ []))
    ∙ append_assoc (role_classes_of items) (role_class_of item ∷ []) rest
    ∙ ap (λ (z : RoleClass). role_classes_of items ++ z ∷ rest) same ∙ ap (λ (z : List RoleClass). role_classes_of items ++ z) (sym is) ∙ so

range_more : (a n : ℕ) → range_with_len a (suc n) ≡ range_with_len a n ++ (a + n) ∷ []
range_more a zero = let e : a ≡ a + 0 = omega arith in ap (λ (z : ℕ). z ∷ []) e
range_more a (suc n) =
    let e : a + 1 + n ≡ a + suc n = omega arith in
    ap (λ (z : List ℕ). a ∷ z) (range_more (a + 1) n ∙ ap (λ (z : ℕ). range_with_len (a + 1) n ++ z ∷ []) e)

pub range_pushed : (items new : List ℕ) (n : ℕ) → items ≡ range_with_len 0 n → new ≡ items ++ n ∷ [] → new ≡ range_with_len 0 (n + 1)
range_pushed items new n so added =
    let e : 0 + n ≡ n = omega arith in
    let one : suc n ≡ n + 1 = omega arith in
    added ∙ (λ i. so i ++ sym e i ∷ []) ∙ sym (range_more 0 n) ∙ ap (range_with_len 0) one
