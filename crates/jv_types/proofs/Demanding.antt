-- What a typestate demands of the methods of its class, by the names of those that break it.
use Rattle.std.proofs.Common.{◌≡◌, List, [], ◌∷◌, ◌++◌, map, Option, Some, None, Bool, true, false, not, ◌&&◌, ◌||◌, cond, Contains, refl}
use Rattle.std.proofs.Common.{sym, ap, subst, ◌∙◌, true≢false}
use Rattle.std.specs.Prelude.{is_some, position}
use Rattle.std.specs.List.{list_any, find}
use Rattle.std.specs.Option.{option_or}
use Rattle.std.specs.Str.{bytes_eq}
use Rattle.std.proofs.lemmas.Grind.{common_steps}
use Rattle.std.proofs.lemmas.List.Elements.{Contains-push, Contains-append_left}
use Rattle.std.proofs.lemmas.Slice.Eq.{bytes_eq-Decides}
use Rattle.mg_text.specs.Call.{Name}
use Rattle.mg_text.specs.Interned.{with_text}
use Rattle.mg_read.specs.Culprit.{Culprit, culprit}
use Rattle.ts_tree.specs.Typestate as protocols
use Rattle.jv_tree.specs.Source.{Method, Class}
use Rattle.jv_tree.specs.declared.tree.MethodDecl.{MethodDecl}
use Rattle.jv_tree.specs.View.{method_of as source_of}
use Rattle.jv_types.proofs.Entries.{map-map}
use Rattle.jv_meaning.specs.Program.{method_named}
use Rattle.jv_rules.specs.Program.{Program}
use Rattle.jv_rules.specs.inner.Deciding.{when, first_by}
use Rattle.jv_types.specs.declared.demands.Demand.{Demand}
use Rattle.jv_types.specs.inner.Blaming.{is_in, noted, are_new}
use Rattle.jv_types.specs.inner.Declaring.{all_in, breaks, breaks_it, broken_names, broken_by_name, broken_method}
use Rattle.jv_types.proofs.Finding.{any_at, bytes_eq_flip}
use Rattle.jv_types.proofs.NewNames.{new_split, in-Decides, not_in}
use Rattle.jv_types.proofs.Offers.{any_with, any_noted, or_or}

-- ---- tables of labels

pub in_any : (names : List Name) (n : Name) → is_in names n ≡ list_any (bytes_eq n) names
in_any names n = any_at n names

-- a table has the names that were noted in it
pub all_noted : (xs ns : List Name) → all_in (noted [] ns) xs ≡ all_in ns xs
all_noted [] ns = refl
all_noted (x ∷ xs) ns = ap (λ b. b && all_in (noted [] ns) xs) (any_noted x [] ns) ∙ ap (λ b. list_any (bytes_eq x) ns && b)
    (all_noted xs ns)

pub all-found : (names xs : List Name) (x : Name) (b : Bool) → b ≡ is_some (position (bytes_eq x) names) →
    all_in names (x ∷ xs) ≡ (b && all_in names xs)
all-found names xs x b e = ap (λ c. c && all_in names xs) (sym (e ∙ any_at x names))

pub ruleset tables = (common_steps, all_noted, all-found, any_at)

-- ---- names of what is broken

module _ (program : Program) (k : Demand) (c : Class) where
  abbrev is_broken : Name → protocols.Method → Bool
  is_broken n d = bytes_eq n d.name && breaks_it program k (method_named c d.name) d

  step_in : (n : Name) (met : List Name) (d : protocols.Method) (b : Bool) →
      list_any (bytes_eq n) (cond b (with_text met d.name) met) ≡ (list_any (bytes_eq n) met || (bytes_eq n d.name && b))
  step_in n met d true = any_with n met d.name ∙ ap (λ b. list_any (bytes_eq n) met || b) (go (bytes_eq n d.name))
    where
      go : (b : Bool) → b ≡ (b && true)
      go true = refl
      go false = refl
  step_in n met d false = go (list_any (bytes_eq n) met) (bytes_eq n d.name)
    where
      go : (a b : Bool) → a ≡ (a || (b && false))
      go true b = refl
      go false true = refl
      go false false = refl

  in_broken : (n : Name) (met : List Name) (ds : List protocols.Method) →
      list_any (bytes_eq n) (broken_names program k c met ds) ≡ (list_any (bytes_eq n) met || list_any (is_broken n) ds)
  in_broken n met [] = go (list_any (bytes_eq n) met)
    where
      go : (b : Bool) → b ≡ (b || false)
      go true = refl
      go false = refl
  in_broken n met (d ∷ ds) =
      in_broken n (cond (breaks_it program k (method_named c d.name) d) (with_text met d.name) met) ds
      ∙ ap (λ b. b || list_any (is_broken n) ds) (step_in n met d (breaks_it program k (method_named c d.name) d))
      ∙ or_or (list_any (bytes_eq n) met) (is_broken n d) (list_any (is_broken n) ds)

  -- what is broken under the name of a method is broken by it
  module _ (m : Method) (is : method_named c m.name ≡ Some m) where
    at_name : (d : protocols.Method) → is_broken m.name d ≡ (not m.is_static && (bytes_eq d.name m.name && breaks program k m d))
    at_name d = go (bytes_eq m.name d.name) refl
      where
        swap : (a b : Bool) → (a && b) ≡ (a && (true && b))
        swap a b = refl

        none : (a : Bool) → false ≡ (a && false)
        none true = refl
        none false = refl

        go : (b : Bool) → bytes_eq m.name d.name ≡ b → (b && breaks_it program k (method_named c d.name) d) ≡
            (not m.is_static && (bytes_eq d.name m.name && breaks program k m d))
        go true e =
            let same : m.name ≡ d.name = (bytes_eq-Decides m.name d.name).0 e in
            ap (λ o. breaks_it program k o d) (ap (method_named c) (sym same) ∙ is)
            ∙ ap (λ b. not m.is_static && (b && breaks program k m d)) (sym (bytes_eq_flip d.name m.name ∙ e))
        go false e = none (not m.is_static) ∙ ap (λ b. not m.is_static && (b && breaks program k m d))
            (sym (bytes_eq_flip d.name m.name ∙ e))

    out_of : (ds : List protocols.Method) →
        list_any (is_broken m.name) ds ≡ (not m.is_static && list_any (λ d. bytes_eq d.name m.name && breaks program k m d) ds)
    out_of [] = go (not m.is_static)
      where
        go : (a : Bool) → false ≡ (a && false)
        go true = refl
        go false = refl
    out_of (d ∷ ds) =
        ap (λ b. b || list_any (is_broken m.name) ds) (at_name d) ∙
        ap (λ b. (not m.is_static && (bytes_eq d.name m.name && breaks program k m d)) || b) (out_of ds)
        ∙ go (not m.is_static) (bytes_eq d.name m.name && breaks program k m d)
        (list_any (λ d. bytes_eq d.name m.name && breaks program k m d) ds)
      where
        go : (a x y : Bool) → ((a && x) || (a && y)) ≡ (a && (x || y))
        go true x y = refl
        go false x y = refl

    pub named_broken : (ds : List protocols.Method) → broken_by_name (broken_names program k c [] ds) m ≡ broken_method program k ds m
    named_broken ds =
        ap (λ b. when b (culprit m.place m.name)) (in_any (broken_names program k c [] ds) m.name ∙ in_broken m.name [] ds ∙ out_of ds)

-- ---- methods that are found by their names

differs : (met : List Name) (m n : Name) → is_in (met ++ m ∷ []) n ≡ false → bytes_eq m n ≡ false
differs met m n e = go (bytes_eq m n) refl
  where
    go : (b : Bool) → bytes_eq m n ≡ b → b ≡ false
    go true h =
        let same : m ≡ n = (bytes_eq-Decides m n).0 h in
        let there : Contains (met ++ m ∷ []) n = subst (Contains (met ++ m ∷ [])) same (Contains-push met m) in
        absurd (true≢false (sym ((in-Decides (met ++ m ∷ []) n).1 there) ∙ e))
    go false h = refl

-- where all names are new, each method is the one of its name
module _ (whole : List Method) (f g : Method → Option Culprit) (h : (m : Method) → find (λ x. bytes_eq x.name m.name) whole ≡ Some m →
    f m ≡ g m) where
  agree : (ms : List Method) (met : List Name) → are_new met (map (λ m. m.name) ms) ≡ true →
      ((n : Name) → is_in met n ≡ false → find (λ x. bytes_eq x.name n) whole ≡ find (λ x. bytes_eq x.name n) ms) →
      first_by f ms ≡ first_by g ms
  agree [] met e skip = refl
  agree (m ∷ ms) met e skip =
      let s = new_split met (map (λ x. x.name) ms) m.name e in
      let here : find (λ x. bytes_eq x.name m.name) whole ≡ Some m =
      skip m.name s.0 ∙ ap (λ b. cond b (Some m) (find (λ x. bytes_eq x.name m.name) ms)) ((bytes_eq-Decides m.name m.name).1 refl) in
      ap (λ o. option_or o (first_by f ms)) (h m here)
      ∙ ap (option_or (g m)) (agree ms (met ++ m.name ∷ []) s.1 (λ n new.
      skip n (not_in met (met ++ m.name ∷ []) n (λ x y. Contains-append_left met (m.name ∷ []) x y) new)
      ∙ ap (λ b. cond b (Some m) (find (λ x. bytes_eq x.name n) ms)) (differs met m.name n new)))

  pub agree_all : are_new [] (map (λ m. m.name) whole) ≡ true → first_by f whole ≡ first_by g whole
  agree_all e = agree whole [] e (λ n new. refl)

-- the first of those whose names are of what is broken
pub class_broken : (program : Program) (k : Demand) (c : Class) (ds : List protocols.Method) → are_new [] (map (λ m. m.name) c.methods) ≡
    true →
    first_by (broken_by_name (broken_names program k c [] ds)) c.methods ≡ first_by (broken_method program k ds) c.methods
class_broken program k c ds e =
    agree_all c.methods (broken_by_name (broken_names program k c [] ds)) (broken_method program k ds)
    (λ m is. named_broken program k c m is ds) e

pub nothing_demanded : (program : Program) (k : Demand) (ms : List Method) → first_by (broken_method program k []) ms ≡ None
nothing_demanded program k [] = refl
nothing_demanded program k (m ∷ ms) = ap (λ b. option_or (when b (culprit m.place m.name)) (first_by (broken_method program k []) ms))
    (go (not m.is_static)) ∙ nothing_demanded program k ms
  where
    go : (b : Bool) → (b && false) ≡ false
    go true = refl
    go false = refl

-- the first of those that were noted
pub first_broken : (program : Program) (k : Demand) (c : Class) (ds : List protocols.Method) (met : List Name) (ms : List MethodDecl)
    (r : Option Culprit) →
    are_new [] (map (λ m. m.name) ms) ≡ true → c.methods ≡ map source_of ms → met ≡ broken_names program k c [] ds →
    r ≡ first_by (broken_by_name met) (map source_of ms) →
    r ≡ first_by (broken_method program k ds) c.methods
first_broken program k c ds met ms r new same noted is =
    is ∙ ap (λ n. first_by (broken_by_name n) (map source_of ms)) noted ∙ ap (first_by (broken_by_name (broken_names program k c [] ds)))
    (sym same)
    ∙ class_broken program k c ds (ap (λ l. are_new [] (map (λ m. m.name) l)) same ∙ ap (are_new []) (map-map source_of (λ m. m.name) ms) ∙
    new)
