-- What the searches for repeated names find is the culprit.
use Rattle.std.proofs.Common.{◌≡◌, ◌⊎◌, ⊎_elim, inl, ℕ, List, [], ◌∷◌, ◌++◌, map, Option, Some, Bool, true, false, ◌||◌, cond, Contains}
use Rattle.std.proofs.Common.{Decides, refl, sym, ap, subst, ◌∙◌, true≢false, append_assoc, append-nil}
use Rattle.std.specs.List.{flat_map}
use Rattle.std.specs.Option.{option_or}
use Rattle.std.specs.Str.{bytes_eq}
use Rattle.std.proofs.lemmas.Bool.Decides.{Decides-or}
use Rattle.std.proofs.lemmas.List.Elements.{Contains-push, Contains-push_cases, Contains-append_left}
use Rattle.std.proofs.lemmas.Slice.Eq.{bytes_eq-Decides}
use Rattle.mg_text.specs.Call.{Name}
use Rattle.mg_text.specs.declared.place.Place.{Place}
use Rattle.mg_text.specs.Places.{start_of}
use Rattle.mg_read.specs.Culprit.{Culprit, culprit}
use Rattle.mg_read.specs.First.{Judged, clean, here, later, behind, with_earlier}
use Rattle.mg_read.proofs.Judging.{judged-append}
use Rattle.ts_tree.specs.Typestate as protocols
use Rattle.jv_tree.specs.Source.{Decl, ClassDecl, EnumDecl}
use Rattle.jv_rules.specs.Members.{ClassMember, OfField, OfMethod, Sort, OfType, OfTypestate, FieldName, MethodName, ConstantName, Entry}
use Rattle.jv_rules.specs.Members.{entry, decl_entry, typestate_entries, member_entry, entries_in}
use Rattle.jv_rules.specs.Declarations.{built_in_classes, IsTaken, DuplicateName, DuplicateMember}
use Rattle.jv_rules.specs.inner.Deciding.{first_by}
use Rattle.jv_rules.proofs.Tests.{any_decides, decides_as, nothing_in, in_cases}
use Rattle.jv_types.specs.inner.Blaming.{is_in}
use Rattle.jv_types.specs.inner.Repeating.{is_built_in, blamed_entry, repeat_type, repeat_typestate, repeat_member, repeat_constant}
use Rattle.jv_types.specs.inner.Repeating.{repeat_in}
use Rattle.jv_types.proofs.NewNames.{in-Decides}

-- these names are those of the entries of a sort
pub record Knows (s : Sort) (met : List Name) (seen : List Entry) : Type 0 where
  pub there : (n : Name) → Contains met n → (d : Entry) × Contains seen d × (d.sort ≡ s) × (d.name ≡ n)
  pub back : (d : Entry) → Contains seen d → d.sort ≡ s → Contains met d.name

pub knows_none : (s : Sort) → Knows s [] []
knows_none s = record { there = λ n h. absurd (nothing_in n h); back = λ d h e. absurd (nothing_in d h) }

pub knows_more : (s : Sort) (met : List Name) (seen : List Entry) (e : Entry) → Knows s met seen → e.sort ≡ s →
    Knows s (met ++ e.name ∷ []) (seen ++ e ∷ [])
knows_more s met seen e k is = record {
  there = λ n h. ⊎_elim (λ a. let t = k.there n a in (t.0, Contains-append_left seen (e ∷ []) t.0 t.1, t.2, t.3))
      (λ same. (e, Contains-push seen e, is, same)) (Contains-push_cases met e.name n h);
  back = λ d h of. ⊎_elim (λ a. Contains-append_left met (e.name ∷ []) d.name (k.back d a of))
      (λ same. subst (λ x. Contains (met ++ e.name ∷ []) x.name) same (Contains-push met e.name)) (Contains-push_cases seen e d h);
}

pub knows_past : (s : Sort) (met : List Name) (seen : List Entry) (e : Entry) → Knows s met seen → (e.sort ≡ s → ⊥) →
    Knows s met (seen ++ e ∷ [])
knows_past s met seen e k other = record {
  there = λ n h. let t = k.there n h in (t.0, Contains-append_left seen (e ∷ []) t.0 t.1, t.2, t.3);
  back = λ d h of. ⊎_elim (λ a. k.back d a of) (λ same. absurd (other (ap (λ x. x.sort) same ∙ of))) (Contains-push_cases seen e d h);
}

taken-Decides : (s : Sort) (met : List Name) (seen : List Entry) (e : Entry) → Knows s met seen → e.sort ≡ s →
    Decides (is_in met e.name) (IsTaken seen e)
taken-Decides s met seen e k is =
    decides_as (is_in met e.name) (in-Decides met e.name) (λ h. let t = k.there e.name h in (t.0, t.1, t.2 ∙ sym is, t.3))
    (λ t. subst (Contains met) t.3 (k.back t.0 t.1 (t.2 ∙ is)))

built_in-Decides : (n : Name) → Decides (is_built_in n) (Contains built_in_classes n)
built_in-Decides n = any_decides (bytes_eq n) n (λ y. decides_as (bytes_eq n y) (bytes_eq-Decides n y) (λ e. sym e) (λ e. sym e))
    built_in_classes

-- one element is tested, and then the others
judge_more : {X : Type 0} (At : X → Culprit → Type 0) (q : X) (b : Bool) (k : Culprit) (P : Type 0) (xs : List X) (r : Option Culprit) →
    Decides b P → (P → At q k) → ((c : Culprit) → At q c → P) → Judged At xs r → Judged At (q ∷ xs) (cond b (Some k) r)
judge_more At q true k P xs r d to from j = here (to (d.0 refl))
judge_more At q false k P xs r d to from j = later (λ c a. true≢false (sym (d.1 (from c a)))) j

twice : (a b : Bool) (k r : Option Culprit) → cond a k (cond b k r) ≡ cond (b || a) k r
twice true true k r = refl
twice true false k r = refl
twice false true k r = refl
twice false false k r = refl

decl_sort : (d : Decl) → (decl_entry d).sort ≡ OfType
decl_sort (ClassDecl c) = refl
decl_sort (EnumDecl e) = refl

types_judged : (ds : List Decl) (met : List Name) (seen : List Entry) → Knows OfType met seen →
    Judged DuplicateName (behind seen (map decl_entry ds)) (repeat_type met ds)
types_judged [] met seen k = clean
types_judged (d ∷ ds) met seen k =
    let e = decl_entry d in
    let more = types_judged ds (met ++ e.name ∷ []) (seen ++ e ∷ []) (knows_more OfType met seen e k (decl_sort d)) in
    subst (Judged DuplicateName (behind seen (map decl_entry (d ∷ ds))))
    (sym (twice (is_built_in e.name) (is_in met e.name) (Some (blamed_entry e)) (repeat_type (met ++ e.name ∷ []) ds)))
    (judge_more DuplicateName (seen, e) (is_in met e.name || is_built_in e.name) (blamed_entry e)
    (IsTaken seen e ⊎ ((e.sort ≡ OfType) × Contains built_in_classes e.name))
    (behind (seen ++ e ∷ []) (map decl_entry ds)) (repeat_type (met ++ e.name ∷ []) ds)
    (Decides-or _ _ (taken-Decides OfType met seen e k (decl_sort d)) (decides_as (is_built_in e.name) (built_in-Decides e.name)
    (λ h. (decl_sort d, h)) (λ h. h.1)))
    (λ p. (refl, p)) (λ c a. a.1) more)

no_type : OfTypestate ≡ OfType → ⊥
no_type e = cc

typestates_judged : (ts : List protocols.Typestate) (files : List ℕ) (met : List Name) (seen : List Entry) → Knows OfTypestate met seen →
    Judged DuplicateName (behind seen (typestate_entries ts files)) (repeat_typestate met ts files)
typestates_judged [] files met seen k = clean
typestates_judged (t ∷ ts) [] met seen k = clean
typestates_judged (t ∷ ts) (file ∷ files) met seen k =
    let e = entry (start_of file) OfTypestate t.name in
    judge_more DuplicateName (seen, e) (is_in met t.name) (culprit (start_of file) t.name) (IsTaken seen e)
    (behind (seen ++ e ∷ []) (typestate_entries ts files)) (repeat_typestate (met ++ t.name ∷ []) ts files)
    (taken-Decides OfTypestate met seen e k refl) (λ p. (refl, inl p)) (λ c a. ⊎_elim (λ p. p) (λ h. absurd (no_type h.0)) a.1)
    (typestates_judged ts files (met ++ t.name ∷ []) (seen ++ e ∷ []) (knows_more OfTypestate met seen e k refl))

knows_none_yet : (ds : List Decl) → Knows OfTypestate [] (map decl_entry ds)
knows_none_yet ds = record { there = λ n h. absurd (nothing_in n h); back = λ d h e. absurd (go ds d h e) }
  where
    go : (ds : List Decl) (d : Entry) → Contains (map decl_entry ds) d → d.sort ≡ OfTypestate → ⊥
    go [] d h e = nothing_in d h
    go (x ∷ xs) d h e = ⊎_elim (λ same. no_type (sym e ∙ ap (λ z. z.sort) (sym same) ∙ decl_sort x)) (λ h. go xs d h e)
        (in_cases (map decl_entry xs) (decl_entry x) d h)

pub behind-append : {X : Type 0} (seen xs ys : List X) → behind seen (xs ++ ys) ≡ behind seen xs ++ behind (seen ++ xs) ys
behind-append seen [] ys = ap (λ s. behind s ys) (sym (append-nil seen))
behind-append seen (x ∷ xs) ys =
    ap (λ zs. (seen, x) ∷ zs) (behind-append (seen ++ x ∷ []) xs ys ∙ ap (λ s. behind (seen ++ x ∷ []) xs ++ behind s ys)
    (append_assoc seen (x ∷ []) xs))

-- 1. types, and then typestates
pub names_judged : (ds : List Decl) (ts : List protocols.Typestate) (files : List ℕ) →
    Judged DuplicateName (with_earlier (map decl_entry ds ++ typestate_entries ts files))
    (option_or (repeat_type [] ds) (repeat_typestate [] ts files))
names_judged ds ts files =
    subst (λ xs. Judged DuplicateName xs (option_or (repeat_type [] ds) (repeat_typestate [] ts files)))
    (sym (behind-append [] (map decl_entry ds) (typestate_entries ts files)))
    (judged-append (types_judged ds [] [] (knows_none OfType)) (typestates_judged ts files [] (map decl_entry ds) (knows_none_yet ds)))

members_judged : (xs : List ClassMember) (fields methods : List Name) (seen : List Entry) → Knows FieldName fields seen →
    Knows MethodName methods seen →
    Judged DuplicateMember (behind seen (map member_entry xs)) (repeat_member fields methods xs)
members_judged [] fields methods seen k l = clean
members_judged (OfField f ∷ xs) fields methods seen k l =
    let e = entry f.place FieldName f.name in
    let other : FieldName ≡ MethodName → ⊥ = λ h. cc in
    judge_more DuplicateMember (seen, e) (is_in fields f.name) (culprit f.place f.name) (IsTaken seen e)
    (behind (seen ++ e ∷ []) (map member_entry xs)) (repeat_member (fields ++ f.name ∷ []) methods xs)
    (taken-Decides FieldName fields seen e k refl) (λ p. (refl, p)) (λ c a. a.1)
    (members_judged xs (fields ++ f.name ∷ []) methods (seen ++ e ∷ []) (knows_more FieldName fields seen e k refl)
    (knows_past MethodName methods seen e l other))
members_judged (OfMethod m ∷ xs) fields methods seen k l =
    let e = entry m.place MethodName m.name in
    let other : MethodName ≡ FieldName → ⊥ = λ h. cc in
    judge_more DuplicateMember (seen, e) (is_in methods m.name) (culprit m.place m.name) (IsTaken seen e)
    (behind (seen ++ e ∷ []) (map member_entry xs)) (repeat_member fields (methods ++ m.name ∷ []) xs)
    (taken-Decides MethodName methods seen e l refl) (λ p. (refl, p)) (λ c a. a.1)
    (members_judged xs fields (methods ++ m.name ∷ []) (seen ++ e ∷ []) (knows_past FieldName fields seen e k other)
    (knows_more MethodName methods seen e l refl))

constants_judged : (place : Place) (cs : List Name) (met : List Name) (seen : List Entry) → Knows ConstantName met seen →
    Judged DuplicateMember (behind seen (map (entry place ConstantName) cs)) (repeat_constant place met cs)
constants_judged place [] met seen k = clean
constants_judged place (c ∷ cs) met seen k =
    let e = entry place ConstantName c in
    judge_more DuplicateMember (seen, e) (is_in met c) (culprit place c) (IsTaken seen e)
    (behind (seen ++ e ∷ []) (map (entry place ConstantName) cs)) (repeat_constant place (met ++ c ∷ []) cs)
    (taken-Decides ConstantName met seen e k refl) (λ p. (refl, p)) (λ c a. a.1)
    (constants_judged place cs (met ++ c ∷ []) (seen ++ e ∷ []) (knows_more ConstantName met seen e k refl))

decl_judged : (d : Decl) → Judged DuplicateMember (with_earlier (entries_in d)) (repeat_in d)
decl_judged (ClassDecl c) = members_judged _ [] [] [] (knows_none FieldName) (knows_none MethodName)
decl_judged (EnumDecl e) = constants_judged e.place e.constants [] [] (knows_none ConstantName)

-- lists of parts
pub parts_judged : {X Y : Type 0} (At : Y → Culprit → Type 0) (parts : X → List Y) (find : X → Option Culprit) →
    ((x : X) → Judged At (parts x) (find x)) →
    (xs : List X) → Judged At (flat_map parts xs) (first_by find xs)
parts_judged At parts find h [] = clean
parts_judged At parts find h (x ∷ xs) = judged-append (h x) (parts_judged At parts find h xs)

-- 2. the members of each declaration
pub all_members_judged : (ds : List Decl) → Judged DuplicateMember (flat_map (λ d. with_earlier (entries_in d)) ds) (first_by repeat_in ds)
all_members_judged ds = parts_judged DuplicateMember (λ d. with_earlier (entries_in d)) repeat_in decl_judged ds
