-- What is declared once stands apart: classes and enums, typestates, the members of a class and the constants of an enum.
use Rattle.std.proofs.Common.{◌≡◌, ⊎_elim, Bool, true, false, cond, List, [], ◌∷◌, ◌++◌, map, Contains, refl, sym, ap, ◌∙◌, subst}
use Rattle.std.specs.Prelude.{if◌then◌else◌}
use Rattle.std.specs.List.{AllByRecursion}
use Rattle.std.proofs.lemmas.List.{map-append}
use Rattle.std.proofs.lemmas.List.Elements.{Contains-append_left, Contains-append_right, Contains-append_cases, Contains-push}
use Rattle.mg_text.specs.Call.{Name}
use Rattle.mg_text.specs.declared.place.Place.{Place}
use Rattle.mg_read.specs.Culprit.{culprit}
use Rattle.mg_read.specs.First.{Clean, behind, with_earlier}
use Rattle.ts_tree.specs.Proper.{AreDistinct}
use Rattle.jv_tree.specs.Source.{Field, Method, Class, Enum, ClassDecl, EnumDecl}
use Rattle.jv_rules.specs.Members.{Sort, OfType, OfTypestate, FieldName, MethodName, ConstantName, Entry, entry, ClassMember, OfField}
use Rattle.jv_rules.specs.Members.{OfMethod}
use Rattle.jv_rules.specs.Members.{is_before, methods_before, methods_from, merged, member_entry, entries_in}
use Rattle.jv_rules.specs.Declarations.{DuplicateMember, IsTaken}
use Rattle.jv_rules.proofs.Tests.{nothing_in, in_cases, in_first, in_later}

abbrev pub same_sort : Sort → Sort → Bool
same_sort OfType OfType = true
same_sort OfTypestate OfTypestate = true
same_sort FieldName FieldName = true
same_sort MethodName MethodName = true
same_sort ConstantName ConstantName = true
same_sort _ _ = false

sorts_same : (a b : Sort) → same_sort a b ≡ true → a ≡ b
sorts_same OfType OfType e = refl
sorts_same OfTypestate OfTypestate e = refl
sorts_same FieldName FieldName e = refl
sorts_same MethodName MethodName e = refl
sorts_same ConstantName ConstantName e = refl
sorts_same _ _ e = absurd (cc)

-- the names of a sort
abbrev pub names_in : Sort → List Entry → List Name
names_in s [] = []
names_in s (e ∷ es) = if same_sort e.sort s then e.name ∷ names_in s es else names_in s es

pub names_in-append : (s : Sort) (xs ys : List Entry) → names_in s (xs ++ ys) ≡ names_in s xs ++ names_in s ys
names_in-append s [] ys = refl
names_in-append s (e ∷ xs) ys = go (same_sort e.sort s) (names_in-append s xs ys)
  where
    go : (b : Bool) → names_in s (xs ++ ys) ≡ names_in s xs ++ names_in s ys →
        cond b (e.name ∷ names_in s (xs ++ ys)) (names_in s (xs ++ ys)) ≡ cond b (e.name ∷ names_in s xs) (names_in s xs) ++ names_in s ys
    go true ih = ap (λ ns. e.name ∷ ns) ih
    go false ih = ih

-- no entry's name was declared before
abbrev pub AreNew : List (List Entry × Entry) → Type 0
AreNew qs = AllByRecursion (λ q. IsTaken q.0 q.1 → ⊥) qs

not_later : (s : Sort) (seen es : List Entry) → AreNew (behind seen es) → (d : Entry) → Contains seen d → d.sort ≡ s →
    Contains (names_in s es) d.name → ⊥
not_later s seen [] new d in' is has = nothing_in d.name has
not_later s seen (e ∷ es) new d in' is has =
    go (same_sort e.sort s) refl (not_later s (seen ++ e ∷ []) es new.1 d (Contains-append_left seen (e ∷ []) d in') is) has
  where
    go : (b : Bool) → same_sort e.sort s ≡ b → (Contains (names_in s es) d.name → ⊥) →
        Contains (cond b (e.name ∷ names_in s es) (names_in s es)) d.name → ⊥
    go true same ih has =
        ⊎_elim (λ is_it. new.0 (d, in', is ∙ sym (sorts_same e.sort s same), sym is_it)) ih (in_cases (names_in s es) e.name d.name has)
    go false same ih has = ih has

pub apart_in : (s : Sort) (seen es : List Entry) → AreNew (behind seen es) → AreDistinct (names_in s es)
apart_in s seen [] new = tt
apart_in s seen (e ∷ es) new =
    go (same_sort e.sort s) refl (apart_in s (seen ++ e ∷ []) es new.1)
  where
    go : (b : Bool) → same_sort e.sort s ≡ b → AreDistinct (names_in s es) → AreDistinct (cond b (e.name ∷ names_in s es) (names_in s es))
    go true same ih = ((λ has. not_later s (seen ++ e ∷ []) es new.1 e (Contains-push seen e) (sorts_same e.sort s same) has), ih)
    go false same ih = ih

-- Members and constants.

members_new : (qs : List (List Entry × Entry)) → Clean DuplicateMember qs → AreNew qs
members_new [] h = tt
members_new (q ∷ qs) h = ((λ taken. h.0 (culprit q.1.place q.1.name) (refl, taken)), members_new qs h.1)

fields_none : (ms : List Method) → names_in FieldName (map member_entry (map OfMethod ms)) ≡ []
fields_none [] = refl
fields_none (m ∷ ms) = fields_none ms

methods_all : (ms : List Method) → names_in MethodName (map member_entry (map OfMethod ms)) ≡ map (λ m. m.name) ms
methods_all [] = refl
methods_all (m ∷ ms) = ap (λ ns. m.name ∷ ns) (methods_all ms)

split : (p : Place) (ms : List Method) → methods_before p ms ++ methods_from p ms ≡ ms
split p [] = refl
split p (m ∷ ms) = go (is_before m.place p) (split p ms)
  where
    go : (b : Bool) → methods_before p ms ++ methods_from p ms ≡ ms →
        cond b (m ∷ methods_before p ms) [] ++ cond b (methods_from p ms) (m ∷ ms) ≡ m ∷ ms
    go true ih = ap (λ ms. m ∷ ms) ih
    go false ih = refl

in_parts : (s : Sort) (xs ys : List ClassMember) →
    names_in s (map member_entry (xs ++ ys)) ≡ names_in s (map member_entry xs) ++ names_in s (map member_entry ys)
in_parts s xs ys = ap (names_in s) (map-append member_entry xs ys) ∙ names_in-append s (map member_entry xs) (map member_entry ys)

fields_in : (fs : List Field) (ms : List Method) → names_in FieldName (map member_entry (merged fs ms)) ≡ map (λ f. f.name) fs
fields_in [] ms = fields_none ms
fields_in (f ∷ fs) ms =
    in_parts FieldName (map OfMethod (methods_before f.place ms)) (OfField f ∷ merged fs (methods_from f.place ms))
    ∙ ap (λ ns. ns ++ f.name ∷ names_in FieldName (map member_entry (merged fs (methods_from f.place ms))))
    (fields_none (methods_before f.place ms))
    ∙ ap (λ ns. f.name ∷ ns) (fields_in fs (methods_from f.place ms))

methods_in : (fs : List Field) (ms : List Method) → names_in MethodName (map member_entry (merged fs ms)) ≡ map (λ m. m.name) ms
methods_in [] ms = methods_all ms
methods_in (f ∷ fs) ms =
    in_parts MethodName (map OfMethod (methods_before f.place ms)) (OfField f ∷ merged fs (methods_from f.place ms))
    ∙ ap (λ ns. ns ++ names_in MethodName (map member_entry (merged fs (methods_from f.place ms))))
    (methods_all (methods_before f.place ms))
    ∙ ap (λ ns. map (λ (m : Method). m.name) (methods_before f.place ms) ++ ns) (methods_in fs (methods_from f.place ms))
    ∙ sym (map-append (λ (m : Method). m.name) (methods_before f.place ms) (methods_from f.place ms))
    ∙ ap (map (λ (m : Method). m.name)) (split f.place ms)

constants_in : (p : Place) (cs : List Name) → names_in ConstantName (map (entry p ConstantName) cs) ≡ cs
constants_in p [] = refl
constants_in p (c ∷ cs) = ap (λ ns. c ∷ ns) (constants_in p cs)

pub fields_apart : (c : Class) → Clean DuplicateMember (with_earlier (entries_in (ClassDecl c))) → AreDistinct (map (λ f. f.name) c.fields)
fields_apart c h = subst AreDistinct (fields_in c.fields c.methods) (apart_in FieldName [] (entries_in (ClassDecl c)) (members_new _ h))

pub methods_apart : (c : Class) → Clean DuplicateMember (with_earlier (entries_in (ClassDecl c))) →
    AreDistinct (map (λ m. m.name) c.methods)
methods_apart c h = subst AreDistinct (methods_in c.fields c.methods) (apart_in MethodName [] (entries_in (ClassDecl c)) (members_new _ h))

pub constants_apart : (e : Enum) → Clean DuplicateMember (with_earlier (entries_in (EnumDecl e))) → AreDistinct e.constants
constants_apart e h = subst AreDistinct (constants_in e.place e.constants) (apart_in ConstantName [] (entries_in (EnumDecl e))
    (members_new _ h))

-- A field and a method stand among the members of their class.

pub field_stands : (fs : List Field) (ms : List Method) (f : Field) → Contains fs f → Contains (merged fs ms) (OfField f)
field_stands [] ms f has = absurd (nothing_in f has)
field_stands (g ∷ fs) ms f has =
    Contains-append_right (map OfMethod (methods_before g.place ms)) (OfField g ∷ merged fs (methods_from g.place ms)) (OfField f)
    (⊎_elim (λ same. subst (λ g'. Contains (OfField g' ∷ merged fs (methods_from g.place ms)) (OfField f)) (sym same)
    (in_first (merged fs (methods_from g.place ms)) (OfField f)))
    (λ more. in_later (merged fs (methods_from g.place ms)) (OfField g) (OfField f) (field_stands fs (methods_from g.place ms) f more))
    (in_cases fs g f has))

mapped : (ms : List Method) (m : Method) → Contains ms m → Contains (map OfMethod ms) (OfMethod m)
mapped [] m has = absurd (nothing_in m has)
mapped (n ∷ ms) m has =
    ⊎_elim (λ same. subst (λ w. Contains (OfMethod w ∷ map OfMethod ms) (OfMethod m)) (sym same) (in_first (map OfMethod ms) (OfMethod m)))
    (λ more. in_later (map OfMethod ms) (OfMethod n) (OfMethod m) (mapped ms m more)) (in_cases ms n m has)

pub method_stands : (fs : List Field) (ms : List Method) (m : Method) → Contains ms m → Contains (merged fs ms) (OfMethod m)
method_stands [] ms m has = mapped ms m has
method_stands (f ∷ fs) ms m has =
    ⊎_elim
    (λ early. Contains-append_left (map OfMethod before) later (OfMethod m) (mapped before m early))
    (λ late. Contains-append_right (map OfMethod before) later (OfMethod m)
    (in_later (merged fs from) (OfField f) (OfMethod m) (method_stands fs from m late)))
    (Contains-append_cases before from m (subst (λ ms. Contains ms m) (sym (split f.place ms)) has))
  where
    before : List Method
    before = methods_before f.place ms

    from : List Method
    from = methods_from f.place ms

    later : List ClassMember
    later = OfField f ∷ merged fs from
