-- The tables of a program in which no name is declared twice.
use Rattle.std.proofs.Common.{◌≡◌, ℕ, ◌+◌, ◌<◌, length, get_or, drop, Bor, List, [], ◌∷◌, ◌++◌, map, Option, Some, None, Bool, true, false}
use Rattle.std.proofs.Common.{cond, refl, sym, ap, ◌∙◌, append_assoc, position}
use Rattle.std.specs.Prelude.{flat_map, option_and_then}
use Rattle.std.specs.List.{find}
use Rattle.std.specs.Option.{option_or}
use Rattle.std.specs.Str.{bytes_eq}
use Rattle.std.proofs.lemmas.Grind.{flat_map-append}
use Rattle.std.proofs.lemmas.List.{map-append}
use Rattle.mg_text.specs.Call.{Name}
use Rattle.mg_text.specs.declared.place.Place.{Place}
use Rattle.mg_read.specs.Culprit.{culprit}
use Rattle.jv_tree.specs.declared.tree.Class.{Class as KeptClass}
use Rattle.jv_tree.specs.declared.tree.Enum.{Enum as KeptEnum}
use Rattle.jv_tree.specs.declared.tree.Field.{Field as KeptField}
use Rattle.jv_tree.specs.declared.tree.MethodDecl.{MethodDecl}
use Rattle.jv_tree.specs.declared.tree.Decl.{Decl as KeptDecl}
use Rattle.jv_tree.specs.declared.tree.Decl.TheVariants as decls
use Rattle.jv_tree.specs.declared.tree.File.{File as KeptFile}
use Rattle.jv_tree.specs.Source.{Field, Method, Decl}
use Rattle.jv_tree.specs.View.{class_of, decl_of, field_of, method_of}
use Rattle.ts_tree.specs.Typestate.{Typestate}
use Rattle.jv_meaning.specs.Program.{typestate_named}
use Rattle.jv_rules.specs.Members.{ClassMember, OfField, OfMethod, is_before, methods_before, methods_from, merged, members_of, decl_entry}
use Rattle.jv_rules.specs.inner.Deciding.{first_by}
use Rattle.jv_types.specs.inner.Blaming.{is_in, noted, are_new}
use Rattle.jv_types.specs.inner.Repeating.{is_built_in, blamed_entry, repeat_type, repeat_member, repeat_constant, repeat_in}
use Rattle.jv_types.specs.inner.Kept.{class_kept, enum_kept, kept_decls, kept_classes, kept_enums, typestate_in, followed}
use Rattle.jv_types.specs.declared.entry.ClassEntry.{ClassEntry}
use Rattle.jv_types.specs.declared.entry.EnumEntry.{EnumEntry}
use Rattle.jv_types.proofs.AtIndex.{drop_at}
use Rattle.jv_types.proofs.Entries.{map-map}
use Rattle.jv_types.proofs.Finding.{found_at, found_none}
use Rattle.jv_types.proofs.NewNames.{Some_of, nothing, past, kept, new_join, new_noted, new_some}

-- ---- nothing is found where names are new

pub none_some : {C : Type 0} (b : Bool) (k : C) (r : Option C) → cond b (Some k) r ≡ None → (b ≡ false) × (r ≡ None)
none_some true k r e = let no : ⊥ = cc in absurd no
none_some false k r e = (refl, e)

abbrev field_names : List ClassMember → List Name
field_names [] = []
field_names (OfField f ∷ xs) = f.name ∷ field_names xs
field_names (OfMethod m ∷ xs) = field_names xs

abbrev method_names : List ClassMember → List Name
method_names [] = []
method_names (OfField f ∷ xs) = method_names xs
method_names (OfMethod m ∷ xs) = m.name ∷ method_names xs

members_new : (xs : List ClassMember) (fs ms : List Name) → repeat_member fs ms xs ≡ None → (are_new fs (field_names xs) ≡ true)
    × (are_new ms (method_names xs) ≡ true)
members_new [] fs ms e = (refl, refl)
members_new (OfField f ∷ xs) fs ms e =
    let h = none_some (is_in fs f.name) (culprit f.place f.name) (repeat_member (fs ++ f.name ∷ []) ms xs) e in
    let r = members_new xs (fs ++ f.name ∷ []) ms h.1 in
    (new_join fs (field_names xs) f.name h.0 r.0, r.1)
members_new (OfMethod m ∷ xs) fs ms e =
    let h = none_some (is_in ms m.name) (culprit m.place m.name) (repeat_member fs (ms ++ m.name ∷ []) xs) e in
    let r = members_new xs fs (ms ++ m.name ∷ []) h.1 in
    (r.0, new_join ms (method_names xs) m.name h.0 r.1)

fields-append : (xs ys : List ClassMember) → field_names (xs ++ ys) ≡ field_names xs ++ field_names ys
fields-append [] ys = refl
fields-append (OfField f ∷ xs) ys = ap (λ ns. f.name ∷ ns) (fields-append xs ys)
fields-append (OfMethod m ∷ xs) ys = fields-append xs ys

methods-append : (xs ys : List ClassMember) → method_names (xs ++ ys) ≡ method_names xs ++ method_names ys
methods-append [] ys = refl
methods-append (OfField f ∷ xs) ys = methods-append xs ys
methods-append (OfMethod m ∷ xs) ys = ap (λ ns. m.name ∷ ns) (methods-append xs ys)

no_fields : (ms : List Method) → field_names (map OfMethod ms) ≡ []
no_fields [] = refl
no_fields (m ∷ ms) = no_fields ms

all_methods : (ms : List Method) → method_names (map OfMethod ms) ≡ map (λ m. m.name) ms
all_methods [] = refl
all_methods (m ∷ ms) = ap (λ ns. m.name ∷ ns) (all_methods ms)

pub cut_methods : (p : Place) (ms : List Method) → methods_before p ms ++ methods_from p ms ≡ ms
cut_methods p [] = refl
cut_methods p (m ∷ ms) = go (is_before m.place p) (cut_methods p ms)
  where
    go : (b : Bool) → methods_before p ms ++ methods_from p ms ≡ ms → cond b (m ∷ methods_before p ms) [] ++ cond b (methods_from p ms)
        (m ∷ ms) ≡ m ∷ ms
    go true e = ap (λ ns. m ∷ ns) e
    go false e = refl

merged_fields : (fs : List Field) (ms : List Method) → field_names (merged fs ms) ≡ map (λ f. f.name) fs
merged_fields [] ms = no_fields ms
merged_fields (f ∷ fs) ms =
    fields-append (map OfMethod (methods_before f.place ms)) (OfField f ∷ merged fs (methods_from f.place ms))
    ∙ ap (λ ns. ns ++ f.name ∷ field_names (merged fs (methods_from f.place ms))) (no_fields (methods_before f.place ms))
    ∙ ap (λ ns. f.name ∷ ns) (merged_fields fs (methods_from f.place ms))

merged_methods : (fs : List Field) (ms : List Method) → method_names (merged fs ms) ≡ map (λ m. m.name) ms
merged_methods [] ms = all_methods ms
merged_methods (f ∷ fs) ms =
    methods-append (map OfMethod (methods_before f.place ms)) (OfField f ∷ merged fs (methods_from f.place ms))
    ∙ ap (λ ns. ns ++ method_names (merged fs (methods_from f.place ms))) (all_methods (methods_before f.place ms))
    ∙ ap (λ ns. map (λ m. m.name) (methods_before f.place ms) ++ ns) (merged_methods fs (methods_from f.place ms))
    ∙ sym (map-append (λ m. m.name) (methods_before f.place ms) (methods_from f.place ms))
    ∙ ap (map (λ m. m.name)) (cut_methods f.place ms)

module _ (c : KeptClass) (e : repeat_member [] [] (members_of (class_of c)) ≡ None) where
  pub fields_new : are_new [] (map (λ f. f.name) c.fields.items) ≡ true
  fields_new =
      ap (are_new []) (sym (merged_fields (map field_of c.fields.items) (map method_of c.methods.items) ∙ map-map field_of (λ f. f.name)
      c.fields.items))
      ∙ (members_new (members_of (class_of c)) [] [] e).0

  pub methods_new : are_new [] (map (λ m. m.name) c.methods.items) ≡ true
  methods_new =
      ap (are_new []) (sym (merged_methods (map field_of c.fields.items) (map method_of c.methods.items) ∙ map-map method_of (λ m. m.name)
      c.methods.items))
      ∙ (members_new (members_of (class_of c)) [] [] e).1

  pub fields_named : (names : List Name) (fs : List KeptField) → fs ≡ c.fields.items → names ≡ noted [] (map (λ f. f.name) fs) →
      names ≡ map (λ f. f.name) c.fields.items
  fields_named names fs same is = is ∙ ap (λ xs. noted [] (map (λ f. f.name) xs)) same ∙ new_noted [] (map (λ f. f.name) c.fields.items)
      fields_new

  pub methods_named : (names : List Name) (ms : List MethodDecl) → ms ≡ c.methods.items → names ≡ noted [] (map (λ m. m.name) ms) →
      names ≡ map (λ m. m.name) c.methods.items
  methods_named names ms same is = is ∙ ap (λ xs. noted [] (map (λ m. m.name) xs)) same ∙ new_noted [] (map (λ m. m.name) c.methods.items)
      methods_new

constants_new : (p : Place) (met cs : List Name) → repeat_constant p met cs ≡ None → are_new met cs ≡ true
constants_new p met [] e = refl
constants_new p met (c ∷ cs) e =
    let h = none_some (is_in met c) (culprit p c) (repeat_constant p (met ++ c ∷ []) cs) e in
    new_join met cs c h.0 (constants_new p (met ++ c ∷ []) cs h.1)

pub constants_named : (of : KeptEnum) → repeat_constant of.place [] of.constants.items ≡ None → (names cs : List Name) →
    cs ≡ of.constants.items → names ≡ noted [] cs → names ≡ of.constants.items
constants_named of e names cs same is = is ∙ ap (noted []) same ∙ new_noted [] of.constants.items
    (constants_new of.place [] of.constants.items e)

-- ---- names of types

types_new : (met : List Name) (ds : List Decl) → repeat_type met ds ≡ None → are_new met (map (λ d. (decl_entry d).name) ds) ≡ true
types_new met [] e = refl
types_new met (d ∷ ds) e =
    let n = (decl_entry d).name in
    let h = none_some (is_built_in n) (blamed_entry (decl_entry d)) _ e in
    let k = none_some (is_in met n) (blamed_entry (decl_entry d)) (repeat_type (met ++ n ∷ []) ds) h.1 in
    new_join met (map (λ d. (decl_entry d).name) ds) n k.0 (types_new (met ++ n ∷ []) ds k.1)

some_classes : (ds : List KeptDecl) → Some_of (map (λ c. c.name) (flat_map class_kept ds)) (map (λ d. (decl_entry d).name) (map decl_of ds))
some_classes [] = nothing
some_classes (decls.Class c ∷ ds) = kept (some_classes ds)
some_classes (decls.Enum e ∷ ds) = past (some_classes ds)

some_enums : (ds : List KeptDecl) → Some_of (map (λ e. e.name) (flat_map enum_kept ds)) (map (λ d. (decl_entry d).name) (map decl_of ds))
some_enums [] = nothing
some_enums (decls.Class c ∷ ds) = past (some_enums ds)
some_enums (decls.Enum e ∷ ds) = kept (some_enums ds)

pub classes_in : (files : List KeptFile) → flat_map class_kept (kept_decls files) ≡ kept_classes files
classes_in [] = refl
classes_in (f ∷ fs) = flat_map-append class_kept f.decls.items (kept_decls fs) ∙ ap (λ cs. flat_map class_kept f.decls.items ++ cs)
    (classes_in fs)

pub enums_in : (files : List KeptFile) → flat_map enum_kept (kept_decls files) ≡ kept_enums files
enums_in [] = refl
enums_in (f ∷ fs) = flat_map-append enum_kept f.decls.items (kept_decls fs) ∙ ap (λ es. flat_map enum_kept f.decls.items ++ es)
    (enums_in fs)

module _ (files : List KeptFile) (e : repeat_type [] (map decl_of (kept_decls files)) ≡ None) where
  pub class_names_new : are_new [] (map (λ c. c.name) (kept_classes files)) ≡ true
  class_names_new =
      ap (λ cs. are_new [] (map (λ c. c.name) cs)) (sym (classes_in files))
      ∙ new_some [] [] (some_classes (kept_decls files)) (λ n h. h) (types_new [] (map decl_of (kept_decls files)) e)

  pub enum_names_new : are_new [] (map (λ e. e.name) (kept_enums files)) ≡ true
  enum_names_new =
      ap (λ es. are_new [] (map (λ e. e.name) es)) (sym (enums_in files))
      ∙ new_some [] [] (some_enums (kept_decls files)) (λ n h. h) (types_new [] (map decl_of (kept_decls files)) e)

-- ---- declarations, one after another

pub none_or : {C : Type 0} (a b : Option C) → option_or a b ≡ None → (a ≡ None) × (b ≡ None)
none_or None b e = (refl, e)
none_or (Some c) b e = let no : ⊥ = cc in absurd no

-- the declaration at an index, and those behind it
module _ (ds : List (Bor KeptDecl)) (i : ℕ) (x : Bor KeptDecl) (within : i < length ds) (is : x ≡ get_or ds i x) where
  here_and_later : first_by repeat_in (map (λ d. decl_of d.now) (drop i ds)) ≡ option_or (repeat_in (decl_of x.now))
      (first_by repeat_in (map (λ d. decl_of d.now) (drop (i + 1) ds)))
  here_and_later = ap (λ l. first_by repeat_in (map (λ (d : Bor KeptDecl). decl_of d.now) l)) (drop_at ds i x within is)

  module _ (e : first_by repeat_in (map (λ d. decl_of d.now) (drop i ds)) ≡ None) where
    pub none_here : repeat_in (decl_of x.now) ≡ None
    none_here = (none_or _ _ (sym here_and_later ∙ e)).0

    pub none_later : first_by repeat_in (map (λ d. decl_of d.now) (drop (i + 1) ds)) ≡ None
    none_later = (none_or _ _ (sym here_and_later ∙ e)).1

  pub kept_more : {Z : Type 0} (K : KeptDecl → List Z) (old new whole : List Z) → old ++ flat_map K (map (λ d. d.now) (drop i ds)) ≡ whole →
      new ≡ old ++ K x.now →
      new ++ flat_map K (map (λ d. d.now) (drop (i + 1) ds)) ≡ whole
  kept_more {Z} K old new whole e m =
      ap (λ (zs : List Z). zs ++ flat_map K (map (λ (d : Bor KeptDecl). d.now) (drop (i + 1) ds))) m
      ∙ append_assoc old (K x.now) (flat_map K (map (λ (d : Bor KeptDecl). d.now) (drop (i + 1) ds)))
      ∙ ap (λ (l : List (Bor KeptDecl)). old ++ flat_map K (map (λ (d : Bor KeptDecl). d.now) l)) (sym (drop_at ds i x within is))
      ∙ e

-- ---- entries

pub member_of_class : (d : KeptDecl) (c : KeptClass) → d ≡ decls.Class c → repeat_in (decl_of d) ≡ None →
    repeat_member [] [] (members_of (class_of c)) ≡ None
member_of_class d c is e = ap (λ x. repeat_in (decl_of x)) (sym is) ∙ e

pub constant_of_enum : (d : KeptDecl) (c : KeptEnum) → d ≡ decls.Enum c → repeat_in (decl_of d) ≡ None →
    repeat_constant c.place [] c.constants.items ≡ None
constant_of_enum d c is e = ap (λ x. repeat_in (decl_of x)) (sym is) ∙ e

pub follow_more : (ts : List Typestate) (es ns : List ClassEntry) (e : ClassEntry) (c : KeptClass) (o : Option Typestate) → e.class.now ≡ c
    → typestate_in e ≡ o →
    o ≡ option_and_then (typestate_named ts) c.typestate → ns ≡ es ++ e ∷ [] → map typestate_in es ≡ map (followed ts) es →
    map typestate_in ns ≡ map (followed ts) ns
follow_more ts es ns e c o class given named more h =
    ap (map typestate_in) more ∙ map-append typestate_in es (e ∷ []) ∙ ap (λ xs. xs ++ typestate_in e ∷ []) h
    ∙ ap (λ t. map (followed ts) es ++ t ∷ []) (given ∙ named ∙ ap (λ k. option_and_then (typestate_named ts) k.typestate) (sym class))
    ∙ sym (ap (map (followed ts)) more ∙ map-append (followed ts) es (e ∷ []))

pub class_more : (es ns : List ClassEntry) (e : ClassEntry) (c : KeptClass) (d : KeptDecl) → d ≡ decls.Class c → e.class.now ≡ c →
    ns ≡ es ++ e ∷ [] →
    map (λ e. e.class.now) ns ≡ map (λ e. e.class.now) es ++ class_kept d
class_more es ns e c d is class more =
    ap (map (λ x. x.class.now)) more ∙ map-append (λ x. x.class.now) es (e ∷ []) ∙ ap (λ k. map (λ x. x.class.now) es ++ k ∷ []) class
    ∙ ap (λ k. map (λ x. x.class.now) es ++ class_kept k) (sym is)

pub enum_more : (es ns : List EnumEntry) (e : EnumEntry) (c : KeptEnum) (d : KeptDecl) → d ≡ decls.Enum c → e.of.now ≡ c → ns ≡ es ++ e ∷ []
    →
    map (λ e. e.of.now) ns ≡ map (λ e. e.of.now) es ++ enum_kept d
enum_more es ns e c d is of more =
    ap (map (λ x. x.of.now)) more ∙ map-append (λ x. x.of.now) es (e ∷ []) ∙ ap (λ k. map (λ x. x.of.now) es ++ k ∷ []) of
    ∙ ap (λ k. map (λ x. x.of.now) es ++ enum_kept k) (sym is)

pub class_table : (files : List KeptFile) → repeat_type [] (map decl_of (kept_decls files)) ≡ None →
    (names : List Name) (es slice : List ClassEntry) → slice ≡ es →
    map (λ e. e.class.now) es ≡ kept_classes files → names ≡ noted [] (map (λ e. e.class.now.name) slice) →
    names ≡ map (λ c. c.name) (kept_classes files)
class_table files new names es slice same all is =
    is ∙ ap (λ xs. noted [] (map (λ e. e.class.now.name) xs)) same ∙ ap (noted []) (sym (map-map (λ e. e.class.now) (λ c. c.name) es) ∙
    ap (map (λ c. c.name)) all)
    ∙ new_noted [] (map (λ c. c.name) (kept_classes files)) (class_names_new files new)

pub enum_table : (files : List KeptFile) → repeat_type [] (map decl_of (kept_decls files)) ≡ None →
    (names : List Name) (es slice : List EnumEntry) → slice ≡ es →
    map (λ e. e.of.now) es ≡ kept_enums files → names ≡ noted [] (map (λ e. e.of.now.name) slice) →
    names ≡ map (λ e. e.name) (kept_enums files)
enum_table files new names es slice same all is =
    is ∙ ap (λ xs. noted [] (map (λ e. e.of.now.name) xs)) same ∙ ap (noted []) (sym (map-map (λ e. e.of.now) (λ e. e.name) es) ∙
    ap (map (λ e. e.name)) all)
    ∙ new_noted [] (map (λ e. e.name) (kept_enums files)) (enum_names_new files new)

-- ---- the typestate of a class

map-same : {X : Type 0} (xs : List X) → map (λ x. x) xs ≡ xs
map-same [] = refl
map-same (x ∷ xs) = ap (λ ys. x ∷ ys) (map-same xs)

module _ (ts : List Typestate) (names : List Name) (all : names ≡ map (λ t. t.name) ts) (o : Option Name) (n : Name) (named : o ≡ Some n)
    (text : Name) (same : text ≡ n) where
  pub typestate_found : (i : ℕ) → Some i ≡ position (bytes_eq text) names → (t : Typestate) → t ≡ get_or ts i t →
      Some t ≡ option_and_then (typestate_named ts) o
  typestate_found i at t is =
      found_at text (λ (x : Typestate). x.name) (λ x. x) (λ x. x.name) (λ x. refl) ts ts refl i t (ap (position (bytes_eq text)) (sym all) ∙
      sym at) is
      ∙ ap (find (λ x. bytes_eq x.name text)) (map-same ts) ∙ ap (typestate_named ts) same ∙ ap (option_and_then (typestate_named ts))
      (sym named)

  pub typestate_missing : None ≡ position (bytes_eq text) names → None ≡ option_and_then (typestate_named ts) o
  typestate_missing at =
      found_none text (λ (x : Typestate). x.name) (λ x. x) (λ x. x.name) (λ x. refl) ts (ap (position (bytes_eq text)) (sym all) ∙ sym at)
      ∙ ap (find (λ x. bytes_eq x.name text)) (map-same ts) ∙ ap (typestate_named ts) same ∙ ap (option_and_then (typestate_named ts))
      (sym named)
