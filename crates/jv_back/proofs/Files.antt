-- The text of a file is told as the same file, places aside.
use Rattle.std.proofs.Common.{◌≡◌, ℕ, ◌≤◌, max, inl, List, [], ◌∷◌, ◌++◌, map, Option, Some, None, refl, sym, ap, ap₂, subst, ◌∙◌}
use Rattle.std.proofs.Common.{append_assoc, arith, codes}
use Rattle.std.specs.List.{AllByRecursion, flat_map}
use Rattle.std.specs.Str.{IsUtf8}
use Rattle.mg_text.specs.Call.{Name}
use Rattle.mg_text.specs.declared.place.Place.{Place}
use Rattle.jv_tree.specs.declared.token.Sign.TheVariants as signs
use Rattle.jv_tree.specs.declared.token.Token.{Token}
use Rattle.jv_tree.specs.Source.{Field, Method, Class, Enum, Decl, ClassDecl, EnumDecl, File}
use Rattle.jv_tree.specs.Depth.{depth_of_fields, depth_of_methods, depth_of_decl, depth_of_file}
use Rattle.jv_tree.specs.Tokens as tokens
use Rattle.jv_tree.specs.Files.{Member, FieldMember, MethodMember, fields_among, methods_among, AreMembers, IsAnnotation, IsClass}
use Rattle.jv_tree.specs.Files.{AreMoreNames, AreNames, IsEnum, IsDecl, AreDecls, IsFile}
use Rattle.jv_print.specs.Layout.{field_line, method_lines, annotation, class_lines, names_text, enum_lines, decl_lines, layout}
use Rattle.jv_back.specs.Bare.{bare_field, bare_method, bare_class, bare_enum, bare_decl, bare_file, nowhere}
use Rattle.jv_back.proofs.Told.{Any, NoWord, Told, nothing, convert, space_then, line_then, Front, mark_then, IsWord, word_then, plain_word}
use Rattle.jv_back.proofs.Told.{IsNamed, named, Both, both}
use Rattle.jv_back.proofs.Texts.{text_told}
use Rattle.jv_back.proofs.Parts.{on, past}
use Rattle.jv_back.proofs.Members.{IsWrittenField, FieldPart, field_told, IsWrittenMethod, MethodPart, method_told}

-- ---- files that can be written

abbrev pub IsWrittenText : Option (List ℕ) → Type 0
IsWrittenText None = Unit {0}
IsWrittenText (Some t) = IsUtf8 t

pub record IsWrittenClass (c : Class) : Type 0 where
  pub name : IsNamed c.name
  pub typestate : IsWrittenText c.typestate
  pub fields : AllByRecursion IsWrittenField c.fields
  pub methods : AllByRecursion IsWrittenMethod c.methods

abbrev pub AreWrittenConstants : List Name → Type 0
AreWrittenConstants [] = ⊥
AreWrittenConstants (n ∷ ns) = AllByRecursion IsNamed (n ∷ ns)

pub record IsWrittenEnum (e : Enum) : Type 0 where
  pub name : IsNamed e.name
  pub constants : AreWrittenConstants e.constants

abbrev pub IsWrittenDecl : Decl → Type 0
IsWrittenDecl (ClassDecl c) = IsWrittenClass c
IsWrittenDecl (EnumDecl e) = IsWrittenEnum e

-- ---- members

abbrev FieldsPart : List Field → List Token → Type 0
FieldsPart fs ts = (gs : List Field) × (map bare_field gs ≡ map bare_field fs) × AreMembers (map FieldMember gs) ts

abbrev MethodsPart : List Method → List Token → Type 0
MethodsPart ms ts = (ns : List Method) × (map bare_method ns ≡ map bare_method ms) × AreMembers (map MethodMember ns) ts

fields_told : (fs : List Field) → AllByRecursion IsWrittenField fs → depth_of_fields fs ≤ 399
    → Told Any (FieldsPart fs) (flat_map field_line fs)
fields_told [] w d = convert (λ ts e. ([], refl, e)) nothing
fields_told (f ∷ fs) w d =
    convert form (both (field_told f w.0 (omega (arith, d))) (λ bytes o. tt) (fields_told fs w.1 (omega (arith, d))))
  where
    form : (ts : List Token) → Both (FieldPart f) (FieldsPart fs) ts → FieldsPart (f ∷ fs) ts
    form ts (us, vs, e, (g, same, is), (gs, alike, are)) = (g ∷ gs, ap₂ (λ x y. x ∷ y) same alike, (us, vs, e, is, are))

methods_told : (ms : List Method) → AllByRecursion IsWrittenMethod ms → depth_of_methods ms ≤ 399
    → Told Any (MethodsPart ms) (flat_map method_lines ms)
methods_told [] w d = convert (λ ts e. ([], refl, e)) nothing
methods_told (m ∷ ms) w d =
    convert form (both (method_told m w.0 (omega (arith, d))) (λ bytes o. tt) (methods_told ms w.1 (omega (arith, d))))
  where
    form : (ts : List Token) → Both (MethodPart m) (MethodsPart ms) ts → MethodsPart (m ∷ ms) ts
    form ts (us, vs, e, (n, same, is), (ns, alike, are)) = (n ∷ ns, ap₂ (λ x y. x ∷ y) same alike, (us, vs, e, is, are))

members_join : (xs ys : List Member) (us vs : List Token) → AreMembers xs us → AreMembers ys vs → AreMembers (xs ++ ys) (us ++ vs)
members_join [] ys us vs e h = subst (λ z. AreMembers ys (z ++ vs)) (sym e) h
members_join (x ∷ xs) ys us vs (first, rest, e, is, are) h =
    (first, rest ++ vs, ap (λ z. z ++ vs) e ∙ append_assoc first rest vs, is, members_join xs ys rest vs are h)

only_fields : (gs : List Field) (ns : List Method) → fields_among (map FieldMember gs ++ map MethodMember ns) ≡ gs
only_fields [] [] = refl
only_fields [] (n ∷ ns) = only_fields [] ns
only_fields (g ∷ gs) ns = ap (λ z. g ∷ z) (only_fields gs ns)

only_methods : (gs : List Field) (ns : List Method) → methods_among (map FieldMember gs ++ map MethodMember ns) ≡ ns
only_methods [] [] = refl
only_methods [] (n ∷ ns) = ap (λ z. n ∷ z) (only_methods [] ns)
only_methods (g ∷ gs) ns = only_methods gs ns

-- ---- classes

typestate_word : IsWord (codes "Typestate")
typestate_word = plain_word (codes "Typestate") refl refl

annotation_told : (t : Option (List ℕ)) → IsWrittenText t → Told Any (IsAnnotation t) (annotation t)
annotation_told None w = nothing
annotation_told (Some t) w =
    convert form (mark_then signs.At refl (λ c. refl) (word_then (codes "Typestate") typestate_word (λ bytes o. refl)
    (mark_then signs.OpenParen refl (λ c. refl) (both (text_told {ok = Any} t w) (λ bytes o. tt)
    (mark_then signs.CloseParen refl (λ c. refl) (line_then nothing))))))
  where
    form : (ts : List Token)
        → Front (λ a. tokens.sign a signs.At) (Front (λ a. tokens.word a (codes "Typestate")) (Front (λ a. tokens.sign a signs.OpenParen)
        (Both (λ us. (a : Place) × (us ≡ tokens.quoted a t ∷ [])) (Front (λ a. tokens.sign a signs.CloseParen) (λ us. us ≡ []))))) ts
        → IsAnnotation (Some t) ts
    form ts (a, t1, e1, (b, t2, e2, (c, t3, e3, (us, t4, e4, (d, e5), (g, t5, e6, none))))) =
        (a, b, c, d, g, e1 ∙ on (e2 ∙ on (e3 ∙ on (e4 ∙ ap (λ z. z ++ t4) e5 ∙ on (e6 ∙ on none)))))

public_word : IsWord (codes "public")
public_word = plain_word (codes "public") refl refl

class_word : IsWord (codes "class")
class_word = plain_word (codes "class") refl refl

enum_word : IsWord (codes "enum")
enum_word = plain_word (codes "enum") refl refl

-- fields, and then methods, in front of a brace
abbrev MembersPart : Class → List Token → Type 0
MembersPart c ts =
    (gs : List Field) × (ns : List Method) × (map bare_field gs ≡ map bare_field c.fields)
    × (map bare_method ns ≡ map bare_method c.methods)
    × AreMembers (map FieldMember gs ++ map MethodMember ns) ts

members_told : (c : Class) → IsWrittenClass c → max (depth_of_fields c.fields) (depth_of_methods c.methods) ≤ 399
    → Told Any (Both (MembersPart c) (Front (λ a. tokens.sign a signs.CloseBrace) (λ us. us ≡ [])))
    (flat_map field_line c.fields ++ (flat_map method_lines c.methods ++ codes "}\n"))
members_told c w d =
    convert form (both (fields_told c.fields w.fields (omega (arith, d))) (λ bytes o. tt)
    (both (methods_told c.methods w.methods (omega (arith, d))) (λ bytes o. tt)
    (mark_then signs.CloseBrace refl (λ c. refl) (line_then nothing))))
  where
    form : (ts : List Token)
        → Both (FieldsPart c.fields) (Both (MethodsPart c.methods) (Front (λ a. tokens.sign a signs.CloseBrace) (λ us. us ≡ []))) ts
        → Both (MembersPart c) (Front (λ a. tokens.sign a signs.CloseBrace) (λ us. us ≡ [])) ts
    form ts (us, t1, e1, (gs, same, fields), (vs, t2, e2, (ns, alike, methods), last)) =
        let are = members_join (map FieldMember gs) (map MethodMember ns) us vs fields methods in
        (us ++ vs, t2, e1 ∙ past us e2 ∙ sym (append_assoc us vs t2), (gs, ns, same, alike, are), last)

abbrev ClassPart : Class → List Token → Type 0
ClassPart c ts = (d : Class) × (bare_class d ≡ bare_class c) × IsClass d ts

class_told : (c : Class) → IsWrittenClass c → max (depth_of_fields c.fields) (depth_of_methods c.methods) ≤ 399
    → Told Any (ClassPart c) (class_lines c)
class_told c w d =
    convert form (both (annotation_told c.typestate w.typestate) (λ bytes o. tt)
    (word_then (codes "public") public_word (λ bytes o. refl) (space_then
    (word_then (codes "class") class_word (λ bytes o. refl) (space_then
    (word_then c.name (named c.name w.name) (λ bytes o. refl) (space_then
    (mark_then signs.OpenBrace refl (λ c. refl) (line_then (members_told c w d))))))))))
  where
    form : (ts : List Token)
        → Both (IsAnnotation c.typestate) (Front (λ a. tokens.word a (codes "public"))
        (Front (λ a. tokens.word a (codes "class")) (Front (λ a. tokens.word a c.name)
        (Front (λ a. tokens.sign a signs.OpenBrace) (Both (MembersPart c)
        (Front (λ a. tokens.sign a signs.CloseBrace) (λ us. us ≡ []))))))) ts
        → ClassPart c ts
    form ts (us, t1, e1, note, (m, t2, e2, (a, t3, e3, (p, t4, e4, (b, t5, e5, (ws, t6, e6, ms, (g, t7, e7, none))))))) =
        let parts = e1 ∙ past us (e2 ∙ on (e3 ∙ on (e4 ∙ on (e5 ∙ on (e6 ∙ past ws (e7 ∙ on none)))))) in
        let all = map FieldMember ms.0 ++ map MethodMember ms.1 in (
          record { place = p; name = c.name; typestate = c.typestate; fields = ms.0; methods = ms.1 },
          (λ i. record { place = nowhere; name = c.name; typestate = c.typestate; fields = ms.2 i; methods = ms.3 i }),
          (
            w.name.name,
            a,
            b,
            g,
            us,
            tokens.word m (codes "public") ∷ [],
            ws,
            parts,
            note,
            refl,
            all,
            ms.4,
            only_fields ms.0 ms.1,
            only_methods ms.0 ms.1,
          ),
        )

-- ---- enums

names_follow : (ns : List Name) (bytes : List ℕ) → NoWord bytes → NoWord (names_text (codes ", ") ns ++ bytes)
names_follow [] bytes h = h
names_follow (n ∷ ns) bytes h = refl

more_names : (ns : List Name) → AllByRecursion IsNamed ns → Told NoWord (AreMoreNames ns) (names_text (codes ", ") ns)
more_names [] w = nothing
more_names (n ∷ ns) w =
    convert (λ ts (a, t1, e1, (b, t2, e2, are)). (w.0.name, a, b, t2, e1 ∙ on e2, are))
    (mark_then signs.Comma refl (λ c. refl) (space_then (word_then n (named n w.0) (names_follow ns) (more_names ns w.1))))

names_told : (ns : List Name) → AreWrittenConstants ns → Told NoWord (AreNames ns) (names_text [] ns)
names_told [] w = absurd w
names_told (n ∷ ns) w =
    convert (λ ts (a, us, e, are). (w.0.name, a, us, e, are)) (word_then n (named n w.0) (names_follow ns) (more_names ns w.1))

abbrev EnumPart : Enum → List Token → Type 0
EnumPart e ts = (f : Enum) × (bare_enum f ≡ bare_enum e) × IsEnum f ts

enum_told : (e : Enum) → IsWrittenEnum e → Told Any (EnumPart e) (enum_lines e)
enum_told e w =
    convert form (word_then (codes "public") public_word (λ bytes o. refl)
    (space_then (word_then (codes "enum") enum_word (λ bytes o. refl) (space_then
    (word_then e.name (named e.name w.name) (λ bytes o. refl) (space_then (mark_then signs.OpenBrace refl (λ c. refl)
    (line_then (space_then (space_then (space_then (space_then (both (names_told e.constants w.constants) (λ bytes o. refl)
    (line_then (mark_then signs.CloseBrace refl (λ c. refl) (line_then nothing))))))))))))))))
  where
    form : (ts : List Token)
        → Front (λ a. tokens.word a (codes "public")) (Front (λ a. tokens.word a (codes "enum")) (Front (λ a. tokens.word a e.name)
        (Front (λ a. tokens.sign a signs.OpenBrace) (Both (AreNames e.constants)
        (Front (λ a. tokens.sign a signs.CloseBrace) (λ us. us ≡ [])))))) ts
        → EnumPart e ts
    form ts (m, t1, e1, (a, t2, e2, (p, t3, e3, (b, t4, e4, (vs, t5, e5, are, (c, t6, e6, none)))))) = (
      record { place = p; name = e.name; constants = e.constants },
      refl,
      (
        w.name.name,
        a,
        b,
        c,
        tokens.word m (codes "public") ∷ [],
        vs,
        [],
        e1 ∙ on (e2 ∙ on (e3 ∙ on (e4 ∙ on (e5 ∙ past vs (e6 ∙ on none))))),
        refl,
        are,
        inl refl,
      ),
    )

-- ---- files

abbrev pub DeclPart : Decl → List Token → Type 0
DeclPart d ts = (e : Decl) × (bare_decl e ≡ bare_decl d) × IsDecl e ts

decl_told : (d : Decl) → IsWrittenDecl d → depth_of_decl d ≤ 399 → Told Any (DeclPart d) (decl_lines d)
decl_told (ClassDecl c) w d = convert (λ ts (f, same, is). (ClassDecl f, ap (λ z. ClassDecl z) same, is)) (class_told c w d)
decl_told (EnumDecl e) w d = convert (λ ts (f, same, is). (EnumDecl f, ap (λ z. EnumDecl z) same, is)) (enum_told e w)

abbrev pub DeclsPart : List Decl → List Token → Type 0
DeclsPart ds ts = (es : List Decl) × (map bare_decl es ≡ map bare_decl ds) × AreDecls es ts

pub decls_told : (ds : List Decl) → AllByRecursion IsWrittenDecl ds → depth_of_file ds ≤ 399 → Told Any (DeclsPart ds) (flat_map decl_lines ds)
decls_told [] w d = convert (λ ts e. ([], refl, e)) nothing
decls_told (x ∷ xs) w d = convert form (both (decl_told x w.0 (omega (arith, d))) (λ bytes o. tt) (decls_told xs w.1 (omega (arith, d))))
  where
    form : (ts : List Token) → Both (DeclPart x) (DeclsPart xs) ts → DeclsPart (x ∷ xs) ts
    form ts (us, vs, e, (y, same, is), (ys, alike, are)) = (y ∷ ys, ap₂ (λ a b. a ∷ b) same alike, (us, vs, e, is, are))

abbrev pub FilePart : File → List Token → Type 0
FilePart f ts = (g : File) × (bare_file g ≡ bare_file f) × IsFile g ts

pub file_told : (f : File) → AllByRecursion IsWrittenDecl f → depth_of_file f ≤ 399 → Told Any (FilePart f) (layout f)
file_told f w d = convert (λ ts (g, same, are). (g, same, (0, [], [], ts, refl, inl refl, refl, are))) (decls_told f w d)
