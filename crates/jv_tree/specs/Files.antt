-- How files are spelled: one definition a production, over whole lists of tokens.
use Rattle.std.specs.Prelude.{◌≡◌, ℕ, zero, suc, ◌≤◌, List, [], ◌∷◌, ◌++◌, ◌⊎◌, Bool, true, false, Option, Some, None, codes}
use Rattle.std.specs.List.{list_any, list_all}
use Rattle.mg_text.specs.Call.{Name}
use Rattle.mg_text.specs.declared.place.Place.{Place}
use Rattle.ts_tree.specs.declared.parts.TypeName.{TypeName}
use Rattle.ts_tree.specs.declared.parts.TypeName.TheVariants as types
use Rattle.jv_tree.specs.declared.tree.Param.{Param}
use Rattle.jv_tree.specs.declared.token.Sign.TheVariants as signs
use Rattle.jv_tree.specs.declared.token.TokenKind.{TokenKind}
use Rattle.jv_tree.specs.declared.token.TokenKind.TheVariants as kinds
use Rattle.jv_tree.specs.declared.token.Token.{Token}
use Rattle.jv_tree.specs.Source.{Expr, Field, Method, Class, Enum, Decl, ClassDecl, EnumDecl, File}
use Rattle.jv_tree.specs.Depth.{depth_of_file}
use Rattle.jv_tree.specs.Tokens.{word, quoted, sign, is_among, IsName}
use Rattle.jv_tree.specs.Statements.{IsFree, IsFinal, IsType, type_word, AreItems}

-- Members, in the order of the text: a class keeps its fields and its methods apart.
pub data Member : Type 0 where
  FieldMember : Field → Member
  MethodMember : Method → Member

abbrev pub fields_among : List Member → List Field
fields_among [] = []
fields_among (FieldMember f ∷ ms) = f ∷ fields_among ms
fields_among (MethodMember m ∷ ms) = fields_among ms

abbrev pub methods_among : List Member → List Method
methods_among [] = []
methods_among (FieldMember f ∷ ms) = methods_among ms
methods_among (MethodMember m ∷ ms) = m ∷ methods_among ms

abbrev pub is_kind_among : List Name → TokenKind → Bool
is_kind_among words (kinds.Word w) = is_among words w
is_kind_among words (kinds.Number n) = false
is_kind_among words (kinds.Text t) = false
is_kind_among words (kinds.Sign s) = false

-- { mod }, of these
abbrev pub AreModifiers : List Name → List Token → Type 0
AreModifiers words ts = list_all (λ t. is_kind_among words t.kind) ts ≡ true

-- whether "static" is among modifiers
abbrev pub has_static : List Token → Bool
has_static ts = list_any (λ t. is_kind_among (codes "static" ∷ []) t.kind) ts

-- mod
abbrev pub modifiers : List Name
modifiers = codes "public" ∷ codes "private" ∷ codes "protected" ∷ codes "static" ∷ codes "final" ∷ []

-- [ "=" expr ]
abbrev pub IsInitialiser : Option Expr → List Token → Type 0
IsInitialiser None ts = ts ≡ []
IsInitialiser (Some e) ts = (a : Place) × (us : List Token) × (ts ≡ sign a signs.Assign ∷ us) × IsFree e us

-- { mod } type name [ "=" expr ] ";", without "static"
abbrev pub IsField : Field → List Token → Type 0
IsField f ts =
    IsType f.ty × IsName f.name × (a b : Place) × (us vs : List Token)
    × (ts ≡ us ++ word a (type_word f.ty) ∷ word f.place f.name ∷ (vs ++ sign b signs.Semicolon ∷ []))
    × AreModifiers modifiers us × (has_static us ≡ false) × IsInitialiser f.value vs

-- [ "final" ] type name
abbrev pub IsParam : Param → List Token → Type 0
IsParam p ts = IsType p.ty × IsName p.name × (a : Place) × (us : List Token)
    × (ts ≡ us ++ word a (type_word p.ty) ∷ word p.place p.name ∷ []) × IsFinal us

-- { "," param }
abbrev pub AreMoreParams : List Param → List Token → Type 0
AreMoreParams [] ts = ts ≡ []
AreMoreParams (p ∷ ps) ts = (a : Place) × (us vs : List Token) × (ts ≡ sign a signs.Comma ∷ (us ++ vs)) × IsParam p us × AreMoreParams ps vs

-- [ param { "," param } ]
abbrev pub AreParams : List Param → List Token → Type 0
AreParams [] ts = ts ≡ []
AreParams (p ∷ ps) ts = (us vs : List Token) × (ts ≡ us ++ vs) × IsParam p us × AreMoreParams ps vs

-- "String" "[" "]" name
abbrev pub IsArgs : List Token → Type 0
IsArgs ts =
    (n : Name) × IsName n × (a b c d : Place)
    × (ts ≡ word a (codes "String") ∷ sign b signs.OpenBracket ∷ sign c signs.CloseBracket ∷ word d n ∷ [])

-- "static void main", modifiers aside
abbrev pub IsMain : Method → Type 0
IsMain m = (m.is_static ≡ true) × (m.result ≡ types.Void) × (m.name ≡ codes "main")

-- [ params ], where the parameter of `main` is no other
abbrev pub AreParamsOf : Method → List Token → Type 0
AreParamsOf m ts = ((m.takes_args ≡ false) × AreParams m.params ts) ⊎ ((m.takes_args ≡ true) × (m.params ≡ []) × IsMain m × IsArgs ts)

-- "void" | type
abbrev pub IsResult : TypeName → Type 0
IsResult ty = (ty ≡ types.Void) ⊎ IsType ty

-- { mod } ( "void" | type ) name "(" [ params ] ")" block
abbrev pub IsMethod : Method → List Token → Type 0
IsMethod m ts =
    IsResult m.result × IsName m.name × (a b c d : Place) × (us vs ws : List Token)
    × (ts ≡ us ++ word a (type_word m.result) ∷ word m.place m.name ∷ sign b signs.OpenParen
    ∷ (vs ++ sign c signs.CloseParen ∷ sign d signs.OpenBrace ∷ (ws ++ sign m.end signs.CloseBrace ∷ [])))
    × AreModifiers modifiers us × (has_static us ≡ m.is_static) × AreParamsOf m vs × AreItems m.body ws

abbrev pub IsMember : Member → List Token → Type 0
IsMember (FieldMember f) ts = IsField f ts
IsMember (MethodMember m) ts = IsMethod m ts

-- { member }
abbrev pub AreMembers : List Member → List Token → Type 0
AreMembers [] ts = ts ≡ []
AreMembers (m ∷ ms) ts = (us vs : List Token) × (ts ≡ us ++ vs) × IsMember m us × AreMembers ms vs

-- [ "@" "Typestate" "(" text ")" ]
abbrev pub IsAnnotation : Option (List ℕ) → List Token → Type 0
IsAnnotation None ts = ts ≡ []
IsAnnotation (Some t) ts =
    (a b c d e : Place)
    × (ts ≡ sign a signs.At ∷ word b (codes "Typestate") ∷ sign c signs.OpenParen ∷ quoted d t ∷ sign e signs.CloseParen ∷ [])

-- [ annotation ] { "public" | "final" } "class" name "{" { member } "}"
abbrev pub IsClass : Class → List Token → Type 0
IsClass c ts =
    IsName c.name × (a b d : Place) × (us vs ws : List Token)
    × (ts ≡ us ++ (vs ++ word a (codes "class") ∷ word c.place c.name ∷ sign b signs.OpenBrace ∷ (ws ++ sign d signs.CloseBrace ∷ [])))
    × IsAnnotation c.typestate us × AreModifiers (codes "public" ∷ codes "final" ∷ []) vs
    × (ms : List Member) × AreMembers ms ws × (fields_among ms ≡ c.fields) × (methods_among ms ≡ c.methods)

-- { "," name }
abbrev pub AreMoreNames : List Name → List Token → Type 0
AreMoreNames [] ts = ts ≡ []
AreMoreNames (n ∷ ns) ts = IsName n × (a b : Place) × (us : List Token) × (ts ≡ sign a signs.Comma ∷ word b n ∷ us) × AreMoreNames ns us

-- name { "," name }
abbrev pub AreNames : List Name → List Token → Type 0
AreNames [] ts = ⊥
AreNames (n ∷ ns) ts = IsName n × (a : Place) × (us : List Token) × (ts ≡ word a n ∷ us) × AreMoreNames ns us

-- [ "," ] [ ";" ]
abbrev pub IsEnumEnd : List Token → Type 0
IsEnumEnd ts =
    (ts ≡ []) ⊎ ((a : Place) × (ts ≡ sign a signs.Comma ∷ [])) ⊎ ((a : Place) × (ts ≡ sign a signs.Semicolon ∷ []))
    ⊎ ((a b : Place) × (ts ≡ sign a signs.Comma ∷ sign b signs.Semicolon ∷ []))

-- { "public" } "enum" name "{" name { "," name } [ "," ] [ ";" ] "}"
abbrev pub IsEnum : Enum → List Token → Type 0
IsEnum e ts =
    IsName e.name × (a b c : Place) × (us vs ws : List Token)
    × (ts ≡ us ++ word a (codes "enum") ∷ word e.place e.name ∷ sign b signs.OpenBrace ∷ (vs ++ (ws ++ sign c signs.CloseBrace ∷ [])))
    × AreModifiers (codes "public" ∷ []) us × AreNames e.constants vs × IsEnumEnd ws

abbrev pub IsDecl : Decl → List Token → Type 0
IsDecl (ClassDecl c) ts = IsClass c ts
IsDecl (EnumDecl e) ts = IsEnum e ts

-- { class | enum }
abbrev pub AreDecls : List Decl → List Token → Type 0
AreDecls [] ts = ts ≡ []
AreDecls (d ∷ ds) ts = (us vs : List Token) × (ts ≡ us ++ vs) × IsDecl d us × AreDecls ds vs

-- { "." name }
abbrev pub AreMoreSteps : List Name → List Token → Type 0
AreMoreSteps [] ts = ts ≡ []
AreMoreSteps (n ∷ ns) ts = IsName n × (a b : Place) × (us : List Token) × (ts ≡ sign a signs.Dot ∷ word b n ∷ us) × AreMoreSteps ns us

-- path = name { "." name }
abbrev pub IsPath : List Token → Type 0
IsPath ts = (n : Name) × (ns : List Name) × IsName n × (a : Place) × (us : List Token) × (ts ≡ word a n ∷ us) × AreMoreSteps ns us

-- [ "package" path ";" ]
abbrev pub IsPackage : List Token → Type 0
IsPackage ts = (ts ≡ []) ⊎ ((a b : Place) × (us : List Token) × (ts ≡ word a (codes "package") ∷ (us ++ sign b signs.Semicolon ∷ []))
    × IsPath us)

-- [ "." "*" ]
abbrev pub IsStar : List Token → Type 0
IsStar ts = (ts ≡ []) ⊎ ((a b : Place) × (ts ≡ sign a signs.Dot ∷ sign b signs.Star ∷ []))

-- "import" path [ "." "*" ] ";"
abbrev pub IsImport : List Token → Type 0
IsImport ts = (a b : Place) × (us vs : List Token) × (ts ≡ word a (codes "import") ∷ (us ++ (vs ++ sign b signs.Semicolon ∷ [])))
    × IsPath us × IsStar vs

-- so many imports
abbrev pub AreImports : ℕ → List Token → Type 0
AreImports zero ts = ts ≡ []
AreImports (suc n) ts = (us vs : List Token) × (ts ≡ us ++ vs) × IsImport us × AreImports n vs

-- file = [ package ] { import } { class | enum }. Packages and imports are not kept.
abbrev pub IsFile : File → List Token → Type 0
IsFile f ts = (n : ℕ) × (us vs ws : List Token) × (ts ≡ us ++ (vs ++ ws)) × IsPackage us × AreImports n vs × AreDecls f ws

-- the tokens spell the file, with statements and expressions at most 200 deep
abbrev pub Spells : File → List Token → Type 0
Spells f ts = IsFile f ts × (depth_of_file f ≤ 200)
