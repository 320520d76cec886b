-- How a typestate file is spelled by its tokens: one definition a production. A part is related to all of its tokens.
use Rattle.std.specs.Prelude.{◌≡◌, ◌⊎◌, List, [], ◌∷◌, ◌++◌, Option, Some, None, if◌then◌else◌, codes}
use Rattle.std.specs.Str.{bytes_eq}
use Rattle.mg_text.specs.Call.{Name}
use Rattle.mg_text.specs.declared.place.Place.{Place}
use Rattle.mg_read.specs.Each.{Each}
use Rattle.ts_tree.specs.declared.parts.TypeName.{TypeName}
use Rattle.ts_tree.specs.declared.parts.TypeName.TheVariants as types
use Rattle.ts_parse.specs.declared.token.Mark.{Mark}
use Rattle.ts_parse.specs.declared.token.Mark.TheVariants as marks
use Rattle.ts_parse.specs.declared.written.Naming.{Naming}
use Rattle.ts_parse.specs.declared.written.WrittenBranch.{WrittenBranch}
use Rattle.ts_parse.specs.Tok.{Tok, named, marked}
use Rattle.ts_parse.specs.Written.{WTarget, to_one, by_label, WMethod, WEntry, offer, drop_end, WState, WFile}

-- ---- lists. `Each G xs ts`: the tokens are those of the parts xs, one after another, each as G says.

-- a mark, and then a part
abbrev pub Behind : {A : Type 0} → Mark → (A → List Tok → Type 0) → A → List Tok → Type 0
Behind mark G x ts = (a : Place) × (us : List Tok) × (ts ≡ marked a mark ∷ us) × G x us

-- part { mark part }
abbrev pub Listed : {A : Type 0} → Mark → (A → List Tok → Type 0) → List A → List Tok → Type 0
Listed mark G [] ts = ⊥
Listed mark G (x ∷ xs) ts = (us vs : List Tok) × (ts ≡ us ++ vs) × G x us × Each (Behind mark G) xs vs

-- name
abbrev pub IsNaming : Naming → List Tok → Type 0
IsNaming n ts = ts ≡ named n.place n.text ∷ []

-- ---- what stands before the typestate, and means nothing

-- [ "package" name { "." name } ";" ]
abbrev pub IsPackage : List Tok → Type 0
IsPackage ts =
    (ts ≡ []) ⊎ ((a b : Place) × (names : List Naming) × (us : List Tok)
    × (ts ≡ marked a marks.Package ∷ (us ++ marked b marks.Semicolon ∷ [])) × Listed marks.Dot IsNaming names us)

-- [ "." "*" ]
abbrev pub IsStar : List Tok → Type 0
IsStar ts = (ts ≡ []) ⊎ ((a b : Place) × (ts ≡ marked a marks.Dot ∷ marked b marks.Star ∷ []))

-- "import" name { "." name } [ "." "*" ] ";", which begins at a place
-- an import is kept by its place alone
abbrev pub IsImport : Place → List Tok → Type 0
IsImport a ts =
    (b : Place) × (names : List Naming) × (us vs : List Tok)
    × (ts ≡ marked a marks.Import ∷ (us ++ (vs ++ marked b marks.Semicolon ∷ []))) × Listed marks.Dot IsNaming names us × IsStar vs

-- ---- methods

-- the type that a name means
abbrev pub type_named : Name → TypeName
type_named text =
    if bytes_eq text (codes "void") then types.Void
    else (if bytes_eq text (codes "int") then types.Int
    else (if bytes_eq text (codes "boolean") then types.Boolean
    else (if bytes_eq text (codes "String") then types.Text
    else types.Named text)))

-- the same of a parameter, which is never void
abbrev pub param_named : Name → Option TypeName
param_named text = if bytes_eq text (codes "void") then None else Some (type_named text)

abbrev pub IsParam : TypeName → List Tok → Type 0
IsParam type ts = (a : Place) × (text : Name) × (ts ≡ named a text ∷ []) × (param_named text ≡ Some type)

-- [ type { "," type } ]
abbrev pub AreParams : List TypeName → List Tok → Type 0
AreParams [] ts = ts ≡ []
AreParams (x ∷ xs) ts = Listed marks.Comma IsParam (x ∷ xs) ts

-- name ":" name
abbrev pub IsBranch : WrittenBranch → List Tok → Type 0
IsBranch b ts = (a : Place) × (ts ≡ named b.label.place b.label.text ∷ marked a marks.Colon ∷ named b.to.place b.to.text ∷ [])

-- name  |  "<" name ":" name { "," name ":" name } ">"
abbrev pub IsTarget : WTarget → List Tok → Type 0
IsTarget (to_one n) ts = IsNaming n ts
IsTarget (by_label branches) ts =
    (a b : Place) × (us : List Tok) × (ts ≡ marked a marks.Less ∷ (us ++ marked b marks.Greater ∷ [])) × Listed marks.Comma IsBranch
    branches us

-- type name "(" types ")" ":" target
abbrev pub IsMethod : WMethod → List Tok → Type 0
IsMethod m ts =
    (a b c d : Place) × (text : Name) × (us vs : List Tok)
    × (ts ≡ named a text ∷ named m.name.place m.name.text ∷ marked b marks.OpenParen ∷
    (us ++ marked c marks.CloseParen ∷ marked d marks.Colon ∷ vs))
    × (type_named text ≡ m.result) × AreParams m.params us × IsTarget m.target vs

-- [ "," ]
abbrev pub IsLastComma : List Tok → Type 0
IsLastComma ts = (ts ≡ []) ⊎ ((a : Place) × (ts ≡ marked a marks.Comma ∷ []))

-- method  |  "drop" ":" "end", where neither word is reserved
abbrev pub IsEntry : WEntry → List Tok → Type 0
IsEntry (offer m) ts = IsMethod m ts
IsEntry (drop_end place) ts = (a b : Place) × (ts ≡ named place (codes "drop") ∷ marked a marks.Colon ∷ named b (codes "end") ∷ [])

-- [ entry { "," entry } [ "," ] ]
abbrev pub AreEntries : List WEntry → List Tok → Type 0
AreEntries [] ts = ts ≡ []
AreEntries (e ∷ es) ts = (us vs : List Tok) × (ts ≡ us ++ vs) × Listed marks.Comma IsEntry (e ∷ es) us × IsLastComma vs

-- ---- states and the file

-- name "=" "{" entries "}"
abbrev pub IsState : WState → List Tok → Type 0
IsState s ts =
    (a b c : Place) × (us : List Tok)
    × (ts ≡ named s.name.place s.name.text ∷ marked a marks.Equals ∷ marked b marks.OpenBrace ∷ (us ++ marked c marks.CloseBrace ∷ []))
    × AreEntries s.entries us

-- [ package ] { import } "typestate" name "{" { state } "}"
pub record IsSpelled (w : WFile) (ts : List Tok) : Type 0 where
  pub package_toks : List Tok
  pub import_toks : List Tok
  pub state_toks : List Tok
  pub imports : List Place
  pub word_at : Place
  pub name_at : Place
  pub open_at : Place
  pub close_at : Place
  pub tokens : ts ≡ package_toks ++ (import_toks ++ marked word_at marks.Typestate ∷ named name_at w.name ∷ marked open_at marks.OpenBrace ∷
      (state_toks ++ marked close_at marks.CloseBrace ∷ []))
  pub packaged : IsPackage package_toks
  pub imported : Each IsImport imports import_toks
  pub states : Each IsState w.states state_toks
