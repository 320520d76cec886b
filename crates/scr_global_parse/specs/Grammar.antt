-- How a file of a global protocol is spelled by its tokens: what differs from a local one is the title, the header, and what a message is.
use Rattle.std.specs.Prelude.{◌≡◌, ◌≤◌, List, [], ◌∷◌, ◌++◌}
use Rattle.mg_text.specs.Call.{Name}
use Rattle.mg_text.specs.declared.place.Place.{Place}
use Rattle.mg_read.specs.Each.{Each}
use Rattle.scr_tree.specs.Tok.{Tok, named, marked}
use Rattle.scr_tree.specs.declared.token.Mark.TheVariants as marks
use Rattle.scr_tree.specs.declared.written.Declaration.{Declaration}
use Rattle.scr_tree.specs.declared.written.Role.{Role}
use Rattle.scr_tree.specs.Written.{Carries, kind_of}
use Rattle.scr_parse.specs.Grammar.{Listed, IsModule, IsType, IsRole, AreTypes, carried, IsBraced}
use Rattle.scr_global.specs.Tree.{Told, Statements, Nothing, Says, Choice, Rec, Continue, Branches, NoBranch, Branch}
use Rattle.scr_global_tree.specs.Written.{WrittenTree}
use Rattle.scr_global_tree.specs.Valid.{depth}

-- "(" "role" name { "," "role" name } ")"
abbrev pub IsHeader : List Role → List Tok → Type 0
IsHeader roles ts =
    (a b : Place) × (us : List Tok) × (ts ≡ marked a marks.OpenParen ∷ (us ++ marked b marks.CloseParen ∷ [])) × Listed marks.Comma IsRole
    roles us

-- name "(" types ")" "from" name "to" name ";", where the types mean the kind of the payload
abbrev pub IsMessage : List Declaration → Told → (types : List Name) → List Tok → Type 0
IsMessage declared m types ts =
    (a b c d e f g : Place) × (us : List Tok)
    × (ts ≡ named m.place m.label ∷ marked a marks.OpenParen ∷ (us ++ marked b marks.CloseParen ∷ marked c marks.From ∷ named d m.from
    ∷ marked e marks.To ∷ named f m.to ∷ marked g marks.Semicolon ∷ []))
    × AreTypes types us × (m.payload ≡ kind_of declared types)

abbrev mutual
  -- { stmt }, with what the messages carry, in the order of the text
  pub AreStatements : List Declaration → Statements → List Carries → List Tok → Type 0
  AreStatements declared Nothing cs ts = (cs ≡ []) × (ts ≡ [])
  -- message
  AreStatements declared (Says m rest) cs ts =
      (types : List Name) × (ds : List Carries) × (us vs : List Tok)
      × (cs ≡ carried m.place types ∷ ds) × (ts ≡ us ++ vs) × IsMessage declared m types us × AreStatements declared rest ds vs
  -- "choice" "at" name block { "or" block }
  AreStatements declared (Choice place at branches rest) cs ts =
      (a b : Place) × (ds es : List Carries) × (us vs : List Tok)
      × (cs ≡ ds ++ es) × (ts ≡ marked place marks.Choice ∷ marked a marks.At ∷ named b at ∷ (us ++ vs))
      × AreBranches declared branches ds us × AreStatements declared rest es vs
  -- "rec" name block
  AreStatements declared (Rec place name body rest) cs ts =
      (a : Place) × (ds es : List Carries) × (us vs : List Tok)
      × (cs ≡ ds ++ es) × (ts ≡ marked place marks.Rec ∷ named a name ∷ (us ++ vs))
      × IsBraced (AreStatements declared body ds) us × AreStatements declared rest es vs
  -- "continue" name ";"
  AreStatements declared (Continue place name rest) cs ts =
      (a b : Place) × (us : List Tok)
      × (ts ≡ marked place marks.Continue ∷ named a name ∷ marked b marks.Semicolon ∷ us) × AreStatements declared rest cs us

  -- block { "or" block }
  pub AreBranches : List Declaration → Branches → List Carries → List Tok → Type 0
  AreBranches declared NoBranch cs ts = ⊥
  AreBranches declared (Branch statements more) cs ts =
      (ds es : List Carries) × (us vs : List Tok)
      × (cs ≡ ds ++ es) × (ts ≡ us ++ vs) × IsBraced (AreStatements declared statements ds) us × AreOthers declared more es vs

  -- { "or" block }
  pub AreOthers : List Declaration → Branches → List Carries → List Tok → Type 0
  AreOthers declared NoBranch cs ts = (cs ≡ []) × (ts ≡ [])
  AreOthers declared (Branch statements more) cs ts =
      (a : Place) × (ds es : List Carries) × (us vs : List Tok)
      × (cs ≡ ds ++ es) × (ts ≡ marked a marks.Or ∷ (us ++ vs))
      × IsBraced (AreStatements declared statements ds) us × AreOthers declared more es vs

-- ---- the file

-- [ module ] { type } "global" "protocol" name header block
pub record IsFile (w : WrittenTree) (ts : List Tok) : Type 0 where
  pub start : List Tok
  pub types : List Tok
  pub header : List Tok
  pub block : List Tok
  pub global_at : Place
  pub protocol_at : Place
  pub name_at : Place
  pub tokens : ts ≡ start ++ (types ++ marked global_at marks.Global ∷ marked protocol_at marks.Protocol ∷ named name_at w.name ∷
      (header ++ block))
  pub starts : IsModule start
  pub declares : Each IsType w.types types
  pub heads : IsHeader w.roles header
  pub body : IsBraced (AreStatements w.types w.body w.carries) block

-- the tokens spell the file, whose statements stand at most 200 deep one inside another
pub record IsSpelled (w : WrittenTree) (ts : List Tok) : Type 0 where
  pub spelled : IsFile w ts
  pub shallow : depth w.body ≤ 200
