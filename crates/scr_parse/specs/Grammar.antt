-- How a file is spelled by its tokens: one definition a production. A part is related to all of its tokens.
use Rattle.std.specs.Prelude.{◌≡◌, ◌⊎◌, ◌≤◌, List, [], ◌∷◌, ◌++◌}
use Rattle.std.specs.List.{AllByRecursion}
use Rattle.mg_text.specs.Call.{Name}
use Rattle.mg_text.specs.declared.place.Place.{Place}
use Rattle.mg_read.specs.Each.{Each}
use Rattle.scr_tree.specs.Tok.{Tok, named, quoted, marked}
use Rattle.scr_tree.specs.declared.token.Mark.{Mark}
use Rattle.scr_tree.specs.declared.token.Mark.TheVariants as marks
use Rattle.scr_tree.specs.declared.syntax.Direction.{Direction}
use Rattle.scr_tree.specs.declared.syntax.Direction.TheVariants as directions
use Rattle.scr_tree.specs.declared.syntax.Message.{Message}
use Rattle.scr_tree.specs.declared.written.Declaration.{Declaration}
use Rattle.scr_tree.specs.declared.written.Role.{Role}
use Rattle.scr_tree.specs.Tree.{Statements, Nothing, Says, Choice, Rec, Continue, Do, Branches, NoBranch, Branch}
use Rattle.scr_tree.specs.Written.{Carries, Arguments, WrittenPart, WrittenTree, parts_in, kind_of}
use Rattle.scr_tree.specs.Valid.{depth}

-- ---- lists. `Each G xs ts`: the tokens are those of the parts xs, one after another, each as G says.

-- a mark, and then a part
abbrev pub Behind : {A : Type 0} → Mark → (A → List Tok → Type 0) → A → List Tok → Type 0
Behind mark G x ts = (a : Place) × (us : List Tok) × (ts ≡ marked a mark ∷ us) × G x us

-- a part, and then a mark
abbrev pub Before : {A : Type 0} → Mark → (A → List Tok → Type 0) → A → List Tok → Type 0
Before mark G x ts = (a : Place) × (us : List Tok) × (ts ≡ us ++ marked a mark ∷ []) × G x us

-- part { mark part }
abbrev pub Listed : {A : Type 0} → Mark → (A → List Tok → Type 0) → List A → List Tok → Type 0
Listed mark G [] ts = ⊥
Listed mark G (x ∷ xs) ts = (us vs : List Tok) × (ts ≡ us ++ vs) × G x us × Each (Behind mark G) xs vs

-- name
abbrev pub IsNaming : Name → List Tok → Type 0
IsNaming name ts = (a : Place) × (ts ≡ named a name ∷ [])

-- ---- what stands before the protocol

-- [ "module" name { "." name } ";" ]
abbrev pub IsModule : List Tok → Type 0
IsModule ts =
    (ts ≡ []) ⊎ ((a b : Place) × (names : List Name) × (us : List Tok)
    × (ts ≡ marked a marks.Module ∷ (us ++ marked b marks.Semicolon ∷ [])) × Listed marks.Dot IsNaming names us)

-- "type" "<" name ">" text "from" text "as" name ";"
abbrev pub IsType : Declaration → List Tok → Type 0
IsType d ts =
    (a b c e f g h i j : Place) × (source : Name)
    × (ts ≡ marked a marks.Type ∷ marked b marks.Less ∷ named c d.language ∷ marked e marks.Greater ∷ quoted f d.class
    ∷ marked g marks.From ∷ quoted h source ∷ marked i marks.As ∷ named d.place d.alias ∷ marked j marks.Semicolon ∷ [])

-- ---- the header

-- "role" name
abbrev pub IsRole : Role → List Tok → Type 0
IsRole r ts = (a : Place) × (ts ≡ marked a marks.Role ∷ named r.place r.name ∷ [])

-- "self" name  |  "role" "self" name
abbrev pub IsMyself : Role → List Tok → Type 0
IsMyself r ts =
    ((a : Place) × (ts ≡ marked a marks.Myself ∷ named r.place r.name ∷ []))
    ⊎ ((a b : Place) × (ts ≡ marked a marks.Role ∷ marked b marks.Myself ∷ named r.place r.name ∷ []))

-- "at" name "(" "role" name { "," "role" name } ")"
abbrev pub IsAtHeader : Role → List Role → List Tok → Type 0
IsAtHeader me roles ts =
    (a b c : Place) × (us : List Tok)
    × (ts ≡ marked a marks.At ∷ named me.place me.name ∷ marked b marks.OpenParen ∷ (us ++ marked c marks.CloseParen ∷ []))
    × Listed marks.Comma IsRole roles us

-- "(" entry { "," entry } ")", where exactly one entry has "self": the entries before it, that one, and those behind it
abbrev pub IsSelfHeader : Role → List Role → List Tok → Type 0
IsSelfHeader me roles ts =
    (a b : Place) × (earlier later : List Role) × (us vs ws : List Tok)
    × (ts ≡ marked a marks.OpenParen ∷ (us ++ (vs ++ (ws ++ marked b marks.CloseParen ∷ []))))
    × (roles ≡ earlier ++ me ∷ later)
    × Each (Before marks.Comma IsRole) earlier us × IsMyself me vs × Each (Behind marks.Comma IsRole) later ws

-- ---- statements

abbrev pub direction_mark : Direction → Mark
direction_mark directions.To = marks.To
direction_mark directions.From = marks.From

-- [ name { "," name } ]
abbrev pub AreTypes : List Name → List Tok → Type 0
AreTypes [] ts = ts ≡ []
AreTypes (name ∷ names) ts = Listed marks.Comma IsNaming (name ∷ names) ts

-- name "(" types ")" ( "to" | "from" ) name ";", where the types mean the kind of the payload
abbrev pub IsMessage : List Declaration → Message → (types : List Name) → List Tok → Type 0
IsMessage declared m types ts =
    (a b c d e : Place) × (us : List Tok)
    × (ts ≡ named m.place m.label ∷ marked a marks.OpenParen ∷ (us ++ marked b marks.CloseParen ∷ marked c (direction_mark m.direction) ∷
    named d m.peer ∷ marked e marks.Semicolon ∷ []))
    × AreTypes types us × (m.payload ≡ kind_of declared types)

-- what a message carries
abbrev pub carried : Place → List Name → Carries
carried place types = record { place = place; types = types }

-- what a `do` is given
abbrev pub given : Place → Name → List Name → Arguments
given place name roles = record { place = place; name = name; roles = roles }

-- what stands between the parentheses of a message, or of a `do`
pub data Note : Type 0 where
  carries : Carries → Note
  gives : Arguments → Note

abbrev pub carries_among : List Note → List Carries
carries_among [] = []
carries_among (carries c ∷ notes) = c ∷ carries_among notes
carries_among (gives a ∷ notes) = carries_among notes

abbrev pub arguments_among : List Note → List Arguments
arguments_among [] = []
arguments_among (carries c ∷ notes) = arguments_among notes
arguments_among (gives a ∷ notes) = a ∷ arguments_among notes

-- "{" .. "}"
abbrev pub IsBraced : (List Tok → Type 0) → List Tok → Type 0
IsBraced P ts = (a b : Place) × (us : List Tok) × (ts ≡ marked a marks.OpenBrace ∷ (us ++ marked b marks.CloseBrace ∷ [])) × P us

abbrev mutual
  -- { stmt }, with what stands between parentheses, in the order of the text
  pub AreStatements : List Declaration → Statements → List Note → List Tok → Type 0
  AreStatements declared Nothing ns ts = (ns ≡ []) × (ts ≡ [])
  -- message
  AreStatements declared (Says m rest) ns ts =
      (types : List Name) × (ms : List Note) × (us vs : List Tok)
      × (ns ≡ carries (carried m.place types) ∷ ms) × (ts ≡ us ++ vs) × IsMessage declared m types us × AreStatements declared rest ms vs
  -- "choice" "at" name block { "or" block }
  AreStatements declared (Choice place at branches rest) ns ts =
      (a b : Place) × (ms ks : List Note) × (us vs : List Tok)
      × (ns ≡ ms ++ ks) × (ts ≡ marked place marks.Choice ∷ marked a marks.At ∷ named b at ∷ (us ++ vs))
      × AreBranches declared branches ms us × AreStatements declared rest ks vs
  -- "rec" name block
  AreStatements declared (Rec place name body rest) ns ts =
      (a : Place) × (ms ks : List Note) × (us vs : List Tok)
      × (ns ≡ ms ++ ks) × (ts ≡ marked place marks.Rec ∷ named a name ∷ (us ++ vs))
      × IsBraced (AreStatements declared body ms) us × AreStatements declared rest ks vs
  -- "continue" name ";"
  AreStatements declared (Continue place name rest) ns ts =
      (a b : Place) × (us : List Tok)
      × (ts ≡ marked place marks.Continue ∷ named a name ∷ marked b marks.Semicolon ∷ us) × AreStatements declared rest ns us
  -- "do" name "(" name { "," name } ")" ";"
  AreStatements declared (Do place name rest) ns ts =
      (a b c d : Place) × (roles : List Name) × (ms : List Note) × (us vs : List Tok)
      × (ns ≡ gives (given place name roles) ∷ ms)
      × (ts ≡ marked place marks.Do ∷ named a name ∷ marked b marks.OpenParen ∷
      (us ++ marked c marks.CloseParen ∷ marked d marks.Semicolon ∷ vs))
      × Listed marks.Comma IsNaming roles us × AreStatements declared rest ms vs

  -- block { "or" block }
  pub AreBranches : List Declaration → Branches → List Note → List Tok → Type 0
  AreBranches declared NoBranch ns ts = ⊥
  AreBranches declared (Branch statements more) ns ts =
      (ms ks : List Note) × (us vs : List Tok)
      × (ns ≡ ms ++ ks) × (ts ≡ us ++ vs) × IsBraced (AreStatements declared statements ms) us × AreOthers declared more ks vs

  -- { "or" block }
  pub AreOthers : List Declaration → Branches → List Note → List Tok → Type 0
  AreOthers declared NoBranch ns ts = (ns ≡ []) × (ts ≡ [])
  AreOthers declared (Branch statements more) ns ts =
      (a : Place) × (ms ks : List Note) × (us vs : List Tok)
      × (ns ≡ ms ++ ks) × (ts ≡ marked a marks.Or ∷ (us ++ vs))
      × IsBraced (AreStatements declared statements ms) us × AreOthers declared more ks vs

-- ---- the file

-- "local" "protocol" name header block
pub record IsLocal (types : List Declaration) (p : WrittenPart) (ts : List Tok) : Type 0 where
  pub header : List Tok
  pub block : List Tok
  pub notes : List Note
  pub local_at : Place
  pub protocol_at : Place
  pub tokens : ts ≡ marked local_at marks.Local ∷ marked protocol_at marks.Protocol ∷ named p.place p.name ∷ (header ++ block)
  pub heads : IsAtHeader p.me p.roles header ⊎ IsSelfHeader p.me p.roles header
  pub body : IsBraced (AreStatements types p.body notes) block
  pub carries : p.carries ≡ carries_among notes
  pub arguments : p.arguments ≡ arguments_among notes

-- [ module ] { type } local { local }
pub record IsFile (w : WrittenTree) (ts : List Tok) : Type 0 where
  pub start : List Tok
  pub types : List Tok
  pub first : List Tok
  pub others : List Tok
  pub tokens : ts ≡ start ++ (types ++ (first ++ others))
  pub starts : IsModule start
  pub declares : Each IsType w.types types
  pub begins : IsLocal w.types w.first first
  pub goes_on : Each (IsLocal w.types) w.others others

-- the statements of a protocol stand at most 200 deep one inside another
abbrev pub IsShallow : WrittenPart → Type 0
IsShallow p = depth p.body ≤ 200

-- the tokens spell the file, whose statements stand at most 200 deep one inside another
pub record IsSpelled (w : WrittenTree) (ts : List Tok) : Type 0 where
  pub spelled : IsFile w ts
  pub shallow : AllByRecursion IsShallow (parts_in w)
