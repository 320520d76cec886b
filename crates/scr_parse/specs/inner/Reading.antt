-- For private clauses: reading from left to right. Each function gives a value and the tokens behind it.
use Rattle.std.specs.Prelude.{◌≡◌, ◌<◌, ℕ, zero, suc, ◌-◌, List, [], ◌∷◌, ◌++◌, map, length, take, Option, Some, None, Bool, true, false}
use Rattle.std.specs.Prelude.{if◌then◌else◌, ◌==◌}
use Rattle.mg_text.specs.Call.{Name}
use Rattle.mg_text.specs.declared.place.Place.{Place}
use Rattle.mg_read.specs.Reader.{Reader, ◌>>=◌, all_of}
use Rattle.mg_read.proofs.Loop.{with_front}
use Rattle.scr_tree.specs.Tok.{Tok, named, quoted, marked}
use Rattle.scr_tree.specs.declared.token.Mark.{Mark}
use Rattle.scr_tree.specs.declared.token.Mark.TheVariants as marks
use Rattle.scr_tree.specs.declared.syntax.Direction.{Direction}
use Rattle.scr_tree.specs.declared.syntax.Direction.TheVariants as directions
use Rattle.scr_tree.specs.declared.syntax.Message.{Message}
use Rattle.scr_tree.specs.declared.written.Declaration.{Declaration}
use Rattle.scr_tree.specs.declared.written.Role.{Role}
use Rattle.scr_tree.specs.Tree.{Statements, Nothing, Says, Choice, Rec, Continue, Do}
use Rattle.scr_tree.specs.View.{branches_of}
use Rattle.scr_tree.specs.Written.{Carries, Arguments, WrittenPart, WrittenTree, kind_of}
use Rattle.scr_parse.specs.Grammar.{carried, given}
use Rattle.scr_parse.specs.inner.View.{joined}

-- ---- one token

-- a number for each mark, in the order of its declaration
abbrev pub code : Mark → ℕ
code marks.Module = 0
code marks.Type = 1
code marks.As = 2
code marks.From = 3
code marks.To = 4
code marks.At = 5
code marks.Local = 6
code marks.Protocol = 7
code marks.Role = 8
code marks.Myself = 9
code marks.Choice = 10
code marks.Or = 11
code marks.Rec = 12
code marks.Continue = 13
code marks.Par = 14
code marks.Interruptible = 15
code marks.Do = 16
code marks.Global = 17
code marks.Import = 18
code marks.Sig = 19
code marks.OpenParen = 20
code marks.CloseParen = 21
code marks.OpenBrace = 22
code marks.CloseBrace = 23
code marks.Less = 24
code marks.Greater = 25
code marks.Comma = 26
code marks.Semicolon = 27
code marks.Dot = 28

abbrev pub mark_in : Mark → Tok → List Tok → Option (Place × List Tok)
mark_in m (named p n) ts = None
mark_in m (quoted p n) ts = None
mark_in m (marked p k) ts = if code k == code m then Some (p, ts) else None

-- the place of this mark
abbrev pub mark_at : Mark → Reader Tok Place
mark_at m [] = None
mark_at m (t ∷ ts) = mark_in m t ts

abbrev pub name_in : Tok → List Tok → Option ((Place × Name) × List Tok)
name_in (named p n) ts = Some ((p, n), ts)
name_in (quoted p n) ts = None
name_in (marked p k) ts = None

-- a name, and its place
abbrev pub name_at : Reader Tok (Place × Name)
name_at [] = None
name_at (t ∷ ts) = name_in t ts

abbrev pub quoted_in : Tok → List Tok → Option (Name × List Tok)
quoted_in (named p n) ts = None
quoted_in (quoted p n) ts = Some (n, ts)
quoted_in (marked p k) ts = None

-- a quoted text
abbrev pub quoted_at : Reader Tok Name
quoted_at [] = None
quoted_at (t ∷ ts) = quoted_in t ts

-- whether this mark comes next
abbrev pub is_at : Mark → List Tok → Bool
is_at m [] = false
is_at m (named p n ∷ ts) = false
is_at m (quoted p n ∷ ts) = false
is_at m (marked p k ∷ ts) = code k == code m

-- ---- names in a row

-- mark name
unfoldable pub other_name_at : Mark → Reader Tok Name
other_name_at mark ts = do
  start ← mark_at mark ts
  name ← name_at start.1
  Some (name.0.1, name.1)

-- name { mark name }
unfoldable pub names_at : Mark → Reader Tok (List Name)
names_at mark ts = do
  first ← name_at ts
  with_front (first.0.1 ∷ []) (all_of (is_at mark) (other_name_at mark) first.1)

-- ---- what stands before the protocol

-- "module" names ";"
unfoldable pub module_at : List Tok → Option (List Tok)
module_at ts = do
  start ← mark_at marks.Module ts
  names ← names_at marks.Dot start.1
  end ← mark_at marks.Semicolon names.1
  Some end.1

-- [ module ]
unfoldable pub after_module : List Tok → Option (List Tok)
after_module ts = if is_at marks.Module ts then module_at ts else Some ts

-- "type" "<" name ">"
unfoldable pub language_at : Reader Tok Name
language_at ts = do
  start ← mark_at marks.Type ts
  less ← mark_at marks.Less start.1
  name ← name_at less.1
  greater ← mark_at marks.Greater name.1
  Some (name.0.1, greater.1)

-- text "from" text "as"
unfoldable pub class_at : Reader Tok Name
class_at ts = do
  class ← quoted_at ts
  origin ← mark_at marks.From class.1
  source ← quoted_at origin.1
  end ← mark_at marks.As source.1
  Some (class.0, end.1)

-- language class name ";"
unfoldable pub type_at : Reader Tok Declaration
type_at ts = do
  language ← language_at ts
  class ← class_at language.1
  alias ← name_at class.1
  end ← mark_at marks.Semicolon alias.1
  Some (record { place = alias.0.0; language = language.0; class = class.0; alias = alias.0.1 }, end.1)

-- { type }
abbrev pub types_at : Reader Tok (List Declaration)
types_at = all_of (is_at marks.Type) type_at

-- "local" "protocol" name
unfoldable pub title_at : Reader Tok (Place × Name)
title_at ts = do
  start ← mark_at marks.Local ts
  protocol ← mark_at marks.Protocol start.1
  name_at protocol.1

-- ---- the header

-- "role" name
unfoldable pub role_at : Reader Tok Role
role_at ts = do
  start ← mark_at marks.Role ts
  name ← name_at start.1
  Some (record { place = name.0.0; name = name.0.1 }, name.1)

-- role ","
unfoldable pub earlier_role_at : Reader Tok Role
earlier_role_at ts = do
  role ← role_at ts
  end ← mark_at marks.Comma role.1
  Some (role.0, end.1)

-- "," role
unfoldable pub other_role_at : Reader Tok Role
other_role_at ts = mark_at marks.Comma ts >>= λ start. role_at start.1

-- front { "," role }
abbrev pub more_roles_at : List Role → Reader Tok (List Role)
more_roles_at front ts = with_front front (all_of (is_at marks.Comma) other_role_at ts)

-- role { "," role }
unfoldable pub roles_at : Reader Tok (List Role)
roles_at ts = do
  first ← role_at ts
  more_roles_at (first.0 ∷ []) first.1

-- "role", with no "self" behind it
abbrev pub is_other_role : List Tok → Bool
is_other_role [] = false
is_other_role (t ∷ ts) = if is_at marks.Role (t ∷ ts) then (if is_at marks.Myself ts then false else true) else false

-- { role "," }
abbrev pub earlier_roles_at : Reader Tok (List Role)
earlier_roles_at = all_of is_other_role earlier_role_at

-- "self" name
unfoldable pub self_at : Reader Tok Role
self_at ts = do
  start ← mark_at marks.Myself ts
  name ← name_at start.1
  Some (record { place = name.0.0; name = name.0.1 }, name.1)

-- "self" name  |  "role" "self" name
unfoldable pub myself_at : Reader Tok Role
myself_at ts = if is_at marks.Role ts then (mark_at marks.Role ts >>= λ start. self_at start.1) else self_at ts

-- "at" name "(" roles ")"
unfoldable pub at_header_at : Reader Tok (Role × List Role)
at_header_at ts = do
  start ← mark_at marks.At ts
  me ← name_at start.1
  open_paren ← mark_at marks.OpenParen me.1
  roles ← roles_at open_paren.1
  close_paren ← mark_at marks.CloseParen roles.1
  Some ((record { place = me.0.0; name = me.0.1 }, roles.0), close_paren.1)

-- "(" { role "," } myself { "," role } ")"
unfoldable pub self_header_at : Reader Tok (Role × List Role)
self_header_at ts = do
  open_paren ← mark_at marks.OpenParen ts
  earlier ← earlier_roles_at open_paren.1
  me ← myself_at earlier.1
  roles ← more_roles_at (earlier.0 ++ me.0 ∷ []) me.1
  close_paren ← mark_at marks.CloseParen roles.1
  Some ((me.0, roles.0), close_paren.1)

unfoldable pub header_at : Reader Tok (Role × List Role)
header_at ts = if is_at marks.At ts then at_header_at ts else self_header_at ts

-- ---- statements

-- "to" | "from"
unfoldable pub direction_at : Reader Tok Direction
direction_at ts =
    if is_at marks.To ts then (mark_at marks.To ts >>= λ m. Some (directions.To, m.1))
    else (mark_at marks.From ts >>= λ m. Some (directions.From, m.1))

-- [ name { "," name } ], up to ")"
unfoldable pub payload_at : Reader Tok (List Name)
payload_at ts = if is_at marks.CloseParen ts then Some ([], ts) else names_at marks.Comma ts

-- name "(" payload ")" direction name ";"
unfoldable pub message_at : List Declaration → Reader Tok Message
message_at declared ts = do
  label ← name_at ts
  open_paren ← mark_at marks.OpenParen label.1
  types ← payload_at open_paren.1
  close_paren ← mark_at marks.CloseParen types.1
  direction ← direction_at close_paren.1
  peer ← name_at direction.1
  end ← mark_at marks.Semicolon peer.1
  Some (
    record { place = label.0.0; direction = direction.0; peer = peer.0.1; label = label.0.1; payload = kind_of declared types.0 },
    end.1,
  )

-- "do" name "(" names ")" ";"
unfoldable pub do_at : Reader Tok Statements
do_at ts = do
  start ← mark_at marks.Do ts
  name ← name_at start.1
  open_paren ← mark_at marks.OpenParen name.1
  roles ← names_at marks.Comma open_paren.1
  close_paren ← mark_at marks.CloseParen roles.1
  end ← mark_at marks.Semicolon close_paren.1
  Some (Do start.0 name.0.1 Nothing, end.1)

abbrev pub not_closed : List Tok → Bool
not_closed ts = if is_at marks.CloseBrace ts then false else true

-- In what follows f reads one statement, of whatever kind, and `build` makes one of its parts.
unfoldable pub block_with : {S : Type 0} → Reader Tok S → Reader Tok (List S)
block_with f ts = do
  start ← mark_at marks.OpenBrace ts
  inner ← all_of not_closed f start.1
  end ← mark_at marks.CloseBrace inner.1
  Some (inner.0, end.1)

-- "or" block
unfoldable pub other_with : {S : Type 0} → Reader Tok S → Reader Tok (List S)
other_with f ts = mark_at marks.Or ts >>= λ start. block_with f start.1

-- block { "or" block }
unfoldable pub branches_with : {S : Type 0} → Reader Tok S → Reader Tok (List (List S))
branches_with f ts = do
  first ← block_with f ts
  with_front (first.0 ∷ []) (all_of (is_at marks.Or) (other_with f) first.1)

-- "choice" "at" name branches
unfoldable pub choice_with : {S A : Type 0} → (Place → Name → List (List S) → A) → Reader Tok S → Reader Tok A
choice_with build f ts = do
  start ← mark_at marks.Choice ts
  at ← mark_at marks.At start.1
  name ← name_at at.1
  inner ← branches_with f name.1
  Some (build start.0 name.0.1 inner.0, inner.1)

-- "rec" name block
unfoldable pub rec_with : {S A : Type 0} → (Place → Name → List S → A) → Reader Tok S → Reader Tok A
rec_with build f ts = do
  start ← mark_at marks.Rec ts
  name ← name_at start.1
  inner ← block_with f name.1
  Some (build start.0 name.0.1 inner.0, inner.1)

-- "continue" name ";"
unfoldable pub continue_with : {A : Type 0} → (Place → Name → A) → Reader Tok A
continue_with build ts = do
  start ← mark_at marks.Continue ts
  name ← name_at start.1
  end ← mark_at marks.Semicolon name.1
  Some (build start.0 name.0.1, end.1)

-- A statement: `plain` reads one in which no others stand, and one in which some do is made of its parts.
unfoldable pub statement_with : {S : Type 0} → (plain : Reader Tok S) → (Place → Name → List (List S) → S) → (Place → Name → List S → S) →
    Reader Tok S → Reader Tok S
statement_with plain a_choice a_loop f ts =
    if is_at marks.Choice ts then choice_with a_choice f ts
    else (if is_at marks.Rec ts then rec_with a_loop f ts
    else plain ts)

-- the same with statements in it at most so deep, itself counted
unfoldable pub nested_at : {S : Type 0} → (plain : Reader Tok S) → (Place → Name → List (List S) → S) → (Place → Name → List S → S) →
    ℕ → Reader Tok S
nested_at plain a_choice a_loop zero ts = None
nested_at plain a_choice a_loop (suc d) ts = statement_with plain a_choice a_loop (nested_at plain a_choice a_loop d) ts

-- each statement takes a token at least, and so does each further branch
pub record Shortens {S : Type 0} (f : ℕ → Reader Tok S) : Type 0 where
  pub statement : (d : ℕ) (ts : List Tok) (x : S) (us : List Tok) → f d ts ≡ Some (x, us) → length us < length ts
  pub other : (d : ℕ) (ts : List Tok) (xs : List S) (us : List Tok) → other_with (f d) ts ≡ Some (xs, us) → length us < length ts

-- what they are of a protocol, each alone
abbrev pub a_choice : Place → Name → List (List Statements) → Statements
a_choice place at inner = Choice place at (branches_of (map joined inner)) Nothing

abbrev pub a_rec : Place → Name → List Statements → Statements
a_rec place name inner = Rec place name (joined inner) Nothing

abbrev pub a_continue : Place → Name → Statements
a_continue place name = Continue place name Nothing

-- a message, alone
unfoldable pub says_at : List Declaration → Reader Tok Statements
says_at declared ts = message_at declared ts >>= λ m. Some (Says m.0 Nothing, m.1)

-- a statement in which no others stand
unfoldable pub plain_at : List Declaration → Reader Tok Statements
plain_at declared ts =
    if is_at marks.Continue ts then continue_with a_continue ts
    else (if is_at marks.Do ts then do_at ts
    else says_at declared ts)

abbrev pub statement_at : List Declaration → ℕ → Reader Tok Statements
statement_at declared = nested_at (plain_at declared) a_choice a_rec

-- ---- what messages carry: of each name with a "(" behind it and no "do" in front, the names up to the next ")"

abbrev pub names_in : Tok → List Name
names_in (named p n) = n ∷ []
names_in (quoted p n) = []
names_in (marked p k) = []

abbrev pub names_up : List Tok → List Name
names_up [] = []
names_up (t ∷ ts) = if is_at marks.CloseParen (t ∷ ts) then [] else names_in t ++ names_up ts

abbrev pub carried_by : Tok → List Tok → List Carries
carried_by (named p n) ts = if is_at marks.OpenParen ts then carried p (names_up ts) ∷ [] else []
carried_by (quoted p n) ts = []
carried_by (marked p k) ts = []

abbrev pub carried_unless : Bool → Tok → List Tok → List Carries
carried_unless behind_do t ts = if behind_do then [] else carried_by t ts

-- `behind_do` says that a "do" stands in front
abbrev pub carries_from : Bool → List Tok → List Carries
carries_from behind_do [] = []
carries_from behind_do (t ∷ ts) = carried_unless behind_do t ts ++ carries_from (is_at marks.Do (t ∷ ts)) ts

abbrev pub carries_in : List Tok → List Carries
carries_in = carries_from false

-- ---- what each "do" is given: the names behind its name, up to the next ")"

abbrev pub given_in : Place → Tok → List Tok → List Arguments
given_in p (named q n) ts = given p n (names_up ts) ∷ []
given_in p (quoted q n) ts = []
given_in p (marked q k) ts = []

abbrev pub given_behind : Place → List Tok → List Arguments
given_behind p [] = []
given_behind p (t ∷ ts) = given_in p t ts

abbrev pub given_by : Tok → List Tok → List Arguments
given_by (named p n) ts = []
given_by (quoted p n) ts = []
given_by (marked p k) ts = if code k == code marks.Do then given_behind p ts else []

abbrev pub arguments_in : List Tok → List Arguments
arguments_in [] = []
arguments_in (t ∷ ts) = given_by t ts ++ arguments_in ts

-- ---- the file

-- the tokens in front of those behind
abbrev pub up_to : List Tok → List Tok → List Tok
up_to ts behind = take (length ts - length behind) ts

-- title header block
unfoldable pub part_at : List Declaration → Reader Tok WrittenPart
part_at declared ts = do
  title ← title_at ts
  header ← header_at title.1
  body ← block_with (statement_at declared 200) header.1
  Some (
    record {
      place = title.0.0;
      name = title.0.1;
      me = header.0.0;
      roles = header.0.1;
      carries = carries_in (up_to header.1 body.1);
      arguments = arguments_in (up_to header.1 body.1);
      body = joined body.0;
    },
    body.1,
  )

-- whether tokens are left
abbrev pub is_more : List Tok → Bool
is_more [] = false
is_more (t ∷ ts) = true

-- All of the tokens. The file's number is left at 0.
unfoldable pub file_at : List Tok → Option WrittenTree
file_at ts = do
  rest ← after_module ts
  types ← types_at rest
  first ← part_at types.0 types.1
  others ← all_of is_more (part_at types.0) first.1
  Some (record { file = 0; types = types.0; first = first.0; others = others.0 })
