-- For private clauses: reading from left to right, where a global protocol differs from a local one. Each function gives a value and the
-- tokens behind it.
use Rattle.std.specs.Prelude.{ℕ, List, [], ◌∷◌, map, Option, Some, None, if◌then◌else◌}
use Rattle.mg_text.specs.Call.{Name}
use Rattle.mg_text.specs.declared.place.Place.{Place}
use Rattle.mg_read.specs.Reader.{Reader, ◌>>=◌}
use Rattle.scr_tree.specs.Tok.{Tok}
use Rattle.scr_tree.specs.declared.token.Mark.TheVariants as marks
use Rattle.scr_tree.specs.declared.written.Declaration.{Declaration}
use Rattle.scr_tree.specs.declared.written.Role.{Role}
use Rattle.scr_tree.specs.Written.{Carries, kind_of}
use Rattle.scr_parse.specs.inner.Reading.{mark_at, name_at, is_at, after_module, types_at, roles_at, payload_at, carries_in, block_with}
use Rattle.scr_parse.specs.inner.Reading.{continue_with, nested_at}
use Rattle.scr_global.specs.Tree.{Told, Statements, Nothing, Says, Choice, Rec, Continue}
use Rattle.scr_global_tree.specs.View.{branches_of}
use Rattle.scr_global_tree.specs.Written.{WrittenTree}
use Rattle.scr_global_parse.specs.inner.View.{joined}

-- "global" "protocol" name
unfoldable pub title_at : Reader Tok Name
title_at ts = do
  start ← mark_at marks.Global ts
  protocol ← mark_at marks.Protocol start.1
  name ← name_at protocol.1
  Some (name.0.1, name.1)

-- "(" roles ")"
unfoldable pub header_at : Reader Tok (List Role)
header_at ts = do
  open_paren ← mark_at marks.OpenParen ts
  roles ← roles_at open_paren.1
  close_paren ← mark_at marks.CloseParen roles.1
  Some (roles.0, close_paren.1)

-- "from" name "to" name ";"
unfoldable pub ends_at : Reader Tok (Name × Name)
ends_at ts = do
  from ← mark_at marks.From ts
  sender ← name_at from.1
  to ← mark_at marks.To sender.1
  receiver ← name_at to.1
  end ← mark_at marks.Semicolon receiver.1
  Some ((sender.0.1, receiver.0.1), end.1)

-- name "(" payload ")" ends
unfoldable pub message_at : List Declaration → Reader Tok Told
message_at declared ts = do
  label ← name_at ts
  open_paren ← mark_at marks.OpenParen label.1
  types ← payload_at open_paren.1
  close_paren ← mark_at marks.CloseParen types.1
  ends ← ends_at close_paren.1
  Some (record { place = label.0.0; from = ends.0.0; to = ends.0.1; label = label.0.1; payload = kind_of declared types.0 }, ends.1)

-- what a choice, a loop and a `continue` are, each alone
abbrev pub a_choice : Place → Name → List (List Statements) → Statements
a_choice place at inner = Choice place at (branches_of (map joined inner)) Nothing

abbrev pub a_rec : Place → Name → List Statements → Statements
a_rec place name inner = Rec place name (joined inner) Nothing

abbrev pub a_continue : Place → Name → Statements
a_continue place name = Continue place name Nothing

-- a message, alone
unfoldable pub says_at : List Declaration → Reader Tok Statements
says_at declared ts = message_at declared ts >>= λ m. Some (Says m.0 Nothing, m.1)

-- a statement in which no others stand
unfoldable pub plain_at : List Declaration → Reader Tok Statements
plain_at declared ts = if is_at marks.Continue ts then continue_with a_continue ts else says_at declared ts

abbrev pub statement_at : List Declaration → ℕ → Reader Tok Statements
statement_at declared = nested_at (plain_at declared) a_choice a_rec

-- ---- the file

-- a value with no token behind it
abbrev pub if_last : {A : Type 0} → A × List Tok → Option A
if_last (x, []) = Some x
if_last (x, t ∷ ts) = None

-- block, and nothing behind it
unfoldable pub only_block_at : List Declaration → List Tok → Option (List Statements)
only_block_at declared ts = block_with (statement_at declared 200) ts >>= if_last

-- the statements of a body, and what they carry
unfoldable pub body_at : List Declaration → List Tok → Option (Statements × List Carries)
body_at declared ts = do
  body ← only_block_at declared ts
  Some (joined body, carries_in ts)

-- All of the tokens. The file's number is left at 0.
unfoldable pub file_at : List Tok → Option WrittenTree
file_at ts = do
  rest ← after_module ts
  types ← types_at rest
  name ← title_at types.1
  roles ← header_at name.1
  body ← body_at types.0 roles.1
  Some (record { file = 0; types = types.0; name = name.0; roles = roles.0; carries = body.1; body = body.0 })
