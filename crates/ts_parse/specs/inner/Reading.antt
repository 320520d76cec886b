-- Reading from left to right. Each function gives a value and the tokens behind it.
use Rattle.std.specs.Prelude.{ℕ, List, [], ◌∷◌, Option, Some, None, Bool, true, false, if◌then◌else◌, ◌==◌, codes}
use Rattle.std.specs.Str.{bytes_eq}
use Rattle.mg_text.specs.Call.{Name}
use Rattle.mg_text.specs.declared.place.Place.{Place}
use Rattle.mg_read.specs.Reader.{Reader, ◌>>=◌, all_of}
use Rattle.mg_read.proofs.Loop.{with_front}
use Rattle.ts_tree.specs.declared.parts.TypeName.{TypeName}
use Rattle.ts_parse.specs.declared.token.Mark.{Mark}
use Rattle.ts_parse.specs.declared.token.Mark.TheVariants as marks
use Rattle.ts_parse.specs.declared.written.Naming.{Naming}
use Rattle.ts_parse.specs.declared.written.WrittenBranch.{WrittenBranch}
use Rattle.ts_parse.specs.Tok.{Tok, named, marked}
use Rattle.ts_parse.specs.Grammar.{type_named, param_named}
use Rattle.ts_parse.specs.Written.{WTarget, to_one, by_label, WMethod, WEntry, offer, drop_end, WState, WFile}

-- ---- one token

-- a number for each mark, in the order of its declaration
abbrev pub code : Mark → ℕ
code marks.Typestate = 0
code marks.Package = 1
code marks.Import = 2
code marks.OpenBrace = 3
code marks.CloseBrace = 4
code marks.OpenParen = 5
code marks.CloseParen = 6
code marks.Less = 7
code marks.Greater = 8
code marks.Equals = 9
code marks.Comma = 10
code marks.Colon = 11
code marks.Semicolon = 12
code marks.Dot = 13
code marks.Star = 14

abbrev pub mark_in : Mark → Tok → List Tok → Option (Place × List Tok)
mark_in m (named p n) ts = None
mark_in m (marked p k) ts = if code k == code m then Some (p, ts) else None

-- the place of this mark
abbrev pub mark_at : Mark → Reader Tok Place
mark_at m [] = None
mark_at m (t ∷ ts) = mark_in m t ts

abbrev pub name_in : Tok → List Tok → Option (Naming × List Tok)
name_in (named p n) ts = Some (record { place = p; text = n }, ts)
name_in (marked p k) ts = None

-- a name, where it stands
abbrev pub name_at : Reader Tok Naming
name_at [] = None
name_at (t ∷ ts) = name_in t ts

-- whether this mark comes next
abbrev pub is_at : Mark → List Tok → Bool
is_at m [] = false
is_at m (named p n ∷ ts) = false
is_at m (marked p k ∷ ts) = code k == code m

-- whether a name comes next
abbrev pub is_name : List Tok → Bool
is_name [] = false
is_name (named p n ∷ ts) = true
is_name (marked p k ∷ ts) = false

-- ---- parts in a row

-- mark part
unfoldable pub behind_at : {A : Type 0} → Mark → Reader Tok A → Reader Tok A
behind_at mark part ts = mark_at mark ts >>= λ start. part start.1

-- part { mark part }, as long as go says so
unfoldable pub listed_at : {A : Type 0} → Mark → (List Tok → Bool) → Reader Tok A → Reader Tok (List A)
listed_at mark go part ts = do
  first ← part ts
  with_front (first.0 ∷ []) (all_of go (behind_at mark part) first.1)

-- a dot, and a name behind it
abbrev pub is_dot_name : List Tok → Bool
is_dot_name [] = false
is_dot_name (t ∷ ts) = if is_at marks.Dot (t ∷ ts) then is_name ts else false

-- a comma, and no closing brace behind it
abbrev pub is_more : List Tok → Bool
is_more [] = false
is_more (t ∷ ts) = if is_at marks.Comma (t ∷ ts) then (if is_at marks.CloseBrace ts then false else true) else false

-- ---- what stands before the typestate

-- name { "." name }
abbrev pub path_at : Reader Tok (List Naming)
path_at = listed_at marks.Dot is_dot_name name_at

-- "package" path ";"
unfoldable pub package_at : List Tok → Option (List Tok)
package_at ts = do
  start ← mark_at marks.Package ts
  names ← path_at start.1
  end ← mark_at marks.Semicolon names.1
  Some end.1

-- [ package ]
unfoldable pub after_package : List Tok → Option (List Tok)
after_package ts = if is_at marks.Package ts then package_at ts else Some ts

-- [ "." "*" ]
unfoldable pub after_star : List Tok → Option (List Tok)
after_star ts = if is_at marks.Dot ts then (mark_at marks.Dot ts >>= λ dot. mark_at marks.Star dot.1 >>= λ star. Some star.1) else Some ts

-- "import" path [ "." "*" ] ";"
unfoldable pub import_at : Reader Tok Place
import_at ts = do
  start ← mark_at marks.Import ts
  names ← path_at start.1
  rest ← after_star names.1
  end ← mark_at marks.Semicolon rest
  Some (start.0, end.1)

-- { import }
abbrev pub imports_at : Reader Tok (List Place)
imports_at = all_of (is_at marks.Import) import_at

-- ---- methods

abbrev pub typed : Option TypeName → List Tok → Option (TypeName × List Tok)
typed None ts = None
typed (Some type) ts = Some (type, ts)

-- a parameter's type
unfoldable pub param_at : Reader Tok TypeName
param_at ts = name_at ts >>= λ name. typed (param_named name.0.text) name.1

-- [ type { "," type } ], up to ")"
unfoldable pub params_at : Reader Tok (List TypeName)
params_at ts = if is_at marks.CloseParen ts then Some ([], ts) else listed_at marks.Comma (is_at marks.Comma) param_at ts

-- name ":" name
unfoldable pub branch_at : Reader Tok WrittenBranch
branch_at ts = do
  label ← name_at ts
  colon ← mark_at marks.Colon label.1
  to ← name_at colon.1
  Some (record { label = label.0; to = to.0 }, to.1)

-- "<" branches ">"
unfoldable pub answers_at : Reader Tok WTarget
answers_at ts = do
  start ← mark_at marks.Less ts
  branches ← listed_at marks.Comma (is_at marks.Comma) branch_at start.1
  end ← mark_at marks.Greater branches.1
  Some (by_label branches.0, end.1)

-- name  |  answers
unfoldable pub target_at : Reader Tok WTarget
target_at ts = if is_at marks.Less ts then answers_at ts else (name_at ts >>= λ name. Some (to_one name.0, name.1))

-- type name "("
unfoldable pub head_at : Reader Tok (TypeName × Naming)
head_at ts = do
  type ← name_at ts
  name ← name_at type.1
  start ← mark_at marks.OpenParen name.1
  Some ((type_named type.0.text, name.0), start.1)

-- head types ")" ":" target
unfoldable pub method_at : Reader Tok WMethod
method_at ts = do
  head ← head_at ts
  params ← params_at head.1
  end ← mark_at marks.CloseParen params.1
  colon ← mark_at marks.Colon end.1
  target ← target_at colon.1
  Some (record { result = head.0.0; name = head.0.1; params = params.0; target = target.0 }, target.1)

-- [ "," ]
unfoldable pub after_comma : List Tok → Option (List Tok)
after_comma ts = if is_at marks.Comma ts then (mark_at marks.Comma ts >>= λ comma. Some comma.1) else Some ts

-- ---- entries

-- whether a token is this word
abbrev pub is_word : Name → Tok → Bool
is_word text (named p n) = bytes_eq n text
is_word text (marked p k) = false

-- whether the word "drop" comes next, with a colon behind it
abbrev pub is_drop : List Tok → Bool
is_drop [] = false
is_drop (t ∷ ts) = if is_at marks.Colon ts then is_word (codes "drop") t else false

abbrev pub past_end : Naming × List Tok → Option (List Tok)
past_end name = if bytes_eq name.0.text (codes "end") then Some name.1 else None

-- the word "end"
unfoldable pub after_end : List Tok → Option (List Tok)
after_end ts = name_at ts >>= λ name. past_end name

-- a word, ":" "end"
unfoldable pub drop_at : Reader Tok WEntry
drop_at ts = do
  word ← name_at ts
  colon ← mark_at marks.Colon word.1
  rest ← after_end colon.1
  Some (drop_end word.0.place, rest)

-- a method, as an entry
unfoldable pub offer_at : Reader Tok WEntry
offer_at ts = do
  method ← method_at ts
  Some (offer method.0, method.1)

-- "drop" ":" "end"  |  method
unfoldable pub entry_at : Reader Tok WEntry
entry_at ts = if is_drop ts then drop_at ts else offer_at ts

-- entry { "," entry } [ "," ]
unfoldable pub some_entries_at : Reader Tok (List WEntry)
some_entries_at ts = do
  entries ← listed_at marks.Comma is_more entry_at ts
  rest ← after_comma entries.1
  Some (entries.0, rest)

-- [ entries ], up to "}"
unfoldable pub entries_at : Reader Tok (List WEntry)
entries_at ts = if is_at marks.CloseBrace ts then Some ([], ts) else some_entries_at ts

-- ---- states and the file

-- name "=" "{" entries "}"
unfoldable pub state_at : Reader Tok WState
state_at ts = do
  name ← name_at ts
  equals ← mark_at marks.Equals name.1
  start ← mark_at marks.OpenBrace equals.1
  entries ← entries_at start.1
  end ← mark_at marks.CloseBrace entries.1
  Some (record { name = name.0; entries = entries.0 }, end.1)

abbrev pub not_closed : List Tok → Bool
not_closed ts = if is_at marks.CloseBrace ts then false else true

-- { state }, up to "}"
abbrev pub states_at : Reader Tok (List WState)
states_at = all_of not_closed state_at

-- "typestate" name "{"
unfoldable pub title_at : Reader Tok Naming
title_at ts = do
  start ← mark_at marks.Typestate ts
  name ← name_at start.1
  open_brace ← mark_at marks.OpenBrace name.1
  Some (name.0, open_brace.1)

-- title { state } "}"
unfoldable pub typestate_at : Reader Tok WFile
typestate_at ts = do
  title ← title_at ts
  states ← states_at title.1
  end ← mark_at marks.CloseBrace states.1
  Some (record { name = title.0.text; states = states.0 }, end.1)

abbrev pub if_last : WFile × List Tok → Option WFile
if_last (w, []) = Some w
if_last (w, t ∷ ts) = None

-- all of the tokens
unfoldable pub file_of : List Tok → Option WFile
file_of ts = do
  rest ← after_package ts
  imports ← imports_at rest
  typestate ← typestate_at imports.1
  if_last typestate
