-- A file as it is written, beside the protocols that it means: types, roles and payloads by their names.
use Rattle.std.specs.Prelude.{ℕ, List, [], ◌∷◌, map, Option, Some, None, if◌then◌else◌}
use Rattle.std.specs.Str.{bytes_eq}
use Rattle.std.specs.Option.{option_or}
use Rattle.mg_text.specs.Call.{Name}
use Rattle.mg_text.specs.declared.place.Place.{Place}
use Rattle.scr_tree.specs.declared.written.Declaration.{Declaration}
use Rattle.scr_tree.specs.declared.written.Role.{Role}
use Rattle.scr_tree.specs.declared.written.Carries.{Carries as Kept}
use Rattle.scr_tree.specs.declared.written.Arguments.{Arguments as Given}
use Rattle.scr_tree.specs.declared.written.WrittenPart.{WrittenPart as Part}
use Rattle.scr_tree.specs.declared.written.Written.{Written}
use Rattle.scr_tree.specs.declared.syntax.Payload.{Payload}
use Rattle.scr_tree.specs.declared.syntax.Payload.TheVariants as payloads
use Rattle.scr_tree.specs.Payloads.{payload_class, payload_word}
use Rattle.scr_tree.specs.Tree.{PartTree, LocalTree, Titled, Statements}
use Rattle.scr_tree.specs.View.{statements}

-- the types between the parentheses of a message, as they are written, with the message's place
pub record Carries : Type 0 where
  pub place : Place
  pub types : List Name

-- the roles between the parentheses of a `do`, with its place and the protocol that it names
pub record Arguments : Type 0 where
  pub place : Place
  pub name : Name
  pub roles : List Name

-- A protocol of a file, with the place of its name. What stands between the parentheses of its messages is in `carries`, of its `do`s in
-- `arguments`, in the order of the text.
pub record WrittenPart : Type 0 where
  pub place : Place
  pub name : Name
  -- the role that the protocol is of, where it is named behind `at` or by `self`
  pub me : Role
  pub roles : List Role
  pub carries : List Carries
  pub arguments : List Arguments
  pub body : Statements

-- the parts of a file: its types, and its protocols
pub record WrittenTree : Type 0 where
  pub file : ℕ
  pub types : List Declaration
  pub first : WrittenPart
  pub others : List WrittenPart

abbrev pub parts_in : WrittenTree → List WrittenPart
parts_in w = w.first ∷ w.others

abbrev pub carries_of : Kept → Carries
carries_of kept = record { place = kept.place; types = kept.types.items }

abbrev pub arguments_of : Given → Arguments
arguments_of given = record { place = given.place; name = given.name; roles = given.roles.items }

abbrev pub part_written : Part → WrittenPart
part_written p = record {
  place = p.place;
  name = p.name;
  me = p.me;
  roles = p.roles.items;
  carries = map carries_of p.carries.items;
  arguments = map arguments_of p.arguments.items;
  body = statements p.body.items;
}

abbrev pub written_of : ℕ → Written → WrittenTree
written_of file w = record {
  file = file;
  types = w.types.items;
  first = part_written w.first;
  others = map part_written w.others.items;
}

abbrev pub role_name : Role → Name
role_name role = role.name

-- the names of the roles that a protocol lists, and of the role that it is of
abbrev pub roles_in : WrittenPart → List Name
roles_in p = map role_name p.roles

abbrev pub me_in : WrittenPart → Name
me_in p = p.me.name

abbrev pub name_in : WrittenPart → Name
name_in p = p.name

abbrev pub body_of : WrittenPart → Statements
body_of p = p.body

abbrev pub title_of : WrittenPart → Titled
title_of p = record { name = p.name; body = p.body }

abbrev pub part_meant : WrittenPart → PartTree
part_meant p = record { place = p.place; name = p.name; body = p.body }

-- the protocol that is meant
abbrev pub local_of : WrittenTree → LocalTree
local_of w = record {
  file = w.file;
  name = w.first.name;
  me = w.first.me.name;
  roles = roles_in w.first;
  body = w.first.body;
  others = map part_meant w.others;
}

-- ---- what the types mean

-- the kind of a value of a Java class
abbrev pub kind_of_class : Name → Option Payload
kind_of_class class =
    if bytes_eq class (payload_class payloads.Int) then Some payloads.Int
    else (if bytes_eq class (payload_class payloads.Boolean) then Some payloads.Boolean
    else (if bytes_eq class (payload_class payloads.Text) then Some payloads.Text
    else None))

-- the class of a name that is declared beforehand
abbrev pub class_beforehand : Name → Option Name
class_beforehand alias =
    if bytes_eq alias (payload_word payloads.Int) then Some (payload_class payloads.Int)
    else (if bytes_eq alias (payload_word payloads.Boolean) then Some (payload_class payloads.Boolean)
    else (if bytes_eq alias (payload_word payloads.Text) then Some (payload_class payloads.Text)
    else None))

-- the class that the first declaration of a name gives it
abbrev pub class_among : List Declaration → Name → Option Name
class_among [] alias = None
class_among (d ∷ ds) alias = if bytes_eq alias d.alias then Some d.class else class_among ds alias

abbrev pub class_of_alias : List Declaration → Name → Option Name
class_of_alias types alias = option_or (class_beforehand alias) (class_among types alias)

abbrev pub kind_if_class : Option Name → Payload
kind_if_class None = payloads.Nothing
kind_if_class (Some class) = elim (kind_of_class class) [ None ↦ payloads.Nothing | Some kind ↦ kind ]

-- What a message carries whose types are these: nothing, or a value of the one type. What means nothing, since it is refused, is nothing.
abbrev pub kind_of : List Declaration → List Name → Payload
kind_of types [] = payloads.Nothing
kind_of types (alias ∷ []) = kind_if_class (class_of_alias types alias)
kind_of types (alias ∷ other ∷ more) = payloads.Nothing
