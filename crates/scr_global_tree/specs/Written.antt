-- A file as it is written, beside the protocol that it means: types, roles and payloads by their names.
use Rattle.std.specs.Prelude.{ℕ, List, map}
use Rattle.mg_text.specs.Call.{Name}
use Rattle.mg_text.specs.declared.place.Place.{Place}
use Rattle.scr_tree.specs.declared.written.Declaration.{Declaration}
use Rattle.scr_tree.specs.declared.written.Role.{Role}
use Rattle.scr_tree.specs.Written.{Carries, carries_of, role_name}
use Rattle.scr_global.specs.Tree.{Statements}
use Rattle.scr_global_tree.specs.declared.written.WrittenGlobal.{WrittenGlobal}
use Rattle.scr_global_tree.specs.Tree.{GlobalTree}
use Rattle.scr_global_tree.specs.View.{statements}

-- The parts of a file. Of each message, in the order of the text, `carries` has what stands between its parentheses.
pub record WrittenTree : Type 0 where
  pub file : ℕ
  pub types : List Declaration
  pub name : Name
  pub roles : List Role
  pub carries : List Carries
  pub body : Statements

abbrev pub written_of : ℕ → WrittenGlobal → WrittenTree
written_of file w = record {
  file = file;
  types = w.types.items;
  name = w.name;
  roles = w.roles.items;
  carries = map carries_of w.carries.items;
  body = statements w.body.items;
}

-- where a role is named
abbrev pub role_place : Role → Place
role_place role = role.place

-- the protocol that is meant
abbrev pub global_of : WrittenTree → GlobalTree
global_of w = record { file = w.file; name = w.name; roles = map role_name w.roles; places = map role_place w.roles; body = w.body }
