-- Files that are told: a list of them, and what stands under each name.
use Rattle.std.specs.Prelude.{ℕ, List}
use Rattle.std.specs.List.{fold}
use Rattle.std.specs.FinMap as map
use Rattle.mg_text.specs.Call.{Name}
use Rattle.mg_io.specs.Outside.{Files}

-- a file: its name, and what it holds
pub record Told : Type 0 where
  pub name : Name
  pub content : List ℕ

-- a folder: the files that were put into it, in their order, and the names that were asked for and aren't there
pub record ToldFiles : Type 0 where
  pub listed : List Told
  pub unread : List Name

-- the files with this one among them
abbrev pub with_told : Files → Told → Files
with_told files file = map.insert files file.name file.content

-- what stands under each name, where each file is put in turn; so of two of one name the later stands
abbrev pub files_in : List Told → Files
files_in listed = fold with_told map.empty listed
