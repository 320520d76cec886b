-- Class files of a program, read back and linked, and the roles that run them.
use Rattle.std.specs.Prelude.{◌≢◌, ℕ, List, [], ◌∷◌, map, filter, length, Bool, true, false, None}
use Rattle.std.specs.List.{AllByRecursion}
use Rattle.mg_text.specs.Call.{Name}
use Rattle.mg_text.specs.declared.event.Event.{Event}
use Rattle.mg_text.specs.declared.event.Event.TheVariants as seen
use Rattle.cls_tree.specs.Tree.{Class as File}
use Rattle.cls_bytes.specs.Spelling.{ClassSpells}
use Rattle.jv_core.specs.Tree as Core
use Rattle.jv_core.specs.Meaning.{main_of}
use Rattle.vm_model.specs.Program.{Program}
use Rattle.vm_model.specs.Links.{Links}
use Rattle.vm_world_law.specs.declared.role.RoleEvent.{RoleEvent}
use Rattle.vm_world_law.specs.declared.role.RoleMain.{RoleMain}

-- the bytes spell these class files
abbrev pub AreSpelled : List (List ℕ) → List File → Type 0
AreSpelled [] [] = Unit {0}
AreSpelled (bytes ∷ more) (file ∷ files) = ClassSpells bytes file × AreSpelled more files
AreSpelled _ _ = ⊥

-- the class files that these bytes spell link to this program
abbrev pub IsLoaded : List (List ℕ) → Program → Type 0
IsLoaded bytes program = (files : List File) × AreSpelled bytes files × Links files program

-- the class of each role has a `main`
abbrev pub HaveMains : Core.Program → List RoleMain → Type 0
HaveMains core mains = AllByRecursion (λ main. main_of core main.class ≢ None) mains

-- the names of the roles
abbrev pub names_of : List RoleMain → List Name
names_of mains = map (λ main. main.role) mains

-- a message is sent
abbrev pub is_send : Event → Bool
is_send (seen.Send peer label payload) = true
is_send _ = false

-- how many messages are sent
abbrev pub messages_in : List RoleEvent → ℕ
messages_in events = length (filter (λ e. is_send e.event) events)
