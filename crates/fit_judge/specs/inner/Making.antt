-- For private clauses: tables of names by which the code of a program is judged.
use Rattle.std.specs.Prelude.{◌≡◌, ◌↔◌, ℕ, List, IsTrue, map, Contains, Option, option_and_then, find, option_map, String}
use Rattle.std.specs.Str.{bytes_eq}
use Rattle.std.specs.HashMap.{HashMap, get_by_text}
use Rattle.std.specs.HashSet.{HashSet, contains_text}
use Rattle.mg_text.specs.Call.{Name}
use Rattle.stm_acts.specs.Played.{role_class}
use Rattle.jv_core.specs.Tree.{Program}
use Rattle.jv_core.specs.Lookup.{class_numbered}
use Rattle.vm_world_law.specs.declared.role.RoleMain.{RoleMain}

-- by the name of the class of a `main`, the class of whose objects it may make one
abbrev pub made_by : Program → List RoleMain → Name → Option ℕ
made_by core mains name =
    option_and_then (λ role. class_numbered core (role_class role))
    (option_map (λ main. main.role) (find (λ main. bytes_eq main.class name) mains))

abbrev pub MakesBy : {A S : Type 0} → Program → List RoleMain → HashMap (String A) ℕ S → Type 0
MakesBy core mains table = (name : Name) → get_by_text table name ≡ made_by core mains name

-- the names of the classes that are generated of protocols of these roles
abbrev pub HoldsClasses : {A S : Type 0} → List Name → HashSet (String A) S → Type 0
HoldsClasses roles classes = (name : Name) → IsTrue (contains_text classes name) ↔ Contains (map role_class roles) name
