-- What conditions of fitting speak of: the roles of a header with their places, the protocols of files, the methods of a program.
use Rattle.std.specs.Prelude.{ℕ, Bool, false, List, [], ◌∷◌, map, flat_map, find, Option, None, option_map}
use Rattle.std.specs.Prelude.{option_and_then, unwrap_or, if◌then◌else◌}
use Rattle.std.specs.List.{list_any}
use Rattle.std.specs.Str.{bytes_eq}
use Rattle.mg_text.specs.Call.{Name}
use Rattle.mg_text.specs.declared.place.Place.{Place}
use Rattle.scr_tree.specs.Tree.{LocalTree}
use Rattle.stm_acts.specs.Played.{role_class}
use Rattle.jv_core.specs.Tree.{Method, Program}
use Rattle.jv_core.specs.Lookup.{class_text, class_numbered, is_main}
use Rattle.vm_world_law.specs.declared.role.RoleMain.{RoleMain}
use Rattle.mg_sources.specs.Reading.{Part, Protocol, States, Classes}
use Rattle.fit_uses.specs.declared.usage.Use.{Use}
use Rattle.fit_uses.specs.Uses.{uses_in_all, uses_beside_making}

-- a role of a header, with the place of its name
pub record Headed : Type 0 where
  pub role : Name
  pub place : Place

abbrev pub header : List Name → List Place → List Headed
header [] places = []
header (role ∷ roles) [] = []
header (role ∷ roles) (place ∷ places) = record { role = role; place = place } ∷ header roles places

-- the protocols among what files spell, in their order
abbrev pub protocol_in : Part → List LocalTree
protocol_in (Protocol local) = local ∷ []
protocol_in (States typestate) = []
protocol_in (Classes file) = []

abbrev pub protocols_in : List Part → List LocalTree
protocols_in parts = flat_map protocol_in parts

-- the roles that they are of
abbrev pub roles_in : List Part → List Name
roles_in parts = map (λ local. local.me) (protocols_in parts)

-- the protocol that the files have of a role, or else another
abbrev pub own_local : List Part → (otherwise : Name → LocalTree) → Name → LocalTree
own_local parts otherwise me = unwrap_or (find (λ local. bytes_eq local.me me) (protocols_in parts)) (otherwise me)

-- the name is that of the class that is generated of the protocol of one of these roles
abbrev pub is_role_class : List Name → Name → Bool
is_role_class roles name = list_any (λ role. bytes_eq (role_class role) name) roles

-- so is that of a class of a program
abbrev pub has_role_class : List Name → Program → (class : ℕ) → Bool
has_role_class roles core class = unwrap_or (option_map (is_role_class roles) (class_text core class)) false

-- the role whose `main` is that of a class
abbrev pub role_of_main : Program → List RoleMain → (class : ℕ) → Option Name
role_of_main core mains class =
    option_and_then (λ name. option_map (λ main. main.role) (find (λ main. bytes_eq main.class name) mains)) (class_text core class)

-- the class of the objects of which a method may make one: that of its role, in the `main` of a role
abbrev pub class_to_make : Program → List RoleMain → Method → Option ℕ
class_to_make core mains method =
    if is_main method.kind
    then option_and_then (λ role. class_numbered core (role_class role)) (role_of_main core mains method.class)
    else None

-- the uses of a method but for the making of its role
abbrev pub uses_of_method : Program → List RoleMain → Method → List Use
uses_of_method core mains method =
    unwrap_or (option_and_then (λ class. uses_beside_making class method.body) (class_to_make core mains method))
    (uses_in_all method.body)

-- of all methods, but for those of the classes that are generated of protocols of these roles, in the order of the files and their texts
abbrev pub own_uses : List Name → Program → List RoleMain → List Use
own_uses roles core mains =
    flat_map (λ method. if has_role_class roles core method.class then [] else uses_of_method core mains method) core.methods
