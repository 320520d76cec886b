-- Programs: the classes and enums of source files, and what their names name.
use Rattle.std.specs.Prelude.{ℕ, List, [], ◌∷◌, Option, flat_map, find, position}
use Rattle.std.specs.Str.{bytes_eq}
use Rattle.mg_text.specs.Call.{Name}
use Rattle.jv_tree.specs.Source.{Field, Method, Class, Enum, Decl, ClassDecl, EnumDecl, File}
use Rattle.ts_tree.specs.Typestate.{Typestate}

-- the files of a program, in their order
abbrev pub Sources : Type 0
Sources = List File

abbrev pub class_in : Decl → List Class
class_in (ClassDecl c) = c ∷ []
class_in (EnumDecl e) = []

abbrev pub enum_in : Decl → List Enum
enum_in (ClassDecl c) = []
enum_in (EnumDecl e) = e ∷ []

-- the classes, in file and text order
abbrev pub classes_of : Sources → List Class
classes_of files = flat_map (flat_map class_in) files

-- the enums, in file and text order
abbrev pub enums_of : Sources → List Enum
enums_of files = flat_map (flat_map enum_in) files

-- The first of a name.

abbrev pub class_named : Sources → Name → Option Class
class_named files name = find (λ c. bytes_eq c.name name) (classes_of files)

abbrev pub enum_named : Sources → Name → Option Enum
enum_named files name = find (λ e. bytes_eq e.name name) (enums_of files)

abbrev pub field_named : Class → Name → Option Field
field_named c name = find (λ f. bytes_eq f.name name) c.fields

abbrev pub method_named : Class → Name → Option Method
method_named c name = find (λ m. bytes_eq m.name name) c.methods

abbrev pub typestate_named : List Typestate → Name → Option Typestate
typestate_named typestates name = find (λ t. bytes_eq t.name name) typestates

-- the position of a constant, from 0
abbrev pub constant_position : Enum → Name → Option ℕ
constant_position e name = position (bytes_eq name) e.constants
