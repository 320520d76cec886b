-- Programs with their typestates.
use Rattle.std.specs.Prelude.{List, [], ◌∷◌, ◌++◌, Option, Some, None, option_and_then, flat_map, Bool, false}
use Rattle.std.specs.List.{list_any}
use Rattle.std.specs.Str.{bytes_eq}
use Rattle.mg_text.specs.Call.{Name}
use Rattle.ts_tree.specs.Typestate as protocols
use Rattle.jv_tree.specs.Source.{Class, Decl}
use Rattle.jv_meaning.specs.Program.{Sources, typestate_named}

pub record Program : Type 0 where
  pub files : Sources
  pub typestates : List protocols.Typestate

-- all declarations, in file and text order
abbrev pub decls_of : Sources → List Decl
decls_of files = flat_map (λ f. f) files

-- the typestate that a class follows, where it has one
abbrev pub typestate_of : Program → Class → Option protocols.Typestate
typestate_of program class = option_and_then (typestate_named program.typestates) class.typestate

-- all methods of a typestate, in the order of the text
abbrev pub offers_in : List protocols.State → List protocols.Method
offers_in [] = []
offers_in (s ∷ ss) = s.methods ++ offers_in ss

-- whether some state of the class's typestate offers a method of this name
abbrev pub is_of_protocol : Program → Class → Name → Bool
is_of_protocol program class name =
    elim (typestate_of program class) [ None ↦ false | Some t ↦ list_any (λ m. bytes_eq m.name name) (offers_in t.states) ]
