-- What a variable may be where a method is called on it, over all contexts, and where the call leads.
use Rattle.std.specs.Prelude.{Bool, List, [], ◌∷◌, filter, nat_eq, ◌&&◌}
use Rattle.mg_text.specs.declared.place.Place.{Place}
use Rattle.jv_core.specs.Tree.{Program, Method}
use Rattle.jv_core.specs.Lookup.{text_at}
use Rattle.use_rules.specs.Elements.{Set, union, image, along, targets}
use Rattle.use_rules.specs.Keys.{Tables, typestate_of}
use Rattle.use_rules.specs.Shapes.{elements_in}
use Rattle.use_rules.specs.State.{Sight}
use Rattle.use_rules.specs.Tables.{all_sights}

abbrev pub same_place : Place → Place → Bool
same_place q r = nat_eq q.file r.file && (nat_eq q.line r.line && nat_eq q.column r.column)

-- the sights of a place
abbrev pub sights_at : Place → List Sight → List Sight
sights_at q ss = filter (λ s. same_place q s.place) ss

-- all that variables have in them
abbrev pub together : List Sight → Set
together [] = []
together (s ∷ ss) = union s.set (together ss)

module _ (p : Program) (reached : List (List Bool)) (t : Tables) where
  -- before the call at a place: the union over all contexts, and nothing where no context reaches it
  abbrev pub before : Place → Set
  before q = together (sights_at q (all_sights p reached t))

-- behind a call of a method, from such a set: where those of its states that offer the method lead, whatever is answered
abbrev pub after : Program → Method → Set → Set
after p m s = image (elements_in p m.class) (along targets (typestate_of p m.class) (text_at p m.name)) s
