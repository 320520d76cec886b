-- How classes and their methods are numbered, in file and text order.
use Rattle.std.specs.Prelude.{◌≡◌, ℕ, suc, ◌+◌, List, [], ◌∷◌, map, length, Option, option_and_then, option_map, position}
use Rattle.std.specs.Str.{bytes_eq}
use Rattle.mg_text.specs.Call.{Name}
use Rattle.jv_tree.specs.Source.{Class}
use Rattle.jv_tree.specs.View.{class_of}
use Rattle.jv_types.specs.declared.entry.ClassEntry.{ClassEntry}

-- the numbers of a class: its own, that of its first method, and that of the typestate that it names
pub record Numbers : Type 0 where
  pub class : ℕ
  pub first_method : ℕ
  pub typestate : Option ℕ

abbrev pub numbers : (class first_method : ℕ) → Option ℕ → Numbers
numbers n m t = record { class = n; first_method = m; typestate = t }

abbrev pub numbers_in : ClassEntry → Numbers
numbers_in e = numbers e.number e.first_method (option_map (λ t. t.number) e.typestate)

-- the number of a typestate that is named, among those of these names
abbrev pub number_named : List Name → Option Name → Option ℕ
number_named names o = option_and_then (λ name. position (bytes_eq name) names) o

-- the numbers of classes from this one on, whose methods are numbered from this one on
abbrev pub numbers_from : List Name → (class first_method : ℕ) → List Class → List Numbers
numbers_from names n m [] = []
numbers_from names n m (c ∷ cs) = numbers n m (number_named names c.typestate) ∷ numbers_from names (suc n) (m + length c.methods) cs

-- how many methods classes have
abbrev pub methods_in : List Class → ℕ
methods_in [] = 0
methods_in (c ∷ cs) = length c.methods + methods_in cs

abbrev pub classes_seen : List ClassEntry → List Class
classes_seen es = map (λ e. class_of e.class.now) es

-- entries are numbered in their order, and have so many methods
pub record AreNumbered (names : List Name) (methods : ℕ) (es : List ClassEntry) : Type 0 where
  pub each : map numbers_in es ≡ numbers_from names 0 0 (classes_seen es)
  pub all : methods ≡ methods_in (classes_seen es)
