-- Things under names.
use Rattle.std.specs.Prelude.{List, Option, find, refl}
use Rattle.std.specs.Coded.{Coded, code_by, coded×, coded_ℕ, coded_list}
use Rattle.std.specs.Str.{bytes_eq}
use Rattle.mg_text.specs.Call.{Name}

-- something with its name
pub record Named (T : Type 0) : Type 0 where
  pub name : Name
  pub it : T

abbrev pub named_code : {T : Type 0} → Coded T → Coded (Named T)
named_code {T} c =
    code_by (Name × T) (coded× (coded_list coded_ℕ) c) (λ n. (n.name, n.it)) (λ p. record { name = p.0; it = p.1 }) (λ _. refl)

abbrev pub under : {T : Type 0} → Name → T → Named T
under name it = record { name = name; it = it }

-- the first one of a name
abbrev pub named : {T : Type 0} → List (Named T) → Name → Option (Named T)
named ns name = find (λ n. bytes_eq n.name name) ns
