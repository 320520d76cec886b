-- The methods that a typestate offers, each name once.
use Rattle.std.specs.Prelude.{◌≡◌, List, [], ◌∷◌, ◌++◌, map, Contains, Bool, if◌then◌else◌}
use Rattle.std.specs.List.{list_any}
use Rattle.std.specs.Borrow.{Bor}
use Rattle.mg_text.specs.Call.{Name}
use Rattle.mg_text.specs.Interned.{with_text}
use Rattle.ts_tree.specs.declared.parts.Method.{Method as KeptMethod}
use Rattle.ts_tree.specs.View.{method_of}
use Rattle.ts_tree.specs.Typestate.{Method, Typestate}
use Rattle.jv_rules.specs.Program.{Program, offers_in}
use Rattle.jv_types.specs.inner.Blaming.{is_in}
use Rattle.jv_types.specs.inner.Declaring.{other_labels}

abbrev pub offers_seen : List (Bor KeptMethod) → List Method
offers_seen ms = map (λ m. method_of m.now) ms

-- a method, where its name wasn't met
abbrev pub new_among : List Name → Method → List Method
new_among seen d = if is_in seen d.name then [] else d ∷ []

-- the first method of each name that wasn't met
abbrev pub firsts_among : List Name → List Method → List Method
firsts_among seen [] = []
firsts_among seen (d ∷ ds) = new_among seen d ++ firsts_among (with_text seen d.name) ds

-- methods of one name have one result and the same parameters
pub record AreAlike (ds : List Method) : Type 0 where
  pub each : (m n : Method) → Contains ds m → Contains ds n → m.name ≡ n.name → (m.result ≡ n.result) × (m.params ≡ n.params)

-- whether a method answers with other labels than the constants of its own result
abbrev pub labels_differ : Program → Method → Bool
labels_differ program d = other_labels program d.result d.target

abbrev pub is_mislabelled : Program → Typestate → Bool
is_mislabelled program t = list_any (labels_differ program) (offers_in t.states)

-- the names of the typestates with such a method
abbrev pub mislabelled : Program → List Name → List Typestate → List Name
mislabelled program met [] = met
mislabelled program met (t ∷ ts) = mislabelled program (if is_mislabelled program t then with_text met t.name else met) ts
