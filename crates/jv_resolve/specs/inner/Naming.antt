-- Members one after another, with the names that have numbers by then.
use Rattle.std.specs.Prelude.{ℕ, List, [], ◌∷◌, ◌++◌, Option, Some, option_map}
use Rattle.mg_text.specs.Call.{Name}
use Rattle.jv_tree.specs.declared.tree.Param.{Param}
use Rattle.jv_resolve_law.specs.Tables.{◌>>=◌, Tables, interned}
use Rattle.jv_resolve_law.specs.Expressions.{Known}
use Rattle.jv_resolve_law.specs.Statements.{Counted, declared, slot_more}
use Rattle.jv_resolve_law.specs.Members.{Naming, Opened}

-- something with the names that have numbers by then
abbrev pub naming : {A : Type 0} → A → List Name → Naming A
naming x names = record { it = x; names = names }

-- a name's number
abbrev pub numbered : List Name → Name → Option (Naming ℕ)
numbered names x = option_map (λ n. naming n.number n.names) (interned names x)

-- what a step makes of each element, with the names of those before it
abbrev pub threaded : {X Y : Type 0} → (List Name → X → Option (Naming Y)) → List Name → List X → Option (Naming (List Y))
threaded step names [] = Some (naming [] names)
threaded step names (x ∷ xs) = do
  k ← step names x
  rest ← threaded step k.names xs
  Some (naming (k.it ∷ rest.it) rest.names)

-- these, and those of the rest behind them
abbrev pub with_done : {Y : Type 0} → List Y → Option (Naming (List Y)) → Option (Naming (List Y))
with_done done rest = option_map (λ r. naming (done ++ r.it) r.names) rest

-- parameters in scope
abbrev pub opened : List Known → Counted → Opened
opened locals so_far = record { locals = locals; so_far = so_far }

-- one more parameter in scope
abbrev pub param_at : Tables → Param → List Known → Counted → Option Opened
param_at tables p locals s = do
  k ← slot_more tables p.ty p.name s
  more ← declared k.it locals
  Some (opened more k.so_far)

-- nothing of a method is numbered yet
abbrev pub unnumbered : List Name → Counted
unnumbered names = record { names = names; slots = []; loops = [] }
