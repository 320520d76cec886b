-- What kinds by numbers say, by a table of the names of classes.
use Rattle.std.specs.Prelude.{◌≡◌, ℕ, zero, suc, ◌+◌, List, [], ◌∷◌, map, length, replicate, Option, Some, None, codes, slice_get}
use Rattle.std.specs.List.{IsDistinct}
use Rattle.std.specs.Str.{bytes_eq}
use Rattle.mg_text.specs.Call.{Name}
use Rattle.cls_verify.specs.Kinds.{Int, Text, Null, Instance, Any, object}
use Rattle.cls_verify.specs.Kinds as model
use Rattle.cls_kinds.specs.declared.kind.Kind.{Kind}

-- the names of classes, each once, that of all references and that of the print stream first
pub record AreNames (names : List Name) : Type 0 where
  pub first : slice_get names 0 ≡ Some object
  pub second : slice_get names 1 ≡ Some (codes "java/io/PrintStream")
  pub apart : IsDistinct bytes_eq names

abbrev pub total_length : List Name → ℕ
total_length [] = 0
total_length (name ∷ names) = length name + total_length names

-- a number without a name stands for one that is longer than all
abbrev pub or_unnamed : List Name → ℕ → Option Name → Name
or_unnamed names i None = replicate (total_length names + i + 1) 0
or_unnamed names i (Some name) = name

abbrev pub name_at : List Name → ℕ → Name
name_at names i = or_unnamed names i (slice_get names i)

abbrev pub numbered : List Name → ℕ → model.Kind
numbered names zero = Int
numbered names (suc zero) = Text
numbered names (suc (suc zero)) = Null
numbered names (suc (suc (suc zero))) = Any
numbered names (suc (suc (suc (suc i)))) = Instance (name_at names i)

abbrev pub kind_of : List Name → Kind → model.Kind
kind_of names k = numbered names k.0

abbrev pub kinds_of : List Name → List Kind → List model.Kind
kinds_of names ks = map (kind_of names) ks
