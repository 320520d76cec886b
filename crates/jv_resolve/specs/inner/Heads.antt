-- What stands before a `.`.
use Rattle.mg_text.specs.Call.{Name}
use Rattle.jv_tree.specs.Source.{Expr, This, Variable}

pub data Head : Type 0 where
  ThisHead : Head
  NameHead : Name → Head
  OtherHead : Head

abbrev pub head_of : Expr → Head
head_of (This p) = ThisHead
head_of (Variable p name) = NameHead name
head_of _ = OtherHead
