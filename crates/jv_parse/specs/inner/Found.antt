-- What is read already.
use Rattle.std.specs.Prelude.{Some}
use Rattle.mg_read.specs.Reader.{Reader}
use Rattle.jv_tree.specs.declared.token.Token.{Token}
use Rattle.jv_tree.specs.Source.{Expr}

-- this expression, and the tokens after it
abbrev pub found : Expr → Reader Token Expr
found e ts = Some (e, ts)
