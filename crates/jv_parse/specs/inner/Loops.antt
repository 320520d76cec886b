-- Loops, as the program reads them: without the label first.
use Rattle.std.specs.Prelude.{ℕ, List, Option, Some, codes}
use Rattle.mg_text.specs.Call.{Name}
use Rattle.mg_text.specs.declared.place.Place.{Place}
use Rattle.mg_read.specs.Reader.{Reader, ◌>>=◌}
use Rattle.jv_tree.specs.declared.token.Sign.TheVariants as signs
use Rattle.jv_tree.specs.declared.token.Token.{Token}
use Rattle.jv_tree.specs.Source.{Expr, Stmt, While, Do}
use Rattle.jv_grammar.specs.Base.{sign_at, word_at}
use Rattle.jv_grammar.specs.Stmts.{cond_at, loop_place, loop_label}

-- the place of a loop's first token, its test and its body
abbrev pub Loop : Type 0
Loop = Place × (Expr × Stmt)

-- In what follows expressions inside are at most d deep, and f reads a statement.
module _ (d : ℕ) (f : Reader Token Stmt) where
  unfoldable pub while_at : Reader Token Loop
  while_at ts = do
    start ← word_at (codes "while") ts
    test ← cond_at d start.1
    body ← f test.1
    Some ((start.0, (test.0, body.0)), body.1)

  unfoldable pub do_at : Reader Token Loop
  do_at ts = do
    start ← word_at (codes "do") ts
    body ← f start.1
    again ← word_at (codes "while") body.1
    test ← cond_at d again.1
    end ← sign_at signs.Semicolon test.1
    Some ((start.0, (test.0, body.0)), end.1)

-- such a loop with its label, in front of what stands behind it
abbrev pub while_from : Option (Place × Name) → Loop × List Token → Option (Stmt × List Token)
while_from l x = Some (While (loop_place x.0.0 l) (loop_label l) x.0.1.0 x.0.1.1, x.1)

abbrev pub do_from : Option (Place × Name) → Loop × List Token → Option (Stmt × List Token)
do_from l x = Some (Do (loop_place x.0.0 l) (loop_label l) x.0.1.1 x.0.1.0, x.1)
