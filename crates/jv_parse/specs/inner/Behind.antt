-- Statements behind their first word, whose place is known.
use Rattle.std.specs.Prelude.{ℕ, List, Option, Some, None, if◌then◌else◌}
use Rattle.mg_text.specs.declared.place.Place.{Place}
use Rattle.mg_read.specs.Reader.{Reader, ◌>>=◌}
use Rattle.jv_tree.specs.declared.token.Sign.TheVariants as signs
use Rattle.jv_tree.specs.declared.token.Token.{Token}
use Rattle.jv_tree.specs.Source.{Stmt, Break, Continue, Return}
use Rattle.jv_grammar.specs.Base.{sign_at, is_sign}
use Rattle.jv_grammar.specs.Stmts.{jump_at, ended_at}

abbrev pub break_behind : Place → Reader Token Stmt
break_behind p ts = jump_at ts >>= λ l. Some (Break p l.0, l.1)

abbrev pub continue_behind : Place → Reader Token Stmt
continue_behind p ts = jump_at ts >>= λ l. Some (Continue p l.0, l.1)

abbrev pub return_behind : ℕ → Place → Reader Token Stmt
return_behind d p ts =
    if is_sign signs.Semicolon ts then (sign_at signs.Semicolon ts >>= λ c. Some (Return p None, c.1))
    else (ended_at d ts >>= λ e. Some (Return p (Some e.0), e.1))
