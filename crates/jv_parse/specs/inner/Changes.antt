-- What may stand behind the target of an assignment.
use Rattle.std.specs.Prelude.{ℕ}
use Rattle.mg_read.specs.Reader.{Reader, ◌>>=◌}
use Rattle.mg_text.specs.declared.place.Place.{Place}
use Rattle.jv_tree.specs.declared.tree.Op.{Op}
use Rattle.jv_tree.specs.declared.token.Sign.TheVariants as signs
use Rattle.jv_tree.specs.declared.token.Token.{Token}
use Rattle.jv_tree.specs.Source.{Expr, Stmt, place_of}
use Rattle.jv_tree.specs.Sugar.{changed, one_at}
use Rattle.jv_grammar.specs.Base.{sign_at}
use Rattle.jv_grammar.specs.Stmts.{ended_at, assigned}

-- expr ";", behind "="
abbrev pub plain_at : ℕ → Expr → Reader Token Stmt
plain_at d t ts = ended_at d ts >>= λ e. assigned d (place_of t) t e.0 e.1

-- ";", behind inc or in front of it
abbrev pub counted_at : ℕ → Place → Op → Expr → Reader Token Stmt
counted_at d p op t ts = sign_at signs.Semicolon ts >>= λ c. assigned d p t (changed op t (one_at t)) c.1

-- expr ";", behind asg that isn't "="
abbrev pub compounded_at : ℕ → Op → Expr → Reader Token Stmt
compounded_at d op t ts = ended_at d ts >>= λ e. assigned d (place_of t) t (changed op t e.0) e.1
