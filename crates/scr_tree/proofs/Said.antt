-- The message that the program's statements begin with, by the kind of the first.
use Rattle.std.proofs.Common.{◌≡◌, Some, None, ap}
use Rattle.mg_text.specs.Call.{Name}
use Rattle.mg_text.specs.Row.{Row}
use Rattle.scr_tree.specs.declared.syntax.Message.{Message}
use Rattle.scr_tree.specs.declared.syntax.Statement.{Statement}
use Rattle.scr_tree.specs.declared.syntax.Statement.TheVariants as kinds
use Rattle.scr_tree.specs.Tree.{Statements}
use Rattle.scr_tree.specs.View.{front}
use Rattle.scr_tree.proofs.ViewLemmas.{front-Message, front-Choice, front-Rec, front-Continue, front-Do}
use Rattle.scr_tree.specs.Said.{first_said}

pub said-Message : (m : Message) (rest : Statements) → first_said (front (kinds.Message m) rest) ≡ Some m
said-Message m rest = ap (λ f. first_said (f rest)) (front-Message m)

pub said-Choice : (p : _) (at : Name) (bs : Row (Row Statement)) (rest : Statements) → first_said (front (kinds.Choice p at bs) rest) ≡ None
said-Choice p at bs rest = ap (λ f. first_said (f rest)) (front-Choice p at bs)

pub said-Rec : (p : _) (name : Name) (body : Row Statement) (rest : Statements) → first_said (front (kinds.Rec p name body) rest) ≡ None
said-Rec p name body rest = ap (λ f. first_said (f rest)) (front-Rec p name body)

pub said-Continue : (p : _) (name : Name) (rest : Statements) → first_said (front (kinds.Continue p name) rest) ≡ None
said-Continue p name rest = ap (λ f. first_said (f rest)) (front-Continue p name)

pub said-Do : (p : _) (name : Name) (rest : Statements) → first_said (front (kinds.Do p name) rest) ≡ None
said-Do p name rest = ap (λ f. first_said (f rest)) (front-Do p name)
