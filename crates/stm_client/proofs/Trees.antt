-- The trees of expressions and statements.
use Rattle.std.proofs.Common.{◌≡◌, [], sym, subst, refl, append_assoc}
use Rattle.std.proofs.lemmas.List.{append-nil}
use Rattle.std.proofs.lemmas.Grind.{common_steps}
use Rattle.mg_text.specs.Call.{Name}
use Rattle.mg_text.specs.declared.place.Place.{Place}
use Rattle.scr_tree.specs.declared.syntax.Direction.{Direction}
use Rattle.scr_tree.specs.declared.syntax.Direction.TheVariants as directions
use Rattle.scr_tree.specs.declared.syntax.Payload.{Payload}
use Rattle.scr_tree.specs.CallNames.{message_call}
use Rattle.scr_tree.specs.Meaning.{towards}
use Rattle.scr_tree.proofs.Said.{said-Message, said-Choice, said-Rec, said-Continue, said-Do}
use Rattle.jv_tree.specs.Source.{Eval}
use Rattle.jv_tree.proofs.ViewLaws as laws
use Rattle.stm_client.specs.Client.{passing, taken, on_role, first_value}

pub ruleset views = (common_steps, laws.views)

pub ruleset firsts = (common_steps, said-Message, said-Choice, said-Rec, said-Continue, said-Do)

pub ruleset name_steps = (common_steps, append_assoc, append-nil)

-- a message to a peer, and one from there
pub sent : (p : Place) (d : Direction) (peer label : Name) (kind : Payload) → d ≡ directions.To →
    passing p (towards d peer label kind) ≡ Eval p (on_role p (message_call (towards d peer label kind)) (first_value p kind))
sent p d peer label kind e =
    subst (λ d. passing p (towards d peer label kind) ≡ Eval p (on_role p (message_call (towards d peer label kind)) (first_value p kind)))
    (sym e) refl

pub received : (p : Place) (d : Direction) (peer label : Name) (kind : Payload) → d ≡ directions.From →
    passing p (towards d peer label kind) ≡ taken p kind (on_role p (message_call (towards d peer label kind)) [])
received p d peer label kind e =
    subst (λ d. passing p (towards d peer label kind) ≡ taken p kind (on_role p (message_call (towards d peer label kind)) [])) (sym e) refl

pub ruleset messages = (common_steps, sent, received)
