-- What the walk over roles finds in a statement alone, and behind it.
use Rattle.std.proofs.Common.{◌≡◌, ℕ, ◌+◌, ◌<◌, length, get_or, drop, not, List, Option, Some, None, refl, sym, ap, ◌∙◌, []}
use Rattle.std.specs.Option.{option_or}
use Rattle.std.specs.HashSet.{contains_text}
use Rattle.std.specs.Str.{bytes_eq}
use Rattle.std.proofs.lemmas.Grind.{common_steps}
use Rattle.mg_text.specs.Call.{Name}
use Rattle.mg_text.specs.Row.{Row}
use Rattle.mg_text.specs.declared.place.Place.{Place}
use Rattle.mg_read.specs.Culprit.{Culprit, culprit}
use Rattle.scr_tree.specs.declared.syntax.Payload.{Payload}
use Rattle.scr_judge.specs.inner.OnSpot.{unless}
use Rattle.scr_judge.specs.inner.Seen.{Names}
use Rattle.scr_global.specs.Tree.{Told, Statements, Nothing, Says, Choice, Rec, Continue, Branches}
use Rattle.scr_global_tree.specs.declared.statement.GStatement.{GStatement}
use Rattle.scr_global_tree.specs.declared.statement.GStatement.TheVariants as kinds
use Rattle.scr_global_tree.specs.View.{front, statements, bodies, told}
use Rattle.scr_global_tree.proofs.Behind.{each_front, statements-step, statements-past, bodies-step, bodies-past}
use Rattle.scr_global_tree.proofs.ViewLemmas.{front-Message, front-Choice, front-Rec, front-Continue}
use Rattle.scr_global_judge.specs.inner.Roles.{unknown_in, unknown_role, peer_is_self, test, walk, walk_in}
use Rattle.scr_global_judge.specs.declared.roles.Check.{Check}
use Rattle.scr_global_judge.specs.declared.roles.Check.TheVariants as checks

-- the answer does not depend on what stands behind
module _ (s : GStatement) (rest : Statements) where
  alike : (ask : Statements → Option Culprit) → ((m : Told) → ask (Says m rest) ≡ ask (Says m Nothing)) →
      ((p : Place) (at : Name) (bs : Branches) → ask (Choice p at bs rest) ≡ ask (Choice p at bs Nothing)) →
      ((p : Place) (name : Name) (body : Statements) → ask (Rec p name body rest) ≡ ask (Rec p name body Nothing)) →
      ((p : Place) (name : Name) → ask (Continue p name rest) ≡ ask (Continue p name Nothing)) → ask (front s rest) ≡ ask (front s Nothing)
  alike ask said choice recursion continued = each_front (λ f. ask (f rest) ≡ ask (f Nothing)) said choice recursion continued s

  test-front : (check : Check) → test check (front s rest) ≡ test check (front s Nothing)
  test-front (checks.UnknownRole roles) = alike (unknown_role (contains_text roles.now)) (λ m. refl) (λ p at bs. refl) (λ p name body. refl)
      (λ p name. refl)
  test-front checks.PeerIsSelf = alike peer_is_self (λ m. refl) (λ p at bs. refl) (λ p name body. refl) (λ p name. refl)

or_none : (o : Option Culprit) → o ≡ option_or o None
or_none None = refl
or_none (Some c) = refl

or_assoc : (a b d : Option Culprit) → option_or a (option_or b d) ≡ option_or (option_or a b) d
or_assoc None b d = refl
or_assoc (Some c) b d = refl

-- the inside of a statement
abbrev inside : (Statements → Option Culprit) → Statements → Option Culprit
inside ask Nothing = None
inside ask (Says m rest) = None
inside ask (Choice p at bs rest) = walk_in ask bs
inside ask (Rec p name body rest) = walk ask body
inside ask (Continue p name rest) = None

module _ (check : Check) where
  abbrev here_at : Statements → Option Culprit
  here_at = test check

  abbrev found_in : Statements → Option Culprit
  found_in = walk (test check)

  abbrev within_it : Statements → Option Culprit
  within_it = inside (test check)

  parts : (s : GStatement) (rest : Statements) → found_in (front s rest) ≡ option_or (here_at (front s rest))
      (option_or (within_it (front s Nothing)) (found_in rest))
  parts s rest =
      each_front (λ f. found_in (f rest) ≡ option_or (here_at (f rest)) (option_or (within_it (f Nothing)) (found_in rest)))
      (λ m. refl) (λ p at bs. refl) (λ p name body. refl) (λ p name. refl) s

  walk-alone : (s : GStatement) → found_in (front s Nothing) ≡ option_or (here_at (front s Nothing)) (within_it (front s Nothing))
  walk-alone s = parts s Nothing ∙ ap (option_or (here_at (front s Nothing))) (sym (or_none _))

  walk-front : (s : GStatement) (rest : Statements) → found_in (front s rest) ≡ option_or (found_in (front s Nothing)) (found_in rest)
  walk-front s rest =
      parts s rest ∙ ap (λ o. option_or o (option_or (within_it (front s Nothing)) (found_in rest))) (test-front s rest check)
      ∙ or_assoc (here_at (front s Nothing)) (within_it (front s Nothing)) (found_in rest) ∙ ap (λ o. option_or o (found_in rest))
      (sym (walk-alone s))

  pub walk_found : (s : GStatement) (c : Culprit) → Some c ≡ test check (front s Nothing) → walk (test check) (front s Nothing) ≡ Some c
  walk_found s c e = walk-alone s ∙ ap (λ o. option_or o (within_it (front s Nothing))) (sym e)

  inner : (s : GStatement) → None ≡ here_at (front s Nothing) → found_in (front s Nothing) ≡ within_it (front s Nothing)
  inner s e = walk-alone s ∙ ap (λ o. option_or o (within_it (front s Nothing))) (sym e)

  pub walk-Message : (place : Place) (from to label : Name) (payload : Payload) →
      None ≡ test check (front (kinds.Message place from to label payload) Nothing) →
      walk (test check) (front (kinds.Message place from to label payload) Nothing) ≡ None
  walk-Message place from to label payload e = inner _ e ∙ ap (λ (f : Statements → Statements). within_it (f Nothing))
      (front-Message place from to label payload)

  pub walk-Choice : (p : Place) (at : Name) (bs : Row (Row GStatement)) → None ≡ test check (front (kinds.Choice p at bs) Nothing) →
      walk (test check) (front (kinds.Choice p at bs) Nothing) ≡ walk_in (test check) (bodies bs.items)
  walk-Choice p at bs e = inner _ e ∙ ap (λ (f : Statements → Statements). within_it (f Nothing)) (front-Choice p at bs)

  pub walk-Rec : (p : Place) (name : Name) (body : Row GStatement) → None ≡ test check (front (kinds.Rec p name body) Nothing) →
      walk (test check) (front (kinds.Rec p name body) Nothing) ≡ walk (test check) (statements body.items)
  walk-Rec p name body e = inner _ e ∙ ap (λ (f : Statements → Statements). within_it (f Nothing)) (front-Rec p name body)

  pub walk-Continue : (p : Place) (name : Name) → None ≡ test check (front (kinds.Continue p name) Nothing) →
      walk (test check) (front (kinds.Continue p name) Nothing) ≡ None
  walk-Continue p name e = inner _ e ∙ ap (λ (f : Statements → Statements). within_it (f Nothing)) (front-Continue p name)

  module _ (ss : List GStatement) (i : ℕ) (x : GStatement) (within : i < length ss) (is : x ≡ get_or ss i x) where
    step : found_in (statements (drop i ss)) ≡ option_or (found_in (front x Nothing)) (found_in (statements (drop (i + 1) ss)))
    step = ap found_in (statements-step ss i x within is) ∙ walk-front x _

    pub walk_later : None ≡ walk (test check) (front x Nothing) → walk (test check) (statements (drop i ss)) ≡ walk (test check)
        (statements (drop (i + 1) ss))
    walk_later e = step ∙ ap (λ o. option_or o (found_in (statements (drop (i + 1) ss)))) (sym e)

    pub walk_here : (c : Culprit) → Some c ≡ walk (test check) (front x Nothing) → walk (test check) (statements (drop i ss)) ≡ Some c
    walk_here c e = step ∙ ap (λ o. option_or o (found_in (statements (drop (i + 1) ss)))) (sym e)

-- what a statement answers
pub role-Message : (roles : Names) (place : Place) (from to label : Name) (payload : Payload) →
    unknown_role roles (front (kinds.Message place from to label payload) Nothing) ≡
    option_or (unless (roles from) (culprit place from)) (unless (roles to) (culprit place to))
role-Message roles place from to label payload = ap (λ (f : Statements → Statements). unknown_role roles (f Nothing))
    (front-Message place from to label payload)

pub role-Choice : (roles : Names) (p : Place) (at : Name) (bs : Row (Row GStatement)) →
    unknown_role roles (front (kinds.Choice p at bs) Nothing) ≡ unless (roles at) (culprit p at)
role-Choice roles p at bs = ap (λ (f : Statements → Statements). unknown_role roles (f Nothing)) (front-Choice p at bs)

pub self-Message : (place : Place) (from to label : Name) (payload : Payload) →
    peer_is_self (front (kinds.Message place from to label payload) Nothing) ≡ unless (not (bytes_eq from to)) (culprit place [])
self-Message place from to label payload = ap (λ (f : Statements → Statements). peer_is_self (f Nothing))
    (front-Message place from to label payload)

pub ruleset all_steps = (common_steps, walk_later, walk_here, statements-past)

pub ruleset alone = (common_steps, walk_found, walk-Message, walk-Choice, walk-Rec, walk-Continue)

pub ruleset in_steps = (common_steps, bodies-step, bodies-past)

pub ruleset tests = (common_steps, role-Message, role-Choice, self-Message, front-Message, front-Choice, front-Rec, front-Continue)
