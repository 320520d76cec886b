-- What a walk that asks each statement finds in a statement alone, and behind it.
use Rattle.std.proofs.Common.{◌≡◌, ℕ, ◌+◌, ◌<◌, get_or, drop, length, ◌&&◌, ◌||◌, not, ◌==◌, Bool, false, suc, arith, List, [], ◌∷◌, Option}
use Rattle.std.proofs.Common.{Some, None, refl, sym, ap, ◌∙◌}
use Rattle.std.specs.Option.{option_or, is_some}
use Rattle.std.specs.HashSet.{contains_text}
use Rattle.std.specs.Str.{bytes_eq}
use Rattle.std.proofs.lemmas.Bool.Decides.{nat_tests}
use Rattle.std.proofs.lemmas.Grind.{common_steps}
use Rattle.mg_text.specs.Call.{Name}
use Rattle.mg_text.specs.Row.{Row}
use Rattle.mg_text.specs.declared.place.Place.{Place}
use Rattle.scr_tree.specs.declared.syntax.Message.{Message}
use Rattle.scr_tree.specs.declared.syntax.Statement.{Statement}
use Rattle.scr_tree.specs.declared.syntax.Statement.TheVariants as kinds
use Rattle.scr_tree.specs.Tree.{Statements, Nothing, Says, Choice, Rec, Continue, Do, Branches, Branch}
use Rattle.scr_tree.specs.View.{front, statements}
use Rattle.scr_tree.proofs.ViewLemmas.{front-Message, front-Choice, front-Rec, front-Continue, front-Do}
use Rattle.mg_read.specs.Culprit.{Culprit, culprit}
use Rattle.scr_judge.specs.inner.Seen.{Names, noted_in}
use Rattle.scr_judge.specs.inner.Finding.{first_said}
use Rattle.scr_judge.specs.inner.OnSpot.{Asks, is_send, all_send, uniform, is_nothing, some_empty, unless, unknown_role, peer_is_self}
use Rattle.scr_judge.specs.inner.OnSpot.{unknown_rec, unknown_protocol, duplicate_rec, branch_start, mixed_choice, is_free_label}
use Rattle.scr_judge.specs.inner.OnSpot.{free_label, reserved_label, test, walk, walk_in}
use Rattle.scr_tree.specs.View.{bodies}
use Rattle.scr_judge.specs.declared.on_spot.Check.{Check}
use Rattle.scr_judge.specs.declared.on_spot.Check.TheVariants as checks
use Rattle.scr_judge.proofs.Walks.{or_none}
use Rattle.scr_tree.proofs.Behind.{each_front, statements-step, statements-past, bodies-step, bodies-past}

-- the answer does not depend on what stands behind
module _ (begins : Option Name) (around : List Name) (s : Statement) (rest : Statements) where
  alike : (ask : Statements → Option Culprit) → ((m : Message) → ask (Says m rest) ≡ ask (Says m Nothing)) →
      ((p : Place) (at : Name) (bs : Branches) → ask (Choice p at bs rest) ≡ ask (Choice p at bs Nothing)) →
      ((p : Place) (name : Name) (body : Statements) → ask (Rec p name body rest) ≡ ask (Rec p name body Nothing)) →
      ((p : Place) (name : Name) → ask (Continue p name rest) ≡ ask (Continue p name Nothing)) →
      ((p : Place) (name : Name) → ask (Do p name rest) ≡ ask (Do p name Nothing)) → ask (front s rest) ≡ ask (front s Nothing)
  alike ask said choice recursion continued goes_on = each_front (λ f. ask (f rest) ≡ ask (f Nothing)) said choice recursion continued
      goes_on s

  free_alike : (me : Name) (b : Option Name) → reserved_label me b (front s rest) ≡ reserved_label me b (front s Nothing)
  free_alike me None = refl
  free_alike me (Some at) = alike (free_label me at) (λ m. refl) (λ p a bs. refl) (λ p name body. refl) (λ p name. refl) (λ p name. refl)

  pub test-front : (check : Check) → test check begins around (front s rest) ≡ test check begins around (front s Nothing)
  test-front (checks.UnknownRole roles) = alike (unknown_role (noted_in roles.now)) (λ m. refl) (λ p at bs. refl) (λ p name body. refl)
      (λ p name. refl) (λ p name. refl)
  test-front (checks.PeerIsSelf me) = alike (peer_is_self me.now) (λ m. refl) (λ p at bs. refl) (λ p name body. refl) (λ p name. refl)
      (λ p name. refl)
  test-front checks.UnknownRec = alike (unknown_rec around) (λ m. refl) (λ p at bs. refl) (λ p name body. refl) (λ p name. refl)
      (λ p name. refl)
  test-front checks.DuplicateRec = alike (duplicate_rec around) (λ m. refl) (λ p at bs. refl) (λ p name body. refl) (λ p name. refl)
      (λ p name. refl)
  test-front checks.BranchStart = alike (branch_start (is_some begins)) (λ m. refl) (λ p at bs. refl) (λ p name body. refl) (λ p name. refl)
      (λ p name. refl)
  test-front (checks.MixedChoice me) = alike (mixed_choice me.now) (λ m. refl) (λ p at bs. refl) (λ p name body. refl) (λ p name. refl)
      (λ p name. refl)
  test-front (checks.UnknownProtocol names) = alike (unknown_protocol (contains_text names.now)) (λ m. refl) (λ p at bs. refl)
      (λ p name body. refl) (λ p name. refl) (λ p name. refl)
  test-front (checks.ReservedLabel me) = free_alike me.now begins

or_assoc : (a b d : Option Culprit) → option_or a (option_or b d) ≡ option_or (option_or a b) d
or_assoc None b d = refl
or_assoc (Some c) b d = refl

-- the inside of a statement
abbrev pub inside : Asks → List Name → Statements → Option Culprit
inside ask around Nothing = None
inside ask around (Says m rest) = None
inside ask around (Choice p at bs rest) = walk_in ask at around bs
inside ask around (Rec p name body rest) = walk ask None (name ∷ around) body
inside ask around (Continue p name rest) = None
inside ask around (Do p name rest) = None

module _ (check : Check) (begins : Option Name) (around : List Name) where
  -- what the statement itself answers, and what is found in statements
  abbrev here_at : Statements → Option Culprit
  here_at = test check begins around

  abbrev found_in : Statements → Option Culprit
  found_in = walk (test check) begins around

  abbrev found_behind : Statements → Option Culprit
  found_behind = walk (test check) None around

  abbrev within_it : Statements → Option Culprit
  within_it = inside (test check) around

  parts : (s : Statement) (rest : Statements) → found_in (front s rest) ≡ option_or (here_at (front s rest))
      (option_or (within_it (front s Nothing)) (found_behind rest))
  parts s rest =
      each_front (λ f. found_in (f rest) ≡ option_or (here_at (f rest)) (option_or (within_it (f Nothing)) (found_behind rest)))
      (λ m. refl) (λ p at bs. refl) (λ p name body. refl) (λ p name. refl) (λ p name. refl) s

  pub walk-alone : (s : Statement) → found_in (front s Nothing) ≡ option_or (here_at (front s Nothing)) (within_it (front s Nothing))
  walk-alone s = parts s Nothing ∙ ap (option_or (here_at (front s Nothing))) (sym (or_none _))

  walk-front : (s : Statement) (rest : Statements) → found_in (front s rest) ≡ option_or (found_in (front s Nothing)) (found_behind rest)
  walk-front s rest =
      parts s rest ∙ ap (λ o. option_or o (option_or (within_it (front s Nothing)) (found_behind rest)))
      (test-front begins around s rest check)
      ∙ or_assoc (here_at (front s Nothing)) (within_it (front s Nothing)) (found_behind rest) ∙ ap (λ o. option_or o (found_behind rest))
      (sym (walk-alone s))

  pub walk_found : (s : Statement) (c : Culprit) → Some c ≡ test check begins around (front s Nothing) →
      walk (test check) begins around (front s Nothing) ≡ Some c
  walk_found s c e = walk-alone s ∙ ap (λ o. option_or o (within_it (front s Nothing))) (sym e)

  inner : (s : Statement) → None ≡ here_at (front s Nothing) → found_in (front s Nothing) ≡ within_it (front s Nothing)
  inner s e = walk-alone s ∙ ap (λ o. option_or o (within_it (front s Nothing))) (sym e)

  pub walk-Message : (m : Message) → None ≡ test check begins around (front (kinds.Message m) Nothing) →
      walk (test check) begins around (front (kinds.Message m) Nothing) ≡ None
  walk-Message m e = inner _ e ∙ ap (λ f. within_it (f Nothing)) (front-Message m)

  pub walk-Choice : (p : _) (at : Name) (bs : Row (Row Statement)) → None ≡ test check begins around (front (kinds.Choice p at bs) Nothing)
      →
      walk (test check) begins around (front (kinds.Choice p at bs) Nothing) ≡ walk_in (test check) at around (bodies bs.items)
  walk-Choice p at bs e = inner _ e ∙ ap (λ f. within_it (f Nothing)) (front-Choice p at bs)

  pub walk-Rec : (p : _) (name : Name) (body : Row Statement) → None ≡ test check begins around (front (kinds.Rec p name body) Nothing) →
      walk (test check) begins around (front (kinds.Rec p name body) Nothing) ≡ walk (test check) None (name ∷ around)
      (statements body.items)
  walk-Rec p name body e = inner _ e ∙ ap (λ f. within_it (f Nothing)) (front-Rec p name body)

  pub walk-Continue : (p : _) (name : Name) → None ≡ test check begins around (front (kinds.Continue p name) Nothing) →
      walk (test check) begins around (front (kinds.Continue p name) Nothing) ≡ None
  walk-Continue p name e = inner _ e ∙ ap (λ f. within_it (f Nothing)) (front-Continue p name)

  pub walk-Do : (p : _) (name : Name) → None ≡ test check begins around (front (kinds.Do p name) Nothing) →
      walk (test check) begins around (front (kinds.Do p name) Nothing) ≡ None
  walk-Do p name e = inner _ e ∙ ap (λ f. within_it (f Nothing)) (front-Do p name)

  module _ (ss : List Statement) (i : ℕ) (x : Statement) (within : i < length ss) (is : x ≡ get_or ss i x) where
    step : found_in (statements (drop i ss)) ≡ option_or (found_in (front x Nothing)) (found_behind (statements (drop (i + 1) ss)))
    step = ap found_in (statements-step ss i x within is) ∙ walk-front x _

    pub walk_later : None ≡ walk (test check) begins around (front x Nothing) → walk (test check) begins around (statements (drop i ss))
        ≡ walk (test check) None around (statements (drop (i + 1) ss))
    walk_later e = step ∙ ap (λ o. option_or o (found_behind (statements (drop (i + 1) ss)))) (sym e)

    pub walk_here : (c : Culprit) → Some c ≡ walk (test check) begins around (front x Nothing) →
        walk (test check) begins around (statements (drop i ss)) ≡ Some c
    walk_here c e = step ∙ ap (λ o. option_or o (found_behind (statements (drop (i + 1) ss)))) (sym e)

pub all_send-said : (ss : Statements) (more : Branches) → all_send (Branch ss more) ≡ elim (first_said ss)
    [ None ↦ all_send more | Some m ↦ is_send m.direction && all_send more ]
all_send-said Nothing more = refl
all_send-said (Says m rest) more = refl
all_send-said (Choice p at bs rest) more = refl
all_send-said (Rec p name body rest) more = refl
all_send-said (Continue p name rest) more = refl
all_send-said (Do p name rest) more = refl

-- what a statement answers
pub role-Message : (roles : Names) (m : Message) → unknown_role roles (front (kinds.Message m) Nothing) ≡ unless (roles m.peer)
    (culprit m.place m.peer)
role-Message roles m = ap (λ f. unknown_role roles (f Nothing)) (front-Message m)

pub role-Choice : (roles : Names) (p : Place) (at : Name) (bs : Row (Row Statement)) →
    unknown_role roles (front (kinds.Choice p at bs) Nothing) ≡ unless (roles at) (culprit p at)
role-Choice roles p at bs = ap (λ f. unknown_role roles (f Nothing)) (front-Choice p at bs)

pub self-Message : (me : Name) (m : Message) → peer_is_self me (front (kinds.Message m) Nothing) ≡ unless (not (bytes_eq m.peer me))
    (culprit m.place [])
self-Message me m = ap (λ f. peer_is_self me (f Nothing)) (front-Message m)

pub start-Choice : (first : Bool) (p : Place) (at : Name) (bs : Row (Row Statement)) →
    branch_start first (front (kinds.Choice p at bs) Nothing) ≡ unless (not (first || some_empty (bodies bs.items))) (culprit p [])
start-Choice first p at bs = ap (λ f. branch_start first (f Nothing)) (front-Choice p at bs)

pub label-Message : (me at : Name) (m : Message) → free_label me at (front (kinds.Message m) Nothing) ≡ unless (is_free_label me at m.label)
    (culprit m.place m.label)
label-Message me at m = ap (λ f. free_label me at (f Nothing)) (front-Message m)

pub protocol-Do : (names : Names) (p : Place) (name : Name) → unknown_protocol names (front (kinds.Do p name) Nothing) ≡ unless (names name)
    (culprit p name)
protocol-Do names p name = ap (λ f. unknown_protocol names (f Nothing)) (front-Do p name)

-- whether statements are none
positive : (n : ℕ) → false ≡ (suc n == 0)
positive n = grind (arith, nat_tests)

pub nothing-is : (ss : List Statement) → is_nothing (statements ss) ≡ (length ss == 0)
nothing-is [] = refl
nothing-is (s ∷ ss) =
    each_front (λ f. is_nothing (f (statements ss)) ≡ (length (s ∷ ss) == 0)) (λ m. positive (length ss)) (λ p at bs. positive (length ss))
    (λ p name body. positive (length ss)) (λ p name. positive (length ss)) (λ p name. positive (length ss)) s

pub mixed-Choice : (me : Name) (p : Place) (at : Name) (bs : Row (Row Statement)) → mixed_choice me (front (kinds.Choice p at bs) Nothing)
    ≡ unless (uniform me at (bodies bs.items)) (culprit p [])
mixed-Choice me p at bs = ap (λ f. mixed_choice me (f Nothing)) (front-Choice p at bs)

pub ruleset all_steps = (common_steps, walk_later, walk_here, statements-past)

pub ruleset alone = (common_steps, walk_found, walk-Message, walk-Choice, walk-Rec, walk-Continue, walk-Do)

pub ruleset in_steps = (common_steps, bodies-step, bodies-past)

pub ruleset tests = (
  common_steps,
  role-Message,
  role-Choice,
  self-Message,
  start-Choice,
  label-Message,
  mixed-Choice,
  protocol-Do,
  front-Message,
  front-Choice,
  front-Rec,
  front-Continue,
  front-Do,
)

pub ruleset sends = (common_steps, bodies-step, bodies-past, all_send-said)

pub ruleset peers = (common_steps, bodies-step, bodies-past)

pub ruleset empties = (common_steps, bodies-step, bodies-past, nothing-is)
