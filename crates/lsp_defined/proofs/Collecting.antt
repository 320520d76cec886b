-- The actions of a statement alone, and behind it.
use Rattle.std.proofs.Common.{◌≡◌, ℕ, ◌+◌, ◌<◌, ◌≤◌, get_or, drop, map, length, Bool, List, [], ◌∷◌, ◌++◌}
use Rattle.std.proofs.Common.{Option, Some, None, refl, sym, ap, ◌∙◌, append_assoc}
use Rattle.std.specs.Str.{bytes_eq}
use Rattle.std.proofs.lemmas.List.{append-nil, at_drop_more, at_drop_all}
use Rattle.std.proofs.lemmas.Grind.{common_steps}
use Rattle.mg_text.specs.Call.{Name}
use Rattle.mg_text.specs.Row.{Row}
use Rattle.scr_tree.specs.declared.syntax.Message.{Message}
use Rattle.scr_tree.specs.declared.syntax.Part.{Part}
use Rattle.scr_tree.specs.declared.syntax.Statement.{Statement}
use Rattle.scr_tree.specs.declared.syntax.Statement.TheVariants as kinds
use Rattle.scr_tree.specs.Said.{first_said}
use Rattle.scr_tree.specs.Tree.{Statements, Nothing, Says, Choice, Rec, Continue, Do, Branches, Branch, body_in, other}
use Rattle.scr_tree.specs.View.{front, statements, bodies, part_of}
use Rattle.scr_tree.specs.Actions.{Action, said, actions, actions_in, all_actions, next, next_in, peer_in, looked_unless, opened}
use Rattle.scr_tree.proofs.ViewLemmas.{front-Message, front-Choice, front-Rec, front-Continue, front-Do}
use Rattle.scr_tree.proofs.Said.{said-Message, said-Choice, said-Rec, said-Continue, said-Do}
use Rattle.scr_tree.proofs.Behind.{each_front, statements-step, statements-past, bodies-step, bodies-past}
use Rattle.lsp_defined.specs.Called.{role_in}

module _ (me : Name) (n : ℕ) where
  pub next-front : (s : Statement) (rest : Statements) → next me n (front s rest) ≡ next me (next me n (front s Nothing)) rest
  next-front s rest = each_front (λ f. next me n (f rest) ≡ next me (next me n (f Nothing)) rest) (λ m. refl) (λ p at bs. refl)
      (λ p name body. refl) (λ p name. refl) (λ p name. refl) s

  alone-choice : (a b r : List Action) → a ++ (b ++ r) ≡ (a ++ (b ++ [])) ++ r
  alone-choice a b r = ap (λ x. a ++ (x ++ r)) (sym (append-nil b)) ∙ sym (append_assoc a (b ++ []) r)

  pub actions-front : (s : Statement) (rest : Statements) → actions me n (front s rest) ≡ actions me n (front s Nothing)
      ++ actions me (next me n (front s Nothing)) rest
  actions-front s rest =
      each_front (λ f. actions me n (f rest) ≡ actions me n (f Nothing) ++ actions me (next me n (f Nothing)) rest) (λ m. refl)
      (λ p at bs. alone-choice (looked_unless (bytes_eq at me) me n p (peer_in bs)) (actions_in me (opened (bytes_eq at me) n) bs) _)
      (λ p name body. ap (λ x. x ++ actions me (next me n body) rest) (sym (append-nil (actions me n body)))) (λ p name. refl)
      (λ p name. refl) s

  -- a statement alone
  pub actions-Message : (m : Message) → actions me n (front (kinds.Message m) Nothing) ≡ said m ∷ []
  actions-Message m = ap (λ f. actions me n (f Nothing)) (front-Message m)

  pub next-Message : (m : Message) → next me n (front (kinds.Message m) Nothing) ≡ n
  next-Message m = ap (λ f. next me n (f Nothing)) (front-Message m)

  pub actions-Choice : (p : _) (at : Name) (bs : Row (Row Statement)) (self : Bool) → bytes_eq at me ≡ self →
      actions me n (front (kinds.Choice p at bs) Nothing) ≡ looked_unless self me n p (peer_in (bodies bs.items)) ++ actions_in me
      (opened self n) (bodies bs.items)
  actions-Choice p at bs self e =
      ap (λ f. actions me n (f Nothing)) (front-Choice p at bs)
      ∙ ap (λ b. looked_unless b me n p (peer_in (bodies bs.items)) ++ (actions_in me (opened b n) (bodies bs.items) ++ [])) e
      ∙ ap (λ x. looked_unless self me n p (peer_in (bodies bs.items)) ++ x) (append-nil _)

  pub next-Choice : (p : _) (at : Name) (bs : Row (Row Statement)) (self : Bool) → bytes_eq at me ≡ self →
      next me n (front (kinds.Choice p at bs) Nothing) ≡ next_in me (opened self n) (bodies bs.items)
  next-Choice p at bs self e = ap (λ f. next me n (f Nothing)) (front-Choice p at bs) ∙ ap (λ b. next_in me (opened b n) (bodies bs.items))
      e

  pub actions-Rec : (p : _) (name : Name) (body : Row Statement) → actions me n (front (kinds.Rec p name body) Nothing)
      ≡ actions me n (statements body.items)
  actions-Rec p name body = ap (λ f. actions me n (f Nothing)) (front-Rec p name body) ∙ append-nil _

  pub next-Rec : (p : _) (name : Name) (body : Row Statement) → next me n (front (kinds.Rec p name body) Nothing)
      ≡ next me n (statements body.items)
  next-Rec p name body = ap (λ f. next me n (f Nothing)) (front-Rec p name body)

  -- the step of a walk over statements
  module _ (ss : List Statement) (i : ℕ) (x : Statement) (within : i < length ss) (is : x ≡ get_or ss i x) where
    pub next-step : next me n (statements (drop i ss)) ≡ next me (next me n (front x Nothing)) (statements (drop (i + 1) ss))
    next-step = ap (next me n) (statements-step ss i x within is) ∙ next-front x _

    pub actions-step : actions me n (statements (drop i ss)) ≡ actions me n (front x Nothing) ++ actions me (next me n (front x Nothing))
        (statements (drop (i + 1) ss))
    actions-step = ap (actions me n) (statements-step ss i x within is) ∙ actions-front x _

-- the first peer
pub peers-said : (ss : Statements) (more : Branches) (o : Option Message) → first_said ss ≡ o → peer_in (Branch ss more)
    ≡ elim o [ None ↦ None | Some m ↦ Some m.peer ]
peers-said Nothing more o e = ap (λ o. elim o [ None ↦ None | Some m ↦ Some m.peer ]) e
peers-said (Says m rest) more o e = ap (λ o. elim o [ None ↦ None | Some m ↦ Some m.peer ]) e
peers-said (Choice p at bs rest) more o e = ap (λ o. elim o [ None ↦ None | Some m ↦ Some m.peer ]) e
peers-said (Rec p name body rest) more o e = ap (λ o. elim o [ None ↦ None | Some m ↦ Some m.peer ]) e
peers-said (Continue p name rest) more o e = ap (λ o. elim o [ None ↦ None | Some m ↦ Some m.peer ]) e
peers-said (Do p name rest) more o e = ap (λ o. elim o [ None ↦ None | Some m ↦ Some m.peer ]) e

-- the protocol at an index, and those behind it
pub part-step : (me : Name) (n : ℕ) (ps : List Part) (i : ℕ) (x : Part) → i < length ps → x ≡ get_or ps i x →
    all_actions (role_in me) body_in n (map other (map part_of (drop i ps))) ≡
    actions me n (statements x.body.items) ++ all_actions (role_in me) body_in (next me n (statements x.body.items))
    (map other (map part_of (drop (i + 1) ps)))
part-step me n ps i x within is =
    at_drop_more (λ qs. all_actions (role_in me) body_in n (map other (map part_of qs))) ps i x within
    ∙ ap (λ (y : Part). actions me n (statements y.body.items) ++ all_actions (role_in me) body_in
    (next me n (statements y.body.items)) (map other (map part_of (drop (i + 1) ps)))) (sym is)

pub part-past : (me : Name) (n : ℕ) (ps : List Part) (i : ℕ) → length ps ≤ i → all_actions (role_in me) body_in n
    (map other (map part_of (drop i ps))) ≡ []
part-past me n ps i h = at_drop_all (λ qs. all_actions (role_in me) body_in n (map other (map part_of qs))) ps i h

pub ruleset firsts = (common_steps, said-Message, said-Choice, said-Rec, said-Continue, said-Do)

pub ruleset peers = (common_steps, peers-said)

pub ruleset alone = (
  common_steps,
  front-Continue,
  front-Do,
  actions-Message,
  next-Message,
  actions-Choice,
  next-Choice,
  actions-Rec,
  next-Rec,
  append_assoc,
  append-nil,
)

pub ruleset part_steps = (common_steps, part-step, part-past, append_assoc, append-nil)

pub ruleset all_steps = (common_steps, next-step, actions-step, statements-past, append_assoc, append-nil)

pub ruleset in_steps = (common_steps, bodies-step, bodies-past, append_assoc, append-nil)
