-- What a statement does alone, and with those behind it.
use Rattle.std.proofs.Common.{◌≡◌, ℕ, ◌+◌, ◌<◌, ◌≤◌, get_or, drop, length, map, Bool, List, [], ◌∷◌, ◌++◌, refl, sym, ap, ◌∙◌}
use Rattle.std.proofs.Common.{append_assoc}
use Rattle.std.specs.Str.{bytes_eq}
use Rattle.std.proofs.lemmas.List.{append-nil, at_drop_more, at_drop_all}
use Rattle.std.proofs.lemmas.Grind.{common_steps}
use Rattle.mg_text.specs.Call.{Name}
use Rattle.mg_text.specs.Row.{Row}
use Rattle.scr_tree.specs.declared.syntax.Message.{Message}
use Rattle.scr_tree.specs.declared.syntax.Part.{Part}
use Rattle.scr_tree.specs.declared.syntax.Statement.{Statement}
use Rattle.scr_tree.specs.declared.syntax.Statement.TheVariants as kinds
use Rattle.scr_tree.specs.Tree.{Statements, Nothing}
use Rattle.scr_tree.specs.View.{front, statements, bodies, part_of}
use Rattle.scr_tree.specs.Meaning.{message_of}
use Rattle.scr_tree.specs.Actions.{next, next_in, opened}
use Rattle.scr_tree.proofs.ViewLemmas.{front-Message, front-Choice, front-Rec, front-Continue, front-Do}
use Rattle.scr_tree.proofs.Said.{said-Message, said-Choice, said-Rec, said-Continue, said-Do}
use Rattle.scr_tree.proofs.Behind.{each_front, statements-step, statements-past, bodies-step, bodies-past}
use Rattle.stm_api.specs.Doings.{Doing, Passes}
use Rattle.stm_api.specs.inner.Does.{does, does_in, all_does, part_body, look_unless, first_said, label_before, labels_in}

module _ (me : Name) (n : ℕ) where
  pub next-front : (s : Statement) (rest : Statements) → next me n (front s rest) ≡ next me (next me n (front s Nothing)) rest
  next-front s rest = each_front (λ f. next me n (f rest) ≡ next me (next me n (f Nothing)) rest) (λ m. refl) (λ p at bs. refl)
      (λ p name body. refl) (λ p name. refl) (λ p name. refl) s

  alone-choice : (a b r : List Doing) → a ++ (b ++ r) ≡ (a ++ (b ++ [])) ++ r
  alone-choice a b r = ap (λ x. a ++ (x ++ r)) (sym (append-nil b)) ∙ sym (append_assoc a (b ++ []) r)

  pub does-front : (s : Statement) (rest : Statements) → does me n (front s rest) ≡ does me n (front s Nothing)
      ++ does me (next me n (front s Nothing)) rest
  does-front s rest =
      each_front (λ f. does me n (f rest) ≡ does me n (f Nothing) ++ does me (next me n (f Nothing)) rest) (λ m. refl)
      (λ p at bs. alone-choice (look_unless (bytes_eq at me) n bs) (does_in me (opened (bytes_eq at me) n) bs) _)
      (λ p name body. ap (λ x. x ++ does me (next me n body) rest) (sym (append-nil (does me n body)))) (λ p name. refl) (λ p name. refl) s

  pub does-Message : (m : Message) → does me n (front (kinds.Message m) Nothing) ≡ Passes (message_of m) ∷ []
  does-Message m = ap (λ f. does me n (f Nothing)) (front-Message m)

  pub next-Message : (m : Message) → next me n (front (kinds.Message m) Nothing) ≡ n
  next-Message m = ap (λ f. next me n (f Nothing)) (front-Message m)

  pub does-Choice : (p : _) (at : Name) (bs : Row (Row Statement)) (self : Bool) → bytes_eq at me ≡ self →
      does me n (front (kinds.Choice p at bs) Nothing) ≡ look_unless self n (bodies bs.items) ++ does_in me (opened self n)
      (bodies bs.items)
  does-Choice p at bs self e =
      ap (λ f. does me n (f Nothing)) (front-Choice p at bs)
      ∙ ap (λ b. look_unless b n (bodies bs.items) ++ (does_in me (opened b n) (bodies bs.items) ++ [])) e
      ∙ ap (λ x. look_unless self n (bodies bs.items) ++ x) (append-nil _)

  pub next-Choice : (p : _) (at : Name) (bs : Row (Row Statement)) (self : Bool) → bytes_eq at me ≡ self →
      next me n (front (kinds.Choice p at bs) Nothing) ≡ next_in me (opened self n) (bodies bs.items)
  next-Choice p at bs self e = ap (λ f. next me n (f Nothing)) (front-Choice p at bs) ∙ ap (λ b. next_in me (opened b n) (bodies bs.items))
      e

  pub does-Rec : (p : _) (name : Name) (body : Row Statement) → does me n (front (kinds.Rec p name body) Nothing)
      ≡ does me n (statements body.items)
  does-Rec p name body = ap (λ f. does me n (f Nothing)) (front-Rec p name body) ∙ append-nil _

  pub next-Rec : (p : _) (name : Name) (body : Row Statement) → next me n (front (kinds.Rec p name body) Nothing)
      ≡ next me n (statements body.items)
  next-Rec p name body = ap (λ f. next me n (f Nothing)) (front-Rec p name body)

  module _ (ss : List Statement) (i : ℕ) (x : Statement) (within : i < length ss) (is : x ≡ get_or ss i x) where
    pub next-step : next me n (statements (drop i ss)) ≡ next me (next me n (front x Nothing)) (statements (drop (i + 1) ss))
    next-step = ap (next me n) (statements-step ss i x within is) ∙ next-front x _

    pub does-step : does me n (statements (drop i ss)) ≡ does me n (front x Nothing) ++ does me (next me n (front x Nothing))
        (statements (drop (i + 1) ss))
    does-step = ap (does me n) (statements-step ss i x within is) ∙ does-front x _

-- the labels of the branch at an index, and of those behind it
pub labels-step : (bs : List (Row Statement)) (i : ℕ) (x : Row Statement) → i < length bs → x ≡ get_or bs i x →
    labels_in (bodies (drop i bs)) ≡ label_before (first_said (statements x.items)) (labels_in (bodies (drop (i + 1) bs)))
labels-step bs i x within is = ap labels_in (bodies-step bs i x within is)

pub ruleset firsts = (common_steps, said-Message, said-Choice, said-Rec, said-Continue, said-Do)

-- the protocol at an index, and those behind it
pub part-step : (me : Name) (n : ℕ) (ps : List Part) (i : ℕ) (x : Part) → i < length ps → x ≡ get_or ps i x →
    all_does me n (map part_body (map part_of (drop i ps))) ≡
    does me n (statements x.body.items) ++ all_does me (next me n (statements x.body.items)) (map part_body (map part_of (drop (i + 1) ps)))
part-step me n ps i x within is =
    at_drop_more (λ qs. all_does me n (map part_body (map part_of qs))) ps i x within
    ∙ ap (λ (y : Part). does me n (statements y.body.items) ++ all_does me (next me n (statements y.body.items))
    (map part_body (map part_of (drop (i + 1) ps)))) (sym is)

pub part-past : (me : Name) (n : ℕ) (ps : List Part) (i : ℕ) → length ps ≤ i → all_does me n (map part_body (map part_of (drop i ps))) ≡ []
part-past me n ps i h = at_drop_all (λ qs. all_does me n (map part_body (map part_of qs))) ps i h

pub ruleset part_steps = (common_steps, part-step, part-past, append_assoc, append-nil)

pub ruleset alone = (
  common_steps,
  front-Continue,
  front-Do,
  does-Message,
  next-Message,
  does-Choice,
  next-Choice,
  does-Rec,
  next-Rec,
  append_assoc,
  append-nil,
)

pub ruleset all_steps = (common_steps, next-step, does-step, statements-past, append_assoc, append-nil)

pub ruleset in_steps = (common_steps, bodies-step, bodies-past, append_assoc, append-nil)

pub ruleset label_steps = (common_steps, labels-step, bodies-past, append_assoc, append-nil)
