-- What the walk over the labels finds in a statement alone, and behind it.
use Rattle.std.proofs.Common.{◌≡◌, ℕ, ◌+◌, ◌<◌, get_or, drop, length, List, Some, None, refl, sym, ap, ◌∙◌}
use Rattle.std.specs.Option.{option_or}
use Rattle.std.proofs.lemmas.Grind.{common_steps}
use Rattle.mg_text.specs.Call.{Name}
use Rattle.mg_text.specs.Row.{Row}
use Rattle.scr_tree.specs.declared.syntax.Statement.{Statement}
use Rattle.scr_tree.specs.declared.syntax.Statement.TheVariants as kinds
use Rattle.scr_tree.specs.Tree.{Statements, Nothing, Says, Choice, Rec, Continue, Do}
use Rattle.scr_tree.specs.View.{front, statements}
use Rattle.scr_tree.proofs.ViewLemmas.{front-Message, front-Choice, front-Rec, front-Continue, front-Do}
use Rattle.scr_tree.proofs.Said.{said-Message, said-Choice, said-Rec, said-Continue, said-Do}
use Rattle.mg_read.specs.Culprit.{Culprit}
use Rattle.scr_tree.specs.Said.{first_said}
use Rattle.scr_judge.specs.inner.Finding.{same, same_in, head_of, with_key, head_fault, with_head}
use Rattle.scr_judge.specs.inner.Seen.{Names, none}
use Rattle.scr_tree.specs.View.{bodies}
use Rattle.scr_judge.proofs.Walks.{or_none}
use Rattle.scr_tree.proofs.Behind.{each_front, statements-step, statements-past, bodies-step, bodies-past}

pub same-front : (me : Name) (s : Statement) (rest : Statements) → same me (front s rest) ≡ option_or (same me (front s Nothing))
    (same me rest)
same-front me s rest =
    each_front (λ f. same me (f rest) ≡ option_or (same me (f Nothing)) (same me rest)) (λ m. refl)
    (λ p at bs. ap (λ o. option_or o (same me rest)) (or_none (same_in me at none bs))) (λ p name body. ap (λ o. option_or o (same me rest))
    (or_none (same me body))) (λ p name. refl) (λ p name. refl) s

-- a statement alone
pub same-Choice : (p : _) (at : Name) (bs : Row (Row Statement)) (me : Name) → same me (front (kinds.Choice p at bs) Nothing)
    ≡ same_in me at none (bodies bs.items)
same-Choice p at bs me = ap (λ f. same me (f Nothing)) (front-Choice p at bs) ∙ sym (or_none _)

pub same-Rec : (p : _) (name : Name) (body : Row Statement) (me : Name) → same me (front (kinds.Rec p name body) Nothing)
    ≡ same me (statements body.items)
same-Rec p name body me = ap (λ f. same me (f Nothing)) (front-Rec p name body) ∙ sym (or_none _)

-- the step of a walk over statements
pub same-step : (me : Name) (ss : List Statement) (i : ℕ) (x : Statement) → i < length ss → x ≡ get_or ss i x →
    same me (statements (drop i ss)) ≡ option_or (same me (front x Nothing)) (same me (statements (drop (i + 1) ss)))
same-step me ss i x within is = ap (same me) (statements-step ss i x within is) ∙ same-front me x _

pub same_later : (me : Name) (ss : List Statement) (i : ℕ) (x : Statement) → i < length ss → x ≡ get_or ss i x →
    None ≡ same me (front x Nothing) →
    same me (statements (drop i ss)) ≡ same me (statements (drop (i + 1) ss))
same_later me ss i x within is e = same-step me ss i x within is ∙ ap (λ o. option_or o (same me (statements (drop (i + 1) ss)))) (sym e)

pub same_here : (me : Name) (ss : List Statement) (i : ℕ) (x : Statement) (c : Culprit) → i < length ss → x ≡ get_or ss i x →
    Some c ≡ same me (front x Nothing) →
    same me (statements (drop i ss)) ≡ Some c
same_here me ss i x c within is e = same-step me ss i x within is ∙ ap (λ o. option_or o (same me (statements (drop (i + 1) ss)))) (sym e)

-- the first message of a branch
head-is : (me at : Name) (has : Names) (b : Statements) → head_fault me at has b ≡ head_of me at has (first_said b)
head-is me at has Nothing = refl
head-is me at has (Says m rest) = refl
head-is me at has (Choice p a bs rest) = refl
head-is me at has (Rec p n body rest) = refl
head-is me at has (Continue p n rest) = refl
head-is me at has (Do p n rest) = refl

key-is : (me at : Name) (has : Names) (b : Statements) → with_head me at has b ≡ with_key me at has (first_said b)
key-is me at has Nothing = refl
key-is me at has (Says m rest) = refl
key-is me at has (Choice p a bs rest) = refl
key-is me at has (Rec p n body rest) = refl
key-is me at has (Continue p n rest) = refl
key-is me at has (Do p n rest) = refl

-- the step of a walk over branches
pub same_in-step : (me at : Name) (has : Names) (bs : List (Row Statement)) (i : ℕ) (x : Row Statement) → i < length bs → x ≡ get_or bs i x
    →
    same_in me at has (bodies (drop i bs)) ≡
    option_or (head_of me at has (first_said (statements x.items)))
    (option_or (same me (statements x.items)) (same_in me at (with_key me at has (first_said (statements x.items)))
    (bodies (drop (i + 1) bs))))
same_in-step me at has bs i x within is =
    ap (same_in me at has) (bodies-step bs i x within is)
    ∙ (λ j. option_or (head-is me at has (statements x.items) j)
    (option_or (same me (statements x.items)) (same_in me at (key-is me at has (statements x.items) j) (bodies (drop (i + 1) bs)))))

pub ruleset first_saids = (common_steps, said-Message, said-Choice, said-Rec, said-Continue, said-Do)

pub ruleset same_alone = (common_steps, front-Message, front-Continue, front-Do, same-Choice, same-Rec)

pub ruleset same_steps = (common_steps, same_later, same_here, statements-past)

pub ruleset same_in_steps = (common_steps, same_in-step, bodies-past)
