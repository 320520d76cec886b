-- The statement at an index, and those behind it; the branch at an index, and those behind it.
use Rattle.std.proofs.Common.{◌≡◌, ℕ, ◌+◌, ◌<◌, ◌≤◌, length, get_or, drop, List, sym, ap, subst, ◌∙◌}
use Rattle.std.proofs.lemmas.List.{at_drop_more, at_drop_all}
use Rattle.mg_text.specs.Call.{Name}
use Rattle.mg_text.specs.Row.{Row}
use Rattle.mg_text.specs.declared.place.Place.{Place}
use Rattle.scr_tree.specs.declared.syntax.Message.{Message}
use Rattle.scr_tree.specs.declared.syntax.Statement.{Statement}
use Rattle.scr_tree.specs.Tree.{Statements, Nothing, Says, Choice, Rec, Continue, Do, Branches, NoBranch, Branch}
use Rattle.scr_tree.specs.View.{Front, front, statements, bodies}
use Rattle.scr_tree.proofs.ViewLemmas.{each_kind, front-Message, front-Choice, front-Rec, front-Continue, front-Do}

-- what holds of each statement in front of others holds of each that a program has
pub each_front : (P : Front → Type 0) → ((m : Message) → P (Says m)) → ((p : Place) (at : Name) (bs : Branches) → P (Choice p at bs)) →
    ((p : Place) (name : Name) (body : Statements) → P (Rec p name body)) → ((p : Place) (name : Name) → P (Continue p name)) →
    ((p : Place) (name : Name) → P (Do p name)) → (s : Statement) → P (front s)
each_front P said choice recursion continued goes_on =
    each_kind (λ s. P (front s)) (λ m. subst P (sym (front-Message m)) (said m)) (λ p at bs. subst P (sym (front-Choice p at bs))
    (choice p at _))
    (λ p name body. subst P (sym (front-Rec p name body)) (recursion p name _)) (λ p name. subst P (sym (front-Continue p name))
    (continued p name))
    (λ p name. subst P (sym (front-Do p name)) (goes_on p name))

pub statements-step : (ss : List Statement) (i : ℕ) (x : Statement) → i < length ss → x ≡ get_or ss i x → statements (drop i ss)
    ≡ front x (statements (drop (i + 1) ss))
statements-step ss i x within is = at_drop_more statements ss i x within ∙ ap (λ y. front y (statements (drop (i + 1) ss))) (sym is)

pub statements-past : (ss : List Statement) (i : ℕ) → length ss ≤ i → statements (drop i ss) ≡ Nothing
statements-past ss i h = at_drop_all statements ss i h

pub bodies-step : (bs : List (Row Statement)) (i : ℕ) (x : Row Statement) → i < length bs → x ≡ get_or bs i x →
    bodies (drop i bs) ≡ Branch (statements x.items) (bodies (drop (i + 1) bs))
bodies-step bs i x within is = at_drop_more bodies bs i x within ∙ ap (λ y. Branch (statements y.items) (bodies (drop (i + 1) bs))) (sym is)

pub bodies-past : (bs : List (Row Statement)) (i : ℕ) → length bs ≤ i → bodies (drop i bs) ≡ NoBranch
bodies-past bs i h = at_drop_all bodies bs i h
