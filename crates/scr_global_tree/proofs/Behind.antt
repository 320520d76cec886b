-- The statement at an index, and those behind it; the branch at an index, and those behind it.
use Rattle.std.proofs.Common.{◌≡◌, ℕ, ◌+◌, ◌<◌, ◌≤◌, length, get_or, drop, List, sym, ap, subst, ◌∙◌}
use Rattle.std.proofs.lemmas.List.{at_drop_more, at_drop_all}
use Rattle.mg_text.specs.Call.{Name}
use Rattle.mg_text.specs.Row.{Row}
use Rattle.mg_text.specs.declared.place.Place.{Place}
use Rattle.scr_global_tree.specs.declared.statement.GStatement.{GStatement}
use Rattle.scr_global.specs.Tree.{Told, Statements, Nothing, Says, Choice, Rec, Continue, Branches, NoBranch, Branch}
use Rattle.scr_global_tree.specs.View.{Front, front, statements, bodies}
use Rattle.scr_global_tree.proofs.ViewLemmas.{each_kind, front-Message, front-Choice, front-Rec, front-Continue}

-- what holds of each statement in front of others holds of each that a program has
pub each_front : (P : Front → Type 0) → ((m : Told) → P (Says m)) → ((p : Place) (at : Name) (bs : Branches) → P (Choice p at bs)) →
    ((p : Place) (name : Name) (body : Statements) → P (Rec p name body)) → ((p : Place) (name : Name) → P (Continue p name)) →
    (s : GStatement) → P (front s)
each_front P said choice recursion continued =
    each_kind (λ s. P (front s)) (λ place from to label payload. subst P (sym (front-Message place from to label payload)) (said _))
    (λ p at bs. subst P (sym (front-Choice p at bs)) (choice p at _))
    (λ p name body. subst P (sym (front-Rec p name body)) (recursion p name _)) (λ p name. subst P (sym (front-Continue p name))
    (continued p name))

pub statements-step : (ss : List GStatement) (i : ℕ) (x : GStatement) → i < length ss → x ≡ get_or ss i x →
    statements (drop i ss) ≡ front x (statements (drop (i + 1) ss))
statements-step ss i x within is = at_drop_more statements ss i x within ∙ ap (λ y. front y (statements (drop (i + 1) ss))) (sym is)

pub statements-past : (ss : List GStatement) (i : ℕ) → length ss ≤ i → statements (drop i ss) ≡ Nothing
statements-past ss i h = at_drop_all statements ss i h

pub bodies-step : (bs : List (Row GStatement)) (i : ℕ) (x : Row GStatement) → i < length bs → x ≡ get_or bs i x →
    bodies (drop i bs) ≡ Branch (statements x.items) (bodies (drop (i + 1) bs))
bodies-step bs i x within is = at_drop_more bodies bs i x within ∙ ap (λ y. Branch (statements y.items) (bodies (drop (i + 1) bs))) (sym is)

pub bodies-past : (bs : List (Row GStatement)) (i : ℕ) → length bs ≤ i → bodies (drop i bs) ≡ NoBranch
bodies-past bs i h = at_drop_all bodies bs i h
