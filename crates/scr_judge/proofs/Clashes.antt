-- Actions of the program and those of the text clash in the same places.
use Rattle.std.proofs.Common.{◌≡◌, List, [], ◌∷◌, ◌++◌, map, Option, sym, ap, subst, ◌∙◌}
use Rattle.std.proofs.lemmas.List.{map-append}
use Rattle.mg_read.specs.Culprit.{Culprit}
use Rattle.mg_read.specs.First.{Judged, with_earlier}
use Rattle.scr_tree.specs.Actions.{Action, NameClash}
use Rattle.scr_judge.specs.inner.Listed.{Clash}
use Rattle.scr_judge.specs.inner.View.{act, call_of, does, clashing}
use Rattle.scr_judge.specs.declared.actions.Action.{Action as CodeAction}
use Rattle.scr_judge.proofs.Earlier.{judged-behind}
use Rattle.scr_judge.proofs.Members.{Contains-image, Contains-origin}

clash_to : (q : List CodeAction × CodeAction) (c : Culprit) → Clash call_of does clashing q c → NameClash (map act q.0, act q.1) c
clash_to q c a = (a.0, act a.1.0, Contains-image act q.0 a.1.0 a.1.1, a.1.2, a.1.3)

clash_from : (q : List CodeAction × CodeAction) (c : Culprit) → NameClash (map act q.0, act q.1) c → Clash call_of does clashing q c
clash_from q c a =
    let o = Contains-origin act q.0 a.1 a.2 in
    (a.0, (o.0, o.1, ap (λ z. z.call) o.2 ∙ a.3, λ same. a.4 (sym (ap (λ z. z.deed) o.2) ∙ same)))

act_push : (xs : List CodeAction) (x : CodeAction) → map act (xs ++ x ∷ []) ≡ map act xs ++ act x ∷ []
act_push xs x = map-append act xs (x ∷ [])

-- the program's actions are `xs`, which are those of the text behind none
pub clashes : (xs ys old : List CodeAction) (texts : List Action) (r s : Option Culprit) → xs ≡ ys → old ≡ [] → map act ys ≡ map act old
    ++ texts → r ≡ s →
    Judged (Clash call_of does clashing) (with_earlier xs) r → Judged NameClash (with_earlier texts) s
clashes xs ys old texts r s e none are same j =
    let all : map act xs ≡ texts = ap (map act) e ∙ are ∙ ap (λ o. map act o ++ texts) none in
    subst (λ zs. Judged NameClash (with_earlier zs) s) all (subst (Judged NameClash (with_earlier (map act xs))) same
    (judged-behind act (map act) act_push clash_to clash_from [] xs j))
