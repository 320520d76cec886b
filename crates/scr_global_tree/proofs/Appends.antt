-- Lists of statements and of branches of local protocols, one behind another.
use Rattle.std.proofs.Common.{◌≡◌, List, [], ◌∷◌, ◌++◌, refl, sym, ap, ◌∙◌}
use Rattle.mg_text.specs.Row.{Row}
use Rattle.scr_tree.specs.declared.syntax.Statement.{Statement}
use Rattle.scr_tree.specs.Tree.{Statements, Nothing, Says, Choice, Rec, Continue, Do, Branches, NoBranch, Branch}
use Rattle.scr_tree.specs.View.{front, statements, bodies}
use Rattle.scr_tree.proofs.Behind.{each_front}
use Rattle.scr_global.specs.Texts.{behind}

pub behind_nothing : (s : Statements) → behind s Nothing ≡ s
behind_nothing Nothing = refl
behind_nothing (Says m s) = ap (Says m) (behind_nothing s)
behind_nothing (Choice p at bs s) = ap (Choice p at bs) (behind_nothing s)
behind_nothing (Rec p name b s) = ap (Rec p name b) (behind_nothing s)
behind_nothing (Continue p name s) = ap (Continue p name) (behind_nothing s)
behind_nothing (Do p name s) = ap (Do p name) (behind_nothing s)

pub behind_both : (s t u : Statements) → behind (behind s t) u ≡ behind s (behind t u)
behind_both Nothing t u = refl
behind_both (Says m s) t u = ap (Says m) (behind_both s t u)
behind_both (Choice p at bs s) t u = ap (Choice p at bs) (behind_both s t u)
behind_both (Rec p name b s) t u = ap (Rec p name b) (behind_both s t u)
behind_both (Continue p name s) t u = ap (Continue p name) (behind_both s t u)
behind_both (Do p name s) t u = ap (Do p name) (behind_both s t u)

-- some branches behind others
abbrev pub beside : Branches → Branches → Branches
beside NoBranch cs = cs
beside (Branch b bs) cs = Branch b (beside bs cs)

pub beside_none : (s : Branches) → beside s NoBranch ≡ s
beside_none NoBranch = refl
beside_none (Branch b s) = ap (Branch b) (beside_none s)

pub beside_both : (s t u : Branches) → beside (beside s t) u ≡ beside s (beside t u)
beside_both NoBranch t u = refl
beside_both (Branch b s) t u = ap (Branch b) (beside_both s t u)

-- of the program's lists
front-behind : (x : Statement) (a b : Statements) → behind (front x a) b ≡ front x (behind a b)
front-behind x a b = each_front (λ f. behind (f a) b ≡ f (behind a b)) (λ m. refl) (λ p at bs. refl) (λ p name body. refl) (λ p name. refl)
    (λ p name. refl) x

pub statements-append : (xs ys : List Statement) → statements (xs ++ ys) ≡ behind (statements xs) (statements ys)
statements-append [] ys = refl
statements-append (x ∷ xs) ys = ap (front x) (statements-append xs ys) ∙ sym (front-behind x (statements xs) (statements ys))

pub statements-push : (xs : List Statement) (x : Statement) → statements (xs ++ x ∷ []) ≡ behind (statements xs) (front x Nothing)
statements-push xs x = statements-append xs (x ∷ [])

bodies-append : (xs ys : List (Row Statement)) → bodies (xs ++ ys) ≡ beside (bodies xs) (bodies ys)
bodies-append [] ys = refl
bodies-append (x ∷ xs) ys = ap (Branch (statements x.items)) (bodies-append xs ys)

pub bodies-push : (xs : List (Row Statement)) (x : Row Statement) → bodies (xs ++ x ∷ []) ≡ beside (bodies xs)
    (Branch (statements x.items) NoBranch)
bodies-push xs x = bodies-append xs (x ∷ [])
