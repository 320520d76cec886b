-- Two lists of statements are the same where their statements are, one by one.
use Rattle.std.proofs.Common.{◌≡◌, ℕ, suc, ◌+◌, ◌<◌, ◌≤◌, ◌==◌, arith, length, get_or, drop, Bool, true, false, ◌&&◌, List, [], ◌∷◌}
use Rattle.std.proofs.Common.{refl, sym, ap, ◌∙◌}
use Rattle.std.specs.Str.{bytes_eq}
use Rattle.std.proofs.lemmas.Bool.Decides.{nat_tests}
use Rattle.std.proofs.lemmas.Grind.{common_steps}
use Rattle.mg_text.specs.Call.{Name}
use Rattle.mg_text.specs.Row.{Row}
use Rattle.mg_text.specs.declared.place.Place.{Place}
use Rattle.scr_tree.specs.declared.syntax.Message.{Message as Said}
use Rattle.scr_tree.specs.declared.syntax.Statement.{Statement}
use Rattle.scr_tree.specs.declared.syntax.Statement.TheVariants as kinds
use Rattle.scr_tree.specs.Meaning.{message_of}
use Rattle.scr_tree.specs.Tree.{Statements, Nothing, Says, Choice, Rec, Continue, Do, Branches, NoBranch, Branch}
use Rattle.scr_tree.specs.View.{front, statements, bodies}
use Rattle.scr_tree.proofs.Behind.{each_front, statements-step, statements-past, bodies-step, bodies-past}
use Rattle.scr_tree.proofs.ViewLemmas.{front-Message, front-Choice, front-Rec, front-Continue, front-Do}
use Rattle.scr_global.specs.Projecting.{same_message}
use Rattle.scr_same.specs.inner.Alike.{is_alike, are_alike}

-- tests put together
and_true : (b : Bool) → b ≡ (b && true)
and_true true = refl
and_true false = refl

regroup : (a b c : Bool) → (a && (b && c)) ≡ ((a && (b && true)) && c)
regroup true b c = ap (λ z. z && c) (and_true b)
regroup false b c = refl

module _ (a b : Statements) where
  abbrev Splits : (Statements → Statements) → (Statements → Statements) → Type 0
  Splits f g = is_alike (f a) (g b) ≡ (is_alike (f Nothing) (g Nothing) && is_alike a b)

  same-front : (x y : Statement) → is_alike (front x a) (front y b) ≡ (is_alike (front x Nothing) (front y Nothing) && is_alike a b)
  same-front x y =
      each_front (λ f. Splits f (front y))
      (λ m. each_front (Splits (Says m))
      (λ n. ap (λ z. z && is_alike a b) (and_true (same_message (message_of m) (message_of n))))
      (λ q by cs. refl)
      (λ q word inner. refl)
      (λ q word. refl)
      (λ q word. refl) y)
      (λ p at bs. each_front (Splits (Choice p at bs))
      (λ n. refl)
      (λ q by cs. regroup (bytes_eq at by) (are_alike bs cs) (is_alike a b))
      (λ q word inner. refl)
      (λ q word. refl)
      (λ q word. refl) y)
      (λ p name body. each_front (Splits (Rec p name body))
      (λ n. refl)
      (λ q by cs. refl)
      (λ q word inner. regroup (bytes_eq name word) (is_alike body inner) (is_alike a b))
      (λ q word. refl)
      (λ q word. refl) y)
      (λ p name. each_front (Splits (Continue p name))
      (λ n. refl)
      (λ q by cs. refl)
      (λ q word inner. refl)
      (λ q word. ap (λ z. z && is_alike a b) (and_true (bytes_eq name word)))
      (λ q word. refl) y)
      (λ p name. each_front (Splits (Do p name))
      (λ n. refl)
      (λ q by cs. refl)
      (λ q word inner. refl)
      (λ q word. refl)
      (λ q word. ap (λ z. z && is_alike a b) (and_true (bytes_eq name word))) y)
      x

-- no statement is the same as none
front_none : (x : Statement) (a : Statements) → is_alike (front x a) Nothing ≡ false
front_none x a =
    each_front (λ f. is_alike (f a) Nothing ≡ false) (λ m. refl) (λ p at bs. refl) (λ p name body. refl) (λ p name. refl) (λ p name. refl) x

none_front : (x : Statement) (a : Statements) → is_alike Nothing (front x a) ≡ false
none_front x a =
    each_front (λ f. is_alike Nothing (f a) ≡ false) (λ m. refl) (λ p at bs. refl) (λ p name body. refl) (λ p name. refl) (λ p name. refl) x

-- ---- turns of the loops

abbrev pub lists_same : List Statement → List Statement → Bool
lists_same xs ys = is_alike (statements xs) (statements ys)

abbrev pub branches_same : List (Row Statement) → List (Row Statement) → Bool
branches_same xs ys = are_alike (bodies xs) (bodies ys)

positive : (n : ℕ) → false ≡ (suc n == 0)
positive n = grind (arith, nat_tests)

none_left : (ys : List Statement) → is_alike Nothing (statements ys) ≡ (length ys == 0)
none_left [] = refl
none_left (y ∷ ys) = none_front y (statements ys) ∙ positive (length ys)

pub same_end : (ss : List Statement) (i : ℕ) (rest : List Statement) → length ss ≤ i → lists_same (drop i ss) rest ≡ (length rest == 0)
same_end ss i rest h = ap (λ (s : Statements). is_alike s (statements rest)) (statements-past ss i h) ∙ none_left rest

module _ (ss : List Statement) (i : ℕ) (x : Statement) (within : i < length ss) (is : x ≡ get_or ss i x) where
  unfolded : (rest : List Statement) → lists_same (drop i ss) rest ≡ is_alike (front x (statements (drop (i + 1) ss))) (statements rest)
  unfolded rest = ap (λ (s : Statements). is_alike s (statements rest)) (statements-step ss i x within is)

  pub same_short : (rest : List Statement) → rest ≡ [] → lists_same (drop i ss) rest ≡ false
  same_short rest e =
      unfolded rest ∙ ap (λ (r : List Statement). is_alike (front x (statements (drop (i + 1) ss))) (statements r)) e
      ∙ front_none x (statements (drop (i + 1) ss))

  module _ (y : Statement) (rest after : List Statement) (parts : rest ≡ y ∷ after) where
    both_on : lists_same (drop i ss) rest ≡ (is_alike (front x Nothing) (front y Nothing) && lists_same (drop (i + 1) ss) after)
    both_on =
        unfolded rest ∙ ap (λ (r : List Statement). is_alike (front x (statements (drop (i + 1) ss))) (statements r)) parts
        ∙ same-front (statements (drop (i + 1) ss)) (statements after) x y

    pub same_later : true ≡ is_alike (front x Nothing) (front y Nothing) → lists_same (drop i ss) rest
        ≡ lists_same (drop (i + 1) ss) after
    same_later e = both_on ∙ ap (λ (z : Bool). z && lists_same (drop (i + 1) ss) after) (sym e)

    pub same_differs : false ≡ is_alike (front x Nothing) (front y Nothing) → lists_same (drop i ss) rest ≡ false
    same_differs e = both_on ∙ ap (λ (z : Bool). z && lists_same (drop (i + 1) ss) after) (sym e)

-- ---- branches

none_branch : (ys : List (Row Statement)) → are_alike NoBranch (bodies ys) ≡ (length ys == 0)
none_branch [] = refl
none_branch (y ∷ ys) = positive (length ys)

pub branches_end : (bs : List (Row Statement)) (i : ℕ) (rest : List (Row Statement)) → length bs ≤ i →
    branches_same (drop i bs) rest ≡ (length rest == 0)
branches_end bs i rest h = ap (λ (s : Branches). are_alike s (bodies rest)) (bodies-past bs i h) ∙ none_branch rest

module _ (bs : List (Row Statement)) (i : ℕ) (x : Row Statement) (within : i < length bs) (is : x ≡ get_or bs i x) where
  branches_unfolded : (rest : List (Row Statement)) → branches_same (drop i bs) rest
      ≡ are_alike (Branch (statements x.items) (bodies (drop (i + 1) bs))) (bodies rest)
  branches_unfolded rest = ap (λ (s : Branches). are_alike s (bodies rest)) (bodies-step bs i x within is)

  pub branches_short : (rest : List (Row Statement)) → rest ≡ [] → branches_same (drop i bs) rest ≡ false
  branches_short rest e =
      branches_unfolded rest ∙ ap (λ (r : List (Row Statement)). are_alike (Branch (statements x.items) (bodies (drop (i + 1) bs)))
      (bodies r)) e

  module _ (y : Row Statement) (rest after : List (Row Statement)) (parts : rest ≡ y ∷ after) where
    branches_on : branches_same (drop i bs) rest ≡ (lists_same x.items y.items && branches_same (drop (i + 1) bs) after)
    branches_on =
        branches_unfolded rest ∙ ap (λ (r : List (Row Statement)). are_alike (Branch (statements x.items) (bodies (drop (i + 1) bs)))
        (bodies r)) parts

    pub branches_later : true ≡ lists_same x.items y.items → branches_same (drop i bs) rest ≡ branches_same (drop (i + 1) bs) after
    branches_later e = branches_on ∙ ap (λ (z : Bool). z && branches_same (drop (i + 1) bs) after) (sym e)

    pub branches_differ : false ≡ lists_same x.items y.items → branches_same (drop i bs) rest ≡ false
    branches_differ e = branches_on ∙ ap (λ (z : Bool). z && branches_same (drop (i + 1) bs) after) (sym e)

-- ---- one statement and another

abbrev pub one_same : Statement → Statement → Bool
one_same x y = is_alike (front x Nothing) (front y Nothing)

-- each statement by what it is
abbrev fronts_same : (Statements → Statements) → (Statements → Statements) → Bool
fronts_same f g = is_alike (f Nothing) (g Nothing)

alike : (x y : Statement) (f g : Statements → Statements) → front x ≡ f → front y ≡ g →
    one_same x y ≡ is_alike (f Nothing) (g Nothing)
alike x y f g e h = λ i. fronts_same (e i) (h i)

pub Message-Message : (m : Said) (n : Said) →
    one_same (kinds.Message m) (kinds.Message n) ≡ same_message (message_of m) (message_of n)
Message-Message m n = alike _ _ _ _ (front-Message m) (front-Message n) ∙ sym (and_true _)

pub Message-Choice : (m : Said) (q : Place) (by : Name) (cs : Row (Row Statement)) →
    one_same (kinds.Message m) (kinds.Choice q by cs) ≡ false
Message-Choice m q by cs = alike _ _ _ _ (front-Message m) (front-Choice q by cs)

pub Message-Rec : (m : Said) (q : Place) (word : Name) (inner : Row Statement) →
    one_same (kinds.Message m) (kinds.Rec q word inner) ≡ false
Message-Rec m q word inner = alike _ _ _ _ (front-Message m) (front-Rec q word inner)

pub Message-Continue : (m : Said) (q : Place) (word : Name) →
    one_same (kinds.Message m) (kinds.Continue q word) ≡ false
Message-Continue m q word = alike _ _ _ _ (front-Message m) (front-Continue q word)

pub Message-Do : (m : Said) (q : Place) (word : Name) →
    one_same (kinds.Message m) (kinds.Do q word) ≡ false
Message-Do m q word = alike _ _ _ _ (front-Message m) (front-Do q word)

pub Choice-Message : (p : Place) (at : Name) (bs : Row (Row Statement)) (n : Said) →
    one_same (kinds.Choice p at bs) (kinds.Message n) ≡ false
Choice-Message p at bs n = alike _ _ _ _ (front-Choice p at bs) (front-Message n)

pub Choice-Choice : (p : Place) (at : Name) (bs : Row (Row Statement)) (q : Place) (by : Name) (cs : Row (Row Statement)) →
    one_same (kinds.Choice p at bs) (kinds.Choice q by cs) ≡ (bytes_eq at by && branches_same bs.items cs.items)
Choice-Choice p at bs q by cs =
    alike _ _ _ _ (front-Choice p at bs) (front-Choice q by cs)
    ∙ ap (λ (z : Bool). bytes_eq at by && z) (sym (and_true (branches_same bs.items cs.items)))

pub Choice-Rec : (p : Place) (at : Name) (bs : Row (Row Statement)) (q : Place) (word : Name) (inner : Row Statement) →
    one_same (kinds.Choice p at bs) (kinds.Rec q word inner) ≡ false
Choice-Rec p at bs q word inner = alike _ _ _ _ (front-Choice p at bs) (front-Rec q word inner)

pub Choice-Continue : (p : Place) (at : Name) (bs : Row (Row Statement)) (q : Place) (word : Name) →
    one_same (kinds.Choice p at bs) (kinds.Continue q word) ≡ false
Choice-Continue p at bs q word = alike _ _ _ _ (front-Choice p at bs) (front-Continue q word)

pub Choice-Do : (p : Place) (at : Name) (bs : Row (Row Statement)) (q : Place) (word : Name) →
    one_same (kinds.Choice p at bs) (kinds.Do q word) ≡ false
Choice-Do p at bs q word = alike _ _ _ _ (front-Choice p at bs) (front-Do q word)

pub Rec-Message : (p : Place) (name : Name) (body : Row Statement) (n : Said) →
    one_same (kinds.Rec p name body) (kinds.Message n) ≡ false
Rec-Message p name body n = alike _ _ _ _ (front-Rec p name body) (front-Message n)

pub Rec-Choice : (p : Place) (name : Name) (body : Row Statement) (q : Place) (by : Name) (cs : Row (Row Statement)) →
    one_same (kinds.Rec p name body) (kinds.Choice q by cs) ≡ false
Rec-Choice p name body q by cs = alike _ _ _ _ (front-Rec p name body) (front-Choice q by cs)

pub Rec-Rec : (p : Place) (name : Name) (body : Row Statement) (q : Place) (word : Name) (inner : Row Statement) →
    one_same (kinds.Rec p name body) (kinds.Rec q word inner) ≡ (bytes_eq name word && lists_same body.items inner.items)
Rec-Rec p name body q word inner =
    alike _ _ _ _ (front-Rec p name body) (front-Rec q word inner)
    ∙ ap (λ (z : Bool). bytes_eq name word && z) (sym (and_true (lists_same body.items inner.items)))

pub Rec-Continue : (p : Place) (name : Name) (body : Row Statement) (q : Place) (word : Name) →
    one_same (kinds.Rec p name body) (kinds.Continue q word) ≡ false
Rec-Continue p name body q word = alike _ _ _ _ (front-Rec p name body) (front-Continue q word)

pub Rec-Do : (p : Place) (name : Name) (body : Row Statement) (q : Place) (word : Name) →
    one_same (kinds.Rec p name body) (kinds.Do q word) ≡ false
Rec-Do p name body q word = alike _ _ _ _ (front-Rec p name body) (front-Do q word)

pub Continue-Message : (p : Place) (name : Name) (n : Said) →
    one_same (kinds.Continue p name) (kinds.Message n) ≡ false
Continue-Message p name n = alike _ _ _ _ (front-Continue p name) (front-Message n)

pub Continue-Choice : (p : Place) (name : Name) (q : Place) (by : Name) (cs : Row (Row Statement)) →
    one_same (kinds.Continue p name) (kinds.Choice q by cs) ≡ false
Continue-Choice p name q by cs = alike _ _ _ _ (front-Continue p name) (front-Choice q by cs)

pub Continue-Rec : (p : Place) (name : Name) (q : Place) (word : Name) (inner : Row Statement) →
    one_same (kinds.Continue p name) (kinds.Rec q word inner) ≡ false
Continue-Rec p name q word inner = alike _ _ _ _ (front-Continue p name) (front-Rec q word inner)

pub Continue-Continue : (p : Place) (name : Name) (q : Place) (word : Name) →
    one_same (kinds.Continue p name) (kinds.Continue q word) ≡ bytes_eq name word
Continue-Continue p name q word = alike _ _ _ _ (front-Continue p name) (front-Continue q word) ∙ sym (and_true _)

pub Continue-Do : (p : Place) (name : Name) (q : Place) (word : Name) →
    one_same (kinds.Continue p name) (kinds.Do q word) ≡ false
Continue-Do p name q word = alike _ _ _ _ (front-Continue p name) (front-Do q word)

pub Do-Message : (p : Place) (name : Name) (n : Said) →
    one_same (kinds.Do p name) (kinds.Message n) ≡ false
Do-Message p name n = alike _ _ _ _ (front-Do p name) (front-Message n)

pub Do-Choice : (p : Place) (name : Name) (q : Place) (by : Name) (cs : Row (Row Statement)) →
    one_same (kinds.Do p name) (kinds.Choice q by cs) ≡ false
Do-Choice p name q by cs = alike _ _ _ _ (front-Do p name) (front-Choice q by cs)

pub Do-Rec : (p : Place) (name : Name) (q : Place) (word : Name) (inner : Row Statement) →
    one_same (kinds.Do p name) (kinds.Rec q word inner) ≡ false
Do-Rec p name q word inner = alike _ _ _ _ (front-Do p name) (front-Rec q word inner)

pub Do-Continue : (p : Place) (name : Name) (q : Place) (word : Name) →
    one_same (kinds.Do p name) (kinds.Continue q word) ≡ false
Do-Continue p name q word = alike _ _ _ _ (front-Do p name) (front-Continue q word)

pub Do-Do : (p : Place) (name : Name) (q : Place) (word : Name) →
    one_same (kinds.Do p name) (kinds.Do q word) ≡ bytes_eq name word
Do-Do p name q word = alike _ _ _ _ (front-Do p name) (front-Do q word) ∙ sym (and_true _)

pub ruleset all_steps = (common_steps, same_later, same_differs, same_short, same_end)

pub ruleset in_steps = (common_steps, branches_later, branches_differ, branches_short, branches_end)
