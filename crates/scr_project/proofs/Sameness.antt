-- Two lists of statements say the same where their statements do, one by one.
use Rattle.std.proofs.Common.{◌≡◌, ℕ, suc, ◌+◌, ◌<◌, ◌≤◌, ◌==◌, arith, length, get_or, drop, Bool, true, false, ◌&&◌, if◌then◌else◌, List}
use Rattle.std.proofs.Common.{[], ◌∷◌, refl, sym, ap, ◌∙◌}
use Rattle.std.specs.Str.{bytes_eq}
use Rattle.std.proofs.lemmas.Bool.Decides.{nat_tests}
use Rattle.std.proofs.lemmas.Grind.{common_steps}
use Rattle.mg_text.specs.Call.{Name}
use Rattle.mg_text.specs.Row.{Row}
use Rattle.mg_text.specs.declared.place.Place.{Place}
use Rattle.scr_tree.specs.declared.syntax.Message.{Message as Said}
use Rattle.scr_tree.specs.declared.syntax.Statement.{Statement}
use Rattle.scr_tree.specs.declared.syntax.Statement.TheVariants as kinds
use Rattle.scr_tree.specs.Meaning.{message_of}
use Rattle.scr_tree.specs.Protocol.{Message, Protocol, Done, Does, ChoiceHere, ChoiceThere, Branches as Told}
use Rattle.scr_tree.specs.Protocol as protocol
use Rattle.scr_tree.specs.Tree.{Statements, Nothing, Says, Choice, Rec, Continue, Do, Branches, NoBranch, Branch}
use Rattle.scr_tree.specs.View.{front, statements, bodies}
use Rattle.scr_tree.proofs.Behind.{each_front, statements-step, statements-past, bodies-step, bodies-past}
use Rattle.scr_tree.proofs.ViewLemmas.{front-Message, front-Choice, front-Rec, front-Continue, front-Do}
use Rattle.scr_global.specs.Projecting.{is_same, are_same, same_message}
use Rattle.scr_global.specs.Texts.{spoken, spoken_each}
use Rattle.scr_project.specs.inner.Merge.{same_truth}

-- tests put together
pub and_true : (b : Bool) → b ≡ (b && true)
and_true true = refl
and_true false = refl

regroup : (a b c : Bool) → (a && (b && c)) ≡ ((a && (b && true)) && c)
regroup true b c = ap (λ z. z && c) (and_true b)
regroup false b c = refl

-- what a choice says, at the role or elsewhere
abbrev said_at : Bool → Told → Protocol → Protocol
said_at b bs p = if b then ChoiceHere bs p else ChoiceThere 0 bs p

-- a choice is the same as no other statement
not_said : (b : Bool) (m : Message) (p : Protocol) (bs : Told) (q : Protocol) → is_same (Does m p) (said_at b bs q) ≡ false
not_said true m p bs q = refl
not_said false m p bs q = refl

said_not : (b : Bool) (m : Message) (p : Protocol) (bs : Told) (q : Protocol) → is_same (said_at b bs q) (Does m p) ≡ false
said_not true m p bs q = refl
said_not false m p bs q = refl

not_turned : (b : Bool) (name : Name) (c p : Protocol) (bs : Told) (q : Protocol) → is_same (protocol.Rec name c p) (said_at b bs q) ≡ false
not_turned true name c p bs q = refl
not_turned false name c p bs q = refl

turned_not : (b : Bool) (name : Name) (c p : Protocol) (bs : Told) (q : Protocol) → is_same (said_at b bs q) (protocol.Rec name c p) ≡ false
turned_not true name c p bs q = refl
turned_not false name c p bs q = refl

not_continued : (b : Bool) (name : Name) (p : Protocol) (bs : Told) (q : Protocol) → is_same (protocol.Continue name p) (said_at b bs q)
    ≡ false
not_continued true name p bs q = refl
not_continued false name p bs q = refl

continued_not : (b : Bool) (name : Name) (p : Protocol) (bs : Told) (q : Protocol) → is_same (said_at b bs q) (protocol.Continue name p)
    ≡ false
continued_not true name p bs q = refl
continued_not false name p bs q = refl

not_gone : (b : Bool) (name : Name) (p : Protocol) (bs : Told) (q : Protocol) → is_same (protocol.Do name p) (said_at b bs q) ≡ false
not_gone true name p bs q = refl
not_gone false name p bs q = refl

gone_not : (b : Bool) (name : Name) (p : Protocol) (bs : Told) (q : Protocol) → is_same (said_at b bs q) (protocol.Do name p) ≡ false
gone_not true name p bs q = refl
gone_not false name p bs q = refl

both_false : (a b c : Bool) → a ≡ false → b ≡ false → a ≡ (b && c)
both_false a b c e f = e ∙ ap (λ z. z && c) (sym f)

pub same_choices : (b c : Bool) (bs cs : Told) (p q : Protocol) →
    is_same (said_at b bs p) (said_at c cs q) ≡ (is_same (said_at b bs Done) (said_at c cs Done) && is_same p q)
same_choices true true bs cs p q = ap (λ z. z && is_same p q) (and_true (are_same bs cs))
same_choices true false bs cs p q = refl
same_choices false true bs cs p q = refl
same_choices false false bs cs p q = ap (λ z. z && is_same p q) (and_true (are_same bs cs))

module _ (me : Name) (a b : Statements) where
  abbrev same_rest : Bool
  same_rest = is_same (spoken me a) (spoken me b)

  abbrev Splits : (Statements → Statements) → (Statements → Statements) → Type 0
  Splits f g = is_same (spoken me (f a)) (spoken me (g b)) ≡ (is_same (spoken me (f Nothing)) (spoken me (g Nothing)) && same_rest)

  pub same-front : (x y : Statement) → is_same (spoken me (front x a)) (spoken me (front y b))
      ≡ (is_same (spoken me (front x Nothing)) (spoken me (front y Nothing)) && is_same (spoken me a) (spoken me b))
  same-front x y =
      each_front (λ f. Splits f (front y))
      (λ m. each_front (Splits (Says m))
      (λ n. ap (λ z. z && same_rest) (and_true (same_message (message_of m) (message_of n))))
      (λ p at bs. both_false _ _ same_rest (not_said (bytes_eq at me) (message_of m) (spoken me a) (spoken_each me bs) (spoken me b))
      (not_said (bytes_eq at me) (message_of m) Done (spoken_each me bs) Done))
      (λ p name body. refl) (λ p name. refl) (λ p name. refl) y)
      (λ p at bs. each_front (Splits (Choice p at bs))
      (λ n. both_false _ _ same_rest (said_not (bytes_eq at me) (message_of n) (spoken me b) (spoken_each me bs) (spoken me a))
      (said_not (bytes_eq at me) (message_of n) Done (spoken_each me bs) Done))
      (λ q other cs. same_choices (bytes_eq at me) (bytes_eq other me) (spoken_each me bs) (spoken_each me cs) (spoken me a) (spoken me b))
      (λ q name body. both_false _ _ same_rest (turned_not (bytes_eq at me) name (spoken me body) (spoken me b) (spoken_each me bs)
      (spoken me a)) (turned_not (bytes_eq at me) name (spoken me body) Done (spoken_each me bs) Done))
      (λ q name. both_false _ _ same_rest (continued_not (bytes_eq at me) name (spoken me b) (spoken_each me bs) (spoken me a))
      (continued_not (bytes_eq at me) name Done (spoken_each me bs) Done))
      (λ q name. both_false _ _ same_rest (gone_not (bytes_eq at me) name (spoken me b) (spoken_each me bs) (spoken me a))
      (gone_not (bytes_eq at me) name Done (spoken_each me bs) Done)) y)
      (λ p name body. each_front (Splits (Rec p name body))
      (λ n. refl)
      (λ q at bs. both_false _ _ same_rest (not_turned (bytes_eq at me) name (spoken me body) (spoken me a) (spoken_each me bs)
      (spoken me b)) (not_turned (bytes_eq at me) name (spoken me body) Done (spoken_each me bs) Done))
      (λ q other inner. regroup (bytes_eq name other) (is_same (spoken me body) (spoken me inner)) same_rest)
      (λ q other. refl) (λ q other. refl) y)
      (λ p name. each_front (Splits (Continue p name))
      (λ n. refl)
      (λ q at bs. both_false _ _ same_rest (not_continued (bytes_eq at me) name (spoken me a) (spoken_each me bs) (spoken me b))
      (not_continued (bytes_eq at me) name Done (spoken_each me bs) Done))
      (λ q other inner. refl)
      (λ q other. ap (λ z. z && same_rest) (and_true (bytes_eq name other)))
      (λ q other. refl) y)
      (λ p name. each_front (Splits (Do p name))
      (λ n. refl)
      (λ q at bs. both_false _ _ same_rest (not_gone (bytes_eq at me) name (spoken me a) (spoken_each me bs) (spoken me b))
      (not_gone (bytes_eq at me) name Done (spoken_each me bs) Done))
      (λ q other inner. refl)
      (λ q other. refl)
      (λ q other. ap (λ z. z && same_rest) (and_true (bytes_eq name other))) y)
      x

-- no statement is the same as none
chosen_done : (b : Bool) (bs : Told) (p : Protocol) → is_same (said_at b bs p) Done ≡ false
chosen_done true bs p = refl
chosen_done false bs p = refl

done_chosen : (b : Bool) (bs : Told) (p : Protocol) → is_same Done (said_at b bs p) ≡ false
done_chosen true bs p = refl
done_chosen false bs p = refl

front_none : (me : Name) (x : Statement) (a : Statements) → is_same (spoken me (front x a)) Done ≡ false
front_none me x a =
    each_front (λ f. is_same (spoken me (f a)) Done ≡ false) (λ m. refl) (λ p at bs. chosen_done (bytes_eq at me) (spoken_each me bs)
    (spoken me a)) (λ p name body. refl) (λ p name. refl) (λ p name. refl) x

none_front : (me : Name) (x : Statement) (a : Statements) → is_same Done (spoken me (front x a)) ≡ false
none_front me x a =
    each_front (λ f. is_same Done (spoken me (f a)) ≡ false) (λ m. refl) (λ p at bs. done_chosen (bytes_eq at me) (spoken_each me bs)
    (spoken me a)) (λ p name body. refl) (λ p name. refl) (λ p name. refl) x

-- ---- turns of the loops

abbrev pub lists_same : Name → List Statement → List Statement → Bool
lists_same me xs ys = is_same (spoken me (statements xs)) (spoken me (statements ys))

abbrev pub branches_same : Name → List (Row Statement) → List (Row Statement) → Bool
branches_same me xs ys = are_same (spoken_each me (bodies xs)) (spoken_each me (bodies ys))

positive : (n : ℕ) → false ≡ (suc n == 0)
positive n = grind (arith, nat_tests)

none_left : (me : Name) (ys : List Statement) → is_same Done (spoken me (statements ys)) ≡ (length ys == 0)
none_left me [] = refl
none_left me (y ∷ ys) = none_front me y (statements ys) ∙ positive (length ys)

pub same_end : (me : Name) (ss : List Statement) (i : ℕ) (rest : List Statement) → length ss ≤ i → lists_same me (drop i ss) rest
    ≡ (length rest == 0)
same_end me ss i rest h = ap (λ (s : Statements). is_same (spoken me s) (spoken me (statements rest))) (statements-past ss i h) ∙
    none_left me rest

module _ (me : Name) (ss : List Statement) (i : ℕ) (x : Statement) (within : i < length ss) (is : x ≡ get_or ss i x) where
  unfolded : (rest : List Statement) → lists_same me (drop i ss) rest ≡ is_same (spoken me (front x (statements (drop (i + 1) ss))))
      (spoken me (statements rest))
  unfolded rest = ap (λ (s : Statements). is_same (spoken me s) (spoken me (statements rest))) (statements-step ss i x within is)

  pub same_short : (rest : List Statement) → rest ≡ [] → lists_same me (drop i ss) rest ≡ false
  same_short rest e =
      unfolded rest ∙ ap (λ (r : List Statement). is_same (spoken me (front x (statements (drop (i + 1) ss)))) (spoken me (statements r))) e
      ∙ front_none me x (statements (drop (i + 1) ss))

  module _ (y : Statement) (rest after : List Statement) (parts : rest ≡ y ∷ after) where
    both_on : lists_same me (drop i ss) rest ≡ (is_same (spoken me (front x Nothing)) (spoken me (front y Nothing)) && lists_same me
        (drop (i + 1) ss) after)
    both_on =
        unfolded rest ∙ ap (λ (r : List Statement). is_same (spoken me (front x (statements (drop (i + 1) ss)))) (spoken me (statements r)))
        parts
        ∙ same-front me (statements (drop (i + 1) ss)) (statements after) x y

    pub same_later : true ≡ is_same (spoken me (front x Nothing)) (spoken me (front y Nothing)) → lists_same me (drop i ss) rest
        ≡ lists_same me (drop (i + 1) ss) after
    same_later e = both_on ∙ ap (λ (z : Bool). z && lists_same me (drop (i + 1) ss) after) (sym e)

    pub same_differs : false ≡ is_same (spoken me (front x Nothing)) (spoken me (front y Nothing)) → lists_same me (drop i ss) rest ≡ false
    same_differs e = both_on ∙ ap (λ (z : Bool). z && lists_same me (drop (i + 1) ss) after) (sym e)

-- ---- branches

none_branch : (me : Name) (ys : List (Row Statement)) → are_same (spoken_each me NoBranch) (spoken_each me (bodies ys)) ≡ (length ys == 0)
none_branch me [] = refl
none_branch me (y ∷ ys) = positive (length ys)

pub branches_end : (me : Name) (bs : List (Row Statement)) (i : ℕ) (rest : List (Row Statement)) → length bs ≤ i →
    branches_same me (drop i bs) rest ≡ (length rest == 0)
branches_end me bs i rest h = ap (λ (s : Branches). are_same (spoken_each me s) (spoken_each me (bodies rest))) (bodies-past bs i h) ∙
    none_branch me rest

module _ (me : Name) (bs : List (Row Statement)) (i : ℕ) (x : Row Statement) (within : i < length bs) (is : x ≡ get_or bs i x) where
  branches_unfolded : (rest : List (Row Statement)) → branches_same me (drop i bs) rest
      ≡ are_same (spoken_each me (Branch (statements x.items) (bodies (drop (i + 1) bs)))) (spoken_each me (bodies rest))
  branches_unfolded rest = ap (λ (s : Branches). are_same (spoken_each me s) (spoken_each me (bodies rest))) (bodies-step bs i x within is)

  pub branches_short : (rest : List (Row Statement)) → rest ≡ [] → branches_same me (drop i bs) rest ≡ false
  branches_short rest e =
      branches_unfolded rest ∙ ap (λ (r : List (Row Statement)). are_same
      (spoken_each me (Branch (statements x.items) (bodies (drop (i + 1) bs)))) (spoken_each me (bodies r))) e

  module _ (y : Row Statement) (rest after : List (Row Statement)) (parts : rest ≡ y ∷ after) where
    branches_on : branches_same me (drop i bs) rest ≡ (lists_same me x.items y.items && branches_same me (drop (i + 1) bs) after)
    branches_on =
        branches_unfolded rest ∙ ap (λ (r : List (Row Statement)). are_same
        (spoken_each me (Branch (statements x.items) (bodies (drop (i + 1) bs)))) (spoken_each me (bodies r))) parts

    pub branches_later : true ≡ lists_same me x.items y.items → branches_same me (drop i bs) rest ≡ branches_same me (drop (i + 1) bs) after
    branches_later e = branches_on ∙ ap (λ (z : Bool). z && branches_same me (drop (i + 1) bs) after) (sym e)

    pub branches_differ : false ≡ lists_same me x.items y.items → branches_same me (drop i bs) rest ≡ false
    branches_differ e = branches_on ∙ ap (λ (z : Bool). z && branches_same me (drop (i + 1) bs) after) (sym e)

-- ---- one statement and another

abbrev pub one_same : Name → Statement → Statement → Bool
one_same me x y = is_same (spoken me (front x Nothing)) (spoken me (front y Nothing))

module _ (me : Name) where
  -- each statement by what it is
  abbrev fronts_same : (Statements → Statements) → (Statements → Statements) → Bool
  fronts_same f g = is_same (spoken me (f Nothing)) (spoken me (g Nothing))

  pub alike : (x y : Statement) (f g : Statements → Statements) → front x ≡ f → front y ≡ g →
      one_same me x y ≡ is_same (spoken me (f Nothing)) (spoken me (g Nothing))
  alike x y f g e h = λ i. fronts_same (e i) (h i)

  pub Message-Message : (m n : Said) → one_same me (kinds.Message m) (kinds.Message n) ≡ same_message (message_of m) (message_of n)
  Message-Message m n = alike _ _ _ _ (front-Message m) (front-Message n) ∙ sym (and_true _)

  pub Message-Choice : (m : Said) (p : Place) (at : Name) (bs : Row (Row Statement)) → one_same me (kinds.Message m) (kinds.Choice p at bs)
      ≡ false
  Message-Choice m p at bs = alike _ _ _ _ (front-Message m) (front-Choice p at bs) ∙ not_said (bytes_eq at me) (message_of m) Done _ Done

  pub Message-Rec : (m : Said) (p : Place) (name : Name) (body : Row Statement) → one_same me (kinds.Message m) (kinds.Rec p name body)
      ≡ false
  Message-Rec m p name body = alike _ _ _ _ (front-Message m) (front-Rec p name body)

  pub Message-Continue : (m : Said) (p : Place) (name : Name) → one_same me (kinds.Message m) (kinds.Continue p name) ≡ false
  Message-Continue m p name = alike _ _ _ _ (front-Message m) (front-Continue p name)

  pub Choice-Message : (p : Place) (at : Name) (bs : Row (Row Statement)) (n : Said) → one_same me (kinds.Choice p at bs) (kinds.Message n)
      ≡ false
  Choice-Message p at bs n = alike _ _ _ _ (front-Choice p at bs) (front-Message n) ∙ said_not (bytes_eq at me) (message_of n) Done _ Done

  pub Choice-Rec : (p : Place) (at : Name) (bs : Row (Row Statement)) (q : Place) (name : Name) (body : Row Statement) →
      one_same me (kinds.Choice p at bs) (kinds.Rec q name body) ≡ false
  Choice-Rec p at bs q name body = alike _ _ _ _ (front-Choice p at bs) (front-Rec q name body) ∙ turned_not (bytes_eq at me) name _ Done _
      Done

  pub Choice-Continue : (p : Place) (at : Name) (bs : Row (Row Statement)) (q : Place) (name : Name) →
      one_same me (kinds.Choice p at bs) (kinds.Continue q name) ≡ false
  Choice-Continue p at bs q name = alike _ _ _ _ (front-Choice p at bs) (front-Continue q name) ∙ continued_not (bytes_eq at me) name Done _
      Done

  pub Rec-Message : (p : Place) (name : Name) (body : Row Statement) (n : Said) → one_same me (kinds.Rec p name body) (kinds.Message n)
      ≡ false
  Rec-Message p name body n = alike _ _ _ _ (front-Rec p name body) (front-Message n)

  pub Rec-Choice : (p : Place) (name : Name) (body : Row Statement) (q : Place) (at : Name) (bs : Row (Row Statement)) →
      one_same me (kinds.Rec p name body) (kinds.Choice q at bs) ≡ false
  Rec-Choice p name body q at bs = alike _ _ _ _ (front-Rec p name body) (front-Choice q at bs) ∙ not_turned (bytes_eq at me) name _ Done _
      Done

  pub Rec-Rec : (p : Place) (name : Name) (body : Row Statement) (q : Place) (other : Name) (inner : Row Statement) →
      one_same me (kinds.Rec p name body) (kinds.Rec q other inner) ≡ (bytes_eq name other && lists_same me body.items inner.items)
  Rec-Rec p name body q other inner =
      alike _ _ _ _ (front-Rec p name body) (front-Rec q other inner) ∙ ap (λ (z : Bool). bytes_eq name other && z)
      (sym (and_true (lists_same me body.items inner.items)))

  pub Rec-Continue : (p : Place) (name : Name) (body : Row Statement) (q : Place) (other : Name) →
      one_same me (kinds.Rec p name body) (kinds.Continue q other) ≡ false
  Rec-Continue p name body q other = alike _ _ _ _ (front-Rec p name body) (front-Continue q other)

  pub Continue-Message : (p : Place) (name : Name) (n : Said) → one_same me (kinds.Continue p name) (kinds.Message n) ≡ false
  Continue-Message p name n = alike _ _ _ _ (front-Continue p name) (front-Message n)

  pub Continue-Choice : (p : Place) (name : Name) (q : Place) (at : Name) (bs : Row (Row Statement)) →
      one_same me (kinds.Continue p name) (kinds.Choice q at bs) ≡ false
  Continue-Choice p name q at bs = alike _ _ _ _ (front-Continue p name) (front-Choice q at bs) ∙ not_continued (bytes_eq at me) name Done _
      Done

  pub Continue-Rec : (p : Place) (name : Name) (q : Place) (other : Name) (inner : Row Statement) →
      one_same me (kinds.Continue p name) (kinds.Rec q other inner) ≡ false
  Continue-Rec p name q other inner = alike _ _ _ _ (front-Continue p name) (front-Rec q other inner)

  pub Continue-Continue : (p : Place) (name : Name) (q : Place) (other : Name) →
      one_same me (kinds.Continue p name) (kinds.Continue q other) ≡ bytes_eq name other
  Continue-Continue p name q other = alike _ _ _ _ (front-Continue p name) (front-Continue q other) ∙ sym (and_true _)

  pub Message-Do : (m : Said) (p : Place) (name : Name) → one_same me (kinds.Message m) (kinds.Do p name) ≡ false
  Message-Do m p name = alike _ _ _ _ (front-Message m) (front-Do p name)

  pub Choice-Do : (p : Place) (at : Name) (bs : Row (Row Statement)) (q : Place) (name : Name) →
      one_same me (kinds.Choice p at bs) (kinds.Do q name) ≡ false
  Choice-Do p at bs q name = alike _ _ _ _ (front-Choice p at bs) (front-Do q name) ∙ gone_not (bytes_eq at me) name Done _ Done

  pub Rec-Do : (p : Place) (name : Name) (body : Row Statement) (q : Place) (other : Name) →
      one_same me (kinds.Rec p name body) (kinds.Do q other) ≡ false
  Rec-Do p name body q other = alike _ _ _ _ (front-Rec p name body) (front-Do q other)

  pub Continue-Do : (p : Place) (name : Name) (q : Place) (other : Name) → one_same me (kinds.Continue p name) (kinds.Do q other) ≡ false
  Continue-Do p name q other = alike _ _ _ _ (front-Continue p name) (front-Do q other)

  pub Do-Message : (p : Place) (name : Name) (n : Said) → one_same me (kinds.Do p name) (kinds.Message n) ≡ false
  Do-Message p name n = alike _ _ _ _ (front-Do p name) (front-Message n)

  pub Do-Choice : (p : Place) (name : Name) (q : Place) (at : Name) (bs : Row (Row Statement)) →
      one_same me (kinds.Do p name) (kinds.Choice q at bs) ≡ false
  Do-Choice p name q at bs = alike _ _ _ _ (front-Do p name) (front-Choice q at bs) ∙ not_gone (bytes_eq at me) name Done _ Done

  pub Do-Rec : (p : Place) (name : Name) (q : Place) (other : Name) (inner : Row Statement) →
      one_same me (kinds.Do p name) (kinds.Rec q other inner) ≡ false
  Do-Rec p name q other inner = alike _ _ _ _ (front-Do p name) (front-Rec q other inner)

  pub Do-Continue : (p : Place) (name : Name) (q : Place) (other : Name) → one_same me (kinds.Do p name) (kinds.Continue q other) ≡ false
  Do-Continue p name q other = alike _ _ _ _ (front-Do p name) (front-Continue q other)

  pub Do-Do : (p : Place) (name : Name) (q : Place) (other : Name) → one_same me (kinds.Do p name) (kinds.Do q other) ≡ bytes_eq name other
  Do-Do p name q other = alike _ _ _ _ (front-Do p name) (front-Do q other) ∙ sym (and_true _)

  -- two choices, each at the role or elsewhere
  pub Choice-Choice : (p : Place) (at : Name) (bs : Row (Row Statement)) (q : Place) (other : Name) (cs : Row (Row Statement)) →
      one_same me (kinds.Choice p at bs) (kinds.Choice q other cs)
      ≡ (same_truth (bytes_eq at me) (bytes_eq other me) && branches_same me bs.items cs.items)
  Choice-Choice p at bs q other cs = alike _ _ _ _ (front-Choice p at bs) (front-Choice q other cs) ∙ go (bytes_eq at me)
      (bytes_eq other me) (spoken_each me (bodies bs.items)) (spoken_each me (bodies cs.items))
    where
      go : (b c : Bool) (us vs : Told) → is_same (said_at b us Done) (said_at c vs Done) ≡ (same_truth b c && are_same us vs)
      go true true us vs = sym (and_true _)
      go true false us vs = refl
      go false true us vs = refl
      go false false us vs = sym (and_true _)

pub ruleset all_steps = (common_steps, same_later, same_differs, same_short, same_end)

pub ruleset in_steps = (common_steps, branches_later, branches_differ, branches_short, branches_end)
