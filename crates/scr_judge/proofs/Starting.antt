-- What comes first in the first protocol of several.
use Rattle.std.proofs.Common.{◌≡◌, ⊎_elim, inl, inr, ℕ, suc, ◌+◌, ◌<◌, arith, map, length, get_or, drop, Bool, true, false, ◌||◌, List, []}
use Rattle.std.proofs.Common.{◌∷◌, ◌++◌, Option, Some, None, refl, sym, ap, ◌∙◌, true≢false}
use Rattle.std.specs.List.{list_any}
use Rattle.std.proofs.lemmas.Grind.{common_steps}
use Rattle.mg_text.specs.Call.{Name}
use Rattle.mg_text.specs.Row.{Row}
use Rattle.mg_text.specs.declared.place.Place.{Place}
use Rattle.scr_tree.specs.declared.syntax.Statement.{Statement}
use Rattle.scr_tree.specs.declared.syntax.Statement.TheVariants as kinds
use Rattle.scr_tree.specs.Tree.{Statements, Nothing, Says, Choice, Rec, Continue, Do}
use Rattle.scr_tree.specs.Spots.{Past, Opens, Way, Spot, spot, spots}
use Rattle.scr_tree.specs.View.{front, statements}
use Rattle.mg_read.specs.Culprit.{culprit}
use Rattle.mg_read.specs.First.{Judged, clean, here, later}
use Rattle.scr_tree.specs.declared.written.WrittenPart.{WrittenPart as Part}
use Rattle.scr_tree.specs.Written.{WrittenPart, part_written}
use Rattle.scr_tree.specs.Going.{is_deed, has_deed, first_do, first_of_several, StartsWithDo}
use Rattle.scr_tree.proofs.ViewLemmas.{front-Message, front-Choice, front-Rec, front-Continue, front-Do}
use Rattle.scr_tree.proofs.Behind.{each_front, statements-step, statements-past}
use Rattle.scr_judge.specs.declared.opening.First.{First as KeptFirst}
use Rattle.scr_judge.specs.declared.opening.First.TheVariants as firsts
use Rattle.scr_judge.specs.inner.Gone.{First, Neither, Deed, Goes, first_or, first_of, acts}
use Rattle.scr_judge.specs.inner.View.{first_seen}

-- ---- whether there is a message or a choice

pub or_false : (b : Bool) → b ≡ (b || false)
or_false true = refl
or_false false = refl

any_append : (xs ys : List Spot) → list_any is_deed (xs ++ ys) ≡ (list_any is_deed xs || list_any is_deed ys)
any_append [] ys = refl
any_append (x ∷ xs) ys = or_first (is_deed x) _ _ _ (any_append xs ys)
  where
    or_first : (b p q r : Bool) → p ≡ (q || r) → (b || p) ≡ ((b || q) || r)
    or_first true p q r e = refl
    or_first false p q r e = e

pub acts_exact : (way : Way) (ss : Statements) → list_any is_deed (spots way ss) ≡ acts ss
acts_exact way Nothing = refl
acts_exact way (Says m rest) = refl
acts_exact way (Choice p at bs rest) = refl
acts_exact way (Rec p name body rest) =
    any_append (spots (Opens name ∷ way) body) (spots (Past (Rec p name body Nothing) ∷ way) rest)
    ∙ ap (λ b. b || list_any is_deed (spots (Past (Rec p name body Nothing) ∷ way) rest)) (acts_exact (Opens name ∷ way) body)
    ∙ ap (λ b. acts body || b) (acts_exact (Past (Rec p name body Nothing) ∷ way) rest)
acts_exact way (Continue p name rest) = acts_exact (Past (Continue p name Nothing) ∷ way) rest
acts_exact way (Do p name rest) = acts_exact (Past (Do p name Nothing) ∷ way) rest

-- ---- what comes first

-- where that is a `do`
abbrev pub place_in : First → Option Place
place_in Neither = None
place_in Deed = None
place_in (Goes place) = Some place

-- the first of two rows of spots
abbrev pub first_row : List Spot → First
first_row [] = Neither
first_row (spot way Nothing ∷ more) = first_row more
first_row (spot way (Says m rest) ∷ more) = Deed
first_row (spot way (Choice place at branches rest) ∷ more) = Deed
first_row (spot way (Rec place name body rest) ∷ more) = first_row more
first_row (spot way (Continue place name rest) ∷ more) = first_row more
first_row (spot way (Do place name rest) ∷ more) = Goes place

pub row_place : (xs : List Spot) → first_do xs ≡ place_in (first_row xs)
row_place [] = refl
row_place (spot way Nothing ∷ more) = row_place more
row_place (spot way (Says m rest) ∷ more) = refl
row_place (spot way (Choice place at branches rest) ∷ more) = refl
row_place (spot way (Rec place name body rest) ∷ more) = row_place more
row_place (spot way (Continue place name rest) ∷ more) = row_place more
row_place (spot way (Do place name rest) ∷ more) = refl

row_append : (xs ys : List Spot) → first_row (xs ++ ys) ≡ first_or (first_row xs) (first_row ys)
row_append [] ys = refl
row_append (spot way Nothing ∷ more) ys = row_append more ys
row_append (spot way (Says m rest) ∷ more) ys = refl
row_append (spot way (Choice place at branches rest) ∷ more) ys = refl
row_append (spot way (Rec place name body rest) ∷ more) ys = row_append more ys
row_append (spot way (Continue place name rest) ∷ more) ys = row_append more ys
row_append (spot way (Do place name rest) ∷ more) ys = refl

pub first_exact : (way : Way) (ss : Statements) → first_row (spots way ss) ≡ first_of ss
first_exact way Nothing = refl
first_exact way (Says m rest) = refl
first_exact way (Choice p at bs rest) = refl
first_exact way (Rec p name body rest) =
    row_append (spots (Opens name ∷ way) body) (spots (Past (Rec p name body Nothing) ∷ way) rest)
    ∙ ap (λ f. first_or f (first_row (spots (Past (Rec p name body Nothing) ∷ way) rest))) (first_exact (Opens name ∷ way) body)
    ∙ ap (first_or (first_of body)) (first_exact (Past (Rec p name body Nothing) ∷ way) rest)
first_exact way (Continue p name rest) = first_exact (Past (Continue p name Nothing) ∷ way) rest
first_exact way (Do p name rest) = refl

pub do_place : (ss : Statements) → first_do (spots [] ss) ≡ place_in (first_of ss)
do_place ss = row_place (spots [] ss) ∙ ap place_in (first_exact [] ss)

-- ---- what is found

module _ (p : Part) (ss : Statements) (same : ss ≡ statements p.body.items) where
  -- there is no message and no choice
  pub no_deed : acts ss ≡ false → Judged StartsWithDo (part_written p ∷ []) (Some (culprit p.place p.name))
  no_deed e = here (inl (refl, acts_exact [] (statements p.body.items) ∙ ap acts (sym same) ∙ e))

  module _ (deed : acts ss ≡ true) where
    acted : has_deed (statements p.body.items) ≡ true
    acted = acts_exact [] (statements p.body.items) ∙ ap acts (sym same) ∙ deed

    placed : first_do (spots [] (statements p.body.items)) ≡ place_in (first_of ss)
    placed = do_place (statements p.body.items) ∙ ap (λ t. place_in (first_of t)) (sym same)

    -- a `do` stands before them all
    pub do_first : (place : Place) → first_of ss ≡ Goes place → Judged StartsWithDo (part_written p ∷ []) (Some (culprit place p.name))
    do_first place e = here (inr (place, refl, acted, placed ∙ ap place_in e))

    -- none does
    pub acts_first : place_in (first_of ss) ≡ None → Judged StartsWithDo (part_written p ∷ []) None
    acts_first e = later (λ c x. ⊎_elim (λ none. true≢false (sym acted ∙ none.1))
        (λ goes. let both : Some goes.0 ≡ None = sym goes.3 ∙ (placed ∙ e) in cc) x) clean

-- ---- one statement, and those behind it

pub or_neither : (f : First) → f ≡ first_or f Neither
or_neither Neither = refl
or_neither Deed = refl
or_neither (Goes place) = refl

acts-front : (s : Statement) (rest : Statements) → acts (front s rest) ≡ (acts (front s Nothing) || acts rest)
acts-front s rest =
    each_front (λ f. acts (f rest) ≡ (acts (f Nothing) || acts rest)) (λ m. refl) (λ p at bs. refl)
    (λ p name body. ap (λ b. b || acts rest) (or_false (acts body))) (λ p name. refl) (λ p name. refl) s

first-front : (s : Statement) (rest : Statements) → first_of (front s rest) ≡ first_or (first_of (front s Nothing)) (first_of rest)
first-front s rest =
    each_front (λ f. first_of (f rest) ≡ first_or (first_of (f Nothing)) (first_of rest)) (λ m. refl) (λ p at bs. refl)
    (λ p name body. ap (λ f. first_or f (first_of rest)) (or_neither (first_of body))) (λ p name. refl) (λ p name. refl) s

module _ (ss : List Statement) (i : ℕ) (x : Statement) (within : i < length ss) (is : x ≡ get_or ss i x) where
  pub acts-step : acts (statements (drop i ss)) ≡ (acts (front x Nothing) || acts (statements (drop (i + 1) ss)))
  acts-step = ap acts (statements-step ss i x within is) ∙ acts-front x _

  pub first-step : first_of (statements (drop i ss)) ≡ first_or (first_of (front x Nothing)) (first_of (statements (drop (i + 1) ss)))
  first-step = ap first_of (statements-step ss i x within is) ∙ first-front x _

  module _ (r : KeptFirst) (found : first_seen r ≡ first_of (front x Nothing)) where
    -- nothing comes first in this statement
    pub passed_neither : r ≡ firsts.Neither → first_of (statements (drop i ss)) ≡ first_of (statements (drop (i + 1) ss))
    passed_neither e = first-step ∙ ap (λ f. first_or f (first_of (statements (drop (i + 1) ss)))) (sym found ∙ ap first_seen e)

    -- something does
    pub met_deed : r ≡ firsts.Deed → first_seen r ≡ first_of (statements (drop i ss))
    met_deed e = ap first_seen e ∙ sym (first-step ∙ ap (λ f. first_or f (first_of (statements (drop (i + 1) ss))))
        (sym found ∙ ap first_seen e))

    pub met_do : (place : Place) → r ≡ firsts.Goes place → first_seen r ≡ first_of (statements (drop i ss))
    met_do place e = ap first_seen e ∙ sym (first-step ∙ ap (λ f. first_or f (first_of (statements (drop (i + 1) ss))))
        (sym found ∙ ap first_seen e))

-- one protocol stands alone
pub one_alone : (p : WrittenPart) (ps now : List Part) → now ≡ ps → length now ≡ 0 →
    Judged StartsWithDo (first_of_several p (map part_written ps)) None
one_alone p [] now e h = clean
one_alone p (q ∷ qs) now e h = absurd (let f : suc (length qs) ≡ 0 = sym (ap length e) ∙ h in omega (arith, f))

pub or-or : (a b d : Bool) → ((a || b) || d) ≡ (a || (b || d))
or-or true b d = refl
or-or false b d = refl

pub acts-Rec : (p : _) (name : Name) (body : Row Statement) → acts (front (kinds.Rec p name body) Nothing) ≡ acts (statements body.items)
acts-Rec p name body = ap (λ f. acts (f Nothing)) (front-Rec p name body) ∙ sym (or_false (acts (statements body.items)))

pub first-Rec : (p : _) (name : Name) (body : Row Statement) → first_of (front (kinds.Rec p name body) Nothing)
    ≡ first_of (statements body.items)
first-Rec p name body = ap (λ f. first_of (f Nothing)) (front-Rec p name body) ∙ sym (or_neither (first_of (statements body.items)))

pub ruleset act_steps = (common_steps, acts-step, statements-past, or-or, or_false)

pub ruleset act_alone = (common_steps, acts-Rec, front-Message, front-Choice, front-Continue, front-Do)

pub ruleset first_steps = (common_steps, first-step, statements-past)

pub ruleset first_alone = (common_steps, first-Rec, front-Message, front-Choice, front-Continue, front-Do)
