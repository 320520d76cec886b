-- The step of each loop that lays out.
use Rattle.std.proofs.Common.{Bool, ◌≡◌, ◌≢◌, ℕ, suc, ◌+◌, ◌<◌, ◌≤◌, length, get_or, drop, List, [], ◌∷◌, ◌++◌, map, reverse, refl, sym, ap}
use Rattle.std.proofs.Common.{subst, ◌∙◌, add-one}
use Rattle.std.specs.Prelude.{Option}
use Rattle.std.specs.Str.{bytes_eq}
use Rattle.std.proofs.lemmas.List.{at_drop_more, at_drop_all, map-append, length-map, reverse-append, length-reverse}
use Rattle.std.proofs.lemmas.Grind.{common_steps}
use Rattle.mg_text.specs.Call.{Name}
use Rattle.mg_text.specs.Row.{Row}
use Rattle.mg_text.specs.declared.place.Place.{Place}
use Rattle.scr_tree.specs.declared.syntax.Message.{Message as Said}
use Rattle.scr_tree.specs.declared.syntax.Statement.{Statement}
use Rattle.scr_tree.specs.declared.syntax.Statement.TheVariants as kinds
use Rattle.scr_tree.specs.declared.syntax.Part.{Part as Written}
use Rattle.scr_tree.specs.Tree.{other, Statements, Nothing, Says, Choice, Rec, Continue, Do, Branches, NoBranch, Branch}
use Rattle.scr_tree.specs.View.{Front, front, statements, part_of}
use Rattle.scr_tree.proofs.ViewLemmas.{each_kind, front-Message, front-Choice, front-Rec, front-Continue, front-Do}
use Rattle.scr_trace.specs.declared.arrow.Arrow.{Arrow}
use Rattle.scr_trace.specs.declared.arrow.Exits.{Exits}
use Rattle.scr_trace.specs.inner.Laying.{Work, Known, Gathered, lay, lay_in, branch_laid, part_laid, parts_laid, said, opened, closed}
use Rattle.scr_trace.specs.inner.Laying.{chosen, gathering, hop_named, hop_to, joined}
use Rattle.scr_trace.specs.inner.View.{draft_of, drafts_of, cell_of, cells_of, bodies}

-- what holds of each statement in front of others holds of each that a program has
pub each_front : (P : Front → Type 0) → ((m : _) → P (Says m)) → ((p : _) (at : Name) (bs : Branches) → P (Choice p at bs)) →
    ((p : _) (name : Name) (body : Statements) → P (Rec p name body)) → ((p : _) (name : Name) → P (Continue p name)) →
    ((p : _) (name : Name) → P (Do p name)) →
    (s : Statement) → P (front s)
each_front P said choice recursion continued goes_on =
    each_kind (λ s. P (front s)) (λ m. subst P (sym (front-Message m)) (said m)) (λ p at bs. subst P (sym (front-Choice p at bs))
    (choice p at _))
    (λ p name body. subst P (sym (front-Rec p name body)) (recursion p name _)) (λ p name. subst P (sym (front-Continue p name))
    (continued p name))
    (λ p name. subst P (sym (front-Do p name)) (goes_on p name))

module _ (me : Name) (entry : Name → Option ℕ) (around : List Known) (w : Work) where
  pub lay-front : (s : Statement) (rest : Statements) → lay me entry around w (front s rest) ≡ lay me entry around
      (lay me entry around w rest) (front s Nothing)
  lay-front s rest =
      each_front (λ f. lay me entry around w (f rest) ≡ lay me entry around (lay me entry around w rest) (f Nothing)) (λ m. refl)
      (λ p at bs. refl) (λ p name body. refl) (λ p name. refl) (λ p name. refl) s

  -- a statement alone
  pub lay-Message : (m : Said) → lay me entry around w (front (kinds.Message m) Nothing) ≡ said m w
  lay-Message m = ap (λ f. lay me entry around w (f Nothing)) (front-Message m)

  pub lay-Choice : (p : Place) (at : Name) (bs : Row (Row Statement)) →
      lay me entry around w (front (kinds.Choice p at bs) Nothing) ≡ chosen (bytes_eq at me)
      (lay_in me entry around (bytes_eq at me) w.next (gathering w) (bodies bs.items))
  lay-Choice p at bs = ap (λ f. lay me entry around w (f Nothing)) (front-Choice p at bs)

  pub lay-Rec : (p : Place) (name : Name) (body : Row Statement) →
      lay me entry around w (front (kinds.Rec p name body) Nothing) ≡ closed (length w.loops)
      (lay me entry (record { name = name; number = length w.loops } ∷ around) (opened w) (statements body.items))
  lay-Rec p name body = ap (λ f. lay me entry around w (f Nothing)) (front-Rec p name body)

  pub lay-Continue : (p : Place) (name : Name) → lay me entry around w (front (kinds.Continue p name) Nothing)
      ≡ record w { next = hop_named name around }
  lay-Continue p name = ap (λ f. lay me entry around w (f Nothing)) (front-Continue p name)

  pub lay-Do : (p : Place) (name : Name) → lay me entry around w (front (kinds.Do p name) Nothing) ≡ record w { next = hop_to (entry name) }
  lay-Do p name = ap (λ f. lay me entry around w (f Nothing)) (front-Do p name)

  -- a branch
  pub branch_said : (branch rest : List Statement) (s : Statement) (self : Bool) (m : Said) (g : Gathered) (v : Work) → branch ≡ s ∷ rest →
      s ≡ kinds.Message m → v ≡ lay me entry around g.work (statements rest) →
      joined self m (record { work = v; drafts = g.drafts }) ≡ branch_laid me entry self around (statements branch) g
  branch_said branch rest s self m g v is said_is laid =
      ap (λ x. joined self m (record { work = x; drafts = g.drafts })) laid
      ∙ sym (ap (λ ss. branch_laid me entry self around (statements ss) g) is
      ∙ ap (λ x. branch_laid me entry self around (front x (statements rest)) g) said_is
      ∙ ap (λ f. branch_laid me entry self around (f (statements rest)) g) (front-Message m))

  other_alone : (rest : Statements) (self : Bool) (g : Gathered) (s : Statement) → ((m : Said) → s ≢ kinds.Message m) →
      branch_laid me entry self around (front s rest) g ≡ g
  other_alone rest self g s none =
      each_kind (λ x. ((m : Said) → x ≢ kinds.Message m) → branch_laid me entry self around (front x rest) g ≡ g)
      (λ m h. absurd (h m refl))
      (λ p at bs h. ap (λ f. branch_laid me entry self around (f rest) g) (front-Choice p at bs))
      (λ p name body h. ap (λ f. branch_laid me entry self around (f rest) g) (front-Rec p name body))
      (λ p name h. ap (λ f. branch_laid me entry self around (f rest) g) (front-Continue p name))
      (λ p name h. ap (λ f. branch_laid me entry self around (f rest) g) (front-Do p name))
      s none

  pub branch_other : (branch rest : List Statement) (s : Statement) (self : Bool) (g : Gathered) → branch ≡ s ∷ rest →
      ((m : Said) → s ≢ kinds.Message m) →
      g ≡ branch_laid me entry self around (statements branch) g
  branch_other branch rest s self g is none =
      sym (ap (λ ss. branch_laid me entry self around (statements ss) g) is ∙ other_alone (statements rest) self g s none)

  -- the step of a walk over statements, from the last on
  module _ (ss : List Statement) (i : ℕ) (x : Statement) (within : i < length ss) (is : x ≡ get_or ss i x) where
    statements-step : statements (drop i ss) ≡ front x (statements (drop (i + 1) ss))
    statements-step = at_drop_more statements ss i x within ∙ ap (λ y. front y (statements (drop (i + 1) ss))) (sym is)

    pub lay-step : lay me entry around w (statements (drop i ss)) ≡ lay me entry around
        (lay me entry around w (statements (drop (i + 1) ss))) (front x Nothing)
    lay-step = ap (lay me entry around w) statements-step ∙ lay-front x _

  pub lay-past : (ss : List Statement) (i : ℕ) → length ss ≤ i → lay me entry around w (statements (drop i ss)) ≡ w
  lay-past ss i h = at_drop_all (λ r. lay me entry around w (statements r)) ss i h

-- the branch at an index, and those behind it
pub bodies-step : (bs : List (Row Statement)) (i : ℕ) (x : Row Statement) → i < length bs → x ≡ get_or bs i x →
    bodies (drop i bs) ≡ Branch (statements x.items) (bodies (drop (i + 1) bs))
bodies-step bs i x within is = at_drop_more bodies bs i x within ∙ ap (λ y. Branch (statements y.items) (bodies (drop (i + 1) bs))) (sym is)

pub bodies-past : (bs : List (Row Statement)) (i : ℕ) → length bs ≤ i → bodies (drop i bs) ≡ NoBranch
bodies-past bs i h = at_drop_all bodies bs i h

-- one more element at the end is the first from the end on
pub drafts-push : (arrows : List Arrow) (a : Arrow) → drafts_of (arrows ++ a ∷ []) ≡ draft_of a ∷ drafts_of arrows
drafts-push arrows a = ap reverse (map-append draft_of arrows (a ∷ [])) ∙ reverse-append (map draft_of arrows) (draft_of a ∷ [])

pub cells-push : (exits : List Exits) (e : Exits) → cells_of (exits ++ e ∷ []) ≡ cell_of e ∷ cells_of exits
cells-push exits e = ap reverse (map-append cell_of exits (e ∷ [])) ∙ reverse-append (map cell_of exits) (cell_of e ∷ [])

pub cells-length : (exits : List Exits) → length (cells_of exits) ≡ length exits
cells-length exits = length-reverse (map cell_of exits) ∙ length-map exits cell_of

pub ruleset all_steps = (common_steps, lay-step, lay-past)

pub ruleset alone = (common_steps, lay-Message, lay-Choice, lay-Rec, lay-Continue, lay-Do)

pub ruleset in_steps = (common_steps, bodies-step, bodies-past)

pub ruleset pushes = (common_steps, drafts-push, cells-push, cells-length, add-one)

-- a protocol at an index, in front of those behind it
module _ (me : Name) (entry : Name → Option ℕ) (w : Work) where
  pub parts-step : (ps : List Written) (i : ℕ) (x : Written) → i < length ps → x ≡ get_or ps i x →
      parts_laid me entry (map other (map part_of (drop i ps))) w ≡ part_laid me entry (statements x.body.items)
      (parts_laid me entry (map other (map part_of (drop (i + 1) ps))) w)
  parts-step ps i x within is =
      at_drop_more (λ xs. parts_laid me entry (map other (map part_of xs)) w) ps i x within
      ∙ ap (λ (y : Written). part_laid me entry (statements y.body.items)
      (parts_laid me entry (map other (map part_of (drop (i + 1) ps))) w)) (sym is)

  pub parts-past : (ps : List Written) (i : ℕ) → length ps ≤ i → parts_laid me entry (map other (map part_of (drop i ps))) w ≡ w
  parts-past ps i h = at_drop_all (λ xs. parts_laid me entry (map other (map part_of xs)) w) ps i h

pub ruleset part_steps = (common_steps, parts-step, parts-past)
