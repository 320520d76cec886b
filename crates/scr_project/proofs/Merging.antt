-- The steps of merging: branches one by one.
use Rattle.std.proofs.Common.{◌≡◌, ℕ, ◌+◌, ◌<◌, ◌≤◌, length, get_or, drop, List, [], ◌∷◌, Bool, true, false, ◌&&◌, not, if◌then◌else◌}
use Rattle.std.proofs.Common.{Option, Some, None, refl, sym, ap, ◌∙◌}
use Rattle.std.specs.Str.{bytes_eq}
use Rattle.std.proofs.lemmas.Grind.{common_steps}
use Rattle.mg_text.specs.Call.{Name}
use Rattle.mg_text.specs.Row.{Row}
use Rattle.mg_text.specs.declared.place.Place.{Place}
use Rattle.scr_tree.specs.declared.syntax.Direction.{Direction}
use Rattle.scr_tree.specs.declared.syntax.Direction.TheVariants as directions
use Rattle.scr_tree.specs.declared.syntax.Message.{Message as Said}
use Rattle.scr_tree.specs.declared.syntax.Statement.{Statement}
use Rattle.scr_tree.specs.declared.syntax.Statement.TheVariants as kinds
use Rattle.scr_tree.specs.Tree.{Statements, Nothing, Says, Choice, Rec, Continue, Branches, NoBranch, Branch}
use Rattle.scr_tree.specs.View.{front, statements, bodies}
use Rattle.scr_tree.proofs.Behind.{bodies-step, bodies-past}
use Rattle.scr_tree.proofs.ViewLemmas.{front-Message, front-Choice, front-Rec, front-Continue, front-Do}
use Rattle.scr_judge.specs.inner.Seen.{Names, none, with_name}
use Rattle.scr_global.specs.Projecting.{is_same, all_same, mapped, tells_apart, first_peer}
use Rattle.scr_global.specs.Texts.{spoken, spoken_each, behind, merged_text}
use Rattle.scr_project.proofs.Labels.{told_by, telling_is}
use Rattle.scr_project.specs.inner.Merge.{agreed, telling, taken, first_taken, tells}
use Rattle.scr_global_tree.proofs.Appends.{behind_nothing}

-- ---- all the same

pub agreed-step : (me : Name) (b : Statements) (bs : List (Row Statement)) (i : ℕ) (x : Row Statement) → i < length bs → x ≡ get_or bs i x →
    all_same (spoken me b) (spoken_each me (bodies (drop i bs))) ≡
    (is_same (spoken me (statements x.items)) (spoken me b) && all_same (spoken me b) (spoken_each me (bodies (drop (i + 1) bs))))
agreed-step me b bs i x within is = ap (λ (s : Branches). all_same (spoken me b) (spoken_each me s)) (bodies-step bs i x within is)

pub agreed-past : (me : Name) (b : Statements) (bs : List (Row Statement)) (i : ℕ) → length bs ≤ i →
    all_same (spoken me b) (spoken_each me (bodies (drop i bs))) ≡ true
agreed-past me b bs i h = ap (λ (s : Branches). all_same (spoken me b) (spoken_each me s)) (bodies-past bs i h)

-- ---- what is merged

pub merged_agreed : (me : Name) (place : Place) (b : Statements) (more : Branches) → agreed me (Branch b more) ≡ true →
    merged_text me place (Branch b more) Nothing ≡ Some b
merged_agreed me place b more e =
    ap (λ (z : Bool). if z then Some (behind b Nothing) else (if tells_apart (first_peer (spoken me b)) (spoken_each me (Branch b more))
    then Some (Choice place (first_peer (spoken me b)) (Branch b more) Nothing) else None)) e
    ∙ ap (λ (s : Statements). Some s) (behind_nothing b)

-- a choice at the role that tells
abbrev pub told_at : Place → Branches → Option Name → Option Statements
told_at place bs None = None
told_at place bs (Some at) = Some (Choice place at bs Nothing)

pub merged_told : (me : Name) (place : Place) (bs : Branches) → agreed me bs ≡ false → merged_text me place bs Nothing ≡ told_at place bs
    (telling me bs)
merged_told me place NoBranch e = refl
merged_told me place (Branch b more) e =
    ap (λ (z : Bool). if z then Some (behind b Nothing) else (if apart then Some (Choice place peer (Branch b more) Nothing) else None)) e ∙
    go apart
  where
    peer : Name
    peer = first_peer (spoken me b)

    apart : Bool
    apart = tells_apart peer (spoken_each me (Branch b more))

    go : (z : Bool) → (if z then Some (Choice place peer (Branch b more) Nothing) else None) ≡ told_at place (Branch b more)
        (if z then Some peer else None)
    go true = refl
    go false = refl

-- ---- first messages

pub taken-Message : (m : Said) (rest : Statements) → first_taken (front (kinds.Message m) rest) ≡ taken m
taken-Message m rest = ap (λ (f : Statements → Statements). first_taken (f rest)) (front-Message m)

pub taken-Choice : (p : Place) (at : Name) (bs : Row (Row Statement)) (rest : Statements) → first_taken (front (kinds.Choice p at bs) rest)
    ≡ None
taken-Choice p at bs rest = ap (λ (f : Statements → Statements). first_taken (f rest)) (front-Choice p at bs)

pub taken-Rec : (p : Place) (name : Name) (body : Row Statement) (rest : Statements) → first_taken (front (kinds.Rec p name body) rest)
    ≡ None
taken-Rec p name body rest = ap (λ (f : Statements → Statements). first_taken (f rest)) (front-Rec p name body)

pub taken-Continue : (p : Place) (name : Name) (rest : Statements) → first_taken (front (kinds.Continue p name) rest) ≡ None
taken-Continue p name rest = ap (λ (f : Statements → Statements). first_taken (f rest)) (front-Continue p name)

pub taken-Do : (p : Place) (name : Name) (rest : Statements) → first_taken (front (kinds.Do p name) rest) ≡ None
taken-Do p name rest = ap (λ (f : Statements → Statements). first_taken (f rest)) (front-Do p name)

-- what is left of branches, by the message that the first of them takes
abbrev pub tells_by : Name → Names → Branches → Option Said → Bool
tells_by peer has more None = false
tells_by peer has more (Some m) = bytes_eq m.peer peer && (not (has m.label) && tells peer (with_name m.label has) more)

by_is : (peer : Name) (has : Names) (more : Branches) (o : Option Said) →
    elim o as (λ _. Bool) [ None ↦ false | Some m ↦ bytes_eq m.peer peer && (not (has m.label) && tells peer (with_name m.label has) more) ]
    ≡ tells_by peer has more o
by_is peer has more None = refl
by_is peer has more (Some m) = refl

pub tells-step : (peer : Name) (has : Names) (bs : List (Row Statement)) (i : ℕ) (x : Row Statement) → i < length bs → x ≡ get_or bs i x →
    tells peer has (bodies (drop i bs)) ≡ tells_by peer has (bodies (drop (i + 1) bs)) (first_taken (statements x.items))
tells-step peer has bs i x within is =
    ap (tells peer has) (bodies-step bs i x within is) ∙ by_is peer has (bodies (drop (i + 1) bs)) (first_taken (statements x.items))

pub tells-past : (peer : Name) (has : Names) (bs : List (Row Statement)) (i : ℕ) → length bs ≤ i → tells peer has (bodies (drop i bs))
    ≡ true
tells-past peer has bs i h = ap (tells peer has) (bodies-past bs i h)

-- the peer that tells, by the first message of the first branch
pub peer_told : (me : Name) (bs : List (Row Statement)) (first : Row Statement) (rest : List (Row Statement)) (o : Option Said) (m : Said)
    (b : Bool) → bs ≡ first ∷ rest →
    o ≡ first_taken (statements first.items) → o ≡ Some m → b ≡ tells m.peer none (bodies bs) → telling me (bodies bs)
    ≡ (if b then Some m.peer else None)
peer_told me bs first rest o m b parts takes is told =
    ap (λ (l : List (Row Statement)). telling me (bodies l)) parts
    ∙ telling_is me (statements first.items) (bodies rest)
    ∙ ap (told_by (Branch (statements first.items) (bodies rest))) (sym takes ∙ is)
    ∙ ap (λ (z : Bool). if z then Some m.peer else None)
    (sym (told ∙ ap (λ (l : List (Row Statement)). tells m.peer none (bodies l)) parts))

pub none_told : (me : Name) (bs : List (Row Statement)) (first : Row Statement) (rest : List (Row Statement)) (o : Option Said) →
    bs ≡ first ∷ rest → o ≡ first_taken (statements first.items) → o ≡ None →
    telling me (bodies bs) ≡ None
none_told me bs first rest o parts takes is =
    ap (λ (l : List (Row Statement)). telling me (bodies l)) parts
    ∙ telling_is me (statements first.items) (bodies rest)
    ∙ ap (told_by (Branch (statements first.items) (bodies rest))) (sym takes ∙ is)

pub ruleset merging = (common_steps, merged_agreed, merged_told, front-Choice)

pub ruleset agreeing = (common_steps, agreed-step, agreed-past)

pub ruleset telling_steps = (common_steps, tells-step, tells-past)

pub ruleset takings = (common_steps, taken-Message, taken-Choice, taken-Rec, taken-Continue, taken-Do)
