-- What the view makes of each kind of statement.
use Rattle.std.proofs.Common.{◌≡◌, map, sym, ap, subst, ◌∙◌}
use Rattle.std.proofs.lemmas.Simd.{map-map}
use Rattle.mg_text.specs.Call.{Name}
use Rattle.mg_text.specs.Row.{Row}
use Rattle.mg_text.specs.declared.place.Place.{Place}
use Rattle.scr_tree.specs.declared.syntax.Message.{Message}
use Rattle.scr_tree.specs.declared.syntax.Statement.{Statement, fold-roll-Statement, roll-Statement, roll-out-Statement}
use Rattle.scr_tree.specs.declared.syntax.Statement.TheBlock.{shown-the_row-Statement-0, shown-the_row-Statement-Choice-2-1-1}
use Rattle.scr_tree.specs.declared.syntax.Statement.TheOpen.Statement-F.{Message as F-Message, Choice as F-Choice, Rec as F-Rec}
use Rattle.scr_tree.specs.declared.syntax.Statement.TheOpen.Statement-F.{Continue as F-Continue, Do as F-Do}
use Rattle.scr_tree.specs.declared.syntax.Statement.TheVariants.{Message as Said, Choice, Choice', Rec, Rec', Continue, Do, rolls-Message}
use Rattle.scr_tree.specs.declared.syntax.Statement.TheVariants.{rolls-Choice, rolls-Rec, rolls-Continue, rolls-Do, outs-Choice', outs-Rec'}
use Rattle.scr_tree.specs.Tree as tree
use Rattle.scr_tree.specs.View.{Front, front, layer, in_front, branches_of, statements}

pub front-Message : (m : Message) → front (Said m) ≡ tree.Says m
unfolding front
front-Message m = ap front (sym (rolls-Message m)) ∙ fold-roll-Statement Front layer (F-Message m)

pub front-Choice : (place : Place) (at : Name) (branches : Row (Row Statement)) → front (Choice place at branches) ≡ tree.Choice place at
    (branches_of (map (λ b. statements b.items) branches.items))
unfolding front
front-Choice place at branches =
    ap front (sym (rolls-Choice place at branches))
    ∙ fold-roll-Statement Front layer (F-Choice place at branches)
    ∙ ap (λ bs. tree.Choice place at (branches_of bs)) (map-map (λ b. in_front b.items) _ branches.items)

pub front-Rec : (place : Place) (name : Name) (body : Row Statement) → front (Rec place name body) ≡ tree.Rec place name
    (statements body.items)
unfolding front
front-Rec place name body = ap front (sym (rolls-Rec place name body)) ∙ fold-roll-Statement Front layer (F-Rec place name body)

pub front-Continue : (place : Place) (name : Name) → front (Continue place name) ≡ tree.Continue place name
unfolding front
front-Continue place name = ap front (sym (rolls-Continue place name)) ∙ fold-roll-Statement Front layer (F-Continue place name)

pub front-Do : (place : Place) (name : Name) → front (Do place name) ≡ tree.Do place name
unfolding front
front-Do place name = ap front (sym (rolls-Do place name)) ∙ fold-roll-Statement Front layer (F-Do place name)

-- the kept form of a choice and of a rec, as the variants write them
Choice'-is : (place : Place) (at : Name) (shape : _) (rows : _) → Choice' place at shape rows ≡ Choice place at
    (shown-the_row-Statement-Choice-2-1-1 shape rows)
Choice'-is place at shape rows = sym (roll-out-Statement (Choice' place at shape rows)) ∙ ap roll-Statement
    (outs-Choice' place at shape rows) ∙ rolls-Choice place at _

Rec'-is : (place : Place) (name : Name) (shape : _) (rows : _) → Rec' place name shape rows ≡ Rec place name
    (shown-the_row-Statement-0 shape rows)
Rec'-is place name shape rows = sym (roll-out-Statement (Rec' place name shape rows)) ∙ ap roll-Statement (outs-Rec' place name shape rows)
    ∙ rolls-Rec place name _

-- what holds of each kind of statement holds of every statement
pub each_kind : (P : Statement → Type 0) → ((m : Message) → P (Said m)) → ((place : Place) (at : Name) (branches : Row (Row Statement)) →
    P (Choice place at branches)) →
    ((place : Place) (name : Name) (body : Row Statement) → P (Rec place name body)) →
    ((place : Place) (name : Name) → P (Continue place name)) →
    ((place : Place) (name : Name) → P (Do place name)) → (s : Statement) → P s
each_kind P said choice recursion continued goes_on (Said m) = said m
each_kind P said choice recursion continued goes_on (Choice' place at shape rows) = subst P (sym (Choice'-is place at shape rows))
    (choice place at _)
each_kind P said choice recursion continued goes_on (Rec' place name shape rows) = subst P (sym (Rec'-is place name shape rows))
    (recursion place name _)
each_kind P said choice recursion continued goes_on (Continue place name) = continued place name
each_kind P said choice recursion continued goes_on (Do place name) = goes_on place name

pub ruleset fronts = (front-Message, front-Choice, front-Rec, front-Continue, front-Do)
