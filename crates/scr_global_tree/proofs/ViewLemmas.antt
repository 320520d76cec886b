-- What the view makes of each kind of statement.
use Rattle.std.proofs.Common.{◌≡◌, map, sym, ap, subst, ◌∙◌}
use Rattle.std.proofs.lemmas.Simd.{map-map}
use Rattle.mg_text.specs.Call.{Name}
use Rattle.mg_text.specs.Row.{Row}
use Rattle.mg_text.specs.declared.place.Place.{Place}
use Rattle.scr_tree.specs.declared.syntax.Payload.{Payload}
use Rattle.scr_global_tree.specs.declared.statement.GStatement.{GStatement, fold-roll-GStatement, roll-GStatement, roll-out-GStatement}
use Rattle.scr_global_tree.specs.declared.statement.GStatement.TheBlock.{shown-the_row-GStatement-0, shown-the_row-GStatement-Choice-2-1-1}
use Rattle.scr_global_tree.specs.declared.statement.GStatement.TheOpen.GStatement-F.{Message as F-Message, Choice as F-Choice, Rec as F-Rec}
use Rattle.scr_global_tree.specs.declared.statement.GStatement.TheOpen.GStatement-F.{Continue as F-Continue}
use Rattle.scr_global_tree.specs.declared.statement.GStatement.TheVariants.{Message, Choice, Choice', Rec, Rec', Continue, rolls-Message}
use Rattle.scr_global_tree.specs.declared.statement.GStatement.TheVariants.{rolls-Choice, rolls-Rec, rolls-Continue, outs-Choice'}
use Rattle.scr_global_tree.specs.declared.statement.GStatement.TheVariants.{outs-Rec'}
use Rattle.scr_global.specs.Tree as tree
use Rattle.scr_global_tree.specs.View.{Front, front, layer, told, in_front, branches_of, statements}

pub front-Message : (place : Place) (from to label : Name) (payload : Payload) → front (Message place from to label payload) ≡ tree.Says
    (told place from to label payload)
unfolding front
front-Message place from to label payload =
    ap front (sym (rolls-Message place from to label payload)) ∙ fold-roll-GStatement Front layer (F-Message place from to label payload)

pub front-Choice : (place : Place) (at : Name) (branches : Row (Row GStatement)) → front (Choice place at branches) ≡ tree.Choice place at
    (branches_of (map (λ b. statements b.items) branches.items))
unfolding front
front-Choice place at branches =
    ap front (sym (rolls-Choice place at branches))
    ∙ fold-roll-GStatement Front layer (F-Choice place at branches)
    ∙ ap (λ bs. tree.Choice place at (branches_of bs)) (map-map (λ b. in_front b.items) _ branches.items)

pub front-Rec : (place : Place) (name : Name) (body : Row GStatement) → front (Rec place name body) ≡ tree.Rec place name
    (statements body.items)
unfolding front
front-Rec place name body = ap front (sym (rolls-Rec place name body)) ∙ fold-roll-GStatement Front layer (F-Rec place name body)

pub front-Continue : (place : Place) (name : Name) → front (Continue place name) ≡ tree.Continue place name
unfolding front
front-Continue place name = ap front (sym (rolls-Continue place name)) ∙ fold-roll-GStatement Front layer (F-Continue place name)

-- the kept form of a choice and of a rec, as the variants write them
Choice'-is : (place : Place) (at : Name) (shape : _) (rows : _) → Choice' place at shape rows ≡ Choice place at
    (shown-the_row-GStatement-Choice-2-1-1 shape rows)
Choice'-is place at shape rows = sym (roll-out-GStatement (Choice' place at shape rows)) ∙ ap roll-GStatement
    (outs-Choice' place at shape rows) ∙ rolls-Choice place at _

Rec'-is : (place : Place) (name : Name) (shape : _) (rows : _) → Rec' place name shape rows ≡ Rec place name
    (shown-the_row-GStatement-0 shape rows)
Rec'-is place name shape rows = sym (roll-out-GStatement (Rec' place name shape rows)) ∙ ap roll-GStatement
    (outs-Rec' place name shape rows) ∙ rolls-Rec place name _

-- what holds of each kind of statement holds of every statement
pub each_kind : (P : GStatement → Type 0) → ((place : Place) (from to label : Name) (payload : Payload) →
    P (Message place from to label payload)) → ((place : Place) (at : Name) (branches : Row (Row GStatement)) →
    P (Choice place at branches)) →
    ((place : Place) (name : Name) (body : Row GStatement) → P (Rec place name body)) →
    ((place : Place) (name : Name) → P (Continue place name)) →
    (s : GStatement) → P s
each_kind P said choice recursion continued (Message place from to label payload) = said place from to label payload
each_kind P said choice recursion continued (Choice' place at shape rows) = subst P (sym (Choice'-is place at shape rows))
    (choice place at _)
each_kind P said choice recursion continued (Rec' place name shape rows) = subst P (sym (Rec'-is place name shape rows))
    (recursion place name _)
each_kind P said choice recursion continued (Continue place name) = continued place name

pub ruleset fronts = (front-Message, front-Choice, front-Rec, front-Continue)
