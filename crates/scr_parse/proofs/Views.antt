-- What is seen of each kind of statement, alone and in a row.
use Rattle.std.proofs.Common.{◌≡◌, List, [], ◌∷◌, map, refl, sym, ap, ◌∙◌}
use Rattle.mg_text.specs.Call.{Name}
use Rattle.mg_text.specs.Row.{Row}
use Rattle.mg_text.specs.declared.place.Place.{Place}
use Rattle.scr_tree.specs.declared.syntax.Message.{Message}
use Rattle.scr_tree.specs.declared.syntax.Statement.{Statement}
use Rattle.scr_tree.specs.declared.syntax.Statement.TheVariants.{Message as Said, Choice, Rec, Continue, Do}
use Rattle.scr_tree.specs.Tree.{Statements, Nothing}
use Rattle.scr_tree.specs.Tree as tree
use Rattle.scr_tree.specs.View.{Front, front, branches_of, statements}
use Rattle.scr_tree.proofs.ViewLemmas.{front-Message, front-Choice, front-Rec, front-Continue, front-Do, each_kind}
use Rattle.scr_parse.specs.inner.View.{alone, all_alone, blocks_alone, in_front_of, joined}

-- a statement stands in front of others as it does alone
stands : (s : Statement) (rest : Statements) → front s rest ≡ in_front_of (alone s) rest
unfolding alone
stands = each_kind (λ s. (rest : Statements) → front s rest ≡ in_front_of (front s Nothing) rest)
    (λ m rest. ap (λ (f : Front). f rest) (front-Message m) ∙ sym (ap (λ (f : Front). in_front_of (f Nothing) rest) (front-Message m)))
    (λ place at branches rest.
    ap (λ (f : Front). f rest) (front-Choice place at branches) ∙ sym (ap (λ (f : Front). in_front_of (f Nothing) rest)
    (front-Choice place at branches)))
    (λ place name body rest.
    ap (λ (f : Front). f rest) (front-Rec place name body) ∙ sym (ap (λ (f : Front). in_front_of (f Nothing) rest)
    (front-Rec place name body)))
    (λ place name rest.
    ap (λ (f : Front). f rest) (front-Continue place name) ∙ sym (ap (λ (f : Front). in_front_of (f Nothing) rest)
    (front-Continue place name)))
    (λ place name rest.
    ap (λ (f : Front). f rest) (front-Do place name) ∙ sym (ap (λ (f : Front). in_front_of (f Nothing) rest) (front-Do place name)))

pub statements_joined : (ss : List Statement) → statements ss ≡ joined (all_alone ss)
statements_joined [] = refl
statements_joined (s ∷ ss) = stands s (statements ss) ∙ ap (in_front_of (alone s)) (statements_joined ss)

blocks_joined : (bs : List (Row Statement)) → map (λ b. statements b.items) bs ≡ map joined (blocks_alone bs)
blocks_joined [] = refl
blocks_joined (b ∷ bs) = λ i. statements_joined b.items i ∷ blocks_joined bs i

pub alone-Message : (m : Message) → alone (Said m) ≡ tree.Says m Nothing
unfolding alone
alone-Message m = ap (λ (f : Front). f Nothing) (front-Message m)

pub alone-Choice : (place : Place) (at : Name) (branches : Row (Row Statement))
    → alone (Choice place at branches) ≡ tree.Choice place at (branches_of (map joined (blocks_alone branches.items))) Nothing
unfolding alone
alone-Choice place at branches =
    ap (λ (f : Front). f Nothing) (front-Choice place at branches) ∙ ap
    (λ (bs : List Statements). tree.Choice place at (branches_of bs) Nothing) (blocks_joined branches.items)

pub alone-Rec : (place : Place) (name : Name) (body : Row Statement)
    → alone (Rec place name body) ≡ tree.Rec place name (joined (all_alone body.items)) Nothing
unfolding alone
alone-Rec place name body = ap (λ (f : Front). f Nothing) (front-Rec place name body) ∙ ap
    (λ (b : Statements). tree.Rec place name b Nothing) (statements_joined body.items)

pub alone-Continue : (place : Place) (name : Name) → alone (Continue place name) ≡ tree.Continue place name Nothing
unfolding alone
alone-Continue place name = ap (λ (f : Front). f Nothing) (front-Continue place name)

pub alone-Do : (place : Place) (name : Name) → alone (Do place name) ≡ tree.Do place name Nothing
unfolding alone
alone-Do place name = ap (λ (f : Front). f Nothing) (front-Do place name)

pub ruleset alones = (alone-Message, alone-Choice, alone-Rec, alone-Continue, alone-Do)
