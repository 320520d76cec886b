-- A local protocol that is made of the parts of a projection.
use Rattle.std.proofs.Common.{◌≡◌, ℕ, List, [], Option, Some, None, Ok, Err, Result, refl, sym, ap, subst, ◌∙◌}
use Rattle.std.specs.Prelude.{Contains}
use Rattle.std.specs.Option.{IsSome}
use Rattle.mg_text.specs.Call.{Name}
use Rattle.mg_text.specs.declared.place.Place.{Place}
use Rattle.scr_tree.specs.Tree.{LocalTree, Statements}
use Rattle.scr_tree.specs.Valid.{IsWritten}
use Rattle.scr_tree.specs.declared.local.Local.{Local}
use Rattle.scr_read.specs.declared.fault.ScrFault.{ScrFault}
use Rattle.scr_read.specs.Parts.{Makes}
use Rattle.scr_global.specs.Texts.{projected}
use Rattle.scr_global_tree.specs.Global.{tree_of}
use Rattle.scr_global_tree.specs.Tree.{GlobalTree}
use Rattle.scr_global_tree.specs.View as texts
use Rattle.scr_global_tree.specs.declared.global.Global.{Global}
use Rattle.scr_global_tree.specs.declared.statement.GStatement.{GStatement}
use Rattle.scr_project.specs.declared.fault.ProjectFault.{ProjectFault}
use Rattle.scr_project.specs.declared.fault.ProjectFault.TheVariants as faults
use Rattle.scr_project.specs.declared.part.Part.{Part}
use Rattle.scr_project.specs.Outcome.{projection_of}
use Rattle.scr_project.specs.inner.Stages.{Stage, IsUnprojected}
use Rattle.scr_project.specs.inner.Walk.{Found, found, unmerged}
use Rattle.scr_project.specs.inner.View.{says_of, found_of}
use Rattle.scr_project.proofs.Faults.{some_unmerged}
use Rattle.scr_project.proofs.Premises.{can_be_written, early_clean, same_parts}
use Rattle.scr_project.proofs.Answered.{stage_made, stage_unprojected, stage_unmerged}

module _ (global : Global) (me : Name) (s : Statements) (e : projected me (tree_of global).body ≡ Some s) (t : LocalTree)
    (file : t.file ≡ (tree_of global).file) (name : t.name ≡ (tree_of global).name) (role : t.me ≡ me)
    (roles : t.roles ≡ (tree_of global).roles) (body : t.body ≡ s) (alone : t.others ≡ []) where
  same : t ≡ projection_of (tree_of global) me s
  same = same_parts (tree_of global) me s t file name role roles body alone

  pub parts_written : ∥ IsWritten t ∥₁
  parts_written = subst (λ (u : LocalTree). ∥ IsWritten u ∥₁) (sym same) (can_be_written (tree_of global) me s e global.valid)

  module _ (listed : Contains (tree_of global).roles me) where
    pub made_of_parts : (made : Local) → Makes t (Ok made) → Stage (tree_of global) me (Ok made)
    made_of_parts made h =
        stage_made (tree_of global) me s e (early_clean (tree_of global) me s e global.valid listed) made
        (subst (λ (u : LocalTree). Makes u (Ok made)) same h)

    pub unmade_of_parts : (fault : ScrFault) (r : Result Local ProjectFault) → Makes t (Err fault) → IsUnprojected t.file me fault r →
        Stage (tree_of global) me r
    unmade_of_parts fault r h u =
        stage_unprojected (tree_of global) me s e (early_clean (tree_of global) me s e global.valid listed) fault r
        (subst (λ (u : LocalTree). Makes u (Err fault)) same h)
        (subst (λ (n : ℕ). IsUnprojected n me fault r) file u)

some_unless : (o : Option Place) → (o ≡ None → ⊥) → IsSome o
some_unless (Some place) h = refl
some_unless None h = absurd (h refl)

-- what the walk found
module _ (g : GlobalTree) (me name : Name) (p : Part) (b : List GStatement) (is : name ≡ me) (body : texts.statements b ≡ g.body)
    (h : found_of p ≡ found name [] (texts.statements b))
    (says : p.says ≡ None) where
  walked : found_of p ≡ found me [] g.body
  walked = h ∙ (λ i. found (is i) [] (body i))

  none_found : projected me g.body ≡ None
  none_found = sym (ap (λ (f : Found). f.says) walked) ∙ ap says_of says

  first_found : p.first ≡ unmerged me g.body
  first_found = ap (λ (f : Found). f.first) walked

  -- there is a choice at fault
  pub place_found : IsSome p.first
  place_found = some_unless p.first (λ f. some_unmerged me g.body none_found (sym first_found ∙ f))

  pub unmerged_found : (place : Place) → p.first ≡ Some place → Stage g me (Err (faults.NotMergeable place name))
  unmerged_found place f = stage_unmerged g me name p.first place is none_found first_found f
