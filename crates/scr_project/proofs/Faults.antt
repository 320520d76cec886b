-- The walk finds the first choice that can't be merged.
use Rattle.std.proofs.Common.{◌≡◌, List, [], ◌∷◌, ◌++◌, Bool, true, false, Option, Some, None, refl, sym, ap, subst, ◌∙◌}
use Rattle.std.specs.Option.{option_or}
use Rattle.std.specs.Str.{bytes_eq}
use Rattle.mg_text.specs.Call.{Name}
use Rattle.mg_text.specs.declared.place.Place.{Place}
use Rattle.mg_read.specs.Culprit.{Culprit, culprit}
use Rattle.mg_read.specs.First.{Judged, clean, here, later, Clean}
use Rattle.mg_read.proofs.Judging.{judged-append, judged-clean}
use Rattle.mg_read.proofs.Steps.{some_is, none_is_not}
use Rattle.scr_tree.specs.Tree as local
use Rattle.scr_global.specs.Tree.{Statements, Nothing, Says, Choice, Rec, Continue, Branches, NoBranch, Branch}
use Rattle.scr_global.specs.Projecting.{both, mapped}
use Rattle.scr_global.specs.Texts.{merged_text, projected, projected_each}
use Rattle.scr_global.specs.Spots.{Past, Opens, Enters, Way, Spot, spot, spots, branch_spots}
use Rattle.scr_global.specs.Conditions.{NotMergeable}
use Rattle.scr_global.proofs.Valid.{some_choice_is_at_fault}
use Rattle.scr_project.specs.inner.Walk.{fault_unless, choice_fault, unmerged, unmerged_in}

-- a place of a fault of the role
abbrev pub at_fault : Name → Option Place → Option Culprit
at_fault me None = None
at_fault me (Some place) = Some (culprit place me)

either : (me : Name) (a b : Option Place) → at_fault me (option_or a b) ≡ option_or (at_fault me a) (at_fault me b)
either me None b = refl
either me (Some a) b = refl

module _ (me : Name) where
  -- what one choice answers
  abbrev Answers : Way → Place → Name → Branches → Statements → Option Place → Type 0
  Answers way place at branches rest None = (c : Culprit) → NotMergeable me (spot way (Choice place at branches rest)) c → ⊥
  Answers way place at branches rest (Some p) = NotMergeable me (spot way (Choice place at branches rest)) (culprit p me)

  -- what the choice says, by whether the role chooses and what its branches say
  abbrev said_by : Place → Name → Bool → Option local.Branches → Option local.Statements
  said_by place at true o = both (λ bs r. Some (local.Choice place at bs r)) o (Some local.Nothing)
  said_by place at false o = both (merged_text me place) o (Some local.Nothing)

  alone : (place : Place) (at : Name) (branches : Branches) (b : Bool) → bytes_eq at me ≡ b →
      projected me (Choice place at branches Nothing) ≡ said_by place at b (projected_each me branches)
  alone place at branches true e =
      ap (λ (z : Bool). Rattle.std.specs.Prelude.if◌then◌else◌ z (both (λ bs r. Some (local.Choice place at bs r))
      (projected_each me branches) (Some local.Nothing)) (both (merged_text me place) (projected_each me branches) (Some local.Nothing))) e
  alone place at branches false e =
      ap (λ (z : Bool). Rattle.std.specs.Prelude.if◌then◌else◌ z (both (λ bs r. Some (local.Choice place at bs r))
      (projected_each me branches) (Some local.Nothing)) (both (merged_text me place) (projected_each me branches) (Some local.Nothing))) e

  merged_or_not : (way : Way) (place : Place) (at : Name) (branches : Branches) (rest : Statements) (bs : local.Branches)
      (o : Option local.Statements) → projected_each me branches ≡ Some bs →
      projected me (Choice place at branches Nothing) ≡ o → Answers way place at branches rest (fault_unless place o)
  merged_or_not way place at branches rest bs None e f = (refl, bs, e, f)
  merged_or_not way place at branches rest bs (Some s) e f = λ c x. none_is_not s (sym x.3 ∙ f)

  choice_answers : (way : Way) (place : Place) (at : Name) (branches : Branches) (rest : Statements) →
      Answers way place at branches rest (choice_fault me place (bytes_eq at me) (projected_each me branches))
  choice_answers way place at branches rest = go (bytes_eq at me) (projected_each me branches) refl refl
    where
      go : (b : Bool) (o : Option local.Branches) → bytes_eq at me ≡ b → projected_each me branches ≡ o →
          Answers way place at branches rest (choice_fault me place b o)
      go b None e f = λ c x. none_is_not x.1 (sym f ∙ x.2)
      go true (Some bs) e f = λ c x. none_is_not (local.Choice place at bs local.Nothing) (sym x.3 ∙ alone place at branches true e ∙
          ap (said_by place at true) f)
      go false (Some bs) e f = merged_or_not way place at branches rest bs (merged_text me place bs local.Nothing) f
          (alone place at branches false e ∙ ap (said_by place at false) f)

  asked : (way : Way) (place : Place) (at : Name) (branches : Branches) (rest : Statements) (o : Option Place) (r : Option Place)
      (more : List Spot) → Answers way place at branches rest o →
      Judged (NotMergeable me) more (at_fault me r) → Judged (NotMergeable me) (spot way (Choice place at branches rest) ∷ more)
      (at_fault me (option_or o r))
  asked way place at branches rest None r more a j = later a j
  asked way place at branches rest (Some p) r more a j = here a

  appended : (xs ys : List Spot) (a b : Option Place) → Judged (NotMergeable me) xs (at_fault me a) →
      Judged (NotMergeable me) ys (at_fault me b) → Judged (NotMergeable me) (xs ++ ys) (at_fault me (option_or a b))
  appended xs ys a b j k = subst (Judged (NotMergeable me) (xs ++ ys)) (sym (either me a b)) (judged-append j k)

  mutual
    unmerged_exact : (way : Way) (t : Statements) → Judged (NotMergeable me) (spots way t) (at_fault me (unmerged me t))
    unmerged_exact way Nothing = clean
    unmerged_exact way (Says m rest) = later (λ c x. x) (unmerged_exact _ rest)
    unmerged_exact way (Choice place at branches rest) =
        asked way place at branches rest (choice_fault me place (bytes_eq at me) (projected_each me branches)) _ _
        (choice_answers way place at branches rest)
        (appended _ _ (unmerged_in me branches) (unmerged me rest) (unmerged_in_exact way at [] branches) (unmerged_exact _ rest))
    unmerged_exact way (Rec place name body rest) =
        later (λ c x. x) (appended _ _ (unmerged me body) (unmerged me rest) (unmerged_exact _ body) (unmerged_exact _ rest))
    unmerged_exact way (Continue place name rest) = later (λ c x. x) (unmerged_exact _ rest)

    unmerged_in_exact : (way : Way) (at : Name) (earlier : List Statements) (bs : Branches) →
        Judged (NotMergeable me) (branch_spots way at earlier bs) (at_fault me (unmerged_in me bs))
    unmerged_in_exact way at earlier NoBranch = clean
    unmerged_in_exact way at earlier (Branch b more) =
        appended _ _ (unmerged me b) (unmerged_in me more) (unmerged_exact _ b) (unmerged_in_exact way at (b ∷ earlier) more)

  pub first_unmerged : (t : Statements) → Judged (NotMergeable me) (spots [] t) (at_fault me (unmerged me t))
  first_unmerged t = unmerged_exact [] t

  -- where there is no projection, there is one
  pub some_unmerged : (t : Statements) → projected me t ≡ None → unmerged me t ≡ None → ⊥
  some_unmerged t e f = some_choice_is_at_fault me t e
      (judged-clean (subst (λ (o : Option Place). Judged (NotMergeable me) (spots [] t) (at_fault me o)) f (first_unmerged t)))
