-- Conditions, told of what the parts of the judge answer.
use Rattle.std.proofs.Common.{◌≡◌, List, [], ◌∷◌, ◌++◌, map, Option, None, Contains, refl, sym, subst, ⊎_elim, codes}
use Rattle.std.proofs.lemmas.List.Elements.{Contains-push, Contains-append_left}
use Rattle.mg_read.specs.First.{Judged, FirstOf, Clean, behind}
use Rattle.mg_read.proofs.Judging.{judged-same, judged-clean}
use Rattle.scr_tree.specs.Valid.{AreDistinct}
use Rattle.scr_global_tree.specs.Tree.{GlobalTree}
use Rattle.jv_core.specs.Tree.{Program}
use Rattle.vm_world_law.specs.declared.role.RoleMain.{RoleMain}
use Rattle.mg_refusal.specs.Refusals.{Refusal, refusal_nowhere}
use Rattle.mg_sources.specs.Reading.{Part}
use Rattle.fit_uses.specs.declared.usage.Use.{Use}
use Rattle.fit_uses.specs.declared.usage.Use.TheVariants as uses
use Rattle.scr_judge.proofs.Faultless.{split}
use Rattle.scr_judge.proofs.Members.{Contains-nil, Contains-cons_cases, Contains-image}
use Rattle.mg_fits.specs.Parts.{roles_in}
use Rattle.mg_fits.specs.Conditions.{Of, Unplayed, Stranger, SharedMain, SharesMain, IsOwnSession, IsMadeElsewhere, elsewhere}
use Rattle.fit_judge.specs.inner.Used.{Talks, MakesHeld}

module _ (g : GlobalTree) (ps : List Part) (core : Program) (mains : List RoleMain) where
  own_to : (u : Use) (r : Refusal) → Talks u r → IsOwnSession g ps core mains u r
  own_to (uses.Talks place call) r h = h
  own_to (uses.Makes place class) r h = h

  own_from : (u : Use) (r : Refusal) → IsOwnSession g ps core mains u r → Talks u r
  own_from (uses.Talks place call) r h = h
  own_from (uses.Makes place class) r h = h

  pub own_told : {r : Option Refusal} (us vs : List Use) → us ≡ vs → Judged Talks us r → Judged (IsOwnSession g ps core mains) vs r
  own_told {r} us vs same j = judged-same own_to own_from (subst (λ (zs : List Use). Judged Talks zs r) same j)

  made_to : (u : Use) (r : Refusal) → MakesHeld core (roles_in ps) u r → IsMadeElsewhere g ps core mains u r
  made_to (uses.Talks place call) r h = absurd h
  made_to (uses.Makes place class) r h = elsewhere h.1 h.2 h.3

  made_from : (u : Use) (r : Refusal) → IsMadeElsewhere g ps core mains u r → MakesHeld core (roles_in ps) u r
  made_from u r (elsewhere {name = name} text held said) = (name, text, held, said)

  pub made_told : {r : Option Refusal} (us vs : List Use) → us ≡ vs → Judged (MakesHeld core (roles_in ps)) us r →
      Judged (IsMadeElsewhere g ps core mains) vs r
  made_told {r} us vs same j =
      judged-same made_to made_from (subst (λ (zs : List Use). Judged (MakesHeld core (roles_in ps)) zs r) same j)

  -- where no class is an earlier role's too, classes differ
  clash : (seen ms : List RoleMain) (m : RoleMain) → Contains seen m → Clean (SharesMain g ps core mains) (behind seen ms) →
      Contains (map (λ (o : RoleMain). o.class) ms) m.class → ⊥
  clash seen [] m listed h c = Contains-nil m.class c
  clash seen (x ∷ ms) m listed h c =
      ⊎_elim (λ same. h.0 (refusal_nowhere (codes "SharedMain") x.class) (
        subst (Contains (map (λ (o : RoleMain). o.class) seen)) (sym same) (Contains-image (λ (o : RoleMain). o.class) seen m listed),
        refl,
      ))
      (λ more. clash (seen ++ x ∷ []) ms m (Contains-append_left seen (x ∷ []) m listed) h.1 more)
      (Contains-cons_cases (map (λ (o : RoleMain). o.class) ms) x.class m.class c)

  distinct : (seen ms : List RoleMain) → Clean (SharesMain g ps core mains) (behind seen ms) →
      AreDistinct (map (λ (o : RoleMain). o.class) ms)
  distinct seen [] h = tt
  distinct seen (m ∷ ms) h = (clash (seen ++ m ∷ []) ms m (Contains-push seen m) h.1, distinct (seen ++ m ∷ []) ms h.1)

  pub mains_differ : FirstOf (Of g ps core mains) (Unplayed ∷ Stranger ∷ SharedMain ∷ []) None →
      AreDistinct (map (λ (o : RoleMain). o.class) mains)
  mains_differ f = let last = split (split (split f).1).1 in distinct [] mains (judged-clean last.0)
