-- The loop over the roles, and what its end says.
use Rattle.std.proofs.Common.{◌≡◌, inl, inr, ℕ, ◌+◌, ◌<◌, ◌≤◌, length, get_or, drop, map, List, [], ◌∷◌, ◌++◌, Option, None, Some, refl, sym, ap}
use Rattle.std.proofs.Common.{subst, ◌∙◌, append_assoc}
use Rattle.std.specs.Prelude.{option_map}
use Rattle.std.proofs.lemmas.List.{at_drop_more, at_drop_all, append-nil, map-append}
use Rattle.mg_text.specs.Call.{Name}
use Rattle.mg_text.specs.declared.place.Place.{Place}
use Rattle.mg_read.proofs.Steps.{some_is, none_is_not}
use Rattle.scr_tree.specs.Tree.{LocalTree}
use Rattle.scr_tree.specs.Local.{tree_of as local_of}
use Rattle.scr_tree.specs.declared.local.Local.{Local}
use Rattle.scr_read.specs.Outcome as scr
use Rattle.scr_global_tree.specs.Tree.{GlobalTree}
use Rattle.scr_project.specs.declared.fault.ProjectFault.{ProjectFault}
use Rattle.scr_project.specs.declared.fault.ProjectFault.TheVariants as project_faults
use Rattle.scr_project.specs.Outcome as projects
use Rattle.mg_projected.specs.Projected.{IsRefusal, IsRefused}
use Rattle.mg_projected.specs.inner.Stages.{Says, AreOf}

pub record Rest (g : GlobalTree) (roles : List Name) (i : ℕ) (locals : List LocalTree) : Type 0 where
  pub made : (ls : List LocalTree) → AreOf g (drop i roles) ls → AreOf g roles (locals ++ ls)
  pub refused : (a : projects.Answer) → IsRefused g (drop i roles) a → IsRefused g roles a

pub rest_start : (g : GlobalTree) (roles : List Name) → Rest g roles 0 []
rest_start g roles = record { made = λ ls h. h; refused = λ a h. h }

-- what a fault answers is no protocol
refusals : (place : Place) (name : Name) (o : Option scr.Answer) (a : projects.Answer) → option_map (projects.Unprojected place name) o ≡
    Some a → IsRefusal a
refusals place name None a e = absurd (none_is_not a e)
refusals place name (Some b) a e = subst IsRefusal (some_is (projects.Unprojected place name b) a e) tt

is_refusal : (fault : ProjectFault) (a : projects.Answer) → projects.fault_answer fault ≡ Some a → IsRefusal a
is_refusal (project_faults.NotMergeable place name) a e = subst IsRefusal (some_is (projects.NotMergeable place name) a e) tt
is_refusal (project_faults.Unprojected place name fault) a e = refusals place name (scr.fault_answer fault) a e
is_refusal project_faults.Memory a e = absurd (none_is_not a e)

module _ (g : GlobalTree) (roles : List Name) (i : ℕ) (locals : List LocalTree) (rest : Rest g roles i locals) where
  pub rest_end : (rs : List Name) → rs ≡ roles → length rs ≤ i → AreOf g roles locals
  rest_end rs same k =
      let h = subst (λ (z : List Name). length z ≤ i) same k in
      subst (AreOf g roles) (append-nil locals)
      (rest.made [] (subst (λ (rs : List Name). AreOf g rs []) (sym (at_drop_all (λ (rs : List Name). rs) roles i h)) refl))

  module _ (rs : List Name) (same : rs ≡ roles) (role : Name) (inside : i < length rs) (found : role ≡ get_or rs i role) where
    within : i < length roles
    within = subst (λ (z : List Name). i < length z) same inside

    is : role ≡ get_or roles i role
    is = subst (λ (z : List Name). role ≡ get_or z i role) same found

    cut : drop i roles ≡ role ∷ drop (i + 1) roles
    cut = at_drop_more (λ (rs : List Name). rs) roles i role within ∙ ap (λ (r : Name). r ∷ drop (i + 1) roles) (sym is)

    pub rest_more : (local : LocalTree) (more : List LocalTree) → projects.Outcome g role (projects.Protocol local) →
        more ≡ locals ++ local ∷ [] → Rest g roles (i + 1) more
    rest_more local more o m = record {
      made = λ ls h. subst (AreOf g roles) (sym (ap (λ (z : List LocalTree). z ++ ls) m ∙ append_assoc locals (local ∷ []) ls))
          (rest.made (local ∷ ls) (subst (λ (rs : List Name). AreOf g rs (local ∷ ls)) (sym cut) (local, ls, refl, o, h)));
      refused = λ a h. rest.refused a (subst (λ (rs : List Name). IsRefused g rs a) (sym cut) (inr (local, o, h)));
    }

    pub rest_fault : (fault : ProjectFault) → Says (projects.Outcome g role) fault → Says (IsRefused g roles) fault
    rest_fault fault s = record {
      right = λ a e. rest.refused a (subst (λ (rs : List Name). IsRefused g rs a) (sym cut) (inl (s.right a e, is_refusal fault a e)));
      answers = s.answers;
    }

-- one more in the list of the program
module _ (g : GlobalTree) (roles : List Name) (i : ℕ) (ls : List Local) (rest : Rest g roles i (map local_of ls)) (rs : List Name)
    (same : rs ≡ roles) (role : Name) (inside : i < length rs) (found : role ≡ get_or rs i role) where
  pub rest_pushed : (local : Local) (more : List Local) → projects.Outcome g role (projects.Protocol (local_of local)) →
      more ≡ ls ++ local ∷ [] → Rest g roles (i + 1) (map local_of more)
  rest_pushed local more o e =
      rest_more g roles i (map local_of ls) rest rs same role inside found (local_of local) (map local_of more) o
      (ap (map local_of) e ∙ map-append local_of ls (local ∷ []))
