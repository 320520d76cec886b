-- Protocols of roles that aren't their projections.
use Rattle.std.proofs.Common.{◌≡◌, ℕ, zero, suc, List, [], ◌∷◌, length, codes, Some, Contains}
use Rattle.std.proofs.Common.{refl, sym, ap, ◌∙◌, subst}
use Rattle.std.specs.Prelude.{slice_get}
use Rattle.mg_text.specs.Call.{Name}
use Rattle.mg_text.specs.Places.{start_of}
use Rattle.scr_tree.specs.Tree.{LocalTree, Statements}
use Rattle.scr_tree.specs.Valid.{AreDistinct}
use Rattle.scr_back.specs.Same.{AreSame}
use Rattle.scr_global.specs.Texts.{projected}
use Rattle.scr_global_tree.specs.Tree.{GlobalTree}
use Rattle.scr_project.specs.Outcome.{Outcome, Answer, projection_of, not_mergeable, unprojected, found}
use Rattle.scr_project.specs.Outcome as projects
use Rattle.jv_core.specs.Tree.{Program}
use Rattle.vm_world_law.specs.declared.role.RoleMain.{RoleMain}
use Rattle.mg_refusal.specs.Refusals.{Refusal, refusal_at}
use Rattle.mg_sources.specs.Reading.{Part}
use Rattle.mg_fits.specs.Parts.{Headed, protocols_in, roles_in}
use Rattle.mg_fits.specs.Conditions.{IsProjection, HasOther}
use Rattle.fit_judge.specs.Verdict.{AreProjectionsOf}
use Rattle.scr_judge.proofs.Members.{Contains-image}
use Rattle.fit_judge.proofs.Spelled.{one_protocol}

-- there are as many projections as roles
pub as_many : (g : GlobalTree) (roles : List Name) (locals : List LocalTree) → AreProjectionsOf g roles locals → length locals ≡ length roles
as_many g [] [] h = refl
as_many g [] (local ∷ locals) h = absurd h
as_many g (role ∷ roles) [] h = absurd h
as_many g (role ∷ roles) (local ∷ locals) h = ap suc (as_many g roles locals h.1)

-- each is that of its role
pub projection_at : (g : GlobalTree) (roles : List Name) (locals : List LocalTree) → AreProjectionsOf g roles locals → (n : ℕ) (role : Name)
    (local : LocalTree) → slice_get roles n ≡ Some role → slice_get locals n ≡ Some local → Outcome g role (projects.Protocol local)
projection_at g [] locals h n role local e f = absurd cc
projection_at g (r ∷ roles) [] h n role local e f = absurd h
projection_at g (r ∷ roles) (l ∷ locals) h zero role local e f =
    let a : r ≡ role = cc in
    let b : l ≡ local = cc in
    subst (λ (z : LocalTree). Outcome g role (projects.Protocol z)) b
    (subst (λ (z : Name). Outcome g z (projects.Protocol l)) a h.0)
projection_at g (r ∷ roles) (l ∷ locals) h (suc n) role local e f = projection_at g roles locals h.1 n role local e f

-- what a projection does
record Does (g : GlobalTree) (me : Name) (local : LocalTree) : Type 0 where
  body : Statements
  is : projected me g.body ≡ Some body
  same : local.body ≡ body

does : (g : GlobalTree) (me : Name) (local : LocalTree) (a : Answer) → Outcome g me a → a ≡ projects.Protocol local → Does g me local
does g me local a (not_mergeable e j) is = let never : ⊥ = cc in absurd never
does g me local a (unprojected e j) is = let never : ⊥ = cc in absurd never
does g me local a (found {body = body} e j) is =
    let same : projection_of g me body ≡ local = cc in
    record { body = body; is = e; same = ap (λ (l : LocalTree). l.body) (sym same) }

-- there is one
one_body : (g : GlobalTree) (me : Name) (some other : LocalTree) → Outcome g me (projects.Protocol some) →
    Outcome g me (projects.Protocol other) → some.body ≡ other.body
one_body g me some other a b =
    let x = does g me some (projects.Protocol some) a refl in
    let y = does g me other (projects.Protocol other) b refl in
    let both : Some x.body ≡ Some y.body = sym x.is ∙ y.is in
    let one : x.body ≡ y.body = cc in
    x.same ∙ one ∙ sym y.same

module _ (g : GlobalTree) (parts : List Part) (core : Program) (mains : List RoleMain) (headed : Headed) where
  -- a role without a protocol has no other
  pub none_other : (Contains (roles_in parts) headed.role → ⊥) → (r : Refusal) → HasOther g parts core mains headed r → ⊥
  none_other none r o =
      none (subst (Contains (roles_in parts)) o.of_role (Contains-image (λ (l : LocalTree). l.me) (protocols_in parts) o.local o.there))

  module _ (local projection : LocalTree) (there : Contains (protocols_in parts) local) (own : local.me ≡ headed.role)
      (outcome : Outcome g headed.role (projects.Protocol projection)) where
    -- its protocol is the projection
    pub is_fine : AreDistinct (roles_in parts) → AreSame projection.body local.body → local.others ≡ [] → (r : Refusal) →
        HasOther g parts core mains headed r → ⊥
    is_fine differ same alone r o =
        o.other (subst (IsProjection g parts core mains) (one_protocol parts differ local o.local there o.there (own ∙ sym o.of_role)) (record {
          projection = projection;
          projected = subst (λ (z : Name). Outcome g z (projects.Protocol projection)) (sym own) outcome;
          same = same;
          alone = alone;
        }))

    -- it isn't
    pub is_other : (AreSame projection.body local.body × (local.others ≡ []) → ⊥) → (r : Refusal) →
        r ≡ refusal_at (codes "OtherProtocol") (start_of local.file) headed.role → HasOther g parts core mains headed r
    is_other not r said = record {
      local = local;
      there = there;
      of_role = own;
      other = λ is. not (
        subst (λ (b : Statements). AreSame b local.body)
            (one_body g headed.role is.projection projection
            (subst (λ (z : Name). Outcome g z (projects.Protocol is.projection)) own is.projected) outcome) is.same,
        is.alone,
      );
      said = said;
    }
