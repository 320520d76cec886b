-- Two first refusals of roles and files that don't fit a global protocol are one, but for the place of Syntax.
use Rattle.std.proofs.Common.{◌≡◌, List, [], ◌∷◌, Option, Some, ap, inl, subst}
use Rattle.mg_read.specs.First.{FirstOf}
use Rattle.mg_read.proofs.Judging.{one_first}
use Rattle.scr_global_tree.specs.Tree.{GlobalTree}
use Rattle.jv_core.specs.Tree as Core
use Rattle.jv_resolve_law.specs.ShapedLaws.{SpelledIsShaped}
use Rattle.jv_names.specs.KeptLaws.{CoreIsKept}
use Rattle.jv_names.proofs.Tables.{some_is}
use Rattle.vm_world_law.specs.declared.role.RoleMain.{RoleMain}
use Rattle.mg_refusal.specs.Refusals.{Refusal, AreAlike}
use Rattle.mg_refusal.proofs.Orders.{then_alike}
use Rattle.mg_sources.specs.Files.{Source}
use Rattle.mg_sources.specs.Reading.{Part}
use Rattle.mg_accepted.specs.Accepted.{AreAccepted}
use Rattle.mg_accepted.proofs.OneCore.{one_core}
use Rattle.mg_compile.proofs.Ready.{is_core}
use Rattle.mg_projected.proofs.Alike as projected_alike
use Rattle.mg_projected.proofs.Located.{one_global, locals_not_refused}
use Rattle.mg_runs.proofs.Alike as runs_alike
use Rattle.mg_fits.specs.Conditions.{Condition, conditions, Of}
use Rattle.mg_fits.specs.Fits.{IsUnfit}
use Rattle.mg_fitted.specs.Laws.{RefusalsAreAlike}
use Rattle.mg_fitted.proofs.Apart.{one_list, runs_not_refused}
use Rattle.mg_fitted.proofs.Distinct.{roles_differ}
use Rattle.mg_fitted.proofs.Single.{single}

same_told : (j k : Condition) (r q : Refusal) → ◌≡◌ {A = Option (Condition × Refusal)} (Some (j, r)) (Some (k, q)) → r ≡ q
same_told j k r q e = ap (λ (told : Condition × Refusal). told.1) (some_is e)

module _ (law : SpelledIsShaped) (keeps : CoreIsKept) (tree : GlobalTree) (files : List Source) (mains : List RoleMain)
    (core : Core.Program) (accepted : AreAccepted files core) where
  unfit_alike : (r q : Refusal) → IsUnfit tree files mains core r → IsUnfit tree files mains core q → AreAlike r q
  unfit_alike r q a b =
      let parts : a.parts ≡ b.parts = one_list files a.parts b.parts a.spell b.spell in
      let first : FirstOf (Of tree b.parts core mains) conditions (Some (a.condition, r))
      = subst (λ (z : List Part). FirstOf (Of tree z core mains) conditions (Some (a.condition, r))) parts a.first in
      inl (same_told a.condition b.condition r q (one_first
      (single tree b.parts core mains (is_core law keeps files core accepted.have)
      (roles_differ files b.parts b.spell accepted.have.are.are.apart))
      first b.first))

pub same_refusal : SpelledIsShaped → CoreIsKept → RefusalsAreAlike
same_refusal law keeps global files mains =
    then_alike (projected_alike.same_refusal (global ∷ []))
    (λ r tree first is. locals_not_refused global tree is.0 r is.1 first)
    (λ a b p q. one_global global a b p.0 q.0 p.1 q.1)
    (λ tree is. then_alike (runs_alike.same_refusal files mains)
    (λ r core first can. runs_not_refused files mains core can r first)
    (λ a b p q. one_core files a b p.accepted.have q.accepted.have)
    (λ core can. unfit_alike law keeps tree files mains core can.accepted))
