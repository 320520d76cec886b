-- The laws of global protocols, for what `project` answers.
use Rattle.std.proofs.Common.{◌≡◌, ◌≢◌, List, [], ◌∷◌, Option, Some, None, refl, sym, ap, subst, ◌∙◌}
use Rattle.std.specs.Prelude.{Contains}
use Rattle.std.proofs.Math.Logic.{∥∥₁_elim}
use Rattle.mg_text.specs.Call.{Name}
use Rattle.mg_read.specs.Culprit.{Culprit}
use Rattle.mg_read.specs.First.{Clean, Judged, FirstOf, none, this, next}
use Rattle.mg_read.proofs.Judging.{judged-clean}
use Rattle.scr_tree.specs.declared.condition.Condition.{Condition}
use Rattle.scr_tree.specs.declared.condition.Condition.TheVariants as conditions
use Rattle.scr_tree.specs.Conditions.{Unguarded}
use Rattle.scr_tree.specs.Faults.{Of}
use Rattle.scr_tree.specs.Meaning.{numbered}
use Rattle.scr_tree.specs.Spots.{spots as local_spots}
use Rattle.scr_tree.specs.Tree.{LocalTree, Titled}
use Rattle.scr_read.specs.Parts.{parts}
use Rattle.scr_global.specs.Conditions.{AreClean, HaveBranches, HaveBranchesIn, UnknownRole, PeerIsSelf, UnknownRec, DuplicateRec}
use Rattle.scr_global.specs.Conditions.{Unguarded as IsUnguarded, Unreachable, BranchStart, MixedChoice, SameLabel}
use Rattle.scr_global.specs.Laws.{AreProjections}
use Rattle.scr_global.specs.Projection.{IsProjection}
use Rattle.scr_global.specs.Spots.{spots}
use Rattle.scr_global.specs.Texts.{projected}
use Rattle.scr_global.specs.Tree.{Statements, Nothing, Says, Choice, Rec, Continue, Branches, NoBranch, Branch, said}
use Rattle.scr_global.proofs.Followed as followed
use Rattle.scr_global.proofs.Stuck as stuck
use Rattle.scr_global.proofs.Valid.{clean_is_valid, first_guarded}
use Rattle.scr_global.proofs.Written.{text_is_projected}
use Rattle.scr_global_tree.specs.Tree.{GlobalTree}
use Rattle.scr_global_tree.specs.Valid.{IsValid}
use Rattle.scr_project.specs.Laws.{AreProjected, MessagesAreTaken, NoneIsStuck, RunsAreFollowed, CompleteRunsAreFollowed}
use Rattle.scr_project.specs.Outcome.{projection_of, IsOpenFault, open_conditions, Answer, Protocol, Outcome, not_mergeable, unprojected}
use Rattle.scr_project.specs.Outcome.{found}
use Rattle.scr_project.proofs.Premises.{clean_once}

-- ---- a global protocol that is valid by its type

mutual
  branches_once : (s : Statements) (a b : HaveBranches s) → a ≡ b
  branches_once Nothing a b = refl
  branches_once (Says m rest) a b = branches_once rest a b
  branches_once (Choice place at branches rest) a b =
      λ i. ((λ e. let p : a.0 e ≡ b.0 e = absurd (a.0 e) in p i), branches_in_once branches a.1 b.1 i, branches_once rest a.2 b.2 i)
  branches_once (Rec place name body rest) a b = λ i. (branches_once body a.0 b.0 i, branches_once rest a.1 b.1 i)
  branches_once (Continue place name rest) a b = branches_once rest a b

  branches_in_once : (bs : Branches) (a b : HaveBranchesIn bs) → a ≡ b
  branches_in_once NoBranch a b = refl
  branches_in_once (Branch b more) a c = λ i. (branches_once b a.0 c.0 i, branches_in_once more a.1 c.1 i)

pub clean_of : (g : GlobalTree) → ∥ IsValid g ∥₁ → AreClean g.roles g.body
clean_of g valid = record {
  written = ∥∥₁_elim valid (branches_once g.body) (λ v. v.clean.written);
  roles_listed = ∥∥₁_elim valid (clean_once (UnknownRole g.roles) (spots [] g.body)) (λ v. v.clean.roles_listed);
  roles_apart = ∥∥₁_elim valid (clean_once PeerIsSelf (spots [] g.body)) (λ v. v.clean.roles_apart);
  recs_known = ∥∥₁_elim valid (clean_once UnknownRec (spots [] g.body)) (λ v. v.clean.recs_known);
  recs_differ = ∥∥₁_elim valid (clean_once DuplicateRec (spots [] g.body)) (λ v. v.clean.recs_differ);
  guarded = ∥∥₁_elim valid (clean_once IsUnguarded (spots [] g.body)) (λ v. v.clean.guarded);
  reachable = ∥∥₁_elim valid (clean_once Unreachable (spots [] g.body)) (λ v. v.clean.reachable);
  starts = ∥∥₁_elim valid (clean_once BranchStart (spots [] g.body)) (λ v. v.clean.starts);
  uniform = ∥∥₁_elim valid (clean_once MixedChoice (spots [] g.body)) (λ v. v.clean.uniform);
  labels_differ = ∥∥₁_elim valid (clean_once SameLabel (spots [] g.body)) (λ v. v.clean.labels_differ);
}

-- ---- what was answered

-- the local protocol is the projection, and no `continue` in it is unguarded
record Kept (g : GlobalTree) (me : Name) (t : LocalTree) : Type 0 where
  pub own : t.me ≡ me
  pub body : projected me g.body ≡ Some t.body
  pub guarded : Clean Unguarded (local_spots [] t.body)

first_clean : {K C : Type 0} {Of : K → Option C → Type 0} {k : K} {ks : List K} → FirstOf Of (k ∷ ks) None → Of k None
first_clean {K} {C} {Of} {k} {ks} p = go _ _ p refl refl
  where
    go : (ls : List K) (r : Option (K × C)) → FirstOf Of ls r → ls ≡ k ∷ ks → r ≡ None → Of k None
    go ls r none e n = let no : ⊥ = cc in absurd no
    go ls r (this a) e n = let no : ⊥ = cc in absurd no
    go ls r (next {k = j} a q) e n = let same : j ≡ k = cc in subst (λ z. Of z None) same a

protocol_is : (s t : LocalTree) → Protocol s ≡ Protocol t → s ≡ t
protocol_is s t e = cc

own_guarded : (t : LocalTree) → Of (parts t) conditions.Unguarded None → Clean Unguarded (local_spots [] t.body)
own_guarded t j =
    let one : Titled = record { name = t.name; body = t.body } in
    first_guarded (one ∷ []) [] one (judged-clean j)

kept : (g : GlobalTree) (me : Name) (a : Answer) → Outcome g me a → (t : LocalTree) → a ≡ Protocol t → Kept g me t
kept g me a (not_mergeable e j) t f = absurd cc
kept g me a (unprojected e j) t f = absurd cc
kept g me a (found {body = s} e j) t f =
    let same = protocol_is (projection_of g me s) t f in
    subst (Kept g me) same (record { own = refl; body = e; guarded = own_guarded (projection_of g me s) (first_clean j) })

pub are_projections : (g : GlobalTree) (locals : Name → LocalTree) → AreProjected g locals → AreProjections g.roles (said g.body) locals
are_projections g locals are = record {
  valid = clean_is_valid g.roles g.body (clean_of g are.valid);
  projected = λ me c.
      let k = kept g me (Protocol (locals me)) (are.answered me c) (locals me) refl in
      subst (λ (x : Name). IsProjection me (said g.body) (numbered x 1 (locals me).body)) (sym k.own)
      (text_is_projected me g.body (locals me).body k.body 1);
  guarded = λ me c. (kept g me (Protocol (locals me)) (are.answered me c) (locals me) refl).guarded;
}

pub messages_are_taken : MessagesAreTaken
messages_are_taken g locals are = stuck.messages_are_taken g.roles (said g.body) locals (are_projections g locals are)

pub none_is_stuck : NoneIsStuck
none_is_stuck g locals are = stuck.none_is_stuck g.roles (said g.body) locals (are_projections g locals are)

pub runs_are_followed : RunsAreFollowed
runs_are_followed g locals are = followed.runs_are_followed g.roles (said g.body) locals (are_projections g locals are)

pub complete_runs_are_followed : CompleteRunsAreFollowed
complete_runs_are_followed g locals are = followed.complete_runs_are_followed g.roles (said g.body) locals (are_projections g locals are)
