-- Files that fit aren't refused.
use Rattle.std.proofs.Common.{◌≡◌, List, [], ◌∷◌, map, Some, None, Result, refl, subst}
use Rattle.std.specs.Prelude.{OnOk, ⊤}
use Rattle.mg_read.specs.First.{FirstOf}
use Rattle.mg_read.proofs.Judging.{no_both, no_both_first}
use Rattle.scr_tree.specs.Tree.{LocalTree}
use Rattle.scr_global_tree.specs.Tree.{GlobalTree}
use Rattle.jv_core.specs.Tree as Core
use Rattle.jv_core.specs.Meaning.{main_of}
use Rattle.gen_rules.specs.Limits.{IsFirstExcess}
use Rattle.vm_world_law.specs.declared.role.RoleMain.{RoleMain}
use Rattle.mg_refusal.specs.Refusals.{Refusal}
use Rattle.mg_refusal.specs.Order.{Answers, AnswersOnly}
use Rattle.mg_refusal.specs.declared.stop.Stop.{Stop}
use Rattle.mg_refusal.proofs.Orders.{then_never, unless_refused, never_ok}
use Rattle.mg_sources.specs.Files.{Source}
use Rattle.mg_sources.specs.Reading.{Part, EachSpells}
use Rattle.mg_sources.proofs.OneKind.{one_part}
use Rattle.mg_accepted.proofs.OneCore.{one_core}
use Rattle.mg_accepted.proofs.Apart as accepted
use Rattle.mg_compile.proofs.Apart.{not_exceeded}
use Rattle.mg_projected.specs.Told.{AreLocals}
use Rattle.mg_projected.proofs.Located.{one_global, locals_not_refused}
use Rattle.mg_runs.specs.Runs.{HaveMains}
use Rattle.mg_runs.specs.Commanded as running
use Rattle.mg_runs.proofs.Apart.{lacks_none}
use Rattle.mg_fits.specs.Conditions.{Condition, Unplayed, Stranger, SharedMain, NoProtocol, OtherProtocol, OwnSession, MadeElsewhere, NotMade}
use Rattle.mg_fits.specs.Conditions.{conditions, Of}
use Rattle.mg_fits.specs.Fits.{IsUnfit}
use Rattle.mg_fitted.specs.Fitted.{CanRun, AreFitted, FirstRefusal}

-- files spell one list of parts
pub one_list : (files : List Source) (ps qs : List Part) → EachSpells files ps → EachSpells files qs → ps ≡ qs
one_list [] [] [] a b = refl
one_list [] [] (q ∷ qs) a b = absurd b
one_list [] (p ∷ ps) qs a b = absurd a
one_list (f ∷ fs) [] qs a b = absurd a
one_list (f ∷ fs) (p ∷ ps) [] a b = absurd b
one_list (f ∷ fs) (p ∷ ps) (q ∷ qs) (a, as') (b, bs) =
    let same = one_part f p q a b in let more = one_list fs ps qs as' bs in λ i. same i ∷ more i

-- no condition answers twice
never : (g : GlobalTree) (parts : List Part) (core : Core.Program) (mains : List RoleMain) (k : Condition) (r : Refusal) →
    Of g parts core mains k None → Of g parts core mains k (Some r) → ⊥
never g parts core mains Unplayed r a b = no_both a b
never g parts core mains Stranger r a b = no_both a b
never g parts core mains SharedMain r a b = no_both a b
never g parts core mains NoProtocol r a b = no_both a b
never g parts core mains OtherProtocol r a b = no_both a b
never g parts core mains OwnSession r a b = no_both a b
never g parts core mains MadeElsewhere r a b = no_both a b
never g parts core mains NotMade r a b = no_both a b

module _ (files : List Source) (mains : List RoleMain) (core : Core.Program) (can : CanRun files mains core) where
  pub runs_not_refused : (r : Refusal) → running.FirstRefusal files mains r → ⊥
  runs_not_refused = then_never (λ r first. accepted.not_refused files core r can.accepted first) (λ other a.
      let same : other ≡ core = one_core files other core a.have can.accepted.have in
      then_never
      (λ r l. lacks_none core l.front l.main l.rest (subst (HaveMains core) l.parts can.have_mains)
      (subst (λ (z : Core.Program). main_of z l.main.class ≡ None) same l.none))
      (λ done have r found. not_exceeded core found.0 can.class_files.fine
      (subst (λ (z : Core.Program). IsFirstExcess z (Some found.0)) same found.1)))

module _ (global : Source) (files : List Source) (mains : List RoleMain) (f : AreFitted global files mains) where
  abbrev locals : List LocalTree
  locals = map f.fits.locals f.fits.tree.roles

  projected : AreLocals global f.fits.tree locals
  projected = record { reads = f.fits.reads; each = f.fits.locals; projected = f.fits.projected; are = refl }

  not_unfit : (tree : GlobalTree) (core : Core.Program) → tree ≡ f.fits.tree → core ≡ f.core → (r : Refusal) →
      IsUnfit tree files mains core r → ⊥
  not_unfit tree core same_tree same_core r u =
      let parts : u.parts ≡ f.fits.parts = one_list files u.parts f.fits.parts u.spell f.fits.spell in
      let first : FirstOf (Of f.fits.tree f.fits.parts f.core mains) conditions (Some (u.condition, r))
      = subst (λ (z : Core.Program). FirstOf (Of f.fits.tree f.fits.parts z mains) conditions (Some (u.condition, r))) same_core
      (subst (λ (z : List Part). FirstOf (Of f.fits.tree z core mains) conditions (Some (u.condition, r))) parts
      (subst (λ (z : GlobalTree). FirstOf (Of z u.parts core mains) conditions (Some (u.condition, r))) same_tree u.first)) in
      no_both_first (never f.fits.tree f.fits.parts f.core mains) f.fits.clean first

  pub not_refused : (r : Refusal) → FirstRefusal global files mains r → ⊥
  not_refused = then_never (λ r first. locals_not_refused global f.fits.tree locals r projected first) (λ tree is.
      let same_tree : tree ≡ f.fits.tree = one_global global tree f.fits.tree is.0 locals is.1 projected in
      then_never (runs_not_refused files mains f.core f.can_run) (λ core can.
      not_unfit tree core same_tree (one_core files core f.core can.accepted.have f.can_run.accepted.have)))

module _ (global : Source) (files : List Source) (mains : List RoleMain) (answer : Result (Unit {0}) Stop)
    (h : Answers (λ (done : Unit {0}). AreFitted global files mains) (FirstRefusal global files mains) answer) where
  pub only_fitted : AreFitted global files mains → AnswersOnly (λ (done : Unit {0}). ⊤) answer
  only_fitted f =
      unless_refused (λ (done : Unit {0}). AreFitted global files mains) (FirstRefusal global files mains) (λ (done : Unit {0}). ⊤) answer h
      (λ done is. tt) (not_refused global files mains f)

  pub refused_unfitted : (r : Refusal) → FirstRefusal global files mains r → OnOk answer ⊥
  refused_unfitted r first =
      never_ok (λ (done : Unit {0}). AreFitted global files mains) (FirstRefusal global files mains) answer h
      (λ done is. not_refused global files mains is r first)
