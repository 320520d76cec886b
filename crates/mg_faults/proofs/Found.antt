-- What is found of files is all that is wrong with them, or that they are accepted.
use Rattle.std.proofs.Common.{◌≡◌, ◌<◌, List, [], ◌∷◌, length, Result, Ok, Err, IfOk, refl, sym, ap, ◌∙◌, subst, arith}
use Rattle.std.specs.List.Sorted.{IsPermutation, IsStableBy}
use Rattle.std.proofs.lemmas.List.Sorted.{length_permutation}
use Rattle.jv_core.specs.Tree as Core
use Rattle.use_rules.specs.declared.demand.Demand.{Demand}
use Rattle.use_rules.specs.inner.Order.{Mem}
use Rattle.use_rules.specs.Tables.{all_failed}
use Rattle.use_flow.specs.View.{tables_of, reached_of}
use Rattle.use_verdict.specs.declared.met.Usages.{Usages}
use Rattle.use_verdict.specs.Met.{AreUsages}
use Rattle.mg_refusal.specs.Refusals.{Refusal}
use Rattle.mg_sources.specs.Files.{Source}
use Rattle.mg_accepted.specs.Program.{HaveCore}
use Rattle.mg_accepted.specs.Accepted.{AreAccepted, FirstRefusal}
use Rattle.mg_accepted.proofs.OneCore.{one_core}
use Rattle.mg_accepted.proofs.Apart.{not_refused}
use Rattle.mg_faults.specs.Demands.{said_of, once, stands_before, AreFaults}
use Rattle.mg_faults.specs.Faults.{AllRefusals, usages}
use Rattle.mg_faults.specs.View.{IsFound, IsAccepted, IsToldOf}
use Rattle.mg_faults.specs.inner.Keys.{IsTold}
use Rattle.mg_faults.specs.declared.judged.Finding.{Finding}
use Rattle.mg_faults.specs.declared.judged.Finding.TheVariants as findings
use Rattle.mg_faults.proofs.Lines.{first_kept}
use Rattle.mg_faults.proofs.Laws.{first_is_among, none_where_accepted}

-- all demands that fail of a core that has some
module _ (files : List Source) (p : Core.Program) (have : HaveCore files p) (u : Usages) (are : AreUsages p u) (failed : List Demand)
    (is : failed ≡ u.failed.items) (some : 0 < length failed) (said : List Refusal) (told : IsTold p failed said) where
  abbrev all : List Demand
  all = all_failed p (reached_of u.tables) (tables_of u.tables)

  all_is : failed ≡ all
  all_is = is ∙ are.failed

  there_is_one : (xs : List Demand) → 0 < length xs → (y : Demand) × Mem y (once p xs)
  there_is_one [] lt = absurd (omega (arith, lt))
  there_is_one (x ∷ xs) lt = first_kept p x xs

  some_listed : 0 < length told.listed
  some_listed = let e : length told.listed ≡ length failed = length_permutation failed told.listed told.moves in omega (arith, some, e)

  pub all_told : AllRefusals files said
  all_told = go (once p told.listed) refl
    where
      go : (ds : List Demand) → ds ≡ once p told.listed → AllRefusals files said
      go [] e =
          let one = there_is_one told.listed some_listed in
          absurd (subst (Mem one.0) (sym e) one.1)
      go (d ∷ ds) e =
          let faults : AreFaults p (d ∷ ds) = record {
            reached = reached_of u.tables;
            are = are.made.reached;
            tables = tables_of u.tables;
            least = are.least;
            listed = told.listed;
            moves = subst (λ xs. IsPermutation xs told.listed) all_is told.moves;
            sorted = told.sorted;
            stable = subst (λ xs. IsStableBy stands_before xs told.listed) all_is told.stable;
            is = e;
          } in
          subst (AllRefusals files) (sym (told.is ∙ ap (said_of p) (sym e))) (usages p d ds have faults)

-- What follows from its being one answer.
module _ (files : List Source) where
  only_accepted : (f : Finding) → IsFound files f → (core : Core.Program) → AreAccepted files core → IsAccepted core f
  only_accepted (findings.Accepted a) h core k = one_core files a.core core h.files_are.have k.have
  only_accepted (findings.Refused rs) h core k = none_where_accepted files core rs.items k h

  told_of : (f : Finding) → IsFound files f → (r : Refusal) → FirstRefusal files r → IsToldOf r f
  told_of (findings.Accepted a) h r first = not_refused files a.core r h.files_are first
  told_of (findings.Refused rs) h r first = first_is_among files r rs.items first h

module _ {E : Type 0} (files : List Source) where
  pub accepted_found : (answer : Result Finding E) → IfOk answer (λ f. IsFound files f) → (core : Core.Program) → AreAccepted files core →
      IfOk answer (λ f. IsAccepted core f)
  accepted_found (Ok f) h core k = only_accepted files f h core k
  accepted_found (Err e) h core k = tt

  pub refused_found : (answer : Result Finding E) → IfOk answer (λ f. IsFound files f) → (r : Refusal) → FirstRefusal files r →
      IfOk answer (λ f. IsToldOf r f)
  refused_found (Ok f) h r first = told_of files f h r first
  refused_found (Err e) h r first = tt
