-- What is answered, by what is found of the files.
use Rattle.std.proofs.Common.{◌≡◌, ℕ, List, subst}
use Rattle.std.specs.Prelude.{Option, Some, None, Err, MatchOption}
use Rattle.std.specs.Str.{IsUtf8}
use Rattle.jv_core.specs.Tree.{Program}
use Rattle.mg_refusal.specs.Refusals.{Refusal}
use Rattle.mg_refusal.specs.declared.stop.Stop.{Stop}
use Rattle.mg_refusal.specs.declared.stop.Stop.TheVariants as stops
use Rattle.mg_refusal.specs.Order.{AnswersOnly}
use Rattle.mg_sources.specs.Files.{Source}
use Rattle.mg_accepted.specs.Program.{HaveCore}
use Rattle.lsp_sights.specs.Answers.{IsTold, told, none}

-- files that are refused have no core
pub none_had : (core : Program) (s : Stop) (r : Refusal) → s ≡ stops.Refused r → AnswersOnly (λ (x : Program). x ≡ core) (Err s) → ⊥
none_had core s r is h = subst (λ (z : Stop). AnswersOnly (λ (x : Program). x ≡ core) (Err z)) is h

module _ (files : List Source) (text : List ℕ) (o : Option Program) where
  abbrev pub Found : Option Program → Type 0
  Found x = MatchOption x ((core : Program) → ¬ HaveCore files core) (λ core. HaveCore files core)

  pub told_of : (Says : List ℕ → Program → Type 0) (Else : Type 0) (given : List ℕ) (core : Program) → given ≡ text → IsUtf8 text →
      Found o → o ≡ Some core → Says given core → IsTold files text (λ p. Says text p) Else
  told_of Says Else given core same utf8 found is says =
      told core (subst Found is found) utf8 (subst (λ (t : List ℕ). Says t core) same says)

  pub none_of : (Says : Program → Type 0) (Else : Type 0) → Found o → o ≡ None → Else → IsTold files text Says Else
  none_of Says Else found is other =
      let no : Found None = subst Found is found in none (λ core have utf8. no core have) other
