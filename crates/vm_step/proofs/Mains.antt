-- Whether a class has a `main`.
use Rattle.std.proofs.Common.{◌≡◌, ℕ, false, Option, Some, None, IsTrue, ◌↔◌, refl, sym, ap, ◌∙◌}
use Rattle.std.specs.Prelude.{is_some}
use Rattle.mg_text.specs.Call.{Name}
use Rattle.vm_model.specs.Program.{Program, class_at}
use Rattle.vm_model.specs.Start.{class_named, main_in}
use Rattle.vm_step.specs.Main.{HasMain}

module _ (p : Program) (name : Name) where
  pub no_class : None ≡ class_named p name → HasMain p name → ⊥
  no_class e h = let f = h.is.has_class in cc (e, f)

  pub main_there : (class method : ℕ) → Some class ≡ class_named p name → Some method ≡ main_in (class_at p class) → HasMain p name
  main_there class method e f = record { class = class; method = method; is = record { has_class = sym e; has_main = sym f } }

  same_class : (class other : ℕ) → Some class ≡ class_named p name → class_named p name ≡ Some other → class ≡ other
  same_class class other e f = cc (e, f)

  pub no_main : (class : ℕ) → Some class ≡ class_named p name → None ≡ main_in (class_at p class) → HasMain p name → ⊥
  no_main class e f h =
      let same : class ≡ h.class = same_class class h.class e h.is.has_class in
      let other : None ≡ main_in (class_at p h.class) = f ∙ ap (λ c. main_in (class_at p c)) same in
      let found = h.is.has_main in
      cc (other, found)

  pub has_main_is : (class : ℕ) (o : Option ℕ) → Some class ≡ class_named p name → o ≡ main_in (class_at p class) → IsTrue
      (is_some o) ↔ HasMain p name
  has_main_is class None e f = (λ h. absurd (cc h), λ h. absurd (no_main class e f h))
  has_main_is class (Some method) e f = (λ h. main_there class method e f, λ h. refl)

  pub has_none : None ≡ class_named p name → IsTrue false ↔ HasMain p name
  has_none e = (λ h. absurd (cc h), λ h. absurd (no_class e h))
