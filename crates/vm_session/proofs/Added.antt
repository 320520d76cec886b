-- Texts that stand in the table.
use Rattle.std.proofs.Common.{◌≡◌, ℕ, ◌+◌, ◌<◌, List, [], ◌∷◌, ◌++◌, length, get_or, refl, ap, ◌∙◌, arith, length-append}
use Rattle.mg_text.specs.Call.{Name}
use Rattle.vm_model.specs.declared.value.Value.{Value}
use Rattle.vm_model.specs.declared.value.Value.TheVariants as values
use Rattle.vm_model.specs.Machine.{Machine}
use Rattle.vm_model.specs.Step.{at_place, next}

last_of : (texts : List Name) (text : Name) → get_or (texts ++ text ∷ []) (length texts) [] ≡ text
last_of [] text = refl
last_of (x ∷ texts) text = last_of texts text

module _ (texts after : List Name) (text : Name) (n : ℕ) (number : n ≡ length texts) (is : after ≡ texts ++ text ∷ []) where
  pub added_within : n < length after
  added_within = omega (arith, number, ap length is, length-append texts (text ∷ []))

  pub added_says : get_or after n [] ≡ text
  added_says = ap (λ l. get_or l n []) is ∙ ap (λ k. get_or (texts ++ text ∷ []) k []) number ∙ last_of texts text

-- a text of the table stands on top, over what is left
module _ (after : List Name) (text : Name) (n : ℕ) (says : get_or after n [] ≡ text) (m mid new : Machine) (place : ℕ) (same : mid ≡ m)
    (at : place ≡ mid.frame.place) (left : Machine → List Value)
    (h : new ≡ at_place mid (place + 1) (left mid ++ values.Text (get_or after n []) ∷ [])) where
  pub text_on_top : new ≡ next m (left m ++ values.Text text ∷ [])
  text_on_top =
      h ∙ ap (λ k. at_place mid (k + 1) (left mid ++ values.Text (get_or after n []) ∷ [])) at
      ∙ ap (λ t. next t (left t ++ values.Text (get_or after n []) ∷ [])) same
      ∙ ap (λ t. next m (left m ++ values.Text t ∷ [])) says
