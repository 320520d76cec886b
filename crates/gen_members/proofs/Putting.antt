-- The loop over the fields.
use Rattle.std.proofs.Common.{◌≡◌, ℕ, suc, ◌+◌, ◌<◌, List, ◌∷◌, ◌++◌, length, map, drop, get_or, sym, ap, ◌∙◌, append_assoc, add-one}
use Rattle.std.proofs.lemmas.List.{at_drop_more}
use Rattle.jv_core.specs.declared.program.CoreField.{CoreField}
use Rattle.jv_core.specs.Tree.{Program}
use Rattle.jv_core.specs.View.{field_of}
use Rattle.gen_rules.specs.Symbolic.{Instr}
use Rattle.gen_rules.specs.Classes.{initialised, all_initialised}

module _ (p : Program) (class n : ℕ) (kept : List CoreField) where
  abbrev left : ℕ → List CoreField → List Instr
  left m fields = all_initialised p class m (map field_of fields)

  -- one more is set
  pub put_more : (x : CoreField) (old new all : List Instr) → n < length kept → x ≡ get_or kept n x →
      new ≡ old ++ initialised p class n (field_of x).value → old ++ all_initialised p class n (map field_of (drop n kept)) ≡ all →
      new ++ all_initialised p class (n + 1) (map field_of (drop (n + 1) kept)) ≡ all
  put_more x old new all within is put l =
      let cut : drop n kept ≡ x ∷ drop (n + 1) kept
      = at_drop_more (λ ys. ys) kept n x within ∙ ap (λ y. y ∷ drop (n + 1) kept) (sym is) in
      ap (λ m. new ++ left m (drop (n + 1) kept)) (add-one n)
      ∙ ap (λ is. is ++ left (suc n) (drop (n + 1) kept)) put
      ∙ append_assoc old (initialised p class n (field_of x).value) (left (suc n) (drop (n + 1) kept))
      ∙ ap (λ fields. old ++ left n fields) (sym cut) ∙ l
