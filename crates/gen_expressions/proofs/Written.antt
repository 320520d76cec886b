-- What the code does to instructions and labels, as steps.
use Rattle.std.proofs.Common.{◌≡◌, ℕ, ◌≤◌, [], ◌∷◌, ◌++◌, length, sym, ap, ◌∙◌}
use Rattle.std.specs.Prelude.{slice_set}
use Rattle.std.proofs.lemmas.List.{map-append, length-map, set_past}
use Rattle.gen_expressions.specs.declared.coder.Coder.{Coder}
use Rattle.gen_expressions.specs.declared.coder.Draft.{Draft as KeptDraft}
use Rattle.gen_expressions.specs.declared.symbolic.Symbolic.{Symbolic}
use Rattle.gen_expressions.specs.View.{instr_of, instrs_of}
use Rattle.gen_expressions.specs.Held.{draft_in}
use Rattle.gen_expressions.specs.Drafting.{emit, with_label, with_label_here, next_label, placed}

module _ (c : Coder) (d e : KeptDraft) where
  pub put_is : (i : Symbolic) → e.instrs.items ≡ d.instrs.items ++ i ∷ [] → e.labels.items ≡ d.labels.items →
      draft_in c e ≡ emit (instr_of c.core.now i) (draft_in c d)
  unfolding draft_in emit
  put_is i h k =
      ap (λ xs. record { code = instrs_of c.core.now xs; labels = e.labels.items }) h
      ∙ ap (λ ls. record { code = instrs_of c.core.now (d.instrs.items ++ i ∷ []); labels = ls }) k
      ∙ ap (λ xs. record { code = xs; labels = d.labels.items }) (map-append (instr_of c.core.now) d.instrs.items (i ∷ []))

  pub open_is : e.instrs.items ≡ d.instrs.items → e.labels.items ≡ d.labels.items ++ 0 ∷ [] →
      draft_in c e ≡ with_label 0 (draft_in c d)
  unfolding draft_in with_label
  open_is h k =
      ap (λ xs. record { code = instrs_of c.core.now xs; labels = e.labels.items }) h
      ∙ ap (λ ls. record { code = instrs_of c.core.now d.instrs.items; labels = ls }) k

  pub mark_is : (place : ℕ) → place ≡ length d.instrs.items → e.instrs.items ≡ d.instrs.items → e.labels.items ≡ d.labels.items
      ++ place ∷ [] →
      draft_in c e ≡ with_label_here (draft_in c d)
  unfolding draft_in with_label_here
  mark_is place is h k =
      ap (λ xs. record { code = instrs_of c.core.now xs; labels = e.labels.items }) h
      ∙ ap (λ ls. record { code = instrs_of c.core.now d.instrs.items; labels = ls }) k
      ∙ ap (λ n. record { code = instrs_of c.core.now d.instrs.items; labels = d.labels.items ++ n ∷ [] })
      (is ∙ sym (length-map d.instrs.items (instr_of c.core.now)))

  pub close_is : (place l : ℕ) → place ≡ length d.instrs.items → e.instrs.items ≡ d.instrs.items → e.labels.items ≡ slice_set d.labels.items
      l place →
      draft_in c e ≡ placed l (draft_in c d)
  unfolding draft_in placed
  close_is place l is h k =
      ap (λ xs. record { code = instrs_of c.core.now xs; labels = e.labels.items }) h
      ∙ ap (λ ls. record { code = instrs_of c.core.now d.instrs.items; labels = ls }) k
      ∙ ap (λ n. record { code = instrs_of c.core.now d.instrs.items; labels = slice_set d.labels.items l n })
      (is ∙ sym (length-map d.instrs.items (instr_of c.core.now)))

pub close_past : (c : Coder) (d : KeptDraft) (l : ℕ) → length d.labels.items ≤ l → draft_in c d ≡ placed l (draft_in c d)
unfolding draft_in placed
close_past c d l le = ap (λ ls. record { code = instrs_of c.core.now d.instrs.items; labels = ls })
    (sym (set_past d.labels.items l (length (instrs_of c.core.now d.instrs.items)) le))

pub number_is : (c : Coder) (d : KeptDraft) (n : ℕ) → n ≡ length d.labels.items → n ≡ next_label (draft_in c d)
unfolding draft_in next_label
number_is c d n h = h

pub ruleset writes = (put_is, open_is, mark_is, close_is, close_past, number_is)
