-- The instructions of a code, judged one after another.
use Rattle.std.proofs.Common.{◌≡◌, ℕ, zero, suc, ◌+◌, ◌<◌, ◌≤◌, List, [], ◌∷◌, ◌++◌, length, drop, get_or, Option, Result, Ok, Err, IfOk}
use Rattle.std.proofs.Common.{OnOk, refl, sym, ap, ◌∙◌, arith, add-one, append-nil}
use Rattle.std.proofs.Math.Seq.{drop-cons}
use Rattle.std.proofs.lemmas.List.{append_assoc}
use Rattle.mg_text.specs.declared.memory.Memory.{Memory}
use Rattle.cls_tree.specs.declared.class.Const.{Const}
use Rattle.cls_tree.specs.declared.instr.Instr.{Instr as Kept}
use Rattle.cls_tree.specs.Tree.{Instr as Read}
use Rattle.cls_tree.specs.View.{instr_of, instrs_of}
use Rattle.cls_tree.specs.Layout.{instr_bytes}
use Rattle.cls_tree.specs.Jumps.{starts_from}
use Rattle.vm_model.specs.View as model
use Rattle.vm_model.specs.Program.{Instr}
use Rattle.vm_model.specs.Links.{Flaw, Outline, lower, least, right_in, wrong_in, judged_instr, judged_from}
use Rattle.vm_load.specs.declared.fault.LoadFault.{LoadFault}
use Rattle.vm_load.specs.declared.fault.LoadFault.TheVariants as faults
use Rattle.vm_load.specs.Faults.{Judges, flaw_of}
use Rattle.vm_load.proofs.Lower.{wrong-more, right-more, none_right}

-- the first of what is left, and the rest
front_of : (kept : List Kept) (k : ℕ) (d : Kept) → k < length kept → instrs_of (drop k kept) ≡ instr_of (get_or kept k d) ∷ instrs_of
    (drop (k + 1) kept)
front_of kept k d lt = ap instrs_of (drop-cons kept k d lt) ∙ ap (λ n. instr_of (get_or kept k d) ∷ instrs_of (drop n kept))
    (sym (add-one k))

pub drop_whole : {A : Type 0} (xs : List A) (k : ℕ) → length xs ≤ k → drop k xs ≡ []
drop_whole [] zero h = refl
drop_whole [] (suc k) h = refl
drop_whole (x ∷ xs) zero h = absurd (omega arith)
drop_whole (x ∷ xs) (suc k) h = drop_whole xs k (omega arith)

nothing_left : (kept : List Kept) (k : ℕ) → length kept ≤ k → instrs_of (drop k kept) ≡ []
nothing_left kept k h = ap instrs_of (drop_whole kept k h)

one_start : (place : ℕ) (i : Read) (is : List Read) → starts_from place (i ∷ is) ≡ place ∷ starts_from
    (place + length (instr_bytes place i)) is
unfolding starts_from
one_start place i is = refl

no_start : (place : ℕ) → starts_from place [] ≡ []
unfolding starts_from
no_start place = refl

pub starts_next : (kept : List Kept) (k : ℕ) (d : Kept) (front : List ℕ) (place w : ℕ) (total : List ℕ) → k < length kept →
    front ++ starts_from place (instrs_of (drop k kept)) ≡ total → w ≡ length (instr_bytes place (instr_of (get_or kept k d))) →
    (front ++ place ∷ []) ++ starts_from (place + w) (instrs_of (drop (k + 1) kept)) ≡ total
starts_next kept k d front place w total lt e width =
    ap (λ n. (front ++ place ∷ []) ++ starts_from (place + n) (instrs_of (drop (k + 1) kept))) width
    ∙ append_assoc front (place ∷ []) (starts_from (place + length (instr_bytes place (instr_of (get_or kept k d))))
    (instrs_of (drop (k + 1) kept)))
    ∙ ap (λ l. front ++ l) (sym (one_start place (instr_of (get_or kept k d)) (instrs_of (drop (k + 1) kept))))
    ∙ ap (λ is. front ++ starts_from place is) (sym (front_of kept k d lt)) ∙ e

pub starts_done : (kept : List Kept) (k : ℕ) (front : List ℕ) (place : ℕ) (total : List ℕ) → length kept ≤ k →
    front ++ starts_from place (instrs_of (drop k kept)) ≡ total → front ≡ total
starts_done kept k front place total h e =
    sym (append-nil front) ∙ ap (λ l. front ++ l) (sym (no_start place)) ∙ ap (λ is. front ++ starts_from place is)
    (sym (nothing_left kept k h)) ∙ e

module _ (os : List Outline) (pool : List Const) (starts : List ℕ) (kept : List Kept) (k : ℕ) (d : Kept) (place w : ℕ)
    (lt : k < length kept)
    (width : w ≡ length (instr_bytes place (instr_of (get_or kept k d)))) where
  rest_is : judged_from os pool starts place (instrs_of (drop k kept))
      ≡ judged_instr os pool starts place (instr_of (get_or kept k d)) ∷ judged_from os pool starts (place + w)
      (instrs_of (drop (k + 1) kept))
  rest_is = ap (judged_from os pool starts place) (front_of kept k d lt)
      ∙ ap (λ n. judged_instr os pool starts place (instr_of (get_or kept k d)) ∷ judged_from os pool starts (place + n)
      (instrs_of (drop (k + 1) kept))) (sym width)

  pub right_next : (front more total : List Instr) → front ++ right_in (judged_from os pool starts place (instrs_of (drop k kept))) ≡ total
      →
      more ≡ front ++ right_in (judged_instr os pool starts place (instr_of (get_or kept k d)) ∷ []) →
      more ++ right_in (judged_from os pool starts (place + w) (instrs_of (drop (k + 1) kept))) ≡ total
  right_next front more total e added =
      ap (λ l. l ++ right_in (judged_from os pool starts (place + w) (instrs_of (drop (k + 1) kept)))) added
      ∙ right-more front (judged_instr os pool starts place (instr_of (get_or kept k d)))
      (judged_from os pool starts (place + w) (instrs_of (drop (k + 1) kept)))
      ∙ ap (λ l. front ++ right_in l) (sym rest_is) ∙ e

  pub wrong_next : (best more total : Option Flaw) →
      lower best (least (wrong_in (judged_from os pool starts place (instrs_of (drop k kept))))) ≡ total →
      more ≡ lower best (least (wrong_in (judged_instr os pool starts place (instr_of (get_or kept k d)) ∷ []))) →
      lower more (least (wrong_in (judged_from os pool starts (place + w) (instrs_of (drop (k + 1) kept))))) ≡ total
  wrong_next best more total e noted =
      ap (λ b. lower b (least (wrong_in (judged_from os pool starts (place + w) (instrs_of (drop (k + 1) kept)))))) noted
      ∙ wrong-more best (judged_instr os pool starts place (instr_of (get_or kept k d)))
      (judged_from os pool starts (place + w) (instrs_of (drop (k + 1) kept)))
      ∙ ap (λ l. lower best (least (wrong_in l))) (sym rest_is) ∙ e

-- what is noted of an instruction that isn't right
pub right_err : {B : Type 0} (r : Result B Memory) (fault : LoadFault) (wanted : Result Instr Flaw) (xs : List Instr) →
    IfOk r (λ _. fault ≡ faults.Memory → ⊥) →
    Judges model.instr_of (Err fault) wanted → OnOk r (xs ≡ xs ++ right_in (wanted ∷ []))
right_err (Ok b) fault wanted xs m h = sym (ap (λ l. xs ++ l) (none_right fault wanted h m).0 ∙ append-nil xs)
right_err (Err e) fault wanted xs m h = tt

pub wrong_err : (r : Result (Unit {0}) Memory) (fault : LoadFault) (wanted : Result Instr Flaw) (best new : Option Flaw) →
    IfOk r (λ _. fault ≡ faults.Memory → ⊥) → OnOk r (new ≡ lower best (flaw_of fault)) → Judges model.instr_of (Err fault) wanted →
    OnOk r (new ≡ lower best (least (wrong_in (wanted ∷ []))))
wrong_err (Ok b) fault wanted best new m e h = e ∙ ap (λ f. lower best f) (sym (none_right fault wanted h m).1)
wrong_err (Err x) fault wanted best new m e h = tt

-- the same of a borrowed instruction
module _ (os : List Outline) (pool : List Const) (starts : List ℕ) (kept : List Kept) (k : ℕ) (item : Kept) (place w : ℕ)
    (lt : k < length kept)
    (is : item ≡ get_or kept k item) (width : w ≡ length (instr_bytes place (instr_of item))) where
  pub starts_on : (front more total : List ℕ) → front ++ starts_from place (instrs_of (drop k kept)) ≡ total → more ≡ front ++ place ∷ [] →
      more ++ starts_from (place + w) (instrs_of (drop (k + 1) kept)) ≡ total
  starts_on front more total e added =
      ap (λ l. l ++ starts_from (place + w) (instrs_of (drop (k + 1) kept))) added
      ∙ starts_next kept k item front place w total lt e (width ∙ ap (λ i. length (instr_bytes place (instr_of i))) is)

  pub right_on : (front more total : List Instr) → front ++ right_in (judged_from os pool starts place (instrs_of (drop k kept))) ≡ total →
      more ≡ front ++ right_in (judged_instr os pool starts place (instr_of item) ∷ []) →
      more ++ right_in (judged_from os pool starts (place + w) (instrs_of (drop (k + 1) kept))) ≡ total
  right_on front more total e added =
      right_next os pool starts kept k item place w lt (width ∙ ap (λ i. length (instr_bytes place (instr_of i))) is) front more total e
      (added ∙ ap (λ i. front ++ right_in (judged_instr os pool starts place (instr_of i) ∷ [])) is)

  pub wrong_on : (best more total : Option Flaw) →
      lower best (least (wrong_in (judged_from os pool starts place (instrs_of (drop k kept))))) ≡ total →
      more ≡ lower best (least (wrong_in (judged_instr os pool starts place (instr_of item) ∷ []))) →
      lower more (least (wrong_in (judged_from os pool starts (place + w) (instrs_of (drop (k + 1) kept))))) ≡ total
  wrong_on best more total e noted =
      wrong_next os pool starts kept k item place w lt (width ∙ ap (λ i. length (instr_bytes place (instr_of i))) is) best more total e
      (noted ∙ ap (λ i. lower best (least (wrong_in (judged_instr os pool starts place (instr_of i) ∷ [])))) is)
