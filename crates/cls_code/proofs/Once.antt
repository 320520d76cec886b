-- Bytes are one code at most, or have one fault.
use Rattle.std.proofs.Common.{◌≡◌, ◌⊎◌, ℕ, suc, ◌+◌, ◌<◌, ◌≤◌, List, [], ◌∷◌, ◌++◌, length, Option, Some, None, refl, sym, ap, subst, ◌∙◌}
use Rattle.std.proofs.Common.{append_assoc, append-nil, length-append, arith, inl, inr}
use Rattle.std.specs.List.{AllByRecursion}
use Rattle.cls_tree.specs.Tree.{Instr}
use Rattle.cls_tree.specs.Layout.{instr_bytes, code_from, code_bytes}
use Rattle.cls_tree.specs.Fits.{FitsInstr}
use Rattle.cls_tree.specs.Jumps.{first_outside}
use Rattle.cls_code.specs.declared.CodeFault.{CodeFault}
use Rattle.cls_code.specs.declared.CodeFault.TheVariants as faults
use Rattle.cls_code.specs.Code.{unfit, Decodes, Decoding, long, stuck, outside, whole, Instrs, Fault}
use Rattle.cls_code.specs.Answer.{DecodesOnce}
use Rattle.cls_code.proofs.Stands.{seen, same_instr}

-- nothing stands there
abbrev Ends : ℕ → List ℕ → Type 0
Ends place rest = unfit place rest ≡ None → ⊥

over : (place : ℕ) → Ends place []
unfolding unfit
over place e = absurd cc

-- an instruction stands where one was laid out
no_more : (place : ℕ) (j : Instr) (r s : List ℕ) → FitsInstr j → r ≡ instr_bytes place j ++ s → Ends place r → ⊥
no_more place j r s f e end = end (ap (unfit place) e ∙ (seen place j s f).none)

same_front : (place p q : ℕ) (is js : List Instr) (r s : List ℕ) → AllByRecursion FitsInstr is → AllByRecursion FitsInstr js
    → code_from place is ++ r ≡ code_from place js ++ s → p ≡ place + length (code_from place is) → q ≡ place + length (code_from place js)
    → Ends p r → Ends q s → (is ≡ js) × (r ≡ s)
same_front place p q [] [] r s fi fj e pe qe ep eq = (refl, e)
same_front place p q [] (j ∷ js) r s fi fj e pe qe ep eq =
    let at : p ≡ place = omega arith in
    absurd (no_more place j r (code_from (place + length (instr_bytes place j)) js ++ s) fj.0
    (e ∙ append_assoc (instr_bytes place j) (code_from (place + length (instr_bytes place j)) js) s) (subst (λ k. Ends k r) at ep))
same_front place p q (i ∷ is) [] r s fi fj e pe qe ep eq =
    let at : q ≡ place = omega arith in
    absurd (no_more place i s (code_from (place + length (instr_bytes place i)) is ++ r) fi.0
    (sym e ∙ append_assoc (instr_bytes place i) (code_from (place + length (instr_bytes place i)) is) r) (subst (λ k. Ends k s) at eq))
same_front place p q (i ∷ is) (j ∷ js) r s fi fj e pe qe ep eq =
    let a = code_from (place + length (instr_bytes place i)) is in
    let b = code_from (place + length (instr_bytes place j)) js in
    let one = same_instr place i j (a ++ r) (b ++ s) fi.0 fj.0 (sym (append_assoc (instr_bytes place i) a r) ∙ e ∙
    append_assoc (instr_bytes place j) b s) in
    let b_is : code_from (place + length (instr_bytes place j)) js ≡ code_from (place + length (instr_bytes place i)) js =
    ap (λ k. code_from (place + length (instr_bytes place k)) js) (sym one.0) in
    let n_is : length (instr_bytes place j) ≡ length (instr_bytes place i) = ap (λ k. length (instr_bytes place k)) (sym one.0) in
    let m_is = ap length b_is in
    let rest = same_front (place + length (instr_bytes place i)) p q is js r s fi.1 fj.1 (one.1 ∙ ap (λ bs. bs ++ s) b_is)
    (omega (arith, length-append (instr_bytes place i) a)) (omega (arith, n_is, m_is, length-append (instr_bytes place j) b)) ep eq in
    (ap (λ k. k ∷ is) one.0 ∙ ap (λ ks. j ∷ ks) rest.0, rest.1)

module _ (bytes : List ℕ) where
  -- where two layouts end, they are one
  one_layout : (is js : List Instr) (r s : List ℕ) → AllByRecursion FitsInstr is → AllByRecursion FitsInstr js → bytes ≡ code_bytes is ++ r
      → bytes ≡ code_bytes js ++ s
      → Ends (length (code_bytes is)) r → Ends (length (code_bytes js)) s → (is ≡ js) × (r ≡ s)
  one_layout is js r s fi fj ei ej endi endj =
      same_front 0 (length (code_bytes is)) (length (code_bytes js)) is js r s fi fj (sym ei ∙ ej) (omega arith) (omega arith) endi endj

  no_fault : (place : ℕ) (rest : List ℕ) (fault : CodeFault) → unfit place rest ≡ Some fault → Ends place rest
  no_fault place rest fault e none = absurd cc

  -- nothing is stuck where all is laid out
  not_stuck : (is front : List Instr) (rest : List ℕ) (fault : CodeFault) → AllByRecursion FitsInstr is → 0 < length is →
      bytes ≡ code_bytes is
      → AllByRecursion FitsInstr front → bytes ≡ code_bytes front ++ rest → (0 < length rest) ⊎ (front ≡ []) →
      unfit (length (code_bytes front)) rest ≡ Some fault → ⊥
  not_stuck is front rest fault fi some ei fr er ends u =
      let one = one_layout is front [] rest fi fr (ei ∙ sym (append-nil (code_bytes is))) er (over (length (code_bytes is)))
      (no_fault (length (code_bytes front)) rest fault u) in
      elim ends [
        | inl lt ↦ let e = ap length one.1 in omega arith
        | inr none ↦ let e = ap length (one.0 ∙ none) in omega arith
      ]

  all_same : (is js : List Instr) → AllByRecursion FitsInstr is → AllByRecursion FitsInstr js → bytes ≡ code_bytes is →
      bytes ≡ code_bytes js → is ≡ js
  all_same is js fi fj ei ej =
      (one_layout is js [] [] fi fj (ei ∙ sym (append-nil (code_bytes is))) (ej ∙ sym (append-nil (code_bytes js)))
      (over (length (code_bytes is))) (over (length (code_bytes js)))).0

  same_some : {A : Type 0} (x y : A) → Some x ≡ Some y → x ≡ y
  same_some x y e = cc

  once : (a b : Decoding) → Decodes bytes a → Decodes bytes b → a ≡ b
  once _ _ (long h) (long k) = refl
  once _ _ (long h) (stuck rest l f e ends u) = absurd (omega arith)
  once _ _ (long h) (outside is l f e o) = absurd (omega arith)
  once _ _ (long h) (whole f s e) = absurd (let n = ap length e in let k = s.short in omega arith)
  once _ _ (stuck rest l f e ends u) (long h) = absurd (omega arith)
  once _ _ (stuck {front = x} r {fault = p} l f e ends u) (stuck {front = y} s {fault = q} m g d ends' v) =
      let one = one_layout x y r s f g e d (no_fault (length (code_bytes x)) r p u) (no_fault (length (code_bytes y)) s q v) in
      ap Fault (same_some p q (sym u ∙ ap (λ k. unfit (length (code_bytes k)) r) one.0 ∙ ap (unfit (length (code_bytes y))) one.1 ∙ v))
  once _ _ (stuck {front = x} r {fault = p} l f e ends u) (outside is m g d o) = absurd (not_stuck is x r p g.0 g.1 d f e ends u)
  once _ _ (stuck {front = x} r {fault = p} l f e ends u) (whole {is = is} g s d) = absurd (not_stuck is x r p g.0 g.1 d f e ends u)
  once _ _ (outside is l f e o) (long h) = absurd (omega arith)
  once _ _ (outside is l f e o) (stuck {front = x} r {fault = p} m g d ends u) = absurd (not_stuck is x r p f.0 f.1 e g d ends u)
  once _ _ (outside is {place = p} l f e o) (outside js {place = q} m g d o') =
      ap (λ n. Fault (faults.JumpOutside n)) (same_some p q (sym o ∙ ap first_outside (all_same is js f.0 g.0 e d) ∙ o'))
  once _ _ (outside is l f e o) (whole {is = js} g s d) =
      absurd (let k = sym o ∙ ap first_outside (all_same is js f.0 g.0 e d) ∙ s.inside in cc)
  once _ _ (whole f s e) (long h) = absurd (let n = ap length e in let k = s.short in omega arith)
  once _ _ (whole {is = is} g s d) (stuck {front = x} r {fault = p} l f e ends u) = absurd (not_stuck is x r p g.0 g.1 d f e ends u)
  once _ _ (whole {is = js} g s d) (outside is l f e o) =
      absurd (let k = sym o ∙ ap first_outside (all_same is js f.0 g.0 e d) ∙ s.inside in cc)
  once _ _ (whole {is = is} f s e) (whole {is = js} g t d) = ap Instrs (all_same is js f.0 g.0 e d)

pub decodes_once : DecodesOnce
decodes_once bytes a b x y = once bytes a b x y
