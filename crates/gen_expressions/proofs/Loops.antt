-- Loops: what is left of a list, and what was passed.
use Rattle.std.proofs.Common.{◌≡◌, ◌<◌, ◌≤◌, ℕ, zero, suc, ◌+◌, ◌-◌, List, [], ◌∷◌, ◌++◌, length, map, drop, take, get_or, true, false}
use Rattle.std.proofs.Common.{sym, ap, ◌∙◌, arith, if◌then◌else◌, nat_eq, add-one}
use Rattle.std.specs.Prelude.{reverse}
use Rattle.std.proofs.lemmas.List.{at_drop_more, at_drop_all, take_more, reverse-append, length-reverse, length-take-le, take_all}
use Rattle.jv_core.specs.declared.program.MethodKind.{MethodKind}
use Rattle.jv_core.specs.declared.tree.CoreExpr.{CoreExpr}
use Rattle.jv_core.specs.Tree.{Program, Method}
use Rattle.jv_core.specs.View.{expr_of, exprs_of}
use Rattle.jv_core.specs.Numbering.{numbers_from}
use Rattle.gen_rules.specs.Locals.{first_local, next_local, local_of}
use Rattle.gen_expressions.specs.Drafting.{Draft, with_label, with_labels, value, arguments}

pub drop_at : {X : Type 0} (xs : List X) (i : ℕ) (x : X) → i < length xs → x ≡ get_or xs i x → drop i xs ≡ x ∷ drop (i + 1) xs
drop_at xs i x within is = at_drop_more (λ ys. ys) xs i x within ∙ ap (λ y. y ∷ drop (i + 1) xs) (sym is)

pub drop_done : {X : Type 0} (xs : List X) (i : ℕ) → length xs ≤ i → drop i xs ≡ []
drop_done xs i le = at_drop_all (λ ys. ys) xs i le

-- labels that are opened
pub opened_more : (n i : ℕ) (d e t : Draft) → i < n → e ≡ with_label 0 d → with_labels (n - i) d ≡ t → with_labels (n - (i + 1)) e ≡ t
opened_more n i d e t lt is h =
    ap (with_labels (n - (i + 1))) is ∙ (let k : suc (n - (i + 1)) ≡ n - i = omega (arith, lt) in ap (λ j. with_labels j d) k) ∙ h

pub opened_done : (n i : ℕ) (d t : Draft) → n ≤ i → with_labels (n - i) d ≡ t → d ≡ t
opened_done n i d t le h = (let k : zero ≡ n - i = omega (arith, le) in ap (λ j. with_labels j d) k) ∙ h

pub opened_start : (n : ℕ) (d : Draft) → with_labels (n - 0) d ≡ with_labels n d
opened_start n d = (let k : n - 0 ≡ n = omega arith in ap (λ j. with_labels j d) k)

-- slots in scope
module _ (kind : MethodKind) (slots : List ℕ) (slot : ℕ) where
  scope_more : (i : ℕ) → i < length slots → reverse (take (i + 1) slots) ≡ get_or slots i 0 ∷ reverse (take i slots)
  scope_more i lt = ap reverse (take_more slots i 0 lt) ∙ reverse-append (take i slots) (get_or slots i 0 ∷ [])

  pub slot_found : (i n total : ℕ) → i < length slots → nat_eq (get_or slots i 0) slot ≡ true → n ≡ first_local kind + i →
      local_of kind (reverse (take (i + 1) slots)) slot ≡ total → n ≡ total
  slot_found i n total lt e is h =
      is ∙ ap (λ k. first_local kind + k) (sym (length-reverse (take i slots) ∙ length-take-le i slots (omega (arith, lt))))
      ∙ ap (λ b. if b then next_local kind (reverse (take i slots)) else local_of kind (reverse (take i slots)) slot) (sym e)
      ∙ sym (ap (λ s. local_of kind s slot) (scope_more i lt)) ∙ h

  pub slot_passed : (i total : ℕ) → i < length slots → nat_eq (get_or slots i 0) slot ≡ false →
      local_of kind (reverse (take (i + 1) slots)) slot ≡ total → local_of kind (reverse (take i slots)) slot ≡ total
  slot_passed i total lt e h =
      ap (λ b. if b then next_local kind (reverse (take i slots)) else local_of kind (reverse (take i slots)) slot) (sym e)
      ∙ sym (ap (λ s. local_of kind s slot) (scope_more i lt)) ∙ h

-- numbers, one more at the end
numbers_end : (k n : ℕ) → numbers_from k (suc n) ≡ numbers_from k n ++ (k + n) ∷ []
numbers_end k zero = (let e : k ≡ k + 0 = omega arith in ap (λ j. j ∷ []) e)
numbers_end k (suc n) =
    ap (λ xs. k ∷ xs) (numbers_end (suc k) n)
    ∙ (let e : suc k + n ≡ k + suc n = omega arith in ap (λ j. k ∷ numbers_from (suc k) n ++ j ∷ []) e)

pub numbers_last : (n : ℕ) → numbers_from 0 (n + 1) ≡ numbers_from 0 n ++ n ∷ []
numbers_last n = ap (numbers_from 0) (add-one n) ∙ numbers_end 0 n ∙
    (let e : 0 + n ≡ n = omega arith in ap (λ j. numbers_from 0 n ++ j ∷ []) e)

pub params_more : (n : ℕ) (s t : List ℕ) → s ≡ reverse (numbers_from 0 n) → t ≡ n ∷ s → t ≡ reverse (numbers_from 0 (n + 1))
params_more n s t is e =
    e ∙ ap (λ xs. n ∷ xs) is ∙ sym (ap reverse (numbers_last n) ∙ reverse-append (numbers_from 0 n) (n ∷ []))

pub slots_all : (kind : MethodKind) (slots : List ℕ) (slot : ℕ) → local_of kind (reverse (take (length slots) slots)) slot ≡ local_of kind
    (reverse slots) slot
slots_all kind slots slot = ap (λ xs. local_of kind (reverse xs) slot) (take_all (length slots) slots (omega arith))

pub ruleset scopes = (slot_found, slot_passed, slots_all)

module _ (p : Program) (m : Method) (scope : List ℕ) (es : List CoreExpr) (i : ℕ) (d : Draft) (total : Draft)
    (h : arguments p m scope (exprs_of (map expr_of (drop i es))) d ≡ total) where
  pub argument_more : (e : CoreExpr) (d' : Draft) → i < length es → e ≡ get_or es i e → d' ≡ value p m scope (expr_of e) d →
      arguments p m scope (exprs_of (map expr_of (drop (i + 1) es))) d' ≡ total
  argument_more e d' within is k =
      ap (arguments p m scope (exprs_of (map expr_of (drop (i + 1) es)))) k
      ∙ sym (ap (λ (ys : List CoreExpr). arguments p m scope (exprs_of (map expr_of ys)) d) (drop_at es i e within is)) ∙ h

  pub arguments_done : length es ≤ i → d ≡ total
  arguments_done le = sym (ap (λ (ys : List CoreExpr). arguments p m scope (exprs_of (map expr_of ys)) d) (drop_done es i le)) ∙ h

pub ruleset given = (argument_more, arguments_done)

pub ruleset opened = (opened_more, opened_done, opened_start)

pub ruleset params = (params_more)
