-- What is made of a method and judged.
use Rattle.std.proofs.Common.{◌≡◌, ℕ, List, [], ◌∷◌, length, drop, codes, sym, ap, ap₂, ◌∙◌, subst}
use Rattle.cls_tree.specs.declared.class.Const.{Const}
use Rattle.cls_tree.specs.Tree as file
use Rattle.cls_tree.specs.Layout.{code_bytes}
use Rattle.cls_tree.specs.Emitted.{utf8}
use Rattle.jv_core.specs.Tree.{Class, Program}
use Rattle.gen_rules.specs.Assembled.{assembled}
use Rattle.gen_rules.specs.Classes.{Compiled, code_in_file, method_in_file}
use Rattle.gen_rules.specs.Limits.{OfMethod, exceeded, exceeded_by, exceeded_by_code}
use Rattle.gen_pool.specs.Made.{IsMade}
use Rattle.gen_members.specs.Laid.{Laid, laid, finals}
use Rattle.gen_members.proofs.Assembling.{pool_is, code_is, size_is, as_many}

abbrev pub member_with : Compiled → (name descriptor code_name : ℕ) → List file.Instr → file.Member
member_with c n d k is = record {
  access = c.access;
  name = n;
  descriptor = d;
  attributes = file.Coded (record { name = k; max_stack = c.max_stack; max_locals = c.max_locals; instrs = is; attributes = [] }) ∷ [];
}

abbrev pub finals_of : Compiled → Laid → List file.Instr
finals_of c l = finals l.starts l.starts c.code l.numbers

-- the steps of a method: its name, its descriptor, the text `Code`, and its code
module _ (c : Compiled) (pool p1 p2 p3 p4 : List Const) (n d k : ℕ) (l : Laid) (name : IsMade n p1 (utf8 c.name pool))
    (descriptor : IsMade d p2 (utf8 c.descriptor p1)) (code : IsMade k p3 (utf8 (codes "Code") p2)) (lay : IsMade l p4 (laid 0 c.code p3))
  where
    abbrev before : List Const
    before = (utf8 (codes "Code") (utf8 c.descriptor (utf8 c.name pool).1).1).1

    third : p3 ≡ before
    third = code.left ∙ ap (λ q. (utf8 (codes "Code") q).1) (descriptor.left ∙ ap (λ q. (utf8 c.descriptor q).1) name.left)

    laid_here : l ≡ (laid 0 c.code before).0
    laid_here = lay.value ∙ ap (λ q. (laid 0 c.code q).0) third

    pool_here : p4 ≡ (method_in_file c pool).1
    pool_here = lay.left ∙ ap (λ q. (laid 0 c.code q).1) third ∙ pool_is c.code before

    pub member_made : IsMade (member_with c n d k (finals_of c l)) p4 (method_in_file c pool)
    member_made = record {
      value =
          ap (λ x. member_with c x d k (finals_of c l)) name.value
          ∙ ap (λ x. member_with c (utf8 c.name pool).0 x k (finals_of c l)) (descriptor.value ∙ ap (λ q. (utf8 c.descriptor q).0)
          name.left)
          ∙ ap (λ x. member_with c (utf8 c.name pool).0 (utf8 c.descriptor (utf8 c.name pool).1).0 x (finals_of c l))
          (code.value ∙ ap (λ q. (utf8 (codes "Code") q).0) (descriptor.left ∙ ap (λ q. (utf8 c.descriptor q).1) name.left))
          ∙ ap (λ x. member_with c (utf8 c.name pool).0 (utf8 c.descriptor (utf8 c.name pool).1).0
          (utf8 (codes "Code") (utf8 c.descriptor (utf8 c.name pool).1).1).0 x)
          (ap (finals_of c) laid_here ∙ code_is c.code before);
      left = pool_here;
    }

    -- what is judged
    pub judged_as : (p : Program) (class : Class) (old : ℕ) → old ≡ length pool →
        exceeded l.end c.max_locals p4 (drop old p4) ≡ exceeded_by p class (OfMethod c) pool
    judged_as p class old o =
        ap (λ x. exceeded x c.max_locals p4 (drop old p4)) (ap (λ x. x.end) laid_here ∙ size_is c.code before)
        ∙ ap₂ (λ q m. exceeded (length (code_bytes (assembled c.code before).0)) c.max_locals q (drop m q)) pool_here o

    -- each instruction has a number and a place
    pub many : (length l.numbers ≡ length c.code) × (length l.starts ≡ length c.code)
    many = subst (λ x. (length x.numbers ≡ length c.code) × (length x.starts ≡ length c.code)) (sym laid_here) (as_many 0 c.code before)

abbrev pub code_with : Compiled → (name : ℕ) → List file.Instr → file.Code
code_with c k is = record { name = k; max_stack = c.max_stack; max_locals = c.max_locals; instrs = is; attributes = [] }

-- the steps of a code alone: the text `Code`, and the code
module _ (c : Compiled) (pool p1 p2 : List Const) (k : ℕ) (l : Laid) (code : IsMade k p1 (utf8 (codes "Code") pool))
    (lay : IsMade l p2 (laid 0 c.code p1)) where
  abbrev named : List Const
  named = (utf8 (codes "Code") pool).1

  laid_alone : l ≡ (laid 0 c.code named).0
  laid_alone = lay.value ∙ ap (λ q. (laid 0 c.code q).0) code.left

  pool_alone : p2 ≡ (code_in_file c pool).1
  pool_alone = lay.left ∙ ap (λ q. (laid 0 c.code q).1) code.left ∙ pool_is c.code named

  pub code_made : IsMade (code_with c k (finals_of c l)) p2 (code_in_file c pool)
  code_made = record {
    value =
        ap (λ x. code_with c x (finals_of c l)) code.value
        ∙ ap (code_with c (utf8 (codes "Code") pool).0) (ap (finals_of c) laid_alone ∙ code_is c.code named);
    left = pool_alone;
  }

  -- what is judged
  pub judged_alone : (old : ℕ) → old ≡ length pool → exceeded l.end c.max_locals p2 (drop old p2) ≡ exceeded_by_code c pool
  judged_alone old o =
      ap (λ x. exceeded x c.max_locals p2 (drop old p2)) (ap (λ x. x.end) laid_alone ∙ size_is c.code named)
      ∙ ap₂ (λ q m. exceeded (length (code_bytes (assembled c.code named).0)) c.max_locals q (drop m q)) pool_alone o

  -- each instruction has a number and a place
  pub many_alone : (length l.numbers ≡ length c.code) × (length l.starts ≡ length c.code)
  many_alone = subst (λ x. (length x.numbers ≡ length c.code) × (length x.starts ≡ length c.code)) (sym laid_alone) (as_many 0 c.code named)
