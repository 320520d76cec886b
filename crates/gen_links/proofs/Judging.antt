-- Code that is assembled of right instructions is judged to be the code that is expected.
use Rattle.std.proofs.Common.{◌≡◌, inl, inr, ℕ, ℤ, pos, ◌+◌, ◌<◌, ◌+ℤ◌, List, [], ◌∷◌, ◌++◌, length}
use Rattle.std.proofs.Common.{map, Bool, true, false, Option, Some, Result}
use Rattle.std.proofs.Common.{Ok, nat_lt, if◌then◌else◌, refl, sym, ap, ap₂, ◌∙◌, subst}
use Rattle.std.proofs.lemmas.List.{length-map}
use Rattle.std.specs.List.{AllByRecursion}
use Rattle.cls_tree.specs.declared.class.Const.{Const}
use Rattle.cls_tree.specs.declared.class.Const.TheVariants.{Integer}
use Rattle.cls_tree.specs.Pool.{Int, Letters, field_at, method_at}
use Rattle.cls_tree.specs.Tree as file
use Rattle.cls_tree.specs.Layout.{instr_bytes}
use Rattle.cls_tree.specs.Jumps.{starts_from}
use Rattle.vm_model.specs.Program.{Args}
use Rattle.vm_model.specs.Program as machine
use Rattle.vm_model.specs.Linked.{fits_code}
use Rattle.vm_model.specs.Links.{Flaw, Outline, loaded, args_by, member_args}
use Rattle.vm_model.specs.Links.{judged_new, or_empty}
use Rattle.vm_model.specs.Links.{judged_pool, judged_field_reference, judged_method_reference, pushed_args, started}
use Rattle.vm_model.specs.Links.{with_op, judged_instr, judged_from, judged_code}
use Rattle.gen_rules.specs.Symbolic.{Operand, Nothing, Number, Constant, Local, Jump, Table, Class, Field, Method, Instr}
use Rattle.gen_rules.specs.Assembled.{distance, aimed_by, all_aimed, aimed, all_numbered}
use Rattle.gen_rules.specs.Linked.{linked_operand, linked_code, or_nothing}
use Rattle.gen_rules.proofs.Pool.{Grows, Is, IsPushed, IsClassNamed}
use Rattle.gen_rules.proofs.Found.{int_found, pushed_found, class_found, field_found, method_found}
use Rattle.gen_links.specs.Right.{IsFieldOpcode, IsMethodOpcode, IsRightWith, IsRight, AreRight, AssembledLinks}
use Rattle.gen_links.proofs.Starts.{jump_size, table_size, length-starts, reached}
use Rattle.gen_links.proofs.Numbers.{Numbers, AllNumbers, all_numbers-grown, all_numbered-gives, as_many}

-- arguments of an opcode are kept
allowed : (count op : ℕ) (args : Args) → fits_code count op args ≡ true →
    with_op count op (Ok args) ≡ Ok (record { op = op; args = args })
allowed count op args h = rw h refl

module _ (os : List Outline) (pool : List Const) (js : List file.Instr) (starts : List ℕ) (e : starts ≡ starts_from 0 js) (here : ℕ) where
  -- an instruction that stands here is judged to be the linked one
  abbrev JudgedAs : Operand → file.Instr → Type 0
  JudgedAs o j =
      judged_instr os pool starts here (aimed_by starts here o j)
      ≡ Ok (record { op = (aimed_by starts here o j).op; args = linked_operand os (aimed_by starts here o j).op o })

  within : (n : ℕ) → n < length starts → n < length js
  within n h = subst (λ k. n < k) (ap length e ∙ length-starts 0 js) h

  at_target : (n : ℕ) → n < length starts → started starts (pos here +ℤ distance starts here n) ≡ n
  at_target n h = reached starts js here n e (within n h)

  at_targets : (ns : List ℕ) → AllByRecursion (λ n. n < length starts) ns →
      map (λ d. started starts (pos here +ℤ d)) (map (distance starts here) ns) ≡ ns
  at_targets [] h = refl
  at_targets (n ∷ ns) h = ap₂ (λ x xs. x ∷ xs) (at_target n h.0) (at_targets ns h.1)

  int_judged : (k : ℕ) (n : ℤ) (near : Bool) → Is pool k (Integer n) →
      judged_instr os pool starts here (record { op = if near then 18 else 19; args = file.Pool k })
      ≡ Ok (record { op = if near then 18 else 19; args = machine.Int n })
  int_judged k n true h = ap (λ x. with_op (length starts) 18 (Ok (pushed_args x))) (int_found pool k n h)
  int_judged k n false h = ap (λ x. with_op (length starts) 19 (Ok (pushed_args x))) (int_found pool k n h)

  text_judged : (k : ℕ) (text : List ℕ) (near : Bool) → IsPushed pool k text →
      judged_instr os pool starts here (record { op = if near then 18 else 19; args = file.Pool k })
      ≡ Ok (record { op = if near then 18 else 19; args = machine.Text text })
  text_judged k text true h = ap (λ x. with_op (length starts) 18 (Ok (pushed_args x))) (pushed_found pool k text h)
  text_judged k text false h = ap (λ x. with_op (length starts) 19 (Ok (pushed_args x))) (pushed_found pool k text h)

  new_judged : (k c : ℕ) (name : List ℕ) → IsClassNamed pool k name → loaded os name ≡ Some c →
      judged_pool os pool 187 k ≡ Ok (machine.Class c)
  new_judged k c name h l =
      ap (λ x. judged_new (or_empty x) (loaded os (or_empty x))) (class_found pool k name h) ∙ ap (judged_new name) l

  field_pool : (op k : ℕ) → IsFieldOpcode op → judged_pool os pool op k ≡ judged_field_reference os op (field_at pool k)
  field_pool op k (inl h) = subst (λ x. judged_pool os pool x k ≡ judged_field_reference os x (field_at pool k)) (sym h) refl
  field_pool op k (inr (inl h)) = subst (λ x. judged_pool os pool x k ≡ judged_field_reference os x (field_at pool k)) (sym h) refl
  field_pool op k (inr (inr h)) = subst (λ x. judged_pool os pool x k ≡ judged_field_reference os x (field_at pool k)) (sym h) refl

  method_pool : (op k : ℕ) → IsMethodOpcode op → judged_pool os pool op k ≡ judged_method_reference os op (method_at pool k)
  method_pool op k (inl h) = subst (λ x. judged_pool os pool x k ≡ judged_method_reference os x (method_at pool k)) (sym h) refl
  method_pool op k (inr (inl h)) = subst (λ x. judged_pool os pool x k ≡ judged_method_reference os x (method_at pool k)) (sym h) refl
  method_pool op k (inr (inr h)) = subst (λ x. judged_pool os pool x k ≡ judged_method_reference os x (method_at pool k)) (sym h) refl

  abbrev Judged : (op : ℕ) → Result Args Flaw → Result machine.Instr Flaw
  Judged op r = with_op (length starts) op r

  -- an operand that was looked up is that which is expected
  looked_up : (op : ℕ) (x : Option Args) (args : Args) → x ≡ Some args → fits_code (length starts) op args ≡ true →
      Judged op (Ok args) ≡ Ok (record { op = op; args = or_nothing x })
  looked_up op x args h f = allowed (length starts) op args f ∙ ap (λ y. Ok (record { op = op; args = or_nothing y })) (sym h)

  is_judged : (op : ℕ) (o : Operand) (j : file.Instr) → IsRightWith os (length starts) op o → Numbers pool op o j → JudgedAs o j
  is_judged op Nothing j r n = subst (JudgedAs Nothing) (sym n) (allowed (length starts) op machine.Nothing r)
  is_judged op (Number z) j r n = subst (JudgedAs (Number z)) (sym n) (allowed (length starts) op (machine.Int z) r)
  is_judged op (Constant (Int z)) j r n = subst (JudgedAs (Constant (Int z))) (sym n.1) (int_judged n.0 z (nat_lt n.0 256) n.2)
  is_judged op (Constant (Letters text)) j r n =
      subst (JudgedAs (Constant (Letters text))) (sym n.1) (text_judged n.0 text (nat_lt n.0 256) n.2)
  is_judged op (Local k) j r n = subst (JudgedAs (Local k)) (sym n) (allowed (length starts) op (machine.Local k) r)
  is_judged op (Jump t) j r n = subst (JudgedAs (Jump t)) (sym n)
      (ap (λ x. Judged op (Ok (machine.Jump x))) (at_target t r.0) ∙ allowed (length starts) op (machine.Jump t) r.1)
  is_judged op (Table d ts) j r n = subst (JudgedAs (Table d ts)) (sym n)
      (ap₂ (λ x xs. Judged op (Ok (machine.Table x (pos 0) xs))) (at_target d r.0) (at_targets ts r.1)
      ∙ allowed (length starts) op (machine.Table d (pos 0) ts) r.2)
  is_judged op (Class name) j r n = subst (JudgedAs (Class name)) (sym n.1)
      (subst (λ x. Judged x (judged_pool os pool x n.0) ≡ Ok (record {
        op = x;
        args
            = or_nothing (args_by machine.Class (loaded os name));
      })) (sym r.0)
      (ap (Judged 187) (new_judged n.0 r.1 name n.2 r.2)
      ∙ ap (λ y. Ok (record { op = 187; args = or_nothing (args_by machine.Class y) })) (sym r.2)))
  is_judged op (Field m) j r n = subst (JudgedAs (Field m)) (sym n.1)
      (ap (Judged op) (field_pool op n.0 r.0 ∙ ap (judged_field_reference os op)
      (field_found pool n.0 m.class m.member.name m.member.descriptor n.2) ∙ (r.1).judged)
      ∙ looked_up op (member_args os op m) (r.1).args (r.1).found (r.1).fits)
  is_judged op (Method m) j r n = subst (JudgedAs (Method m)) (sym n.1)
      (ap (Judged op) (method_pool op n.0 r.0 ∙ ap (judged_method_reference os op)
      (method_found pool n.0 m.class m.member.name m.member.descriptor n.2) ∙ (r.1).judged)
      ∙ looked_up op (member_args os op m) (r.1).args (r.1).found (r.1).fits)

-- distances change no size
pub aimed_size : (pool : List Const) (starts : List ℕ) (here op : ℕ) (o : Operand) (j : file.Instr) → Numbers pool op o j →
    length (instr_bytes here (aimed_by starts here o j)) ≡ length (instr_bytes here j)
aimed_size pool starts here op Nothing j n = refl
aimed_size pool starts here op (Number z) j n = refl
aimed_size pool starts here op (Constant c) j n = refl
aimed_size pool starts here op (Local k) j n = refl
aimed_size pool starts here op (Jump t) j n =
    subst (λ x. length (instr_bytes here (aimed_by starts here (Jump t) x)) ≡ length (instr_bytes here x)) (sym n)
    (jump_size here op (distance starts here t) (pos 0))
aimed_size pool starts here op (Table d ts) j n =
    subst (λ x. length (instr_bytes here (aimed_by starts here (Table d ts) x)) ≡ length (instr_bytes here x)) (sym n)
    (table_size here op (distance starts here d) (pos 0) (pos 0) (map (distance starts here) ts) (map (λ t. pos 0) ts)
    (length-map ts (distance starts here) ∙ sym (length-map ts (λ t. pos 0))))
aimed_size pool starts here op (Class name) j n = refl
aimed_size pool starts here op (Field m) j n = refl
aimed_size pool starts here op (Method m) j n = refl

module _ (pool : List Const) (starts : List ℕ) where
  pub starts_aimed : (here : ℕ) (is : List Instr) (js : List file.Instr) → AllNumbers pool is js →
      starts_from here (all_aimed starts (starts_from here js) is js) ≡ starts_from here js
  unfolding starts_from
  starts_aimed here [] [] h = refl
  starts_aimed here [] (j ∷ js) h = absurd h
  starts_aimed here (i ∷ is) [] h = absurd h
  starts_aimed here (i ∷ is) (j ∷ js) h =
      let next = here + length (instr_bytes here j) in
      let same : here + length (instr_bytes here (aimed_by starts here i.operand j)) ≡ next
      = ap (λ n. here + n) (aimed_size pool starts here i.op i.operand j h.0) in
      ap (λ ss. here ∷ ss) (ap (λ n. starts_from n (all_aimed starts (starts_from next js) is js)) same ∙ starts_aimed next is js h.1)

module _ (os : List Outline) (pool : List Const) (whole : List file.Instr) (starts : List ℕ) (e : starts ≡ starts_from 0 whole) where
  rest_judged : (here : ℕ) (is : List Instr) (js : List file.Instr) → AllNumbers pool is js →
      AllByRecursion (IsRight os (length starts)) is →
      judged_from os pool starts here (all_aimed starts (starts_from here js) is js)
      ≡ map Ok (linked_code os is (all_aimed starts (starts_from here js) is js))
  unfolding starts_from
  rest_judged here [] [] h r = refl
  rest_judged here [] (j ∷ js) h r = absurd h
  rest_judged here (i ∷ is) [] h r = absurd h
  rest_judged here (i ∷ is) (j ∷ js) h r =
      let next = here + length (instr_bytes here j) in
      let same : here + length (instr_bytes here (aimed_by starts here i.operand j)) ≡ next
      = ap (λ n. here + n) (aimed_size pool starts here i.op i.operand j h.0) in
      ap₂ (λ x xs. x ∷ xs) (is_judged os pool whole starts e here i.op i.operand j r.0 h.0)
      (ap (λ n. judged_from os pool starts n (all_aimed starts (starts_from next js) is js)) same ∙ rest_judged next is js h.1 r.1)

pub code_judged : (os : List Outline) (pool : List Const) (is : List Instr) (js : List file.Instr) → AllNumbers pool is js →
    AreRight os is →
    judged_code os pool (aimed is js) ≡ map Ok (linked_code os is (aimed is js))
code_judged os pool is js n r =
    let starts = starts_from 0 js in
    let count : length is ≡ length starts = sym (length-starts 0 js ∙ as_many pool is js n) in
    ap (λ ss. judged_from os pool ss 0 (aimed is js)) (starts_aimed pool starts 0 is js n)
    ∙ rest_judged os pool js starts refl 0 is js n (subst (λ k. AllByRecursion (IsRight os k) is) count r)

pub assembled_links : AssembledLinks
assembled_links = record {
  links = λ os is pool more r.
      let made = all_numbered-gives is pool in
      let left = (all_numbered is pool).1 in
      let g : Grows left (left ++ more) = record { more = more; is = refl } in
      code_judged os (left ++ more) is (all_numbered is pool).0 (all_numbers-grown g is (all_numbered is pool).0 made.holds) r;
}
